-- How a connection that was just opened sets itself up: its texts ask nothing of a transaction, it looks at no rows, and once
-- they are accepted no depth is tracked and no transaction is open.
use Rattle.std.proofs.Common.{◌≡◌, ℕ, Bool, true, false, List, [], ◌∷◌, refl, sym, ap, subst, ◌∙◌, Option, Some, None, Ok, Err}
use Rattle.conn_result.specs.declared.error.Error.{Error}
use Rattle.conn_result.specs.declared.error.Error.TheVariants.{DatabaseError}
use Rattle.conn_model.specs.Classes.{class, is_begin, is_built, is_write, same_text, begins, number_behind}
use Rattle.conn_model.specs.Process.{Process, Stop, refusal_of}
use Rattle.conn_model.specs.States.{State, Idle, step_by, told_of, idle_accepts}
use Rattle.conn_model.specs.declared.class.Class.TheVariants as of
use Rattle.conn_model.specs.declared.item.Answer.{Answer}
use Rattle.conn_model.specs.declared.item.Answer.TheVariants.{Accepted, Refused}
use Rattle.conn_model.specs.declared.item.Call.{Call}
use Rattle.conn_model.specs.declared.item.Call.TheVariants.{Prepare, Run}
use Rattle.conn_model.specs.declared.item.Dialect.{Dialect}
use Rattle.conn_model.specs.declared.item.Dialect.TheVariants.{Pg, Mysql, Sqlite}
use Rattle.conn_model.specs.declared.item.Item.{Item}
use Rattle.conn_model.specs.declared.item.Refusal.{Refusal}
use Rattle.conn_manager.specs.Manages.{Done, Reply, ask, done}
use Rattle.conn_manager.specs.Setups.{setup_texts, run_text, run_ready, execute_text, unless_refused, execute_texts, setup_process}
use Rattle.conn_manager.specs.Statuses.{Status, no_depth, retold, reply_of}
use Rattle.conn_reading.specs.Histories.{left_status, Setup, IsOperation}
use Rattle.conn_reading.specs.Owning.{names_of}
use Rattle.conn_reading.specs.Plainly.{Plainly}
use Rattle.conn_reading.specs.Reading.{Reads}
use Rattle.conn_reading.specs.Sessions.{Each}
use Rattle.conn_reading.specs.Verdicts.{is_plain}
use Rattle.conn_reading.proofs.Looks.{AsksSo, LooksWell, reads_so, so_looks}
use Rattle.conn_reading.proofs.Rising.{IsUnnamed, unnamed}

-- ---- its texts

-- a text of no transaction, which writes nothing
abbrev IsOther : List ℕ → Type 0
IsOther text = class text ≡ of.Other

texts_other : (d : Dialect) → Each IsOther (setup_texts d)
unfolding class is_begin is_built is_write same_text begins number_behind
texts_other Pg = (refl, (refl, tt))
texts_other Mysql = (refl, (refl, (refl, (refl, tt))))
texts_other Sqlite = tt

-- ---- it sends plain texts, and its status follows what is told

module _ (d : Dialect) where
  abbrev IsPlain : Status → Process Done → Type 0
  IsPlain S p = Plainly d left_status S p

  -- what follows a text, whether that was refused or not
  abbrev GoesOnPlain : (Reply → Status → Process Done) → Type 0
  GoesOnPlain next = (r : Option Refusal) (S : Status) → IsPlain S (next (reply_of r) S)

  unless_plain : (r : Option Refusal) (S : Status) (p : Process Done) → IsPlain S p → IsPlain S (unless_refused (reply_of r) S p)
  unless_plain None S p h = h
  unless_plain (Some r) S p h = refl

  run_plain : (text : List ℕ) (S : Status) (next : Reply → Status → Process Done) → is_plain (class text) ≡ true → GoesOnPlain next → IsPlain S (run_text d text S next)
  run_plain text S next plain h = (plain, λ g. h g.refusal (retold d g.refusal g.told S))

  ready_plain : (text : List ℕ) (r : Option Refusal) (S : Status) (next : Reply → Status → Process Done) → is_plain (class text) ≡ true → GoesOnPlain next → IsPlain S (run_ready d text r S next)
  ready_plain text None S next plain h = run_plain text S next plain h
  ready_plain text (Some r) S next plain h = h (Some r) S

execute_plain : (d : Dialect) (text : List ℕ) (S : Status) (next : Reply → Status → Process Done) → is_plain (class text) ≡ true → GoesOnPlain d next → IsPlain d S (execute_text d text S next)
execute_plain Pg text S next plain h = run_plain Pg text S next plain h
execute_plain Mysql text S next plain h = (plain, λ g. ready_plain Mysql text g.refusal (retold Mysql g.refusal g.told S) next plain h)
execute_plain Sqlite text S next plain h = (plain, λ g. ready_plain Sqlite text g.refusal (retold Sqlite g.refusal g.told S) next plain h)

texts_plain : (d : Dialect) (texts : List (List ℕ)) (S : Status) → Each IsOther texts → IsPlain d S (execute_texts d texts S)
texts_plain d [] S h = refl
texts_plain d (text ∷ texts) S h = execute_plain d text S (λ r s1. unless_refused r s1 (execute_texts d texts s1)) (ap is_plain h.0) (λ r s1. unless_plain d r s1 (execute_texts d texts s1) (texts_plain d texts s1 h.1))

-- so it is a call of a history
pub set_up_is : IsOperation Setup
set_up_is d S = texts_plain d (setup_texts d) S (texts_other d)

-- ---- it looks at no rows, and gives no name

abbrev Unnamed : Bool → Process Done → Type 0
Unnamed b p = AsksSo (λ call text. IsUnnamed call) b p

-- what follows a text
abbrev GoesOnUnnamed : (Reply → Status → Process Done) → Type 0
GoesOnUnnamed next = (r : Reply) (s1 : Status) → Unnamed true (next r s1)

run_unnamed : (b : Bool) (d : Dialect) (text : List ℕ) (S : Status) (next : Reply → Status → Process Done) → GoesOnUnnamed next → Unnamed b (run_text d text S next)
run_unnamed b d text S next h = (refl, λ g. h (reply_of g.refusal) (retold d g.refusal g.told S))

ready_unnamed : (d : Dialect) (text : List ℕ) (r : Option Refusal) (S : Status) (next : Reply → Status → Process Done) → GoesOnUnnamed next → Unnamed true (run_ready d text r S next)
ready_unnamed d text None S next h = run_unnamed true d text S next h
ready_unnamed d text (Some r) S next h = h (reply_of (Some r)) S

execute_unnamed : (b : Bool) (d : Dialect) (text : List ℕ) (S : Status) (next : Reply → Status → Process Done) → GoesOnUnnamed next → Unnamed b (execute_text d text S next)
execute_unnamed b Pg text S next h = run_unnamed b Pg text S next h
execute_unnamed b Mysql text S next h = (refl, λ g. ready_unnamed Mysql text g.refusal (retold Mysql g.refusal g.told S) next h)
execute_unnamed b Sqlite text S next h = (refl, λ g. ready_unnamed Sqlite text g.refusal (retold Sqlite g.refusal g.told S) next h)

unless_unnamed : (r : Reply) (S : Status) (p : Process Done) → Unnamed true p → Unnamed true (unless_refused r S p)
unless_unnamed (Ok u) S p h = h
unless_unnamed (Err e) S p h = tt

texts_unnamed : (b : Bool) (d : Dialect) (texts : List (List ℕ)) (S : Status) → Unnamed b (execute_texts d texts S)
texts_unnamed b d [] S = tt
texts_unnamed b d (text ∷ texts) S = execute_unnamed b d text S (λ r s1. unless_refused r s1 (execute_texts d texts s1)) (λ r s1. unless_unnamed r s1 (execute_texts d texts s1) (texts_unnamed true d texts s1))

pub setup_looks : (d : Dialect) (S : Status) → LooksWell false (setup_process d S)
setup_looks d S = so_looks (λ call text. IsUnnamed call) false (setup_process d S) (texts_unnamed false d (setup_texts d) S)

pub setup_unnamed : (d : Dialect) (S : Status) (s : State) (items : List Item) (a : Done) (end : State) → Reads d s (setup_process d S) items a end → names_of items ≡ []
setup_unnamed d S s items a end reads = unnamed items (reads_so (λ call text. IsUnnamed call) false d s (setup_process d S) items a end (texts_unnamed false d (setup_texts d) S) reads)

-- ---- where it is accepted

-- an idle server tells of no depth
heard_idle : (d : Dialect) (w : List (List ℕ)) → retold d None (told_of d (Idle w)) no_depth ≡ no_depth
heard_idle Pg w = refl
heard_idle Mysql w = refl
heard_idle Sqlite w = refl

-- an answer of Ok comes without a depth, and from an idle server
abbrev LeavesIdle : List (List ℕ) → Done → State → Type 0
LeavesIdle w a end = a.reply ≡ Ok tt → (a.status ≡ no_depth) × (end ≡ Idle w)

-- what follows an ask: where it was accepted the server is as it was
record GoesOnIdle (d : Dialect) (w : List (List ℕ)) (next : Option Refusal → Status → Process Done) (a : Done) (end : State) : Type 0 where
  pub accepted : (items : List Item) → Reads d (Idle w) (next None no_depth) items a end → LeavesIdle w a end
  pub refused : (r : Refusal) (S : Status) (s : State) (items : List Item) → Reads d s (next (Some r) S) items a end → LeavesIdle w a end

module _ (d : Dialect) (w : List (List ℕ)) (a : Done) (end : State) where
  -- by the answer to a call that an idle server accepts as it is
  ask_answered : (call : Call) (text : List ℕ) (next : Option Refusal → Status → Process Done) → step_by d (Idle w) call text Accepted ≡ Some (Idle w) → GoesOnIdle d w next a end → (answer : Answer) (after : State) (items : List Item)
      → step_by d (Idle w) call text answer ≡ Some after → Reads d after (next (refusal_of answer) (retold d (refusal_of answer) (told_of d after) no_depth)) items a end → LeavesIdle w a end
  ask_answered call text next stays h (Refused r e) after items is reads = h.refused r (retold d (Some r) (told_of d after) no_depth) after items reads
  ask_answered call text next stays h Accepted after items is reads =
      let same : after ≡ Idle w = cc (sym is ∙ stays) in
      let here : Reads d (Idle w) (next None (retold d None (told_of d (Idle w)) no_depth)) items a end = subst (λ (s : State). Reads d s (next None (retold d None (told_of d s) no_depth)) items a end) same reads in
      h.accepted items (subst (λ (S : Status). Reads d (Idle w) (next None S) items a end) (heard_idle d w) here)

  ask_idle : (call : Call) (text : List ℕ) (next : Option Refusal → Status → Process Done) → step_by d (Idle w) call text Accepted ≡ Some (Idle w) → GoesOnIdle d w next a end → (items : List Item)
      → Reads d (Idle w) (ask d call text no_depth (λ h s1. next h.refusal s1)) items a end → LeavesIdle w a end
  ask_idle call text next stays h [] reads = absurd reads
  ask_idle call text next stays h (i ∷ is) reads = ask_answered call text next stays h i.answer reads.2.0 is (asked i.call i.text reads.0 reads.1 reads.2.1) reads.2.2.1
    where
      asked : (c : Call) (t : List ℕ) → c ≡ call → t ≡ text → step_by d (Idle w) c t i.answer ≡ Some reads.2.0 → step_by d (Idle w) call text i.answer ≡ Some reads.2.0
      asked c t e f g = rw (e, f) at g

  run_idle : (text : List ℕ) (next : Reply → Status → Process Done) → IsOther text → GoesOnIdle d w (λ r s1. next (reply_of r) s1) a end → (items : List Item) → Reads d (Idle w) (run_text d text no_depth next) items a end → LeavesIdle w a end
  run_idle text next other h items reads = ask_idle (Run []) text (λ r s1. next (reply_of r) s1) (ap (idle_accepts d w text) other) h items reads

  prepared_idle : (text : List ℕ) (next : Reply → Status → Process Done) → IsOther text → GoesOnIdle d w (λ r s1. next (reply_of r) s1) a end → (items : List Item)
      → Reads d (Idle w) (ask d (Prepare None) text no_depth (λ h s1. run_ready d text h.refusal s1 next)) items a end → LeavesIdle w a end
  prepared_idle text next other h items reads = ask_idle (Prepare None) text (λ r s1. run_ready d text r s1 next) refl (record { accepted = run_idle text next other h; refused = h.refused }) items reads

execute_idle : (d : Dialect) (w : List (List ℕ)) (a : Done) (end : State) (text : List ℕ) (next : Reply → Status → Process Done) → IsOther text → GoesOnIdle d w (λ r s1. next (reply_of r) s1) a end → (items : List Item)
    → Reads d (Idle w) (execute_text d text no_depth next) items a end → LeavesIdle w a end
execute_idle Pg w a end text next other h items reads = run_idle Pg w a end text next other h items reads
execute_idle Mysql w a end text next other h items reads = prepared_idle Mysql w a end text next other h items reads
execute_idle Sqlite w a end text next other h items reads = prepared_idle Sqlite w a end text next other h items reads

-- an error is no Ok
error_leaves : (d : Dialect) (w : List (List ℕ)) (a : Done) (s end : State) (e : Error) (S : Status) (items : List Item) → Reads d s (Stop (done (Err e) S)) items a end → LeavesIdle w a end
error_leaves d w a s end e S [] reads ok = let same : a.reply ≡ Err e = ap (λ (x : Done). x.reply) reads.0 in absurd (cc)
error_leaves d w a s end e S (i ∷ is) reads ok = absurd reads

texts_idle : (d : Dialect) (w : List (List ℕ)) (a : Done) (end : State) (texts : List (List ℕ)) → Each IsOther texts → (items : List Item) → Reads d (Idle w) (execute_texts d texts no_depth) items a end → LeavesIdle w a end
texts_idle d w a end [] h [] reads ok = (ap (λ (x : Done). x.status) reads.0, reads.1)
texts_idle d w a end [] h (i ∷ is) reads ok = absurd reads
texts_idle d w a end (text ∷ texts) h items reads ok =
    execute_idle d w a end text (λ r s1. unless_refused r s1 (execute_texts d texts s1)) h.0 (record {
      accepted = texts_idle d w a end texts h.1;
      refused = λ r S s more rest. error_leaves d w a s end (DatabaseError r.kind r.code) S more rest;
    }) items reads ok

-- a setup that a new server accepted leaves no depth, and its server idle and without a write
pub accepted_setup : (d : Dialect) (items : List Item) (a : Done) (end : State) → Reads d (Idle []) (setup_process d no_depth) items a end → a.reply ≡ Ok tt → (a.status ≡ no_depth) × (end ≡ Idle [])
accepted_setup d items a end reads ok = texts_idle d [] a end (setup_texts d) (texts_other d) items reads ok
