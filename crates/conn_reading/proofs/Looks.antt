-- What processes ask: rows only after an item, and once; and those of the transaction manager texts alone.
use Rattle.std.proofs.Common.{◌≡◌, ℕ, Bool, true, false, List, [], ◌∷◌, Option, Some, None, Ok, Err, inl, inr, sym, subst}
use Rattle.std.specs.Prelude.{⊤, nat_lt, if◌then◌else◌}
use Rattle.conn_result.specs.declared.error.Error.{Error}
use Rattle.conn_model.specs.Nuls.{nul_fault}
use Rattle.conn_model.specs.Process.{Process, Stop, Ask, Look, Tell, Heard, given_rows, map_process, plain_heard}
use Rattle.conn_model.specs.States.{State, told_of}
use Rattle.conn_model.specs.declared.item.Call.{Call}
use Rattle.conn_model.specs.declared.item.Call.TheVariants.{Fetch}
use Rattle.conn_model.specs.declared.item.Dialect.{Dialect}
use Rattle.conn_model.specs.declared.item.Item.{Item}
use Rattle.conn_manager.specs.Manages.{Reply, begin_process, begin_in, begin_sql_in, begin_sql_process, begun, with_test_mark, begin_test_in, begin_test_process, commit_process, commit_in, rollback_process, rollback_in, committed, uncommitted, uncommitted_in, rolls_back, try_text, done}
use Rattle.conn_manager.specs.Statuses.{Status, retold, reply_of}
use Rattle.conn_manager.specs.Transactions.{form_errors}
use Rattle.conn_manager.specs.declared.rollback_errors.RollbackErrors.{RollbackErrors}
use Rattle.conn_manager.specs.declared.rollback_errors.RollbackErrors.TheVariants.{AllButBroken}
use Rattle.conn_manager.specs.declared.status.InTransactionStatus.{InTransactionStatus}
use Rattle.conn_manager.specs.declared.status.TransactionManagerStatus.TheVariants.{Valid, InError}
use Rattle.conn_script.specs.declared.command.BlockKind.{BlockKind}
use Rattle.conn_script.specs.declared.command.BlockKind.TheVariants.{Plain, Test, Form}
use Rattle.conn_reading.specs.Asking.{rollback_answer, with_answer, close_process, keep_process}
use Rattle.conn_reading.specs.Owning.{IsText}
use Rattle.conn_reading.specs.Reading.{Reads, heard_with}
use Rattle.conn_reading.specs.Sessions.{Each}

-- rows are asked only where an item was asked just before
abbrev pub LooksWell : {A : Type 0} → Bool → Process A → Type 0
LooksWell b (Stop x) = ⊤
LooksWell b (Tell event p) = LooksWell b p
LooksWell b (Ask call text next) = (h : Heard) → LooksWell true (next h)
LooksWell b (Look text next) = (b ≡ true) × ((h : Heard) → LooksWell false (next h))

module _ (P : Call → List ℕ → Type 0) where
  -- each call that is asked is so, and rows are asked only where an item was asked just before
  abbrev pub AsksSo : {A : Type 0} → Bool → Process A → Type 0
  AsksSo b (Stop x) = ⊤
  AsksSo b (Tell event p) = AsksSo b p
  AsksSo b (Ask call text next) = P call text × ((h : Heard) → AsksSo true (next h))
  AsksSo b (Look text next) = (b ≡ true) × P Fetch [] × ((h : Heard) → AsksSo false (next h))

  pub so_looks : {A : Type 0} (b : Bool) (p : Process A) → AsksSo b p → LooksWell b p
  so_looks b (Stop x) w = tt
  so_looks b (Tell event p) w = so_looks b p w
  so_looks b (Ask call text next) w = λ h. so_looks true (next h) (w.1 h)
  so_looks b (Look text next) w = (w.0, λ h. so_looks false (next h) (w.2 h))

  pub so_map : {A B : Type 0} (f : A → B) (b : Bool) (p : Process A) → AsksSo b p → AsksSo b (map_process f p)
  so_map f b (Stop x) w = tt
  so_map f b (Tell event p) w = so_map f b p w
  so_map f b (Ask call text next) w = (w.0, λ h. so_map f true (next h) (w.1 h))
  so_map f b (Look text next) w = (w.0, w.1, λ h. so_map f false (next h) (w.2 h))

  -- so are the items that are read
  pub reads_so : {A : Type 0} (b : Bool) (d : Dialect) (s : State) (p : Process A) (items : List Item) (a : A) (end : State) → AsksSo b p → Reads d s p items a end → Each (λ (i : Item). P i.call i.text) items
  reads_so b d s (Stop x) [] a end w reads = tt
  reads_so b d s (Stop x) (i ∷ is) a end w reads = absurd reads
  reads_so b d s (Tell event p) items a end w reads = reads_so b d s p items a end w reads
  reads_so b d s (Ask call text next) [] a end w reads = absurd reads
  reads_so b d s (Ask call text next) (i ∷ is) a end w reads = (
    subst (λ (c : Call). P c i.text) (sym reads.0) (subst (λ (t : List ℕ). P call t) (sym reads.1) w.0),
    reads_so true d reads.2.0 (next (heard_with d reads.2.0 i.answer reads.2.2.0)) is a end (w.1 (heard_with d reads.2.0 i.answer reads.2.2.0)) reads.2.2.1,
  )
  reads_so b d s (Look text next) [] a end w reads = tt
  reads_so b d s (Look text next) (i ∷ is) a end w (inl reads) = reads_so false d s (next (given_rows reads.0)) (i ∷ is) a end (w.2 (given_rows reads.0)) reads.1
  reads_so b d s (Look text next) (i ∷ is) a end w (inr reads) = (
    subst (λ (x : Item). P x.call x.text) (sym reads.2) w.1,
    reads_so false d reads.3.0 (next (plain_heard (Some reads.0) (told_of d reads.3.0))) is a end (w.2 (plain_heard (Some reads.0) (told_of d reads.3.0))) reads.3.2,
  )

-- no call prepares or runs, and no rows are asked
abbrev pub Texts : {A : Type 0} → Bool → Process A → Type 0
Texts b p = AsksSo (λ call text. IsText call) b p

pub texts_map : {A B : Type 0} (f : A → B) (b : Bool) (p : Process A) → Texts b p → Texts b (map_process f p)
texts_map f b p w = so_map (λ call text. IsText call) f b p w

-- either of two
either : {A : Type 0} (b c : Bool) (p q : Process A) → Texts b p → Texts b q → Texts b (if c then p else q)
either b true p q h k = h
either b false p q h k = k

-- ---- the transaction manager

begin_texts : (d : Dialect) (s : Status) (o : Option InTransactionStatus) → Texts false (begin_in d s o)
begin_texts d s None = (tt, λ h. tt)
begin_texts d s (Some t) = either false (nat_lt t.transaction_depth 4294967295) _ _ (tt, λ h. tt) tt

rollback_texts : (d : Dialect) (s : Status) (o : Option InTransactionStatus) → Texts false (rollback_in d s o)
rollback_texts d s None = tt
rollback_texts d s (Some t) = (tt, λ h. tt)

uncommitted_in_texts : (d : Dialect) (depth : ℕ) (e : Error) (s : Status) (o : Option InTransactionStatus) → Texts true (uncommitted_in d depth e s o)
uncommitted_in_texts d depth e s None = tt
uncommitted_in_texts d depth e s (Some t) = either true (rolls_back depth t) _ _ (tt, λ h. tt) tt

uncommitted_texts : (d : Dialect) (depth : ℕ) (e : Error) (s : Status) → Texts true (uncommitted d depth e s)
uncommitted_texts d depth e (Valid v) = uncommitted_in_texts d depth e (Valid v) v.in_transaction
uncommitted_texts d depth e InError = tt

committed_texts : (d : Dialect) (depth : ℕ) (r : Reply) (s : Status) → Texts true (committed d depth r s)
committed_texts d depth (Ok u) s = tt
committed_texts d depth (Err e) s = uncommitted_texts d depth e s

commit_texts : (d : Dialect) (s : Status) (o : Option InTransactionStatus) → Texts false (commit_in d s o)
commit_texts d s None = tt
commit_texts d s (Some t) = (tt, λ h. committed_texts d t.transaction_depth (reply_of h.refusal) (retold d h.refusal h.told s))

pub begins_text : (d : Dialect) (s : Status) → Texts false (begin_process d s)
begins_text d (Valid v) = begin_texts d (Valid v) v.in_transaction
begins_text d InError = tt

begin_by_texts : (d : Dialect) (text : List ℕ) (place : Option ℕ) (s : Status) → Texts false (try_text place d text s (λ r s1. Stop (begun r s1)))
begin_by_texts d text None s = (tt, λ h. tt)
begin_by_texts d text (Some place) s = tt

begin_sql_texts : (d : Dialect) (text : List ℕ) (s : Status) (o : Option InTransactionStatus) → Texts false (begin_sql_in d text s o)
begin_sql_texts d text s None = begin_by_texts d text (nul_fault d text) s
begin_sql_texts d text s (Some t) = tt

pub begins_by_text : (d : Dialect) (text : List ℕ) (s : Status) → Texts false (begin_sql_process d text s)
begins_by_text d text (Valid v) = begin_sql_texts d text (Valid v) v.in_transaction
begins_by_text d text InError = tt

pub commits_text : (d : Dialect) (s : Status) → Texts false (commit_process d s)
commits_text d (Valid v) = commit_texts d (Valid v) v.in_transaction
commits_text d InError = tt

pub rollbacks_text : (d : Dialect) (s : Status) → Texts false (rollback_process d s)
rollbacks_text d (Valid v) = rollback_texts d (Valid v) v.in_transaction
rollbacks_text d InError = tt

begin_test_texts : (d : Dialect) (s : Status) (o : Option InTransactionStatus) → Texts false (begin_test_in d s o)
begin_test_texts d s None = texts_map with_test_mark false (begin_in d s None) (begin_texts d s None)
begin_test_texts d s (Some t) = tt

pub test_begins_text : (d : Dialect) (s : Status) → Texts false (begin_test_process d s)
test_begins_text d (Valid v) = begin_test_texts d (Valid v) v.in_transaction
test_begins_text d InError = tt

keeps_text : (errors : RollbackErrors) (answer : Reply) (d : Dialect) (s : Status) → Texts false (keep_process errors answer d s)
keeps_text errors (Ok u) d s = commits_text d s
keeps_text errors (Err e) d s = texts_map (with_answer (rollback_answer errors e)) false (rollback_process d s) (rollbacks_text d s)

pub closings_text : (kind : BlockKind) (answer : Reply) (d : Dialect) (s : Status) → Texts false (close_process kind answer d s)
closings_text Plain answer d s = keeps_text AllButBroken answer d s
closings_text (Form form) answer d s = keeps_text (form_errors form) answer d s
closings_text Test answer d s = texts_map (with_answer (λ _. answer)) false (rollback_process d s) (rollbacks_text d s)

-- ---- a text

pub text_asks : (d : Dialect) (text : List ℕ) (place : Option ℕ) (s : Status) → Texts false (try_text place d text s (λ r s1. Stop (done r s1)))
text_asks d text None s = (tt, λ h. tt)
text_asks d text (Some place) s = tt
