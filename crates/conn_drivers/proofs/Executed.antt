-- Texts that are executed one after another.
use Rattle.std.proofs.Common.{◌≡◌, ℕ, ◌+◌, ◌≤◌, arith, Bool, List, [], ◌∷◌, refl, ap, sym, ◌∙◌, subst, Option, Some, None, Result, Ok, Err, length}
use Rattle.std.specs.Option.{unwrap_or}
use Rattle.conn_result.specs.declared.error.Error.{Error}
use Rattle.conn_model.specs.Acts.{Acts, IsSameServer}
use Rattle.conn_model.specs.Process.{Process}
use Rattle.conn_model.specs.Statements.{closes, text_of, without_open}
use Rattle.conn_model.specs.Seen.{Seen, Opened}
use Rattle.conn_model.specs.declared.item.Call.TheVariants.{Prepare, Run}
use Rattle.conn_model.specs.declared.item.Dialect.{Dialect}
use Rattle.conn_model.specs.declared.item.Dialect.TheVariants.{Pg, Mysql, Sqlite}
use Rattle.conn_model.specs.declared.item.Refusal.{Refusal}
use Rattle.conn_model.specs.declared.reply.RunSource.TheVariants.{Prepared}
use Rattle.conn_model.proofs.Goes.{stops, IsSameServer-trans}
use Rattle.conn_manager.specs.Manages.{Done, Reply, HasServerCause, done}
use Rattle.conn_manager.specs.Setups.{execute_text, execute_texts, run_ready, run_text, unless_refused}
use Rattle.conn_manager.specs.Statuses.{Status, reply_of}
use Rattle.conn_drivers.specs.Wires.{Asks, Executes, Hears, OpensIf, OpensStatement, prepare_text}
use Rattle.conn_cache.specs.QueryProcesses.{without_value}
use Rattle.conn_drivers.proofs.Heard.{heard_then, replied_then}

-- PostgreSQL ran a text
pub ran_at_once : (honest : Bool) (text words : List ℕ) (old new : Seen) (s s1 : Status) (r : Reply) → old.dialect ≡ Pg → words ≡ text → Hears honest (Run []) words old new s s1 r → (next : Reply → Status → Process Done) (last : Seen) (a : Done) → Acts honest (next r s1) new last a
    → Acts honest (execute_text old.dialect text s next) old last a
ran_at_once honest text words old new s s1 r is same h next last a rest =
    subst (λ (d : Dialect). Acts honest (execute_text d text s next) old last a) (sym is)
    (subst (λ (w : List ℕ). Acts honest (run_text Pg w s next) old last a) same
    (subst (λ (d : Dialect). Acts honest (run_text d words s next) old last a) is
    (replied_then honest (Run []) words old new s s1 r h next last a rest)))

-- MySQL and SQLite prepare it first
pub prepares_first : (honest : Bool) (d : Dialect) (text : List ℕ) (s : Status) (next : Reply → Status → Process Done) (old last : Seen) (a : Done) → (d ≡ Pg → ⊥) → Acts honest (prepare_text d text s next) old last a → Acts honest (execute_text d text s next) old last a
prepares_first honest Pg text s next old last a other acts = absurd (other refl)
prepares_first honest Mysql text s next old last a other acts = acts
prepares_first honest Sqlite text s next old last a other acts = acts

refused_ready : (d : Dialect) (text : List ℕ) (refusal : Option Refusal) (s : Status) (next : Reply → Status → Process Done) (e : Error) → Err e ≡ reply_of refusal → next (Err e) s ≡ run_ready d text refusal s next
refused_ready d text None s next e h = absurd (cc)
refused_ready d text (Some r) s next e h = ap (λ (x : Reply). next x s) h

accepted_ready : (d : Dialect) (text : List ℕ) (refusal : Option Refusal) (s : Status) (next : Reply → Status → Process Done) → Ok tt ≡ reply_of refusal → run_text d text s next ≡ run_ready d text refusal s next
accepted_ready d text None s next h = refl
accepted_ready d text (Some r) s next h = absurd (cc)

-- a refused prepare is the answer
pub refused_first : (honest : Bool) (text : List ℕ) (old new : Seen) (s s1 : Status) (e : Error) → Hears honest (Prepare None) text old new s s1 (Err e) → (next : Reply → Status → Process Done) (last : Seen) (a : Done) → Acts honest (next (Err e) s1) new last a
    → Acts honest (prepare_text old.dialect text s next) old last a
refused_first honest text old new s s1 e h next last a rest =
    heard_then honest (Prepare None) text old new s s1 (Err e) h (λ x s2. run_ready old.dialect text x.refusal s2 next) last a
    (subst (λ (p : Process Done). Acts honest p new last a) (refused_ready old.dialect text h.heard.refusal s1 next e h.replies) rest)

-- a statement that was closed
closed_before : {A : Type 0} (honest : Bool) (p : Process A) (statement : ℕ) (old new : Seen) (a : A) → Acts honest p (closes statement old) new a → Acts honest p old new a
closed_before honest p statement old new a acts = record {
  sent = acts.sent;
  follows = acts.follows;
  log = acts.log;
  items = acts.items;
  told = acts.told;
  tells = acts.tells;
  later = acts.later;
  counted = acts.counted;
  same = record { dialect = acts.same.dialect; number = acts.same.number; armed = acts.same.armed; quiet = acts.same.quiet; orders = acts.same.orders };
}

-- what was prepared was run, and then closed
pub ran_prepared : (honest : Bool) (text words : List ℕ) (statement : ℕ) (old mid new shut : Seen) (s s1 s2 : Status) (r : Reply) → Hears honest (Prepare None) text old mid s s1 (Ok tt) → words ≡ text → Hears honest (Run []) words mid new s1 s2 r → shut ≡ closes statement new
    → (next : Reply → Status → Process Done) (last : Seen) (a : Done) → Acts honest (next r s2) shut last a → Acts honest (prepare_text old.dialect text s next) old last a
ran_prepared honest text words statement old mid new shut s s1 s2 r prepared same ran is_shut next last a rest =
    let here : Acts honest (next r s2) new last a = closed_before honest (next r s2) statement new last a (subst (λ (x : Seen). Acts honest (next r s2) x last a) is_shut rest) in
    let run : Acts honest (run_text mid.dialect words s1 next) mid last a = replied_then honest (Run []) words mid new s1 s2 r ran next last a here in
    let moved : Acts honest (run_text old.dialect text s1 next) mid last a =
    subst (λ (w : List ℕ). Acts honest (run_text old.dialect w s1 next) mid last a) same (subst (λ (d : Dialect). Acts honest (run_text d words s1 next) mid last a) prepared.acts.same.dialect run) in
    heard_then honest (Prepare None) text old mid s s1 (Ok tt) prepared (λ x s3. run_ready old.dialect text x.refusal s3 next) last a
    (subst (λ (p : Process Done). Acts honest p mid last a) (accepted_ready old.dialect text prepared.heard.refusal s1 next prepared.replies) moved)

-- ---- causes

pub caused_after : (old mid new : Seen) (r : Reply) → old.failures ≤ mid.failures → HasServerCause mid new r → HasServerCause old new r
caused_after old mid new r before cause = record { later = omega (arith, before, cause.later); refused = λ h. (let rose = cause.refused h in omega (arith, before, rose)) }

-- ---- texts in a row

module _ (honest : Bool) where
  -- none
  pub executes_none : (old new : Seen) (s : Status) → new ≡ old → Executes honest [] old new s (done (Ok tt) s)
  executes_none old new s is = subst (λ (x : Seen). Executes honest [] old x s (done (Ok tt) s)) (sym is) (record {
    acts = stops honest old (done (Ok tt) s);
    cause = record { later = omega arith; refused = λ h. absurd h };
    shut = refl;
  })

  -- the first was refused
  pub executes_refused : (text : List ℕ) (texts : List (List ℕ)) (old new : Seen) (s s1 : Status) (r : Reply) (e : Error) → r ≡ Err e → Asks honest execute_text text old new s s1 r → Executes honest (text ∷ texts) old new s (done (Err e) s1)
  executes_refused text texts old new s s1 r e is asks =
      let refused = subst (λ (x : Reply). Asks honest execute_text text old new s s1 x) is asks in
      record {
        acts = refused.then (λ x s2. unless_refused x s2 (execute_texts old.dialect texts s2)) new (done (Err e) s1) (stops honest new (done (Err e) s1));
        cause = refused.cause;
        shut = refused.shut;
      }

  -- the first was accepted
  pub executes_first : (text : List ℕ) (texts : List (List ℕ)) (old mid new : Seen) (s s1 : Status) (r : Reply) (a : Done) → r ≡ Ok tt → Asks honest execute_text text old mid s s1 r → Executes honest texts mid new s1 a → Executes honest (text ∷ texts) old new s a
  executes_first text texts old mid new s s1 r a is asks rest =
      let accepted = subst (λ (x : Reply). Asks honest execute_text text old mid s s1 x) is asks in
      record {
        acts = accepted.then (λ x s2. unless_refused x s2 (execute_texts old.dialect texts s2)) new a
            (subst (λ (d : Dialect). Acts honest (execute_texts d texts s1) mid new a) accepted.same.dialect rest.acts);
        cause = caused_after old mid new a.reply accepted.cause.later rest.cause;
        shut = rest.shut ∙ accepted.shut;
      }

  -- the last one, whatever it was answered
  pub executes_last : (text : List ℕ) (old new : Seen) (s s1 : Status) (r : Reply) → Asks honest execute_text text old new s s1 r → Executes honest (text ∷ []) old new s (done r s1)
  executes_last text old new s s1 (Err e) asks = executes_refused text [] old new s s1 (Err e) e refl asks
  executes_last text old new s s1 (Ok u) asks = executes_first text [] old new new s s1 (Ok u) (done (Ok tt) s1) refl asks (executes_none new new s1 refl)

-- ---- a text that is prepared first

-- the prepare was refused
pub asks_refused : (honest : Bool) (text : List ℕ) (old new : Seen) (s s1 : Status) (result : Result ℕ Error) (e : Error) (reply : Reply) → result ≡ Err e → reply ≡ Err e → Hears honest (Prepare None) text old new s s1 (without_value result)
    → HasServerCause old new (without_value result) → OpensIf text old.open_statements new.open_statements result → old.item_room ≤ new.item_room + 1 → old.byte_room ≤ new.byte_room + length text → Asks honest prepare_text text old new s s1 reply
asks_refused honest text old new s s1 result e reply is answers hears cause opens items bytes =
    let refused : Hears honest (Prepare None) text old new s s1 (Err e) = subst (λ (r : Result ℕ Error). Hears honest (Prepare None) text old new s s1 (without_value r)) is hears in
    subst (λ (r : Reply). Asks honest prepare_text text old new s s1 r) (sym answers) (record {
      then = refused_first honest text old new s s1 e refused;
      same = refused.acts.same;
      cause = subst (λ (r : Result ℕ Error). HasServerCause old new (without_value r)) is cause;
      shut = subst (λ (r : Result ℕ Error). OpensIf text old.open_statements new.open_statements r) is opens;
      items = omega (arith, items);
      bytes = omega (arith, bytes);
    })

-- what was prepared was run, and its statement closed
pub asks_prepared : (honest : Bool) (text : List ℕ) (statement : ℕ) (old mid new shut : Seen) (s s1 s2 : Status) (result : Result ℕ Error) (r : Reply) → result ≡ Ok statement → Hears honest (Prepare None) text old mid s s1 (without_value result)
    → HasServerCause old mid (without_value result) → OpensIf text old.open_statements mid.open_statements result → old.item_room ≤ mid.item_room + 1 → old.byte_room ≤ mid.byte_room + length text
    → Hears honest (Run []) (text_of mid.open_statements (Prepared statement)) mid new s1 s2 r → HasServerCause mid new r → new.open_statements ≡ mid.open_statements → mid.item_room ≤ new.item_room + 2
    → mid.byte_room ≤ new.byte_room + length (text_of mid.open_statements (Prepared statement)) → shut ≡ closes statement new → Asks honest prepare_text text old shut s s2 r
asks_prepared honest text statement old mid new shut s s1 s2 result r is hears cause opens items bytes ran cause2 open' items2 bytes2 is_shut =
    let prepared : Hears honest (Prepare None) text old mid s s1 (Ok tt) = subst (λ (x : Result ℕ Error). Hears honest (Prepare None) text old mid s s1 (without_value x)) is hears in
    let opened : OpensStatement text old.open_statements mid.open_statements statement = subst (λ (x : Result ℕ Error). OpensIf text old.open_statements mid.open_statements x) is opens in
    let words : text_of mid.open_statements (Prepared statement) ≡ text = ap (λ (o : Option (List ℕ)). unwrap_or o []) opened.runs in
    let after = caused_after old mid new r cause.later cause2 in
    let size : length (text_of mid.open_statements (Prepared statement)) ≡ length text = ap length words in
    let failures : shut.failures ≡ new.failures = ap (λ (x : Seen). x.failures) is_shut in
    let item_room : shut.item_room ≡ new.item_room = ap (λ (x : Seen). x.item_room) is_shut in
    let byte_room : shut.byte_room ≡ new.byte_room = ap (λ (x : Seen). x.byte_room) is_shut in
    record {
      then = ran_prepared honest text (text_of mid.open_statements (Prepared statement)) statement old mid new shut s s1 s2 r prepared words ran is_shut;
      same = subst (λ (x : Seen). IsSameServer old x) (sym is_shut) (closed_same statement old new (IsSameServer-trans prepared.acts.same ran.acts.same));
      cause = record { later = omega (arith, failures, after.later); refused = λ h. (let rose = after.refused h in omega (arith, failures, rose)) };
      shut = ap (λ (x : Seen). x.open_statements) is_shut ∙ ap (λ (os : List Opened). without_open statement os) open' ∙ opened.shuts;
      items = omega (arith, items, items2, item_room);
      bytes = omega (arith, bytes, bytes2, byte_room, size);
    }
  where
    closed_same : (n : ℕ) (a b : Seen) → IsSameServer a b → IsSameServer a (closes n b)
    closed_same n a b h = record { dialect = h.dialect; number = h.number; armed = h.armed; quiet = h.quiet; orders = h.orders }

-- PostgreSQL ran a text at once
pub asks_at_once : (honest : Bool) (text words : List ℕ) (old new : Seen) (s s1 : Status) (r : Reply) → old.dialect ≡ Pg → words ≡ text → Hears honest (Run []) words old new s s1 r → HasServerCause old new r → new.open_statements ≡ old.open_statements
    → old.item_room ≤ new.item_room + 2 → old.byte_room ≤ new.byte_room + length words → Asks honest execute_text text old new s s1 r
asks_at_once honest text words old new s s1 r is same hears cause shut items bytes =
    let size : length words ≡ length text = ap length same in
    record {
      then = ran_at_once honest text words old new s s1 r is same hears;
      same = hears.acts.same;
      cause = cause;
      shut = shut;
      items = omega (arith, items);
      bytes = omega (arith, bytes, size);
    }
