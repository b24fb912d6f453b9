-- A query is run, its rows are asked, and its statement is closed.
use Rattle.std.proofs.Common.{◌≡◌, inl, inr, ℕ, zero, suc, ◌≤◌, arith, Bool, true, false, List, [], ◌∷◌, refl, ap, sym, ◌∙◌, subst, Option, Some, None, Result, Ok, Err}
use Rattle.std.specs.Prelude.{◌⊎◌, if◌then◌else◌, map, max, slice_get}
use Rattle.std.specs.Option.{unwrap_or}
use Rattle.std.specs.Result.{result_err}
use Rattle.conn_result.specs.Causes.{Rose}
use Rattle.conn_result.specs.declared.error.Error.{Error}
use Rattle.conn_result.specs.declared.error.Error.TheVariants.{DeserializationError, OutOfMemory}
use Rattle.conn_result.specs.declared.error.RowFault.TheVariants.{NoMetadata}
use Rattle.conn_model.specs.Armed.{Values}
use Rattle.conn_model.specs.Caches.{Known, Cache}
use Rattle.conn_model.specs.Events.{Heeded}
use Rattle.conn_model.specs.Process.{Process}
use Rattle.conn_model.specs.Seen.{Seen, IsHonest, Opened}
use Rattle.conn_model.specs.Statements.{closes, without_open}
use Rattle.conn_model.specs.declared.item.Dialect.{Dialect}
use Rattle.conn_model.specs.declared.item.Refusal.{Refusal}
use Rattle.conn_cache.specs.LoadProcesses.{Gathering, looks, rows_heard, rows_lost}
use Rattle.conn_cache.specs.QueryProcesses.{Asked, finishes, lacks_metadata, runs, runs_due, runs_with, types_for, without_value}
use Rattle.conn_cache.specs.Registers.{due}
use Rattle.conn_cache.specs.QueryViews.{QueryView}
use Rattle.conn_cache.specs.declared.statement_cache.MaybeCached.{MaybeCached}
use Rattle.conn_manager.specs.Manages.{HasServerCause, IsRefusal}
use Rattle.conn_manager.specs.Statuses.{Status}
use Rattle.conn_drivers.specs.Loading.{AnswersFor, AsksBy, HasRows, LeavesRows, LoadsOn, Looks, LooksFor, Makes, RunsRows, Starts, after_start, all_rows, seen_shut, shut_by}
use Rattle.conn_drivers.specs.Queried.{Goes, LeavesOf, Readies, RunsOut, after_run, statement_columns, known_of, looked_up}
use Rattle.conn_drivers.specs.Standing.{AreHeld}
use Rattle.conn_drivers.specs.declared.statement.Statement.{Statement}
use Rattle.conn_drivers.proofs.Going.{goes_closed, goes_further}
use Rattle.conn_drivers.proofs.Querying.{ready_goes}
use Rattle.conn_drivers.proofs.RowSteps.{look_goes, looks_later, looks_open, looks_rose}

-- what is left is left in another way
pub makes_on : {T : Type 0} (left left' : Gathering → Result (List Values) Error → Type 0) (makes : List Values → Result T Error → Type 0) (error : Option Error) (reply : Result T Error)
    → ((gather : Gathering) (rows : Result (List Values) Error) → error ≡ result_err rows → left gather rows → left' gather rows) → Makes left makes error reply → Makes left' makes error reply
makes_on left left' makes error reply on (inl lost) = inl (record { leaves = on rows_lost (Err OutOfMemory) lost.told lost.leaves; told = lost.told; is = lost.is })
makes_on left left' makes error reply on (inr rows) = inr (record { rows = rows.rows; leaves = on rows_heard rows.rows rows.told rows.leaves; told = rows.told; answers = rows.answers })

-- ---- the run

-- a run, after which rows are asked
pub rows_out : {T : Type 0} (honest : Bool) (q : QueryView) (columns : ℕ) (old new : Seen) (s s1 : Status) (affected : Result ℕ Error) (result : Result T Error) → lacks_metadata true old.dialect columns ≡ false
    → ((gather : Gathering) (d : Dialect) (k : Known) → after_run q (looks gather d q) affected s1 k ≡ after_start gather d q result s1 k) → RunsOut honest q old new s s1 affected → RunsRows honest q columns old new s s1 result
rows_out honest q columns old new s s1 affected result has same ran gather d is k told =
    let there : lacks_metadata true d columns ≡ false = ap (λ (x : Dialect). lacks_metadata true x columns) is ∙ has in
    let went : Goes honest (runs true d q (looks gather d q) s k) (after_start gather d q result s1 k) old new told told =
    subst (λ (p : Process (Asked (List Values))). Goes honest (runs true d q (looks gather d q) s k) p old new told told) (same gather d k) (ran true (looks gather d q) d is k told) in
    subst (λ (b : Bool). Goes honest (if b then finishes q.sql (Err (DeserializationError NoMetadata)) s k else runs true d q (looks gather d q) s k) (after_start gather d q result s1 k) old new told told) (sym there) went

-- its statement was closed after that
pub rows_out_closed : {T : Type 0} (honest : Bool) (q : QueryView) (columns statement : ℕ) (old new shut : Seen) (s s1 : Status) (result : Result T Error) → shut ≡ closes statement new → RunsRows honest q columns old new s s1 result → RunsRows honest q columns old shut s s1 result
rows_out_closed honest q columns statement old new shut s s1 result is ran gather d same k told =
    goes_closed honest (runs_with true d q (looks gather d q) columns s k) (after_start gather d q result s1 k) statement old new shut told told is (ran gather d same k told)

-- the columns of a kept statement
pub kept_columns : (ts : List Statement) (place : ℕ) (t : Statement) → slice_get ts place ≡ Some t → unwrap_or (slice_get (map (λ (u : Statement). u.columns) ts) place) 0 ≡ t.columns
kept_columns [] place t e = absurd (cc)
kept_columns (u ∷ us) zero t e = ap (λ (o : Option Statement). unwrap_or (by_statement o) 0) e
  where
    by_statement : Option Statement → Option ℕ
    by_statement None = None
    by_statement (Some x) = Some x.columns
kept_columns (u ∷ us) (suc n) t e = kept_columns us n t e

-- ---- the start

module _ {W I : Type 0} (honest : Bool) (q : QueryView) (seen : W → Seen) (status : W → Status) (told : I → Heeded) (w mid : W) (c c' : Cache Statement) (i i' : I) where
  -- it was ready, and then it was run
  pub starts : {T : Type 0} (found : Result (MaybeCached Statement) Error) (m : MaybeCached Statement) (columns : ℕ) (w' : W) (result : Result T Error) → found ≡ Ok m → statement_columns (known_of c') (Ok m) ≡ Ok columns → Readies honest q seen status told w mid c c' i i' found
      → (seen mid).dialect ≡ (seen w).dialect → RunsRows honest q columns (seen mid) (seen w') (status mid) (status w') result → Starts honest q seen status told w w' c c' i i' result
  starts found m columns w' result is has ready same ran = inr (λ gather.
      ready_goes honest q seen status told w mid c c' i i' found m columns true (looks gather (seen w).dialect q) w' (after_start gather (seen w).dialect q result (status w') (known_of c')) is has ready (ran gather (seen w).dialect (sym same) (known_of c') (told i')))

  not_ok : {T : Type 0} (r : Result T Error) (x : T) → r ≡ Ok x → r ≡ Err OutOfMemory → ⊥
  not_ok r x e f = cc

  same_error : {T : Type 0} (r : Result T Error) (e : Error) → r ≡ Err e → r ≡ Err OutOfMemory → e ≡ OutOfMemory
  same_error r e f g = cc

  -- it was over with its look-up
  pub start_ends : {T : Type 0} (found : Result (MaybeCached Statement) Error) (e : Error) (result : Result T Error) → found ≡ Err e → result ≡ Err e → Readies honest q seen status told w mid c c' i i' found → Starts honest q seen status told w mid c c' i i' result
  start_ends {T} found e result is gives (inl want) = inl (record { is = gives ∙ ap (λ (x : Error). let r : Result T Error = Err x in r) (same_error found e is want.is); wire = want.wire; cache = want.cache; handler = want.handler })
  start_ends {T} found e result is gives (inr g) =
      subst (λ (r : Result T Error). Starts honest q seen status told w mid c c' i i' r) (sym gives)
      (inr (λ gather. subst (λ (r : Result (MaybeCached Statement) Error). LeavesOf honest q seen status told w mid c c' i i' true (looks gather (seen w).dialect q) (by_found gather r)) is (g true (looks gather (seen w).dialect q))))
    where
      by_found : Gathering → Result (MaybeCached Statement) Error → Process (Asked (List Values))
      by_found gather r = looked_up q (looks gather (seen w).dialect q) true (seen w).dialect (statement_columns (known_of c') r) (status mid) (known_of c')

  -- ---- the whole load

  module _ {T : Type 0} (makes : List Values → Result T Error → Type 0) (error : Option Error) (reply : Result T Error) where
    -- it was over with its start
    pub load_ends : {U : Type 0} (started : Result U Error) (e : Error) → started ≡ Err e → error ≡ Some e → reply ≡ Err e → Starts honest q seen status told w mid c c' i i' started → LoadsOn honest q seen status told w mid c c' i i' makes error reply
    load_ends started e is is_error is_reply (inl want) =
        let memory = same_error started e is want.is in
        inl (record {
          told_of = is_error ∙ ap (λ (x : Error). Some x) memory;
          nothing = record { is = is_reply ∙ ap (λ (x : Error). let r : Result T Error = Err x in r) memory; wire = want.wire; cache = want.cache; handler = want.handler };
        })
    load_ends {U} started e is is_error is_reply (inr g) = inr (inr (record {
      rows = Err e;
      leaves = subst (λ (r : Result U Error). LeavesOf honest q seen status told w mid c c' i i' true (looks rows_heard (seen w).dialect q) (after_start rows_heard (seen w).dialect q r (status mid) (known_of c'))) is (g rows_heard);
      told = is_error;
      answers = inl is_reply;
    }))

    -- its rows were asked, and its statement was closed
    pub loads_on : {U : Type 0} (started : Result U Error) (u : U) (statement : Option ℕ) (last w' : W) → started ≡ Ok u → Starts honest q seen status told w mid c c' i i' started → (seen mid).dialect ≡ (seen w).dialect → HasRows honest q.sql (seen mid) → (honest ≡ true → IsHonest (seen last))
        → Makes (LooksFor (seen mid) (seen last) (status mid) (status last)) makes error reply → seen w' ≡ seen_shut statement (seen last) → status w' ≡ status last → LoadsOn honest q seen status told w w' c c' i i' makes error reply
    loads_on started u statement last w' is (inl want) same there honesty made ended follows = absurd (not_ok started u is want.is)
    loads_on {U} started u statement last w' is (inr g) same there honesty made ended follows = inr (makes_on (LooksFor (seen mid) (seen last) (status mid) (status last)) (LeavesRows honest q seen status told w w' c c' i i' makes error reply) makes error reply (λ gather rows heeds look. leaves gather rows look) made)
      where
        goes_ended : (o : Option ℕ) (shut : Seen) (p r : Process (Asked (List Values))) → shut ≡ seen_shut o (seen last) → Goes honest p r (seen w) (seen last) (told i) (told i') → Goes honest p r (seen w) shut (told i) (told i')
        goes_ended None shut p r is went = subst (λ (x : Seen). Goes honest p r (seen w) x (told i) (told i')) (sym is) went
        goes_ended (Some n) shut p r is went = goes_closed honest p r n (seen w) (seen last) shut (told i) (told i') is went

        leaves : (gather : Gathering) (rows : Result (List Values) Error) → LooksFor (seen mid) (seen last) (status mid) (status last) gather rows → LeavesRows honest q seen status told w w' c c' i i' makes error reply gather rows
        leaves gather rows look =
            let d = (seen w).dialect in
            let left = looks gather d q 0 (status mid) (known_of c') in
            let first = subst (λ (r : Result U Error). LeavesOf honest q seen status told w mid c c' i i' true (looks gather d q) (after_start gather d q r (status mid) (known_of c'))) is (g gather) in
            let heard = look_goes honest gather d q 0 (seen mid) (seen last) (status mid) (status last) (known_of c') (told i') look.front look.refusal (sym same) there honesty look.looks in
            let over = finishes q.sql (gather look.refusal (all_rows look.refusal look.front (seen last))) (status last) (known_of c') in
            let whole = runs_due true d q (looks gather d q) (due q (types_for d q) c.register) (status w) (known_of c) in
            let went = goes_further honest whole left over (seen w) (seen mid) (seen last) (told i) (told i') (told i') first heard in
            let shown : over ≡ finishes q.sql rows (status w') (known_of c') = ap (λ (x : Status). finishes q.sql (gather look.refusal (all_rows look.refusal look.front (seen last))) x (known_of c')) (sym follows)
            ∙ ap (λ (r : Result (List Values) Error). finishes q.sql r (status w') (known_of c')) (sym look.gathers) in
            subst (λ (p : Process (Asked (List Values))). Goes honest whole p (seen w) (seen w') (told i) (told i')) shown (goes_ended statement (seen w') whole over ended went)

-- ---- what else is said of it

module _ {T : Type 0} (makes : List Values → Result T Error → Type 0) (error : Option Error) (reply : Result T Error) (old mid last new : Seen) (s s1 : Status) (statement : Option ℕ) (made : Makes (LooksFor mid last s s1) makes error reply) (ended : new ≡ seen_shut statement last) where
  ended_failures : (o : Option ℕ) → (seen_shut o last).failures ≡ last.failures
  ended_failures None = refl
  ended_failures (Some n) = refl

  same_failures : new.failures ≡ last.failures
  same_failures = ap (λ (x : Seen). x.failures) ended ∙ ended_failures statement

  memory_refusal : (r : Result T Error) → r ≡ Err OutOfMemory → IsRefusal (without_value r) → ⊥
  memory_refusal r e h = subst (λ (x : Result T Error). IsRefusal (without_value x)) e h

  later_by : Makes (LooksFor mid last s s1) makes error reply → mid.failures ≤ last.failures
  later_by (inl lost) = looks_later mid last s s1 lost.leaves.front lost.leaves.refusal lost.leaves.looks
  later_by (inr rows) = looks_later mid last s s1 rows.leaves.front rows.leaves.refusal rows.leaves.looks

  module _ (law : (rows : List Values) (r : Result T Error) → makes rows r → IsRefusal (without_value r) → ⊥) where
    rose_by : Makes (LooksFor mid last s s1) makes error reply → IsRefusal (without_value reply) → Rose mid.failures last.failures
    rose_by (inl lost) h = absurd (memory_refusal reply lost.is h)
    rose_by (inr rows) h = by_answers rows.answers
      where
        by_rows : (refusal : Option Refusal) → Looks mid last s s1 rows.leaves.front refusal → rows.rows ≡ rows_heard refusal (all_rows refusal rows.leaves.front last) → AnswersFor makes rows.rows reply → Rose mid.failures last.failures
        by_rows None look is answers = absurd (law (all_rows None rows.leaves.front last) reply (subst (λ (r : Result (List Values) Error). AnswersFor makes r reply) is answers) h)
        by_rows (Some r) look is answers = looks_rose mid last s s1 rows.leaves.front r look

        by_answers : AnswersFor makes rows.rows reply ⊎ (reply ≡ Err OutOfMemory) → Rose mid.failures last.failures
        by_answers (inl answers) = by_rows rows.leaves.refusal rows.leaves.looks rows.leaves.gathers answers
        by_answers (inr memory) = absurd (memory_refusal reply memory h)

    -- a refusal was counted
    pub load_cause : old.failures ≤ mid.failures → HasServerCause old new (without_value reply)
    load_cause first =
        let here : mid.failures ≤ last.failures = later_by made in
        record {
          later = omega (arith, first, here, same_failures);
          refused = λ h. (let rose : Rose mid.failures last.failures = rose_by made h in omega (arith, first, rose, same_failures));
        }

  -- the kept statements stand
  pub load_held : (cache : Cache Statement) → AreHeld (shut_by mid.open_statements (Ok statement)) cache → AreHeld new.open_statements cache
  load_held cache held = subst (λ (os : List Opened). AreHeld os cache) (sym (ap (λ (x : Seen). x.open_statements) ended ∙ by_statement statement)) held
    where
      open_by : Makes (LooksFor mid last s s1) makes error reply → last.open_statements ≡ mid.open_statements
      open_by (inl lost) = looks_open mid last s s1 lost.leaves.front lost.leaves.refusal lost.leaves.looks
      open_by (inr rows) = looks_open mid last s s1 rows.leaves.front rows.leaves.refusal rows.leaves.looks

      by_statement : (o : Option ℕ) → (seen_shut o last).open_statements ≡ shut_by mid.open_statements (Ok o)
      by_statement None = open_by made
      by_statement (Some n) = ap (without_open n) (open_by made)

  -- as many rows were asked as were wanted
  pub load_asks : (all : Bool) → mid.given ≡ 0 → AsksBy all mid last reply → AsksBy all old new reply
  load_asks true given asks = by_reply reply asks
    where
      ended_left : (o : Option ℕ) → (seen_shut o last).rows_left ≡ last.rows_left
      ended_left None = refl
      ended_left (Some n) = refl

      by_reply : (r : Result T Error) → AsksBy true mid last r → AsksBy true old new r
      by_reply (Ok x) h = ap (λ (x : Seen). x.rows_left) ended ∙ ended_left statement ∙ h
      by_reply (Err e) h = tt
  load_asks false given asks =
      let same : new.given ≡ last.given = ap (λ (x : Seen). x.given) ended ∙ ended_given statement in
      let one : last.given ≤ 1 = subst (λ (n : ℕ). last.given ≤ max n 1) given asks in
      subst (λ (n : ℕ). n ≤ max old.given 1) (sym same) (below one)
    where
      ended_given : (o : Option ℕ) → (seen_shut o last).given ≡ last.given
      ended_given None = refl
      ended_given (Some n) = refl

      below : last.given ≤ 1 → last.given ≤ max old.given 1
      below h = grind (arith, h)

-- it was over with its start, and no row was asked
pub start_asks : {T : Type 0} (all : Bool) (old new : Seen) (reply : Result T Error) (e : Error) → reply ≡ Err e → new.given ≡ old.given → AsksBy all old new reply
start_asks true old new reply e is given = subst (λ (r : Result _ Error). AsksBy true old new r) (sym is) tt
start_asks false old new reply e is given = subst (λ (n : ℕ). n ≤ max old.given 1) (sym given) (grind arith)
