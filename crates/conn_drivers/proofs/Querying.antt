-- A query that is ready is run; its connection tells of it, and shows what it left.
use Rattle.std.proofs.Common.{◌≡◌, inl, inr, ℕ, Bool, true, false, List, [], ◌∷◌, refl, ap, sym, ◌∙◌, subst, Option, Some, None, Result, Ok, Err}
use Rattle.std.specs.Prelude.{◌⊎◌, ◌^◌, if◌then◌else◌, nat_lt, reverse}
use Rattle.std.specs.Option.{option_map}
use Rattle.std.specs.Result.{result_err}
use Rattle.conn_result.specs.declared.error.Error.{Error}
use Rattle.conn_result.specs.declared.error.Error.TheVariants.{IntegerConversion, OutOfMemory}
use Rattle.conn_cache.specs.Faults.{query_fault}
use Rattle.conn_model.specs.Caches.{Known, Cache, same_size}
use Rattle.conn_cache.specs.QueryProcesses.{Asked, affected_count, asked, asked_without_value, counted, finishes, execute_process, ping_process, ping_view, ran, resized, runs, runs_due, runs_with, types_for, unless_fault, without_value}
use Rattle.conn_cache.specs.QueryViews.{QueryView}
use Rattle.conn_cache.specs.Registers.{due, register_sized}
use Rattle.conn_cache.specs.Sizes.{ClosesAll, ResizesBy}
use Rattle.conn_cache.specs.Soundness.{IsOwnStatement}
use Rattle.conn_model.specs.declared.cache.CacheSize.{CacheSize}
use Rattle.conn_manager.specs.Manages.{HasServerCause, IsRefusal, IsUntouched}
use Rattle.conn_manager.specs.Statuses.{Status, retold}
use Rattle.conn_manager.specs.Views.{View, with_event}
use Rattle.conn_model.specs.Acts.{Acts, Tells}
use Rattle.conn_model.specs.Events.{Heeded, with_events, StartQuery, FinishQuery}
use Rattle.conn_model.specs.Process.{Process, Stop, Heard, hear}
use Rattle.conn_model.specs.Seen.{Seen, Opened}
use Rattle.conn_model.specs.Statements.{closes, source_text}
use Rattle.conn_model.specs.declared.item.Call.TheVariants.{Run}
use Rattle.conn_model.specs.declared.item.Dialect.{Dialect}
use Rattle.conn_model.specs.declared.item.Dialect.TheVariants.{Pg, Mysql, Sqlite}
use Rattle.conn_model.specs.declared.item.Refusal.{Refusal}
use Rattle.conn_model.specs.declared.reply.RunSource.TheVariants.{Prepared}
use Rattle.conn_model.proofs.Mapped.{tells_map}
use Rattle.conn_model.proofs.Telling.{stops_telling, tells_first, with_both}
use Rattle.conn_drivers.specs.Prepares.{WireCloses, count_heard, count_in}
use Rattle.conn_drivers.specs.Queried.{Answer, CanRun, DoesNothing, Following, Goes, IsIdle, LeavesOf, OpensPlain, Queries, QueriesBetween, QueriesFrom, Readies, RunsOut, SetsCacheSize, after_run, statement_columns, counted_by, idle_events, known_of, looked_up, shut_in}
use Rattle.conn_drivers.specs.Standing.{stands_in}
use Rattle.conn_drivers.specs.Wires.{HearsBy}
use Rattle.conn_cache.specs.declared.statement_cache.MaybeCached.{MaybeCached}
use Rattle.conn_drivers.specs.declared.statement.Statement.{Statement}
use Rattle.conn_drivers.proofs.Going.{goes_closed, goes_further, goes_heard, goes_in_room, goes_nowhere}

-- ---- the run

-- after the run the query goes on with the affected rows
ran_out : {A : Type 0} (loads : Bool) (d : Dialect) (q : QueryView) (following : Following A) (refusal : Option Refusal) (affected : ℕ) (s : Status) (k : Known) → ran loads d q following refusal affected s k ≡ after_run q following (count_in refusal affected) s k
ran_out loads d q following None affected s k = refl
ran_out loads d q following (Some r) affected s k = refl

-- a run that was heard
pub runs_out : (honest : Bool) (q : QueryView) (words : List ℕ) (old new : Seen) (s s1 : Status) (result : Result ℕ Error) → words ≡ q.sql → HearsBy count_heard honest (Run q.binds) words old new s s1 result → RunsOut honest q old new s s1 result
runs_out honest q words old new s s1 result same hears loads following d is k told =
    let text = subst (λ (w : List ℕ). Acts honest (hear (Run q.binds) w) old new hears.heard) same hears.acts in
    let next : Heard → Process (Asked (Answer loads)) = λ (h : Heard). ran loads d q following h.refusal h.affected (retold d h.refusal h.told s) k in
    let heard = goes_heard honest (Run q.binds) q.sql next hears.heard old new told text in
    let follows : retold d hears.heard.refusal hears.heard.told s ≡ s1 = ap (λ (x : Dialect). retold x hears.heard.refusal hears.heard.told s) is ∙ sym hears.follows in
    let over : next hears.heard ≡ after_run q following result s1 k = ran_out loads d q following hears.heard.refusal hears.heard.affected (retold d hears.heard.refusal hears.heard.told s) k
    ∙ ap (λ (x : Status). after_run q following (count_heard hears.heard) x k) follows ∙ ap (λ (r : Result ℕ Error). after_run q following r s1 k) (sym hears.replies) in
    subst (λ (p : Process (Asked (Answer loads))). Goes honest (runs loads d q following s k) p old new told told) over heard

-- a statement of its own was closed after that
pub runs_out_closed : (honest : Bool) (q : QueryView) (statement : ℕ) (old new shut : Seen) (s s1 : Status) (result : Result ℕ Error) → shut ≡ closes statement new → RunsOut honest q old new s s1 result → RunsOut honest q old shut s s1 result
runs_out_closed honest q statement old new shut s s1 result is ran loads following d same k told =
    goes_closed honest (runs loads d q following s k) (after_run q following result s1 k) statement old new shut told told is (ran loads following d same k told)

-- a kept statement runs its text
pub kept_runs : (os : List Opened) (sql : List ℕ) (o : Option Statement) (t : Statement) → o ≡ Some t → IsOwnStatement (stands_in os) sql o → source_text os (Prepared t.number) ≡ Some sql
kept_runs os sql None t is own = absurd own
kept_runs os sql (Some u) t is own =
    let same : u ≡ t = cc in
    ap (option_map (λ (o : Opened). o.text)) (subst (λ (x : Statement). stands_in os x sql) same own)

pub none_kept : (os : List Opened) (sql : List ℕ) (o : Option Statement) → o ≡ None → IsOwnStatement (stands_in os) sql o → ⊥
none_kept os sql None is own = own
none_kept os sql (Some u) is own = absurd (cc)

-- a statement for one run can be run
pub plain_runs : (d d' : Dialect) (sql : List ℕ) (old new : List Opened) (t : Statement) → d' ≡ d → OpensPlain d sql old new t → CanRun d' new t sql
plain_runs d d' sql old new t is opens = subst (λ (x : Dialect). CanRun x new t sql) (sym is) (by_dialect d opens)
  where
    by_dialect : (d : Dialect) → OpensPlain d sql old new t → CanRun d new t sql
    by_dialect Pg opens = tt
    by_dialect Mysql opens = opens.runs
    by_dialect Sqlite opens = opens.runs

-- once it is closed those are open that were before
pub plain_shuts : (d d' : Dialect) (sql : List ℕ) (old new : List Opened) (t : Statement) → d' ≡ d → OpensPlain d sql old new t → shut_in d' new t ≡ old
plain_shuts d d' sql old new t is opens = subst (λ (x : Dialect). shut_in x new t ≡ old) (sym is) (by_dialect d opens)
  where
    by_dialect : (d : Dialect) → OpensPlain d sql old new t → shut_in d new t ≡ old
    by_dialect Pg opens = opens
    by_dialect Mysql opens = opens.shuts
    by_dialect Sqlite opens = opens.shuts

-- ---- the whole query on a wire

not_both : {T : Type 0} (r : Result T Error) (m : T) → r ≡ Ok m → r ≡ Err OutOfMemory → ⊥
not_both r m e f = cc

same_error : {T : Type 0} (r : Result T Error) (e : Error) → r ≡ Err e → r ≡ Err OutOfMemory → e ≡ OutOfMemory
same_error r e f g = cc

module _ {W I : Type 0} (honest : Bool) (q : QueryView) (seen : W → Seen) (status : W → Status) (told : I → Heeded) (w mid : W) (c c' : Cache Statement) (i i' : I) where
  -- it was ready, and then it went on
  pub ready_goes : (looked : Result (MaybeCached Statement) Error) (m : MaybeCached Statement) (columns : ℕ) (loads : Bool) (following : Following (Answer loads)) (w' : W) (rest : Process (Asked (Answer loads))) → looked ≡ Ok m → statement_columns (known_of c') (Ok m) ≡ Ok columns
      → Readies honest q seen status told w mid c c' i i' looked → Goes honest (runs_with loads (seen w).dialect q following columns (status mid) (known_of c')) rest (seen mid) (seen w') (told i') (told i') → LeavesOf honest q seen status told w w' c c' i i' loads following rest
  ready_goes looked m columns loads following w' rest is found (inl want) ran = absurd (not_both looked m is want.is)
  ready_goes looked m columns loads following w' rest is found (inr g) ran =
      let whole = runs_due loads (seen w).dialect q following (due q (types_for (seen w).dialect q) c.register) (status w) (known_of c) in
      let left = runs_with loads (seen w).dialect q following columns (status mid) (known_of c') in
      let ready = subst (λ (r : Result ℕ Error). Goes honest whole (looked_up q following loads (seen w).dialect r (status mid) (known_of c')) (seen w) (seen mid) (told i) (told i')) (ap (statement_columns (known_of c')) is ∙ found) (g loads following) in
      goes_further honest whole left rest (seen w) (seen mid) (seen w') (told i) (told i') (told i') ready ran

  -- it was over with its look-up
  pub ready_ends : (looked : Result (MaybeCached Statement) Error) (e : Error) (loads : Bool) (following : Following (Answer loads)) {T : Type 0} → looked ≡ Err e → Readies honest q seen status told w mid c c' i i' looked
      → (let over : Result T Error = Err e in DoesNothing w mid c c' i i' over) ⊎ LeavesOf honest q seen status told w mid c c' i i' loads following (finishes q.sql (Err e) (status mid) (known_of c'))
  ready_ends looked e loads following {T} is (inl want) = inl (record { is = ap (λ (x : Error). let r : Result T Error = Err x in r) (same_error looked e is want.is); wire = want.wire; cache = want.cache; handler = want.handler })
  ready_ends looked e loads following {T} is (inr g) =
      inr (subst (λ (r : Result (MaybeCached Statement) Error). LeavesOf honest q seen status told w mid c c' i i' loads following (looked_up q following loads (seen w).dialect (statement_columns (known_of c') r) (status mid) (known_of c'))) is (g loads following))

  -- after the run its affected rows are counted
  counts : (affected : Result ℕ Error) (s : Status) (k : Known) → after_run q (counted q) affected s k ≡ finishes q.sql (counted_by affected) s k
  counts (Ok n) s k = refl
  counts (Err e) s k = refl

  -- it was executed once it was ready
  pub ready_runs : (looked : Result (MaybeCached Statement) Error) (m : MaybeCached Statement) (columns : ℕ) (w' : W) (affected result : Result ℕ Error) → looked ≡ Ok m → statement_columns (known_of c') (Ok m) ≡ Ok columns → Readies honest q seen status told w mid c c' i i' looked → (seen mid).dialect ≡ (seen w).dialect
      → RunsOut honest q (seen mid) (seen w') (status mid) (status w') affected → result ≡ counted_by affected → Queries honest q seen status told w w' c c' i i' result
  ready_runs looked m columns w' affected result is found ready same ran counted_is =
      let went = ran false (counted q) (seen w).dialect (sym same) (known_of c') (told i') in
      let over = counts affected (status w') (known_of c') ∙ ap (λ (r : Result ℕ Error). finishes q.sql r (status w') (known_of c')) (sym counted_is) in
      inr (subst (λ (p : Process (Asked ℕ)). LeavesOf honest q seen status told w w' c c' i i' false (counted q) p) over
      (ready_goes looked m columns false (counted q) w' (after_run q (counted q) affected (status w') (known_of c')) is found ready went))

-- a count that doesn't fit is no refusal
no_refusal : (n : ℕ) → IsRefusal (without_value (affected_count n)) → ⊥
no_refusal n = elim (nat_lt n (2 ^ 64)) as (λ b. IsRefusal (without_value (if b then Ok n else Err IntegerConversion)) → ⊥) [ true ↦ (λ h. h) | false ↦ (λ h. h) ]

-- its count was refused only where the run was
pub counted_cause : (old new : Seen) (affected result : Result ℕ Error) → result ≡ counted_by affected → HasServerCause old new (without_value affected) → HasServerCause old new (without_value result)
counted_cause old new affected result is cause = subst (λ (r : Result ℕ Error). HasServerCause old new (without_value r)) (sym is) (by_affected affected cause)
  where
    by_affected : (a : Result ℕ Error) → HasServerCause old new (without_value a) → HasServerCause old new (without_value (counted_by a))
    by_affected (Ok n) cause = record { later = cause.later; refused = λ h. absurd (no_refusal n h) }
    by_affected (Err e) cause = cause

-- ---- between the two events

module _ (honest : Bool) (q : QueryView) (old roomy new : View) (keeps : roomy.seen ≡ record old.seen { item_room = roomy.seen.item_room; byte_room = roomy.seen.byte_room }) (same : roomy ≡ record old { seen = roomy.seen }) where
  untouched : new.seen ≡ roomy.seen → new.status ≡ roomy.status → IsUntouched old.seen new.seen old.status new.status
  untouched seen status =
      let is = seen ∙ keeps in
      record {
        log = ap (λ (x : Seen). x.log) is;
        told = ap (λ (x : Seen). x.told) is;
        sent = ap (λ (x : Seen). x.sent) is;
        failures = ap (λ (x : Seen). x.failures) is;
        same = record {
          dialect = ap (λ (x : Seen). x.dialect) is;
          number = ap (λ (x : Seen). x.number) is;
          armed = ap (λ (x : Seen). x.armed) is;
          quiet = ap (λ (x : Seen). x.quiet) is;
          orders = ap (λ (x : Seen). x.orders) is;
        };
        status = status ∙ ap (λ (x : View). x.status) same;
      }

  -- memory was wanting
  pub is_idle : {A : Type 0} (reply : Result A Error) → reply ≡ Err OutOfMemory → new ≡ roomy → IsIdle old new reply old.heeded
  is_idle reply is here = record {
    is = is;
    untouched = untouched (ap (λ (x : View). x.seen) here) (ap (λ (x : View). x.status) here);
    cache = ap (λ (x : View). x.cache) here ∙ ap (λ (x : View). x.cache) same;
    heeds = ap (λ (x : View). x.heeded) here ∙ ap (λ (x : View). x.heeded) same;
  }

  -- a fault was found
  pub fault_ends : {A : Type 0} (loads : Bool) (following : Following A) (e : Error) → query_fault old.seen.dialect q ≡ Some e → new ≡ roomy
      → Goes honest (unless_fault loads old.seen.dialect q following (query_fault old.seen.dialect q) old.status old.cache) (finishes q.sql (Err e) new.status new.cache) old.seen new.seen old.heeded new.heeded
  fault_ends {A} loads following e is here =
      let refused : Process (Asked A) = finishes q.sql (Err e) old.status old.cache in
      let ended : refused ≡ finishes q.sql (Err e) new.status new.cache = ap (λ (x : View). finishes q.sql (Err e) x.status x.cache) (sym (here ∙ same)) in
      let stands : Goes honest refused refused roomy.seen roomy.seen old.heeded old.heeded = goes_nowhere honest refused roomy.seen old.heeded in
      let last : Goes honest refused (finishes q.sql (Err e) new.status new.cache) roomy.seen new.seen old.heeded new.heeded =
      subst (λ (x : Process (Asked A)). Goes honest refused x roomy.seen new.seen old.heeded new.heeded) ended
      (subst (λ (x : Seen). Goes honest refused refused roomy.seen x old.heeded new.heeded) (sym (ap (λ (x : View). x.seen) here))
      (subst (λ (x : Heeded). Goes honest refused refused roomy.seen roomy.seen old.heeded x) (sym (ap (λ (x : View). x.heeded) here ∙ ap (λ (x : View). x.heeded) same)) stands)) in
      subst (λ (o : Option Error). Goes honest (unless_fault loads old.seen.dialect q following o old.status old.cache) (finishes q.sql (Err e) new.status new.cache) old.seen new.seen old.heeded new.heeded) (sym is)
      (goes_in_room honest refused (finishes q.sql (Err e) new.status new.cache) old.seen roomy.seen new.seen old.heeded new.heeded keeps last)

-- no fault was found, and the query went on over a wire
module _ {W I : Type 0} (honest : Bool) (q : QueryView) (seen : W → Seen) (status : W → Status) (told : I → Heeded) (first : Seen) (w w' : W) (c c' : Cache Statement) (i i' : I) (keeps : seen w ≡ record first { item_room = (seen w).item_room; byte_room = (seen w).byte_room }) where
  -- memory was wanting
  pub wire_idle : {A : Type 0} (s : Status) (k : Known) (before : Heeded) (result : Result A Error) → status w ≡ s → known_of c ≡ k → told i ≡ before → DoesNothing w w' c c' i i' result
      → (let old : View = record { seen = first; status = s; heeded = before; cache = k } in let new : View = record { seen = seen w'; status = status w'; heeded = told i'; cache = known_of c' } in IsIdle old new result before)
  wire_idle s k before result is_status is_known is_told want =
      let roomy : View = record { seen = seen w; status = s; heeded = before; cache = k } in
      let old : View = record { seen = first; status = s; heeded = before; cache = k } in
      let new : View = record { seen = seen w'; status = status w'; heeded = told i'; cache = known_of c' } in
      is_idle honest q old roomy new keeps refl result want.is
      (λ j. record { seen = seen (want.wire j); status = (ap status want.wire ∙ is_status) j; heeded = (ap told want.handler ∙ is_told) j; cache = (ap known_of want.cache ∙ is_known) j })

  -- it went on
  pub wire_goes : {A : Type 0} (loads : Bool) (following : Dialect → Following A) (s : Status) (k : Known) (before : Heeded) (last : Process (Asked A)) → status w ≡ s → known_of c ≡ k → told i ≡ before → query_fault first.dialect q ≡ None
      → LeavesOf honest q seen status told w w' c c' i i' loads (following (seen w).dialect) last → Goes honest (unless_fault loads first.dialect q (following first.dialect) (query_fault first.dialect q) s k) last first (seen w') before (told i')
  wire_goes {A} loads following s k before last is_status is_known is_told none g =
      let d : (seen w).dialect ≡ first.dialect = ap (λ (x : Seen). x.dialect) keeps in
      let due_process : Dialect → Status → Known → Process (Asked A) = λ e x y. runs_due loads e q (following e) (due q (types_for e q) y.register) x y in
      let here : Goes honest (due_process first.dialect s k) last (seen w) (seen w') before (told i') =
      subst (λ (e : Dialect). Goes honest (due_process e s k) last (seen w) (seen w') before (told i')) d
      (subst (λ (x : Status). Goes honest (due_process (seen w).dialect x k) last (seen w) (seen w') before (told i')) is_status
      (subst (λ (x : Known). Goes honest (due_process (seen w).dialect (status w) x) last (seen w) (seen w') before (told i')) is_known
      (subst (λ (x : Heeded). Goes honest (due_process (seen w).dialect (status w) (known_of c)) last (seen w) (seen w') x (told i')) is_told g))) in
      subst (λ (o : Option Error). Goes honest (unless_fault loads first.dialect q (following first.dialect) o s k) last first (seen w') before (told i')) (sym none)
      (goes_in_room honest (due_process first.dialect s k) last first (seen w) (seen w') before (told i') keeps here)

  pub wire_between : (s : Status) (k : Known) (before : Heeded) (result : Result ℕ Error) → status w ≡ s → known_of c ≡ k → told i ≡ before → query_fault first.dialect q ≡ None → Queries honest q seen status told w w' c c' i i' result
      → (let old : View = record { seen = first; status = s; heeded = before; cache = k } in let new : View = record { seen = seen w'; status = status w'; heeded = told i'; cache = known_of c' } in QueriesBetween honest q old new result)
  wire_between s k before result is_status is_known is_told none (inl want) = inl (wire_idle s k before result is_status is_known is_told want)
  wire_between s k before result is_status is_known is_told none (inr g) = inr (wire_goes false (λ d. counted q) s k before (finishes q.sql result (status w') (known_of c')) is_status is_known is_told none g)

-- ---- the two events

-- a connection told of a query's start, did what it does, and told of its end
pub queries_as : (honest : Bool) (q : QueryView) (shown : List ℕ) (old started mid new : View) (reply : Result ℕ Error) (error : Option Error) → shown ≡ q.sql → started ≡ with_event old (StartQuery shown) → QueriesBetween honest q started mid reply
    → error ≡ result_err reply → new ≡ with_event mid (FinishQuery shown error) → QueriesFrom honest q (λ d. execute_process d q) old new reply
queries_as honest q shown old started mid new reply error is_shown is_started between is_error is_new =
    by_between (subst (λ (v : View). QueriesBetween honest q v mid reply) start between)
  where
    start : started ≡ with_event old (StartQuery q.sql)
    start = is_started ∙ ap (λ (w : List ℕ). with_event old (StartQuery w)) is_shown

    finish : new ≡ with_event mid (FinishQuery q.sql (result_err reply))
    finish = is_new ∙ ap (λ (w : List ℕ). with_event mid (FinishQuery w error)) is_shown ∙ ap (λ (e : Option Error). with_event mid (FinishQuery q.sql e)) is_error

    begun : View
    begun = with_event old (StartQuery q.sql)

    both : (heeded : Heeded) → heeded ≡ with_events old.heeded (StartQuery q.sql ∷ []) → result_err reply ≡ Some OutOfMemory → with_events heeded (FinishQuery q.sql (result_err reply) ∷ []) ≡ idle_events old.heeded q.sql
    both heeded is err = ap (λ (h : Heeded). with_events h (FinishQuery q.sql (result_err reply) ∷ [])) is ∙ ap (λ (e : Option Error). with_events (with_events old.heeded (StartQuery q.sql ∷ [])) (FinishQuery q.sql e ∷ [])) err
        ∙ with_both old.heeded (StartQuery q.sql ∷ []) (FinishQuery q.sql (Some OutOfMemory) ∷ [])

    by_between : QueriesBetween honest q (with_event old (StartQuery q.sql)) mid reply → QueriesFrom honest q (λ d. execute_process d q) old new reply
    by_between (inl idle) = subst (λ (v : View). QueriesFrom honest q (λ d. execute_process d q) old v reply) (sym finish) (inl (record {
      is = idle.is;
      untouched = idle.untouched;
      cache = idle.cache;
      heeds = both mid.heeded idle.heeds (ap (λ (r : Result ℕ Error). result_err r) idle.is);
    }))
    by_between (inr g) =
        let after = with_events mid.heeded (FinishQuery q.sql (result_err reply) ∷ []) in
        let a : Asked ℕ = asked reply mid.status mid.cache in
        let ended : Tells honest (finishes q.sql reply mid.status mid.cache) mid.seen mid.seen mid.heeded after a = tells_first honest (FinishQuery q.sql (result_err reply)) (Stop a) mid.seen mid.seen mid.heeded after after a refl (stops_telling honest mid.seen after a) in
        subst (λ (v : View). QueriesFrom honest q (λ d. execute_process d q) old v reply) (sym finish)
        (inr (tells_first honest (StartQuery q.sql) _ old.seen mid.seen old.heeded (with_events old.heeded (StartQuery q.sql ∷ [])) after a refl (g.then mid.seen after a ended)))

-- ---- another size

-- statements were closed, and nothing else happened
pub closed_all : {W : Type 0} (seen : W → Seen) (status : W → Status) (w w' : W) (ts : List Statement) → ClosesAll (λ (x : W) t y. WireCloses t (seen x) (seen y) (status x) (status y)) w ts w'
    → (seen w' ≡ record (seen w) { open_statements = (seen w').open_statements }) × (status w' ≡ status w)
closed_all seen status w w' [] h = (ap seen h ∙ refl_open (seen w) (seen w') (ap seen h), ap status h)
  where
    refl_open : (s s' : Seen) → s' ≡ s → s ≡ record s { open_statements = s'.open_statements }
    refl_open s s' e = ap (λ (x : Seen). record s { open_statements = x.open_statements }) (sym e)
closed_all seen status w w' (t ∷ ts) h =
    let rest = closed_all seen status h.0 w' ts h.2 in
    (rest.0 ∙ ap (λ (x : Seen). record x { open_statements = (seen w').open_statements }) h.1.seen, rest.1 ∙ h.1.follows)

resized_known : (size : CacheSize) (c c' : Cache Statement) {P : Type 0} (closes : P → Statement → P → Type 0) (p p' : P) → c'.register ≡ register_sized size c.register → ResizesBy closes c.statements c'.statements p p' (same_size size c.register.size) → known_of c' ≡ resized size (known_of c)
resized_known size c c' closes p p' register statements =
    let kept = by_size (same_size size c.register.size) statements in
    λ i. record { register = register i; statements = kept i }
  where
    by_size : (b : Bool) → ResizesBy closes c.statements c'.statements p p' b → (known_of c').statements ≡ (if b then (known_of c).statements else [])
    by_size true h = ap (λ (ts : List Statement). (known_of (record c { statements = ts })).statements) h.0
    by_size false h = ap (λ (ts : List Statement). (known_of (record c { statements = ts })).statements) h.0

-- another size closes statements alone, and the same one does nothing
pub sets_cache_size : {W : Type 0} (seen : W → Seen) (status : W → Status) (w w' : W) (heeded : Heeded) (size : CacheSize) (c c' : Cache Statement) → c'.register ≡ register_sized size c.register
    → ResizesBy (λ (x : W) t y. WireCloses t (seen x) (seen y) (status x) (status y)) c.statements c'.statements w w' (same_size size c.register.size)
    → (let old : View = record { seen = seen w; status = status w; heeded = heeded; cache = known_of c } in let new : View = record { seen = seen w'; status = status w'; heeded = heeded; cache = known_of c' } in SetsCacheSize size old new)
sets_cache_size {W} seen status w w' heeded size c c' register resizes =
    let closed = by_size (same_size size c.register.size) resizes in
    let known = resized_known size c c' (λ (x : W) t y. WireCloses t (seen x) (seen y) (status x) (status y)) w w' register resizes in
    λ i. record { seen = closed.0 i; status = closed.1 i; heeded = heeded; cache = known i }
  where
    by_size : (b : Bool) → ResizesBy (λ (x : W) t y. WireCloses t (seen x) (seen y) (status x) (status y)) c.statements c'.statements w w' b → (seen w' ≡ record (seen w) { open_statements = (seen w').open_statements }) × (status w' ≡ status w)
    by_size true h = closed_all seen status w w' [] h.1
    by_size false h = closed_all seen status w w' (reverse c.statements) h.1

-- a ping that executed its query
pub pings_as : (honest : Bool) (old new : View) (count : Result ℕ Error) (reply : Result (Unit {0}) Error) → reply ≡ without_value count → QueriesFrom honest ping_view (λ d. execute_process d ping_view) old new count → QueriesFrom honest ping_view ping_process old new reply
pings_as honest old new count reply is (inl idle) = inl (record { is = is ∙ ap without_value idle.is; untouched = idle.untouched; cache = idle.cache; heeds = idle.heeds })
pings_as honest old new count reply is (inr tells) =
    subst (λ (r : Result (Unit {0}) Error). QueriesFrom honest ping_view ping_process old new r) (sym is)
    (inr (tells_map asked_without_value honest (execute_process old.seen.dialect ping_view old.status old.cache) old.seen new.seen old.heeded new.heeded (asked count new.status new.cache) tells))
