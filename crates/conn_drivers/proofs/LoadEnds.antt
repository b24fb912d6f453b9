-- A connection loads a query: between its two events, and with them.
use Rattle.std.proofs.Common.{◌≡◌, inl, inr, Bool, true, List, [], ◌∷◌, ℕ, refl, ap, sym, ◌∙◌, subst, Option, Some, None, Result, Ok, Err}
use Rattle.std.specs.Prelude.{◌⊎◌}
use Rattle.std.specs.Result.{result_err}
use Rattle.conn_result.specs.declared.error.Error.{Error}
use Rattle.conn_result.specs.declared.error.Error.TheVariants.{OutOfMemory}
use Rattle.conn_cache.specs.Faults.{query_fault}
use Rattle.conn_cache.specs.LoadProcesses.{Gathering, looks, rows_heard}
use Rattle.conn_cache.specs.QueryProcesses.{Asked, asked, finishes}
use Rattle.conn_cache.specs.QueryViews.{QueryView}
use Rattle.conn_model.specs.Acts.{Tells}
use Rattle.conn_model.specs.Armed.{Values}
use Rattle.conn_model.specs.Caches.{Known, Cache}
use Rattle.conn_model.specs.Events.{Heeded, with_events, StartQuery, FinishQuery}
use Rattle.conn_model.specs.Process.{Stop}
use Rattle.conn_model.specs.Seen.{Seen}
use Rattle.conn_model.specs.declared.item.Dialect.{Dialect}
use Rattle.conn_model.specs.declared.item.Dialect.TheVariants.{Pg, Mysql, Sqlite}
use Rattle.conn_model.proofs.Telling.{stops_telling, tells_first, with_both}
use Rattle.conn_manager.specs.Statuses.{Status}
use Rattle.conn_manager.specs.Views.{View, with_event}
use Rattle.conn_drivers.specs.Loaded.{AsksFirst, LoadsFrom, made_of}
use Rattle.conn_drivers.specs.GatherLaws.{asks_all_first}
use Rattle.conn_drivers.specs.Loading.{AnswersFor, AsksBy, LeavesRows, LoadsOn, Makes}
use Rattle.conn_drivers.specs.Loadings.{LeavesLoad, LoadsBetween, LoadsBy, TellsLoad}
use Rattle.conn_drivers.specs.Queried.{idle_events, known_of}
use Rattle.conn_drivers.specs.declared.statement.Statement.{Statement}
use Rattle.conn_drivers.proofs.LoadSteps.{makes_on}
use Rattle.conn_drivers.proofs.Querying.{fault_ends, is_idle, wire_goes, wire_idle}

-- ---- between the two events

module _ {T : Type 0} (honest : Bool) (q : QueryView) (makes : List Values → Result T Error → Type 0) (old roomy new : View) (keeps : roomy.seen ≡ record old.seen { item_room = roomy.seen.item_room; byte_room = roomy.seen.byte_room }) (same : roomy ≡ record old { seen = roomy.seen }) (error : Option Error) (reply : Result T Error) where
  -- memory was wanting
  pub load_idle : (e : Error) → error ≡ Some e → reply ≡ Err e → e ≡ OutOfMemory → new ≡ roomy → LoadsBetween honest q makes old new error reply
  load_idle e told gives memory here = inl (record {
    told_of = told ∙ ap (λ (x : Error). Some x) memory;
    idle = is_idle honest q old roomy new keeps same reply (gives ∙ ap (λ (x : Error). let r : Result T Error = Err x in r) memory) here;
  })

  -- a fault was found
  pub load_fault : (e : Error) → error ≡ Some e → reply ≡ Err e → query_fault old.seen.dialect q ≡ Some e → new ≡ roomy → LoadsBetween honest q makes old new error reply
  load_fault e told gives found here = inr (inr (record {
    rows = Err e;
    leaves = fault_ends honest q old roomy new keeps same true (looks rows_heard old.seen.dialect q) e found here;
    told = told;
    answers = inl gives;
  }))

-- it went on over a wire
pub load_between : {W I T : Type 0} (honest : Bool) (q : QueryView) (seen : W → Seen) (status : W → Status) (told : I → Heeded) (first : Seen) (w w' : W) (c c' : Cache Statement) (i i' : I) (makes : List Values → Result T Error → Type 0) (error : Option Error) (reply : Result T Error)
    → seen w ≡ record first { item_room = (seen w).item_room; byte_room = (seen w).byte_room } → (s : Status) (k : Known) (before : Heeded) → status w ≡ s → known_of c ≡ k → told i ≡ before → query_fault first.dialect q ≡ None → LoadsOn honest q seen status told w w' c c' i i' makes error reply
    → (let old : View = record { seen = first; status = s; heeded = before; cache = k } in let new : View = record { seen = seen w'; status = status w'; heeded = told i'; cache = known_of c' } in LoadsBetween honest q makes old new error reply)
load_between honest q seen status told first w w' c c' i i' makes error reply keeps s k before is_status is_known is_told none (inl rests) = inl (record {
  told_of = rests.told_of;
  idle = wire_idle honest q seen status told first w w' c c' i i' keeps s k before reply is_status is_known is_told rests.nothing;
})
load_between honest q seen status told first w w' c c' i i' makes error reply keeps s k before is_status is_known is_told none (inr made) =
    let old : View = record { seen = first; status = s; heeded = before; cache = k } in
    let new : View = record { seen = seen w'; status = status w'; heeded = told i'; cache = known_of c' } in
    inr (makes_on (LeavesRows honest q seen status told w w' c c' i i' makes error reply) (LeavesLoad honest q old new) makes error reply
    (λ gather rows heeds left. wire_goes honest q seen status told first w w' c c' i i' keeps true (λ d. looks gather d q) s k before (finishes q.sql rows (status w') (known_of c')) is_status is_known is_told none left) made)

-- ---- the two events

-- a connection told of a load's start, did what it does, and told of its end
pub loads_by : {T : Type 0} (honest : Bool) (q : QueryView) (makes : List Values → Result T Error → Type 0) (shown : List ℕ) (old started mid new : View) (told error : Option Error) (reply : Result T Error) → shown ≡ q.sql → started ≡ with_event old (StartQuery shown) → LoadsBetween honest q makes started mid told reply
    → error ≡ told → new ≡ with_event mid (FinishQuery shown error) → LoadsBy honest q makes old new reply
loads_by {T} honest q makes shown old started mid new told error reply is_shown is_started between is_error is_new =
    subst (λ (v : View). LoadsBy honest q makes old v reply) (sym finish) (by_between (subst (λ (v : View). LoadsBetween honest q makes v mid told reply) start between))
  where
    start : started ≡ with_event old (StartQuery q.sql)
    start = is_started ∙ ap (λ (w : List ℕ). with_event old (StartQuery w)) is_shown

    finish : new ≡ with_event mid (FinishQuery q.sql told)
    finish = is_new ∙ ap (λ (w : List ℕ). with_event mid (FinishQuery w error)) is_shown ∙ ap (λ (e : Option Error). with_event mid (FinishQuery q.sql e)) is_error

    both : (heeded : Heeded) → heeded ≡ with_events old.heeded (StartQuery q.sql ∷ []) → told ≡ Some OutOfMemory → with_events heeded (FinishQuery q.sql told ∷ []) ≡ idle_events old.heeded q.sql
    both heeded is err = ap (λ (h : Heeded). with_events h (FinishQuery q.sql told ∷ [])) is ∙ ap (λ (e : Option Error). with_events (with_events old.heeded (StartQuery q.sql ∷ [])) (FinishQuery q.sql e ∷ [])) err
        ∙ with_both old.heeded (StartQuery q.sql ∷ []) (FinishQuery q.sql (Some OutOfMemory) ∷ [])

    ended : (gather : Gathering) (rows : Result (List Values) Error) → told ≡ result_err rows → LeavesLoad honest q (with_event old (StartQuery q.sql)) mid gather rows → TellsLoad honest q old (with_event mid (FinishQuery q.sql told)) gather rows
    ended gather rows heeds g =
        let a : Asked (List Values) = asked rows mid.status mid.cache in
        let after = with_events mid.heeded (FinishQuery q.sql (result_err rows) ∷ []) in
        let over : Tells honest (finishes q.sql rows mid.status mid.cache) mid.seen mid.seen mid.heeded after a = tells_first honest (FinishQuery q.sql (result_err rows)) (Stop a) mid.seen mid.seen mid.heeded after after a refl (stops_telling honest mid.seen after a) in
        subst (λ (e : Option Error). TellsLoad honest q old (with_event mid (FinishQuery q.sql e)) gather rows) (sym heeds)
        (tells_first honest (StartQuery q.sql) _ old.seen mid.seen old.heeded (with_events old.heeded (StartQuery q.sql ∷ [])) after a refl (g.then mid.seen after a over))

    by_between : LoadsBetween honest q makes (with_event old (StartQuery q.sql)) mid told reply → LoadsBy honest q makes old (with_event mid (FinishQuery q.sql told)) reply
    by_between (inl idle) = inl (record {
      is = idle.idle.is;
      untouched = idle.idle.untouched;
      cache = idle.idle.cache;
      heeds = both mid.heeded idle.idle.heeds idle.told_of;
    })
    by_between (inr made) = inr (told, makes_on (LeavesLoad honest q (with_event old (StartQuery q.sql)) mid) (TellsLoad honest q old (with_event mid (FinishQuery q.sql told))) makes told reply ended made)

-- ---- what is made of the rows

-- a load whose rows are made into this, as its callers see it
pub loads_from : {T U : Type 0} (honest : Bool) (q : QueryView) (view : Result T Error → Result U Error) (made : List Values → Result U Error) (old new : View) (reply : Result T Error) → ((e : Error) → view (Err e) ≡ Err e) → LoadsBy honest q (λ rows r. view r ≡ made rows) old new reply
    → LoadsFrom honest q made old new (view reply)
loads_from {T} {U} honest q view made old new reply fails (inl idle) = inl (record { is = ap view idle.is ∙ fails OutOfMemory; untouched = idle.untouched; cache = idle.cache; heeds = idle.heeds })
loads_from {T} {U} honest q view made old new reply fails (inr h) = by_makes h.1
  where
    answers_by : (rows : Result (List Values) Error) → AnswersFor (λ (xs : List Values) (r : Result T Error). view r ≡ made xs) rows reply → view reply ≡ made_of made rows
    answers_by (Ok rows) h = h
    answers_by (Err e) h = ap view h ∙ fails e

    by_answers : (rows : Result (List Values) Error) → AnswersFor (λ (xs : List Values) (r : Result T Error). view r ≡ made xs) rows reply ⊎ (reply ≡ Err OutOfMemory) → (view reply ≡ made_of made rows) ⊎ (view reply ≡ Err OutOfMemory)
    by_answers rows (inl h) = inl (answers_by rows h)
    by_answers rows (inr h) = inr (ap view h ∙ fails OutOfMemory)

    by_makes : Makes (TellsLoad honest q old new) (λ (xs : List Values) (r : Result T Error). view r ≡ made xs) h.0 reply → LoadsFrom honest q made old new (view reply)
    by_makes (inl lost) = inr (inl (record { is = ap view lost.is ∙ fails OutOfMemory; tells = lost.leaves }))
    by_makes (inr rows) = inr (inr (record { rows = rows.rows; tells = rows.leaves; answers = by_answers rows.rows rows.answers }))

-- as many rows were asked as the first one takes
pub asks_first : {T : Type 0} (d : Dialect) (old new : Seen) (reply : Result T Error) → AsksBy (asks_all_first d) old new reply → AsksFirst d old new reply
asks_first Pg old new reply asks = asks
asks_first Mysql old new reply asks = asks
asks_first Sqlite old new reply asks = asks
