-- A load begins, its rows are asked one at a time, and it ends.
use Rattle.std.proofs.Common.{◌≡◌, inl, inr, ℕ, arith, Bool, true, false, List, [], ◌∷◌, refl, ap, sym, ◌∙◌, subst, Option, Some, None, Result, Ok, Err}
use Rattle.std.specs.Prelude.{nat_eq}
use Rattle.std.proofs.lemmas.Bool.Decides.{nat_tests}
use Rattle.conn_result.specs.declared.error.Error.{Error}
use Rattle.conn_result.specs.declared.error.Error.TheVariants.{OutOfMemory}
use Rattle.conn_cache.specs.Faults.{query_fault}
use Rattle.conn_cache.specs.LoadProcesses.{looks, rows_heard}
use Rattle.conn_cache.specs.QueryProcesses.{Asked, unless_fault, without_value}
use Rattle.conn_cache.specs.QueryViews.{QueryView}
use Rattle.conn_cache.specs.Soundness.{AreOwn}
use Rattle.conn_manager.specs.Manages.{HasServerCause}
use Rattle.conn_manager.specs.Statuses.{Status}
use Rattle.conn_manager.specs.Views.{View, with_event}
use Rattle.conn_model.specs.Armed.{Values}
use Rattle.conn_model.specs.Caches.{Known, Cache}
use Rattle.conn_model.specs.Events.{Heeded, StartQuery, FinishQuery}
use Rattle.conn_model.specs.Process.{Process}
use Rattle.conn_model.specs.Seen.{Seen, Opened}
use Rattle.conn_model.specs.Statements.{find_open, without_open}
use Rattle.conn_model.specs.declared.cache.CacheEntry.{CacheEntry}
use Rattle.conn_model.specs.declared.item.Dialect.{Dialect}
use Rattle.conn_drivers.specs.Cursors.{AreHeldAfter, Begins, EndsEarly, StartsBetween}
use Rattle.conn_drivers.specs.Loading.{BeginsIf, Starts, after_start, seen_shut, shut_by}
use Rattle.conn_drivers.specs.Loadings.{LoadsBetween}
use Rattle.conn_drivers.specs.Queried.{Goes, known_of}
use Rattle.conn_drivers.specs.Standing.{AreHeld, stands_in}
use Rattle.conn_drivers.specs.StatementLaws.{found_beside}
use Rattle.conn_drivers.specs.declared.statement.Statement.{Statement}
use Rattle.conn_drivers.proofs.Going.{goes_further, goes_told}
use Rattle.conn_drivers.proofs.LoadEnds.{loads_by, loads_from}
use Rattle.conn_drivers.proofs.Querying.{is_idle, wire_goes, wire_idle}

-- ---- open statements

closed_by : (n : ℕ) (o : Opened) (os : List Opened) (b : Bool) → nat_eq o.statement n ≡ b → find_open n (without_open n os) ≡ None → find_open n (without_open n (o ∷ os)) ≡ None
closed_by n o os true is rest = rw is rest
closed_by n o os false is rest = rw (is, is) rest

-- a closed statement is not open
none_closed : (n : ℕ) (os : List Opened) → find_open n (without_open n os) ≡ None
none_closed n [] = refl
none_closed n (o ∷ os) = closed_by n o os (nat_eq o.statement n) refl (none_closed n os)

not_found : (o : Option Opened) (x : Opened) → o ≡ None → o ≡ Some x → ⊥
not_found o x e f = cc

-- a statement that is open beside one that was closed was open
found_open : (n u : ℕ) (os : List Opened) (x : Opened) → find_open u (without_open n os) ≡ Some x → find_open u os ≡ Some x
found_open n u os x h = by_test (nat_eq n u) refl
  where
    by_test : (b : Bool) → nat_eq n u ≡ b → find_open u os ≡ Some x
    by_test true is =
        let same : n ≡ u = grind (arith, nat_tests) in
        absurd (not_found (find_open u (without_open n os)) x (subst (λ (m : ℕ). find_open m (without_open n os) ≡ None) same (none_closed n os)) h)
    by_test false is = sym (found_beside n u os is) ∙ h

own_open : (n : ℕ) (os : List Opened) (es : List CacheEntry) (ts : List Statement) → AreOwn (stands_in (without_open n os)) es ts → AreOwn (stands_in os) es ts
own_open n os [] [] h = tt
own_open n os [] (t ∷ ts) h = h
own_open n os (e ∷ es) [] h = h
own_open n os (e ∷ es) (t ∷ ts) h = (found_open n t.number os _ h.0, own_open n os es ts h.1)

-- the kept statements stand while another one is open
pub held_open : (os : List Opened) (result : Result (Option ℕ) Error) (cache : Cache Statement) → AreHeld (shut_by os result) cache → AreHeld os cache
held_open os (Ok (Some n)) cache held = record { own = own_open n os cache.register.entries cache.statements held.own; apart = held.apart }
held_open os (Ok None) cache held = held
held_open os (Err e) cache held = held

twice_by : (n : ℕ) (o : Opened) (os : List Opened) (b : Bool) → nat_eq o.statement n ≡ b → without_open n (without_open n os) ≡ without_open n os → without_open n (without_open n (o ∷ os)) ≡ without_open n (o ∷ os)
twice_by n o os true is rest = rw is rest
twice_by n o os false is rest = rw (is, is) (ap (λ (xs : List Opened). o ∷ xs) rest)

closed_twice : (n : ℕ) (os : List Opened) → without_open n (without_open n os) ≡ without_open n os
closed_twice n [] = refl
closed_twice n (o ∷ os) = twice_by n o os (nat_eq o.statement n) refl (closed_twice n os)

shut_again : (statement : Option ℕ) (old new : Seen) → new.open_statements ≡ (seen_shut statement old).open_statements → (seen_shut statement new).open_statements ≡ (seen_shut statement old).open_statements
shut_again None old new is = is
shut_again (Some n) old new is = ap (without_open n) is ∙ closed_twice n old.open_statements

-- they stand however often it is closed
pub held_ended : (statement : Option ℕ) (old new : Seen) (c c' : Cache Statement) → new.open_statements ≡ (seen_shut statement old).open_statements → c' ≡ c → AreHeldAfter statement old c → AreHeldAfter statement new c'
held_ended statement old new c c' is same held =
    subst (λ (os : List Opened). AreHeld os c') (sym (shut_again statement old new is))
    (subst (λ (x : Cache Statement). AreHeld (seen_shut statement old).open_statements x) (sym same) held)

shut_ends : (statement : Option ℕ) (s : Seen) → shut_by s.open_statements (Ok statement) ≡ (seen_shut statement s).open_statements
shut_ends None s = refl
shut_ends (Some n) s = refl

-- so do they once a load began
pub held_begun : (result : Result (Option ℕ) Error) (statement : Option ℕ) (s : Seen) (cache : Cache Statement) → result ≡ Ok statement → AreHeld (shut_by s.open_statements result) cache → AreHeldAfter statement s cache
held_begun result statement s cache is held =
    subst (λ (os : List Opened). AreHeld os cache) (ap (shut_by s.open_statements) is ∙ shut_ends statement s) held

-- ---- the start

-- memory was wanting
pub start_idle : {T : Type 0} (honest : Bool) (q : QueryView) (old roomy new : View) → roomy.seen ≡ record old.seen { item_room = roomy.seen.item_room; byte_room = roomy.seen.byte_room } → roomy ≡ record old { seen = roomy.seen }
    → (result : Result T Error) → result ≡ Err OutOfMemory → new ≡ roomy → StartsBetween honest q old new result
start_idle honest q old roomy new keeps same result is here = inl (is_idle honest q old roomy new keeps same result is here)

-- it went on over a wire
pub start_between : {W I T : Type 0} (honest : Bool) (q : QueryView) (seen : W → Seen) (status : W → Status) (told : I → Heeded) (first : Seen) (w w' : W) (c c' : Cache Statement) (i i' : I) (result : Result T Error)
    → seen w ≡ record first { item_room = (seen w).item_room; byte_room = (seen w).byte_room } → (s : Status) (k : Known) (before : Heeded) → status w ≡ s → known_of c ≡ k → told i ≡ before → query_fault first.dialect q ≡ None → Starts honest q seen status told w w' c c' i i' result
    → (let old : View = record { seen = first; status = s; heeded = before; cache = k } in let new : View = record { seen = seen w'; status = status w'; heeded = told i'; cache = known_of c' } in StartsBetween honest q old new result)
start_between honest q seen status told first w w' c c' i i' result keeps s k before is_status is_known is_told none (inl want) =
    inl (wire_idle honest q seen status told first w w' c c' i i' keeps s k before result is_status is_known is_told want)
start_between {T = T} honest q seen status told first w w' c c' i i' result keeps s k before is_status is_known is_told none (inr g) = inr (λ gather.
    let d : (seen w).dialect ≡ first.dialect = ap (λ (x : Seen). x.dialect) keeps in
    let went = wire_goes honest q seen status told first w w' c c' i i' keeps true (λ e. looks gather e q) s k before (after_start gather (seen w).dialect q result (status w') (known_of c')) is_status is_known is_told none (g gather) in
    subst (λ (e : Dialect). Goes honest (unless_fault true first.dialect q (looks gather first.dialect q) (query_fault first.dialect q) s k) (after_start gather e q result (status w') (known_of c')) first (seen w') before (told i')) d went)

not_ok : {T : Type 0} (r : Result T Error) (x : T) → r ≡ Ok x → r ≡ Err OutOfMemory → ⊥
not_ok r x e f = cc

same_error : {T : Type 0} (r : Result T Error) (e : Error) → r ≡ Err e → r ≡ Err OutOfMemory → e ≡ OutOfMemory
same_error r e f g = cc

-- a load began
pub begins_ok : (honest : Bool) (q : QueryView) (shown : List ℕ) (old started new : View) (result : Result (Option ℕ) Error) (statement : Option ℕ) → shown ≡ q.sql → started ≡ with_event old (StartQuery shown) → result ≡ Ok statement
    → StartsBetween honest q started new result → new.seen.dialect ≡ started.seen.dialect → HasServerCause started.seen new.seen (without_value result) → BeginsIf honest q.sql started.seen new.seen result → Begins honest q old new
begins_ok honest q shown old started new result statement is_shown is_started is starts same cause there =
    subst-start (subst (λ (v : View). StartsBetween honest q v new result) start starts)
  where
    start : started ≡ with_event old (StartQuery q.sql)
    start = is_started ∙ ap (λ (w : List ℕ). with_event old (StartQuery w)) is_shown

    begun : View
    begun = with_event old (StartQuery q.sql)

    subst-start : StartsBetween honest q (with_event old (StartQuery q.sql)) new result → Begins honest q old new
    subst-start (inl idle) = absurd (not_ok result statement is idle.is)
    subst-start (inr g) = record {
      goes = λ gather.
          let d = old.seen.dialect in
          let left : Process (Asked (List Values)) = unless_fault true d q (looks gather d q) (query_fault d q) old.status old.cache in
          let rest = subst (λ (r : Result (Option ℕ) Error). Goes honest left (after_start gather d q r new.status new.cache) old.seen new.seen (with_event old (StartQuery q.sql)).heeded new.heeded) is (g gather) in
          goes_further honest _ left _ old.seen old.seen new.seen old.heeded (with_event old (StartQuery q.sql)).heeded new.heeded (goes_told honest (StartQuery q.sql) left old.seen old.heeded (with_event old (StartQuery q.sql)).heeded refl) rest;
      rows = subst (λ (r : Result (Option ℕ) Error). BeginsIf honest q.sql started.seen new.seen r) is there;
      same = same ∙ ap (λ (v : View). v.seen.dialect) start;
      cause = subst (λ (v : View). HasServerCause v.seen new.seen (Ok tt)) start (subst (λ (r : Result (Option ℕ) Error). HasServerCause started.seen new.seen (without_value r)) is cause);
    }

-- or it was over
pub begins_err : (honest : Bool) (q : QueryView) (shown : List ℕ) (old started mid new : View) (result : Result (Option ℕ) Error) (e : Error) (error : Option Error) → shown ≡ q.sql → started ≡ with_event old (StartQuery shown) → result ≡ Err e
    → StartsBetween honest q started mid result → HasServerCause started.seen mid.seen (without_value result) → error ≡ Some e → new ≡ with_event mid (FinishQuery shown error) → EndsEarly honest q old new e
begins_err honest q shown old started mid new result e error is_shown is_started is starts cause is_error is_new = record {
  loads = loads_from honest q (λ (r : Result (List Values) Error). r) (λ rows. Ok rows) old new (Err e) (λ x. refl)
      (loads_by honest q (λ rows r. r ≡ Ok rows) shown old started mid new (Some e) error (Err e) is_shown is_started (between starts) is_error is_new);
  cause =
      subst (λ (v : View). HasServerCause old.seen v.seen (Err e)) (sym is_new)
      (subst (λ (v : View). HasServerCause v.seen mid.seen (Err e)) is_started (subst (λ (r : Result (Option ℕ) Error). HasServerCause started.seen mid.seen (without_value r)) is cause));
}
  where
    between : StartsBetween honest q started mid result → (let reply : Result (List Values) Error = Err e in LoadsBetween honest q (λ rows r. r ≡ Ok rows) started mid (Some e) reply)
    between (inl idle) =
        let memory = same_error result e is idle.is in
        inl (record {
          told_of = ap (λ (x : Error). Some x) memory;
          idle = record { is = ap (λ (x : Error). let r : Result (List Values) Error = Err x in r) memory; untouched = idle.untouched; cache = idle.cache; heeds = idle.heeds };
        })
    between (inr g) = inr (inr (record {
      rows = Err e;
      leaves = subst (λ (r : Result (Option ℕ) Error). Goes honest (unless_fault true started.seen.dialect q (looks rows_heard started.seen.dialect q) (query_fault started.seen.dialect q) started.status started.cache) (after_start rows_heard started.seen.dialect q r mid.status mid.cache) started.seen mid.seen started.heeded mid.heeded) is (g rows_heard);
      told = refl;
      answers = inl refl;
    }))
