-- A look-up makes a query ready, or ends it.
use Rattle.std.proofs.Common.{◌≡◌, inl, inr, ℕ, ◌+◌, arith, Bool, true, false, List, [], ◌∷◌, ◌++◌, refl, ap, sym, ◌∙◌, subst, Option, Some, None, Result, Ok, Err, length}
use Rattle.std.specs.Prelude.{map, is_ok, IfOk, slice_get}
use Rattle.std.specs.Option.{unwrap_or}
use Rattle.std.proofs.lemmas.List.{map-append}
use Rattle.conn_result.specs.declared.error.Error.{Error}
use Rattle.conn_result.specs.declared.error.Error.TheVariants.{DatabaseError, RollbackErrorOnCommit, QueryIdClash, CounterExhausted}
use Rattle.conn_cache.specs.Lookups.{HasPreparersCause, LooksUp, LooksUpBy, new_answer, plain_answer, statements_after}
use Rattle.conn_cache.specs.Preparers.{IsPreparersError}
use Rattle.conn_model.specs.Caches.{Known, Cache}
use Rattle.conn_cache.specs.QueryProcesses.{Asked, columns_at, finishes, prepared, runs, runs_due, runs_with, types_for, with_new, without_value}
use Rattle.conn_cache.specs.QueryViews.{QueryView}
use Rattle.conn_cache.specs.Registers.{due, register_after}
use Rattle.conn_cache.specs.declared.entry.Due.{Due}
use Rattle.conn_cache.specs.declared.entry.Due.TheVariants.{Plain, Found, Clash, Exhausted, New}
use Rattle.conn_cache.specs.declared.preparer.PrepareForCache.{PrepareForCache}
use Rattle.conn_cache.specs.declared.preparer.PrepareForCache.TheVariants.{Yes, No}
use Rattle.conn_cache.specs.declared.statement_cache.MaybeCached.{MaybeCached}
use Rattle.conn_cache.specs.declared.statement_cache.MaybeCached.TheVariants.{CannotCache}
use Rattle.conn_manager.specs.Manages.{IsRefusal, HasServerCause, ask}
use Rattle.conn_manager.specs.Statuses.{Status, retold}
use Rattle.conn_model.specs.Acts.{Acts}
use Rattle.conn_model.specs.Events.{Heeded, with_events, CacheQuery}
use Rattle.conn_model.specs.Process.{Process, Heard, hear}
use Rattle.conn_model.specs.Seen.{Seen, Opened}
use Rattle.conn_model.specs.Statements.{find_open, opened_by, prepared_heard}
use Rattle.conn_model.specs.declared.item.Call.TheVariants.{Prepare}
use Rattle.conn_model.specs.declared.item.Dialect.{Dialect}
use Rattle.conn_model.specs.declared.item.Dialect.TheVariants.{Pg, Mysql, Sqlite}
use Rattle.conn_model.specs.declared.item.Refusal.{Refusal}
use Rattle.conn_model.specs.declared.reply.Prepared.{Prepared}
use Rattle.conn_model.specs.declared.value.BindType.{BindType}
use Rattle.conn_drivers.specs.Prepares.{SendsNone, SendsPrepare, WirePrepares, WirePreparesBy, name_of, sends_none, statement_by}
use Rattle.conn_drivers.specs.Queried.{Following, Goes, KeepsNone, OpensPlain, Readies, Spends, statement_columns, known_of, looked_up}
use Rattle.conn_drivers.specs.Wires.{OpensStatement}
use Rattle.conn_drivers.specs.declared.statement.Statement.{Statement}
use Rattle.conn_drivers.proofs.Going.{goes_further, goes_heard, goes_nowhere, goes_told}
use Rattle.conn_drivers.proofs.Heard.{opens_newest}

-- ---- one prepare, and then the run

-- the columns of a prepared statement
abbrev columns_in : Result Statement Error → Result ℕ Error
columns_in (Ok t) = Ok t.columns
columns_in (Err e) = Err e

module _ {A : Type 0} (honest : Bool) (d : Dialect) (q : QueryView) (loads : Bool) (following : Following A) (how : PrepareForCache) (kept : Option Refusal → ℕ → Known → Known) (old new : Seen) (s s1 : Status) (k k1 : Known) (told : Heeded) where
  -- what follows the prepare
  abbrev after_heard : Heard → Status → Process (Asked A)
  after_heard h s2 = prepared loads d q following h.refusal h.columns s2 (kept h.refusal h.columns k)

  abbrev whole : Process (Asked A)
  whole = ask d (Prepare (name_of how)) q.sql s after_heard

  -- this is known after it
  abbrev KnownBy : Result Statement Error → Type 0
  KnownBy (Ok t) = kept None t.columns k ≡ k1
  KnownBy (Err e) = (r : Refusal) → kept (Some r) 0 k ≡ k1

  -- this is left then
  abbrev left_by : Result Statement Error → Process (Asked A)
  left_by result = looked_up q following loads d (columns_in result) s1 k1

  by_answer : (a : Result Prepared Refusal) (result : Result Statement Error) → result ≡ statement_by a → Acts honest (hear (Prepare (name_of how)) q.sql) old new (prepared_heard a new.told)
      → s1 ≡ (let h = prepared_heard a new.told in retold d h.refusal h.told s) → KnownBy result → Goes honest whole (left_by result) old new told told
  by_answer (Ok x) result gives acts follows known =
      let next : Heard → Process (Asked A) = λ (h : Heard). after_heard h (retold d h.refusal h.told s) in
      let heard = goes_heard honest (Prepare (name_of how)) q.sql next (prepared_heard (Ok x) new.told) old new told acts in
      let is : kept None x.columns k ≡ k1 = subst KnownBy gives known in
      subst (λ (r : Result Statement Error). Goes honest whole (left_by r) old new told told) (sym gives)
      (subst (λ (y : Known). Goes honest whole (runs_with loads d q following x.columns s1 y) old new told told) is
      (subst (λ (x1 : Status). Goes honest whole (runs_with loads d q following x.columns x1 (kept None x.columns k)) old new told told) (sym follows) heard))
  by_answer (Err r) result gives acts follows known =
      let next : Heard → Process (Asked A) = λ (h : Heard). after_heard h (retold d h.refusal h.told s) in
      let heard = goes_heard honest (Prepare (name_of how)) q.sql next (prepared_heard (Err r) new.told) old new told acts in
      let is : kept (Some r) 0 k ≡ k1 = (subst KnownBy gives known) r in
      let e : Error = DatabaseError r.kind r.code in
      subst (λ (x : Result Statement Error). Goes honest whole (left_by x) old new told told) (sym gives)
      (subst (λ (y : Known). Goes honest whole (finishes q.sql (Err e) s1 y) old new told told) is
      (subst (λ (x1 : Status). Goes honest whole (finishes q.sql (Err e) x1 (kept (Some r) 0 k)) old new told told) (sym follows) heard))

  pub after_prepare : (result : Result Statement Error) → SendsPrepare d honest q.sql how old new s s1 result → KnownBy result → Goes honest whole (left_by result) old new told told
  after_prepare result sent known = by_answer sent.answer result sent.gives sent.acts sent.follows known

-- ---- what is known of a new entry

module _ (q : QueryView) (types : List BindType) (c c' : Cache Statement) where
  known_new : (t : Statement) → c'.register ≡ register_after q types true c.register → c'.statements ≡ c.statements ++ t ∷ [] → with_new q types None t.columns (known_of c) ≡ known_of c'
  known_new t register statements =
      let columns : Statement → ℕ = λ (u : Statement). u.columns in
      let each : map columns c.statements ++ t.columns ∷ [] ≡ map columns c'.statements = sym (ap (map columns) statements ∙ map-append columns c.statements (t ∷ [])) in
      λ i. record { register = sym register i; statements = each i }

  known_refused : (r : Refusal) (n : ℕ) → c'.register ≡ register_after q types false c.register → c'.statements ≡ c.statements → with_new q types (Some r) n (known_of c) ≡ known_of c'
  known_refused r n register statements = λ i. record { register = sym register i; statements = map (λ (u : Statement). u.columns) (sym statements i) }

newest_at : (t : Statement) (ts : List Statement) → unwrap_or (slice_get (map (λ (u : Statement). u.columns) (ts ++ t ∷ [])) (length ts)) 0 ≡ t.columns
newest_at t [] = refl
newest_at t (u ∷ us) = newest_at t us

-- the newest statement has its columns at its place
newest_columns : (t : Statement) (ts ts' : List Statement) → ts' ≡ ts ++ t ∷ [] → unwrap_or (slice_get (map (λ (u : Statement). u.columns) ts') (length ts)) 0 ≡ t.columns
newest_columns t ts ts' is = ap (λ (us : List Statement). unwrap_or (slice_get (map (λ (u : Statement). u.columns) us) (length ts)) 0) is ∙ newest_at t ts

-- a statement that is kept is sent for on every dialect
yes_sends : (d : Dialect) (n : ℕ) → sends_none d (Yes n) ≡ false
yes_sends Pg n = refl
yes_sends Mysql n = refl
yes_sends Sqlite n = refl

-- ---- each look-up

module _ {W I : Type 0} (honest : Bool) (q : QueryView) (seen : W → Seen) (status : W → Status) (told : I → Heeded) (w w' : W) (c c' : Cache Statement) (i i' : I) where
  abbrev prepares : W → List ℕ → PrepareForCache → List BindType → Result Statement Error → W → Type 0
  prepares x sql how types r y = WirePrepares honest sql how (seen x) (seen y) (status x) (status y) r

  module _ {A : Type 0} (loads : Bool) (following : Following A) where
    -- what the query does where this is due
    abbrev due_process : Dialect → Due → Process (Asked A)
    due_process d x = runs_due loads d q following x (status w) (known_of c)

    -- a statement for this run is prepared
    abbrev plain_process : Dialect → Process (Asked A)
    plain_process d = ask d (Prepare None) q.sql (status w) (λ h s1. prepared loads d q following h.refusal h.columns s1 (known_of c))

    -- one that is kept is prepared
    abbrev new_process : Dialect → Process (Asked A)
    new_process d = ask d (Prepare (Some (c.register.counter + 1))) q.sql (status w) (λ h s1. prepared loads d q following h.refusal h.columns s1 (with_new q (types_for d q) h.refusal h.columns (known_of c)))

    -- this is left where these columns or this error were found
    abbrev left_with : Dialect → Result ℕ Error → Process (Asked A)
    left_with d found = looked_up q following loads d found (status w') (known_of c')

    -- the query stands so where this was due
    abbrev StandsBy : Dialect → Due → Result (MaybeCached Statement) Error → Type 0
    StandsBy d x result = Goes honest (due_process d x) (left_with d (statement_columns (known_of c') result)) (seen w) (seen w') (told i) (told i')

    stands_still : (d : Dialect) (p : Process (Asked A)) (found : Cache Statement → Result ℕ Error) → seen w' ≡ seen w → status w' ≡ status w → c' ≡ c → i' ≡ i → p ≡ looked_up q following loads d (found c) (status w) (known_of c)
        → Goes honest p (left_with d (found c')) (seen w) (seen w') (told i) (told i')
    stands_still d p found same follows cache untold shape =
        subst (λ (x : Seen). Goes honest p (left_with d (found c')) (seen w) x (told i) (told i')) (sym same)
        (subst (λ (x : Status). Goes honest p (looked_up q following loads d (found c') x (known_of c')) (seen w) (seen w) (told i) (told i')) (sym follows)
        (subst (λ (x : Cache Statement). Goes honest p (looked_up q following loads d (found x) (status w) (known_of x)) (seen w) (seen w) (told i) (told i')) (sym cache)
        (subst (λ (x : I). Goes honest p (looked_up q following loads d (found c) (status w) (known_of c)) (seen w) (seen w) (told i) (told x)) (sym untold)
        (subst (λ (x : Process (Asked A)). Goes honest p x (seen w) (seen w) (told i) (told i)) shape (goes_nowhere honest p (seen w) (told i))))))

    -- a statement for this run alone
    plain_sent : (d : Dialect) (answer : Result Statement Error) (result : Result (MaybeCached Statement) Error) → SendsPrepare d honest q.sql No (seen w) (seen w') (status w) (status w') answer → result ≡ plain_answer answer → c' ≡ c → i' ≡ i
        → due_process d Plain ≡ plain_process d → StandsBy d Plain result
    plain_sent d answer result sent gives cache untold shape =
        let after = after_prepare honest d q loads following No (λ r n k. k) (seen w) (seen w') (status w) (status w') (known_of c) (known_of c') (told i) answer sent (known answer) in
        subst (StandsBy d Plain) (sym gives) (subst (λ (found : Result ℕ Error). Goes honest (due_process d Plain) (left_with d found) (seen w) (seen w') (told i) (told i')) (columns answer)
        (subst (λ (p : Process (Asked A)). Goes honest p (left_with d (columns_in answer)) (seen w) (seen w') (told i) (told i')) (sym shape)
        (subst (λ (x : I). Goes honest (plain_process d) (left_with d (columns_in answer)) (seen w) (seen w') (told i) (told x)) (sym untold) after)))
      where
        known : (a : Result Statement Error) → KnownBy honest d q loads following No (λ r n k. k) (seen w) (seen w') (status w) (status w') (known_of c) (known_of c') (told i) a
        known (Ok t) = ap known_of (sym cache)
        known (Err e) = λ r. ap known_of (sym cache)

        columns : (a : Result Statement Error) → columns_in a ≡ statement_columns (known_of c') (plain_answer a)
        columns (Ok t) = refl
        columns (Err e) = refl

    -- on PostgreSQL no statement lacks its columns
    pg_runs : (loads : Bool) (columns : ℕ) (s : Status) (k : Known) → runs loads Pg q following s k ≡ runs_with loads Pg q following columns s k
    pg_runs true columns s k = refl
    pg_runs false columns s k = refl

    plain_none : (answer : Result Statement Error) (result : Result (MaybeCached Statement) Error) → SendsNone (seen w) (seen w') (status w) (status w') answer → result ≡ plain_answer answer → c' ≡ c → i' ≡ i → StandsBy Pg Plain result
    plain_none answer result sent gives cache untold =
        let e : result ≡ Ok (CannotCache (record { number = 0; columns = 0 })) = gives ∙ ap plain_answer sent.gives in
        subst (StandsBy Pg Plain) (sym e) (stands_still Pg (runs loads Pg q following (status w) (known_of c)) (λ x. Ok 0) sent.seen sent.follows cache untold (pg_runs loads 0 (status w) (known_of c)))

    plain_by : (d : Dialect) (answer : Result Statement Error) (result : Result (MaybeCached Statement) Error) → WirePreparesBy (sends_none d No) d honest q.sql No (seen w) (seen w') (status w) (status w') answer → result ≡ plain_answer answer → c' ≡ c → i' ≡ i
        → StandsBy d Plain result
    plain_by Pg answer result sent gives cache untold = plain_none answer result sent gives cache untold
    plain_by Mysql answer result sent gives cache untold = plain_sent Mysql answer result sent gives cache untold refl
    plain_by Sqlite answer result sent gives cache untold = plain_sent Sqlite answer result sent gives cache untold refl

    new_sent : (d : Dialect) (answer : Result Statement Error) (result : Result (MaybeCached Statement) Error) → SendsPrepare d honest q.sql (Yes (c.register.counter + 1)) (seen w) (seen w') (status w) (status w') answer → result ≡ new_answer (length c.statements) answer
        → c'.register ≡ register_after q (types_for d q) (is_ok answer) c.register → c'.statements ≡ statements_after answer c.statements → told i' ≡ with_events (told i) (CacheQuery q.sql ∷ []) → StandsBy d New result
    new_sent d answer result sent gives register statements heeds =
        let after = after_prepare honest d q loads following (Yes (c.register.counter + 1)) (λ r n k. with_new q (types_for d q) r n k) (seen w) (seen w') (status w) (status w') (known_of c) (known_of c') (told i') answer sent (known answer register statements) in
        subst (StandsBy d New) (sym gives) (subst (λ (found : Result ℕ Error). Goes honest (due_process d New) (left_with d found) (seen w) (seen w') (told i) (told i')) (columns answer statements)
        (goes_further honest (due_process d New) (new_process d) (left_with d (columns_in answer)) (seen w) (seen w) (seen w') (told i) (told i') (told i') (goes_told honest (CacheQuery q.sql) (new_process d) (seen w) (told i) (told i') heeds) after))
      where
        known : (a : Result Statement Error) → c'.register ≡ register_after q (types_for d q) (is_ok a) c.register → c'.statements ≡ statements_after a c.statements
            → KnownBy honest d q loads following (Yes (c.register.counter + 1)) (λ r n k. with_new q (types_for d q) r n k) (seen w) (seen w') (status w) (status w') (known_of c) (known_of c') (told i') a
        known (Ok t) register statements = known_new q (types_for d q) c c' t register statements
        known (Err e) register statements = λ r. known_refused q (types_for d q) c c' r 0 register statements

        columns : (a : Result Statement Error) → c'.statements ≡ statements_after a c.statements → columns_in a ≡ statement_columns (known_of c') (new_answer (length c.statements) a)
        columns (Ok t) statements = ap (λ (n : ℕ). let r : Result ℕ Error = Ok n in r) (sym (newest_columns t c.statements c'.statements statements))
        columns (Err e) statements = refl

    stands_by : (x : Due) (result : Result (MaybeCached Statement) Error) → LooksUpBy prepares told q (types_for (seen w).dialect q) c c' w w' i i' result x → StandsBy (seen w).dialect x result
    stands_by Plain result h = plain_by (seen w).dialect h.answer result h.did h.gives h.cache h.untold
    stands_by (Found place) result h =
        subst (StandsBy (seen w).dialect (Found place)) (sym h.gives) (stands_still (seen w).dialect (due_process (seen w).dialect (Found place)) (λ x. Ok (columns_at place (known_of x))) (ap seen h.preparer) (ap status h.preparer) h.cache h.untold refl)
    stands_by Clash result h = subst (StandsBy (seen w).dialect Clash) (sym h.gives) (stands_still (seen w).dialect (due_process (seen w).dialect Clash) (λ x. Err QueryIdClash) (ap seen h.preparer) (ap status h.preparer) h.cache h.untold refl)
    stands_by Exhausted result h = subst (StandsBy (seen w).dialect Exhausted) (sym h.gives) (stands_still (seen w).dialect (due_process (seen w).dialect Exhausted) (λ x. Err CounterExhausted) (ap seen h.preparer) (ap status h.preparer) h.cache h.untold refl)
    stands_by New result h =
        new_sent (seen w).dialect h.answer result
        (subst (λ (b : Bool). WirePreparesBy b (seen w).dialect honest q.sql (Yes (c.register.counter + 1)) (seen w) (seen w') (status w) (status w') h.answer) (yes_sends (seen w).dialect (c.register.counter + 1)) h.did)
        h.gives h.register h.statements h.heeds

  -- a look-up makes a query ready, or ends it
  pub readies : (result : Result (MaybeCached Statement) Error) → LooksUp prepares told q (types_for (seen w).dialect q) c c' w w' i i' result → Readies honest q seen status told w w' c c' i i' result
  readies result (inl want) = inl (record { is = want.only.gives; wire = want.only.preparer; cache = want.only.cache; handler = want.only.untold })
  readies result (inr h) = inr (λ loads following. stands_by loads following (due q (types_for (seen w).dialect q) c.register) result h)

  -- ---- what it used up

  spends_none : seen w' ≡ seen w → Spends 1 (length q.sql) (seen w) (seen w')
  spends_none same = subst (λ (x : Seen). Spends 1 (length q.sql) (seen w) x) (sym same) (record { dialect = refl; item_fall = omega arith; byte_fall = omega arith; given = refl })

  spends_by : (none : Bool) (d : Dialect) (how : PrepareForCache) (answer : Result Statement Error) → WirePreparesBy none d honest q.sql how (seen w) (seen w') (status w) (status w') answer → Spends 1 (length q.sql) (seen w) (seen w')
  spends_by true d how answer sent = spends_none sent.seen
  spends_by false d how answer sent = record { dialect = sent.acts.same.dialect; item_fall = sent.items; byte_fall = sent.bytes; given = sent.given }

  spends_due : (types : List BindType) (x : Due) (result : Result (MaybeCached Statement) Error) → LooksUpBy prepares told q types c c' w w' i i' result x → Spends 1 (length q.sql) (seen w) (seen w')
  spends_due types Plain result h = spends_by (sends_none (seen w).dialect No) (seen w).dialect No h.answer h.did
  spends_due types (Found place) result h = spends_none (ap seen h.preparer)
  spends_due types Clash result h = spends_none (ap seen h.preparer)
  spends_due types Exhausted result h = spends_none (ap seen h.preparer)
  spends_due types New result h = spends_by (sends_none (seen w).dialect (Yes (c.register.counter + 1))) (seen w).dialect (Yes (c.register.counter + 1)) h.answer h.did

  pub spends_one : (types : List BindType) (result : Result (MaybeCached Statement) Error) → LooksUp prepares told q types c c' w w' i i' result → Spends 1 (length q.sql) (seen w) (seen w')
  spends_one types result (inl want) = spends_none (ap seen want.only.preparer)
  spends_one types result (inr h) = spends_due types (due q types c.register) result h

  -- ---- a statement for one run

  abbrev KeepsIn : Dialect → Result (MaybeCached Statement) Error → Type 0
  KeepsIn d result = KeepsNone d q.sql (seen w).open_statements (seen w').open_statements c c' result

  opens_sent : (d : Dialect) (t : Statement) → SendsPrepare d honest q.sql No (seen w) (seen w') (status w) (status w') (Ok t) → OpensStatement q.sql (seen w).open_statements (seen w').open_statements t.number
  opens_sent d t sent = by_prepared sent.answer sent.gives sent.fresh sent.opens
    where
      by_prepared : (a : Result Prepared Refusal) → Ok t ≡ statement_by a → IfOk a (λ p. find_open p.statement (seen w).open_statements ≡ None) → (seen w').open_statements ≡ opened_by q.sql a (seen w).open_statements
          → OpensStatement q.sql (seen w).open_statements (seen w').open_statements t.number
      by_prepared (Err r) gives fresh opens = absurd (cc)
      by_prepared (Ok p) gives fresh opens =
          let whole : t ≡ record { number = p.statement; columns = p.columns } = cc in
          let same : p.statement ≡ t.number = sym (ap (λ (u : Statement). u.number) whole) in
          subst (λ (n : ℕ). OpensStatement q.sql (seen w).open_statements (seen w').open_statements n) same
          (subst (λ (os : List Opened). OpensStatement q.sql (seen w).open_statements os p.statement) (sym opens) (opens_newest q.sql (seen w).open_statements p fresh))

  opens_plain : (d : Dialect) (t : Statement) → WirePreparesBy (sends_none d No) d honest q.sql No (seen w) (seen w') (status w) (status w') (Ok t) → OpensPlain d q.sql (seen w).open_statements (seen w').open_statements t
  opens_plain Pg t sent = ap (λ (x : Seen). x.open_statements) sent.seen
  opens_plain Mysql t sent = opens_sent Mysql t sent
  opens_plain Sqlite t sent = opens_sent Sqlite t sent

  keeps_plain : (d : Dialect) (answer : Result Statement Error) → WirePreparesBy (sends_none d No) d honest q.sql No (seen w) (seen w') (status w) (status w') answer → c' ≡ c → KeepsIn d (plain_answer answer)
  keeps_plain d (Ok t) sent cache = (opens_plain d t sent, cache)
  keeps_plain d (Err e) sent cache = tt

  keeps_new : (d : Dialect) (answer : Result Statement Error) (place : ℕ) → KeepsIn d (new_answer place answer)
  keeps_new d (Ok t) place = tt
  keeps_new d (Err e) place = tt

  keeps_due : (types : List BindType) (x : Due) (result : Result (MaybeCached Statement) Error) → LooksUpBy prepares told q types c c' w w' i i' result x → KeepsIn (seen w).dialect result
  keeps_due types Plain result h = subst (KeepsIn (seen w).dialect) (sym h.gives) (keeps_plain (seen w).dialect h.answer h.did h.cache)
  keeps_due types (Found place) result h = subst (KeepsIn (seen w).dialect) (sym h.gives) tt
  keeps_due types Clash result h = subst (KeepsIn (seen w).dialect) (sym h.gives) tt
  keeps_due types Exhausted result h = subst (KeepsIn (seen w).dialect) (sym h.gives) tt
  keeps_due types New result h = subst (KeepsIn (seen w).dialect) (sym h.gives) (keeps_new (seen w).dialect h.answer (length c.statements))

  pub keeps_none : (types : List BindType) (result : Result (MaybeCached Statement) Error) → LooksUp prepares told q types c c' w w' i i' result → KeepsIn (seen w).dialect result
  keeps_none types result (inl want) = subst (KeepsIn (seen w).dialect) (sym want.only.gives) tt
  keeps_none types result (inr h) = keeps_due types (due q types c.register) result h

-- ---- causes

is_preparers : (e : Error) → IsRefusal (Err e) → IsPreparersError e
is_preparers (DatabaseError kind code) h = tt
is_preparers (RollbackErrorOnCommit rollback commit) h = tt
is_preparers _ h = absurd h

pub looked_cause : {T : Type 0} (old new : Seen) (result : Result T Error) → HasPreparersCause old.failures new.failures result → HasServerCause old new (without_value result)
looked_cause old new (Ok t) cause = record { later = cause.later; refused = λ h. absurd h }
looked_cause old new (Err e) cause = record { later = cause.later; refused = λ h. cause.failed (is_preparers e h) }
