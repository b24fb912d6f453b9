-- What turns do to a register.
use Rattle.std.proofs.Common.{◌≡◌, inl, inr, ℕ, ◌+◌, Bool, true, false, List, [], ◌∷◌, ◌++◌, length, Option, Some, None, Result, ap, sym, ◌∙◌, refl, subst, arith, append-nil}
use Rattle.std.specs.Prelude.{if◌then◌else◌, is_ok}
use Rattle.std.proofs.lemmas.List.{append_assoc}
use Rattle.conn_result.specs.declared.error.Error.{Error}
use Rattle.conn_model.specs.Events.{Heeded}
use Rattle.conn_model.specs.declared.value.BindType.{BindType}
use Rattle.conn_cache.specs.declared.entry.Due.{Due}
use Rattle.conn_cache.specs.declared.entry.Due.TheVariants.{Plain, Found, Clash, Exhausted, New}
use Rattle.conn_model.specs.declared.cache.CacheEntry.{CacheEntry}
use Rattle.conn_cache.specs.declared.key.StatementCacheKey.{StatementCacheKey}
use Rattle.conn_cache.specs.declared.preparer.PrepareForCache.{PrepareForCache}
use Rattle.conn_model.specs.declared.cache.CacheSize.{CacheSize}
use Rattle.conn_model.specs.declared.cache.CacheSize.TheVariants.{Unbounded, Disabled}
use Rattle.conn_cache.specs.declared.statement_cache.MaybeCached.{MaybeCached}
use Rattle.conn_cache.specs.KeyLaws.{key_equiv}
use Rattle.conn_cache.specs.Keys.{key_of, same_key}
use Rattle.conn_cache.specs.Lookups.{LooksUp, LooksUpBy}
use Rattle.conn_cache.specs.QueryViews.{QueryView}
use Rattle.conn_model.specs.Caches.{same_size, Cache, Register}
use Rattle.conn_cache.specs.Registers.{due, due_at, entry_key, entry_of, is_entry_of, is_looked_up, place_from, register_after, register_sized}
use Rattle.conn_cache.specs.Turns.{IsRising, StaysUnbounded, LookUp, Size, TakesTurn, Turn, due_beside, number_due, numbers_through, register_by, register_due, register_through}
use Rattle.conn_cache.proofs.Placing.{place_behind}

-- ---- a look-up is a turn

module _ {P T I : Type 0} (prepares : P → List ℕ → PrepareForCache → List BindType → Result T Error → P → Type 0) (told : I → Heeded) (q : QueryView) (types : List BindType) (old new : Cache T) (p p' : P) (i i' : I) (result : Result (MaybeCached T) Error) where
  left : new ≡ old → TakesTurn q types old.register new.register
  left cache = inl (ap (λ (c : Cache T). c.register) cache)

  turn-by : (d : Due) → due q types old.register ≡ d → LooksUpBy prepares told q types old new p p' i i' result d → TakesTurn q types old.register new.register
  turn-by Plain is c = left c.cache
  turn-by (Found place) is c = left c.cache
  turn-by Clash is c = left c.cache
  turn-by Exhausted is c = left c.cache
  turn-by New is c = inr (is_ok c.answer, c.register ∙ ap (register_due q types (is_ok c.answer) old.register) (sym is))

  pub takes_turn : LooksUp prepares told q types old new p p' i i' result → TakesTurn q types old.register new.register
  takes_turn (inl w) = left w.only.cache
  takes_turn (inr c) = turn-by (due q types old.register) refl c

-- ---- numbers rise

counter-sized : (size : CacheSize) (r : Register) → (register_sized size r).counter ≡ r.counter
counter-sized size r = elim (same_size size r.size) as (λ b. (if b then r else record { size = size; counter = r.counter; entries = [] }).counter ≡ r.counter) [ true ↦ refl | false ↦ refl ]

rising-by : (q : QueryView) (types : List BindType) (accepted : Bool) (r : Register) (turns : List Turn) → ((r' : Register) → IsRising r'.counter (numbers_through turns r')) → (d : Due) → IsRising r.counter (number_due r.counter d ++ numbers_through turns (register_due q types accepted r d))
rising-by q types accepted r turns rest Plain = rest r
rising-by q types accepted r turns rest (Found place) = rest r
rising-by q types accepted r turns rest Clash = rest r
rising-by q types accepted r turns rest Exhausted = rest r
rising-by q types true r turns rest New = (omega arith, rest (register_after q types true r))
rising-by q types false r turns rest New = (omega arith, rest (register_after q types false r))

pub rising : (turns : List Turn) (r : Register) → IsRising r.counter (numbers_through turns r)
rising [] r = tt
rising (LookUp q types accepted ∷ turns) r = rising-by q types accepted r turns (rising turns) (due q types r)
rising (Size size ∷ turns) r = subst (λ (n : ℕ). IsRising n (numbers_through turns (register_sized size r))) (counter-sized size r) (rising turns (register_sized size r))

-- ---- entries stay

-- the register keeps all, and has these entries in front
record IsOnFrom (front : List CacheEntry) (r : Register) : Type 0 where
  more : List CacheEntry
  entries : r.entries ≡ front ++ more
  size : r.size ≡ Unbounded

on-after : (front : List CacheEntry) (q : QueryView) (types : List BindType) (accepted : Bool) (r : Register) → IsOnFrom front r → IsOnFrom front (register_after q types accepted r)
on-after front q types true r h =
    let e = entry_of q types (r.counter + 1) in
    record { more = h.more ++ e ∷ []; entries = ap (λ (es : List CacheEntry). es ++ e ∷ []) h.entries ∙ append_assoc front h.more (e ∷ []); size = h.size }
on-after front q types false r h = record { more = h.more; entries = h.entries; size = h.size }

on-due : (front : List CacheEntry) (q : QueryView) (types : List BindType) (accepted : Bool) (r : Register) → IsOnFrom front r → (d : Due) → IsOnFrom front (register_due q types accepted r d)
on-due front q types accepted r h Plain = h
on-due front q types accepted r h (Found place) = h
on-due front q types accepted r h Clash = h
on-due front q types accepted r h Exhausted = h
on-due front q types accepted r h New = on-after front q types accepted r h

on-sized : (front : List CacheEntry) (size : CacheSize) (r : Register) → size ≡ Unbounded → IsOnFrom front r → IsOnFrom front (register_sized size r)
on-sized front size r is h = subst (λ (b : Bool). IsOnFrom front (if b then r else record { size = size; counter = r.counter; entries = [] })) (sym (ap (λ (s : CacheSize). same_size s r.size) is ∙ ap (same_size Unbounded) h.size)) h

on-through : (front : List CacheEntry) (turns : List Turn) → StaysUnbounded turns → (r : Register) → IsOnFrom front r → IsOnFrom front (register_through turns r)
on-through front [] keeps r h = h
on-through front (LookUp q types accepted ∷ turns) keeps r h = on-through front turns keeps (register_by (LookUp q types accepted) r) (on-due front q types accepted r h (due q types r))
on-through front (Size size ∷ turns) keeps r h = on-through front turns keeps.1 (register_sized size r) (on-sized front size r keeps.0 h)

-- ---- a new entry was due

record IsNewDue (q : QueryView) (types : List BindType) (r : Register) : Type 0 where
  size : r.size ≡ Unbounded
  none : place_from (key_of q types) 0 r.entries ≡ None

none-found : (q : QueryView) (types : List BindType) (counter : ℕ) (o : Option (ℕ × CacheEntry)) → due_at q types counter o ≡ New → o ≡ None
none-found q types counter None h = refl
none-found q types counter (Some p) h = elim (is_entry_of q types p.1) as (λ b. (if b then Found p.0 else Clash) ≡ New → Some p ≡ None) [ true ↦ (λ g. absurd (cc)) | false ↦ (λ g. absurd (cc)) ] h

keeps-any : (size : CacheSize) (safe : Bool) → is_looked_up size safe ≡ true → size ≡ Unbounded
keeps-any Unbounded safe h = refl
keeps-any Disabled safe h = absurd (cc)

new-due : (q : QueryView) (types : List BindType) (r : Register) → due q types r ≡ New → IsNewDue q types r
new-due q types r h =
    let found = place_from (key_of q types) 0 r.entries in
    elim (is_looked_up r.size q.is_safe) as (λ b. is_looked_up r.size q.is_safe ≡ b → (if b then due_at q types r.counter found else Plain) ≡ New → IsNewDue q types r) [
      | true ↦ (λ is g. record { size = keeps-any r.size q.is_safe is; none = none-found q types r.counter found g })
      | false ↦ (λ is g. absurd (cc))
    ] refl h

-- ---- it is found from then on

-- where the entries begin with these, and the entry of the key behind them
found-behind : (key : StatementCacheKey) (es more : List CacheEntry) (e : CacheEntry) → entry_key e ≡ key → place_from key 0 es ≡ None → place_from key 0 ((es ++ e ∷ []) ++ more) ≡ Some (length es, e)
found-behind key es more e is none =
    ap (place_from key 0) (append_assoc es (e ∷ []) more) ∙ place_behind key 0 es (e ∷ more) none
    ∙ ap (λ (b : Bool). if b then Some (0 + length es, e) else place_from key (0 + length es + 1) more) (ap (λ (k : StatementCacheKey). same_key k key) is ∙ key_equiv.refl key)
    ∙ ap (λ (n : ℕ). Some (n, e)) (omega arith)

pub found_later : (q other : QueryView) (types others : List BindType) (r : Register) (turns : List Turn) → due q types r ≡ New → StaysUnbounded turns → other.is_safe ≡ true → key_of other others ≡ key_of q types
    → due other others (register_through turns (register_after q types true r)) ≡ due_beside (length r.entries) q types other others
found_later q other types others r turns is keeps safe key =
    let new = new-due q types r is in
    let e = entry_of q types (r.counter + 1) in
    let now = register_through turns (register_after q types true r) in
    let on = on-through (r.entries ++ e ∷ []) turns keeps (register_after q types true r) (record { more = []; entries = sym (append-nil (r.entries ++ e ∷ [])); size = new.size }) in
    ap (λ (b : Bool). if b then due_at other others now.counter (place_from (key_of other others) 0 now.entries) else Plain) (ap (λ (s : CacheSize). is_looked_up s other.is_safe) on.size ∙ safe)
    ∙ ap (due_at other others now.counter) (ap (λ (es : List CacheEntry). place_from (key_of other others) 0 es) on.entries ∙ ap (λ (k : StatementCacheKey). place_from k 0 ((r.entries ++ e ∷ []) ++ on.more)) key ∙ found-behind (key_of q types) r.entries on.more e refl new.none)
