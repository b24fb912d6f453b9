-- A look-up keeps a cache sound, and what it gives stands for the query's text.
use Rattle.std.proofs.Common.{◌≡◌, inl, inr, ℕ, zero, suc, ◌+◌, Bool, true, false, List, [], ◌∷◌, ◌++◌, length, Option, Some, None, Result, Ok, Err, ap, sym, ◌∙◌, refl, subst, arith}
use Rattle.std.specs.Prelude.{if◌then◌else◌, ◌-◌, ◌^◌, nat_eq, slice_get, is_ok}
use Rattle.std.specs.Cmp.{first_so}
use Rattle.conn_result.specs.declared.error.Error.{Error}
use Rattle.conn_model.specs.Classes.{same_text}
use Rattle.conn_model.specs.Events.{Heeded}
use Rattle.conn_model.specs.declared.value.BindType.{BindType}
use Rattle.conn_cache.specs.declared.entry.Due.{Due}
use Rattle.conn_cache.specs.declared.entry.Due.TheVariants.{Plain, Found, Clash, Exhausted, New}
use Rattle.conn_model.specs.declared.cache.CacheEntry.{CacheEntry}
use Rattle.conn_cache.specs.declared.preparer.PrepareForCache.{PrepareForCache}
use Rattle.conn_cache.specs.declared.preparer.PrepareForCache.TheVariants.{Yes, No}
use Rattle.conn_cache.specs.declared.statement_cache.MaybeCached.{MaybeCached}
use Rattle.conn_cache.specs.declared.statement_cache.MaybeCached.TheVariants.{Cached}
use Rattle.conn_model.specs.TextLaws.{text_is}
use Rattle.conn_cache.specs.Keys.{key_of, same_types}
use Rattle.conn_cache.specs.Lookups.{AnswersOnly, LooksUp, LooksUpBy, new_answer, plain_answer, statements_after}
use Rattle.conn_cache.specs.Preparers.{IsApart, IsFresh, IsServed, StandStill}
use Rattle.conn_cache.specs.QueryViews.{QueryView}
use Rattle.conn_model.specs.Caches.{Cache, Register}
use Rattle.conn_cache.specs.Registers.{due, due_at, due_new, entry_of, is_entry_of, is_looked_up, place_from, register_after}
use Rattle.conn_cache.specs.Soundness.{AreApart, AreOwn, IsOwnAnswer, IsOwnStatement, IsSound}
use Rattle.conn_cache.proofs.Placing.{found_place}

module _ {T : Type 0} where
  own_still : (before after : T → List ℕ → Type 0) → ((u : T) (text : List ℕ) → before u text → after u text) → (es : List CacheEntry) (ts : List T) → AreOwn before es ts → AreOwn after es ts
  own_still before after keeps [] [] h = tt
  own_still before after keeps [] (t ∷ ts) h = h
  own_still before after keeps (e ∷ es) [] h = h
  own_still before after keeps (e ∷ es) (t ∷ ts) h = (keeps t e.sql h.0, own_still before after keeps es ts h.1)

  own_more : (stands : T → List ℕ → Type 0) (es : List CacheEntry) (ts : List T) (e : CacheEntry) (t : T) → AreOwn stands es ts → stands t e.sql → AreOwn stands (es ++ e ∷ []) (ts ++ t ∷ [])
  own_more stands [] [] e t h s = (s, tt)
  own_more stands [] (u ∷ ts) e t h s = absurd h
  own_more stands (d ∷ es) [] e t h s = absurd h
  own_more stands (d ∷ es) (u ∷ ts) e t h s = (h.0, own_more stands es ts e t h.1 s)

  apart_push : (u : T) (us : List T) (t : T) → IsApart u us → (t ≡ u → ⊥) → IsApart u (us ++ t ∷ [])
  apart_push u [] t h n = (n, tt)
  apart_push u (v ∷ us) t h n = (h.0, apart_push u us t h.1 n)

  apart_more : (before : T → List ℕ → Type 0) (es : List CacheEntry) (ts : List T) (t : T) → AreOwn before es ts → ((text : List ℕ) → before t text → ⊥) → AreApart ts → AreApart (ts ++ t ∷ [])
  apart_more before [] [] t own fresh h = (tt, tt)
  apart_more before [] (u ∷ ts) t own fresh h = absurd own
  apart_more before (e ∷ es) [] t own fresh h = absurd own
  apart_more before (e ∷ es) (u ∷ ts) t own fresh h = (apart_push u ts t h.0 (λ same. fresh e.sql (subst (λ (x : T). before x e.sql) (sym same) own.0)), apart_more before es ts t own.1 fresh h.1)

  own_at : (stands : T → List ℕ → Type 0) (es : List CacheEntry) (ts : List T) (place : ℕ) (e : CacheEntry) → AreOwn stands es ts → slice_get es place ≡ Some e → IsOwnStatement stands e.sql (slice_get ts place)
  own_at stands [] ts place e h at = absurd (cc)
  own_at stands (d ∷ es) [] place e h at = absurd h
  own_at stands (d ∷ es) (t ∷ ts) zero e h at = let same : d ≡ e = cc in subst (λ (x : CacheEntry). stands t x.sql) same h.0
  own_at stands (d ∷ es) (t ∷ ts) (suc place) e h at = own_at stands es ts place e h.1 at

  own_last : (stands : T → List ℕ → Type 0) (sql : List ℕ) (ts : List T) (t : T) → stands t sql → IsOwnStatement stands sql (slice_get (ts ++ t ∷ []) (length ts))
  own_last stands sql [] t s = s
  own_last stands sql (u ∷ ts) t s = own_last stands sql ts t s

-- a place that is due is that of an entry with the query's text
record IsOwnPlace (q : QueryView) (es : List CacheEntry) (place : ℕ) : Type 0 where
  entry : CacheEntry
  stands : slice_get es place ≡ Some entry
  text : entry.sql ≡ q.sql

module _ (q : QueryView) (types : List BindType) (place : ℕ) where
  not-new : (counter : ℕ) → due_new counter ≡ Found place → ⊥
  not-new counter h = elim (nat_eq counter (2 ^ 64 - 1)) as (λ b. (if b then Exhausted else New) ≡ Found place → ⊥) [ true ↦ (λ g. absurd (cc)) | false ↦ (λ g. absurd (cc)) ] h

  own-entry : (es : List CacheEntry) (p : ℕ × CacheEntry) → place_from (key_of q types) 0 es ≡ Some p → is_entry_of q types p.1 ≡ true → p.0 ≡ place → IsOwnPlace q es place
  own-entry es p is same at =
      let there = found_place (key_of q types) 0 es p is in
      record {
        entry = p.1;
        stands = ap (λ (n : ℕ). slice_get es n) (omega (arith, at, there.is)) ∙ there.stands;
        text = text_is p.1.sql q.sql (first_so (same_text p.1.sql q.sql) (same_types p.1.types types) same);
      }

  own-found : (counter : ℕ) (es : List CacheEntry) (o : Option (ℕ × CacheEntry)) → place_from (key_of q types) 0 es ≡ o → due_at q types counter o ≡ Found place → IsOwnPlace q es place
  own-found counter es None is h = absurd (not-new counter h)
  own-found counter es (Some p) is h =
      elim (is_entry_of q types p.1) as (λ b. is_entry_of q types p.1 ≡ b → (if b then Found p.0 else Clash) ≡ Found place → IsOwnPlace q es place) [
        | true ↦ (λ same g. own-entry es p is same (cc))
        | false ↦ (λ same g. absurd (cc))
      ] refl h

  own_place : (r : Register) → due q types r ≡ Found place → IsOwnPlace q r.entries place
  own_place r h =
      elim (is_looked_up r.size q.is_safe) as (λ b. (if b then due_at q types r.counter (place_from (key_of q types) 0 r.entries) else Plain) ≡ Found place → IsOwnPlace q r.entries place) [
        | true ↦ (λ g. own-found r.counter r.entries (place_from (key_of q types) 0 r.entries) refl g)
        | false ↦ (λ g. absurd (cc))
      ] h

module _ {P T I : Type 0} (prepares : P → List ℕ → PrepareForCache → List BindType → Result T Error → P → Type 0) (stands : P → T → List ℕ → Type 0) (serves_no : Bool) (told : I → Heeded)
    (apart : (p q : P) (sql : List ℕ) (how : PrepareForCache) (types : List BindType) (t : T) → prepares p sql how types (Ok t) q → IsServed serves_no how → IsFresh (stands p) (stands q) t sql)
    (others : (p q : P) (sql : List ℕ) (how : PrepareForCache) (types : List BindType) (r : Result T Error) → prepares p sql how types r q → StandStill (stands p) (stands q))
    (q : QueryView) (types : List BindType) (old new : Cache T) (p p' : P) (i i' : I) (result : Result (MaybeCached T) Error) where
  -- ---- the cache stays sound

  sound-only : (answer : Result (MaybeCached T) Error) → AnswersOnly prepares told q types old new p p' i i' result answer → IsSound (stands p) old → IsSound (stands p') new
  sound-only answer o h = rw (o.cache, o.preparer) h

  still-own : (how : PrepareForCache) (r : Result T Error) → prepares p q.sql how types r p' → IsSound (stands p) old → AreOwn (stands p') old.register.entries old.statements
  still-own how r did h = own_still (stands p) (stands p') (others p p' q.sql how types r did) old.register.entries old.statements h.own

  sound-new : (r : Result T Error) → prepares p q.sql (Yes (old.register.counter + 1)) types r p' → new.register ≡ register_after q types (is_ok r) old.register → new.statements ≡ statements_after r old.statements → IsSound (stands p) old → IsSound (stands p') new
  sound-new (Ok t) did register statements h =
      let fresh = apart p p' q.sql (Yes (old.register.counter + 1)) types t did tt in
      record {
        own = rw (register, statements) (own_more (stands p') old.register.entries old.statements (entry_of q types (old.register.counter + 1)) t (still-own (Yes (old.register.counter + 1)) (Ok t) did h) fresh.stands);
        apart = rw statements (apart_more (stands p) old.register.entries old.statements t h.own fresh.apart h.apart);
      }
  sound-new (Err e) did register statements h = record { own = rw (register, statements) (still-own (Yes (old.register.counter + 1)) (Err e) did h); apart = rw statements h.apart }

  sound-by : (d : Due) → LooksUpBy prepares told q types old new p p' i i' result d → IsSound (stands p) old → IsSound (stands p') new
  sound-by Plain c h = rw c.cache (record { own = still-own No c.answer c.did h; apart = h.apart })
  sound-by (Found place) c h = sound-only _ c h
  sound-by Clash c h = sound-only _ c h
  sound-by Exhausted c h = sound-only _ c h
  sound-by New c h = sound-new c.answer c.did c.register c.statements h

  pub stays_sound : LooksUp prepares told q types old new p p' i i' result → IsSound (stands p) old → IsSound (stands p') new
  stays_sound (inl w) h = sound-only _ w.only h
  stays_sound (inr c) h = sound-by (due q types old.register) c h

  -- ---- what is given is the query's own

  own-plain : (r : Result T Error) → prepares p q.sql No types r p' → IsOwnAnswer (stands p') serves_no q.sql new.statements (plain_answer r)
  own-plain (Ok t) did = λ served. (apart p p' q.sql No types t did served).stands
  own-plain (Err e) did = tt

  own-new : (r : Result T Error) → prepares p q.sql (Yes (old.register.counter + 1)) types r p' → new.statements ≡ statements_after r old.statements → IsOwnAnswer (stands p') serves_no q.sql new.statements (new_answer (length old.statements) r)
  own-new (Ok t) did statements = rw statements (own_last (stands p') q.sql old.statements t (apart p p' q.sql (Yes (old.register.counter + 1)) types t did tt).stands)
  own-new (Err e) did statements = tt

  own-kept : (place : ℕ) → due q types old.register ≡ Found place → new ≡ old → p' ≡ p → IsSound (stands p) old → IsOwnAnswer (stands p') serves_no q.sql new.statements (Ok (Cached place))
  own-kept place is cache preparer h =
      let there = own_place q types place old.register is in
      rw (cache, preparer) (subst (λ (sql : List ℕ). IsOwnStatement (stands p) sql (slice_get old.statements place)) there.text (own_at (stands p) old.register.entries old.statements place there.entry h.own there.stands))

  own-by : (d : Due) → due q types old.register ≡ d → LooksUpBy prepares told q types old new p p' i i' result d → IsSound (stands p) old → IsOwnAnswer (stands p') serves_no q.sql new.statements result
  own-by Plain is c h = rw c.gives (own-plain c.answer c.did)
  own-by (Found place) is c h = rw c.gives (own-kept place is c.cache c.preparer h)
  own-by Clash is c h = rw c.gives tt
  own-by Exhausted is c h = rw c.gives tt
  own-by New is c h = rw c.gives (own-new c.answer c.did c.statements)

  pub gives_own : LooksUp prepares told q types old new p p' i i' result → IsSound (stands p) old → IsOwnAnswer (stands p') serves_no q.sql new.statements result
  gives_own (inl w) h = rw w.only.gives tt
  gives_own (inr c) h = own-by (due q types old.register) refl c h

  -- ---- the other statements stand still

  still-by : (d : Due) → LooksUpBy prepares told q types old new p p' i i' result d → StandStill (stands p) (stands p')
  still-by Plain c u text s = others p p' q.sql No types c.answer c.did u text s
  still-by (Found place) c u text s = rw c.preparer s
  still-by Clash c u text s = rw c.preparer s
  still-by Exhausted c u text s = rw c.preparer s
  still-by New c u text s = others p p' q.sql (Yes (old.register.counter + 1)) types c.answer c.did u text s

  pub stand_still : LooksUp prepares told q types old new p p' i i' result → StandStill (stands p) (stands p')
  stand_still (inl w) u text s = rw w.only.preparer s
  stand_still (inr c) u text s = still-by (due q types old.register) c u text s
