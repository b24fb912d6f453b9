-- Statements are closed, one after the other.
use Rattle.std.proofs.Common.{◌≡◌, ℕ, List, [], ◌∷◌, ◌++◌, ap, refl, subst, sym, ◌∙◌}
use Rattle.std.specs.Prelude.{reverse}
use Rattle.std.proofs.lemmas.List.{reverse-append, reverse-reverse}
use Rattle.conn_cache.specs.Preparers.{EachStands, IsApart, StandBeside}
use Rattle.conn_cache.specs.Sizes.{ClosesAll}
use Rattle.conn_cache.specs.Soundness.{AreApart, AreOwn}
use Rattle.conn_model.specs.declared.cache.CacheEntry.{CacheEntry}

pub closes_more : {P T : Type 0} (closes : P → T → P → Type 0) (p mid new : P) (done : List T) (t : T) → ClosesAll closes p done mid → closes mid t new → ClosesAll closes p (done ++ t ∷ []) new
closes_more closes p mid new [] t h c = (new, subst (λ (x : _). closes x t new) h c, refl)
closes_more closes p mid new (d ∷ done) t h c = (h.0, h.1, closes_more closes h.0 mid new done t h.2 c)

module _ {T : Type 0} (u : T) where
  apart-front : (ts us : List T) → IsApart u (ts ++ us) → IsApart u ts
  apart-front [] us h = tt
  apart-front (t ∷ ts) us h = (h.0, apart-front ts us h.1)

  apart-rest : (ts us : List T) → IsApart u (ts ++ us) → IsApart u us
  apart-rest [] us h = h
  apart-rest (t ∷ ts) us h = apart-rest ts us h.1

  pub apart_back : (ts : List T) → IsApart u (reverse ts) → IsApart u ts
  apart_back [] h = tt
  apart_back (t ∷ ts) h =
      let turned = subst (IsApart u) (reverse-append (t ∷ []) ts) h in
      ((apart-rest (reverse ts) (t ∷ []) turned).0, apart_back ts (apart-front (reverse ts) (t ∷ []) turned))

-- ---- turned round

-- what is apart from these is apart from them in any order
apart_turned : {T : Type 0} (u : T) (ts : List T) → IsApart u ts → IsApart u (reverse ts)
apart_turned u ts h = apart_back u (reverse ts) (subst (IsApart u) (sym (reverse-reverse ts)) h)

-- one more at the end
apart_at_end : {T : Type 0} (u t : T) (us : List T) → IsApart u us → (t ≡ u → ⊥) → IsApart u (us ++ t ∷ [])
apart_at_end u t [] h other = (other, tt)
apart_at_end u t (v ∷ us) h other = (h.0, apart_at_end u t us h.1 other)

each_apart : {T : Type 0} (t : T) (us : List T) → IsApart t us → AreApart us → AreApart (us ++ t ∷ [])
each_apart t [] h apart = (tt, tt)
each_apart t (v ∷ us) h apart = (apart_at_end v t us apart.0 (λ same. h.0 (sym same)), each_apart t us h.1 apart.1)

each_apart_turned : {T : Type 0} (ts : List T) → AreApart ts → AreApart (reverse ts)
each_apart_turned [] h = tt
each_apart_turned (t ∷ ts) h = subst AreApart (sym (reverse-append (t ∷ []) ts)) (each_apart t (reverse ts) (apart_turned t ts h.0) (each_apart_turned ts h.1))

stands_at_end : {T : Type 0} (stands : T → List ℕ → Type 0) (us : List T) (t : T) → EachStands stands us → ((text : List ℕ) × stands t text) → EachStands stands (us ++ t ∷ [])
stands_at_end stands [] t h last = (last, tt)
stands_at_end stands (u ∷ us) t h last = (h.0, stands_at_end stands us t h.1 last)

each_stands_turned : {T : Type 0} (stands : T → List ℕ → Type 0) (ts : List T) → EachStands stands ts → EachStands stands (reverse ts)
each_stands_turned stands [] h = tt
each_stands_turned stands (t ∷ ts) h = subst (EachStands stands) (sym (reverse-append (t ∷ []) ts)) (stands_at_end stands (reverse ts) t (each_stands_turned stands ts h.1) h.0)

-- the statements of a sound cache stand for texts
pub each_own : {T : Type 0} (stands : T → List ℕ → Type 0) (es : List CacheEntry) (ts : List T) → AreOwn stands es ts → EachStands stands ts
each_own stands [] [] h = tt
each_own stands [] (t ∷ ts) h = absurd h
each_own stands (e ∷ es) [] h = tt
each_own stands (e ∷ es) (t ∷ ts) h = ((e.sql, h.0), each_own stands es ts h.1)

-- ---- the others

module _ {P T : Type 0} (closes : P → T → P → Type 0) (stands : P → T → List ℕ → Type 0) (others : (p q : P) (t : T) (text : List ℕ) → stands p t text → closes p t q → StandBeside (t ∷ []) (stands p) (stands q)) where
  -- the first was closed, and the rest stand still
  rest_stands : (p q : P) (t : T) (text : List ℕ) (us : List T) → stands p t text → closes p t q → IsApart t us → EachStands (stands p) us → EachStands (stands q) us
  rest_stands p q t text [] own closed apart h = tt
  rest_stands p q t text (u ∷ us) own closed apart h =
      ((h.0.0, others p q t text own closed u h.0.0 ((λ same. apart.0 (sym same)), tt) h.0.1), rest_stands p q t text us own closed apart.1 h.1)

  stand-through : (p p' : P) (ts : List T) → AreApart ts → EachStands (stands p) ts → ClosesAll closes p ts p' → StandBeside ts (stands p) (stands p')
  stand-through p p' [] each own h u text apart s = subst (λ (q : P). stands q u text) (sym h) s
  stand-through p p' (t ∷ ts) each own h u text apart s =
      stand-through h.0 p' ts each.1 (rest_stands p h.0 t own.0.0 ts own.0.1 h.1 each.0 own.1) h.2 u text apart.1 (others p h.0 t own.0.0 own.0.1 h.1 u text (apart.0, tt) s)

  -- what was closed in the other order leaves the others
  pub stand_beside : (p p' : P) (ts done : List T) → ts ≡ reverse done → ClosesAll closes p done p' → AreApart ts → EachStands (stands p) ts → StandBeside ts (stands p) (stands p')
  stand_beside p p' ts done is h each own u text apart s =
      let turned : reverse ts ≡ done = ap reverse is ∙ reverse-reverse done in
      stand-through p p' done (subst AreApart turned (each_apart_turned ts each)) (subst (EachStands (stands p)) turned (each_stands_turned (stands p) ts own)) h u text (apart_back u done (subst (IsApart u) is apart)) s
