-- The context that a session shows after a place or a slot changed.
use Rattle.std.proofs.Common.{◌≡◌, ℕ, zero, suc, ◌+◌, ◌<◌, arith, Bool, true, false, if◌then◌else◌, List, [], ◌∷◌, ◌++◌, length, get_or, map, Option, None, refl, ap, sym, ◌∙◌}
use Rattle.std.specs.Prelude.{nat_lt, replicate, slice_set}
use Rattle.std.specs.Option.{option_map}
use Rattle.std.proofs.lemmas.List.{length-map, map-append, replicate_more}
use Rattle.conn_manager.specs.Views.{View}
use Rattle.conn_pool.specs.SlotViews.{SlotView, empty_slot, empty_slots}
use Rattle.conn_pool.specs.declared.pooled.PooledConnection.{PooledConnection}
use Rattle.conn_reading.specs.Seats.{Seat, at_number}
use Rattle.conn_session.specs.Transfers.{gives_slot, puts_out}
use Rattle.conn_session.specs.Responses.{seat_of}
use Rattle.conn_session.specs.Worlds.{World, context_of, filled_to, kept_views, seats_of, views_of}
use Rattle.conn_session.proofs.Numbers.{at_number-map, at_number-within, map-slice_set}

pub seats-set : (vs : List (Option View)) (n : ℕ) (o : Option View) → seats_of (slice_set vs n o) ≡ slice_set (seats_of vs) n (option_map seat_of o)
seats-set vs n o = map-slice_set (option_map seat_of) vs n o

pub seats-last : (vs : List (Option View)) (o : Option View) → seats_of (vs ++ o ∷ []) ≡ seats_of vs ++ option_map seat_of o ∷ []
seats-last vs o = map-append (option_map seat_of) vs (o ∷ [])

pub seats-at : (vs : List (Option View)) (n : ℕ) (o : Option View) → at_number n vs ≡ o → at_number n (seats_of vs) ≡ option_map seat_of o
seats-at vs n o e = at_number-map seat_of n vs ∙ ap (option_map seat_of) e

-- a place of those that are out changed
pub context-puts_out : (w : World) (n : ℕ) (o : Option View) → context_of (record w { pool = puts_out n o w.pool }) ≡ record (context_of w) { out = slice_set (context_of w).out n (option_map seat_of o) }
context-puts_out w n o = ap (λ (out : List (Option Seat)). record (context_of w) { out = out }) (seats-set w.pool.out n o)

-- so did the slots
pub context-gives_slot : (w : World) (n : ℕ) (o s : Option View)
    → context_of (record w { pool = gives_slot s (puts_out n o w.pool) }) ≡ record (context_of w) { slots = (context_of w).slots ++ option_map seat_of s ∷ []; out = slice_set (context_of w).out n (option_map seat_of o) }
context-gives_slot w n o s =
    ap (λ (slots : List (Option Seat)). record (context_of w) { slots = slots; out = seats_of (slice_set w.pool.out n o) }) (seats-last w.pool.slots s)
    ∙ ap (λ (out : List (Option Seat)). record (context_of w) { slots = (context_of w).slots ++ option_map seat_of s ∷ []; out = out }) (seats-set w.pool.out n o)

-- ---- of code

module _ {C : Type 0} (view : C → View) where
  -- one place of those that are out was written
  pub views-set : (out : List (Option (PooledConnection C))) (n : ℕ) (place : Option (PooledConnection C)) → views_of view (slice_set out n place) ≡ slice_set (views_of view out) n (option_map (λ (p : PooledConnection C). view p.connection) place)
  views-set out n place = map-slice_set (option_map (λ (p : PooledConnection C). view p.connection)) out n place

  -- each server that was opened has a place
  pub views-filled : (opened : ℕ) (out : List (Option (PooledConnection C))) → views_of view (filled_to opened out) ≡ filled_to opened (views_of view out)
  views-filled opened out = by_case (nat_lt (length out) opened) ∙ ap (λ (n : ℕ). if nat_lt n opened then views_of view out ++ None ∷ [] else views_of view out) (sym (length-map out (option_map (λ (p : PooledConnection C). view p.connection))))
    where
      by_case : (b : Bool) → views_of view (if b then out ++ None ∷ [] else out) ≡ (if b then views_of view out ++ None ∷ [] else views_of view out)
      by_case true = map-append (option_map (λ (p : PooledConnection C). view p.connection)) out (None ∷ [])
      by_case false = refl

  -- a slot went to the back
  pub kept-last : (slots : List (SlotView C)) (s : SlotView C) → kept_views view (slots ++ s ∷ []) ≡ kept_views view slots ++ option_map view s.kept ∷ []
  kept-last slots s = map-append (λ (x : SlotView C). option_map view x.kept) slots (s ∷ [])

  -- new slots keep none
  pub kept-empty : (n : ℕ) → kept_views view (empty_slots n) ≡ replicate n None
  kept-empty zero = refl
  kept-empty (suc n) = kept-last (empty_slots n) (empty_slot n) ∙ ap (λ (l : List (Option View)). l ++ None ∷ []) (kept-empty n) ∙ replicate_more n None ∙ ap (λ (k : ℕ). replicate k None) (let more : n + 1 ≡ suc n = omega arith in more)

-- what stands at a number
pub place-at : {A B : Type 0} (f : A → B) (n : ℕ) (xs : List (Option A)) (place : Option A) → n < length xs → place ≡ get_or xs n place → at_number n (map (option_map f) xs) ≡ option_map f place
place-at f n xs place l e = at_number-map f n xs ∙ ap (option_map f) (at_number-within n xs place l ∙ sym e)
