-- What a session holds after a server moved, came or was asked.
use Rattle.std.proofs.Common.{◌≡◌, ℕ, ◌+◌, ◌<◌, ◌≤◌, List, [], ◌∷◌, ◌++◌, length, Option, Some, None, refl, sym, ap, ◌∙◌, arith, inl, inr}
use Rattle.std.specs.Prelude.{slice_set, sum_by}
use Rattle.std.proofs.lemmas.Bool.{cases_lt}
use Rattle.std.proofs.lemmas.List.{length_push}
use Rattle.std.proofs.Math.ListN.{length-set}
use Rattle.conn_model.specs.Seen.{Seen}
use Rattle.conn_manager.specs.Views.{View}
use Rattle.conn_reading.specs.Seats.{at_number}
use Rattle.conn_server.specs.Connected.{Connected, takes_back}
use Rattle.conn_session.specs.Transfers.{gives_slot, in_front, puts_out, adds_out, fills_places}
use Rattle.conn_session.specs.Worlds.{Pool, World, Accounts, Invariant, part, sum_all, of_number, each_server}
use Rattle.conn_session.proofs.Totals

-- where the sums of servers by their numbers are as before, so are the accounts
pub accounts_same : (old new : World) → new.connector.opened ≡ old.connector.opened → ((n : ℕ) → sum_all (of_number n) new ≡ sum_all (of_number n) old) → Accounts old → Accounts new
accounts_same old new o same a = record {
  once = λ n l. same n ∙ a.once n (omega (arith, o));
  none = λ n l. same n ∙ a.none n (omega (arith, o));
}

-- the connection in the front slot has a place of its own, and nothing stands there
pub front_within : (w : World) (v : View) → Invariant (in_front (Some v) w) → v.seen.number < length w.pool.out
front_within w v h = elim (cases_lt v.seen.number w.connector.opened) [
  | inl l ↦ omega (arith, h.places)
  | inr le ↦ absurd (omega (arith, h.accounts.none v.seen.number le, Totals.sum-first (of_number v.seen.number) w.pool.slots (Some v), Totals.number_here v.seen.number v.seen refl))
]

pub front_vacant : (w : World) (v : View) → Invariant (in_front (Some v) w) → at_number v.seen.number w.pool.out ≡ None
front_vacant w v h = by_place (at_number v.seen.number w.pool.out) refl
  where
    by_place : (o : Option View) → at_number v.seen.number w.pool.out ≡ o → o ≡ None
    by_place None e = refl
    by_place (Some u) e =
        let n = v.seen.number in
        let l : n < w.connector.opened = omega (arith, front_within w v h, h.places) in
        let here = Totals.number_here n v.seen refl in
        let there = Totals.number_here n u.seen (Totals.placed-at 0 w.pool.out n u e h.placed ∙ omega arith) in
        absurd (omega (arith, h.accounts.once n l, here, there, Totals.sum-first (of_number n) w.pool.slots (Some v), Totals.sum-at (of_number n) w.pool.out n u e))

-- the front slot's connection is out
pub handed_out : (w : World) (v : View) → Invariant (in_front (Some v) w) → Invariant (record w { pool = puts_out v.seen.number (Some v) w.pool })
handed_out w v h =
    let n = v.seen.number in
    let l = front_within w v h in
    let vacant = front_vacant w v h in
    let sums : (f : Seen → ℕ) → sum_by (part f) (slice_set w.pool.out n (Some v)) ≡ sum_by (part f) w.pool.out + f v.seen = λ f. Totals.sum-set_vacant f w.pool.out n (Some v) l vacant in
    let front : (f : Seen → ℕ) → sum_by (part f) (Some v ∷ w.pool.slots) ≡ f v.seen + sum_by (part f) w.pool.slots = λ f. Totals.sum-first f w.pool.slots (Some v) in
    record {
      accounts = accounts_same (in_front (Some v) w) (record w { pool = puts_out n (Some v) w.pool }) refl (λ m. omega (arith, sums (of_number m), front (of_number m))) h.accounts;
      places = length-set w.pool.out n (Some v) ∙ h.places;
      placed = Totals.placed-set 0 w.pool.out n v (omega arith) h.placed;
      slots = omega (arith, h.slots, sums each_server);
      room = omega (arith, h.room, sums each_server, front each_server);
    }

-- a connection was opened for the empty slot in front, and its number has a place
pub opened_front : (w : World) (k : Connected) (v : View) → v.seen.number ≡ w.connector.opened → k.opened ≡ w.connector.opened + 1 → k.returned ≡ w.connector.returned → k.room ≡ w.connector.room + 1 → Invariant (in_front None w)
    → Invariant (in_front (Some v) (record { pool = adds_out None w.pool; connector = k }))
opened_front w k v numbered o r room h =
    let back : (f : Seen → ℕ) → sum_by f k.returned ≡ sum_by f w.connector.returned = λ f. ap (sum_by f) r in
    let out : (f : Seen → ℕ) → sum_by (part f) (w.pool.out ++ None ∷ []) ≡ sum_by (part f) w.pool.out + 0 = λ f. Totals.sum-last f w.pool.out None in
    let empty : (f : Seen → ℕ) → sum_by (part f) (None ∷ w.pool.slots) ≡ 0 + sum_by (part f) w.pool.slots = λ f. Totals.sum-first f w.pool.slots None in
    let front : (f : Seen → ℕ) → sum_by (part f) (Some v ∷ w.pool.slots) ≡ f v.seen + sum_by (part f) w.pool.slots = λ f. Totals.sum-first f w.pool.slots (Some v) in
    record {
      accounts = record {
        once = λ n l. elim (cases_lt n w.connector.opened) [
          | inl lt ↦ omega (arith, h.accounts.once n lt, out (of_number n), back (of_number n), empty (of_number n), front (of_number n), Totals.number_other n v.seen (omega arith))
          | inr le ↦ omega (arith, h.accounts.none n le, out (of_number n), back (of_number n), empty (of_number n), front (of_number n), Totals.number_here n v.seen (omega arith))
        ];
        none = λ n l. omega (arith, h.accounts.none n (omega arith), out (of_number n), back (of_number n), empty (of_number n), front (of_number n), Totals.number_other n v.seen (omega arith));
      };
      places = length_push w.pool.out None ∙ omega (arith, h.places);
      placed = Totals.placed-none 0 w.pool.out h.placed;
      slots = omega (arith, h.slots, out each_server);
      room = omega (arith, h.room, out each_server, empty each_server, front each_server);
    }

-- the connection in the front slot was asked something, and is still over the same server
pub asked_front : (w : World) (v u : View) → u.seen.number ≡ v.seen.number → Invariant (in_front (Some v) w) → Invariant (in_front (Some u) w)
asked_front w v u same h =
    let old : (f : Seen → ℕ) → sum_by (part f) (Some v ∷ w.pool.slots) ≡ f v.seen + sum_by (part f) w.pool.slots = λ f. Totals.sum-first f w.pool.slots (Some v) in
    let new : (f : Seen → ℕ) → sum_by (part f) (Some u ∷ w.pool.slots) ≡ f u.seen + sum_by (part f) w.pool.slots = λ f. Totals.sum-first f w.pool.slots (Some u) in
    record {
      accounts = accounts_same (in_front (Some v) w) (in_front (Some u) w) refl (λ m. omega (arith, old (of_number m), new (of_number m), Totals.number_same m v.seen u.seen same)) h.accounts;
      places = h.places;
      placed = h.placed;
      slots = h.slots;
      room = omega (arith, h.room, old each_server, new each_server);
    }

-- the connection in the front slot was closed, and the slot is at the back, empty
pub closed_front : (w : World) (v : View) → Invariant (in_front (Some v) w) → Invariant (record { pool = gives_slot None w.pool; connector = takes_back v.seen w.connector })
closed_front w v h =
    let new : World = record { pool = gives_slot None w.pool; connector = takes_back v.seen w.connector } in
    let front : (f : Seen → ℕ) → sum_by (part f) (Some v ∷ w.pool.slots) ≡ f v.seen + sum_by (part f) w.pool.slots = λ f. Totals.sum-first f w.pool.slots (Some v) in
    let slots : (f : Seen → ℕ) → sum_by (part f) (w.pool.slots ++ None ∷ []) ≡ sum_by (part f) w.pool.slots + 0 = λ f. Totals.sum-last f w.pool.slots None in
    let back : (f : Seen → ℕ) → sum_by f (w.connector.returned ++ v.seen ∷ []) ≡ sum_by f w.connector.returned + f v.seen = λ f. Totals.sum-last_seen f w.connector.returned v.seen in
    record {
      accounts = accounts_same (in_front (Some v) w) new refl (λ m. omega (arith, front (of_number m), slots (of_number m), back (of_number m))) h.accounts;
      places = h.places;
      placed = h.placed;
      slots = omega (arith, h.slots, length_push w.pool.slots None);
      room = omega (arith, h.room, front each_server, slots each_server);
    }

-- a server was opened and is back, and the empty slot in front went to the back
pub opened_back : (w : World) (k : Connected) (s : Seen) → s.number ≡ w.connector.opened → k.opened ≡ w.connector.opened + 1 → k.returned ≡ w.connector.returned → k.room ≡ w.connector.room + 1 → Invariant (in_front None w)
    → Invariant (record { pool = adds_out None (gives_slot None w.pool); connector = takes_back s k })
opened_back w k s numbered o r room h =
    let back : (f : Seen → ℕ) → sum_by f (k.returned ++ s ∷ []) ≡ sum_by f w.connector.returned + f s = λ f. ap (λ (ss : List Seen). sum_by f (ss ++ s ∷ [])) r ∙ Totals.sum-last_seen f w.connector.returned s in
    let out : (f : Seen → ℕ) → sum_by (part f) (w.pool.out ++ None ∷ []) ≡ sum_by (part f) w.pool.out + 0 = λ f. Totals.sum-last f w.pool.out None in
    let slots : (f : Seen → ℕ) → sum_by (part f) (w.pool.slots ++ None ∷ []) ≡ sum_by (part f) w.pool.slots + 0 = λ f. Totals.sum-last f w.pool.slots None in
    let front : (f : Seen → ℕ) → sum_by (part f) (None ∷ w.pool.slots) ≡ 0 + sum_by (part f) w.pool.slots = λ f. Totals.sum-first f w.pool.slots None in
    record {
      accounts = record {
        once = λ n l. elim (cases_lt n w.connector.opened) [
          | inl lt ↦ omega (arith, h.accounts.once n lt, out (of_number n), slots (of_number n), back (of_number n), front (of_number n), Totals.number_other n s (omega arith))
          | inr le ↦ omega (arith, h.accounts.none n le, out (of_number n), slots (of_number n), back (of_number n), front (of_number n), Totals.number_here n s (omega arith))
        ];
        none = λ n l. omega (arith, h.accounts.none n (omega arith), out (of_number n), slots (of_number n), back (of_number n), front (of_number n), Totals.number_other n s (omega arith));
      };
      places = length_push w.pool.out None ∙ omega (arith, h.places);
      placed = Totals.placed-none 0 w.pool.out h.placed;
      slots = omega (arith, h.slots, out each_server, length_push w.pool.slots None);
      room = omega (arith, h.room, out each_server, slots each_server, front each_server);
    }

-- each server that was opened has its place, or gets one
pub places_filled : (p : Pool) (opened : ℕ) → length p.out ≡ opened → fills_places opened p ≡ p
places_filled p opened e = grind arith

pub place_filled : (p : Pool) (opened : ℕ) → length p.out + 1 ≡ opened → fills_places opened p ≡ adds_out None p
place_filled p opened e = grind arith

-- the empty slot in front went to the back
pub left_empty : (w : World) (k : Connected) → k.opened ≡ w.connector.opened → k.returned ≡ w.connector.returned → k.room ≡ w.connector.room → Invariant (in_front None w) → Invariant (record { pool = gives_slot None w.pool; connector = k })
left_empty w k o r room h =
    let new : World = record { pool = gives_slot None w.pool; connector = k } in
    let back : (f : Seen → ℕ) → sum_by f k.returned ≡ sum_by f w.connector.returned = λ f. ap (sum_by f) r in
    let sums : (f : Seen → ℕ) → sum_by (part f) (w.pool.slots ++ None ∷ []) ≡ sum_by (part f) w.pool.slots + 0 = λ f. Totals.sum-last f w.pool.slots None in
    let front : (f : Seen → ℕ) → sum_by (part f) (None ∷ w.pool.slots) ≡ 0 + sum_by (part f) w.pool.slots = λ f. Totals.sum-first f w.pool.slots None in
    record {
      accounts = accounts_same (in_front None w) new o (λ m. omega (arith, sums (of_number m), back (of_number m), front (of_number m))) h.accounts;
      places = h.places ∙ sym o;
      placed = h.placed;
      slots = omega (arith, h.slots, length_push w.pool.slots None);
      room = omega (arith, h.room, sums each_server, front each_server);
    }

-- a connection that was out is in the slot at the back
pub kept_back : (w : World) (n : ℕ) (v : View) → at_number n w.pool.out ≡ Some v → Invariant w → Invariant (record w { pool = gives_slot (Some v) (puts_out n None w.pool) })
kept_back w n v e h =
    let new : World = record w { pool = gives_slot (Some v) (puts_out n None w.pool) } in
    let out : (f : Seen → ℕ) → sum_by (part f) (slice_set w.pool.out n None) + f v.seen ≡ sum_by (part f) w.pool.out + 0 = λ f. Totals.sum-set_at f w.pool.out n v None e in
    let slots : (f : Seen → ℕ) → sum_by (part f) (w.pool.slots ++ Some v ∷ []) ≡ sum_by (part f) w.pool.slots + f v.seen = λ f. Totals.sum-last f w.pool.slots (Some v) in
    record {
      accounts = accounts_same w new refl (λ m. omega (arith, out (of_number m), slots (of_number m))) h.accounts;
      places = length-set w.pool.out n None ∙ h.places;
      placed = Totals.placed-left 0 w.pool.out n h.placed;
      slots = omega (arith, h.slots, out each_server, length_push w.pool.slots (Some v));
      room = omega (arith, h.room, out each_server, slots each_server);
    }

-- a connection that was out is closed, and an empty slot is at the back
pub closed_back : (w : World) (n : ℕ) (v : View) → at_number n w.pool.out ≡ Some v → Invariant w → Invariant (record { pool = gives_slot None (puts_out n None w.pool); connector = takes_back v.seen w.connector })
closed_back w n v e h =
    let new : World = record { pool = gives_slot None (puts_out n None w.pool); connector = takes_back v.seen w.connector } in
    let out : (f : Seen → ℕ) → sum_by (part f) (slice_set w.pool.out n None) + f v.seen ≡ sum_by (part f) w.pool.out + 0 = λ f. Totals.sum-set_at f w.pool.out n v None e in
    let slots : (f : Seen → ℕ) → sum_by (part f) (w.pool.slots ++ None ∷ []) ≡ sum_by (part f) w.pool.slots + 0 = λ f. Totals.sum-last f w.pool.slots None in
    let back : (f : Seen → ℕ) → sum_by f (w.connector.returned ++ v.seen ∷ []) ≡ sum_by f w.connector.returned + f v.seen = λ f. Totals.sum-last_seen f w.connector.returned v.seen in
    record {
      accounts = accounts_same w new refl (λ m. omega (arith, out (of_number m), slots (of_number m), back (of_number m))) h.accounts;
      places = length-set w.pool.out n None ∙ h.places;
      placed = Totals.placed-left 0 w.pool.out n h.placed;
      slots = omega (arith, h.slots, out each_server, length_push w.pool.slots None);
      room = omega (arith, h.room, out each_server, slots each_server);
    }

-- a connection that is out was asked something, and is still over the same server
pub asked_out : (w : World) (n : ℕ) (v u : View) → at_number n w.pool.out ≡ Some v → u.seen.number ≡ v.seen.number → Invariant w → Invariant (record w { pool = puts_out n (Some u) w.pool })
asked_out w n v u e same h =
    let new : World = record w { pool = puts_out n (Some u) w.pool } in
    let out : (f : Seen → ℕ) → sum_by (part f) (slice_set w.pool.out n (Some u)) + f v.seen ≡ sum_by (part f) w.pool.out + f u.seen = λ f. Totals.sum-set_at f w.pool.out n v (Some u) e in
    record {
      accounts = accounts_same w new refl (λ m. omega (arith, out (of_number m), Totals.number_same m v.seen u.seen same)) h.accounts;
      places = length-set w.pool.out n (Some u) ∙ h.places;
      placed = Totals.placed-set 0 w.pool.out n u (same ∙ Totals.placed-at 0 w.pool.out n v e h.placed) h.placed;
      slots = omega (arith, h.slots, out each_server);
      room = omega (arith, h.room, out each_server);
    }

-- ---- of one move

-- an empty place stays
pub vacant_same : (p : Pool) (n : ℕ) → at_number n p.out ≡ None → puts_out n None p ≡ p
vacant_same p n e = ap (λ (out : List (Option View)). record p { out = out }) (Totals.set-vacant p.out n e)

-- the slot of a connection that is out isn't in the pool
pub slot_is_out : (w : World) (n : ℕ) (v : View) (left : Pool) → at_number n w.pool.out ≡ Some v → left ≡ puts_out n None w.pool → Invariant w → length left.slots < left.size
slot_is_out w n v left there e h = omega (arith, h.slots, Totals.sum-at each_server w.pool.out n v there, ap (λ (p : Pool). length p.slots) e, ap (λ (p : Pool). p.size) e)

-- and the connector can take its server back
pub room_is_there : (w : World) (n : ℕ) (v : View) → at_number n w.pool.out ≡ Some v → Invariant w → 1 ≤ w.connector.room
room_is_there w n v there h = omega (arith, h.room, Totals.sum-at each_server w.pool.out n v there)
