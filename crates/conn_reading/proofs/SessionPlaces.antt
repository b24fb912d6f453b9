-- A connection of a session is taken from its place, is handed out, or leaves its slot empty.
use Rattle.std.proofs.Common.{◌≡◌, ◌≢◌, ℕ, suc, ◌+◌, ◌<◌, ◌≤◌, List, [], ◌∷◌, ◌++◌, append-nil, length, length-append, length-set, Option, Some, None, refl, sym, ap, subst, ◌∙◌, arith, inl, inr}
use Rattle.std.specs.Prelude.{slice_set}
use Rattle.std.proofs.lemmas.Bool.{cases_eq}
use Rattle.std.proofs.lemmas.Bool.Decides.{leb_tells}
use Rattle.conn_model.specs.declared.item.Dialect.{Dialect}
use Rattle.conn_manager.specs.Manages.{Done}
use Rattle.conn_reading.specs.Answered.{ServerLogs, with_left}
use Rattle.conn_reading.specs.Histories.{Operation}
use Rattle.conn_reading.specs.Reading.{Read}
use Rattle.conn_reading.specs.Seats.{Seat, at_number}
use Rattle.conn_reading.specs.Sessions.{Each}
use Rattle.conn_reading.proofs.ByNumber.{one_there, at_within, at-set, at-set_other, at-last, at-last_other}
use Rattle.conn_reading.proofs.EachSeat.{held, count, held-append, each-append, count-append, count_here, count_other, each_other}
use Rattle.conn_reading.proofs.SessionCalls.{CallReads, with_call, call_tracked, call_apart, call_other}
use Rattle.conn_reading.proofs.SessionKept.{Tracks, SeatOf, IsAtNumber, IsFree, Keeps}

-- a slot that goes to the back empty holds no connection
held-empty : (slots : List (Option Seat)) → held slots ≡ held (slots ++ None ∷ [])
held-empty slots = sym (held-append slots (None ∷ []) ∙ append-nil (held slots))

module _ (d : Dialect) (logs left : ServerLogs) (tracks : Tracks) (out : List (Option Seat)) (opened : ℕ) where
  pub emptied_keeps : (slots : List (Option Seat)) → Keeps d logs left tracks (held slots) out opened → Keeps d logs left tracks (held (slots ++ None ∷ [])) out opened
  emptied_keeps slots h = subst (λ (seats : List Seat). Keeps d logs left tracks seats out opened) (held-empty slots) h

-- an opened connection of this number is neither in a slot nor out
pub record IsAway (slots : List Seat) (out : List (Option Seat)) (opened n : ℕ) : Type 0 where
  pub low : n < opened
  pub in_none : count n slots ≡ 0
  pub not_out : at_number n out ≡ None

-- ---- it is taken from its place

-- the seats of slots, without the first
pub record Lifted (d : Dialect) (logs left : ServerLogs) (tracks : Tracks) (slots : List Seat) (out : List (Option Seat)) (opened : ℕ) (seat : Seat) : Type 0 where
  pub keeps : Keeps d logs left tracks slots out opened
  pub is : SeatOf tracks seat
  pub away : IsAway slots out opened seat.number

there_none : (o : Option Seat) → one_there o ≡ 0 → o ≡ None
there_none None e = refl
there_none (Some seat) e = absurd (omega (arith, e))

-- from the front slot
pub lifted : (d : Dialect) (logs left : ServerLogs) (tracks : Tracks) (slots : List Seat) (out : List (Option Seat)) (opened : ℕ) (seat : Seat) → Keeps d logs left tracks (seat ∷ slots) out opened → Lifted d logs left tracks slots out opened seat
lifted d logs left tracks slots out opened seat h = record {
  keeps = record {
    tracked = h.tracked;
    unopened = h.unopened;
    in_slots = h.in_slots.1;
    free = h.free.1;
    places = h.places;
    in_out = h.in_out;
    once = λ k. omega (arith, h.once k);
    none = λ k l. omega (arith, h.none k l);
  };
  is = h.in_slots.0;
  away = record { low = low; in_none = omega (arith, h.once seat.number, here); not_out = there_none (at_number seat.number out) (omega (arith, h.once seat.number, here)) };
}
  where
    here : count seat.number (seat ∷ slots) ≡ suc (count seat.number slots)
    here = count_here seat.number seat slots refl

    low : seat.number < opened
    low = elim (leb_tells opened seat.number) [
      | inl l ↦ absurd (omega (arith, h.none seat.number l.1, here))
      | inr l ↦ l.1
    ]

-- from among those that are out
pub taken_out : (d : Dialect) (logs left : ServerLogs) (tracks : Tracks) (slots : List Seat) (out : List (Option Seat)) (opened n : ℕ) (seat : Seat) → at_number n out ≡ Some seat → Keeps d logs left tracks slots out opened
    → Lifted d logs left tracks slots (slice_set out n None) opened seat
taken_out d logs left tracks slots out opened n seat is h = record {
  keeps = record {
    tracked = h.tracked;
    unopened = h.unopened;
    in_slots = h.in_slots;
    free = h.free;
    places = length-set out n None ∙ h.places;
    in_out = out_at;
    once = out_once;
    none = h.none;
  };
  is = here.1;
  away = record {
    low = omega (arith, here.0, h.places, there);
    in_none = subst (λ (k : ℕ). count k slots ≡ 0) (sym here.0) (omega (arith, h.once n, ap one_there is));
    not_out = subst (λ (k : ℕ). at_number k (slice_set out n None) ≡ None) (sym here.0) (at-set n out None there);
  };
}
  where
    here : IsAtNumber tracks n seat
    here = h.in_out n seat is

    there : n < length out
    there = at_within n out seat is

    out_at : (k : ℕ) (x : Seat) → at_number k (slice_set out n None) ≡ Some x → IsAtNumber tracks k x
    out_at k x e = elim (cases_eq k n) [
      | inl same ↦ (let none : at_number n (slice_set out n None) ≡ None = at-set n out None there in let e' : at_number n (slice_set out n None) ≡ Some x = subst (λ (j : ℕ). at_number j (slice_set out n None) ≡ Some x) same e in absurd (cc))
      | inr apart ↦ h.in_out k x (sym (at-set_other k n out None apart) ∙ e)
    ]

    out_once : (k : ℕ) → count k slots + one_there (at_number k (slice_set out n None)) ≤ 1
    out_once k = elim (cases_eq k n) [
      | inl same ↦ subst (λ (j : ℕ). count j slots + one_there (at_number j (slice_set out n None)) ≤ 1) (sym same) (omega (arith, h.once n, ap one_there (at-set n out None there)))
      | inr apart ↦ omega (arith, h.once k, ap one_there (at-set_other k n out None apart))
    ]

-- ---- it is handed out

module _ (d : Dialect) (logs left : ServerLogs) (tracks : Tracks) (slots : List Seat) (out : List (Option Seat)) (opened : ℕ) (seat : Seat) (h : Keeps d logs left tracks slots out opened) (is : SeatOf tracks seat) (away : IsAway slots out opened seat.number) where
  abbrev m : ℕ
  m = seat.number

  there : m < length out
  there = omega (arith, away.low, h.places)

  out_at : (k : ℕ) (x : Seat) → at_number k (slice_set out m (Some seat)) ≡ Some x → IsAtNumber tracks k x
  out_at k x e = elim (cases_eq k m) [
    | inl same ↦ (let same_seat : seat ≡ x = cc (sym (at-set m out (Some seat) there) ∙ subst (λ (j : ℕ). at_number j (slice_set out m (Some seat)) ≡ Some x) same e) in
        subst (λ (y : Seat). IsAtNumber tracks k y) same_seat (sym same, is))
    | inr apart ↦ h.in_out k x (sym (at-set_other k m out (Some seat) apart) ∙ e)
  ]

  out_once : (k : ℕ) → count k slots + one_there (at_number k (slice_set out m (Some seat))) ≤ 1
  out_once k = elim (cases_eq k m) [
    | inl same ↦ subst (λ (j : ℕ). count j slots + one_there (at_number j (slice_set out m (Some seat))) ≤ 1) (sym same) (omega (arith, away.in_none, ap one_there (at-set m out (Some seat) there)))
    | inr apart ↦ omega (arith, h.once k, ap one_there (at-set_other k m out (Some seat) apart))
  ]

  pub handed_keeps : Keeps d logs left tracks slots (slice_set out m (Some seat)) opened
  handed_keeps = record {
    tracked = h.tracked;
    unopened = h.unopened;
    in_slots = h.in_slots;
    free = h.free;
    places = length-set out m (Some seat) ∙ h.places;
    in_out = out_at;
    once = out_once;
    none = h.none;
  }

-- ---- it goes to a slot

module _ (d : Dialect) (logs left : ServerLogs) (tracks : Tracks) (slots : List (Option Seat)) (out : List (Option Seat)) (opened : ℕ) (seat : Seat) (h : Keeps d logs left tracks (held slots) out opened) (is : SeatOf tracks seat)
    (away : IsAway (held slots) out opened seat.number) (free : IsFree seat) where
  split : held (slots ++ Some seat ∷ []) ≡ held slots ++ seat ∷ []
  split = held-append slots (Some seat ∷ [])

  counted : (k : ℕ) → count k (held (slots ++ Some seat ∷ [])) ≡ count k (held slots) + count k (seat ∷ [])
  counted k = ap (count k) split ∙ count-append k (held slots) (seat ∷ [])

  joined : (P : Seat → Type 0) → Each P (held slots) → P seat → Each P (held (slots ++ Some seat ∷ []))
  joined P each this = subst (Each P) (sym split) (each-append P (held slots) (seat ∷ []) each (this, tt))

  slot_once : (k : ℕ) → count k (held (slots ++ Some seat ∷ [])) + one_there (at_number k out) ≤ 1
  slot_once k = elim (cases_eq seat.number k) [
    | inl same ↦ subst (λ (j : ℕ). count j (held (slots ++ Some seat ∷ [])) + one_there (at_number j out) ≤ 1) same
        (omega (arith, counted seat.number, away.in_none, ap one_there away.not_out, count_here seat.number seat [] refl))
    | inr apart ↦ omega (arith, h.once k, counted k, count_other k seat [] apart)
  ]

  pub slotted_keeps : Keeps d logs left tracks (held (slots ++ Some seat ∷ [])) out opened
  slotted_keeps = record {
    tracked = h.tracked;
    unopened = h.unopened;
    in_slots = joined (SeatOf tracks) h.in_slots is;
    free = joined IsFree h.free free;
    places = h.places;
    in_out = h.in_out;
    once = slot_once;
    none = λ k l. omega (arith, h.none k l, counted k, count_other k seat [] (λ e. absurd (omega (arith, l, away.low, e))));
  }

-- ---- one call of it more

module _ (d : Dialect) (logs left : ServerLogs) (tracks : Tracks) (slots : List Seat) (out : List (Option Seat)) (opened n : ℕ) (operation : Operation) (r : Read Done) (h : Keeps d logs left tracks slots out opened) (away : IsAway slots out opened n)
    (c : CallReads d (left n) (tracks n) operation r) where
  abbrev after : Tracks
  after = with_call d logs left tracks n operation r h.tracked c

  other : (x : Seat) → x.number ≢ n → SeatOf tracks x → SeatOf after x
  other x apart g = call_other d logs left tracks n operation r h.tracked c x apart g

  still_out : (k : ℕ) (x : Seat) → at_number k out ≡ Some x → IsAtNumber after k x
  still_out k x e =
      let before : IsAtNumber tracks k x = h.in_out k x e in
      let apart : k ≢ n = λ g. let none : at_number k out ≡ None = subst (λ (j : ℕ). at_number j out ≡ None) (sym g) away.not_out in absurd (cc) in
      (before.0, other x (λ g. apart (sym before.0 ∙ g)) before.1)

  pub moved_keeps : Keeps d logs (with_left left n r.left) after slots out opened
  moved_keeps = record {
    tracked = call_tracked d logs left tracks n operation r h.tracked c;
    unopened = λ k l. call_apart d logs left tracks n operation r h.tracked c k (λ e. absurd (omega (arith, away.low, l, e))) ∙ h.unopened k l;
    in_slots = each_other (SeatOf tracks) (SeatOf after) n slots other away.in_none h.in_slots;
    free = h.free;
    places = h.places;
    in_out = still_out;
    once = h.once;
    none = h.none;
  }

-- ---- a place for one that is opened

module _ (d : Dialect) (logs left : ServerLogs) (tracks : Tracks) (slots : List Seat) (out : List (Option Seat)) (opened : ℕ) (h : Keeps d logs left tracks slots out opened) where
  last_is : at_number opened (out ++ None ∷ []) ≡ None
  last_is = subst (λ (k : ℕ). at_number k (out ++ None ∷ []) ≡ None) h.places (at-last out None)

  other_is : (k : ℕ) → k ≢ opened → at_number k (out ++ None ∷ []) ≡ at_number k out
  other_is k apart = at-last_other k out None (λ e. apart (e ∙ h.places))

  added_out : (k : ℕ) (x : Seat) → at_number k (out ++ None ∷ []) ≡ Some x → IsAtNumber tracks k x
  added_out k x e = elim (cases_eq k opened) [
    | inl same ↦ (let none : at_number k (out ++ None ∷ []) ≡ None = subst (λ (j : ℕ). at_number j (out ++ None ∷ []) ≡ None) (sym same) last_is in absurd (cc))
    | inr apart ↦ h.in_out k x (sym (other_is k apart) ∙ e)
  ]

  added_once : (k : ℕ) → count k slots + one_there (at_number k (out ++ None ∷ [])) ≤ 1
  added_once k = elim (cases_eq k opened) [
    | inl same ↦ subst (λ (j : ℕ). count j slots + one_there (at_number j (out ++ None ∷ [])) ≤ 1) (sym same) (omega (arith, h.none opened (omega arith), ap one_there last_is))
    | inr apart ↦ omega (arith, h.once k, ap one_there (other_is k apart))
  ]

  pub added_keeps : Keeps d logs left tracks slots (out ++ None ∷ []) (opened + 1)
  added_keeps = record {
    tracked = h.tracked;
    unopened = λ k l. h.unopened k (omega (arith, l));
    in_slots = h.in_slots;
    free = h.free;
    places = omega (arith, h.places, length-append out (None ∷ []));
    in_out = added_out;
    once = added_once;
    none = λ k l. h.none k (omega (arith, l));
  }

  pub added_away : IsAway slots (out ++ None ∷ []) (opened + 1) opened
  added_away = record { low = omega arith; in_none = h.none opened (omega arith); not_out = last_is }
