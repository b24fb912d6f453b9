-- What `get` and `put` do to the connections of a session.
use Rattle.std.proofs.Common.{◌≡◌, ℕ, Bool, true, false, if◌then◌else◌, List, [], ◌∷◌, ◌++◌, Option, Some, None, refl, sym, ap, subst, arith, inl}
use Rattle.std.specs.Prelude.{slice_set, not}
use Rattle.conn_model.specs.declared.item.Dialect.{Dialect}
use Rattle.conn_manager.specs.Statuses.{is_broken}
use Rattle.conn_report.specs.declared.entry.Reply.TheVariants as replies
use Rattle.conn_script.specs.declared.command.Word.TheVariants as words
use Rattle.conn_drivers.specs.Establishing.{url_fault}
use Rattle.conn_reading.specs.Answered.{ServerLogs, Progress, Taken, taken, reads_get, reads_slot, taken_put, with_slots}
use Rattle.conn_reading.specs.Asking.{Policy, check_deed, get_deed}
use Rattle.conn_reading.specs.Seats.{Seat, entry_without, is_kept, put_reply, at_number}
use Rattle.conn_reading.proofs.ByNumber.{at_within}
use Rattle.conn_reading.proofs.Deeds.{check_plain}
use Rattle.conn_reading.proofs.EachSeat.{held}
use Rattle.conn_reading.proofs.SessionKept.{IsOf, Tracks, IsAtNumber, Keeps, ProgressKeeps, TakenKeeps, says_nothing, says_still}
use Rattle.conn_reading.proofs.SessionOpens.{opening_keeps}
use Rattle.conn_reading.proofs.SessionPlaces.{emptied_keeps, lifted, slotted_keeps, taken_out}
use Rattle.conn_reading.proofs.SessionReadies.{AsksWell, ready_keeps}

-- ---- get

module _ (d : Dialect) (logs left : ServerLogs) (policy : Policy) (tracks : Tracks) (p : Progress) (line : ℕ) (is_of : IsOf d policy p) where
  abbrev Got : Taken → Type 0
  Got t = TakenKeeps d logs policy tracks p.context.opened (get_deed policy) p.context.blocks p.context.blocks t

  checks_well : (check : Bool) → AsksWell false (check_deed check)
  checks_well true = refl
  checks_well false = tt

  slot_keeps : (slot : Option Seat) (t : Taken) → Keeps d logs left tracks (held (slot ∷ p.context.slots)) p.context.out p.context.opened → reads_slot p left line slot ≡ Some t → Got t
  slot_keeps None t h is = opening_keeps d logs left policy tracks p line is_of h (url_fault p.dialect p.url) t is
  slot_keeps (Some seat) t h is =
      let lift = lifted d logs left tracks (held p.context.slots) p.context.out p.context.opened seat h in
      ready_keeps d logs left policy tracks p line (get_deed policy) false seat is_of lift.keeps lift.is lift.away (λ kept. h.free.0) (check_deed p.policy.check) t (checks_well p.policy.check)
      (check_plain p.queries is_of.plain p.policy.check) (ap (λ (x : Policy). check_deed x.check) (sym is_of.asked)) is

pub get_keeps : (d : Dialect) (logs left : ServerLogs) (policy : Policy) (tracks : Tracks) (p : Progress) (line : ℕ) (t : Taken) → IsOf d policy p → ProgressKeeps d logs left tracks p → reads_get p left line p.context.slots ≡ Some t
    → TakenKeeps d logs policy tracks p.context.opened (get_deed policy) p.context.blocks p.context.blocks t
get_keeps d logs left policy tracks p line t is_of h is = by_slots p.context.slots refl h is
  where
    by_slots : (slots : List (Option Seat)) → p.context.slots ≡ slots → Keeps d logs left tracks (held slots) p.context.out p.context.opened → reads_get p left line slots ≡ Some t
        → TakenKeeps d logs policy tracks p.context.opened (get_deed policy) p.context.blocks p.context.blocks t
    by_slots [] e k i =
        let same : taken (entry_without line words.Get None replies.NoneFree) p left ≡ t = cc in
        subst (TakenKeeps d logs policy tracks p.context.opened (get_deed policy) p.context.blocks p.context.blocks) same (record {
          tracks = tracks;
          progress = h;
          is_of = is_of;
          grows = omega arith;
          open_blocks = refl;
          registers = λ k. inl refl;
          entry = says_nothing d logs policy tracks p.context.opened p.context.blocks (get_deed policy) line words.Get None replies.NoneFree tt;
        })
    by_slots (slot ∷ rest) e k i = slot_keeps d logs left policy tracks (with_slots p rest) line is_of slot t k i

-- ---- put

not_true : (b : Bool) → not b ≡ true → b ≡ false
not_true true e = absurd (cc)
not_true false e = refl

module _ (d : Dialect) (logs left : ServerLogs) (policy : Policy) (tracks : Tracks) (p : Progress) (line n : ℕ) (is_of : IsOf d policy p) (h : ProgressKeeps d logs left tracks p) where
  abbrev Put_back : Taken → Type 0
  Put_back t = TakenKeeps d logs policy tracks p.context.opened (λ b. None) p.context.blocks p.context.blocks t

  -- its slot goes to the back, with the connection where the pool keeps it
  slot_back : (seat : Seat) → at_number n p.context.out ≡ Some seat → (b : Bool) → is_kept seat.status ≡ b
      → Keeps d logs left tracks (held (p.context.slots ++ (if b then Some seat else None) ∷ [])) (slice_set p.context.out n None) p.context.opened
  slot_back seat there true kept =
      let lift = taken_out d logs left tracks (held p.context.slots) p.context.out p.context.opened n seat there h in
      slotted_keeps d logs left tracks p.context.slots (slice_set p.context.out n None) p.context.opened seat lift.keeps lift.is lift.away (not_true (is_broken seat.status) kept)
  slot_back seat there false kept =
      let lift = taken_out d logs left tracks (held p.context.slots) p.context.out p.context.opened n seat there h in
      emptied_keeps d logs left tracks (slice_set p.context.out n None) p.context.opened p.context.slots lift.keeps

  pub put_keeps : (o : Option Seat) → at_number n p.context.out ≡ o → Put_back (taken_put p left line n o)
  put_keeps None there = record {
    tracks = tracks;
    progress = h;
    is_of = is_of;
    grows = omega arith;
    open_blocks = refl;
    registers = λ k. inl refl;
    entry = says_nothing d logs policy tracks p.context.opened p.context.blocks (λ b. None) line words.Put (Some n) replies.NotOut tt;
  }
  put_keeps (Some seat) there =
      let here : IsAtNumber tracks n seat = h.in_out n seat there in
      record {
        tracks = tracks;
        progress = slot_back seat there (is_kept seat.status) refl;
        is_of = is_of;
        grows = omega arith;
        open_blocks = refl;
        registers = λ k. inl refl;
        entry = says_still d logs left policy tracks p.context.opened p.context.blocks (λ b. None) line words.Put (put_reply seat.status) (Some seat.status) seat h.tracked here.1 refl refl tt
            (omega (arith, at_within n p.context.out seat there, h.places, here.0));
      }
