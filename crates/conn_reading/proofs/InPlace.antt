-- The items of one server alone.
use Rattle.std.proofs.Common.{◌≡◌, ◌≢◌, ℕ, ◌+◌, ◌-◌, Bool, true, false, cond, List, [], ◌∷◌, ◌++◌, append_assoc, length, Option, Some, None, Err, refl, sym, ap, subst, ◌∙◌, arith, inl, inr}
use Rattle.std.specs.Prelude.{◌==◌, slice_set}
use Rattle.std.specs.Option.{option_and_then, option_map}
use Rattle.conn_result.specs.declared.error.ConnectionError.TheVariants.{CouldntSetupConfiguration}
use Rattle.conn_result.specs.declared.error.Error.{Error}
use Rattle.conn_result.specs.declared.pool.Error.{Error as PoolError}
use Rattle.conn_result.specs.declared.pool.Error.TheVariants as pooling
use Rattle.std.proofs.lemmas.Bool.{cases_eq}
use Rattle.std.proofs.lemmas.List.{length-append}
use Rattle.conn_model.specs.States.{Idle}
use Rattle.conn_model.specs.declared.item.Item.{Item}
use Rattle.conn_manager.specs.Manages.{Done, Reply as Answer, done}
use Rattle.conn_manager.specs.Setups.{setup_process}
use Rattle.conn_manager.specs.Statuses.{no_depth}
use Rattle.conn_report.specs.declared.entry.Entry.{Entry}
use Rattle.conn_report.specs.declared.entry.Reply.{Reply}
use Rattle.conn_report.specs.declared.entry.Reply.TheVariants as replies
use Rattle.conn_script.specs.declared.command.Word.{Word}
use Rattle.conn_script.specs.declared.request.Request.TheVariants.{Get}
use Rattle.conn_drivers.specs.Establishing.{url_fault}
use Rattle.conn_model.specs.Caches.{Known, nothing_known}
use Rattle.conn_reading.specs.Answered.{ServerLogs, Progress, Taken, taken, with_left, reads_on, taken_on, seat_after, readied, refusal_at, get_refusal, new_seat, reads_ready, taken_ready, reads_opened, reads_set_up, reads_attempt, reads_opening, reads_get, reads, with_opened, with_slots}
use Rattle.conn_reading.specs.Asking.{Outcome, check_deed, outcome, process_of}
use Rattle.conn_reading.specs.Reading.{Read, read, ReadsItems, BeginsAnew}
use Rattle.conn_reading.specs.Readings.{ReadsEntry}
use Rattle.conn_reading.specs.Seats.{Seat, entry_on, at_number}
use Rattle.conn_reading.specs.declared.deed.Deed.{Deed}

-- items of this server, and none of another
abbrev pub only : ℕ → List Item → ServerLogs
only n items k = cond (k == n) items []

pub only_other : (n k : ℕ) (items : List Item) → k ≢ n → only n items k ≡ []
only_other n k items h = grind arith

pub only_same : (n : ℕ) (items : List Item) → only n items n ≡ items
only_same n items = grind arith

pub only_anew : (n : ℕ) (items : List Item) → BeginsAnew items → (k : ℕ) → BeginsAnew (only n items k)
only_anew n items anew k = by_case (k == n)
  where
    by_case : (b : Bool) → BeginsAnew (cond b items [])
    by_case true = anew
    by_case false = tt

pub only_none : (n k : ℕ) → only n [] k ≡ []
only_none n k = by_case (k == n)
  where
    by_case : (b : Bool) → (let none : List Item = [] in cond b none none ≡ none)
    by_case true = refl
    by_case false = refl

-- what is left once they are read
left_same : (logs more : ServerLogs) (n : ℕ) → with_left logs n (more n) n ≡ more n
left_same logs more n = grind arith

left_other : (logs more : ServerLogs) (n k : ℕ) → k ≢ n → with_left logs n (more n) k ≡ logs k
left_other logs more n k h = grind arith

left_after : (logs more : ServerLogs) (n : ℕ) (items : List Item) → ((k : ℕ) → logs k ≡ only n items k ++ more k) → (k : ℕ) → with_left logs n (more n) k ≡ more k
left_after logs more n items follows k = elim (cases_eq k n) [
  | inl same ↦ rw same (left_same logs more n)
  | inr differs ↦ left_other logs more n k differs ∙ follows k ∙ ap (λ (t : List Item). t ++ more k) (only_other n k items differs)
]

-- the connection after it, by what changed
seat_is : (seat after : Seat) (mark : ℕ) → after.number ≡ seat.number → mark ≡ after.mark → record seat { status = after.status; mark = mark; state = after.state; cache = after.cache } ≡ after
seat_is seat after mark numbered marked = ap (λ (n : ℕ). record after { number = n; mark = mark }) (sym numbered) ∙ ap (λ (m : ℕ). record after { mark = m }) marked

-- a deed on a connection that is out, whose process reads these items
pub reads_in_place : (p : Progress) (line : ℕ) (word : Word) (deed : Deed) (n : ℕ) (seat after : Seat) (items : List Item) (reply : Reply)
    → at_number n p.context.out ≡ Some seat
    → ReadsItems p.dialect p.armed seat.state (process_of p.dialect p.queries seat.status seat.cache deed) items (outcome reply after.status after.cache) after.state → BeginsAnew items
    → after.number ≡ seat.number → after.mark ≡ seat.mark + length items
    → ReadsEntry (λ p logs. reads_on p logs line word deed n (at_number n p.context.out)) p (only seat.number items) (entry_on line word reply after)
    (record p { context = record p.context { out = slice_set p.context.out n (Some after) } })
reads_in_place p line word deed n seat after items reply place r anew numbered marked = record {
  anew = only_anew seat.number items anew;
  whatever_follows = λ logs more follows more_anew.
      let m = seat.number in
      let here : logs m ≡ items ++ more m = follows m ∙ ap (λ (t : List Item). t ++ more m) (only_same m items) in
      let end : Read Outcome = record { value = outcome reply after.status after.cache; state = after.state; left = more m } in
      let same : seat_after seat (length (logs m)) end ≡ after =
      seat_is seat after (seat.mark + (length (logs m) - length (more m))) numbered (omega (arith, marked, ap length here, length-append items (more m))) in (
        with_left logs m (more m),
        ap (reads_on p logs line word deed n) place
            ∙ ap (λ (t : List Item). option_map (taken_on p logs line word n seat) (read p.dialect p.armed seat.state (process_of p.dialect p.queries seat.status seat.cache deed) t)) here
            ∙ ap (option_map (taken_on p logs line word n seat)) (r.whatever_follows (more m) (more_anew m))
            ∙ ap (λ (s : Seat). Some (taken (entry_on line word reply s) (record p { context = record p.context { out = slice_set p.context.out n (Some s) } }) (with_left logs m (more m)))) same,
        left_after logs more m items follows,
      );
}

-- ---- a connection that `get` has

-- what is made of it stands beside what is left of the logs
readied_is : (p : Progress) (left : ServerLogs) (line : ℕ) (seat : Seat) (e : Option PoolError) → let t = readied p (λ k. []) line seat e in readied p left line seat e ≡ taken t.entry t.progress left
readied_is p left line seat None = refl
readied_is p left line seat (Some e) = refl

-- what a connection is asked, kept or new, reads these items and leaves it so
abbrev pub ReadsReady : Progress → ℕ → Bool → Option Deed → Seat → List Item → Seat → Option PoolError → Type 0
ReadsReady p line fresh deed seat items after e = let t = readied p (λ k. []) line after e in ReadsEntry (λ p logs. reads_ready p logs line fresh deed seat) p (only seat.number items) t.entry t.progress

-- nothing is asked
pub still_in_place : (p : Progress) (line : ℕ) (fresh : Bool) (seat : Seat) → ReadsReady p line fresh None seat [] seat (get_refusal fresh seat replies.Ok)
still_in_place p line fresh seat = record {
  anew = only_anew seat.number [] tt;
  whatever_follows = λ logs more follows more_anew. (
    logs,
    ap (λ (t : Taken). Some t) (readied_is p logs line seat (get_refusal fresh seat replies.Ok)),
    λ k. follows k ∙ ap (λ (l : List Item). l ++ more k) (only_none seat.number k),
  );
}

-- a deed is asked
pub ready_in_place : (p : Progress) (line : ℕ) (fresh : Bool) (deed : Deed) (seat after : Seat) (items : List Item) (reply : Reply)
    → ReadsItems p.dialect p.armed seat.state (process_of p.dialect p.queries seat.status seat.cache deed) items (outcome reply after.status after.cache) after.state → BeginsAnew items
    → after.number ≡ seat.number → after.mark ≡ seat.mark + length items
    → ReadsReady p line fresh (Some deed) seat items after (get_refusal fresh after reply)
ready_in_place p line fresh deed seat after items reply r anew numbered marked = record {
  anew = only_anew seat.number items anew;
  whatever_follows = λ logs more follows more_anew.
      let m = seat.number in
      let here : logs m ≡ items ++ more m = follows m ∙ ap (λ (t : List Item). t ++ more m) (only_same m items) in
      let end : Read Outcome = record { value = outcome reply after.status after.cache; state = after.state; left = more m } in
      let same : seat_after seat (length (logs m)) end ≡ after =
      seat_is seat after (seat.mark + (length (logs m) - length (more m))) numbered (omega (arith, marked, ap length here, length-append items (more m))) in (
        with_left logs m (more m),
        ap (λ (t : List Item). option_map (taken_ready p logs line fresh seat) (read p.dialect p.armed seat.state (process_of p.dialect p.queries seat.status seat.cache deed) t)) here
            ∙ ap (option_map (taken_ready p logs line fresh seat)) (r.whatever_follows (more m) (more_anew m))
            ∙ ap (λ (s : Seat). Some (readied p (with_left logs m (more m)) line s (get_refusal fresh s reply))) same
            ∙ ap (λ (t : Taken). Some t) (readied_is p (with_left logs m (more m)) line after (get_refusal fresh after reply)),
        left_after logs more m items follows,
      );
}

-- `get` where a connection is in front
pub kept_in_place : (p : Progress) (line : ℕ) (rest : List (Option Seat)) (seat after : Seat) (items : List Item) (e : Option PoolError) → p.context.slots ≡ Some seat ∷ rest → ReadsReady (with_slots p rest) line false (check_deed p.policy.check) seat items after e
    → let t = readied (with_slots p rest) (λ k. []) line after e in ReadsEntry (λ p logs. reads p logs line Get) p (only seat.number items) t.entry t.progress
kept_in_place p line rest seat after items e slots r = record {
  anew = r.anew;
  whatever_follows = λ logs more follows more_anew.
      let took = r.whatever_follows logs more follows more_anew in
      (took.0, ap (reads_get p logs line) slots ∙ took.1, took.2);
}

-- ---- a connection that was just opened

-- the connection after its setup, by what was read; its cache is a new one
new_is : (n mark : ℕ) (seat : Seat) → seat.number ≡ n → mark ≡ seat.mark → nothing_known ≡ seat.cache → record seat { number = n; mark = mark; cache = nothing_known } ≡ seat
new_is n mark seat numbered marked empty =
    ap (λ (k : ℕ). record seat { number = k; mark = mark; cache = nothing_known }) (sym numbered) ∙ ap (λ (m : ℕ). record seat { mark = m; cache = nothing_known }) marked ∙ ap (λ (c : Known). record seat { cache = c }) empty

-- the setup of a new server reads these items
pub record SetsUp (p : Progress) (rest : List (Option Seat)) (seat : Seat) (items : List Item) (reply : Answer) : Type 0 where
  pub slots : p.context.slots ≡ None ∷ rest
  pub faultless : url_fault p.dialect p.url ≡ None
  pub due : refusal_at p ≡ None
  pub reads : ReadsItems p.dialect p.armed (Idle []) (setup_process p.dialect no_depth) items (done reply seat.status) seat.state
  pub anew : BeginsAnew items
  pub number : seat.number ≡ p.context.opened
  pub mark : seat.mark ≡ length items
  pub cache : seat.cache ≡ nothing_known

anew-append : (xs ys : List Item) → BeginsAnew xs → BeginsAnew ys → BeginsAnew (xs ++ ys)
anew-append [] ys h g = g
anew-append (x ∷ xs) ys h g = h

-- what follows its setup reads these more
module _ (p : Progress) (line : ℕ) (rest : List (Option Seat)) (seat : Seat) (items more_items : List Item) (reply : Answer) (entry : Entry) (after : Progress) (s : SetsUp p rest seat items reply)
    (r : ReadsEntry (λ p logs. reads_opened p logs line seat reply) (with_opened (with_slots p rest)) (only p.context.opened more_items) entry after) where
  abbrev n : ℕ
  n = p.context.opened

  later_anew : BeginsAnew more_items
  later_anew = subst BeginsAnew (only_same n more_items) (r.anew n)

  -- what stands behind the setup
  abbrev behind : ServerLogs → ServerLogs → ServerLogs
  behind logs more = with_left logs n (more_items ++ more n)

  behind_follows : (logs more : ServerLogs) → ((k : ℕ) → logs k ≡ only n (items ++ more_items) k ++ more k) → (k : ℕ) → behind logs more k ≡ only n more_items k ++ more k
  behind_follows logs more follows k = elim (cases_eq k n) [
    | inl same ↦ subst (λ (j : ℕ). behind logs more j ≡ only n more_items j ++ more j) (sym same) (left_same logs (λ j. more_items ++ more j) n ∙ ap (λ (l : List Item). l ++ more n) (sym (only_same n more_items)))
    | inr differs ↦ left_other logs (λ j. more_items ++ more j) n k differs ∙ follows k ∙ ap (λ (l : List Item). l ++ more k) (only_other n k (items ++ more_items) differs ∙ sym (only_other n k more_items differs))
  ]

  pub opened_in_place : ReadsEntry (λ p logs. reads p logs line Get) p (only n (items ++ more_items)) entry after
  opened_in_place = record {
    anew = only_anew n (items ++ more_items) (anew-append items more_items s.anew later_anew);
    whatever_follows = λ logs more follows more_anew.
        let rest_items : List Item = more_items ++ more n in
        let here : logs n ≡ items ++ rest_items = follows n ∙ ap (λ (t : List Item). t ++ more n) (only_same n (items ++ more_items)) ∙ append_assoc items more_items (more n) in
        let end : Read Done = record { value = done reply seat.status; state = seat.state; left = rest_items } in
        let same : new_seat n (length (logs n) - length rest_items) end ≡ seat =
        new_is n (length (logs n) - length rest_items) seat s.number (omega (arith, s.mark, ap length here, length-append items rest_items)) (sym s.cache) in
        let took = r.whatever_follows (behind logs more) more (behind_follows logs more follows) more_anew in
        let q : Progress = with_slots p rest in (
          took.0,
          ap (reads_get p logs line) s.slots
              ∙ ap (reads_opening q logs line) s.faultless
              ∙ ap (reads_attempt q logs line) s.due
              ∙ ap (λ (t : List Item). option_and_then (reads_set_up q logs line n) (read p.dialect p.armed (Idle []) (setup_process p.dialect no_depth) t)) here
              ∙ ap (option_and_then (reads_set_up q logs line n)) (s.reads.whatever_follows rest_items (anew-append more_items (more n) later_anew (more_anew n)))
              ∙ ap (λ (x : Seat). reads_opened (with_opened q) (behind logs more) line x reply) same
              ∙ took.1,
          took.2,
        );
  }

-- a setup that was refused closes the connection
pub refused_in_place : (p : Progress) (line : ℕ) (seat : Seat) (e : Error) → let t = readied p (λ k. []) line seat (Some (pooling.ConnectionError (CouldntSetupConfiguration e seat.number))) in
    ReadsEntry (λ p logs. reads_opened p logs line seat (Err e)) p (only seat.number []) t.entry t.progress
refused_in_place p line seat e = record {
  anew = only_anew seat.number [] tt;
  whatever_follows = λ logs more follows more_anew. (logs, refl, λ k. follows k ∙ ap (λ (l : List Item). l ++ more k) (only_none seat.number k));
}
