-- What a check-out of the pool's core is to a session: `get`.
use Rattle.std.proofs.Common.{◌≡◌, ◌≢◌, ℕ, ◌<◌, Bool, true, false, ◌&&◌, if◌then◌else◌, List, length, Option, Some, None, Result, Ok, Err, refl, sym, ap, subst, ◌∙◌, arith, inl, inr}
use Rattle.std.specs.Prelude.{◌⊎◌, IsErr}
use Rattle.std.specs.declared.alloc.AllocError.{AllocError}
use Rattle.conn_result.specs.declared.error.ConnectionError.{ConnectionError}
use Rattle.conn_result.specs.declared.error.Error.{Error}
use Rattle.conn_result.specs.declared.error.Error.TheVariants.{OutOfMemory}
use Rattle.conn_result.specs.declared.pool.Error.{Error as PoolError}
use Rattle.conn_result.specs.declared.pool.Error.TheVariants as pooling
use Rattle.conn_result.specs.PoolErrors.{opening_error, query_error}
use Rattle.conn_manager.specs.Manages.{Reply as Answer}
use Rattle.conn_manager.specs.Statuses.{is_broken}
use Rattle.conn_manager.specs.Views.{View}
use Rattle.conn_pool.specs.Managers.{FailsManaged, Managed, OpensManaged, managed}
use Rattle.conn_reading.specs.Answered.{get_refusal}
use Rattle.conn_reading.specs.Asking.{check_deed, customizer_deed, reply_as}
use Rattle.conn_reading.specs.Seats.{at_number, entry_on, make_entry}
use Rattle.conn_reading.specs.declared.deed.Deed.{Deed}
use Rattle.conn_report.specs.declared.entry.Entry.{Entry}
use Rattle.conn_report.specs.declared.entry.Reply.TheVariants as replies
use Rattle.conn_script.specs.declared.command.Word.TheVariants as words
use Rattle.conn_script.specs.declared.request.Request.TheVariants.{Get}
use Rattle.conn_server.specs.Connected.{Connected, sent_by, takes_back}
use Rattle.conn_session.specs.Customizing.{AcquiresAs, AnswersIf}
use Rattle.conn_session.specs.Responses.{ShowsError, seat_of, unserved_entry}
use Rattle.conn_session.specs.Steps.{KeepsAll, Steps}
use Rattle.conn_session.specs.Transfers.{adds_out, fills_places, gives_slot, in_front, puts_out}
use Rattle.conn_session.specs.Worlds.{Pool, World, Invariant, filled_to}
use Rattle.conn_session.proofs.Fronts.{asked_keeps, closed_keeps, if_later, if_number}
use Rattle.conn_session.proofs.Gets.{ready_kept}
use Rattle.conn_session.proofs.Moving.{front_vacant, front_within, place_filled, places_filled}
use Rattle.conn_session.proofs.Runs.{keeps-trans}
use Rattle.conn_session.proofs.Served.{Readies, closes_it, hands_out}
use Rattle.conn_session.proofs.Setups.{get_failed, keeps_opened, opened, opened_now, ready_new}

-- ---- how a connection in hand ends

-- by its reply it is handed out, or closed for an error
abbrev pub Ends : Bool → Connected → Connected → View → Option PoolError → Result View PoolError → Type 0
Ends fresh left k u None answer = (answer ≡ Ok u) × (k ≡ left)
Ends fresh left k u (Some e) answer = (answer ≡ Err e) × (k ≡ takes_back u.seen left)

-- its error, also where memory was wanting
abbrev pub end_of : Bool → View → Answer → Option PoolError
end_of fresh u (Err e) = Some (query_error e u.seen.number)
end_of fresh u (Ok t) = if fresh && is_broken u.status then Some (pooling.LeftOpen u.seen.number) else None

-- a manager over this connector
abbrev pub set_at : World → Connected → Managed
set_at w k = managed k w.pool.dialect w.pool.url

-- a new connection was opened, and asked what is asked of new ones
pub record MakesNew (honest tells : Bool) (w : World) (k : Connected) (answer : Result View PoolError) : Type 0 where
  pub left : Connected
  pub first : View
  pub after : View
  pub reply : Answer
  pub opens : OpensManaged honest tells (set_at w w.connector) (set_at w left) first
  pub acquires : AcquiresAs tells w.pool.policy.customizer first after reply
  pub ends : Ends true left k after (end_of true after reply) answer

-- none was opened
pub record MakesNone (honest tells : Bool) (w : World) (k : Connected) (answer : Result View PoolError) : Type 0 where
  pub fault : ConnectionError
  pub fails : FailsManaged honest tells (set_at w w.connector) (set_at w k) fault
  pub answer_is : answer ≡ Err (opening_error fault)

-- a connection that was kept was asked what is asked of such
pub record AsksKept (tells : Bool) (w : World) (v : View) (k : Connected) (answer : Result View PoolError) : Type 0 where
  pub after : View
  pub reply : Answer
  pub asks : AnswersIf tells (check_deed w.pool.policy.check) v after reply
  pub ends : Ends false w.connector k after (end_of false after reply) answer

-- a slot is served, by what it kept
abbrev pub ServesAt : Bool → Bool → World → Option View → Connected → Result View PoolError → Type 0
ServesAt honest tells w None k answer = MakesNew honest tells w k answer ⊎ MakesNone honest tells w k answer
ServesAt honest tells w (Some v) k answer = AsksKept tells w v k answer

-- ---- what a session shows then

-- the connection is at its place, or the slot is empty at the back
abbrev pub served_world : World → Connected → Result View PoolError → World
served_world w k (Ok u) = record { pool = puts_out u.seen.number (Some u) (fills_places k.opened w.pool); connector = k }
served_world w k (Err e) = record { pool = fills_places k.opened (gives_slot None w.pool); connector = k }

-- its entry; want of memory has none
abbrev pub ShowsServed : ℕ → Connected → Result View PoolError → Result Entry AllocError → Type 0
ShowsServed line k (Ok u) result = result ≡ Ok (entry_on line words.Get replies.Ok (seat_of u))
ShowsServed line k (Err e) result = ShowsError line e k.returned result

-- want of memory is the pool's own, and another error has the connection's number
query_cases : (e : Error) (n : ℕ) → ((query_error e n ≡ pooling.OutOfMemory) × (e ≡ OutOfMemory)) ⊎ ((query_error e n ≡ pooling.QueryError e n) × (e ≢ OutOfMemory))
query_cases OutOfMemory n = inl (refl, refl)
query_cases e n = inr (refl, λ same. absurd (cc))

error_is : (e : Error) → (e ≢ OutOfMemory) → (let r : Answer = Err e in r ≢ Err OutOfMemory)
error_is e apart = λ same. apart (let is : e ≡ OutOfMemory = cc in is)

-- ---- from the end to the session's

-- the session and its connector then
abbrev ended : World → Connected → Result View PoolError → World
ended w c (Ok x) = record { pool = puts_out x.seen.number (Some x) w.pool; connector = c }
ended w c (Err e) = record { pool = gives_slot None w.pool; connector = c }

module _ (honest : Bool) (line : ℕ) (fresh : Bool) (a w : World) (k : Connected) (u : View) (reply : Answer) (keeps : KeepsAll a (in_front (Some u) w)) (ready : reply ≢ Err OutOfMemory → Readies honest line a w u (get_refusal fresh (seat_of u) (reply_as reply))) where
  abbrev closed : Connected
  closed = takes_back u.seen w.connector

  -- memory was wanting
  lacks : (result : Result Entry AllocError) → IsErr result → Steps honest line Get a (ended w closed (Err pooling.OutOfMemory)) result
  lacks (Ok entry) h = absurd (cc)
  lacks (Err e) h = record { keeps = keeps-trans a (in_front (Some u) w) (ended w closed (Err pooling.OutOfMemory)) keeps (closed_keeps w u keeps.holds); plays_entry = tt; caused = λ _. tt; grows = λ _. tt }

  -- it was closed for this error
  shut : (e : PoolError) (result : Result Entry AllocError) → Readies honest line a w u (Some e) → result ≡ Ok (make_entry line words.Get (Some u.seen.number) (replies.Pool e) None (sent_by u.seen.number closed.returned)) → Steps honest line Get a (ended w closed (Err e)) result
  shut e result r is = subst (Steps honest line Get a (ended w closed (Err e))) (sym is) (closes_it honest line a w u e (make_entry line words.Get (Some u.seen.number) (replies.Pool e) None (sent_by u.seen.number closed.returned)) r refl)

  abbrev To : Result View PoolError → Result Entry AllocError → Type 0
  To answer result = ShowsServed line k answer result → Steps honest line Get a (ended w k answer) result

  -- an error of what was asked
  by_error : (e : Error) → reply ≡ Err e → (answer : Result View PoolError) (result : Result Entry AllocError) → Ends fresh w.connector k u (Some (query_error e u.seen.number)) answer → To answer result
  by_error e is answer result ends = elim (query_cases e u.seen.number) [
    | inl wanted ↦ subst (λ (x : Result View PoolError). To x result) (sym (ends.0 ∙ ap (λ (x : PoolError). Err x) wanted.0))
        (λ shows. subst (λ (c : Connected). Steps honest line Get a (ended w c (Err pooling.OutOfMemory)) result) (sym ends.1) (lacks result shows))
    | inr other ↦ subst (λ (x : Result View PoolError). To x result) (sym (ends.0 ∙ ap (λ (x : PoolError). Err x) other.0))
        (λ shows. (let r : Readies honest line a w u (Some (pooling.QueryError e u.seen.number)) =
        subst (λ (x : Answer). Readies honest line a w u (get_refusal fresh (seat_of u) (reply_as x))) is (ready (subst (λ (x : Answer). x ≢ Err OutOfMemory) (sym is) (error_is e other.1))) in
        subst (λ (c : Connected). Steps honest line Get a (ended w c (Err (pooling.QueryError e u.seen.number))) result) (sym ends.1)
        (shut (pooling.QueryError e u.seen.number) result r (shows ∙ ap (λ (c : Connected). Ok (unserved_entry line (pooling.QueryError e u.seen.number) c.returned)) ends.1))))
  ]

  readied_as : (b : Bool) → (fresh && is_broken u.status) ≡ b → reply ≡ Ok tt → Readies honest line a w u (if b then Some (pooling.LeftOpen u.seen.number) else None)
  readied_as b broken is =
      let r : Readies honest line a w u (get_refusal fresh (seat_of u) replies.Ok) =
      subst (λ (x : Answer). Readies honest line a w u (get_refusal fresh (seat_of u) (reply_as x))) is (ready (subst (λ (x : Answer). x ≢ Err OutOfMemory) (sym is) (λ e. absurd (cc)))) in
      subst (λ (x : Bool). Readies honest line a w u (if x then Some (pooling.LeftOpen u.seen.number) else None)) broken r

  -- it answered, and may have left a transaction open
  by_status : (b : Bool) → (fresh && is_broken u.status) ≡ b → reply ≡ Ok tt → (answer : Result View PoolError) (result : Result Entry AllocError)
      → Ends fresh w.connector k u (if b then Some (pooling.LeftOpen u.seen.number) else None) answer → To answer result
  by_status true broken is answer result ends =
      let r : Readies honest line a w u (Some (pooling.LeftOpen u.seen.number)) = readied_as true broken is in
      subst (λ (x : Result View PoolError). To x result) (sym ends.0)
      (λ shows. subst (λ (c : Connected). Steps honest line Get a (ended w c (Err (pooling.LeftOpen u.seen.number))) result) (sym ends.1)
      (shut (pooling.LeftOpen u.seen.number) result r (shows ∙ ap (λ (c : Connected). Ok (unserved_entry line (pooling.LeftOpen u.seen.number) c.returned)) ends.1)))
  by_status false broken is answer result ends =
      let r : Readies honest line a w u None = readied_as false broken is in
      subst (λ (x : Result View PoolError). To x result) (sym ends.0)
      (λ shows. subst (λ (c : Connected). Steps honest line Get a (ended w c (Ok u)) result) (sym ends.1)
      (subst (Steps honest line Get a (ended w w.connector (Ok u))) (sym shows) (hands_out honest line a w u (entry_on line words.Get replies.Ok (seat_of u)) r refl)))

  pub ends_step : (answer : Result View PoolError) (result : Result Entry AllocError) → Ends fresh w.connector k u (end_of fresh u reply) answer → To answer result
  ends_step answer result ends = by_reply reply refl ends
    where
      by_reply : (x : Answer) → reply ≡ x → Ends fresh w.connector k u (end_of fresh u x) answer → To answer result
      by_reply (Err e) is h = by_error e is answer result h
      by_reply (Ok t) is h = by_status (fresh && is_broken u.status) refl is answer result h

-- ---- `get`

-- the end is what the session shows, where its pool has a place for each server
served_is : (w c : World) (k : Connected) → fills_places k.opened w.pool ≡ c.pool → (x : Result View PoolError) → ended c k x ≡ served_world w k x
served_is w c k filled (Ok u) = ap (λ (p : Pool). record { pool = puts_out u.seen.number (Some u) p; connector = k }) (sym filled)
served_is w c k filled (Err e) = ap (λ (p : Pool). record { pool = gives_slot None p; connector = k }) (sym filled)

-- no end opens a server
ends_opened : (fresh : Bool) (left k : Connected) (u : View) (e : Option PoolError) (answer : Result View PoolError) → Ends fresh left k u e answer → k.opened ≡ left.opened
ends_opened fresh left k u None answer h = ap (λ (c : Connected). c.opened) h.1
ends_opened fresh left k u (Some e) answer h = ap (λ (c : Connected). c.opened) h.1

module _ (honest tells : Bool) (honest_tells : honest ≡ true → tells ≡ true) (line : ℕ) (w : World) (k : Connected) (answer : Result View PoolError) (result : Result Entry AllocError) (shows : ShowsServed line k answer result) where
  kept_step : (v : View) → Invariant (in_front (Some v) w) → AsksKept tells w v k answer → Steps honest line Get (in_front (Some v) w) (served_world w k answer) result
  kept_step v holds g =
      let deed : Option Deed = check_deed w.pool.policy.check in
      let keeps : KeepsAll (in_front (Some v) w) (in_front (Some g.after) w) = asked_keeps w v g.after (if_number tells deed v g.after g.reply g.asks) (if_later tells deed v g.after g.reply g.asks) holds in
      let filled : fills_places k.opened w.pool ≡ w.pool = places_filled w.pool k.opened (holds.places ∙ sym (ends_opened false w.connector k g.after (end_of false g.after g.reply) answer g.ends)) in
      subst (λ (x : World). Steps honest line Get (in_front (Some v) w) x result) (served_is w w k filled answer)
      (ends_step honest line false (in_front (Some v) w) w k g.after g.reply keeps (λ memory. ready_kept honest tells honest_tells line w v g.after holds g.reply g.asks memory) answer result g.ends shows)

  new_step : Invariant (in_front None w) → MakesNew honest tells w k answer → Steps honest line Get (in_front None w) (served_world w k answer) result
  new_step holds g =
      let set_up = g.opens.established.set_up in
      let with_server : World = opened_now honest tells honest_tells line w holds g.left set_up.first set_up.opened in
      let deed : Option Deed = customizer_deed w.pool.policy.customizer in
      let in_hand : KeepsAll (in_front None w) (in_front (Some g.first) with_server) = keeps_opened honest tells honest_tells line w holds g.left set_up.first set_up.opened g.first set_up.set_up.acts.same.number in
      let asked : KeepsAll (in_front (Some g.first) with_server) (in_front (Some g.after) with_server) =
      asked_keeps with_server g.first g.after (if_number tells deed g.first g.after g.reply g.acquires) (if_later tells deed g.first g.after g.reply g.acquires) in_hand.holds in
      let keeps : KeepsAll (in_front None w) (in_front (Some g.after) with_server) = keeps-trans (in_front None w) (in_front (Some g.first) with_server) (in_front (Some g.after) with_server) in_hand asked in
      let count : k.opened ≡ g.left.opened = ends_opened true g.left k g.after (end_of true g.after g.reply) answer g.ends in
      let filled : fills_places k.opened w.pool ≡ adds_out None w.pool = place_filled w.pool k.opened (omega (arith, holds.places, count, opened honest tells honest_tells line w holds g.left set_up.first set_up.opened)) in
      subst (λ (x : World). Steps honest line Get (in_front None w) x result) (served_is w with_server k filled answer)
      (ends_step honest line true (in_front None w) with_server k g.after g.reply keeps (λ memory. ready_new honest tells honest_tells line w holds g.left g.first g.after set_up g.opens.established.cache g.reply g.acquires memory) answer result g.ends shows)

  none_step : Invariant (in_front None w) → MakesNone honest tells w k answer → Steps honest line Get (in_front None w) (served_world w k answer) result
  none_step holds g =
      let shows_error : ShowsServed line k (Err (opening_error g.fault)) result = subst (λ (x : Result View PoolError). ShowsServed line k x result) g.answer_is shows in
      subst (λ (x : Result View PoolError). Steps honest line Get (in_front None w) (served_world w k x) result) (sym g.answer_is) (get_failed honest tells honest_tells line w holds k g.fault result g.fails.failed shows_error)

  pub slot_step : (slot : Option View) → Invariant (in_front slot w) → ServesAt honest tells w slot k answer → Steps honest line Get (in_front slot w) (served_world w k answer) result
  slot_step (Some v) holds g = kept_step v holds g
  slot_step None holds (inl g) = new_step holds g
  slot_step None holds (inr g) = none_step holds g

module _ (honest tells : Bool) (honest_tells : honest ≡ true → tells ≡ true) (line : ℕ) (w : World) (k : Connected) (answer : Result View PoolError) where
  -- where it is handed out its place is there, and empty
  abbrev IsVacant : View → Type 0
  IsVacant u = let out : List (Option View) = filled_to k.opened w.pool.out in (at_number u.seen.number out ≡ None) × (u.seen.number < length out)

  vacant_in : (c : World) (u : View) → fills_places k.opened w.pool ≡ c.pool → Invariant (in_front (Some u) c) → IsVacant u
  vacant_in c u filled holds =
      let out_is : c.pool.out ≡ filled_to k.opened w.pool.out = sym (ap (λ (p : Pool). p.out) filled) in (
        subst (λ (out : List (Option View)). at_number u.seen.number out ≡ None) out_is (front_vacant c u holds),
        subst (λ (out : List (Option View)). u.seen.number < length out) out_is (front_within c u holds),
      )

  end_ok : (fresh : Bool) (left : Connected) (after u : View) (e : Option PoolError) → answer ≡ Ok u → Ends fresh left k after e answer → after ≡ u
  end_ok fresh left after u None is ends = (let same : (let r : Result View PoolError = Ok after in r) ≡ Ok u = sym ends.0 ∙ is in cc same)
  end_ok fresh left after u (Some e) is ends = (let same : (let r : Result View PoolError = Err e in r) ≡ Ok u = sym ends.0 ∙ is in absurd (cc same))

  pub vacant : (slot : Option View) (u : View) → answer ≡ Ok u → Invariant (in_front slot w) → ServesAt honest tells w slot k answer → IsVacant u
  vacant (Some v) u is holds g =
      let deed : Option Deed = check_deed w.pool.policy.check in
      let filled : fills_places k.opened w.pool ≡ w.pool = places_filled w.pool k.opened (holds.places ∙ sym (ends_opened false w.connector k g.after (end_of false g.after g.reply) answer g.ends)) in
      subst IsVacant (end_ok false w.connector g.after u (end_of false g.after g.reply) is g.ends)
      (vacant_in w g.after filled (asked_keeps w v g.after (if_number tells deed v g.after g.reply g.asks) (if_later tells deed v g.after g.reply g.asks) holds).holds)
  vacant None u is holds (inl g) =
      let set_up = g.opens.established.set_up in
      let with_server : World = opened_now honest tells honest_tells line w holds g.left set_up.first set_up.opened in
      let deed : Option Deed = customizer_deed w.pool.policy.customizer in
      let in_hand : KeepsAll (in_front None w) (in_front (Some g.first) with_server) = keeps_opened honest tells honest_tells line w holds g.left set_up.first set_up.opened g.first set_up.set_up.acts.same.number in
      let asked : KeepsAll (in_front (Some g.first) with_server) (in_front (Some g.after) with_server) =
      asked_keeps with_server g.first g.after (if_number tells deed g.first g.after g.reply g.acquires) (if_later tells deed g.first g.after g.reply g.acquires) in_hand.holds in
      let count : k.opened ≡ g.left.opened = ends_opened true g.left k g.after (end_of true g.after g.reply) answer g.ends in
      let filled : fills_places k.opened w.pool ≡ adds_out None w.pool = place_filled w.pool k.opened (omega (arith, holds.places, count, opened honest tells honest_tells line w holds g.left set_up.first set_up.opened)) in
      subst IsVacant (end_ok true g.left g.after u (end_of true g.after g.reply) is g.ends) (vacant_in with_server g.after filled asked.holds)
  vacant None u is holds (inr g) = (let same : (let r : Result View PoolError = Err (opening_error g.fault) in r) ≡ Ok u = sym g.answer_is ∙ is in absurd (cc same))
