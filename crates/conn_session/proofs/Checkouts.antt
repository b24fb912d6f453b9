-- What the pool's core answers is what a session's slot is served by.
use Rattle.std.proofs.Common.{◌≡◌, ℕ, zero, suc, ◌<◌, Bool, true, false, if◌then◌else◌, List, [], ◌∷◌, ◌++◌, length, Option, Some, None, Result, Ok, Err, refl, sym, ap, subst, ◌∙◌, arith, inl, inr}
use Rattle.std.specs.Prelude.{nat_lt, slice_get, slice_set}
use Rattle.std.specs.Option.{option_map}
use Rattle.std.proofs.lemmas.Bool.Decides.{nat_tests}
use Rattle.std.proofs.lemmas.List.{length-map}
use Rattle.std.specs.declared.alloc.AllocError.{AllocError}
use Rattle.conn_result.specs.declared.error.ConnectionError.{ConnectionError}
use Rattle.conn_result.specs.declared.pool.Error.{Error as PoolError}
use Rattle.conn_result.specs.declared.pool.Error.TheVariants as pooling
use Rattle.conn_result.specs.declared.pool.PoolError.{PoolError as PoolRefusal}
use Rattle.conn_result.specs.declared.pool.PoolError.TheVariants as refusals
use Rattle.conn_manager.specs.Manages.{Reply as Answer}
use Rattle.conn_manager.specs.Statuses.{is_broken}
use Rattle.conn_manager.specs.Views.{View}
use Rattle.conn_pool.specs.Checkouts.{ChecksOut, Customizes, Fills, Inspects, Judges, Reuses, Serves, TriesGet, seen_answer}
use Rattle.conn_pool.specs.Managers.{ChecksManaged, ClosesManaged, FailsManaged, KeepsSettings, Managed, OpensManaged}
use Rattle.conn_pool.specs.SlotViews.{PoolView, SlotView, empty_slot, with_slots}
use Rattle.conn_pool.specs.declared.pooled.PooledConnection.{PooledConnection}
use Rattle.conn_reading.specs.Asking.{Policy, check_deed}
use Rattle.conn_reading.specs.Seats.{at_number, entry_on, entry_without}
use Rattle.conn_reading.specs.declared.blocks.Block.{Block}
use Rattle.conn_reading.specs.declared.deed.Deed.TheVariants as deeds
use Rattle.conn_report.specs.declared.entry.Entry.{Entry}
use Rattle.conn_report.specs.declared.entry.Reply.TheVariants as replies
use Rattle.conn_script.specs.declared.command.Word.TheVariants as words
use Rattle.conn_script.specs.declared.query.Declared.{Declared}
use Rattle.conn_script.specs.declared.request.Request.TheVariants.{Get}
use Rattle.conn_server.specs.Connected.{Connected, takes_back}
use Rattle.conn_session.specs.Customizing.{AcquiresAs, AnswersDeed, AnswersIf}
use Rattle.conn_session.specs.Responses.{ShowsUnserved, seat_of}
use Rattle.conn_session.specs.Steps.{Steps}
use Rattle.conn_session.specs.Transfers.{in_front}
use Rattle.conn_session.specs.Worlds.{World, Invariant, filled_to, kept_views, views_of}
use Rattle.conn_session.proofs.Gets.{get_none}
use Rattle.conn_session.proofs.Numbers.{at_number-map}
use Rattle.conn_session.proofs.Pooled.{Ends, ServesAt, ShowsServed, end_of, served_world, set_at, slot_step, vacant}
use Rattle.conn_session.proofs.Responses.{counted_by, ping_asked}
use Rattle.conn_session.proofs.Shown.{kept-last, views-filled, views-set}

-- a ping is a deed
pinged : (tells : Bool) (old new : Managed) (v u : View) (answer : Answer) → ChecksManaged tells old new v u answer → AnswersDeed tells deeds.Ping v u answer
pinged tells old new v u answer h = record {
  asks = λ queries. ping_asked tells queries v u answer h.pinged;
  counted = counted_by deeds.Ping v.seen u.seen answer h.cause;
  honest_after = h.honest_after;
}

-- by what a manager shows
module _ {M C : Type 0} (at : M → Managed) (view : C → View) (honest tells : Bool) (w : World) where
  abbrev opens : M → M → View → Type 0
  opens m n = OpensManaged honest tells (at m) (at n)

  abbrev fails : M → M → ConnectionError → Type 0
  fails m n = FailsManaged honest tells (at m) (at n)

  abbrev checks : M → M → View → View → Answer → Type 0
  checks m n = ChecksManaged tells (at m) (at n)

  abbrev closes : M → M → View → Type 0
  closes m n = ClosesManaged (at m) (at n)

  abbrev stays : M → M → Type 0
  stays m n = at n ≡ at m

  abbrev acquires : View → View → Answer → Type 0
  acquires = AcquiresAs tells w.pool.policy.customizer

  abbrev fills : M → M → Result View PoolError → Type 0
  fills = Fills opens fails closes stays acquires

  abbrev reuses : M → M → C → Result C PoolError → Type 0
  reuses = Reuses checks closes view w.pool.policy.check

  -- the settings stay, and the slot was served
  pub record Serviced (old new : M) (kept : Option C) (answer : Result C PoolError) : Type 0 where
    pub settings : KeepsSettings (at old) (at new)
    pub served : ServesAt honest tells w (option_map view kept) (at new).connector (seen_answer view answer)

  module _ (old new : M) (starts : at old ≡ set_at w w.connector) where
    -- a connection that was customized
    customized : (mid : M) (u : View) (reply : Answer) (answer : Result View PoolError) → Customizes closes stays mid new u reply answer → Ends true (at mid).connector (at new).connector u (end_of true u reply) answer × KeepsSettings (at mid) (at new)
    customized mid u (Err e) answer h = ((h.0, ap (λ (x : Managed). x.connector) h.1), h.1 ∙ ap (λ (c : Connected). record (at mid) { connector = c }) (sym (ap (λ (x : Managed). x.connector) h.1)))
    customized mid u (Ok t) answer h = by_status (is_broken u.status) h
      where
        by_status : (b : Bool) → Inspects closes stays mid new u b answer → Ends true (at mid).connector (at new).connector u (if b then Some (pooling.LeftOpen u.seen.number) else None) answer × KeepsSettings (at mid) (at new)
        by_status false g = ((g.0, ap (λ (x : Managed). x.connector) g.1), g.1 ∙ ap (λ (c : Connected). record (at mid) { connector = c }) (sym (ap (λ (x : Managed). x.connector) g.1)))
        by_status true g =
            let shut : at new ≡ record (at mid) { connector = takes_back u.seen (at mid).connector } = g.1.closed ∙ ap (λ (x : Managed). record x { connector = takes_back u.seen x.connector }) g.1.looked in
            ((g.0, ap (λ (x : Managed). x.connector) shut), shut ∙ ap (λ (c : Connected). record (at mid) { connector = c }) (sym (ap (λ (x : Managed). x.connector) shut)))

    -- settings that stay twice
    settings_on : (a b c : Managed) → KeepsSettings a b → KeepsSettings b c → KeepsSettings a c
    settings_on a b c h g = g ∙ ap (λ (x : Managed). record x { connector = c.connector }) h

    -- a manager with the settings of the session
    at_is : (m : M) → KeepsSettings (at old) (at m) → at m ≡ set_at w (at m).connector
    at_is m h = h ∙ ap (λ (x : Managed). record x { connector = (at m).connector }) starts

    filled : (answer : Result View PoolError) → fills old new answer → KeepsSettings (at old) (at new) × ServesAt honest tells w None (at new).connector answer
    filled answer (inl g) =
        let opened : KeepsSettings (at old) (at g.mid) = g.connected.settings in
        let ends = customized g.mid g.after g.reply answer g.ends in (
          settings_on (at old) (at g.mid) (at new) opened ends.1,
          inl (record {
            left = (at g.mid).connector;
            first = g.opened;
            after = g.after;
            reply = g.reply;
            opens = subst (λ (x : Managed). OpensManaged honest tells x (set_at w (at g.mid).connector) g.opened) starts (subst (λ (x : Managed). OpensManaged honest tells (at old) x g.opened) (at_is g.mid opened) g.connected);
            acquires = g.acquired;
            ends = ends.0;
          }),
        )
    filled answer (inr g) = (
      g.failed.settings,
      inr (record {
        fault = g.fault;
        fails = subst (λ (x : Managed). FailsManaged honest tells x (set_at w (at new).connector) g.fault) starts (subst (λ (x : Managed). FailsManaged honest tells (at old) x g.fault) (at_is new g.failed.settings) g.failed);
        answer_is = g.answer_is;
      }),
    )

    connector_is : (at old).connector ≡ w.connector
    connector_is = ap (λ (x : Managed). x.connector) starts

    judged : (mid : M) (u : View) (reply : Answer) (answer : Result View PoolError) → at mid ≡ at old → Judges closes mid new u reply answer → Ends false w.connector (at new).connector u (end_of false u reply) answer × KeepsSettings (at old) (at new)
    judged mid u (Ok t) answer same h =
        let still : at new ≡ at old = ap at h.1 ∙ same in
        ((h.0, ap (λ (x : Managed). x.connector) still ∙ connector_is), still ∙ ap (λ (c : Connected). record (at old) { connector = c }) (sym (ap (λ (x : Managed). x.connector) still)))
    judged mid u (Err e) answer same h =
        let shut : at new ≡ record (at old) { connector = takes_back u.seen (at old).connector } = h.1 ∙ ap (λ (x : Managed). record x { connector = takes_back u.seen x.connector }) same in
        ((h.0, ap (λ (x : Managed). x.connector) shut ∙ ap (takes_back u.seen) connector_is), shut ∙ ap (λ (c : Connected). record (at old) { connector = c }) (sym (ap (λ (x : Managed). x.connector) shut)))

    reused : (check : Bool) (c : C) (answer : Result C PoolError) → Reuses checks closes view check old new c answer
        → KeepsSettings (at old) (at new) × ((after : View) × (reply : Answer) × AnswersIf tells (check_deed check) (view c) after reply × Ends false w.connector (at new).connector after (end_of false after reply) (seen_answer view answer))
    reused false c answer h =
        let still : at new ≡ at old = ap at h.1 in (
          still ∙ ap (λ (k : Connected). record (at old) { connector = k }) (sym (ap (λ (x : Managed). x.connector) still)),
          (view c, Ok tt, (refl, refl), (ap (seen_answer view) h.0, ap (λ (x : Managed). x.connector) still ∙ connector_is)),
        )
    reused true c answer h =
        let ends = judged h.mid h.after h.reply (seen_answer view answer) h.checked.same h.ends in
        (ends.1, (h.after, h.reply, pinged tells (at old) (at h.mid) (view c) h.after h.reply h.checked, ends.0))

    pub serviced : (kept : Option C) (answer : Result C PoolError) → Serves view fills reuses old new kept answer → Serviced old new kept answer
    serviced None answer h = (let g = filled (seen_answer view answer) h in record { settings = g.0; served = g.1 })
    serviced (Some c) answer h =
        let g = reused w.pool.policy.check c answer h in
        record { settings = g.0; served = record { after = g.1.0; reply = g.1.1; asks = g.1.2; ends = g.1.3 } }

-- ---- a check-out

-- what a session shows, by its parts
abbrev pub world_from : {C : Type 0} → (C → View) → PoolView C → List (Option (PooledConnection C)) → List Block → List Declared → Policy → Managed → World
world_from view core out blocks queries policy m = record {
  pool = record { dialect = m.dialect; url = m.url; size = core.max_size; slots = kept_views view core.slots; out = views_of view out; blocks = blocks; queries = queries; policy = policy };
  connector = m.connector;
}

-- the element at a place is what stands at its number
slice_at : {A : Type 0} (xs : List (Option A)) (n : ℕ) → n < length xs → slice_get xs n ≡ Some (at_number n xs)
slice_at [] n l = absurd (omega (arith, l))
slice_at (x ∷ xs) zero l = refl
slice_at (x ∷ xs) (suc n) l = slice_at xs n (omega (arith, l))

-- where there are as many places as servers none is added
filled_all : {A B : Type 0} (opened : ℕ) (out : List (Option A)) (views : List B) → length views ≡ length out → length views ≡ opened → filled_to opened out ≡ out
filled_all opened out views same count = by_case (nat_lt (length out) opened) refl
  where
    by_case : (b : Bool) → nat_lt (length out) opened ≡ b → (if b then out ++ None ∷ [] else out) ≡ out
    by_case true e = absurd (grind (arith, nat_tests, e, same, count))
    by_case false e = refl

none_back : {A B : Type 0} (f : A → B) (o : Option A) → option_map f o ≡ None → o ≡ None
none_back f None e = refl
none_back f (Some x) e = absurd (cc)

module _ {M C : Type 0} (at : M → Managed) (view : C → View) (honest tells : Bool) (honest_tells : honest ≡ true → tells ≡ true) (line : ℕ) (core core' : PoolView C) (old new : M) (out : List (Option (PooledConnection C))) (blocks : List Block) (queries : List Declared) (policy : Policy)
    (holds : Invariant (world_from view core out blocks queries policy (at old))) where
  -- the session with these slots in the pool
  abbrev rest_world : List (SlotView C) → World
  rest_world rest = world_from view (with_slots core rest) out blocks queries policy (at old)

  abbrev Gets : List (SlotView C) → Result (PooledConnection C) PoolRefusal → Type 0
  Gets slots result = TriesGet view (fills at view honest tells (rest_world [])) (reuses at view honest tells (rest_world [])) core core' old new slots result

  abbrev opened_count : ℕ
  opened_count = (at new).connector.opened

  -- the front slot's service
  service : (slot : SlotView C) (rest : List (SlotView C)) (answer : Result C PoolError) → Serves view (fills at view honest tells (rest_world [])) (reuses at view honest tells (rest_world [])) old new slot.kept answer → Serviced at view honest tells (rest_world rest) old new slot.kept answer
  service slot rest answer h = serviced at view honest tells (rest_world rest) old new refl slot.kept answer h

  front_holds : (slot : SlotView C) (rest : List (SlotView C)) → core.slots ≡ slot ∷ rest → Invariant (in_front (option_map view slot.kept) (rest_world rest))
  front_holds slot rest e = subst (λ (slots : List (SlotView C)). Invariant (rest_world slots)) e holds

  abbrev views : List (Option View)
  views = views_of view out

  -- one is handed out
  handed_vacant : (slot : SlotView C) (rest : List (SlotView C)) (p : PooledConnection C) → core.slots ≡ slot ∷ rest → ChecksOut view (fills at view honest tells (rest_world [])) (reuses at view honest tells (rest_world [])) core core' old new slot rest p
      → let n = (view p.connection).seen.number in slice_get (filled_to opened_count out) n ≡ Some None
  handed_vacant slot rest p e h =
      let n = (view p.connection).seen.number in
      let s = service slot rest (Ok p.connection) h.served in
      let v = vacant honest tells honest_tells line (rest_world rest) (at new).connector (Ok (view p.connection)) (option_map view slot.kept) (view p.connection) refl (front_holds slot rest e) s.served in
      let views_are : views_of view (filled_to opened_count out) ≡ filled_to opened_count views = views-filled view opened_count out in
      let long : n < length (filled_to opened_count out) = omega (arith, v.1, ap length views_are, length-map (filled_to opened_count out) (option_map (λ (x : PooledConnection C). view x.connection))) in
      let none : at_number n (filled_to opened_count out) ≡ None =
      none_back (λ (x : PooledConnection C). view x.connection) (at_number n (filled_to opened_count out)) (sym (at_number-map (λ (x : PooledConnection C). view x.connection) n (filled_to opened_count out)) ∙ ap (at_number n) views_are ∙ v.0) in
      slice_at (filled_to opened_count out) n long ∙ ap (λ (o : Option (PooledConnection C)). Some o) none

  ok_world : (rest : List (SlotView C)) (p : PooledConnection C) → core' ≡ with_slots core rest → KeepsSettings (at old) (at new)
      → served_world (rest_world rest) (at new).connector (Ok (view p.connection)) ≡ world_from view core' (slice_set (filled_to opened_count out) (view p.connection).seen.number (Some p)) blocks queries policy (at new)
  ok_world rest p core_is settings =
      let n = (view p.connection).seen.number in
      let outs : slice_set (filled_to opened_count views) n (Some (view p.connection)) ≡ views_of view (slice_set (filled_to opened_count out) n (Some p)) =
      ap (λ (l : List (Option View)). slice_set l n (Some (view p.connection))) (sym (views-filled view opened_count out)) ∙ sym (views-set view (filled_to opened_count out) n (Some p)) in
      let k = (at new).connector in
      ap (λ (l : List (Option View)). let W : World = record { pool = record (rest_world rest).pool { out = l }; connector = k } in W) outs
      ∙ ap (λ (c : PoolView C). world_from view c (slice_set (filled_to opened_count out) n (Some p)) blocks queries policy (record (at old) { connector = k })) (sym core_is)
      ∙ ap (world_from view core' (slice_set (filled_to opened_count out) n (Some p)) blocks queries policy) (sym settings)

  err_world : (slot : SlotView C) (rest : List (SlotView C)) (e : PoolError) → core' ≡ with_slots core (rest ++ empty_slot slot.number ∷ []) → KeepsSettings (at old) (at new)
      → served_world (rest_world rest) (at new).connector (Err e) ≡ world_from view core' (filled_to opened_count out) blocks queries policy (at new)
  err_world slot rest e core_is settings =
      let k = (at new).connector in
      ap (λ (l : List (Option View)). let W : World = record { pool = record (rest_world rest).pool { slots = kept_views view rest ++ None ∷ []; out = l }; connector = k } in W) (sym (views-filled view opened_count out))
      ∙ ap (λ (l : List (Option View)). let W : World = record { pool = record (rest_world rest).pool { slots = l; out = views_of view (filled_to opened_count out) }; connector = k } in W) (sym (kept-last view rest (empty_slot slot.number)))
      ∙ ap (λ (c : PoolView C). world_from view c (filled_to opened_count out) blocks queries policy (record (at old) { connector = k })) (sym core_is)
      ∙ ap (world_from view core' (filled_to opened_count out) blocks queries policy) (sym settings)

  abbrev start_world : World
  start_world = world_from view core out blocks queries policy (at old)

  pub got_vacant : (slots : List (SlotView C)) (p : PooledConnection C) → core.slots ≡ slots → Gets slots (Ok p) → let n = (view p.connection).seen.number in slice_get (filled_to opened_count out) n ≡ Some None
  got_vacant [] p e h = absurd (cc (h.0))
  got_vacant (slot ∷ rest) p e h = handed_vacant slot rest p e h

  pub got_ok : (slots : List (SlotView C)) (p : PooledConnection C) (entry : Entry) → core.slots ≡ slots → Gets slots (Ok p) → entry ≡ entry_on line words.Get replies.Ok (seat_of (view p.connection))
      → Steps honest line Get start_world (world_from view core' (slice_set (filled_to opened_count out) (view p.connection).seen.number (Some p)) blocks queries policy (at new)) (Ok entry)
  got_ok [] p entry e h shown = absurd (cc (h.0))
  got_ok (slot ∷ rest) p entry e h shown =
      let s = service slot rest (Ok p.connection) h.served in
      let steps : Steps honest line Get (in_front (option_map view slot.kept) (rest_world rest)) (served_world (rest_world rest) (at new).connector (Ok (view p.connection))) (Ok entry) =
      slot_step honest tells honest_tells line (rest_world rest) (at new).connector (Ok (view p.connection)) (Ok entry) (ap (λ (x : Entry). Ok x) shown) (option_map view slot.kept) (front_holds slot rest e) s.served in
      subst (λ (slots : List (SlotView C)). Steps honest line Get (rest_world slots) (world_from view core' (slice_set (filled_to opened_count out) (view p.connection).seen.number (Some p)) blocks queries policy (at new)) (Ok entry)) (sym e)
      (subst (λ (x : World). Steps honest line Get (in_front (option_map view slot.kept) (rest_world rest)) x (Ok entry)) (ok_world rest p h.pool_is s.settings) steps)

  pub got_err : (slots : List (SlotView C)) (refusal : PoolRefusal) (result : Result Entry AllocError) → core.slots ≡ slots → Gets slots (Err refusal) → ShowsUnserved line refusal (at new).connector.returned result
      → Steps honest line Get start_world (world_from view core' (filled_to opened_count out) blocks queries policy (at new)) result
  got_err [] refusal result e h shown =
      let none : refusal ≡ refusals.NoneFree = cc (h.0) in
      let shows : result ≡ Ok (entry_without line words.Get None replies.NoneFree) = subst (λ (x : PoolRefusal). ShowsUnserved line x (at new).connector.returned result) none shown in
      let same : at new ≡ at old = ap at h.2 in
      let outs : filled_to opened_count out ≡ out = ap (λ (m : Managed). filled_to m.connector.opened out) same ∙ filled_all (at old).connector.opened out views (length-map out (option_map (λ (x : PooledConnection C). view x.connection))) holds.places in
      subst (λ (x : Result Entry AllocError). Steps honest line Get start_world (world_from view core' (filled_to opened_count out) blocks queries policy (at new)) x) (sym shows)
      (subst (λ (x : World). Steps honest line Get start_world x (Ok (entry_without line words.Get None replies.NoneFree)))
      (ap (λ (c : PoolView C). world_from view c out blocks queries policy (at old)) (sym h.1) ∙ ap (λ (l : List (Option (PooledConnection C))). world_from view core' l blocks queries policy (at old)) (sym outs) ∙ ap (world_from view core' (filled_to opened_count out) blocks queries policy) (sym same))
      (get_none honest line start_world (entry_without line words.Get None replies.NoneFree) (ap (kept_views view) e) refl holds))
  got_err (slot ∷ rest) refusal result e h shown =
      let s = service slot rest (Err h.error) h.served in
      let shows : ShowsServed line (at new).connector (Err h.error) result = subst (λ (x : PoolRefusal). ShowsUnserved line x (at new).connector.returned result) h.error_is shown in
      let steps : Steps honest line Get (in_front (option_map view slot.kept) (rest_world rest)) (served_world (rest_world rest) (at new).connector (Err h.error)) result =
      slot_step honest tells honest_tells line (rest_world rest) (at new).connector (Err h.error) result shows (option_map view slot.kept) (front_holds slot rest e) s.served in
      subst (λ (slots : List (SlotView C)). Steps honest line Get (rest_world slots) (world_from view core' (filled_to opened_count out) blocks queries policy (at new)) result) (sym e)
      (subst (λ (x : World). Steps honest line Get (in_front (option_map view slot.kept) (rest_world rest)) x result) (err_world slot rest h.error h.pool_is s.settings) steps)
