-- The steps of a call over one connection: an event, room, a text, a status that is set.
use Rattle.std.proofs.Common.{◌≡◌, ℕ, Bool, List, [], ◌∷◌, refl, ap, sym, ◌∙◌, subst, inl, inr, None, Err}
use Rattle.conn_result.specs.declared.error.Error.TheVariants.{OutOfMemory}
use Rattle.conn_model.specs.Acts.{Tells}
use Rattle.conn_model.specs.Events.{Event, with_events}
use Rattle.conn_model.specs.Process.{Process, Stop, Tell, map_process}
use Rattle.conn_model.specs.Seen.{Seen}
use Rattle.conn_model.specs.declared.item.Dialect.{Dialect}
use Rattle.conn_model.proofs.Mapped.{tells_map}
use Rattle.conn_model.proofs.Telling.{stops_telling, tells_first, tells_in_room}
use Rattle.conn_manager.specs.Manages.{Done, done, Reply, ask_text, own_process, send_process, begin_by, begun, begin_process, begin_test_process, with_test_mark, with_test_mark_in}
use Rattle.conn_manager.specs.Statuses.{Status, valid}
use Rattle.conn_manager.specs.Views.{View, with_event, TellsFrom, TellsOrMemoryFrom, ActsOrMemoryFrom}
use Rattle.conn_model.specs.Nuls.{nul_place, nul_fault}
use Rattle.conn_manager.proofs.Asks.{asks_on, sends_own, try_mapped}

module _ (honest : Bool) where
  -- the process goes by another name at the status at entry
  pub goes_as : (p q : Dialect → Status → Process Done) (s : Status) (old new : View) (reply : Reply) → old.status ≡ s → ((d : Dialect) → q d s ≡ p d s) → TellsFrom honest p old new reply → TellsFrom honest q old new reply
  goes_as p q s old new reply is same tells =
      subst (λ (x : Process Done). Tells honest x old.seen new.seen old.heeded new.heeded (done reply new.status))
      (ap (p old.seen.dialect) is ∙ sym (same old.seen.dialect) ∙ ap (q old.seen.dialect) (sym is)) tells

  -- an event, and then the rest
  pub event_first : (event : Event) (p : Dialect → Status → Process Done) (old mid new : View) (reply : Reply) → mid ≡ with_event old event → TellsFrom honest p mid new reply → TellsFrom honest (λ d s. Tell event (p d s)) old new reply
  event_first event p old mid new reply told rest =
      tells_first honest event (p old.seen.dialect old.status) old.seen new.seen old.heeded (with_events old.heeded (event ∷ [])) new.heeded (done reply new.status) refl
      (subst (λ (v : View). TellsFrom honest p v new reply) told rest)

  -- room, and then the rest
  pub room_first : (p : Dialect → Status → Process Done) (old mid new : View) (reply : Reply) → mid.seen ≡ record old.seen { item_room = mid.seen.item_room; byte_room = mid.seen.byte_room } → mid ≡ record old { seen = mid.seen }
      → TellsFrom honest p mid new reply → TellsFrom honest p old new reply
  room_first p old mid new reply keeps same rest =
      let d : mid.seen.dialect ≡ old.seen.dialect = ap (λ (x : Seen). x.dialect) keeps in
      let here : TellsFrom honest p (record old { seen = mid.seen }) new reply = subst (λ (v : View). TellsFrom honest p v new reply) same rest in
      tells_in_room honest (p old.seen.dialect old.status) old.seen mid.seen new.seen old.heeded new.heeded (done reply new.status) keeps
      (subst (λ (x : Dialect). Tells honest (p x old.status) mid.seen new.seen old.heeded new.heeded (done reply new.status)) d here)

  -- a text without NUL, and then the rest by its answer
  pub text_first : (text words : List ℕ) (next : Dialect → Reply → Status → Process Done) (r : Reply) (old mid new : View) (reply : Reply) → text ≡ words → TellsFrom honest (λ d. own_process d text) old mid r
      → TellsFrom honest (λ d. next d r) mid new reply → TellsFrom honest (λ d s. ask_text d words s (next d)) old new reply
  text_first text words next r old mid new reply same first rest =
      let d = old.seen.dialect in
      let more : Tells honest (next d r mid.status) mid.seen new.seen mid.heeded new.heeded (done reply new.status) =
      subst (λ (x : Dialect). Tells honest (next x r mid.status) mid.seen new.seen mid.heeded new.heeded (done reply new.status)) first.acts.same.dialect rest in
      subst (λ (w : List ℕ). Tells honest (ask_text d w old.status (next d)) old.seen new.seen old.heeded new.heeded (done reply new.status)) same
      (asks_on honest d text old.status (next d) old.seen mid.seen new.seen old.heeded mid.heeded new.heeded r mid.status (done reply new.status) first more)

  -- the status was set as the answer makes it
  pub settles : (f : Reply → Status → Done) (r : Reply) (s : Status) (a : Done) (old new : View) (reply : Reply) → a ≡ f r s → s ≡ old.status → reply ≡ a.reply → new ≡ record old { status = a.status } → TellsFrom honest (λ d s. Stop (f r s)) old new reply
  settles f r s a old new reply made is answers set =
      let e : f r old.status ≡ a = ap (f r) (sym is) ∙ sym made in
      let stopped : Tells honest (Stop (f r old.status)) old.seen old.seen old.heeded old.heeded a = subst (λ (x : Done). Tells honest (Stop (f r old.status)) old.seen old.seen old.heeded old.heeded x) e (stops_telling honest old.seen old.heeded (f r old.status)) in
      let here : TellsFrom honest (λ d s. Stop (f r s)) old (record old { status = a.status }) reply = subst (λ (x : Reply). Tells honest (Stop (f r old.status)) old.seen old.seen old.heeded old.heeded (done x a.status)) (sym answers) stopped in
      subst (λ (v : View). TellsFrom honest (λ d s. Stop (f r s)) old v reply) (sym set) here

  -- more was made of what a call did, and the status set by that
  pub made : (f : Done → Done) (p : Dialect → Status → Process Done) (r : Reply) (s : Status) (a : Done) (old mid new : View) (reply : Reply) → TellsFrom honest p old mid r → a ≡ f (done r s) → s ≡ mid.status → reply ≡ a.reply → new ≡ record mid { status = a.status }
      → TellsFrom honest (λ d s. map_process f (p d s)) old new reply
  made f p r s a old mid new reply tells is_made is answers set =
      let e : f (done r mid.status) ≡ a = ap (λ (x : Status). f (done r x)) (sym is) ∙ sym is_made in
      let q = map_process f (p old.seen.dialect old.status) in
      let whole : Tells honest q old.seen mid.seen old.heeded mid.heeded a = subst (λ (x : Done). Tells honest q old.seen mid.seen old.heeded mid.heeded x) e (tells_map f honest (p old.seen.dialect old.status) old.seen mid.seen old.heeded mid.heeded (done r mid.status) tells) in
      let here : TellsFrom honest (λ d s. map_process f (p d s)) old (record mid { status = a.status }) reply = subst (λ (x : Reply). Tells honest q old.seen mid.seen old.heeded mid.heeded (done x a.status)) (sym answers) whole in
      subst (λ (v : View). TellsFrom honest (λ d s. map_process f (p d s)) old v reply) (sym set) here

  -- a text without NUL is sent
  pub own_sent : (text : List ℕ) (old new : View) (reply : Reply) → nul_place text ≡ None → TellsFrom honest (λ d. send_process d text) old new reply → TellsFrom honest (λ d. own_process d text) old new reply
  own_sent text old new reply none tells = sends_own honest old.seen.dialect text old.status old.seen new.seen old.heeded new.heeded (done reply new.status) none tells

  -- a text of one's own that begins, and then the status that it makes
  pub begun_by : (text : List ℕ) (r : Reply) (s : Status) (a : Done) (old mid new : View) (reply : Reply) → TellsFrom honest (λ d. send_process d text) old mid r → a ≡ begun r s → s ≡ mid.status → reply ≡ a.reply → new ≡ record mid { status = a.status }
      → TellsFrom honest (λ d. begin_by d text) old new reply
  begun_by text r s a old mid new reply tells is_made is answers set =
      goes_as (λ d s1. map_process (λ (x : Done). begun x.reply x.status) (send_process d text s1)) (λ d. begin_by d text) old.status old new reply refl (λ d. try_mapped begun (nul_fault d text) d text old.status)
      (made (λ (x : Done). begun x.reply x.status) (λ d. send_process d text) r s a old mid new reply tells is_made is answers set)

  -- a begin without a depth, and then the mark
  pub begins_test : (r : Reply) (s : Status) (a : Done) (old mid new : View) (reply : Reply) → old.status ≡ valid None → TellsOrMemoryFrom honest begin_process old mid r → a ≡ with_test_mark_in r s → s ≡ mid.status → reply ≡ a.reply → new ≡ record mid { status = a.status }
      → TellsOrMemoryFrom honest begin_test_process old new reply
  begins_test r s a old mid new reply outside (inr tells) is_made is answers set =
      inr (goes_as (λ d s1. map_process with_test_mark (begin_process d s1)) begin_test_process (valid None) old new reply outside (λ d. refl) (made with_test_mark begin_process r s a old mid new reply tells is_made is answers set))
  begins_test r s a old mid new reply outside (inl memory) is_made is answers set =
      let wants : a ≡ done (Err OutOfMemory) mid.status = is_made ∙ ap (λ (x : Reply). with_test_mark_in x s) memory.0 ∙ ap (done (Err OutOfMemory)) is in
      let same : mid ≡ new = sym (set ∙ ap (λ (x : Done). record mid { status = x.status }) wants) in
      let here : TellsOrMemoryFrom honest begin_test_process old mid (Err OutOfMemory) = inl (refl, memory.1, memory.2) in
      subst (λ (v : View). TellsOrMemoryFrom honest begin_test_process old v reply) same
      (subst (λ (x : Reply). TellsOrMemoryFrom honest begin_test_process old mid x) (sym (answers ∙ ap (λ (x : Done). x.reply) wants)) here)

  -- a call that tells acts
  pub acts_from : (process : Dialect → Status → Process Done) (old new : View) (reply : Reply) → TellsOrMemoryFrom honest process old new reply → ActsOrMemoryFrom honest process old new reply
  acts_from process old new reply (inl memory) = inl (memory.0, memory.1)
  acts_from process old new reply (inr tells) = inr tells.acts
