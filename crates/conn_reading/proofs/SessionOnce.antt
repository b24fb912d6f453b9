-- Once a statement to be kept was accepted, its key isn't prepared again.
use Rattle.std.proofs.Common.{◌≡◌, ℕ, Bool, true, false, List, [], ◌∷◌, Option, Some, None, Ok, refl, sym, subst, inl, inr}
use Rattle.conn_model.specs.declared.item.Dialect.{Dialect}
use Rattle.conn_model.specs.declared.item.Item.{Item}
use Rattle.conn_cache.specs.Keys.{key_of}
use Rattle.conn_cache.specs.QueryProcesses.{types_for}
use Rattle.conn_model.specs.Caches.{Register}
use Rattle.conn_cache.specs.declared.key.StatementCacheKey.{StatementCacheKey}
use Rattle.conn_script.specs.Grammar.{script_of}
use Rattle.conn_script.specs.Requests.{request_of}
use Rattle.conn_script.specs.declared.command.Command.{Command}
use Rattle.conn_script.specs.declared.command.Customizer.{Customizer}
use Rattle.conn_script.specs.declared.command.Customizer.TheVariants as customizers
use Rattle.conn_script.specs.declared.command.Script.{Script}
use Rattle.conn_script.specs.declared.request.Request.{Request}
use Rattle.conn_script.specs.declared.request.Request.TheVariants.{Get, Put, On}
use Rattle.conn_reading.specs.Answered.{ServerLogs, Progress, Taken, started}
use Rattle.conn_reading.specs.Asking.{Policy, check_deed, customizer_deed, get_deed, policy_of}
use Rattle.conn_reading.specs.Blocks.{block_on, deed_of, request_deed}
use Rattle.conn_reading.specs.Owning.{HandsOut, HasRegister, OwnAt, OwnGet, OwnKept, OwnOn, register_read}
use Rattle.conn_reading.specs.Prepared.{EachOnce, LeavesUnboundedAt, LeavesUnboundedIf, OnceAt, OnceKept, OnceOn, PreparesNoneAt, PreparesNoneKept, PreparesNoneOn, StaysPrepared, deed_items}
use Rattle.conn_reading.specs.Seats.{Seat, at_number}
use Rattle.conn_reading.specs.Sessions.{AllPlain, Each}
use Rattle.conn_reading.specs.declared.blocks.Block.{Block}
use Rattle.conn_reading.specs.declared.deed.Deed.{Deed}
use Rattle.conn_reading.proofs.EachSeat.{held}
use Rattle.conn_reading.proofs.KeysKept.{HoldsKey, deed_holds, deed_none}
use Rattle.conn_reading.proofs.Owned.{own_at}
use Rattle.conn_reading.proofs.PlainScripts.{script_plain}
use Rattle.conn_reading.proofs.SessionKept.{DeedKeepsKeys, IsAtNumber, IsOf, ProgressKeeps, SeatOf, Tracks}
use Rattle.conn_reading.proofs.SessionRuns.{CommandKeeps, no_tracks, reads_keeps, started_is, started_keeps}
use Rattle.conn_reading.proofs.Tracks.{has_call}

-- ---- a command keeps a key

holds_if : (deed : Option Deed) (key : StatementCacheKey) (r r' : Register) → LeavesUnboundedIf deed → DeedKeepsKeys deed r r' → HoldsKey key r → HoldsKey key r'
holds_if None key r r' keeps h holds = absurd h
holds_if (Some deed) key r r' keeps h holds = h key keeps holds

-- what `get` asks gives no size
gets_unbounded : (policy : Policy) (kept : Bool) → LeavesUnboundedIf (get_deed policy kept)
gets_unbounded policy true = by_check policy.check
  where
    by_check : (check : Bool) → LeavesUnboundedIf (check_deed check)
    by_check true = tt
    by_check false = tt
gets_unbounded policy false = by_customizer policy.customizer
  where
    by_customizer : (z : Customizer) → LeavesUnboundedIf (customizer_deed z)
    by_customizer customizers.Nop = tt
    by_customizer customizers.Test = tt
    by_customizer customizers.Begin = tt

request_unbounded : (policy : Policy) (kept : Bool) (blocks : List Block) (request : Request) → LeavesUnboundedIf (request_deed None blocks request) → LeavesUnboundedIf (request_deed (get_deed policy kept) blocks request)
request_unbounded policy kept blocks Get h = gets_unbounded policy kept
request_unbounded policy kept blocks (Put n) h = h
request_unbounded policy kept blocks (On n verb) h = h

command_holds : (d : Dialect) (logs : ServerLogs) (policy : Policy) (tracks : Tracks) (p : Progress) (request : Request) (t : Taken) (n : ℕ) (key : StatementCacheKey) → (k : CommandKeeps d logs policy tracks p request t) → HoldsKey key (tracks n).register → LeavesUnboundedAt n p request t
    → HoldsKey key (k.tracks n).register
command_holds d logs policy tracks p request t n key k holds keeps = elim (k.registers n) [
  | inl stays ↦ subst (HoldsKey key) (sym stays) holds
  | inr moves ↦ (let kept : Bool = has_call (tracks n).steps in
      holds_if (request_deed (get_deed policy kept) p.context.blocks request) key (tracks n).register (k.tracks n).register (request_unbounded policy kept p.context.blocks request (keeps moves.0 moves.1)) moves.2 holds)
]

-- ---- it prepares nothing of the key

none_on : (d : Dialect) (logs left : ServerLogs) (tracks : Tracks) (p : Progress) (n : ℕ) (key : StatementCacheKey) (deed : Option Deed) (o : Option Seat) (t : Taken) → ProgressKeeps d logs left tracks p → HoldsKey key (tracks n).register → at_number n p.context.out ≡ o
    → OwnOn p left n deed o t → PreparesNoneOn p left key deed o t
none_on d logs left tracks p n key None o t h holds there own = tt
none_on d logs left tracks p n key (Some deed) None t h holds there own = tt
none_on d logs left tracks p n key (Some deed) (Some seat) t h holds there own =
    let here : IsAtNumber tracks n seat = h.in_out n seat there in
    let at_seat : HoldsKey key (tracks seat.number).register = subst (λ (m : ℕ). HoldsKey key (tracks m).register) (sym here.0) holds in
    let register : HoldsKey key seat.cache.register = subst (HoldsKey key) here.1.register at_seat in
    λ has. deed_none p.dialect p.queries deed key seat.cache.register (deed_items left seat t) has register own.own

-- nor does the check of a connection that was kept
none_kept : (d : Dialect) (logs left : ServerLogs) (tracks : Tracks) (p : Progress) (key : StatementCacheKey) (deed : Option Deed) (seat : Seat) (t : Taken) → SeatOf tracks seat → HoldsKey key (tracks seat.number).register → OwnKept p left deed seat t
    → PreparesNoneOn p left key deed (Some seat) t
none_kept d logs left tracks p key None seat t is holds own = tt
none_kept d logs left tracks p key (Some deed) seat t is holds own =
    let register : HoldsKey key seat.cache.register = subst (HoldsKey key) is.register holds in
    λ has. deed_none p.dialect p.queries deed key seat.cache.register (deed_items left seat t) has register own.0

none_slot : (d : Dialect) (logs left : ServerLogs) (tracks : Tracks) (p : Progress) (n : ℕ) (key : StatementCacheKey) (slots : List (Option Seat)) (t : Taken) → Each (SeatOf tracks) (held slots) → HoldsKey key (tracks n).register → OwnGet p left slots t
    → PreparesNoneKept n key p left slots t
none_slot d logs left tracks p n key [] t each holds own = tt
none_slot d logs left tracks p n key (None ∷ rest) t each holds own = tt
none_slot d logs left tracks p n key (Some seat ∷ rest) t each holds own =
    λ same. none_kept d logs left tracks p key (check_deed p.policy.check) seat t each.0 (subst (λ (k : ℕ). HoldsKey key (tracks k).register) (sym same) holds) own

none_at : (d : Dialect) (logs left : ServerLogs) (tracks : Tracks) (p : Progress) (n : ℕ) (key : StatementCacheKey) (request : Request) (t : Taken) → ProgressKeeps d logs left tracks p → HoldsKey key (tracks n).register → OwnAt p left request t
    → PreparesNoneAt n key p left request t
none_at d logs left tracks p n key Get t h holds own = none_slot d logs left tracks p n key p.context.slots t h.in_slots holds own
none_at d logs left tracks p n key (Put m) t h holds own = tt
none_at d logs left tracks p n key (On m verb) t h holds own =
    λ same. none_on d logs left tracks p m key (deed_of (block_on m p.context.blocks) verb) (at_number m p.context.out) t h (subst (λ (k : ℕ). HoldsKey key (tracks k).register) (sym same) holds) refl own

-- nor do those that follow
stays : (d : Dialect) (logs left : ServerLogs) (policy : Policy) (tracks : Tracks) (p : Progress) (n : ℕ) (key : StatementCacheKey) (commands : List Command) → AllPlain commands → IsOf d policy p → ProgressKeeps d logs left tracks p → HoldsKey key (tracks n).register
    → StaysPrepared n key p left commands
stays d logs left policy tracks p n key [] plain is_of h holds = tt
stays d logs left policy tracks p n key (c ∷ cs) plain is_of h holds =
    λ t is.
    let k : CommandKeeps d logs policy tracks p (request_of c.act) t = reads_keeps d logs left policy tracks p c.line (request_of c.act) t plain.0 is_of h is in (
      none_at d logs left tracks p n key (request_of c.act) t h holds (own_at p left c.line (request_of c.act) t is),
      λ keeps. stays d logs t.left policy k.tracks t.progress n key cs plain.1 k.is_of k.progress (command_holds d logs policy tracks p (request_of c.act) t n key k holds keeps),
    )

-- ---- from the command that has it accepted

accepted_holds : (d : Dialect) (logs left : ServerLogs) (tracks : Tracks) (p : Progress) (n : ℕ) (r : Register) (key : StatementCacheKey) (o : Option Seat) → ProgressKeeps d logs left tracks p → at_number n p.context.out ≡ o → HasRegister r o → HoldsKey key r
    → HoldsKey key (tracks n).register
accepted_holds d logs left tracks p n r key None h there has holds = absurd has
accepted_holds d logs left tracks p n r key (Some seat) h there has holds =
    let here : IsAtNumber tracks n seat = h.in_out n seat there in
    let at_seat : HoldsKey key (tracks seat.number).register = subst (HoldsKey key) (sym here.1.register) (subst (HoldsKey key) (sym has) holds) in
    subst (λ (m : ℕ). HoldsKey key (tracks m).register) here.0 at_seat

module _ (d : Dialect) (logs left : ServerLogs) (policy : Policy) (p : Progress) (t : Taken) (cs : List Command) (plain : AllPlain cs) (after : Tracks) (is_of : IsOf d policy t.progress) (h : ProgressKeeps d logs t.left after t.progress) where
  once_on : (n : ℕ) (deed : Option Deed) (o : Option Seat) → OwnOn p left n deed o t → OnceOn p left n deed o t cs
  once_on n None o own = tt
  once_on n (Some deed) None own = tt
  once_on n (Some deed) (Some seat) own =
      λ given q is.
      let items : List Item = deed_items left seat t in
      let key : StatementCacheKey = key_of q (types_for p.dialect q) in
      stays d logs t.left policy after t.progress n key cs plain is_of h
      (accepted_holds d logs t.left after t.progress n (register_read p.dialect p.queries deed items seat.cache.register) key (at_number n t.progress.context.out) h refl own.register
      (deed_holds p.dialect p.queries deed q seat.cache.register items is own.own given))

  once_kept : (deed : Option Deed) (seat : Seat) → OwnKept p left deed seat t → HandsOut seat.number t → OnceOn p left seat.number deed (Some seat) t cs
  once_kept None seat own shown = tt
  once_kept (Some deed) seat own shown =
      λ given q is.
      let items : List Item = deed_items left seat t in
      let key : StatementCacheKey = key_of q (types_for p.dialect q) in
      stays d logs t.left policy after t.progress seat.number key cs plain is_of h
      (accepted_holds d logs t.left after t.progress seat.number (register_read p.dialect p.queries deed items seat.cache.register) key (at_number seat.number t.progress.context.out) h refl (own.1 shown)
      (deed_holds p.dialect p.queries deed q seat.cache.register items is own.0 given))

  once_slot : (slots : List (Option Seat)) → OwnGet p left slots t → OnceKept p left slots t cs
  once_slot [] own = tt
  once_slot (None ∷ rest) own = tt
  once_slot (Some seat ∷ rest) own = λ shown. once_kept (check_deed p.policy.check) seat own shown

  once_at : (request : Request) → OwnAt p left request t → OnceAt p left request t cs
  once_at Get own = once_slot p.context.slots own
  once_at (Put n) own = tt
  once_at (On n verb) own = once_on n (deed_of (block_on n p.context.blocks) verb) (at_number n p.context.out) own

each_once : (d : Dialect) (logs left : ServerLogs) (policy : Policy) (tracks : Tracks) (p : Progress) (commands : List Command) → AllPlain commands → IsOf d policy p → ProgressKeeps d logs left tracks p → EachOnce p left commands
each_once d logs left policy tracks p [] plain is_of h = tt
each_once d logs left policy tracks p (c ∷ cs) plain is_of h =
    λ t is.
    let k : CommandKeeps d logs policy tracks p (request_of c.act) t = reads_keeps d logs left policy tracks p c.line (request_of c.act) t plain.0 is_of h is in (
      once_at d logs left policy p t cs plain.1 k.tracks k.is_of k.progress (request_of c.act) (own_at p left c.line (request_of c.act) t is),
      each_once d logs t.left policy k.tracks t.progress cs plain.1 k.is_of k.progress,
    )

-- along a session
pub session_once : (bytes : List ℕ) (script : Script) (logs : ServerLogs) → script_of bytes ≡ Ok script → EachOnce (started script) logs script.commands
session_once bytes script logs parsed =
    let plain = script_plain bytes script parsed in
    each_once script.dialect logs logs (policy_of script) no_tracks (started script) script.commands plain.0 (started_is script plain.1) (started_keeps script logs)
