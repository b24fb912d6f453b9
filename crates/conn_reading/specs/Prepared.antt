-- Once the statement of a query was accepted to be kept, its connection doesn't prepare the query's key again until its cache gets
-- another size.
use Rattle.std.specs.Prelude.{◌≡◌, ℕ, true, ⊤, List, [], ◌∷◌, Option, Some, None, is_some}
use Rattle.std.specs.Option.{option_map}
use Rattle.conn_model.specs.declared.item.Call.{Call}
use Rattle.conn_model.specs.declared.item.Call.TheVariants as calls
use Rattle.conn_model.specs.declared.item.Dialect.{Dialect}
use Rattle.conn_model.specs.declared.item.Item.{Item}
use Rattle.conn_model.specs.declared.cache.CacheSize.TheVariants.{Unbounded}
use Rattle.conn_cache.specs.Keys.{key_of}
use Rattle.conn_cache.specs.QueryProcesses.{ping_view, types_for}
use Rattle.conn_cache.specs.QueryViews.{QueryView}
use Rattle.conn_cache.specs.declared.key.StatementCacheKey.{StatementCacheKey}
use Rattle.conn_script.specs.Requests.{request_of}
use Rattle.conn_script.specs.declared.command.Command.{Command}
use Rattle.conn_script.specs.declared.query.Declared.{Declared}
use Rattle.conn_script.specs.declared.request.Request.{Request}
use Rattle.conn_script.specs.declared.request.Request.TheVariants.{Get, Put, On}
use Rattle.conn_reading.specs.Answered.{ServerLogs, Progress, Taken, reads}
use Rattle.conn_reading.specs.Asking.{check_deed, find_query, view_of}
use Rattle.conn_reading.specs.Blocks.{block_on, deed_of, request_deed}
use Rattle.conn_reading.specs.Owning.{HandsOut, last_given, read_of}
use Rattle.conn_reading.specs.Seats.{Seat, at_number}
use Rattle.conn_reading.specs.Sessions.{Each}
use Rattle.conn_reading.specs.declared.deed.Deed.{Deed}
use Rattle.conn_reading.specs.declared.deed.Deed.TheVariants as deeds

-- ---- a deed

-- the query that it is about, where there is one
abbrev pub deed_query : List Declared → Deed → Option QueryView
deed_query queries (deeds.Query call n) = option_map view_of (find_query n queries)
deed_query queries deeds.Ping = Some ping_view
deed_query queries deed = None

-- the query's statement may be kept, under this key
abbrev pub HasKey : Dialect → StatementCacheKey → Option QueryView → Type 0
HasKey d key None = ⊥
HasKey d key (Some q) = (q.is_safe ≡ true) × (key_of q (types_for d q) ≡ key)

-- it gives the cache no size but the one that keeps all
abbrev pub LeavesUnbounded : Deed → Type 0
LeavesUnbounded (deeds.CacheSize size) = size ≡ Unbounded
LeavesUnbounded deed = ⊤

-- where there is one
abbrev pub LeavesUnboundedIf : Option Deed → Type 0
LeavesUnboundedIf None = ⊤
LeavesUnboundedIf (Some deed) = LeavesUnbounded deed

-- the call prepares nothing
abbrev pub PreparesNone : Call → Type 0
PreparesNone calls.Exec = ⊤
PreparesNone (calls.Prepare name) = ⊥
PreparesNone (calls.Run binds) = ⊤
PreparesNone calls.Fetch = ⊤

-- ---- a command, by its deed and by the connection of its number

-- the items that are read for a deed
abbrev pub deed_items : ServerLogs → Seat → Taken → List Item
deed_items logs seat t = read_of (logs seat.number) (t.left seat.number)

-- a query of the key is not prepared
abbrev pub PreparesNoneOn : Progress → ServerLogs → StatementCacheKey → Option Deed → Option Seat → Taken → Type 0
PreparesNoneOn p logs key None place t = ⊤
PreparesNoneOn p logs key (Some deed) None t = ⊤
PreparesNoneOn p logs key (Some deed) (Some seat) t = HasKey p.dialect key (deed_query p.queries deed) → Each (λ (i : Item). PreparesNone i.call) (deed_items logs seat t)

-- nor by the check of a connection that was kept, where it is connection n
abbrev pub PreparesNoneKept : ℕ → StatementCacheKey → Progress → ServerLogs → List (Option Seat) → Taken → Type 0
PreparesNoneKept n key p logs (Some seat ∷ rest) t = seat.number ≡ n → PreparesNoneOn p logs key (check_deed p.policy.check) (Some seat) t
PreparesNoneKept n key p logs _ t = ⊤

-- one of connection n prepares no query of the key
abbrev pub PreparesNoneAt : ℕ → StatementCacheKey → Progress → ServerLogs → Request → Taken → Type 0
PreparesNoneAt n key p logs Get t = PreparesNoneKept n key p logs p.context.slots t
PreparesNoneAt n key p logs (Put m) t = ⊤
PreparesNoneAt n key p logs (On m verb) t = m ≡ n → PreparesNoneOn p logs key (deed_of (block_on m p.context.blocks) verb) (at_number m p.context.out) t

-- where it is done on connection n, it gives that no other size
abbrev pub LeavesUnboundedAt : ℕ → Progress → Request → Taken → Type 0
LeavesUnboundedAt n p request t = t.entry.connection ≡ Some n → is_some t.entry.mark ≡ true → LeavesUnboundedIf (request_deed None p.context.blocks request)

-- ---- along a session

-- until connection n gets another size, no command of it prepares a query of the key
abbrev pub StaysPrepared : ℕ → StatementCacheKey → Progress → ServerLogs → List Command → Type 0
StaysPrepared n key p logs [] = ⊤
StaysPrepared n key p logs (c ∷ cs) = (t : Taken) → reads p logs c.line (request_of c.act) ≡ Some t → PreparesNoneAt n key p logs (request_of c.act) t × (LeavesUnboundedAt n p (request_of c.act) t → StaysPrepared n key t.progress t.left cs)

-- where a statement to be kept was accepted, that is so of its query's key from then on
abbrev pub OnceOn : Progress → ServerLogs → ℕ → Option Deed → Option Seat → Taken → List Command → Type 0
OnceOn p logs n None place t cs = ⊤
OnceOn p logs n (Some deed) None t cs = ⊤
OnceOn p logs n (Some deed) (Some seat) t cs = last_given None (deed_items logs seat t) ≡ Some true → (q : QueryView) → deed_query p.queries deed ≡ Some q → StaysPrepared n (key_of q (types_for p.dialect q)) t.progress t.left cs

-- where the check of a connection had it accepted, and the connection was handed out
abbrev pub OnceKept : Progress → ServerLogs → List (Option Seat) → Taken → List Command → Type 0
OnceKept p logs (Some seat ∷ rest) t cs = HandsOut seat.number t → OnceOn p logs seat.number (check_deed p.policy.check) (Some seat) t cs
OnceKept p logs _ t cs = ⊤

-- of a command
abbrev pub OnceAt : Progress → ServerLogs → Request → Taken → List Command → Type 0
OnceAt p logs Get t cs = OnceKept p logs p.context.slots t cs
OnceAt p logs (Put n) t cs = ⊤
OnceAt p logs (On n verb) t cs = OnceOn p logs n (deed_of (block_on n p.context.blocks) verb) (at_number n p.context.out) t cs

-- Prepared once: along all commands of a session
abbrev pub EachOnce : Progress → ServerLogs → List Command → Type 0
EachOnce p logs [] = ⊤
EachOnce p logs (c ∷ cs) = (t : Taken) → reads p logs c.line (request_of c.act) ≡ Some t → OnceAt p logs (request_of c.act) t cs × EachOnce t.progress t.left cs
