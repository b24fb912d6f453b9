-- What a command's items are to its query, and what they make of its connection's cache.
use Rattle.std.specs.Prelude.{◌≡◌, ℕ, ◌+◌, ◌-◌, Bool, ⊤, List, [], ◌∷◌, ◌++◌, length, take, Option, Some, None, is_some, true}
use Rattle.conn_model.specs.declared.item.Call.{Call}
use Rattle.conn_model.specs.declared.item.Call.TheVariants as calls
use Rattle.conn_model.specs.declared.item.Dialect.{Dialect}
use Rattle.conn_model.specs.declared.item.Dialect.TheVariants.{Pg, Mysql, Sqlite}
use Rattle.conn_model.specs.declared.item.Item.{Item}
use Rattle.conn_model.specs.declared.value.BindType.{BindType}
use Rattle.conn_server.specs.Logged.{is_accepted}
use Rattle.conn_cache.specs.QueryProcesses.{ping_view, types_for}
use Rattle.conn_cache.specs.QueryViews.{QueryView}
use Rattle.conn_model.specs.Caches.{Register}
use Rattle.conn_cache.specs.Registers.{due, register_after, register_sized}
use Rattle.conn_cache.specs.declared.entry.Due.{Due}
use Rattle.conn_cache.specs.declared.entry.Due.TheVariants.{Plain, Found, Clash, Exhausted, New}
use Rattle.conn_script.specs.Requests.{request_of}
use Rattle.conn_script.specs.declared.command.Command.{Command}
use Rattle.conn_script.specs.declared.query.Declared.{Declared}
use Rattle.conn_script.specs.declared.request.Request.{Request}
use Rattle.conn_script.specs.declared.request.Request.TheVariants.{Get, Put, On}
use Rattle.conn_reading.specs.Answered.{ServerLogs, Progress, Taken, reads}
use Rattle.conn_reading.specs.Asking.{check_deed, find_query, view_of}
use Rattle.conn_reading.specs.Blocks.{block_on, deed_of}
use Rattle.conn_reading.specs.Seats.{Seat, at_number}
use Rattle.conn_reading.specs.Sessions.{Each}
use Rattle.conn_reading.specs.declared.deed.Deed.{Deed}
use Rattle.conn_reading.specs.declared.deed.Deed.TheVariants as deeds

-- ---- the items of a command are its own

-- the name of a prepare that is due: none for one run alone, which PostgreSQL doesn't prepare, and the next number for a new
-- entry
abbrev pub IsNamed : Dialect → ℕ → Due → Option ℕ → Type 0
IsNamed Pg counter Plain name = ⊥
IsNamed Mysql counter Plain name = name ≡ None
IsNamed Sqlite counter Plain name = name ≡ None
IsNamed d counter New name = name ≡ Some (counter + 1)
IsNamed d counter (Found place) name = ⊥
IsNamed d counter Clash name = ⊥
IsNamed d counter Exhausted name = ⊥

-- a call of a query, where its cache has this register: it runs the query's text with its binds, or prepares its text where
-- that is due
abbrev pub IsOwn : Dialect → QueryView → Register → Call → List ℕ → Type 0
IsOwn d q r (calls.Run binds) text = (binds ≡ q.binds) × (text ≡ q.sql)
IsOwn d q r (calls.Prepare name) text = (text ≡ q.sql) × IsNamed d r.counter (due q (types_for d q) r) name
IsOwn d q r calls.Fetch text = text ≡ []
IsOwn d q r calls.Exec text = ⊥

-- a call that neither prepares nor runs
abbrev pub IsText : Call → Type 0
IsText calls.Exec = ⊤
IsText (calls.Run binds) = ⊥
IsText (calls.Prepare name) = ⊥
IsText calls.Fetch = ⊤

-- of a query that is there
abbrev pub IsOwnOf : Dialect → Option Declared → Register → Call → List ℕ → Type 0
IsOwnOf d None r call text = ⊥
IsOwnOf d (Some q) r call text = IsOwn d (view_of q) r call text

-- a call of a deed
abbrev pub IsCallOf : Dialect → List Declared → Register → Deed → Call → List ℕ → Type 0
IsCallOf d queries r (deeds.Query call n) i text = IsOwnOf d (find_query n queries) r i text
IsCallOf d queries r deeds.Ping i text = IsOwn d ping_view r i text
IsCallOf d queries r (deeds.CacheSize size) i text = ⊥
IsCallOf d queries r deed i text = IsText i

-- ---- what they make of the cache

-- whether a call that gives a name is accepted; another leaves what was said before
abbrev pub given_by : Call → Bool → Option Bool → Option Bool
given_by calls.Exec accepted before = before
given_by (calls.Prepare None) accepted before = before
given_by (calls.Prepare (Some name)) accepted before = Some accepted
given_by (calls.Run binds) accepted before = before
given_by calls.Fetch accepted before = before

-- whether the last of some items that gives a name is accepted, where one does
abbrev pub last_given : Option Bool → List Item → Option Bool
last_given before [] = before
last_given before (i ∷ is) = last_given (given_by i.call (is_accepted i.answer) before) is

-- the register after a query, whose name was given or not
abbrev pub register_given : QueryView → List BindType → Option Bool → Register → Register
register_given q types None r = r
register_given q types (Some accepted) r = register_after q types accepted r

-- after the items of a query that is there
abbrev pub register_queried : Dialect → Option Declared → List Item → Register → Register
register_queried d None items r = r
register_queried d (Some q) items r = register_given (view_of q) (types_for d (view_of q)) (last_given None items) r

-- after the items of a deed
abbrev pub register_read : Dialect → List Declared → Deed → List Item → Register → Register
register_read d queries (deeds.Query call n) items r = register_queried d (find_query n queries) items r
register_read d queries deeds.Ping items r = register_given ping_view (types_for d ping_view) (last_given None items) r
register_read d queries (deeds.CacheSize size) items r = register_sized size r
register_read d queries deed items r = r

-- the name that a call gives, where it gives one
abbrev pub name_given : Call → List ℕ
name_given calls.Exec = []
name_given (calls.Prepare None) = []
name_given (calls.Prepare (Some name)) = name ∷ []
name_given (calls.Run binds) = []
name_given calls.Fetch = []

-- the names that items give, in their order
abbrev pub names_of : List Item → List ℕ
names_of [] = []
names_of (i ∷ is) = name_given i.call ++ names_of is

-- ---- along a session

-- the items that were read of a log
abbrev pub read_of : List Item → List Item → List Item
read_of before left = take (length before - length left) before

-- the connection's cache has this register
abbrev pub HasRegister : Register → Option Seat → Type 0
HasRegister r None = ⊥
HasRegister r (Some seat) = seat.cache.register ≡ r

-- these items are the deed's own
abbrev pub OwnItems : Dialect → List Declared → Deed → Register → List Item → Type 0
OwnItems d queries deed r items = Each (λ (i : Item). IsCallOf d queries r deed i.call i.text) items

-- so they are, and its connection's cache is as they leave it
pub record IsOwnDeed (d : Dialect) (queries : List Declared) (deed : Deed) (r : Register) (items : List Item) (after : Option Seat) : Type 0 where
  pub own : OwnItems d queries deed r items
  pub register : HasRegister (register_read d queries deed items r) after

-- so it is where a deed is done on a connection that is out
abbrev pub OwnOn : Progress → ServerLogs → ℕ → Option Deed → Option Seat → Taken → Type 0
OwnOn p logs n None place t = ⊤
OwnOn p logs n (Some deed) None t = ⊤
OwnOn p logs n (Some deed) (Some seat) t = IsOwnDeed p.dialect p.queries deed seat.cache.register (read_of (logs seat.number) (t.left seat.number)) (at_number n t.progress.context.out)

-- `get` hands connection n out
abbrev pub HandsOut : ℕ → Taken → Type 0
HandsOut n t = (is_some t.entry.status ≡ true) × (is_some (at_number n t.progress.context.out) ≡ true)

-- a connection that was kept is asked this deed: its items are the deed's own, and where it is handed out its cache is as they
-- leave it
abbrev pub OwnKept : Progress → ServerLogs → Option Deed → Seat → Taken → Type 0
OwnKept p logs None seat t = ⊤
OwnKept p logs (Some deed) seat t =
    let items : List Item = read_of (logs seat.number) (t.left seat.number) in
    let after : Option Seat = at_number seat.number t.progress.context.out in
    OwnItems p.dialect p.queries deed seat.cache.register items × (HandsOut seat.number t → HasRegister (register_read p.dialect p.queries deed items seat.cache.register) after)

-- `get` by the slots
abbrev pub OwnGet : Progress → ServerLogs → List (Option Seat) → Taken → Type 0
OwnGet p logs (Some seat ∷ rest) t = OwnKept p logs (check_deed p.policy.check) seat t
OwnGet p logs _ t = ⊤

-- of a command, whose deed the open blocks tell
abbrev pub OwnAt : Progress → ServerLogs → Request → Taken → Type 0
OwnAt p logs Get t = OwnGet p logs p.context.slots t
OwnAt p logs (Put n) t = ⊤
OwnAt p logs (On n verb) t = OwnOn p logs n (deed_of (block_on n p.context.blocks) verb) (at_number n p.context.out) t

-- Own statement: along all commands of a session
abbrev pub EachOwn : Progress → ServerLogs → List Command → Type 0
EachOwn p logs [] = ⊤
EachOwn p logs (c ∷ cs) = (t : Taken) → reads p logs c.line (request_of c.act) ≡ Some t → OwnAt p logs (request_of c.act) t × EachOwn t.progress t.left cs
