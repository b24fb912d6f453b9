-- What the finished logs of a session's servers answer to its commands.
use Rattle.std.specs.Prelude.{ℕ, ◌+◌, ◌-◌, ◌^◌, ◌==◌, ◌&&◌, min, nat_eq, zero, suc, ℤ, negsuc, Bool, true, false, List, [], ◌∷◌, ◌++◌, length, slice_set, Option, Some, None, Ok, Err, if◌then◌else◌}
use Rattle.std.specs.Option.{option_map, option_and_then}
use Rattle.conn_result.specs.declared.error.ConnectionError.{ConnectionError}
use Rattle.conn_result.specs.declared.error.ConnectionError.TheVariants.{BadConnection, CouldntSetupConfiguration}
use Rattle.conn_result.specs.declared.pool.Error.{Error as PoolError}
use Rattle.conn_result.specs.declared.pool.Error.TheVariants as pooling
use Rattle.conn_model.specs.Armed.{Armed, armed_of}
use Rattle.conn_model.specs.States.{Idle}
use Rattle.conn_model.specs.declared.item.Dialect.{Dialect}
use Rattle.conn_model.specs.declared.item.Item.{Item}
use Rattle.conn_model.specs.declared.plan.PlanLine.{PlanLine}
use Rattle.conn_server.specs.Connected.{planned_at}
use Rattle.conn_model.specs.Caches.{nothing_known}
use Rattle.conn_drivers.specs.Establishing.{url_fault}
use Rattle.conn_manager.specs.Manages.{Done, Reply as Answer}
use Rattle.conn_manager.specs.Setups.{setup_process}
use Rattle.conn_manager.specs.Statuses.{is_broken, no_depth}
use Rattle.conn_report.specs.declared.entry.Entry.{Entry}
use Rattle.conn_report.specs.declared.entry.Reply.{Reply}
use Rattle.conn_report.specs.declared.entry.Reply.TheVariants as replies
use Rattle.conn_script.specs.Requests.{request_of, verb_word}
use Rattle.conn_script.specs.declared.command.Command.{Command}
use Rattle.conn_script.specs.declared.command.Script.{Script}
use Rattle.conn_script.specs.declared.command.Word.{Word}
use Rattle.conn_script.specs.declared.command.Word.TheVariants as words
use Rattle.conn_script.specs.declared.query.Declared.{Declared}
use Rattle.conn_script.specs.declared.request.Request.{Request}
use Rattle.conn_script.specs.declared.request.Request.TheVariants.{Get, Put, On}
use Rattle.conn_script.specs.declared.request.Verb.{Verb}
use Rattle.conn_reading.specs.Asking.{Outcome, Policy, check_deed, customizer_deed, policy_of, process_of}
use Rattle.conn_reading.specs.Blocks.{block_on, blocks_after, deed_of}
use Rattle.conn_reading.specs.Reading.{Read, read}
use Rattle.conn_reading.specs.Seats.{Seat, Context, at_first, make_entry, entry_on, entry_without, at_number, put_reply, put_slot}
use Rattle.conn_reading.specs.declared.deed.Deed.{Deed}

-- for each server, by its number, the items that aren't read yet
abbrev pub ServerLogs : Type 0
ServerLogs = ℕ → List Item

-- where the reading stands: the connections, the attempts to open one so far, the plan, the rows that servers are armed
-- with, the queries that commands name, what the servers are, the URL at which they are opened, and what `get` asks
pub record Progress : Type 0 where
  pub context : Context
  pub attempts : ℕ
  pub plan : List PlanLine
  pub armed : List Armed
  pub queries : List Declared
  pub dialect : Dialect
  pub url : List ℕ
  pub policy : Policy

-- an entry, where the reading stands after it, and the items that are left
pub record Taken : Type 0 where
  pub entry : Entry
  pub progress : Progress
  pub left : ServerLogs

-- what one command took
abbrev pub taken : Entry → Progress → ServerLogs → Taken
taken entry progress left = record { entry = entry; progress = progress; left = left }

-- the items of one server that are left
abbrev pub with_left : ServerLogs → ℕ → List Item → ServerLogs
with_left logs n rest k = if k == n then rest else logs k

-- ---- a command on a connection

-- the connection after its items were read, of which there were so many before
abbrev pub seat_after : Seat → ℕ → Read Outcome → Seat
seat_after seat count r = record seat { status = r.value.status; mark = seat.mark + (count - length r.left); state = r.state; cache = r.value.cache }

-- the connection stays out, as its items leave it
abbrev pub taken_on : Progress → ServerLogs → ℕ → Word → ℕ → Seat → Read Outcome → Taken
taken_on p logs line word n seat r =
    let after = seat_after seat (length (logs seat.number)) r in
    taken (entry_on line word r.value.reply after) (record p { context = record p.context { out = slice_set p.context.out n (Some after) } }) (with_left logs seat.number r.left)

-- a connection that isn't handed out
abbrev pub not_out : Progress → ServerLogs → ℕ → Word → ℕ → Taken
not_out p logs line word n = taken (entry_without line word (Some n) replies.NotOut) p logs

-- the next items of the connection's log are those that the deed asks
abbrev pub reads_on : Progress → ServerLogs → ℕ → Word → Deed → ℕ → Option Seat → Option Taken
reads_on p logs line word deed n None = Some (not_out p logs line word n)
reads_on p logs line word deed n (Some seat) = option_map (taken_on p logs line word n seat) (read p.dialect p.armed seat.state (process_of p.dialect p.queries seat.status seat.cache deed) (logs seat.number))

-- a command that is skipped shows its connection, where it is out
abbrev pub skip_entry : ℕ → Word → ℕ → Option Seat → Entry
skip_entry line word n None = entry_without line word (Some n) replies.Skipped
skip_entry line word n (Some seat) = entry_on line word replies.Skipped seat

-- a command by its deed; without one it is skipped, whether its connection is out or not
abbrev pub reads_deed : Progress → ServerLogs → ℕ → Word → Option Deed → ℕ → Option Seat → Option Taken
reads_deed p logs line word None n place = Some (taken (skip_entry line word n place) p logs)
reads_deed p logs line word (Some deed) n place = reads_on p logs line word deed n place

-- by the open blocks
abbrev pub reads_by_deed : ℕ → ℕ → Verb → Progress → ServerLogs → Option Taken
reads_by_deed line n verb p logs = reads_deed p logs line (verb_word verb) (deed_of (block_on n p.context.blocks) verb) n (at_number n p.context.out)

-- and then its reply tells the blocks
abbrev pub with_blocks : ℕ → Verb → Taken → Taken
with_blocks n verb t = record t { progress = record t.progress { context = record t.progress.context { blocks = blocks_after n verb t.entry.reply t.progress.context.blocks } } }

-- ---- get and put

-- these slots are left
abbrev pub with_slots : Progress → List (Option Seat) → Progress
with_slots p slots = record p { context = record p.context { slots = slots } }

-- the slot that was in front goes to the back, empty
abbrev pub empties : Progress → Progress
empties p = with_slots p (p.context.slots ++ None ∷ [])

-- the connection is handed out
abbrev pub hands_out : Progress → ServerLogs → ℕ → Seat → Taken
hands_out p logs line seat = taken (entry_on line words.Get replies.Ok seat) (record p { context = record p.context { out = slice_set p.context.out seat.number (Some seat) } }) logs

-- why a connection isn't handed out: what it was asked was refused, or it is a new one with a transaction left open
abbrev pub get_refusal : Bool → Seat → Reply → Option PoolError
get_refusal fresh seat (replies.Error e) = Some (pooling.QueryError e seat.number)
get_refusal fresh seat _ = if fresh && is_broken seat.status then Some (pooling.LeftOpen seat.number) else None

-- the entry of a connection that is closed in place of being handed out
abbrev pub closed_entry : ℕ → Seat → PoolError → Entry
closed_entry line seat e = make_entry line words.Get (Some seat.number) (replies.Pool e) None (Some seat.mark)

-- it is handed out, or closed
abbrev pub readied : Progress → ServerLogs → ℕ → Seat → Option PoolError → Taken
readied p logs line seat None = hands_out p logs line seat
readied p logs line seat (Some e) = taken (closed_entry line seat e) (empties p) logs

-- by what it answered to the items that were read
abbrev pub taken_ready : Progress → ServerLogs → ℕ → Bool → Seat → Read Outcome → Taken
taken_ready p logs line fresh seat r =
    let after = seat_after seat (length (logs seat.number)) r in
    readied p (with_left logs seat.number r.left) line after (get_refusal fresh after r.value.reply)

-- a connection, new or kept, is asked this deed, or nothing
abbrev pub reads_ready : Progress → ServerLogs → ℕ → Bool → Option Deed → Seat → Option Taken
reads_ready p logs line fresh None seat = Some (readied p logs line seat (get_refusal fresh seat replies.Ok))
reads_ready p logs line fresh (Some deed) seat = option_map (taken_ready p logs line fresh seat) (read p.dialect p.armed seat.state (process_of p.dialect p.queries seat.status seat.cache deed) (logs seat.number))

-- the code with which the next attempt is refused, where it is: no number is left, or the plan says so
abbrev pub refusal_at : Progress → Option ℤ
refusal_at p = if nat_eq p.context.opened 4294967295 then Some (negsuc 9) else planned_at (p.attempts + 1) p.plan

-- attempts are counted up to the end of their type
abbrev pub attempted : Progress → Progress
attempted p = record p { attempts = min (p.attempts + 1) (2 ^ 64 - 1) }

-- an attempt opened a server, whose place is there, without a connection
abbrev pub with_opened : Progress → Progress
with_opened p = record (attempted p) { context = record p.context { out = p.context.out ++ None ∷ []; opened = p.context.opened + 1 } }

-- a connection that was just opened, after the items by which it set itself up, of which there were so many
abbrev pub new_seat : ℕ → ℕ → Read Done → Seat
new_seat n count r = record { number = n; status = r.value.status; mark = count; state = r.state; cache = nothing_known }

-- where its setup was accepted it is asked what is asked of new ones
abbrev pub reads_opened : Progress → ServerLogs → ℕ → Seat → Answer → Option Taken
reads_opened p logs line seat (Ok u) = reads_ready p logs line true (customizer_deed p.policy.customizer) seat
reads_opened p logs line seat (Err e) = Some (readied p logs line seat (Some (pooling.ConnectionError (CouldntSetupConfiguration e seat.number))))

-- behind the setup of server n, which was read from its log
abbrev pub reads_set_up : Progress → ServerLogs → ℕ → ℕ → Read Done → Option Taken
reads_set_up p logs line n r = reads_opened (with_opened p) (with_left logs n r.left) line (new_seat n (length (logs n) - length r.left) r) r.value.reply

-- no server was opened
abbrev pub unopened : Progress → ServerLogs → ℕ → ConnectionError → Taken
unopened p logs line e = taken (entry_without line words.Get None (replies.Pool (pooling.ConnectionError e))) (empties p) logs

-- an attempt is refused, or opens the server of the least number not used yet, whose next items are those by which its
-- connection sets itself up
abbrev pub reads_attempt : Progress → ServerLogs → ℕ → Option ℤ → Option Taken
reads_attempt p logs line (Some code) = Some (unopened (attempted p) logs line (BadConnection code))
reads_attempt p logs line None = option_and_then (reads_set_up p logs line p.context.opened) (read p.dialect p.armed (Idle []) (setup_process p.dialect no_depth) (logs p.context.opened))

-- a URL that is at fault is no attempt
abbrev pub reads_opening : Progress → ServerLogs → ℕ → Option ConnectionError → Option Taken
reads_opening p logs line (Some fault) = Some (unopened p logs line fault)
reads_opening p logs line None = reads_attempt p logs line (refusal_at p)

-- the slot that was in front: an empty one is filled, and a connection in it is checked where connections are
abbrev pub reads_slot : Progress → ServerLogs → ℕ → Option Seat → Option Taken
reads_slot p logs line None = reads_opening p logs line (url_fault p.dialect p.url)
reads_slot p logs line (Some seat) = reads_ready p logs line false (check_deed p.policy.check) seat

-- `get` by the slots
abbrev pub reads_get : Progress → ServerLogs → ℕ → List (Option Seat) → Option Taken
reads_get p logs line [] = Some (taken (entry_without line words.Get None replies.NoneFree) p logs)
reads_get p logs line (slot ∷ rest) = reads_slot (with_slots p rest) logs line slot

-- `put`: the slot goes to the back, with the connection where it is kept
abbrev pub taken_put : Progress → ServerLogs → ℕ → ℕ → Option Seat → Taken
taken_put p logs line n None = not_out p logs line words.Put n
taken_put p logs line n (Some seat) = taken (entry_on line words.Put (put_reply seat.status) seat) (record p { context = record p.context { slots = p.context.slots ++ put_slot seat ∷ []; out = slice_set p.context.out n None } }) logs

-- ---- all commands

-- one command, where the items that it asks come next and are allowed
abbrev pub reads : Progress → ServerLogs → ℕ → Request → Option Taken
reads p logs line Get = reads_get p logs line p.context.slots
reads p logs line (Put n) = Some (taken_put p logs line n (at_number n p.context.out))
reads p logs line (On n verb) = option_map (with_blocks n verb) (reads_by_deed line n verb p logs)

-- the entries of some commands, where the reading stands after them, and the items that are left
pub record Run : Type 0 where
  pub entries : List Entry
  pub progress : Progress
  pub left : ServerLogs

-- one entry in front
abbrev pub with_entry : Entry → Run → Run
with_entry entry run = record run { entries = entry ∷ run.entries }

-- the commands in order, as far as each can be read
abbrev pub reads_all : Progress → ServerLogs → List Command → Option Run
reads_all p logs [] = Some (record { entries = []; progress = p; left = logs })
reads_all p logs (command ∷ commands) = option_and_then (λ (t : Taken). option_map (with_entry t.entry) (reads_all t.progress t.left commands)) (reads p logs command.line (request_of command.act))

-- each of the first n logs is read to its end
abbrev pub all_read : ℕ → ServerLogs → Bool
all_read zero logs = true
all_read (suc n) logs = nat_eq (length (logs n)) 0 && all_read n logs

-- the entries, where nothing of the logs of opened servers is left
abbrev pub whole : Run → Option (List Entry)
whole run = if all_read run.progress.context.opened run.left then Some run.entries else None

-- nothing is open yet
abbrev pub started : Script → Progress
started script = record { context = at_first script.max_size; attempts = 0; plan = script.plan; armed = armed_of script.plan; queries = script.queries; dialect = script.dialect; url = script.url; policy = policy_of script }

-- a script's commands over the logs of its servers, by their numbers
abbrev pub run_of : Script → ServerLogs → Option Run
run_of script logs = reads_all (started script) logs script.commands

-- Answered: the entries that the logs answer to a script's commands, where they do and all items are read
abbrev pub answered : Script → ServerLogs → Option (List Entry)
answered script logs = option_and_then whole (run_of script logs)

-- how many servers the logs say were opened
abbrev pub servers_opened : Script → ServerLogs → Option ℕ
servers_opened script logs = option_map (λ (run : Run). run.progress.context.opened) (run_of script logs)
