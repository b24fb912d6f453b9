-- The connections of a session, as its report shows them.
use Rattle.std.specs.Prelude.{ℕ, zero, suc, Bool, not, List, [], ◌∷◌, replicate, Option, Some, None, if◌then◌else◌}
use Rattle.conn_model.specs.States.{State}
use Rattle.conn_model.specs.Caches.{Known}
use Rattle.conn_manager.specs.Statuses.{Status, is_broken}
use Rattle.conn_report.specs.declared.entry.Entry.{Entry}
use Rattle.conn_report.specs.declared.entry.Reply.{Reply}
use Rattle.conn_report.specs.declared.entry.Reply.TheVariants as replies
use Rattle.conn_script.specs.declared.command.Word.{Word}
use Rattle.conn_reading.specs.declared.blocks.Block.{Block}

-- a connection: its number, its tracked status, how many items its server got, the state that these items give, and its cache
pub record Seat : Type 0 where
  pub number : ℕ
  pub status : Status
  pub mark : ℕ
  pub state : State
  pub cache : Known

-- the slots of the pool, front first, each empty or with a kept connection; the connections that are handed out, each at the
-- place of its number; how many servers were opened; and the open blocks, innermost first
pub record Context : Type 0 where
  pub slots : List (Option Seat)
  pub out : List (Option Seat)
  pub opened : ℕ
  pub blocks : List Block

-- so many empty slots
abbrev pub at_first : ℕ → Context
at_first size = record { slots = replicate size None; out = []; opened = 0; blocks = [] }

-- an entry of these
abbrev pub make_entry : ℕ → Word → Option ℕ → Reply → Option Status → Option ℕ → Entry
make_entry line word connection reply status mark = record { line = line; word = word; connection = connection; reply = reply; status = status; mark = mark }

-- the entry of a command on a connection that is there
abbrev pub entry_on : ℕ → Word → Reply → Seat → Entry
entry_on line word reply seat = make_entry line word (Some seat.number) reply (Some seat.status) (Some seat.mark)

-- the entry of a command where no connection is there
abbrev pub entry_without : ℕ → Word → Option ℕ → Reply → Entry
entry_without line word connection reply = make_entry line word connection reply None None

-- the connection of a number, where it is out
abbrev pub at_number : {A : Type 0} → ℕ → List (Option A) → Option A
at_number n [] = None
at_number zero (seat ∷ seats) = seat
at_number (suc n) (seat ∷ seats) = at_number n seats

-- the pool keeps a connection whose status is valid, and without a depth or in a test's transaction
abbrev pub is_kept : Status → Bool
is_kept status = not (is_broken status)

-- the reply to a connection that is given back
abbrev pub put_reply : Status → Reply
put_reply status = if is_kept status then replies.Kept else replies.Closed

-- what a connection that is given back leaves in its slot
abbrev pub put_slot : Seat → Option Seat
put_slot seat = if is_kept seat.status then Some seat else None
