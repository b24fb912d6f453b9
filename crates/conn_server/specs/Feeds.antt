-- The rows that a server in memory was armed with, and those of its last run that are left.
use Rattle.std.specs.Prelude.{ℕ, ◌+◌, Bool, List, [], take, drop, if◌then◌else◌, nat_eq, Option, Some, None}
use Rattle.conn_model.specs.Armed.{Values, Armed, rows_of}
use Rattle.conn_model.specs.declared.item.Answer.{Answer}
use Rattle.conn_server.specs.Logged.{is_accepted}
use Rattle.conn_server.specs.RowTables.{armed_by, ends_with}
use Rattle.conn_server.specs.declared.feed.Feed.{Feed}

-- the rows that it was armed with
abbrev pub armed_in : Feed → List Armed
armed_in f = armed_by f.rows

-- the rows of the text that are left
abbrev pub left_rows : Feed → Option (List ℕ) → List Values
left_rows f None = []
left_rows f (Some text) = rows_of (armed_by (take f.cursor f.rows)) text

-- the rows of the text without those that were given
abbrev pub ungiven_rows : Feed → Option (List ℕ) → List Values
ungiven_rows f None = []
ungiven_rows f (Some text) = drop f.given (rows_of (armed_by f.rows) text)

-- the next row is one of the last run, of this text; without one there is none
abbrev pub is_at_row : Feed → Option (List ℕ) → Bool
is_at_row f None = nat_eq f.cursor 0
is_at_row f (Some text) = ends_with f.rows text f.cursor

-- an accepted run of a text with this first row begins its rows, a refused one leaves those that are left
abbrev pub fed_after : ℕ → ℕ → Answer → Feed → Feed
fed_after first run answer f = record {
  rows = f.rows;
  run = if is_accepted answer then Some run else f.run;
  given = if is_accepted answer then 0 else f.given;
  cursor = if is_accepted answer then first else f.cursor;
}

-- a row was given, before this next one
abbrev pub fed_on : ℕ → Feed → Feed
fed_on next f = record { rows = f.rows; run = f.run; given = f.given + 1; cursor = next }

-- the run is over
abbrev pub fed_out : Feed → Feed
fed_out f = record { rows = f.rows; run = None; given = f.given; cursor = 0 }

-- what is kept back of the room: one item, where a row of the last run may be refused
abbrev pub kept_back : Option ℕ → ℕ
kept_back None = 0
kept_back (Some run) = 1
