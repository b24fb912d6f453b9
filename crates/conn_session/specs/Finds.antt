-- How queries are found by their numbers.
use Rattle.std.specs.Prelude.{ℕ, ◌≡◌, ◌==◌, List, Option, Some, None, if◌then◌else◌}
use Rattle.conn_reading.specs.Asking.{find_query}
use Rattle.conn_reading.specs.Seats.{at_number}
use Rattle.conn_script.specs.declared.query.Declared.{Declared}

-- each query of a number is at the place of that number
abbrev pub FindsEach : List (Option Declared) → List Declared → Type 0
FindsEach places queries = (n : ℕ) → at_number n places ≡ find_query n queries

-- what is at the place of a number after this query came, by what was there
abbrev pub with_placed : ℕ → Declared → Option Declared → Option Declared
with_placed n q None = if q.number == n then Some q else None
with_placed n q (Some other) = Some other
