-- Sources and sinks in memory: what is left, held and free, and which calls fail.
use Rattle.std.specs.Prelude.{ℕ, ◌+◌, ◌-◌, ◌^◌, ◌==◌, ◌||◌, ◌&&◌, Bool, min, List, nat_lt}
use Rattle.std.specs.List.{list_any}

-- how many calls were made, the numbers of those that fail, from 1, and how many failed
pub record Schedule : Type 0 where
  pub made : ℕ
  pub failing : List ℕ
  pub faults : ℕ

-- before the first call
abbrev pub uncalled : List ℕ → Schedule
uncalled failing = record { made = 0; failing = failing; faults = 0 }

-- one more, up to the greatest u64
abbrev pub next_count : ℕ → ℕ
next_count n = min (n + 1) (2 ^ 64 - 1)

-- after a call
abbrev pub called : Schedule → Schedule
called s = record s { made = next_count s.made }

-- after a call that failed
abbrev pub faulted : Schedule → Schedule
faulted s = record s { made = next_count s.made; faults = next_count s.faults }

-- the next call is one of those that fail
abbrev pub is_failing : Schedule → Bool
is_failing s = list_any (λ n. n == next_count s.made) s.failing

-- a source: the bytes that are left, the most that a call moves, and the calls
pub record Feed : Type 0 where
  pub left : List ℕ
  pub most : ℕ
  pub calls : Schedule

-- a sink: the bytes that it holds, how many more it takes, the most that a call moves, and the calls
pub record Store : Type 0 where
  pub held : List ℕ
  pub room : ℕ
  pub most : ℕ
  pub calls : Schedule

-- a write of a piece of this length fails: its call does, or there is no room for the first byte
abbrev pub is_refused : Store → ℕ → Bool
is_refused s n = is_failing s.calls || (nat_lt 0 n && s.room == 0)
