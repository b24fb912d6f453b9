-- What is read, whatever follows in the logs.
use Rattle.std.specs.Prelude.{ℕ, ◌≡◌, List, ◌++◌, Option, Some}
use Rattle.conn_report.specs.declared.entry.Entry.{Entry}
use Rattle.conn_script.specs.declared.command.Command.{Command}
use Rattle.conn_reading.specs.Answered.{ServerLogs, Progress, Taken, taken, reads_all}
use Rattle.conn_reading.specs.Reading.{BeginsAnew}

-- these items and no others are read for the entry, whatever follows them but refused rows; they begin with none
pub record ReadsEntry (reading : Progress → ServerLogs → Option Taken) (before : Progress) (items : ServerLogs) (entry : Entry) (after : Progress) : Type 0 where
  pub anew : (n : ℕ) → BeginsAnew (items n)
  pub whatever_follows : (logs more : ServerLogs) → ((n : ℕ) → logs n ≡ items n ++ more n) → ((n : ℕ) → BeginsAnew (more n))
      → (left : ServerLogs) × (reading before logs ≡ Some (taken entry after left)) × ((n : ℕ) → left n ≡ more n)

-- these items and no others are read for the entries of some commands
pub record ReadsAll (before : Progress) (items : ServerLogs) (commands : List Command) (entries : List Entry) (after : Progress) : Type 0 where
  pub whatever_follows : (logs more : ServerLogs) → ((n : ℕ) → logs n ≡ items n ++ more n) → ((n : ℕ) → BeginsAnew (more n))
      → (left : ServerLogs) × (reads_all before logs commands ≡ Some (record { entries = entries; progress = after; left = left })) × ((n : ℕ) → left n ≡ more n)
