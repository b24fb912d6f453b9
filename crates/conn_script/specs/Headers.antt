-- The first line of a script.
use Rattle.std.specs.Prelude.{ℕ, Bool, true, false, List, Option, Some, None, is_none, codes, if◌then◌else◌}
use Rattle.std.specs.Str.{bytes_eq}
use Rattle.conn_model.specs.declared.item.Dialect.{Dialect}
use Rattle.conn_model.specs.declared.item.Dialect.TheVariants.{Pg, Mysql, Sqlite}
use Rattle.conn_script.specs.Fields.{number_at, word_at}
use Rattle.conn_script.specs.Options.{◌>>=◌, guard}
use Rattle.conn_script.specs.Words.{split_at}
use Rattle.conn_script.specs.declared.command.Customizer.{Customizer}
use Rattle.conn_script.specs.declared.command.Customizer.TheVariants.{Nop, Test, Begin}
use Rattle.conn_script.specs.declared.header.Header.{Header}

-- the dialect of this name
abbrev pub dialect_named : List ℕ → Option Dialect
dialect_named bs =
    if bytes_eq bs (codes "pg") then Some Pg else
    if bytes_eq bs (codes "mysql") then Some Mysql else
    if bytes_eq bs (codes "sqlite") then Some Sqlite else None

-- the next word as a dialect, and what follows it
abbrev pub dialect_at : Option (List ℕ) → Option (Dialect × Option (List ℕ))
dialect_at rest = do
  word ← word_at rest
  dialect ← dialect_named word.0
  Some (dialect, word.1)

-- what is done with a new connection, by its name
abbrev pub customizer_named : List ℕ → Option Customizer
customizer_named bs =
    if bytes_eq bs (codes "nop") then Some Nop else
    if bytes_eq bs (codes "test") then Some Test else
    if bytes_eq bs (codes "begin") then Some Begin else None

-- the next word as what is done with a new connection, and what follows it
abbrev pub customizer_at : Option (List ℕ) → Option (Customizer × Option (List ℕ))
customizer_at rest = do
  word ← word_at rest
  customizer ← customizer_named word.0
  Some (customizer, word.1)

-- whether kept connections are checked, by the word that says so
abbrev pub check_named : List ℕ → Option Bool
check_named bs =
    if bytes_eq bs (codes "check") then Some true else
    if bytes_eq bs (codes "nocheck") then Some false else None

-- the next word as whether kept connections are checked, and what follows it
abbrev pub check_at : Option (List ℕ) → Option (Bool × Option (List ℕ))
check_at rest = do
  word ← word_at rest
  check ← check_named word.0
  Some (check, word.1)

-- the header with what stands behind its dialect: a pool of 1 to 64 connections, what is done with a
-- new one, and whether kept ones are checked
abbrev pub settings_of : Dialect → Option (List ℕ) → Option Header
settings_of dialect rest = do
  size ← number_at 1 64 rest
  customizer ← customizer_at size.1
  check ← check_at customizer.1
  guard (is_none check.1) (record {
    dialect = dialect;
    max_size = size.0;
    customizer = customizer.0;
    check = check.0;
  })

-- what follows the first word of a header
abbrev pub header_from : Option (List ℕ) → Option Header
header_from rest = do
  dialect ← dialect_at rest
  settings_of dialect.0 dialect.1

-- the header that a line is
abbrev pub header_of : List ℕ → Option Header
header_of line =
    if bytes_eq (split_at 32 line).0 (codes "session") then header_from (split_at 32 line).1
    else None

-- the header of a pool of one connection, which is neither customized nor checked
abbrev pub plain_header : Dialect → Header
plain_header dialect = record {
  dialect = dialect;
  max_size = 1;
  customizer = Nop;
  check = false;
}
