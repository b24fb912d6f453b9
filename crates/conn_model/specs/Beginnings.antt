-- The texts that begin a transaction in another way than by `BEGIN`.
use Rattle.std.specs.Prelude.{ℕ, List, [], ◌++◌, codes, Option, Some, None}
use Rattle.conn_model.specs.Classes.{begin_words}
use Rattle.conn_model.specs.declared.item.Dialect.{Dialect}
use Rattle.conn_model.specs.declared.item.Dialect.TheVariants.{Pg, Sqlite}
use Rattle.conn_model.specs.declared.transaction.BlockForm.{BlockForm}
use Rattle.conn_model.specs.declared.transaction.BlockForm.TheVariants.{Immediate, Exclusive, Build}
use Rattle.conn_model.specs.declared.transaction.Characteristics.{Characteristics}
use Rattle.conn_model.specs.declared.transaction.Deferrable.{Deferrable}
use Rattle.conn_model.specs.declared.transaction.Deferrable.TheVariants as deferrables
use Rattle.conn_model.specs.declared.transaction.IsolationLevel.{IsolationLevel}
use Rattle.conn_model.specs.declared.transaction.IsolationLevel.TheVariants.{ReadCommitted, RepeatableRead, Serializable}
use Rattle.conn_model.specs.declared.transaction.ReadMode.{ReadMode}
use Rattle.conn_model.specs.declared.transaction.ReadMode.TheVariants.{ReadOnly, ReadWrite}

-- an isolation level, where one is given
abbrev pub isolation_text : Option IsolationLevel → List ℕ
isolation_text None = []
isolation_text (Some ReadCommitted) = codes " ISOLATION LEVEL READ COMMITTED"
isolation_text (Some RepeatableRead) = codes " ISOLATION LEVEL REPEATABLE READ"
isolation_text (Some Serializable) = codes " ISOLATION LEVEL SERIALIZABLE"

-- whether the transaction may write, where that is given
abbrev pub mode_text : Option ReadMode → List ℕ
mode_text None = []
mode_text (Some ReadOnly) = codes " READ ONLY"
mode_text (Some ReadWrite) = codes " READ WRITE"

-- whether it may wait for a snapshot, where that is given
abbrev pub deferrable_text : Option Deferrable → List ℕ
deferrable_text None = []
deferrable_text (Some deferrables.Deferrable) = codes " DEFERRABLE"
deferrable_text (Some deferrables.NotDeferrable) = codes " NOT DEFERRABLE"

-- the text that begins a PostgreSQL transaction with these characteristics
abbrev pub built_text : Characteristics → List ℕ
built_text c =
    begin_words ++ isolation_text c.isolation_level ++ mode_text c.read_mode
    ++ deferrable_text c.deferrable

-- the text that begins a transaction of this form
abbrev pub form_text : BlockForm → List ℕ
form_text Immediate = codes "BEGIN IMMEDIATE"
form_text Exclusive = codes "BEGIN EXCLUSIVE"
form_text (Build c) = built_text c

-- the dialect whose servers take such a text
abbrev pub form_dialect : BlockForm → Dialect
form_dialect Immediate = Sqlite
form_dialect Exclusive = Sqlite
form_dialect (Build c) = Pg
