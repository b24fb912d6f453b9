-- The kinds of blocks, as the lines that open them name them.
use Rattle.std.specs.Prelude.{ℕ, List, Option, Some, None, is_none, codes, if◌then◌else◌}
use Rattle.std.specs.Str.{bytes_eq}
use Rattle.conn_model.specs.declared.transaction.BlockForm.TheVariants.{Immediate, Exclusive, Build}
use Rattle.conn_model.specs.declared.transaction.Characteristics.{Characteristics}
use Rattle.conn_model.specs.declared.transaction.Deferrable.{Deferrable}
use Rattle.conn_model.specs.declared.transaction.Deferrable.TheVariants as deferrables
use Rattle.conn_model.specs.declared.transaction.IsolationLevel.{IsolationLevel}
use Rattle.conn_model.specs.declared.transaction.IsolationLevel.TheVariants.{ReadCommitted, RepeatableRead, Serializable}
use Rattle.conn_model.specs.declared.transaction.ReadMode.{ReadMode}
use Rattle.conn_model.specs.declared.transaction.ReadMode.TheVariants.{ReadOnly, ReadWrite}
use Rattle.conn_script.specs.Fields.{word_at}
use Rattle.conn_script.specs.Options.{◌>>=◌, guard}
use Rattle.conn_script.specs.Words.{split_at}
use Rattle.conn_script.specs.declared.command.BlockKind.{BlockKind}
use Rattle.conn_script.specs.declared.command.BlockKind.TheVariants.{Plain, Test, Form}

-- the isolation level of this name, where a dash stands for none
abbrev pub level_named : List ℕ → Option (Option IsolationLevel)
level_named bs =
    if bytes_eq bs (codes "-") then Some None else
    if bytes_eq bs (codes "rc") then Some (Some ReadCommitted) else
    if bytes_eq bs (codes "rr") then Some (Some RepeatableRead) else
    if bytes_eq bs (codes "s") then Some (Some Serializable) else None

-- the next word as an isolation level, and what follows it
abbrev pub level_at : Option (List ℕ) → Option (Option IsolationLevel × Option (List ℕ))
level_at rest = do
  word ← word_at rest
  level ← level_named word.0
  Some (level, word.1)

-- the read mode of this name, where a dash stands for none
abbrev pub mode_named : List ℕ → Option (Option ReadMode)
mode_named bs =
    if bytes_eq bs (codes "-") then Some None else
    if bytes_eq bs (codes "ro") then Some (Some ReadOnly) else
    if bytes_eq bs (codes "rw") then Some (Some ReadWrite) else None

-- the next word as a read mode, and what follows it
abbrev pub mode_at : Option (List ℕ) → Option (Option ReadMode × Option (List ℕ))
mode_at rest = do
  word ← word_at rest
  mode ← mode_named word.0
  Some (mode, word.1)

-- whether a transaction is deferrable, by the word that says so, where a dash says nothing
abbrev pub deferrable_named : List ℕ → Option (Option Deferrable)
deferrable_named bs =
    if bytes_eq bs (codes "-") then Some None else
    if bytes_eq bs (codes "d") then Some (Some deferrables.Deferrable) else
    if bytes_eq bs (codes "nd") then Some (Some deferrables.NotDeferrable) else None

-- the next word as whether a transaction is deferrable, and what follows it
abbrev pub deferrable_at : Option (List ℕ) → Option (Option Deferrable × Option (List ℕ))
deferrable_at rest = do
  word ← word_at rest
  deferrable ← deferrable_named word.0
  Some (deferrable, word.1)

-- the last three words as characteristics of a transaction
abbrev pub characteristics_of : Option (List ℕ) → Option Characteristics
characteristics_of rest = do
  level ← level_at rest
  mode ← mode_at level.1
  deferrable ← deferrable_at mode.1
  guard (is_none deferrable.1) (record {
    isolation_level = level.0;
    read_mode = mode.0;
    deferrable = deferrable.0;
  })

-- the kind of block that one word names
abbrev pub block_alone : List ℕ → Option BlockKind
block_alone bs =
    if bytes_eq bs (codes "plain") then Some Plain else
    if bytes_eq bs (codes "test") then Some Test else
    if bytes_eq bs (codes "immediate") then Some (Form Immediate) else
    if bytes_eq bs (codes "exclusive") then Some (Form Exclusive) else None

-- the kind of block that begins with characteristics
abbrev pub built_block : Option (List ℕ) → Option BlockKind
built_block rest = do
  characteristics ← characteristics_of rest
  Some (Form (Build characteristics))

-- the kind of block that is named so: by one word, or by `build` and three words behind it
abbrev pub block_named : List ℕ → Option BlockKind
block_named bs =
    if bytes_eq (split_at 32 bs).0 (codes "build") then built_block (split_at 32 bs).1
    else block_alone bs
