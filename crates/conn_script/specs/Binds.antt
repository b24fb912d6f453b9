-- The binds of a query as scripts write them.
use Rattle.std.specs.Prelude.{ℕ, nat_le, List, [], length, Option, Some, None, codes, if◌then◌else◌}
use Rattle.std.specs.Str.{bytes_eq}
use Rattle.conn_model.specs.declared.value.Bind.{Bind}
use Rattle.conn_model.specs.declared.value.BindType.{BindType}
use Rattle.conn_model.specs.declared.value.BindType.TheVariants.{SmallInt, Integer, BigInt, Text, Binary, Bool}
use Rattle.conn_script.specs.Options.{◌>>=◌, readings}
use Rattle.conn_script.specs.Values.{value_named}
use Rattle.conn_script.specs.Words.{pieces, split_at}

-- the type that is spelled so
abbrev pub type_named : List ℕ → Option BindType
type_named bs =
    if bytes_eq bs (codes "smallint") then Some SmallInt else
    if bytes_eq bs (codes "integer") then Some Integer else
    if bytes_eq bs (codes "bigint") then Some BigInt else
    if bytes_eq bs (codes "text") then Some Text else
    if bytes_eq bs (codes "binary") then Some Binary else
    if bytes_eq bs (codes "bool") then Some Bool else None

-- a type and a value, with an equals sign between them
abbrev pub bind_named : List ℕ → Option Bind
bind_named bs = do
  kind ← type_named (split_at 61 bs).0
  text ← (split_at 61 bs).1
  value ← value_named text
  Some (record { kind = kind; value = value })

-- binds with commas between them
abbrev pub bind_series : List ℕ → Option (List Bind)
bind_series bs = readings bind_named (pieces 44 bs)

-- no binds, or a list of at most 256 bytes
abbrev pub binds_named : List ℕ → Option (List Bind)
binds_named bs =
    if bytes_eq bs (codes "-") then Some [] else
    if nat_le (length bs) 256 then bind_series bs else None
