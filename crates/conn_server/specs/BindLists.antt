-- Binds in memory: records over one buffer of bytes.
use Rattle.std.specs.Prelude.{◌≡◌, ℕ, ⊤, true, List, [], map}
use Rattle.std.specs.Str.{is_utf8}
use Rattle.conn_model.specs.declared.value.Bind.{Bind}
use Rattle.conn_model.specs.declared.value.Value.{Value}
use Rattle.conn_model.specs.declared.value.Value.TheVariants as value
use Rattle.conn_server.specs.Spans.{IsSpan, bytes_at}
use Rattle.conn_server.specs.declared.binds.BindRecord.{BindRecord}
use Rattle.conn_server.specs.declared.binds.ValueRecord.{ValueRecord}
use Rattle.conn_server.specs.declared.binds.ValueRecord.TheVariants.{Null, Int, Text, Bytes}
use Rattle.conn_server.specs.declared.spans.Span.{Span}

-- what a list of binds is for its callers
pub record BindList : Type 0 where
  pub binds : List Bind
  pub bind_room : ℕ
  pub value_room : ℕ

-- the value that a record stands for
abbrev pub value_of : List ℕ → ValueRecord → Value
value_of buffer Null = value.Null
value_of buffer (Int n) = value.Int n
value_of buffer (Text s) = value.Text (bytes_at buffer s)
value_of buffer (Bytes s) = value.Bytes (bytes_at buffer s)

-- the bytes of a value
abbrev pub bytes_of : Value → List ℕ
bytes_of value.Null = []
bytes_of (value.Int n) = []
bytes_of (value.Text t) = t
bytes_of (value.Bytes b) = b

-- the bind
abbrev pub bind_of : List ℕ → BindRecord → Bind
bind_of buffer r = record { kind = r.kind; value = value_of buffer r.value }

-- the binds of records
abbrev pub bind_list : List ℕ → List BindRecord → List Bind
bind_list buffer records = map (bind_of buffer) records

-- a text stands at the place
pub record IsTextAt (buffer : List ℕ) (s : Span) : Type 0 where
  pub within : IsSpan buffer s
  pub utf8 : is_utf8 (bytes_at buffer s) ≡ true

-- the value stands in the buffer
abbrev pub IsValueIn : List ℕ → ValueRecord → Type 0
IsValueIn buffer Null = ⊤
IsValueIn buffer (Int n) = ⊤
IsValueIn buffer (Text s) = IsTextAt buffer s
IsValueIn buffer (Bytes s) = IsSpan buffer s

-- so does that of the bind
abbrev pub IsBindIn : List ℕ → BindRecord → Type 0
IsBindIn buffer r = IsValueIn buffer r.value
