-- The queries that a script declares.
use Rattle.std.specs.Prelude.{ℕ, ◌≡◌, ◌==◌, ◌&&◌, Bool, false, nat_eq, nat_le, nat_lt, List, length, Option, Some, None, is_some, codes, if◌then◌else◌}
use Rattle.std.specs.List.{find, list_any}
use Rattle.std.specs.Option.{option_map}
use Rattle.std.specs.Str.{bytes_eq}
use Rattle.conn_model.specs.Numbers.{number}
use Rattle.conn_script.specs.Binds.{binds_named}
use Rattle.conn_script.specs.Fields.{number_at, word_at}
use Rattle.conn_script.specs.Options.{◌>>=◌, guard}
use Rattle.conn_script.specs.Shapes.{shape_named}
use Rattle.conn_script.specs.Tables.{Table, value_at}
use Rattle.conn_script.specs.Words.{is_statement}
use Rattle.conn_script.specs.declared.query.Declared.{Declared}
use Rattle.conn_script.specs.declared.query.Safety.{Safety}
use Rattle.conn_script.specs.declared.query.Safety.TheVariants.{Safe, Unsafe, NoChange}
use Rattle.conn_script.specs.declared.query.Written.{Written}

-- what may be done with a query, as it is spelled
abbrev pub safety_named : List ℕ → Option Safety
safety_named bs =
    if bytes_eq bs (codes "safe") then Some Safe else
    if bytes_eq bs (codes "unsafe") then Some Unsafe else
    if bytes_eq bs (codes "nochange") then Some NoChange else None

-- the next word as what may be done with a query, and what follows it
abbrev pub safety_at : Option (List ℕ) → Option (Safety × Option (List ℕ))
safety_at rest = do
  word ← word_at rest
  safety ← safety_named word.0
  Some (safety, word.1)

-- the id that is written so, which is not 0, or that there is none
abbrev pub id_named : List ℕ → Option (Option ℕ)
id_named bs =
    if bytes_eq bs (codes "-") then Some None else
    (number 18446744073709551616 bs >>= λ id. guard (nat_lt 0 id) (Some id))

-- the next word as an id, and what follows it
abbrev pub id_at : Option (List ℕ) → Option (Option ℕ × Option (List ℕ))
id_at rest = do
  word ← word_at rest
  id ← id_named word.0
  Some (id, word.1)

-- the text of a query: a statement text of at most 512 bytes
abbrev pub is_query_text : List ℕ → Bool
is_query_text bs = nat_le (length bs) 512 && is_statement bs

-- the fields of a `query` line, with the binds and the shape as they are written
abbrev pub written_of : Option (List ℕ) → Option Written
written_of rest = do
  number ← number_at 0 65535 rest
  safety ← safety_at number.1
  id ← id_at safety.1
  binds ← word_at id.1
  shape ← word_at binds.1
  text ← shape.1
  guard (is_query_text text) (record {
    number = number.0;
    safety = safety.0;
    id = id.0;
    binds = binds.0;
    shape = shape.0;
    text = text;
  })

-- the query that these fields declare
abbrev pub declared_by : Written → Option Declared
declared_by w = do
  binds ← binds_named w.binds
  shape ← shape_named w.shape
  Some (record {
    number = w.number;
    safety = w.safety;
    id = w.id;
    binds = binds;
    shape = shape;
    text = w.text;
  })

-- the query that a `query` line declares, by what follows its word
abbrev pub declared_of : Option (List ℕ) → Option Declared
declared_of rest = written_of rest >>= declared_by

-- the text of the query of this number, where it is declared
abbrev pub query_text : List Declared → ℕ → Option (List ℕ)
query_text queries n = option_map (λ q. q.text) (find (λ q. q.number == n) queries)

-- one of the queries has this number
abbrev pub is_declared : List Declared → ℕ → Bool
is_declared queries n = is_some (query_text queries n)

-- there is an id, and it is this one
abbrev pub is_id : Option ℕ → ℕ → Bool
is_id None n = false
is_id (Some id) n = id == n

-- one of the queries has this id
abbrev pub has_id : List Declared → ℕ → Bool
has_id queries n = list_any (λ q. is_id q.id n) queries

-- there is an id, and one of the queries has it
abbrev pub is_used : List Declared → Option ℕ → Bool
is_used queries None = false
is_used queries (Some id) = has_id queries id

-- the table has the texts of the queries
abbrev pub AreTexts : Table ℕ (List ℕ) → List Declared → Type 0
AreTexts table queries = (n : ℕ) → value_at nat_eq table n ≡ query_text queries n

-- the table has their ids
abbrev pub AreIds : Table ℕ (Unit {0}) → List Declared → Type 0
AreIds table queries = (n : ℕ) → is_some (value_at nat_eq table n) ≡ has_id queries n
