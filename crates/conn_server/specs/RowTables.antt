-- Rows in memory, the last one first, each with how many records there are up to the next row of its text.
use Rattle.std.specs.Prelude.{◌≡◌, ℕ, zero, suc, ◌+◌, ◌^◌, ◌<◌, ◌≤◌, Bool, true, false, List, [], ◌∷◌, ◌++◌, length, take, slice_get, Option, Some, None}
use Rattle.std.specs.Map.{lookup}
use Rattle.std.specs.Option.{unwrap_or}
use Rattle.conn_model.specs.Armed.{Armed, rows_of}
use Rattle.conn_model.specs.Classes.{same_text}
use Rattle.conn_server.specs.declared.row_table.RowRecord.{RowRecord}

-- what places by text are for their callers: texts with their places, in any order
pub record TextPlaces : Type 0 where
  pub places : List (List ℕ × ℕ)

-- the place of a text
abbrev pub text_place : TextPlaces → List ℕ → Option ℕ
text_place t text = lookup (same_text text) t.places

-- the row that a record stands for
abbrev pub armed_row : RowRecord → Armed
armed_row r = record { text = r.text; row = r.row }

-- the rows of records, in order
abbrev pub armed_by : List RowRecord → List Armed
armed_by [] = []
armed_by (r ∷ rs) = armed_by rs ++ armed_row r ∷ []

-- the last of so many records
abbrev pub record_before : List RowRecord → ℕ → Option RowRecord
record_before rs zero = None
record_before rs (suc q) = slice_get rs q

-- the row is one of the text
abbrev pub has_text : List ℕ → Option RowRecord → Bool
has_text text None = false
has_text text (Some r) = same_text r.text text

-- so many records end with a row of the text, or there are none
abbrev pub ends_with : List RowRecord → List ℕ → ℕ → Bool
ends_with rs text zero = true
ends_with rs text (suc q) = has_text text (slice_get rs q)

-- the first n records have the same rows of the text as the first c, which end with one
pub record LeadsTo (rs : List RowRecord) (n : ℕ) (text : List ℕ) (c : ℕ) : Type 0 where
  pub low : c ≤ n
  pub ends : ends_with rs text c ≡ true
  pub same : rows_of (armed_by (take n rs)) text ≡ rows_of (armed_by (take c rs)) text

-- how many records there are up to the first row of a text, none where it has no row
abbrev pub count_up_to : TextPlaces → List ℕ → ℕ
count_up_to first text = unwrap_or (text_place first text) 0

-- each row leads to the next one of its text, and each text to its first row; there are fewer than their count can tell
pub record IsRowTable (rs : List RowRecord) (first : TextPlaces) : Type 0 where
  pub linked : (q : ℕ) (r : RowRecord) → slice_get rs q ≡ Some r → LeadsTo rs q r.text r.next
  pub found : (text : List ℕ) → LeadsTo rs (length rs) text (count_up_to first text)
  pub small : length rs + 1 < 2 ^ 64
