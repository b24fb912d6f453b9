-- How many rows texts have, and how many values each of these.
use Rattle.std.specs.Prelude.{◌≡◌, ℕ, ◌+◌, ◌==◌, ◌&&◌, Bool, true, nat_lt, List, [], ◌∷◌, length, Option, Some, None}
use Rattle.conn_model.specs.Armed.{Values, armed_of, rows_of}
use Rattle.conn_model.specs.Classes.{same_text}
use Rattle.conn_model.specs.declared.plan.PlanLine.{PlanLine}
use Rattle.conn_script.specs.Tables.{Table, value_at}
use Rattle.conn_script.specs.declared.row_counts.RowCount.{RowCount}

-- how many rows there are, and how many values the first one has, where there is one
abbrev pub row_count_of : List Values → Option RowCount
row_count_of [] = None
row_count_of (row ∷ rows) = Some (record { rows = length (row ∷ rows); values = length row })

-- a row of so many values may come behind rows that are counted so: there are fewer than 16, and
-- each has as many values
abbrev pub may_follow : Option RowCount → ℕ → Bool
may_follow None values = true
may_follow (Some count) values = nat_lt count.rows 16 && values == count.values

-- the count with one row more, which has so many values where it is the first one
abbrev pub count_with_row : Option RowCount → ℕ → RowCount
count_with_row None values = record { rows = 1; values = values }
count_with_row (Some count) values = record { rows = count.rows + 1; values = count.values }

-- the rows that the plan gives each text are counted
abbrev pub AreRowCounts : Table (List ℕ) RowCount → List PlanLine → Type 0
AreRowCounts table plan =
    (text : List ℕ) → value_at same_text table text ≡ row_count_of (rows_of (armed_of plan) text)
