-- What an honest server gives for a text, by the rows that it was armed with.
use Rattle.std.specs.Prelude.{ℕ, min, List, [], ◌∷◌, length, codes, if◌then◌else◌}
use Rattle.conn_model.specs.Classes.{class, begins, same_text}
use Rattle.conn_model.specs.declared.class.Class.{Class}
use Rattle.conn_model.specs.declared.class.Class.TheVariants as of
use Rattle.conn_model.specs.declared.plan.PlanLine.{PlanLine}
use Rattle.conn_model.specs.declared.plan.PlanLine.TheVariants.{Refuse, RefuseRow, NoConnect, Rows, Notify}
use Rattle.conn_model.specs.declared.value.Value.{Value}

-- the values of a row
abbrev pub Values : Type 0
Values = List Value

-- a row that a server was armed with: a run of the text gives it
pub record Armed : Type 0 where
  pub text : List ℕ
  pub row : Values

-- the rows that the lines arm servers with, in order
abbrev pub armed_of : List PlanLine → List Armed
armed_of [] = []
armed_of (Rows text row ∷ lines) = record { text = text; row = row } ∷ armed_of lines
armed_of (Refuse s i c k w ∷ lines) = armed_of lines
armed_of (RefuseRow s i r c k w ∷ lines) = armed_of lines
armed_of (NoConnect a code ∷ lines) = armed_of lines
armed_of (Notify s n ∷ lines) = armed_of lines

-- the rows that an accepted text of the class affects
abbrev pub affected_by : Class → ℕ
affected_by of.Write = 1
affected_by of.Begin = 0
affected_by (of.Savepoint k) = 0
affected_by (of.RollbackTo k) = 0
affected_by (of.Release k) = 0
affected_by of.Commit = 0
affected_by of.Rollback = 0
affected_by of.Other = 0

-- the rows that an accepted text affects
abbrev pub affected_of : List ℕ → ℕ
affected_of text = affected_by (class text)

-- the rows of a text, in order
abbrev pub rows_of : List Armed → List ℕ → List Values
rows_of [] text = []
rows_of (a ∷ more) text = if same_text a.text text then a.row ∷ rows_of more text else rows_of more text

-- by the rows: the length of the first one, up to the end of its type; without rows a SELECT has one column
abbrev pub columns_by : List Values → List ℕ → ℕ
columns_by [] text = if begins text (codes "SELECT") then 1 else 0
columns_by (row ∷ rows) text = min (length row) 4294967295

-- how many columns the rows of a text have
abbrev pub columns_of : List Armed → List ℕ → ℕ
columns_of armed text = columns_by (rows_of armed text) text
