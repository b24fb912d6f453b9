-- The counts of rows, with one line of the plan more.
use Rattle.std.proofs.Common.{◌≡◌, ℕ, ◌+◌, Bool, true, false, cond, List, [], ◌∷◌, ◌++◌, length, Option, Some, refl, sym, ap, ◌∙◌, arith, append-nil, length-append}
use Rattle.conn_model.specs.Armed.{Values, Armed, armed_of, rows_of}
use Rattle.conn_model.specs.Classes.{same_text}
use Rattle.conn_model.specs.TextLaws.{text_is}
use Rattle.conn_model.specs.declared.plan.PlanLine.{PlanLine}
use Rattle.conn_model.specs.declared.plan.PlanLine.TheVariants.{Refuse, RefuseRow, NoConnect, Rows, Notify}
use Rattle.conn_script.specs.RowCounts.{AreRowCounts, row_count_of, count_with_row}
use Rattle.conn_script.specs.Tables.{Table, value_at}
use Rattle.conn_script.specs.declared.row_counts.RowCount.{RowCount}

-- one row more
count_one_more : (rows : List Values) (row : Values) → row_count_of (rows ++ row ∷ []) ≡ Some (count_with_row (row_count_of rows) (length row))
count_one_more [] row = refl
count_one_more (first ∷ rows) row =
    let size : length (first ∷ rows ++ row ∷ []) ≡ length (first ∷ rows) + 1 = omega (arith, length-append rows (row ∷ [])) in
    ap (λ (n : ℕ). Some (record { rows = n; values = length first })) size

-- the rows of a text, of one list of rows and then of another
rows_both : (first second : List Armed) (text : List ℕ) → rows_of (first ++ second) text ≡ rows_of first text ++ rows_of second text
rows_both [] second text = refl
rows_both (a ∷ more) second text = by_test (same_text a.text text) (rows_both more second text)
  where
    by_test : (b : Bool) → rows_of (more ++ second) text ≡ rows_of more text ++ rows_of second text
        → cond b (a.row ∷ rows_of (more ++ second) text) (rows_of (more ++ second) text) ≡ cond b (a.row ∷ rows_of more text) (rows_of more text) ++ rows_of second text
    by_test true h = ap (λ (rows : List Values). a.row ∷ rows) h
    by_test false h = h

-- the rows that lines arm servers with, with one line more
armed_more : (plan : List PlanLine) (line : PlanLine) → armed_of (plan ++ line ∷ []) ≡ armed_of plan ++ armed_of (line ∷ [])
armed_more [] line = refl
armed_more (Rows text row ∷ lines) line = ap (λ (armed : List Armed). record { text = text; row = row } ∷ armed) (armed_more lines line)
armed_more (Refuse s i c k w ∷ lines) line = armed_more lines line
armed_more (RefuseRow s i r c k w ∷ lines) line = armed_more lines line
armed_more (NoConnect a c ∷ lines) line = armed_more lines line
armed_more (Notify s n ∷ lines) line = armed_more lines line

-- the rows of a text, with one line more
rows_more : (plan : List PlanLine) (line : PlanLine) (text : List ℕ) → rows_of (armed_of (plan ++ line ∷ [])) text ≡ rows_of (armed_of plan) text ++ rows_of (armed_of (line ∷ [])) text
rows_more plan line text = ap (λ (armed : List Armed). rows_of armed text) (armed_more plan line) ∙ rows_both (armed_of plan) (armed_of (line ∷ [])) text

-- a line that gives no row
pub counts_same : (table : Table (List ℕ) RowCount) (plan : List PlanLine) (line : PlanLine) → AreRowCounts table plan → armed_of (line ∷ []) ≡ [] → AreRowCounts table (plan ++ line ∷ [])
counts_same table plan line h none text =
    let rows : List Values = rows_of (armed_of plan) text in
    h text ∙ ap row_count_of (sym (rows_more plan line text ∙ ap (λ (armed : List Armed). rows ++ rows_of armed text) none ∙ append-nil rows))

-- a line that gives a row
pub counts_more : (before after : Table (List ℕ) RowCount) (plan : List PlanLine) (text : List ℕ) (row : Values) → AreRowCounts before plan
    → ((other : List ℕ) → value_at same_text after other ≡ cond (same_text text other) (Some (count_with_row (row_count_of (rows_of (armed_of plan) text)) (length row))) (value_at same_text before other))
    → AreRowCounts after (plan ++ Rows text row ∷ [])
counts_more before after plan text row h puts other = by_text (same_text text other) refl
  where
    line : PlanLine
    line = Rows text row

    rows : List Values
    rows = rows_of (armed_of plan) other

    count : List ℕ → Option RowCount
    count t = Some (count_with_row (row_count_of (rows_of (armed_of plan) t)) (length row))

    put : (b : Bool) → same_text text other ≡ b → value_at same_text after other ≡ cond b (count text) (value_at same_text before other)
    put b e = puts other ∙ ap (λ (c : Bool). cond c (count text) (value_at same_text before other)) e

    given : (b : Bool) → same_text text other ≡ b → rows_of (armed_of (plan ++ line ∷ [])) other ≡ rows ++ cond b (row ∷ []) []
    given b e = rows_more plan line other ∙ ap (λ (c : Bool). rows ++ cond c (row ∷ []) []) e

    by_text : (b : Bool) → same_text text other ≡ b → value_at same_text after other ≡ row_count_of (rows_of (armed_of (plan ++ line ∷ [])) other)
    by_text true e = put true e ∙ ap count (text_is text other e) ∙ sym (count_one_more rows row) ∙ ap row_count_of (sym (given true e))
    by_text false e = put false e ∙ h other ∙ ap row_count_of (sym (given false e ∙ append-nil rows))
