-- A process reads a finished log, item by item, from a state.
use Rattle.std.specs.Prelude.{◌≡◌, ◌&&◌, ℕ, false, ◌⊎◌, ⊤, List, [], ◌∷◌, ◌++◌, if◌then◌else◌, Option, Some, None}
use Rattle.std.specs.Option.{option_and_then}
use Rattle.std.specs.Str.{bytes_eq}
pub use Rattle.conn_model.specs.Obeyed.{is_fetch}
use Rattle.conn_model.specs.Armed.{Armed, Values, rows_of}
use Rattle.conn_model.specs.Process.{Process, Stop, Ask, Look, Tell, Heard, plain_heard, given_rows, heard_of, refusal_of, row_refused}
use Rattle.conn_model.specs.States.{State, step, told_of}
use Rattle.conn_model.specs.declared.item.Answer.{Answer}
use Rattle.conn_model.specs.declared.item.Dialect.{Dialect}
use Rattle.conn_model.specs.declared.item.Effect.{Effect}
use Rattle.conn_model.specs.declared.item.Item.{Item}
use Rattle.conn_model.specs.declared.item.Refusal.{Refusal}
use Rattle.conn_reading.specs.Calls.{same_call}

-- a value, the state after it, and the items that are left
pub record Read (A : Type 0) : Type 0 where
  pub value : A
  pub state : State
  pub left : List Item

-- the next item is the one that is asked, and the process goes on by what its caller heard; none where the item isn't there
-- or isn't allowed in the state before it. Where rows are asked, the next item is read where it is a refused row; else they
-- are those of the text. Events stand in no log
abbrev pub read : {A : Type 0} → Dialect → List Armed → State → Process A → List Item → Option (Read A)
read d armed s (Stop x) items = Some (record { value = x; state = s; left = items })
read d armed s (Tell event p) items = read d armed s p items
read d armed s (Ask call text next) [] = None
read d armed s (Ask call text next) (i ∷ is) =
    if same_call i.call call && bytes_eq i.text text
    then option_and_then (λ (after : State). read d armed after (next (heard_of d armed after i)) is) (step d s i)
    else None
read d armed s (Look text next) [] = read d armed s (next (given_rows (rows_of armed text))) []
read d armed s (Look text next) (i ∷ is) =
    if is_fetch i.call
    then (if bytes_eq i.text [] then option_and_then (λ (after : State). read d armed after (next (heard_of d armed after i)) is) (step d s i) else None)
    else read d armed s (next (given_rows (rows_of armed text))) (i ∷ is)

-- a log whose next item is no refused row
abbrev pub BeginsAnew : List Item → Type 0
BeginsAnew [] = ⊤
BeginsAnew (i ∷ is) = is_fetch i.call ≡ false

-- the process reads just these items, whatever follows them in the log but a refused row
pub record ReadsItems {A : Type 0} (d : Dialect) (armed : List Armed) (before : State) (p : Process A) (items : List Item) (value : A) (after : State) : Type 0 where
  pub whatever_follows : (more : List Item) → BeginsAnew more → read d armed before p (items ++ more) ≡ Some (record { value = value; state = after; left = more })

-- ---- what is read, whatever was heard of columns, affected rows and rows

-- what may be heard beside a refusal and what is told
pub record Beside : Type 0 where
  pub columns : ℕ
  pub affected : ℕ
  pub rows : List Values

-- what is heard of an answer, from the state after it
abbrev pub heard_with : Dialect → State → Answer → Beside → Heard
heard_with d after answer b = record { refusal = refusal_of answer; told = told_of d after; columns = b.columns; affected = b.affected; rows = b.rows }

-- from a state it reads these items, and ends with this value in that state
abbrev pub Reads : {A : Type 0} → Dialect → State → Process A → List Item → A → State → Type 0
Reads d s (Stop x) [] a end = (a ≡ x) × (end ≡ s)
Reads d s (Stop x) (i ∷ is) a end = ⊥
Reads d s (Tell event p) items a end = Reads d s p items a end
Reads d s (Ask call text next) [] a end = ⊥
Reads d s (Ask call text next) (i ∷ is) a end = (i.call ≡ call) × (i.text ≡ text) × ((after : State) × (step d s i ≡ Some after) × ((b : Beside) × Reads d after (next (heard_with d after i.answer b)) is a end))
Reads d s (Look text next) [] a end = (rows : List Values) × Reads d s (next (given_rows rows)) [] a end
Reads d s (Look text next) (i ∷ is) a end =
    ((rows : List Values) × Reads d s (next (given_rows rows)) (i ∷ is) a end)
    ⊎ ((r : Refusal) × (e : Effect) × (i ≡ row_refused r e) × ((after : State) × (step d s i ≡ Some after) × Reads d after (next (plain_heard (Some r) (told_of d after))) is a end))
