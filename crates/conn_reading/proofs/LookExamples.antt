-- What a look at rows reads.
use Rattle.std.proofs.Common.{◌≡◌, ℕ, pos, true, List, [], ◌∷◌, codes, refl, Some}
use Rattle.conn_result.specs.declared.error.DatabaseErrorKind.TheVariants.{Unknown}
use Rattle.conn_model.specs.Armed.{Armed, Values}
use Rattle.conn_model.specs.Classes.{class, is_begin, is_built, is_write, same_text, begins, number_behind}
use Rattle.conn_model.specs.Events.{StartQuery}
use Rattle.conn_model.specs.Process.{Process, Stop, Ask, Look, Tell, Heard, plain_heard, given_rows, row_refused}
use Rattle.conn_model.specs.States.{Idle}
use Rattle.conn_model.specs.declared.item.Answer.TheVariants.{Accepted}
use Rattle.conn_model.specs.declared.item.Call.TheVariants.{Exec, Run}
use Rattle.conn_model.specs.declared.item.Dialect.TheVariants.{Sqlite}
use Rattle.conn_model.specs.declared.item.Effect.TheVariants.{Stays}
use Rattle.conn_model.specs.declared.item.Item.{Item}
use Rattle.conn_model.specs.declared.item.Refusal.{Refusal}
use Rattle.conn_model.specs.declared.item.Told.TheVariants.{Autocommit}
use Rattle.conn_model.specs.declared.value.Value.TheVariants as values
use Rattle.conn_reading.specs.Reading.{read}

abbrev text : List ℕ
text = codes "SELECT a"

abbrev row : Values
row = values.Int (pos 1) ∷ []

abbrev armed : List Armed
armed = record { text = text; row = row } ∷ []

-- an event, a run of the text, and its rows
abbrev loads : Process Heard
loads = Tell (StartQuery text) (Ask (Run []) text (λ h. Look text (λ g. Stop g)))

abbrev run : Item
run = record { call = Run []; text = text; answer = Accepted }

abbrev busy : Refusal
busy = record { code = pos 5; kind = Unknown }

-- an item of the next command
abbrev other : Item
other = record { call = Exec; text = codes "INSERT a"; answer = Accepted }

-- rows that are given stand in no log
they_are_given : read Sqlite armed (Idle []) loads (run ∷ other ∷ []) ≡ Some (record { value = given_rows (row ∷ []); state = Idle []; left = other ∷ [] })
unfolding class is_begin is_built is_write same_text begins number_behind
they_are_given = refl

-- a refused one does, and is read
one_is_refused : read Sqlite armed (Idle []) loads (run ∷ row_refused busy Stays ∷ other ∷ []) ≡ Some (record { value = plain_heard (Some busy) (Autocommit true); state = Idle []; left = other ∷ [] })
unfolding class is_begin is_built is_write same_text begins number_behind
one_is_refused = refl
