-- What a server does that is asked for the next row of the last run, or for a notification.
use Rattle.std.specs.Prelude.{◌≡◌, ◌+◌, ◌≤◌, false, List, [], ◌∷◌, Option, Some, None, Result, Ok, Err}
use Rattle.std.specs.Option.{option_map}
use Rattle.conn_result.specs.Causes.{Rose}
use Rattle.conn_model.specs.Process.{row_refused}
use Rattle.conn_model.specs.Seen.{Seen, Values}
use Rattle.conn_model.specs.Served.{with_item, one_more}
use Rattle.conn_model.specs.declared.item.Effect.{Effect}
use Rattle.conn_model.specs.declared.item.Refusal.{Refusal}
use Rattle.conn_model.specs.declared.plan.Notification.{Notification}
use Rattle.conn_model.specs.declared.reply.RowRefusal.{RowRefusal}
use Rattle.conn_model.specs.declared.reply.RowRefusal.TheVariants as row

-- the same where no row is left
abbrev pub none_left : Option (List Values) → Option (List Values)
none_left rows = option_map (λ _. []) rows

-- a row was given: it was the first of those that were left, and nothing else changed
pub record GivenRow (old new : Seen) (given : Values) : Type 0 where
  pub left : old.rows_left ≡ new.rows_left + 1
  pub rows : old.rows ≡ option_map (λ (rest : List Values). given ∷ rest) new.rows
  pub keeps : new ≡ record old { given = old.given + 1; rows_left = new.rows_left; rows = new.rows }

-- no row was left, and nothing changed
pub record NoRow (old new : Seen) : Type 0 where
  pub left : old.rows_left ≡ 0
  pub rows : old.rows ≡ none_left old.rows
  pub keeps : new ≡ old

-- a row was refused: the refusal is one item and was counted, and no row is left; a quiet server refuses none
pub record RefusesRow (old new : Seen) (r : Refusal) : Type 0 where
  pub effect : Effect
  pub log : new.log ≡ with_item old.log (row_refused r effect)
  pub sent : new.sent ≡ one_more old.sent
  pub later : old.failures ≤ new.failures
  pub failed : Rose old.failures new.failures
  pub due : old.quiet ≡ false
  pub keeps : new ≡ record old { log = new.log; told = new.told; sent = new.sent; failures = new.failures; last = None; rows_left = 0; rows = none_left old.rows }

-- the next row was asked for; want of memory changes nothing
abbrev pub GivesRow : Seen → Seen → Result (Option Values) RowRefusal → Type 0
GivesRow old new (Ok (Some given)) = GivenRow old new given
GivesRow old new (Ok None) = NoRow old new
GivesRow old new (Err (row.Refused r)) = RefusesRow old new r
GivesRow old new (Err row.Memory) = new ≡ old

-- the first of the waiting notifications was taken, where they are told; none is where none waits
abbrev pub TakesNext : Option (List Notification) → Option (List Notification) → Option Notification → Type 0
TakesNext None new taken = new ≡ None
TakesNext (Some []) new taken = (new ≡ Some []) × (taken ≡ None)
TakesNext (Some (n ∷ later)) new taken = (new ≡ Some later) × (taken ≡ Some n)

-- a notification was asked for, and nothing changed but those that wait
pub record Notifies (old new : Seen) (taken : Option Notification) : Type 0 where
  pub takes : TakesNext old.waiting new.waiting taken
  pub keeps : new ≡ record old { waiting = new.waiting }
