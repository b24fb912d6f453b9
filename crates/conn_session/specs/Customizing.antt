-- What a script's customizer does to a connection that was just opened, and what a deed of `get` does.
use Rattle.std.specs.Prelude.{◌≡◌, Bool, true, List, Option, Some, None, Ok}
use Rattle.conn_model.specs.Seen.{IsHonest}
use Rattle.conn_manager.specs.Manages.{Reply as Answer}
use Rattle.conn_manager.specs.Views.{View}
use Rattle.conn_reading.specs.Asking.{customizer_deed, reply_as}
use Rattle.conn_reading.specs.declared.deed.Deed.{Deed}
use Rattle.conn_script.specs.declared.command.Customizer.{Customizer}
use Rattle.conn_script.specs.declared.query.Declared.{Declared}
use Rattle.conn_session.specs.Responses.{Asks, CountsRefusal, done_answer}

-- a connection did what a deed asks that is no query, whatever queries there are, and answered so; an honest server is so after it
pub record AnswersDeed (honest : Bool) (deed : Deed) (old new : View) (answer : Answer) : Type 0 where
  pub asks : (queries : List Declared) → Asks honest queries deed old new (done_answer answer)
  pub counted : CountsRefusal deed old.seen new.seen (reply_as answer)
  pub honest_after : honest ≡ true → IsHonest new.seen

-- it did what a deed asks, or nothing was asked
abbrev pub AnswersIf : Bool → Option Deed → View → View → Answer → Type 0
AnswersIf honest None old new answer = (new ≡ old) × (answer ≡ Ok tt)
AnswersIf honest (Some deed) old new answer = AnswersDeed honest deed old new answer

-- what a customizer does
abbrev pub AcquiresAs : Bool → Customizer → View → View → Answer → Type 0
AcquiresAs honest z old new answer = AnswersIf honest (customizer_deed z) old new answer
