-- What a customizer does to a connection that was just opened.
use Rattle.std.specs.Prelude.{◌≡◌, Bool, Ok}
use Rattle.conn_manager.specs.Agrees.{AgreesOn}
use Rattle.conn_manager.specs.Causes.{IsCaused}
use Rattle.conn_manager.specs.Manages.{Done, HasServerCause, Reply}
use Rattle.conn_manager.specs.Statuses.{Status}
use Rattle.conn_manager.specs.Views.{ActsOrMemoryFrom, KeepsCache, TellsOrMemoryFrom, View}
use Rattle.conn_model.specs.Process.{Process}
use Rattle.conn_model.specs.declared.item.Dialect.{Dialect}

-- it does nothing
abbrev pub AcquiresPlain : View → View → Reply → Type 0
AcquiresPlain v w reply = (w ≡ v) × (reply ≡ Ok tt)

-- it begins a transaction by a process
pub record AcquiresBy (honest : Bool) (process : Dialect → Status → Process Done) (v w : View) (reply : Reply) : Type 0 where
  pub acts : ActsOrMemoryFrom honest process v w reply
  pub tells : TellsOrMemoryFrom honest process v w reply
  pub cache : KeepsCache v w
  pub cause : IsCaused v w reply
  pub agrees : AgreesOn honest v w reply
  pub refused : HasServerCause v.seen w.seen reply
