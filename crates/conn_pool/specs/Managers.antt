-- What a manager over a connector does.
use Rattle.std.specs.Prelude.{◌≡◌, ℕ, Bool, true, List, None}
use Rattle.conn_cache.specs.QueryProcesses.{ping_process, ping_view}
use Rattle.conn_drivers.specs.Establishing.{FailsToEstablish, IsEstablished}
use Rattle.conn_drivers.specs.Queried.{QueriesFrom}
use Rattle.conn_manager.specs.Manages.{HasServerCause, Reply}
use Rattle.conn_manager.specs.Views.{View}
use Rattle.conn_model.specs.Seen.{IsHonest}
use Rattle.conn_model.specs.declared.item.Dialect.{Dialect}
use Rattle.conn_result.specs.declared.error.ConnectionError.{ConnectionError}
use Rattle.conn_server.specs.Connected.{Connected, takes_back}

-- what a contract sees of a manager: its connector, and the dialect and the URL at which it opens
pub record Managed : Type 0 where
  pub connector : Connected
  pub dialect : Dialect
  pub url : List ℕ

-- a manager over this connector
abbrev pub managed : Connected → Dialect → List ℕ → Managed
managed connector dialect url = record { connector = connector; dialect = dialect; url = url }

-- the connector alone may be another
abbrev pub KeepsSettings : Managed → Managed → Type 0
KeepsSettings old new = new ≡ record old { connector = new.connector }

-- a manager by its connector's honesty and that of its servers
module _ (opens_honestly serves_honestly : Bool) (old new : Managed) where
  -- a connection was established, whose handler tells nothing
  pub record OpensManaged (v : View) : Type 0 where
    pub settings : KeepsSettings old new
    pub established : IsEstablished opens_honestly serves_honestly old.dialect old.url old.connector None new.connector v

  -- no connection was established
  pub record FailsManaged (e : ConnectionError) : Type 0 where
    pub settings : KeepsSettings old new
    pub failed : FailsToEstablish opens_honestly serves_honestly old.dialect old.url old.connector e new.connector

-- a connection was pinged; an honest server is so after it
pub record ChecksManaged (honest : Bool) (old new : Managed) (v w : View) (reply : Reply) : Type 0 where
  pub same : new ≡ old
  pub pinged : QueriesFrom honest ping_view ping_process v w reply
  pub honest_after : honest ≡ true → IsHonest w.seen
  pub cause : HasServerCause v.seen w.seen reply

-- a connection's server is back with the connector
abbrev pub ClosesManaged : Managed → Managed → View → Type 0
ClosesManaged old new v = new ≡ record old { connector = takes_back v.seen old.connector }
