-- What a contract sees of a connection, and what a call does from one such view to the next.
use Rattle.std.specs.Prelude.{◌≡◌, Bool, [], ◌∷◌}
use Rattle.conn_model.specs.Acts.{Tells}
use Rattle.conn_model.specs.Caches.{Known}
use Rattle.conn_model.specs.Events.{Event, Heeded, with_events}
use Rattle.conn_model.specs.Process.{Process}
use Rattle.conn_model.specs.Seen.{Seen}
use Rattle.conn_model.specs.declared.item.Dialect.{Dialect}
use Rattle.conn_manager.specs.Manages.{Done, done, Reply, ActsOrMemory, TellsOrMemory}
use Rattle.conn_manager.specs.Statuses.{Status}

-- what is seen of its server, the status that is tracked, the events that its handler was told, and the statements that it keeps
pub record View : Type 0 where
  pub seen : Seen
  pub status : Status
  pub heeded : Heeded
  pub cache : Known

-- its handler was told this too
abbrev pub with_event : View → Event → View
with_event v event = record v { heeded = with_events v.heeded (event ∷ []) }

-- the statements are kept as they were
abbrev pub KeepsCache : View → View → Type 0
KeepsCache old new = new.cache ≡ old.cache

-- a call, by the dialect and the status at entry
module _ (honest : Bool) (process : Dialect → Status → Process Done) (old new : View) (reply : Reply) where
  -- it acts and tells by its process
  abbrev pub TellsFrom : Type 0
  TellsFrom = Tells honest (process old.seen.dialect old.status) old.seen new.seen old.heeded new.heeded (done reply new.status)

  -- it acts and tells by its process, or answers want of memory, and does and tells nothing
  abbrev pub TellsOrMemoryFrom : Type 0
  TellsOrMemoryFrom = TellsOrMemory honest (process old.seen.dialect old.status) old.seen new.seen old.heeded new.heeded old.status (done reply new.status)

  -- it acts by its process, whatever it tells, or answers want of memory and does nothing
  abbrev pub ActsOrMemoryFrom : Type 0
  ActsOrMemoryFrom = ActsOrMemory honest (process old.seen.dialect old.status) old.seen new.seen old.status (done reply new.status)
