-- What a connection tells its handler.
use Rattle.std.specs.Prelude.{ℕ, List, ◌++◌, Option}
use Rattle.std.specs.Option.{option_map}
use Rattle.conn_result.specs.declared.error.ConnectionError.{ConnectionError}
use Rattle.conn_result.specs.declared.error.Error.{Error}

-- an event, with its text and its error as they were
pub data Event : Type 0 where
  StartEstablishConnection : List ℕ → Event
  FinishEstablishConnection : List ℕ → Option ConnectionError → Event
  StartQuery : List ℕ → Event
  CacheQuery : List ℕ → Event
  FinishQuery : List ℕ → Option Error → Event
  BeginTransaction : ℕ → Event
  CommitTransaction : ℕ → Event
  RollbackTransaction : ℕ → Event

-- the events that a handler was told, oldest first, where it tells them
abbrev pub Heeded : Type 0
Heeded = Option (List Event)

-- it was told these too
abbrev pub with_events : Heeded → List Event → Heeded
with_events told events = option_map (λ (es : List Event). es ++ events) told
