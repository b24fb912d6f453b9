-- What the connections show, and what a connection to any of the three has in common with them.
use Rattle.conn_model.specs.Events.{Heeded}
use Rattle.conn_model.specs.Seen.{Seen}
use Rattle.conn_manager.specs.Views.{View}
use Rattle.conn_drivers.specs.Queried.{known_of}
use Rattle.conn_drivers.specs.declared.any.AnyConnection.{AnyConnection}
use Rattle.conn_drivers.specs.declared.any.AnyConnection.TheVariants.{Pg, Mysql, Sqlite}
use Rattle.conn_drivers.specs.declared.raw.RawConnection.{RawConnection}

-- what a connection shows, by what its server and its handler show
abbrev pub shows : {S H : Type 0} → {g : _} → (S → Seen) → (H → Heeded) → RawConnection S H g → View
shows seen told c = record { seen = seen c.wire.server; status = c.wire.status; heeded = told c.handler; cache = known_of c.cache }

-- the connection of the one kind
abbrev pub raw_of : {S H : Type 0} → {g : _} → AnyConnection S H g → RawConnection S H g
raw_of (Pg c) = c.raw
raw_of (Mysql c) = c.raw
raw_of (Sqlite c) = c.raw
