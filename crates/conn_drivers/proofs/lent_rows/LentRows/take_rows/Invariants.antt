use Rattle.std.proofs.Common.{◌≡◌, ◌-◌, ◌≤◌, length}
use Rattle.conn_drivers.specs.Cursors.{HasAsked}
use Rattle.conn_drivers.specs.Raws.{shows}
use Rattle.conn_drivers.specs.declared.progress.Progress.TheVariants.{Going}
use Rattle.conn_drivers.proofs.lent_rows.LentRows.take_rows.Given as goal

abbrev pub invariant-loop-self : goal.invariant-loop-self
invariant-loop-self g l =
    HasAsked (shows g.S.Server.seen g.H.Instrumentation.told l.fn.self.conn.now.raw) (shows g.S.Server.seen g.H.Instrumentation.told l.self.conn.now.raw) Going l.rows.items × (l.self.progress ≡ Going) × (length l.rows.items ≤ l.fn.count)
    × (l.self.conn.ghost_name ≡ l.fn.self.conn.ghost_name) × (l.self.statement ≡ l.fn.self.statement) × (l.self.sql.now ≡ l.fn.self.sql.now)

abbrev pub decreases-loop-self : goal.decreases-loop-self
decreases-loop-self g l = l.fn.count - length l.rows.items
