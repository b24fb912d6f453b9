use Rattle.std.proofs.Common.{◌≡◌, ◌++◌, Ok}
use Rattle.conn_rows.specs.Lists.{rows_read}
use Rattle.conn_drivers.proofs.rows.read_all.Given as goal

abbrev pub invariant-loop-row : goal.invariant-loop-row
invariant-loop-row g l = (rows_read (g.R.RowReader.reads l.fn.reader) l.yielded ≡ Ok l.values.items) × (l.fn.rows.items ≡ l.yielded ++ l.row-iterator.rest.items)
