use Rattle.std.proofs.Common.{◌≡◌, length}
use denote.Text.{Utf8}
use denote.Shadow.{shadow}
use Rattle.conn_script.specs.Binds.{bind_series}
use Rattle.conn_script.proofs.Reading.{behind}
use Rattle.conn_script.proofs.binds.bind_series.Given as goal

-- the binds so far, with those of the rest, are all of them
abbrev pub invariant-loop-binds : goal.invariant-loop-binds
invariant-loop-binds l = shadow (Utf8 l.rest) × (behind l.binds (bind_series l.rest) ≡ bind_series l.text)

abbrev pub decreases-loop-binds : goal.decreases-loop-binds
decreases-loop-binds l = length l.rest
