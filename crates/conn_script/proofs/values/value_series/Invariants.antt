use Rattle.std.proofs.Common.{◌≡◌, length}
use denote.Text.{Utf8}
use denote.Shadow.{shadow}
use Rattle.conn_script.specs.Values.{value_series}
use Rattle.conn_script.proofs.Reading.{behind}
use Rattle.conn_script.proofs.values.value_series.Given as goal

-- the values so far, with those of the rest, are all of them
abbrev pub invariant-loop-values : goal.invariant-loop-values
invariant-loop-values l = shadow (Utf8 l.rest) × (behind l.values (value_series l.rest) ≡ value_series l.text)

abbrev pub decreases-loop-values : goal.decreases-loop-values
decreases-loop-values l = length l.rest
