use Rattle.std.proofs.Common.{take}
use Rattle.conn_session.specs.Finds.{FindsEach}
use Rattle.conn_session.proofs.queries.Queries.new.Given as goal

-- the queries so far are found
abbrev pub invariant-loop-query : goal.invariant-loop-query
invariant-loop-query l = FindsEach l.places.items (take l.query-index l.declared)
