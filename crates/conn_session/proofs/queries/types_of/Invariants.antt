use Rattle.std.proofs.Common.{◌≡◌, map, take}
use Rattle.conn_model.specs.declared.value.Bind.{Bind}
use Rattle.conn_session.proofs.queries.types_of.Given as goal

-- the types so far
abbrev pub invariant-loop-bind : goal.invariant-loop-bind
invariant-loop-bind l = l.types ≡ map (λ (b : Bind). b.kind) (take l.bind-index l.binds)
