use Rattle.std.proofs.Common.{◌≡◌, ℕ, List, ◌++◌, length}
use Rattle.std.specs.Prelude.{reverse}
use Rattle.conn_cache.specs.Sizes.{ClosesAll}
use Rattle.conn_cache.proofs.statement_cache.close_all.Given as goal

-- what is closed so far, in its order, and the preparer's count and room
abbrev pub invariant-loop-statement : goal.invariant-loop-statement
invariant-loop-statement g l = (done : List g.row.T.Denot) × (l.fn.statements.items ≡ l.statements.items ++ reverse done)
    × ClosesAll g.P.Preparer.closes l.fn.preparer done l.preparer
    × (g.P.Preparer.failures l.preparer ≡ g.P.Preparer.failures l.fn.preparer)
    × ((text : List ℕ) → g.P.Preparer.has_room l.fn.preparer text → g.P.Preparer.has_room l.preparer text)

abbrev pub decreases-loop-statement : goal.decreases-loop-statement
decreases-loop-statement g l = length l.statements.items
