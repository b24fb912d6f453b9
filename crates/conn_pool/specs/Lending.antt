-- The connection that a pooled one lends.
use Rattle.std.specs.Borrow.{Lends, MutBor, Fml, RattleType}
use Rattle.conn_pool.specs.declared.pooled.PooledConnection.{PooledConnection}
use Rattle.conn_pool.specs.contracts.pooled.PooledConnection.{the_row}

-- a pooled connection with another connection
abbrev pub with_connection : {C : Type 0} → PooledConnection C → C → PooledConnection C
with_connection p c = record { slot = p.slot; connection = c }

-- the pooled connection ends with what was left behind the reference
abbrev pub LendsConnection : (C : RattleType) → MutBor (PooledConnection C.Denot) → MutBor C.Denot → Fml
LendsConnection C s r = Lends (the_row C) C s r (with_connection s.now)
