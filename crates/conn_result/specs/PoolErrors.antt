-- The errors of a pool, by what a connection or an opening answered.
use Rattle.std.specs.Prelude.{ℕ}
use Rattle.conn_result.specs.declared.error.ConnectionError.{ConnectionError as OpeningFault}
use Rattle.conn_result.specs.declared.error.ConnectionError.TheVariants as openings
use Rattle.conn_result.specs.declared.error.Error.{Error as Fault}
use Rattle.conn_result.specs.declared.error.Error.TheVariants as faults
use Rattle.conn_result.specs.declared.pool.Error.{Error}
use Rattle.conn_result.specs.declared.pool.Error.TheVariants.{ConnectionError, QueryError, OutOfMemory}

-- what an opening answered; want of memory is the pool's own
abbrev pub opening_error : OpeningFault → Error
opening_error openings.OutOfMemory = OutOfMemory
opening_error e = ConnectionError e

-- what the connection of a number answered; want of memory has none
abbrev pub query_error : Fault → ℕ → Error
query_error faults.OutOfMemory number = OutOfMemory
query_error e number = QueryError e number
