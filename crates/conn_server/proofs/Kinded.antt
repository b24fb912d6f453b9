-- The refusals of a scripted server have the kinds that their codes have.
use Rattle.std.proofs.Common.{◌≡◌, true, refl}
use Rattle.conn_model.specs.Kinds.{has_kind, same_kind, mysql_kind, sqlite_kind}
use Rattle.conn_model.specs.declared.item.Dialect.{Dialect}
use Rattle.conn_model.specs.declared.item.Dialect.TheVariants.{Pg, Mysql, Sqlite}
use Rattle.conn_result.specs.declared.error.DatabaseErrorKind.{DatabaseErrorKind}
use Rattle.conn_result.specs.declared.error.DatabaseErrorKind.TheVariants.{UniqueViolation, ForeignKeyViolation, UnableToSendCommand, SerializationFailure, ReadOnlyTransaction, NotNullViolation, CheckViolation, ClosedConnection, Unknown, RestrictViolation, ExclusionViolation}
use Rattle.conn_model.specs.Obeyed.{ordered}
use Rattle.conn_server.specs.Refusals.{unaccepted}
use Rattle.conn_model.specs.declared.plan.Order.{Order}
use Rattle.conn_server.specs.declared.standing.Phase.{Phase}
use Rattle.conn_server.specs.declared.standing.Phase.TheVariants as phase

same : (k : DatabaseErrorKind) → same_kind k k ≡ true
same UniqueViolation = refl
same ForeignKeyViolation = refl
same UnableToSendCommand = refl
same SerializationFailure = refl
same ReadOnlyTransaction = refl
same NotNullViolation = refl
same CheckViolation = refl
same ClosedConnection = refl
same Unknown = refl
same RestrictViolation = refl
same ExclusionViolation = refl

pub ordered_kind : (d : Dialect) (order : Order) → has_kind d (ordered d order) ≡ true
ordered_kind Pg order = refl
ordered_kind Mysql order = same (mysql_kind order.code)
ordered_kind Sqlite order = same (sqlite_kind order.code)

pub unaccepted_kind : (d : Dialect) (p : Phase) → has_kind d (unaccepted d p) ≡ true
unaccepted_kind Pg p = refl
unaccepted_kind Mysql phase.Idle = refl
unaccepted_kind Mysql phase.Open = refl
unaccepted_kind Mysql phase.Aborted = refl
unaccepted_kind Mysql phase.Lost = refl
unaccepted_kind Sqlite phase.Idle = refl
unaccepted_kind Sqlite phase.Open = refl
unaccepted_kind Sqlite phase.Aborted = refl
unaccepted_kind Sqlite phase.Lost = refl
