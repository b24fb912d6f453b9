use Rattle.std.proofs.Common.{rules}
use Rattle.conn_model.proofs.Initials.{initial-insert, initial-update, initial-delete, initial-begin, initial-commit, initial-rollback, initial-savepoint, initial-other}
use Rattle.conn_model.proofs.class.class_of.Goals as goal

pub returns-in-73 : goal.returns-in-73
returns-in-73 c = search (rules, initial-insert)

pub returns-in-85 : goal.returns-in-85
returns-in-85 c = search (rules, initial-update)

pub returns-in-68 : goal.returns-in-68
returns-in-68 c = search (rules, initial-delete)

pub returns-in-66 : goal.returns-in-66
returns-in-66 c = search (rules, initial-begin)

pub returns-in-67 : goal.returns-in-67
returns-in-67 c = search (rules, initial-commit)

pub returns-in-82 : goal.returns-in-82
returns-in-82 c = search (rules, initial-rollback)

pub returns-in-83 : goal.returns-in-83
returns-in-83 c = search (rules, initial-savepoint)

pub returns-in_default : goal.returns-in_default
returns-in_default c = search (rules, initial-other)
