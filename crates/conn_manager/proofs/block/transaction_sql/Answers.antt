use Rattle.std.proofs.Common.{◌≡◌, Option, Some, None, Ok, IfSome, IsErrAnd}
use Rattle.conn_result.specs.declared.error.Error.{Error}
use Rattle.conn_manager.specs.Causes.{RefusesAtEntry, begin_sql_fault}
use Rattle.conn_manager.specs.Views.{View}
use Rattle.conn_manager.proofs.block.transaction_sql.Goals as goal

-- a begin that was Ok wasn't due to be refused
not_due : (o : Option Error) (Q : Error → Type 0) (old new : View) → IfSome o (RefusesAtEntry old new (Ok tt)) → IfSome o Q
not_due None Q old new h = tt
not_due (Some e) Q old new h = let bad = h.answers in cc

pub returns-clause-at_entry : goal.returns-clause-at_entry
returns-clause-at_entry g c =
    let view = g.C.SimpleConnection.view in
    let old = view c.args.conn.now in
    let Refuses : Error → Type 0 = λ e. IsErrAnd c.run_begun.result (g.E.From.from_gives e) × (view c.run_begun.new.conn ≡ old) in
    not_due (begin_sql_fault old.status) Refuses old (view c.begin_sql.new.conn) c.in_ok-begin_sql.ensures.at_entry
