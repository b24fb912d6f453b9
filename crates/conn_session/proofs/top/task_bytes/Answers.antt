use Rattle.conn_session.proofs.Whole.{read_script}
use Rattle.conn_session.proofs.top.task_bytes.Goals as goal

pub returns-in-Run-clause-script : goal.returns-in-Run-clause-script
returns-in-Run-clause-script g c = rw c.in-Run.is (read_script c.read_all.result (λ bytes. bytes.items) (g.I.Source.left c.args.source.now) c.read_all.ensures.ok)
