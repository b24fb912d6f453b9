use Rattle.std.proofs.Common.{◌≡◌, ◌∙◌, sym, subst}
use Rattle.conn_session.specs.Commands.{IsCompleteTask, task_bytes}
use Rattle.conn_session.specs.declared.task.Task.{Task}
use Rattle.conn_session.proofs.Whole.{answers_told, is_complete_task}
use Rattle.conn_session.proofs.top.run_command.Goals as goal

pub returns-in-Ok-write_all-clause-answered : goal.returns-in-Ok-write_all-clause-answered
returns-in-Ok-write_all-clause-answered g c = λ l. (
  c.in-Some.task,
  sym c.in-Some.ensures.task,
  (
    c.in-Ok-answer.text.items,
    answers_told _ _ c.in-Some.task (task_bytes c.in-Some.task (g.I.Source.left c.args.source.now)) c.in-Ok.bytes.items _ _ _ _ c.in-Ok.ensures.script (rw (← c.deref.ensures.value) c.in-Ok-answer.ensures.answer),
    rw c.deref-2.ensures.value at c.in-Ok-write_all.ensures.ok,
  ),
)

pub returns-clause-prefix : goal.returns-clause-prefix
returns-clause-prefix g c = λ l. (
  c.in-Some.task,
  sym c.in-Some.ensures.task,
  c.in-Ok-answer.status,
  c.in-Ok-answer.text.items,
  answers_told _ _ c.in-Some.task (task_bytes c.in-Some.task (g.I.Source.left c.args.source.now)) c.in-Ok.bytes.items _ _ _ _ c.in-Ok.ensures.script (rw (← c.deref.ensures.value) c.in-Ok-answer.ensures.answer),
  rw c.deref-2.ensures.value at c.in-Err.ensures.err,
)

pub returns-in-Ok-write_all-clause-complete : goal.returns-in-Ok-write_all-clause-complete
returns-in-Ok-write_all-clause-complete g c = λ task e _ _.
    let left = g.I.Source.left c.args.source.now in
    let same : c.in-Some.task ≡ task = cc (c.in-Some.ensures.task ∙ e) in
    subst (λ (t : Task). IsCompleteTask t left c.in-Ok-answer.status) same
    (is_complete_task g.K.Connector.is_honest g.K.S.Server.is_honest c.in-Some.task left (g.K.Connector.held c.args.connector.now) (g.K.Connector.held c.answer.new.connector) c.in-Ok-answer.status c.in-Ok-answer.text.items c.in-Some.ensures.few
    (answers_told _ _ c.in-Some.task (task_bytes c.in-Some.task left) c.in-Ok.bytes.items _ _ _ _ c.in-Ok.ensures.script (rw (← c.deref.ensures.value) c.in-Ok-answer.ensures.answer)))
