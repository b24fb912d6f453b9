use Rattle.conn_server.proofs.Spanning.{cut_before, cut_behind}
use Rattle.conn_server.proofs.spans.text_in.Goals as goal

pub range-requires-clause-start_boundary : goal.range-requires-clause-start_boundary
range-requires-clause-start_boundary c = λ later. cut_before c.args.buffer.now c.args.span c.utf8.buffer c.requires

pub range-requires-clause-end_boundary : goal.range-requires-clause-end_boundary
range-requires-clause-end_boundary c = cut_behind c.args.buffer.now c.args.span c.utf8.buffer c.requires
