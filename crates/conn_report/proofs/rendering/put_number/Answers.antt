use Rattle.std.proofs.Common.{rules, ◌≤◌, length, decimal, arith}
use Rattle.std.proofs.lemmas.Fmt.{length-decimal-le}
use Rattle.conn_report.proofs.rendering.put_number.Goals as goal

pub write_digits-requires : goal.write_digits-requires
write_digits-requires c = search (rules, length-decimal-le 20)

pub returns-clause-room : goal.returns-clause-room
returns-clause-room c =
    let short : length (decimal c.args.n) ≤ 20 = search (rules, length-decimal-le 20) in
    omega (arith, short, c.write_digits.ensures.start)
