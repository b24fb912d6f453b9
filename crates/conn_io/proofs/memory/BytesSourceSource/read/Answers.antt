use Rattle.std.proofs.Common.{arith, length, drop, ◌+◌, ◌-◌, ◌≤◌, ◌≡◌, sym, ap, ◌∙◌, refl}
use Rattle.std.proofs.lemmas.List.{length-take-le}
use Rattle.conn_io.specs.Memory.{Feed}
use Rattle.conn_io.proofs.Joins.{read_from}
use Rattle.conn_io.proofs.memory.BytesSourceSource.read.Goals as goal

pub returns-clause-takes : goal.returns-clause-takes
returns-clause-takes c =
    let n = c.min-n.result in
    let at = c.self.inside.at in
    let same : at + n - at ≡ n = omega arith in
    let within : n ≤ length c.args.into.now = omega (arith, c.min.ensures, c.min-n.ensures) in
    sym (ap (λ (f : Feed). f.left) c.self.view_is) ∙ read_from n at c.self.inside.bytes.items c.copy_from_slice.new.self (drop n c.args.into.now)
    (c.copy_from_slice.ensures.after ∙ rw (c.deref.ensures.value, same) refl)
    (c.copy_from_slice.ensures.len ∙ length-take-le n c.args.into.now within)
