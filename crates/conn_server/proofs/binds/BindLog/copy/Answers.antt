use Rattle.std.proofs.Common.{◌≡◌, ◌+◌, ◌-◌, ℕ, arith, ap}
use Rattle.conn_server.specs.BindLists.{BindList}
use Rattle.conn_server.proofs.Binding.{part_copied}
use Rattle.conn_server.proofs.binds.BindLog.copy.Goals as goal

pub returns : goal.returns
returns c =
    let s = c.self.inside in
    let n : ℕ = c.args.from + c.args.count - c.args.from in
    let size : n ≡ c.args.count = omega arith in
    part_copied s.buffer.items c.deref.result.now s.records.items c.deref-2.result.now c.args.self.now.binds c.args.from c.args.count n c.copy_binds.result size (ap (λ (b : BindList). b.binds) c.self.view_is) c.deref.ensures.value c.deref-2.ensures.value c.copy_binds.ensures
