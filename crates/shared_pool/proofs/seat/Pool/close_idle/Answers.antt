use Rattle.std.proofs.Common.{◌∷◌, [], length, ap, ◌∙◌, arith, length-append}
use Rattle.crossbeam_queue.specs.Passes.{view}
use Rattle.shared_pool.specs.declared.tally.Tally.{Tally}
use Rattle.shared_pool.proofs.Emptying.{empties_more, room_left}
use Rattle.shared_pool.proofs.seat.Pool.close_idle.Goals as goal

pub close_kept-requires : goal.close_kept-requires
close_kept-requires g c = record {
  room = room_left g.M.ManageConnection.closes g.C.SimpleConnection.view g.M.ManageConnection.room c.loop-taken._taken g.row.MAX _ _ _ _ c.loop-taken.invariant.5 c.loop-taken-test.true c.requires.room;
}

pub loop-taken-preserved : goal.loop-taken-preserved
loop-taken-preserved g c =
    let i = c.loop-taken.invariant in
    let e = c.drain-slot.ensures in
    let k = c.close_kept.ensures in
    let w : Tally = view c.loop-taken.seat.pass in
    let more = ap (λ (v : Tally). length v.held) e.tally in (
      e.own,
      omega (arith, more, length-append w.held (c.drain-slot.result.number ∷ []), i.1),
      ap (λ (v : Tally). v.given) e.tally ∙ i.2,
      e.spare ∙ i.3,
      e.looks ∙ i.4,
      empties_more g.M.ManageConnection.closes g.C.SimpleConnection.view g.M.ManageConnection.room c.loop-taken._taken _ _ _ _ _ _ c.drain-slot.result i.5 e.tally k.closes k.room,
      k.refusals ∙ i.6,
      k.lent ∙ i.7,
    )
