use Rattle.std.proofs.Common.{◌≡◌, ◌∙◌, ◌≤◌, ap, sym, arith, length, take, Some}
use Rattle.std.proofs.lemmas.List.{take_all}
use Rattle.conn_session.proofs.Kept.{counted, one_more, is_there}
use Rattle.conn_session.proofs.transcript.copy_writes.Goals as goal

pub write_of-requires : goal.write_of-requires
write_of-requires g c = is_there _ c.args.count c.loop-place.place c.requires c.loop-place-test.true

pub loop-place-preserved : goal.loop-place-preserved
loop-place-preserved g c = λ writes e. c.in_ok-push.ensures ∙ one_more _ writes c.loop-place.texts c.loop-place.place c.write_of.result.now e c.write_of.ensures (c.loop-place.invariant writes e)

pub returns : goal.returns
returns g c =
    let read = counted _ c.args.count c.requires in
    let whole : c.loop-place.texts ≡ take c.loop-place.place read.0 = c.loop-place.invariant read.0 read.1 in
    let long : length read.0 ≤ c.loop-place.place = omega (arith, read.2, c.loop-place-test.false) in
    read.1 ∙ ap Some (sym (whole ∙ take_all c.loop-place.place read.0 long))
