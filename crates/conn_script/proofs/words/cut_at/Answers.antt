use Rattle.std.proofs.Common.{sym, arith, ◌<◌, ◌≡◌, get_or, length}
use Rattle.std.proofs.lemmas.Str.{lead_after_ascii}
use Rattle.conn_script.proofs.Splits.{split_at-absent, cut_at, from_start}
use Rattle.conn_script.proofs.words.cut_at.Goals as goal

pub range_from-requires : goal.range_from-requires
range_from-requires c =
    let here : get_or c.args.text.now c.loop-i.i 0 ≡ c.args.byte = rw c.as_bytes-bytes.ensures.value at c.if-b-byte.true in
    let ascii : get_or c.args.text.now c.loop-i.i 0 < 128 = omega (arith, here) in
    let within : c.loop-i.i < length c.args.text.now = rw c.as_bytes-bytes.ensures.value at c.loop-i-test.true in
    λ past. (omega (arith, within), lead_after_ascii c.args.text.now c.loop-i.i c.utf8.text ascii)

pub returns-then-b-byte : goal.returns-then-b-byte
returns-then-b-byte c = rw (c.range.ensures.value, c.range_from.ensures.value, from_start c.args.text.now c.loop-i.i) (sym (cut_at c.args.byte c.loop-i.i c.args.text.now (rw c.as_bytes-bytes.ensures.value at c.loop-i-test.true) (rw c.as_bytes-bytes.ensures.value at c.if-b-byte.true) (rw c.as_bytes-bytes.ensures.value at c.loop-i.invariant)))

pub returns : goal.returns
returns c = sym (split_at-absent c.args.byte c.args.text.now (λ k lt. rw c.as_bytes-bytes.ensures.value at (c.loop-i.invariant k (omega (arith, c.loop-i-test.false)))))
