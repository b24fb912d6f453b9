use Rattle.std.proofs.Common.{rules, ◌≡◌, ◌+◌, ◌-◌, ℕ, List, Result, Ok, Err, take, drop, subst, arith}
use Rattle.std.specs.Prelude.{MatchResult}
use Rattle.std.specs.Result.{IsOk}
use Rattle.std.specs.Str.{IsUtf8}
use Rattle.std.proofs.lemmas.Str.{IsUtf8-from_is_utf8}
use Rattle.conn_server.specs.BindLists.{IsTextAt}
use Rattle.conn_server.specs.Spans.{bytes_at}
use Rattle.conn_server.proofs.binds.copy_value.Goals as goal

-- what is UTF-8 is read
read_whole : {T E : Type 0} (r : Result T E) (good : T → Type 0) (bad : E → Type 0) (bytes : List ℕ) → MatchResult r good (λ e. ¬ (IsUtf8 bytes) × bad e) → IsUtf8 bytes → IsOk r
read_whole (Ok text) good bad bytes cases utf8 = search rules
read_whole (Err e) good bad bytes cases utf8 = absurd (cases.0 utf8)

pub unwrap-text-requires : goal.unwrap-text-requires
unwrap-text-requires c =
    let s = c.in-Text.span in
    let stands : IsTextAt c.args.buffer.now s = rw c.in-Text.is at c.requires in
    let size : s.len ≡ s.start + s.len - s.start = omega arith in
    read_whole c.from_utf8.result _ _ _ c.from_utf8.ensures.cases (subst (λ (n : ℕ). IsUtf8 (take n (drop s.start c.args.buffer.now))) size (IsUtf8-from_is_utf8 (bytes_at c.args.buffer.now s) stands.utf8))
