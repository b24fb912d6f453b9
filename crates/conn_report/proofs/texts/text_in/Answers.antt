use Rattle.std.proofs.Common.{rules, List, ℕ, Result, Ok, Err}
use Rattle.std.specs.Prelude.{MatchResult}
use Rattle.std.specs.Result.{IsOk}
use Rattle.std.specs.Str.{IsUtf8}
use Rattle.std.proofs.lemmas.Str.{IsUtf8-from_is_utf8}
use Rattle.conn_report.proofs.texts.text_in.Goals as goal

-- what is UTF-8 is read
read_whole : {T E : Type 0} (r : Result T E) (good : T → Type 0) (bad : E → Type 0) (bytes : List ℕ) → MatchResult r good (λ e. ¬ (IsUtf8 bytes) × bad e) → IsUtf8 bytes → IsOk r
read_whole (Ok text) good bad bytes cases utf8 = search rules
read_whole (Err e) good bad bytes cases utf8 = absurd (cases.0 utf8)

pub unwrap-requires : goal.unwrap-requires
unwrap-requires c = read_whole c.from_utf8.result _ _ c.bytes_in.result.now c.from_utf8.ensures.cases (rw c.bytes_in.ensures (IsUtf8-from_is_utf8 _ c.requires.utf8))
