-- What a user name or a password stands for, by whether its bytes are UTF-8.
use Rattle.std.proofs.Common.{◌≡◌, ◌∙◌, ap, sym, subst, ℕ, List, Bool, true, false, Err, refl}
use Rattle.std.specs.Prelude.{not}
use Rattle.std.specs.Str.{IsUtf8, is_utf8}
use Rattle.std.specs.declared.str.Utf8Error.{Utf8Error}
use Rattle.std.proofs.lemmas.Str.{IsUtf8-from_is_utf8, is_utf8-from_IsUtf8}
use Rattle.percent_encoding.specs.Percent.{percent_decode}
use Rattle.percent_encoding.specs.declared.DecodeError.TheVariants.{Utf8, OutOfMemory}
use Rattle.conn_result.specs.declared.error.ConnectionError.TheVariants.{InvalidConnectionUrl}
use Rattle.conn_result.specs.declared.error.UrlFault.TheVariants.{NotUtf8}
use Rattle.mysql_url.specs.Outcomes.{◌>>=◌, unless}
use Rattle.mysql_url.specs.Strings.{c_string, credential}

by_test : (text : List ℕ) (b : Bool) → is_utf8 (percent_decode text) ≡ b → credential text ≡ (unless (not b) (InvalidConnectionUrl NotUtf8) (percent_decode text) >>= c_string)
by_test text b e = ap (λ (t : Bool). unless (not t) (InvalidConnectionUrl NotUtf8) (percent_decode text) >>= c_string) e

pub credential_some : (text t : List ℕ) → t ≡ percent_decode text → IsUtf8 t → credential text ≡ c_string t
credential_some text t e h = by_test text true (is_utf8-from_IsUtf8 (percent_decode text) (subst IsUtf8 e h)) ∙ ap c_string (sym e)

not_text : (bs : List ℕ) (b : Bool) → is_utf8 bs ≡ b → ¬ (IsUtf8 bs) → b ≡ false
not_text bs true e h = absurd (h (IsUtf8-from_is_utf8 bs e))
not_text bs false e h = refl

pub credential_none : (text : List ℕ) → ¬ (IsUtf8 (percent_decode text)) → credential text ≡ Err (InvalidConnectionUrl NotUtf8)
credential_none text h = by_test text false (not_text (percent_decode text) (is_utf8 (percent_decode text)) refl h)

pub is_no_memory : {e : Utf8Error} → Utf8 e ≡ OutOfMemory → ⊥
is_no_memory h = absurd (cc)
