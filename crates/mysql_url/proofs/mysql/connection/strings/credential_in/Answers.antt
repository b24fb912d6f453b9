use Rattle.std.proofs.Common.{◌≡◌, ◌∙◌, ap, sym, subst, inr}
use Rattle.std.specs.Str.{IsUtf8}
use Rattle.std.specs.Cow.{cow_str_bytes}
use Rattle.percent_encoding.specs.Percent.{percent_decode}
use Rattle.mysql_url.proofs.Credentials.{credential_some, credential_none, is_no_memory}
use Rattle.mysql_url.proofs.mysql.connection.strings.credential_in.Goals as goal

pub returns-in-Ok : goal.returns-in-Ok
returns-in-Ok c =
    let is : cow_str_bytes c.in-Ok.text ≡ percent_decode c.args.text.now = c.in-Ok.ensures.value ∙ c.percent_decode.ensures.bytes ∙ ap percent_decode c.as_bytes.ensures.value in
    let utf8 : IsUtf8 (cow_str_bytes c.in-Ok.text) = subst IsUtf8 (sym c.in-Ok.ensures.value) c.in-Ok.ensures.ok_only_if_utf8 in
    rw (credential_some c.args.text.now (cow_str_bytes c.in-Ok.text) is utf8, ← c.as_str.ensures.value) c.copy_for_c.ensures

pub returns-in-Err-Utf8 : goal.returns-in-Err-Utf8
returns-in-Err-Utf8 c =
    let is = c.percent_decode.ensures.bytes ∙ ap percent_decode c.as_bytes.ensures.value in
    inr (credential_none c.args.text.now (λ h. is_no_memory (sym c.in-Err-Utf8.field-0-is ∙ c.in-Err-Utf8.ensures.utf8 (subst IsUtf8 (sym is) h))))
