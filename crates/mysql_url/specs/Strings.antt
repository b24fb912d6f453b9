-- Texts for a library of C, where a text ends at its first NUL.
use Rattle.std.specs.Prelude.{ℕ, ◌==◌, not, List, Option, Some, None, Result, Ok, Err, if◌then◌else◌}
use Rattle.std.specs.List.{position}
use Rattle.std.specs.Str.{is_utf8}
use Rattle.percent_encoding.specs.Percent.{percent_decode}
use Rattle.url.specs.Input.{is_empty}
use Rattle.conn_result.specs.declared.error.ConnectionError.{ConnectionError}
use Rattle.conn_result.specs.declared.error.ConnectionError.TheVariants.{InvalidCString, InvalidConnectionUrl}
use Rattle.conn_result.specs.declared.error.UrlFault.TheVariants.{NotUtf8}
use Rattle.mysql_url.specs.Outcomes.{◌>>=◌, unless}

-- the text, unless it has a NUL at this place
abbrev pub without_nul : List ℕ → Option ℕ → Result (List ℕ) ConnectionError
without_nul text None = Ok text
without_nul text (Some place) = Err (InvalidCString place)

-- the text, unless it has a NUL; the fault is that of the first one
abbrev pub c_string : List ℕ → Result (List ℕ) ConnectionError
c_string text = without_nul text (position (λ b. b == 0) text)

-- the same of a text that may be missing
abbrev pub c_string_if : Option (List ℕ) → Result (Option (List ℕ)) ConnectionError
c_string_if None = Ok None
c_string_if (Some text) = c_string text >>= λ t. Ok (Some t)

-- the bytes, unless they are no UTF-8
abbrev pub utf8_text : List ℕ → Result (List ℕ) ConnectionError
utf8_text bytes = unless (not (is_utf8 bytes)) (InvalidConnectionUrl NotUtf8) bytes

-- what a user name or a password stands for
abbrev pub credential : List ℕ → Result (List ℕ) ConnectionError
credential text = utf8_text (percent_decode text) >>= c_string

-- the same of a password, where an empty one is none
abbrev pub password_of : List ℕ → Result (Option (List ℕ)) ConnectionError
password_of text = if is_empty text then Ok None else (credential text >>= λ t. Ok (Some t))
