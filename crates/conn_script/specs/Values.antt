-- Values as scripts write them.
use Rattle.std.specs.Prelude.{ℕ, zero, suc, ◌&&◌, ◌||◌, Bool, nat_le, nat_lt, List, [], ◌∷◌, length, Option, Some, None, ℤ, pos, negsuc, codes, if◌then◌else◌}
use Rattle.std.specs.List.{list_all}
use Rattle.std.specs.Option.{option_map}
use Rattle.std.specs.Result.{result_ok}
use Rattle.std.specs.Str.{bytes_eq}
use Rattle.hex.specs.Hex.{decode_of}
use Rattle.conn_model.specs.Numbers.{number}
use Rattle.conn_model.specs.declared.value.Value.{Value}
use Rattle.conn_model.specs.declared.value.Value.TheVariants.{Null, Int, Text, Bytes}
use Rattle.conn_script.specs.Options.{◌>>=◌, guard, readings}
use Rattle.conn_script.specs.Words.{pieces, split_at}

-- the number that is so far below zero, where it has 64 bits
abbrev pub below_zero : ℕ → Option ℤ
below_zero zero = None
below_zero (suc n) = guard (nat_lt n 9223372036854775808) (negsuc n)

-- the number that is so far above zero, where it has 64 bits
abbrev pub not_negative : ℕ → Option ℤ
not_negative n = guard (nat_lt n 9223372036854775808) (pos n)

-- the number that is written so, by what stands before and behind a minus: none but one below zero
-- has a minus
abbrev pub integer_by : List ℕ → Option (List ℕ) → Option ℤ
integer_by digits None = number 18446744073709551616 digits >>= not_negative
integer_by [] (Some digits) = number 18446744073709551616 digits >>= below_zero
integer_by (b ∷ bs) (Some digits) = None

-- the number of 64 bits that is written so
abbrev pub integer_named : List ℕ → Option ℤ
integer_named bs = integer_by (split_at 45 bs).0 (split_at 45 bs).1

-- a character that is shown, and no space
abbrev pub is_shown : ℕ → Bool
is_shown b = nat_lt 32 b && nat_lt b 127

-- a text of shown characters
abbrev pub text_named : List ℕ → Option Value
text_named bs = guard (list_all is_shown bs) (Text bs)

-- no upper case letter
abbrev pub is_no_capital : ℕ → Bool
is_no_capital b = nat_lt b 65 || nat_lt 90 b

-- the bytes that two hexadecimal digits each write
abbrev pub hex_bytes : List ℕ → Option Value
hex_bytes digits = option_map Bytes (result_ok (decode_of digits))

-- the bytes that digits in lower case write
abbrev pub bytes_named : List ℕ → Option Value
bytes_named bs = if list_all is_no_capital bs then hex_bytes bs else None

-- the value that is written so, by what stands before and behind a colon
abbrev pub value_by : List ℕ → Option (List ℕ) → Option Value
value_by kind None = guard (bytes_eq kind (codes "null")) Null
value_by kind (Some content) =
    if bytes_eq kind (codes "int") then option_map Int (integer_named content) else
    if bytes_eq kind (codes "text") then text_named content else
    if bytes_eq kind (codes "bytes") then bytes_named content else None

-- the value that is written so
abbrev pub value_named : List ℕ → Option Value
value_named bs = value_by (split_at 58 bs).0 (split_at 58 bs).1

-- values with commas between them
abbrev pub value_series : List ℕ → Option (List Value)
value_series bs = readings value_named (pieces 44 bs)

-- one to 16 values
abbrev pub row_values : List ℕ → Option (List Value)
row_values bs = value_series bs >>= λ values. guard (nat_le (length values) 16) values
