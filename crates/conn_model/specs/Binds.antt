-- Which value a bind of each type may have.
use Rattle.std.specs.Prelude.{ℕ, ℤ, pos, negsuc, nat_lt, Bool, true, false}
use Rattle.conn_model.specs.declared.value.Bind.{Bind}
use Rattle.conn_model.specs.declared.value.BindType.{BindType}
use Rattle.conn_model.specs.declared.value.BindType.TheVariants as types
use Rattle.conn_model.specs.declared.value.Value.{Value}
use Rattle.conn_model.specs.declared.value.Value.TheVariants.{Null, Int, Text, Bytes}

-- a number below this one, and no less than its negative
abbrev pub is_within : ℕ → ℤ → Bool
is_within limit (pos n) = nat_lt n limit
is_within limit (negsuc n) = nat_lt n limit

-- 0 or 1
abbrev pub is_bit : ℤ → Bool
is_bit (pos n) = nat_lt n 2
is_bit (negsuc n) = false

-- the value is one of the type; there is no value for every type
abbrev pub is_of_type : BindType → Value → Bool
is_of_type kind Null = true
is_of_type types.SmallInt (Int i) = is_within 32768 i
is_of_type types.Integer (Int i) = is_within 2147483648 i
is_of_type types.BigInt (Int i) = true
is_of_type types.Bool (Int i) = is_bit i
is_of_type types.Text (Text t) = true
is_of_type types.Binary (Bytes b) = true
is_of_type kind value = false

-- the value of a bind is one of its type
abbrev pub bind_fits : Bind → Bool
bind_fits b = is_of_type b.kind b.value
