-- The flags of MySQL's protocol by their names.
use Rattle.std.specs.Prelude.{ℕ, ◌*◌, List, [], ◌∷◌, codes}

-- their names, that of the lowest bit first
abbrev pub capability_names : List (List ℕ)
capability_names =
    codes "CLIENT_LONG_PASSWORD"
    ∷ codes "CLIENT_FOUND_ROWS"
    ∷ codes "CLIENT_LONG_FLAG"
    ∷ codes "CLIENT_CONNECT_WITH_DB"
    ∷ codes "CLIENT_NO_SCHEMA"
    ∷ codes "CLIENT_COMPRESS"
    ∷ codes "CLIENT_ODBC"
    ∷ codes "CLIENT_LOCAL_FILES"
    ∷ codes "CLIENT_IGNORE_SPACE"
    ∷ codes "CLIENT_PROTOCOL_41"
    ∷ codes "CLIENT_INTERACTIVE"
    ∷ codes "CLIENT_SSL"
    ∷ codes "CLIENT_IGNORE_SIGPIPE"
    ∷ codes "CLIENT_TRANSACTIONS"
    ∷ codes "CLIENT_RESERVED"
    ∷ codes "CLIENT_SECURE_CONNECTION"
    ∷ codes "CLIENT_MULTI_STATEMENTS"
    ∷ codes "CLIENT_MULTI_RESULTS"
    ∷ codes "CLIENT_PS_MULTI_RESULTS"
    ∷ codes "CLIENT_PLUGIN_AUTH"
    ∷ codes "CLIENT_CONNECT_ATTRS"
    ∷ codes "CLIENT_PLUGIN_AUTH_LENENC_CLIENT_DATA"
    ∷ codes "CLIENT_CAN_HANDLE_EXPIRED_PASSWORDS"
    ∷ codes "CLIENT_SESSION_TRACK"
    ∷ codes "CLIENT_DEPRECATE_EOF"
    ∷ []

-- each name with a bit, the first with this one
abbrev pub with_bits : ℕ → List (List ℕ) → List (List ℕ × ℕ)
with_bits bit [] = []
with_bits bit (name ∷ names) = (name, bit) ∷ with_bits (2 * bit) names

-- each flag with its bit
abbrev pub capability_table : List (List ℕ × ℕ)
capability_table = with_bits 1 capability_names
