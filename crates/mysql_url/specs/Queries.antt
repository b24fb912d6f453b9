-- What the keys of a URL's query say.
use Rattle.std.specs.Prelude.{ℕ, Bool, false, ◌||◌, List, [], ◌∷◌, codes, Some, None, unwrap_or, if◌then◌else◌}
use Rattle.std.specs.Str.{bytes_eq}
use Rattle.std.specs.Str.Lossy.{utf8_lossy}
use Rattle.form_urlencoded.specs.Form.{raw_pairs, decode}
use Rattle.url.specs.Parts.{Parts}
use Rattle.mysql_url.specs.declared.mysql.connection.query.QueryKeys.{QueryKeys}

-- the text of a name or a value; bytes that are no UTF-8 become U+FFFD
abbrev pub lossy_text : List ℕ → List ℕ
lossy_text bytes = utf8_lossy (decode bytes)

-- an option of TLS has this name
abbrev pub is_tls_key : List ℕ → Bool
is_tls_key name =
    bytes_eq name (codes "ssl_ca") || bytes_eq name (codes "ssl_cert")
    || bytes_eq name (codes "ssl_key") || bytes_eq name (codes "ssl_mode")

-- there are no keys
abbrev pub no_keys : QueryKeys
no_keys = record { has_database = false; has_tls = false; socket = None }

-- one pair more; of several values of `unix_socket` the last counts
abbrev pub with_key : QueryKeys → List ℕ → List ℕ → QueryKeys
with_key keys name value = record {
  has_database = keys.has_database || bytes_eq name (codes "database");
  has_tls = keys.has_tls || is_tls_key name;
  socket = if bytes_eq name (codes "unix_socket") then Some value else keys.socket;
}

-- more pairs, in order
abbrev pub with_pairs : QueryKeys → List (List ℕ × List ℕ) → QueryKeys
with_pairs keys [] = keys
with_pairs keys (pair ∷ pairs) = with_pairs (with_key keys (lossy_text pair.0) (lossy_text pair.1)) pairs

-- the keys of a URL's query
abbrev pub keys_of : Parts → QueryKeys
keys_of url = with_pairs no_keys (raw_pairs (unwrap_or url.query []))
