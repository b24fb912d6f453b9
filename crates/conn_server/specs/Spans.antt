-- Texts and bytes in a buffer.
use Rattle.std.specs.Prelude.{◌≡◌, ℕ, ◌+◌, ◌≤◌, true, List, length, take, drop}
use Rattle.std.specs.Str.{is_utf8}
use Rattle.conn_server.specs.declared.spans.Span.{Span}

-- the bytes at a place
abbrev pub bytes_at : List ℕ → Span → List ℕ
bytes_at buffer s = take s.len (drop s.start buffer)

-- the place lies in the buffer
abbrev pub IsSpan : List ℕ → Span → Type 0
IsSpan buffer s = s.start + s.len ≤ length buffer

-- a text stands there, as does one before it
pub record IsTextSpan (buffer : List ℕ) (s : Span) : Type 0 where
  pub within : IsSpan buffer s
  pub before : is_utf8 (take s.start buffer) ≡ true
  pub utf8 : is_utf8 (bytes_at buffer s) ≡ true
