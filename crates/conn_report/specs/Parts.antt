-- Texts over one buffer of bytes.
use Rattle.std.specs.Prelude.{◌≡◌, ℕ, ◌+◌, ◌≤◌, true, List, length, take, drop, map}
use Rattle.std.specs.Str.{is_utf8}
use Rattle.conn_report.specs.declared.texts.Part.{Part}

-- the bytes of a part
abbrev pub part_text : List ℕ → Part → List ℕ
part_text buffer p = take p.len (drop p.start buffer)

-- the texts of parts
abbrev pub part_texts : List Part → List ℕ → List (List ℕ)
part_texts parts buffer = map (part_text buffer) parts

-- a part lies in the buffer, and is a text
pub record IsTextPart (buffer : List ℕ) (p : Part) : Type 0 where
  pub within : p.start + p.len ≤ length buffer
  pub utf8 : is_utf8 (part_text buffer p) ≡ true
