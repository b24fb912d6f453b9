-- The bytes of a summary: how much of a session was done.
use Rattle.std.specs.Prelude.{ℕ, ◌-◌, Bool, true, false, List, ◌++◌, codes, count_by, decimal, length, sum_by, Option, Some, None}
use Rattle.conn_report.specs.declared.entry.Entry.{Entry}
use Rattle.conn_report.specs.declared.entry.Reply.{Reply}
use Rattle.conn_report.specs.declared.entry.Reply.TheVariants as replies

-- what was asked was done
abbrev pub is_done : Reply → Bool
is_done replies.Ok = true
is_done replies.Kept = true
is_done replies.Closed = true
is_done (replies.Count n) = true
is_done (replies.Rows rows) = true
is_done (replies.OneRow row) = true
is_done replies.NoRow = true
is_done _ = false

-- how many writes are told of a server
abbrev pub writes_told : Option (List (List ℕ)) → ℕ
writes_told None = 0
writes_told (Some writes) = length writes

-- a count behind its name
abbrev pub count_text : List ℕ → ℕ → List ℕ
count_text name count = name ++ decimal count

-- the summary: how many entries, of them how many of what was done and how many others, how many
-- servers, and how many writes they kept
abbrev pub summary : List Entry → List (Option (List (List ℕ))) → List ℕ
summary entries servers =
    let done = count_by (λ (e : Entry). is_done e.reply) entries in
    count_text (codes "entries ") (length entries) ++ count_text (codes " ok ") done
    ++ count_text (codes " refused ") (length entries - done)
    ++ count_text (codes " servers ") (length servers)
    ++ count_text (codes " writes ") (sum_by writes_told servers) ++ codes "\n"
