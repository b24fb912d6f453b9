-- What is generated is a script.
use Rattle.std.proofs.Common.{◌≡◌, ℕ, zero, suc, ◌+◌, ◌*◌, ◌<◌, ◌≤◌, List, [], ◌∷◌, ◌++◌, length, Option, Some, None, Ok, refl, sym, ap, ◌∙◌, arith, length-append, append_assoc}
use Rattle.std.specs.Prelude.{codes, decimal}
use Rattle.conn_model.specs.declared.item.Dialect.{Dialect}
use Rattle.conn_model.specs.declared.item.Dialect.TheVariants.{Pg, Mysql, Sqlite}
use Rattle.conn_script.specs.Drafts.{empty_draft}
use Rattle.conn_script.specs.Grammar.{judged, lines_of, next, script_of}
use Rattle.conn_script.specs.Headers.{plain_header}
use Rattle.conn_script.specs.Words.{split_at}
use Rattle.conn_script.specs.declared.command.Script.{Script}
use Rattle.conn_script.proofs.Lines.{left_good, next_reads, script_small}
use Rattle.script_generator.specs.Generator.{dialect_name, front_lines, generated_script, seed_dialect, stanza_number, stanza_of, stanza_text, first_stanzas}
use Rattle.script_generator.specs.declared.stanza.Stanza.{Stanza}
use Rattle.script_generator.specs.declared.stanza.Stanza.TheVariants.{Insert, Begin, Commit, Rollback, Select, Update, Delete}
use Rattle.script_generator.proofs.Commands.{is_begin, is_block, is_commit, is_delete, is_end, is_fail, is_get, is_insert, is_put, is_rollback, is_select, is_update, short_number, text_is}
use Rattle.script_generator.proofs.Digits.{number_ends}
use Rattle.script_generator.proofs.Reading.{IsLeft, more_left, read_all, read_line, same_left}

-- the first line
abbrev header_line : Dialect → List ℕ
header_line dialect = codes "session " ++ dialect_name dialect ++ codes " 1 nop nocheck"

header_reads : (dialect : Dialect) → next 1 None (header_line dialect) ≡ Some (empty_draft (plain_header dialect))
header_reads Pg = next_reads 1 None (header_line Pg) (text_is (header_line Pg) refl)
header_reads Mysql = next_reads 1 None (header_line Mysql) (text_is (header_line Mysql) refl)
header_reads Sqlite = next_reads 1 None (header_line Sqlite) (text_is (header_line Sqlite) refl)

header_ends : (dialect : Dialect) (rest : List ℕ) → split_at 10 (front_lines dialect ++ rest) ≡ (header_line dialect, Some (codes "get\n" ++ rest))
header_ends Pg rest = refl
header_ends Mysql rest = refl
header_ends Sqlite rest = refl

header_left : (dialect : Dialect) (rest : List ℕ) → IsLeft (front_lines dialect ++ rest) (codes "get\n" ++ rest) 0 0
header_left dialect rest = record {
  number = 2;
  draft = empty_draft (plain_header dialect);
  open_blocks = refl;
  inside = refl;
  few = omega arith;
  same = left_good 1 None (empty_draft (plain_header dialect)) (front_lines dialect ++ rest) (header_line dialect) (codes "get\n" ++ rest) (sym (header_ends dialect rest)) (sym (header_reads dialect));
}

-- the first two lines are read
front_left : (dialect : Dialect) (rest : List ℕ) → IsLeft (front_lines dialect ++ rest) rest 0 1
front_left dialect rest = read_line (codes "get\n" ++ rest) rest 0 is_get refl (omega arith) (header_left dialect rest)

-- the line that ends behind a number
abbrev put_behind : List ℕ → List ℕ × Option (List ℕ) → List ℕ × Option (List ℕ)
put_behind front cut = (front ++ cut.0, cut.1)

numbered_end : (i : ℕ) (more rest : List ℕ) → i < 100000 → split_at 10 ((decimal i ++ 10 ∷ more) ++ rest) ≡ (decimal i, Some (more ++ rest))
numbered_end i more rest h = number_ends i more rest (omega arith)

-- the lines of a stanza are read
stanza_left : {bytes : List ℕ} (v : Stanza) (i most : ℕ) (rest : List ℕ) → i < 100000 → most + 3 ≤ 1048576 → IsLeft bytes (stanza_text v i ++ rest) 0 most → IsLeft bytes rest 0 (most + 3)
stanza_left Insert i most rest h room r =
    more_left (most + 1) (most + 3) (omega arith)
    (read_line (stanza_text Insert i ++ rest) rest most (is_insert i h) (ap (put_behind (codes "batch 0 INSERT ")) (numbered_end i [] rest h)) (omega (arith, room)) r)
stanza_left Begin i most rest h room r =
    more_left (most + 1) (most + 3) (omega arith) (read_line (codes "begin 0\n" ++ rest) rest most is_begin refl (omega (arith, room)) r)
stanza_left Commit i most rest h room r =
    more_left (most + 1) (most + 3) (omega arith) (read_line (codes "commit 0\n" ++ rest) rest most is_commit refl (omega (arith, room)) r)
stanza_left Rollback i most rest h room r =
    more_left (most + 1) (most + 3) (omega arith) (read_line (codes "rollback 0\n" ++ rest) rest most is_rollback refl (omega (arith, room)) r)
stanza_left Select i most rest h room r =
    more_left (most + 1) (most + 3) (omega arith)
    (read_line (stanza_text Select i ++ rest) rest most (is_select i h) (ap (put_behind (codes "batch 0 SELECT ")) (numbered_end i [] rest h)) (omega (arith, room)) r)
stanza_left Update i most rest h room r =
    let behind : List ℕ = codes "batch 0 UPDATE " ++ ((decimal i ++ codes "\nend 0\n") ++ rest) in
    let opened = read_line (stanza_text Update i ++ rest) behind most is_block refl (omega (arith, room)) r in
    let written = read_line behind (codes "end 0\n" ++ rest) (most + 1) (is_update i h) (ap (put_behind (codes "batch 0 UPDATE ")) (numbered_end i (codes "end 0\n") rest h)) (omega (arith, room)) opened in
    more_left (most + 1 + 1 + 1) (most + 3) (omega arith) (read_line (codes "end 0\n" ++ rest) rest (most + 1 + 1) is_end refl (omega (arith, room)) written)
stanza_left Delete i most rest h room r =
    let behind : List ℕ = codes "batch 0 DELETE " ++ ((decimal i ++ codes "\nfail 0\n") ++ rest) in
    let opened = read_line (stanza_text Delete i ++ rest) behind most is_block refl (omega (arith, room)) r in
    let written = read_line behind (codes "fail 0\n" ++ rest) (most + 1) (is_delete i h) (ap (put_behind (codes "batch 0 DELETE ")) (numbered_end i (codes "fail 0\n") rest h)) (omega (arith, room)) opened in
    more_left (most + 1 + 1 + 1) (most + 3) (omega arith) (read_line (codes "fail 0\n" ++ rest) rest (most + 1 + 1) is_fail refl (omega (arith, room)) written)

-- and those of all stanzas
stanzas_left : {bytes : List ℕ} (seed count most : ℕ) (rest : List ℕ) → count ≤ 100000 → most ≤ 100000 → IsLeft bytes (first_stanzas seed count ++ rest) 0 most → IsLeft bytes rest 0 (most + 3 * count)
stanzas_left seed zero most rest h room r = more_left most (most + 3 * zero) (omega arith) r
stanzas_left seed (suc i) most rest h room r =
    let v : Stanza = stanza_of (stanza_number seed i) in
    let last : List ℕ = stanza_text v i in
    let others = stanzas_left seed i most (last ++ rest) (omega arith) room (same_left ((first_stanzas seed i ++ last) ++ rest) (first_stanzas seed i ++ (last ++ rest)) (append_assoc (first_stanzas seed i) last rest) r) in
    more_left (most + 3 * i + 3) (most + 3 * suc i) (omega arith) (stanza_left v i (most + 3 * i) rest (omega arith) (omega arith) others)

-- a script has few bytes
length-between : (front middle last : List ℕ) → length ((front ++ middle) ++ last) ≡ length front + length middle + length last
length-between front middle last = omega (arith, length-append (front ++ middle) last, length-append front middle)

front_short : (dialect : Dialect) → length (front_lines dialect) ≤ 33
front_short Pg = omega arith
front_short Mysql = omega arith
front_short Sqlite = omega arith

stanza_short : (v : Stanza) (i : ℕ) → i < 100000 → length (stanza_text v i) ≤ 48
stanza_short Insert i h = omega (arith, short_number i h, length-between (codes "batch 0 INSERT ") (decimal i) (codes "\n"))
stanza_short Begin i h = omega arith
stanza_short Commit i h = omega arith
stanza_short Rollback i h = omega arith
stanza_short Select i h = omega (arith, short_number i h, length-between (codes "batch 0 SELECT ") (decimal i) (codes "\n"))
stanza_short Update i h = omega (arith, short_number i h, length-between (codes "transaction 0 plain\nbatch 0 UPDATE ") (decimal i) (codes "\nend 0\n"))
stanza_short Delete i h = omega (arith, short_number i h, length-between (codes "transaction 0 plain\nbatch 0 DELETE ") (decimal i) (codes "\nfail 0\n"))

stanzas_short : (seed count : ℕ) → count ≤ 100000 → length (first_stanzas seed count) ≤ 48 * count
stanzas_short seed zero h = omega arith
stanzas_short seed (suc i) h =
    let last : List ℕ = stanza_text (stanza_of (stanza_number seed i)) i in
    omega (arith, stanzas_short seed i (omega arith), stanza_short (stanza_of (stanza_number seed i)) i (omega arith), length-append (first_stanzas seed i) last)

script_short : (seed count : ℕ) → count ≤ 100000 → length (generated_script seed count) ≤ 16777216
script_short seed count h =
    omega (arith, h, front_short (seed_dialect seed), stanzas_short seed count h, length-between (front_lines (seed_dialect seed)) (first_stanzas seed count) (codes "put 0\n"))

pub is_a_script : (seed count : ℕ) → count ≤ 100000 → (script : Script) × (script_of (generated_script seed count) ≡ Ok script)
is_a_script seed count h =
    let front : List ℕ = front_lines (seed_dialect seed) in
    let rest : List ℕ = first_stanzas seed count ++ codes "put 0\n" in
    let same : generated_script seed count ≡ front ++ rest = append_assoc front (first_stanzas seed count) (codes "put 0\n") in
    let asked = stanzas_left seed count 1 (codes "put 0\n") h (omega arith) (front_left (seed_dialect seed) rest) in
    let read = read_all (front ++ rest) (read_line (codes "put 0\n") [] (1 + 3 * count) is_put refl (omega (arith, h)) asked) in
    (read.0, script_small (generated_script seed count) (script_short seed count h) ∙ ap (λ (bs : List ℕ). judged 1 None (lines_of bs)) same ∙ read.1)
