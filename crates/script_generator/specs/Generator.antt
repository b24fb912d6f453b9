-- The script that a seed generates: stanzas of lines, each chosen by a number.
use Rattle.std.specs.Prelude.{ℕ, zero, suc, ◌+◌, ◌*◌, ◌/◌, ◌%◌, ◌^◌, ◌==◌, ◌||◌, List, [], ◌++◌, codes, decimal, if◌then◌else◌}
use Rattle.conn_model.specs.declared.item.Dialect.{Dialect}
use Rattle.conn_model.specs.declared.item.Dialect.TheVariants.{Pg, Mysql, Sqlite}
use Rattle.script_generator.specs.declared.stanza.Stanza.{Stanza}
use Rattle.script_generator.specs.declared.stanza.Stanza.TheVariants.{Insert, Begin, Commit, Rollback, Select, Update, Delete}

-- the number behind a number, both of 64 bits
abbrev pub next_number : ℕ → ℕ
next_number x = (x * 6364136223846793005 + 1442695040888963407) % 2 ^ 64

-- the number of stanza i: the one behind the seed, and then each behind that of the stanza before
abbrev pub stanza_number : ℕ → ℕ → ℕ
stanza_number seed zero = next_number seed
stanza_number seed (suc i) = next_number (stanza_number seed i)

-- the stanza of a choice among eight
abbrev pub stanza_by : ℕ → Stanza
stanza_by choice =
    if choice == 0 || choice == 1 then Insert else
    if choice == 2 then Begin else
    if choice == 3 then Commit else
    if choice == 4 then Rollback else
    if choice == 5 then Select else
    if choice == 6 then Update else Delete

-- the stanza that a number chooses, by three of its bits; 33 bits are below them
abbrev pub stanza_of : ℕ → Stanza
stanza_of x = stanza_by (x / 2 ^ 33 % 8)

-- the lines of a stanza, which is the one of number i
abbrev pub stanza_text : Stanza → ℕ → List ℕ
stanza_text Insert i = codes "batch 0 INSERT " ++ decimal i ++ codes "\n"
stanza_text Begin i = codes "begin 0\n"
stanza_text Commit i = codes "commit 0\n"
stanza_text Rollback i = codes "rollback 0\n"
stanza_text Select i = codes "batch 0 SELECT " ++ decimal i ++ codes "\n"
stanza_text Update i =
    codes "transaction 0 plain\nbatch 0 UPDATE " ++ decimal i ++ codes "\nend 0\n"
stanza_text Delete i =
    codes "transaction 0 plain\nbatch 0 DELETE " ++ decimal i ++ codes "\nfail 0\n"

-- the lines of so many stanzas, which are numbered from 0
abbrev pub first_stanzas : ℕ → ℕ → List ℕ
first_stanzas seed zero = []
first_stanzas seed (suc i) =
    first_stanzas seed i ++ stanza_text (stanza_of (stanza_number seed i)) i

-- the dialect by what a seed leaves when it is divided by three
abbrev pub dialect_by : ℕ → Dialect
dialect_by left = if left == 0 then Pg else if left == 1 then Mysql else Sqlite

-- the dialect of a seed
abbrev pub seed_dialect : ℕ → Dialect
seed_dialect seed = dialect_by (seed % 3)

-- the name of a dialect in a script
abbrev pub dialect_name : Dialect → List ℕ
dialect_name Pg = codes "pg"
dialect_name Mysql = codes "mysql"
dialect_name Sqlite = codes "sqlite"

-- the first two lines, behind which connection 0 is out
abbrev pub front_lines : Dialect → List ℕ
front_lines dialect = codes "session " ++ dialect_name dialect ++ codes " 1 nop nocheck\nget\n"

-- the bytes of the script of a seed with so many stanzas
abbrev pub generated_script : ℕ → ℕ → List ℕ
generated_script seed count =
    front_lines (seed_dialect seed) ++ first_stanzas seed count ++ codes "put 0\n"
