-- The grammar: what a line may be after the lines before it, and what a list of bytes stands for.
use Rattle.std.specs.Prelude.{ℕ, ◌+◌, ◌≡◌, ◌==◌, nat_lt, List, [], ◌∷◌, length, Option, Some, None, Result, Ok, Err, is_none, if◌then◌else◌, codes}
use Rattle.std.specs.Option.{option_map}
use Rattle.std.specs.Str.{bytes_eq, is_utf8}
use Rattle.conn_model.specs.Numbers.{number}
use Rattle.conn_model.specs.declared.cache.CacheSize.{CacheSize}
use Rattle.conn_model.specs.declared.cache.CacheSize.TheVariants.{Unbounded, Disabled}
pub use Rattle.conn_script.specs.Options.{◌>>=◌, guard}
use Rattle.conn_script.specs.Words.{split_at, pieces, is_statement}
use Rattle.conn_script.specs.Spelling.{word_named}
use Rattle.conn_script.specs.BlockForms.{block_named}
use Rattle.conn_script.specs.Fields.{url_of}
use Rattle.conn_script.specs.Headers.{header_of}
use Rattle.conn_script.specs.Plans.{query_row_of, refused_attempt_of, refused_of, refused_row_of}
use Rattle.conn_script.specs.Queries.{declared_of}
use Rattle.conn_script.specs.Drafts.{Draft, empty_draft, with_command, with_query, with_refused, with_refused_attempt, with_refused_row, with_row, with_url, if_closable}
use Rattle.conn_script.specs.declared.command.Word.{Word}
use Rattle.conn_script.specs.declared.command.Word.TheVariants as words
use Rattle.conn_script.specs.declared.command.Act.{Act}
use Rattle.conn_script.specs.declared.command.Act.TheVariants as acts
use Rattle.conn_script.specs.declared.command.QueryCall.{QueryCall}
use Rattle.conn_script.specs.declared.command.QueryCall.TheVariants.{Exec, Load, Each, One, Optional}
use Rattle.conn_script.specs.declared.command.Script.{Script}
use Rattle.conn_script.specs.declared.command.SessionError.{SessionError}
use Rattle.conn_script.specs.declared.command.SessionError.TheVariants.{BadScript, OutOfMemory}

-- a connection alone
abbrev pub connection_alone : Option (List ℕ) → Option ℕ
connection_alone rest = do
  text ← rest
  number 4294967296 text

-- a connection and a query
abbrev pub query_call : QueryCall → Option (List ℕ) → Option Act
query_call call rest = do
  text ← rest
  c ← number 4294967296 (split_at 32 text).0
  query ← (split_at 32 text).1
  q ← number 4294967296 query
  Some (acts.Query call c q)

-- the size that is named so
abbrev pub size_named : List ℕ → Option CacheSize
size_named bs =
    if bytes_eq bs (codes "unbounded") then Some Unbounded else
    if bytes_eq bs (codes "disabled") then Some Disabled else None

-- what a command asks for, by its word and what follows it behind a space
abbrev pub act_from : Word → Option (List ℕ) → Option Act
act_from words.Get rest = guard (is_none rest) acts.Get
act_from words.Put rest = option_map acts.Put (connection_alone rest)
act_from words.Batch rest = do
  text ← rest
  c ← number 4294967296 (split_at 32 text).0
  statement ← (split_at 32 text).1
  guard (is_statement statement) (acts.Batch c statement)
act_from words.Begin rest = option_map acts.Begin (connection_alone rest)
act_from words.Commit rest = option_map acts.Commit (connection_alone rest)
act_from words.Rollback rest = option_map acts.Rollback (connection_alone rest)
act_from words.TestBegin rest = option_map acts.TestBegin (connection_alone rest)
act_from words.Exec rest = query_call Exec rest
act_from words.Load rest = query_call Load rest
act_from words.Each rest = query_call Each rest
act_from words.One rest = query_call One rest
act_from words.Optional rest = query_call Optional rest
act_from words.CacheSize rest = do
  text ← rest
  c ← number 4294967296 (split_at 32 text).0
  size ← (split_at 32 text).1 >>= size_named
  Some (acts.Cache c size)
act_from words.Ping rest = option_map acts.Ping (connection_alone rest)
act_from words.Transaction rest = do
  text ← rest
  c ← number 4294967296 (split_at 32 text).0
  kind ← (split_at 32 text).1 >>= block_named
  Some (acts.Block c kind)
act_from words.End rest = option_map acts.End (connection_alone rest)
act_from words.Fail rest = option_map acts.Fail (connection_alone rest)

-- what the command of this first word asks for
abbrev pub act_of : List ℕ → Option (List ℕ) → Option Act
act_of first rest = do
  word ← word_named first
  act_from word rest

-- the draft with the URL that a line gives, by what follows its word
abbrev pub with_given_url : Draft → Option (List ℕ) → Option Draft
with_given_url d rest = url_of rest >>= with_url d

-- the draft with the item that a line refuses, likewise
abbrev pub with_item_refusal : Draft → Option (List ℕ) → Option Draft
with_item_refusal d rest = refused_of d.script.dialect rest >>= with_refused d

-- the draft with the row that a line refuses, likewise
abbrev pub with_row_refusal : Draft → Option (List ℕ) → Option Draft
with_row_refusal d rest = refused_row_of d.script.dialect rest >>= with_refused_row d

-- the draft with the attempt to connect that a line refuses, likewise
abbrev pub with_attempt_refusal : Draft → Option (List ℕ) → Option Draft
with_attempt_refusal d rest = refused_attempt_of rest >>= with_refused_attempt d

-- the draft with the query that a line declares
abbrev pub with_declared : Draft → Option (List ℕ) → Option Draft
with_declared d rest = declared_of rest >>= with_query d

-- the draft with the row that a line gives a query
abbrev pub with_query_row : Draft → Option (List ℕ) → Option Draft
with_query_row d rest = query_row_of rest >>= with_row d

-- the draft with the command of this first word
abbrev pub with_act : ℕ → Draft → List ℕ → Option (List ℕ) → Option Draft
with_act n d first rest = act_of first rest >>= with_command n d

-- the draft with the query, the row or the command of this first word
abbrev pub with_query_words : ℕ → Draft → List ℕ → Option (List ℕ) → Option Draft
with_query_words n d first rest =
    if bytes_eq first (codes "query") then with_declared d rest else
    if bytes_eq first (codes "row") then with_query_row d rest else with_act n d first rest

-- the draft with one line more, the line of number n, by its first word and what follows it behind
-- a space
abbrev pub with_words : ℕ → Draft → List ℕ × Option (List ℕ) → Option Draft
with_words n d line =
    if bytes_eq line.0 (codes "url") then with_given_url d line.1 else
    if bytes_eq line.0 (codes "refuse") then with_item_refusal d line.1 else
    if bytes_eq line.0 (codes "refuserow") then with_row_refusal d line.1 else
    if bytes_eq line.0 (codes "noconnect") then with_attempt_refusal d line.1 else
    with_query_words n d line.0 line.1

-- the draft with one more line of text, behind which the lines that are due can still come
abbrev pub with_text : ℕ → Draft → List ℕ → Option Draft
with_text n d line = with_words n d (split_at 32 line) >>= if_closable

-- the draft that the lines up to this one, the text of line n, make: the first one is a header
abbrev pub with_line : ℕ → Option Draft → List ℕ → Option Draft
with_line n None line = option_map empty_draft (header_of line)
with_line n (Some d) line = with_text n d line

-- the draft that the lines up to this one, the line of number n, make, if a script may go on with
-- it
abbrev pub next : ℕ → Option Draft → List ℕ → Option Draft
next n draft line = if is_utf8 line then with_line n draft line else None

-- the parts between line feeds; the last one is what follows the last line feed
abbrev pub lines_of : List ℕ → List (List ℕ)
lines_of bs = pieces 10 bs

-- the script of the draft, where no block is open
abbrev pub script_or_bad : ℕ → Draft → Result Script ℕ
script_or_bad n d = if d.blocks == 0 then Ok d.script else Err n

-- the script at the end, where the last line feed stood before line n
abbrev pub judged_last : ℕ → Option Draft → List ℕ → Result Script ℕ
judged_last n (Some d) [] = script_or_bad n d
judged_last n (Some d) (b ∷ bs) = Err n
judged_last n None last = Err n

-- the line is bad where there is no draft after it
abbrev pub or_bad : ℕ → Option Draft → (Draft → Result Script ℕ) → Result Script ℕ
or_bad n None f = Err n
or_bad n (Some d) f = f d

-- the script, or the number of the first line that no script goes on with
abbrev pub judged : ℕ → Option Draft → List (List ℕ) → Result Script ℕ
judged n draft [] = Err n
judged n draft (last ∷ []) = judged_last n draft last
judged n draft (line ∷ more ∷ lines) =
    or_bad n (next n draft line) (λ d. judged (n + 1) (Some d) (more ∷ lines))

-- what the bytes stand for: a script, or the number of the bad line; 0 where there are more than
-- 16,777,216 bytes
abbrev pub script_of : List ℕ → Result Script ℕ
script_of bytes = if nat_lt 16777216 (length bytes) then Err 0 else judged 1 None (lines_of bytes)

-- a fault is the bad line's, unless memory ran out
abbrev pub Fails : SessionError → Result Script ℕ → Type 0
Fails (BadScript n) read = read ≡ Err n
Fails OutOfMemory read = Unit {0}

-- the script is the one that was read; a fault is as `Fails` says
abbrev pub Gives : Result Script SessionError → Result Script ℕ → Type 0
Gives (Ok script) read = read ≡ Ok script
Gives (Err e) read = Fails e read
