-- What the lines so far say, and what one line more adds.
use Rattle.std.specs.Prelude.{ℕ, ◌+◌, ◌&&◌, ◌||◌, not, Bool, true, false, nat_le, nat_lt, List, [], ◌∷◌, ◌++◌, length, Option, codes}
use Rattle.std.specs.Ordering.{nat_cmp}
use Rattle.conn_model.specs.Armed.{armed_of, rows_of}
use Rattle.conn_model.specs.declared.item.Dialect.{Dialect}
use Rattle.conn_model.specs.declared.item.Dialect.TheVariants.{Pg, Mysql, Sqlite}
use Rattle.conn_model.specs.declared.plan.PlanLine.{PlanLine}
use Rattle.conn_model.specs.declared.plan.PlanLine.TheVariants.{Rows}
use Rattle.conn_script.specs.Keys.{is_named_in}
use Rattle.conn_script.specs.Openings.{blocks_behind, fits_dialect, inside_behind, loads_behind, may_load, may_stand}
use Rattle.conn_script.specs.Options.{◌>>=◌, guard}
use Rattle.conn_script.specs.Plans.{compare_items, is_setup, refused_attempt_key, refused_attempt_line, refused_key, refused_line, refused_row_key, refused_row_line}
use Rattle.conn_script.specs.Queries.{is_declared, is_used, query_text}
use Rattle.conn_script.specs.Requests.{request_of}
use Rattle.conn_script.specs.RowCounts.{may_follow, row_count_of}
use Rattle.conn_script.specs.declared.command.Act.{Act}
use Rattle.conn_script.specs.declared.command.Script.{Script}
use Rattle.conn_script.specs.declared.header.Header.{Header}
use Rattle.conn_script.specs.declared.plan.QueryRow.{QueryRow}
use Rattle.conn_script.specs.declared.plan.Refused.{Refused}
use Rattle.conn_script.specs.declared.plan.RefusedAttempt.{RefusedAttempt}
use Rattle.conn_script.specs.declared.plan.RefusedRow.{RefusedRow}
use Rattle.conn_script.specs.declared.query.Declared.{Declared}
use Rattle.conn_script.specs.declared.request.Request.{Request}
use Rattle.conn_script.specs.declared.request.Request.TheVariants.{On}
use Rattle.conn_script.specs.declared.request.Verb.TheVariants.{Query}

-- a script so far, how many blocks are open, the connection that they name, how many commands ask for
-- rows, and whether a line gave the URL
pub record Draft : Type 0 where
  pub script : Script
  pub blocks : ℕ
  pub inside : ℕ
  pub loads : ℕ
  pub has_url : Bool

-- the draft of a script, its open blocks, the number of its commands that ask for rows, and whether a
-- line gave its URL
abbrev pub draft_of : Script → ℕ → ℕ → ℕ → Bool → Draft
draft_of script blocks inside loads has_url = record {
  script = script;
  blocks = blocks;
  inside = inside;
  loads = loads;
  has_url = has_url;
}

-- where a server of a dialect is found
abbrev pub default_url : Dialect → List ℕ
default_url Pg = codes "postgres://localhost"
default_url Mysql = codes "mysql://localhost"
default_url Sqlite = codes ":memory:"

-- a session with this header, of which no more is said
abbrev pub empty_script : Header → Script
empty_script header = record {
  dialect = header.dialect;
  max_size = header.max_size;
  customizer = header.customizer;
  check = header.check;
  url = default_url header.dialect;
  plan = [];
  queries = [];
  commands = [];
}

-- the draft of the first line alone
abbrev pub empty_draft : Header → Draft
empty_draft header = draft_of (empty_script header) 0 0 0 false

-- the draft with one command more, that of line n
abbrev pub command_added : ℕ → Draft → Act → Draft
command_added n d act = record {
  script = record d.script { commands = d.script.commands ++ record { line = n; act = act } ∷ [] };
  blocks = blocks_behind d.blocks (request_of act);
  inside = inside_behind d.inside (request_of act);
  loads = loads_behind d.loads (request_of act);
  has_url = d.has_url;
}

-- it names no query, or a declared one
abbrev pub knows : List Declared → Request → Bool
knows queries (On c (Query call n)) = is_declared queries n
knows queries request = true

-- it can be asked of servers of this dialect where these queries are declared
abbrev pub may_ask : Dialect → List Declared → Request → Bool
may_ask dialect queries request = knows queries request && fits_dialect dialect request

-- it may come where these blocks are open and these queries declared, behind so many commands that
-- ask for rows
abbrev pub may_come : Draft → Request → Bool
may_come d request =
    may_stand d.blocks d.inside request && may_ask d.script.dialect d.script.queries request
    && may_load d.loads request

-- the draft with one command more, if it may come
abbrev pub with_command : ℕ → Draft → Act → Option Draft
with_command n d act = guard (may_come d (request_of act)) (command_added n d act)

-- the draft with this URL, where no line gave one, before the first command
abbrev pub with_url : Draft → List ℕ → Option Draft
with_url d url =
    guard (is_setup d.script.commands && not d.has_url)
    (record d { script = record d.script { url = url }; has_url = true })

-- the draft with one line of the plan more
abbrev pub plan_added : Draft → PlanLine → Draft
plan_added d line = record d { script = record d.script { plan = d.script.plan ++ line ∷ [] } }

-- the draft with one more item refused, which no other line may refuse, before the first command
abbrev pub with_refused : Draft → Refused → Option Draft
with_refused d r =
    guard (is_setup d.script.commands
    && not (is_named_in compare_items refused_key d.script.plan (r.server, r.item)))
    (plan_added d (refused_line r))

-- the draft with a row more refused, of a run of which no other line may refuse one, before the first
-- command
abbrev pub with_refused_row : Draft → RefusedRow → Option Draft
with_refused_row d r =
    guard (is_setup d.script.commands
    && not (is_named_in compare_items refused_row_key d.script.plan (r.server, r.item)))
    (plan_added d (refused_row_line r))

-- the draft with one more attempt refused, which no other line may refuse, before the first command
abbrev pub with_refused_attempt : Draft → RefusedAttempt → Option Draft
with_refused_attempt d r =
    guard (is_setup d.script.commands
    && not (is_named_in nat_cmp refused_attempt_key d.script.plan r.attempt))
    (plan_added d (refused_attempt_line r))

-- so many values may come as a further row of the text, before the first command
abbrev pub may_give : Draft → List ℕ → ℕ → Bool
may_give d text values =
    is_setup d.script.commands
    && may_follow (row_count_of (rows_of (armed_of d.script.plan) text)) values

-- the draft with one row more of the text of a query, which is declared
abbrev pub with_row : Draft → QueryRow → Option Draft
with_row d r = do
  text ← query_text d.script.queries r.query
  guard (may_give d text (length r.row)) (plan_added d (Rows text r.row))

-- the draft with one query more
abbrev pub query_added : Draft → Declared → Draft
query_added d q = record d { script = record d.script { queries = d.script.queries ++ q ∷ [] } }

-- one of the queries has its number, or its id
abbrev pub is_taken : List Declared → Declared → Bool
is_taken queries q = is_declared queries q.number || is_used queries q.id

-- the draft with one more query, whose number and id no other may have, before the first command
abbrev pub with_query : Draft → Declared → Option Draft
with_query d q =
    guard (is_setup d.script.commands && not (is_taken d.script.queries q)) (query_added d q)

-- behind this many commands this many blocks on this connection can be closed: a script has at most
-- 1,048,576 commands, and lines name connections below 2 ^ 32
abbrev pub can_end : ℕ → ℕ → ℕ → Bool
can_end commands blocks inside = nat_le (commands + blocks) 1048576 && nat_lt inside 4294967296

-- the lines that close the open blocks can still come
abbrev pub can_close : Draft → Bool
can_close d = can_end (length d.script.commands) d.blocks d.inside

-- the draft, where it can be closed
abbrev pub if_closable : Draft → Option Draft
if_closable d = guard (can_close d) d
