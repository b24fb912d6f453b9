-- What a wire prepares, runs and closes for queries.
use Rattle.std.specs.Prelude.{◌≡◌, ℕ, ◌+◌, ◌≤◌, Bool, true, false, List, length, Option, Some, None, Result, Ok, Err, IfOk}
use Rattle.conn_result.specs.declared.error.Error.{Error}
use Rattle.conn_result.specs.declared.error.Error.TheVariants.{DatabaseError}
use Rattle.conn_cache.specs.declared.preparer.PrepareForCache.{PrepareForCache}
use Rattle.conn_cache.specs.declared.preparer.PrepareForCache.TheVariants.{Yes, No}
use Rattle.conn_manager.specs.Statuses.{Status, retold}
use Rattle.conn_model.specs.Acts.{Acts}
use Rattle.conn_model.specs.Process.{Heard, hear}
use Rattle.conn_model.specs.Seen.{Seen}
use Rattle.conn_model.specs.Statements.{closes, find_open, opened_by, prepared_heard}
use Rattle.conn_model.specs.declared.item.Call.TheVariants.{Prepare}
use Rattle.conn_model.specs.declared.item.Dialect.{Dialect}
use Rattle.conn_model.specs.declared.item.Dialect.TheVariants.{Pg, Mysql, Sqlite}
use Rattle.conn_model.specs.declared.item.Refusal.{Refusal}
use Rattle.conn_model.specs.declared.reply.Prepared.{Prepared}
use Rattle.conn_model.specs.declared.reply.RunReply.{RunReply}
use Rattle.conn_drivers.specs.declared.statement.Statement.{Statement}

-- a refusal as an error
abbrev pub error_by : Refusal → Error
error_by r = DatabaseError r.kind r.code

-- a prepared statement as an answer
abbrev pub statement_by : Result Prepared Refusal → Result Statement Error
statement_by (Ok p) = Ok (record { number = p.statement; columns = p.columns })
statement_by (Err r) = Err (error_by r)

-- the affected rows of a run as an answer
abbrev pub count_by : Result RunReply Refusal → Result ℕ Error
count_by (Ok r) = Ok r.affected
count_by (Err r) = Err (error_by r)

-- the same by what was heard
abbrev pub count_in : Option Refusal → ℕ → Result ℕ Error
count_in None affected = Ok affected
count_in (Some r) affected = Err (error_by r)

-- by all of it
abbrev pub count_heard : Heard → Result ℕ Error
count_heard h = count_in h.refusal h.affected

-- the number of a statement that is kept is its name
abbrev pub name_of : PrepareForCache → Option ℕ
name_of (Yes counter) = Some counter
name_of No = None

-- PostgreSQL isn't asked to prepare what isn't kept
abbrev pub sends_none : Dialect → PrepareForCache → Bool
sends_none Pg No = true
sends_none Pg (Yes counter) = false
sends_none Mysql how = false
sends_none Sqlite how = false

-- one prepare was sent: it was heard, and the status follows; its statement has the number of no other open one
pub record SendsPrepare (d : Dialect) (honest : Bool) (sql : List ℕ) (how : PrepareForCache) (old new : Seen) (s s1 : Status) (result : Result Statement Error) : Type 0 where
  pub answer : Result Prepared Refusal
  pub acts : Acts honest (hear (Prepare (name_of how)) sql) old new (prepared_heard answer new.told)
  pub gives : result ≡ statement_by answer
  pub follows : s1 ≡ (let h = prepared_heard answer new.told in retold d h.refusal h.told s)
  pub fresh : IfOk answer (λ p. find_open p.statement old.open_statements ≡ None)
  pub opens : new.open_statements ≡ opened_by sql answer old.open_statements
  pub items : old.item_room ≤ new.item_room + 1
  pub bytes : old.byte_room ≤ new.byte_room + length sql
  pub given : new.given ≡ old.given

-- nothing was sent, and the statement stands for nothing
pub record SendsNone (old new : Seen) (s s1 : Status) (result : Result Statement Error) : Type 0 where
  pub gives : result ≡ Ok (record { number = 0; columns = 0 })
  pub seen : new ≡ old
  pub follows : s1 ≡ s

-- whether nothing is sent, and a dialect
abbrev pub WirePreparesBy : Bool → Dialect → Bool → List ℕ → PrepareForCache → Seen → Seen → Status → Status → Result Statement Error → Type 0
WirePreparesBy true d honest sql how old new s s1 result = SendsNone old new s s1 result
WirePreparesBy false d honest sql how old new s s1 result = SendsPrepare d honest sql how old new s s1 result

-- what a prepare does
abbrev pub WirePrepares : Bool → List ℕ → PrepareForCache → Seen → Seen → Status → Status → Result Statement Error → Type 0
WirePrepares honest sql how old new s s1 result = WirePreparesBy (sends_none old.dialect how) old.dialect honest sql how old new s s1 result

-- what a close does
pub record WireCloses (t : Statement) (old new : Seen) (s s1 : Status) : Type 0 where
  pub seen : new ≡ closes t.number old
  pub follows : s1 ≡ s
