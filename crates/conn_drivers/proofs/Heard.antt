-- One call was heard on a wire, and then what follows it.
use Rattle.std.proofs.Common.{◌≡◌, ℕ, ◌+◌, ◌≤◌, length, nat_eq, arith, Bool, true, false, cond, List, [], ◌∷◌, refl, ap, sym, ◌∙◌, subst, Option, Some, None, Result, Ok, Err}
use Rattle.std.specs.Result.{result_err}
use Rattle.std.proofs.lemmas.Bool.Decides.{nat_tests}
use Rattle.conn_model.specs.Acts.{Acts}
use Rattle.conn_model.specs.Nuls.{nul_fault}
use Rattle.conn_model.specs.Process.{Heard, plain_heard}
use Rattle.conn_model.specs.Statements.{Prepares, Runs, find_open, opened_by, prepared_heard, ran_heard, without_open}
use Rattle.conn_model.specs.Armed.{rows_of}
use Rattle.conn_model.specs.Seen.{Seen, Opened, IsHonest, IsRun, Ran, RunsAre}
use Rattle.conn_model.specs.Served.{Sends}
use Rattle.conn_model.specs.declared.item.Call.{Call}
use Rattle.conn_model.specs.declared.item.Call.TheVariants.{Exec, Prepare, Run}
use Rattle.conn_model.specs.declared.item.Dialect.{Dialect}
use Rattle.conn_model.specs.declared.item.Refusal.{Refusal}
use Rattle.conn_model.specs.declared.item.Told.{Told}
use Rattle.conn_model.specs.declared.reply.Prepared.{Prepared}
use Rattle.conn_model.specs.declared.reply.RunReply.{RunReply}
use Rattle.conn_model.specs.declared.value.Bind.{Bind}
use Rattle.conn_model.proofs.Goes.{goes_on, hears, stays, stops}
use Rattle.conn_model.proofs.Statements.{hears_prepare, hears_run}
use Rattle.conn_manager.specs.Manages.{Done, HasServerCause, Reply, ask, bare_process, bare_text, done}
use Rattle.conn_manager.specs.Statuses.{Status, reply_of, retold}
use Rattle.conn_model.specs.Process.{Process, Stop}
use Rattle.conn_result.specs.declared.error.Error.TheVariants.{InvalidCString}
use Rattle.std.specs.Prelude.{drop}
use Rattle.conn_cache.specs.QueryProcesses.{without_value}
use Rattle.conn_result.specs.declared.error.Error.{Error}
use Rattle.conn_drivers.specs.Loading.{BeginsIf}
use Rattle.conn_drivers.specs.Prepares.{SendsPrepare, count_by, count_heard, name_of, statement_by}
use Rattle.conn_drivers.specs.Wires.{Hears, HearsBy, OpensStatement}
use Rattle.conn_drivers.specs.declared.statement.Statement.{Statement}
use Rattle.conn_cache.specs.declared.preparer.PrepareForCache.{PrepareForCache}

-- the status after a call, by what was told then
pub follows_by : (old mid new : Seen) (heard : Heard) (refusal : Option Refusal) (s s1 : Status) → mid.dialect ≡ old.dialect → new ≡ mid → heard.refusal ≡ refusal → heard.told ≡ new.told → s1 ≡ retold mid.dialect refusal mid.told s
    → s1 ≡ retold old.dialect heard.refusal heard.told s
follows_by old mid new heard refusal s s1 d same is told made =
    made ∙ ap (λ (x : Dialect). retold x refusal mid.told s) d ∙ ap (λ (r : Option Refusal). retold old.dialect r mid.told s) (sym is)
    ∙ ap (λ (t : Told). retold old.dialect heard.refusal t s) (sym (told ∙ ap (λ (x : Seen). x.told) same))

module _ (honest : Bool) (old mid new : Seen) (s s1 : Status) (reply : Reply) (same : new ≡ mid) (honesty : honest ≡ true → IsHonest new) where
  -- of a text
  pub heard_text : {T : Type 0} (text : List ℕ) (result : Result T Refusal) → Sends Exec text old mid result → reply ≡ reply_of (result_err result) → s1 ≡ retold mid.dialect (result_err result) mid.told s → Hears honest Exec text old new s s1 reply
  heard_text text result sends replies made = record {
    heard = plain_heard (result_err result) new.told;
    acts = hears honest text old mid new result sends same honesty;
    replies = replies;
    follows = follows_by old mid new (plain_heard (result_err result) new.told) (result_err result) s s1 (ap (λ (x : Seen). x.dialect) sends.keeps) same refl refl made;
  }

  ran_refusal : (result : Result RunReply Refusal) (t : Told) → (ran_heard result t).refusal ≡ result_err result
  ran_refusal (Ok r) t = refl
  ran_refusal (Err r) t = refl

  ran_told : (result : Result RunReply Refusal) (t : Told) → (ran_heard result t).told ≡ t
  ran_told (Ok r) t = refl
  ran_told (Err r) t = refl

  -- of a run
  pub heard_run : (text : List ℕ) (binds : List Bind) (result : Result RunReply Refusal) → Runs text binds old mid result → reply ≡ reply_of (result_err result) → s1 ≡ retold mid.dialect (result_err result) mid.told s → Hears honest (Run binds) text old new s s1 reply
  heard_run text binds result runs replies made = record {
    heard = ran_heard result new.told;
    acts = hears_run honest text binds old mid new result runs same honesty;
    replies = replies ∙ ap reply_of (sym (ran_refusal result new.told));
    follows = follows_by old mid new (ran_heard result new.told) (result_err result) s s1 (ap (λ (x : Seen). x.dialect) runs.keeps) same (ran_refusal result new.told) (ran_told result new.told) made;
  }

  prepared_refusal : (result : Result Prepared Refusal) (t : Told) → (prepared_heard result t).refusal ≡ result_err result
  prepared_refusal (Ok r) t = refl
  prepared_refusal (Err r) t = refl

  prepared_told : (result : Result Prepared Refusal) (t : Told) → (prepared_heard result t).told ≡ t
  prepared_told (Ok r) t = refl
  prepared_told (Err r) t = refl

  -- of a prepare
  pub heard_prepare : (name : Option ℕ) (text : List ℕ) (result : Result Prepared Refusal) → Prepares name text old mid result → reply ≡ reply_of (result_err result) → s1 ≡ retold mid.dialect (result_err result) mid.told s → Hears honest (Prepare name) text old new s s1 reply
  heard_prepare name text result prepares replies made = record {
    heard = prepared_heard result new.told;
    acts = hears_prepare honest name text old mid new result prepares same honesty;
    replies = replies ∙ ap reply_of (sym (prepared_refusal result new.told));
    follows = follows_by old mid new (prepared_heard result new.told) (result_err result) s s1 (ap (λ (x : Seen). x.dialect) prepares.keeps) same (prepared_refusal result new.told) (prepared_told result new.told) made;
  }

ran_count : (result : Result RunReply Refusal) (t : Told) → count_heard (ran_heard result t) ≡ count_by result
ran_count (Ok r) t = refl
ran_count (Err r) t = refl

-- of a run whose affected rows are counted
pub heard_count : (honest : Bool) (old mid new : Seen) (s s1 : Status) (same : new ≡ mid) (honesty : honest ≡ true → IsHonest new) (text : List ℕ) (binds : List Bind) (ran : Result RunReply Refusal) (count : Result ℕ Error) → Runs text binds old mid ran → count ≡ count_by ran
    → s1 ≡ retold mid.dialect (result_err ran) mid.told s → HearsBy count_heard honest (Run binds) text old new s s1 count
heard_count honest old mid new s s1 same honesty text binds ran count runs counts made = record {
  heard = ran_heard ran new.told;
  acts = hears_run honest text binds old mid new ran runs same honesty;
  replies = counts ∙ sym (ran_count ran new.told);
  follows = follows_by old mid new (ran_heard ran new.told) (result_err ran) s s1 (ap (λ (x : Seen). x.dialect) runs.keeps) same (refusal ran new.told) (told ran new.told) made;
}
  where
    refusal : (r : Result RunReply Refusal) (t : Told) → (ran_heard r t).refusal ≡ result_err r
    refusal (Ok r) t = refl
    refusal (Err r) t = refl

    told : (r : Result RunReply Refusal) (t : Told) → (ran_heard r t).told ≡ t
    told (Ok r) t = refl
    told (Err r) t = refl

-- a refusal of it was counted
pub count_cause : (text : List ℕ) (binds : List Bind) (old mid new : Seen) (ran : Result RunReply Refusal) (count : Result ℕ Error) → count ≡ count_by ran → Runs text binds old mid ran → new ≡ mid → HasServerCause old new (without_value count)
count_cause text binds old mid new ran count is runs same =
    subst (λ (r : Result ℕ Error). HasServerCause old new (without_value r)) (sym is) (subst (λ (x : Seen). HasServerCause old x (without_value (count_by ran))) (sym same) (by_ran ran runs))
  where
    by_ran : (r : Result RunReply Refusal) → Runs text binds old mid r → HasServerCause old mid (without_value (count_by r))
    by_ran (Ok r) runs = record { later = runs.appends.later; refused = λ h. absurd h }
    by_ran (Err r) runs = record { later = runs.appends.later; refused = λ h. runs.appends.failed }

-- a statement was prepared, and what was told then was read
pub sends_prepare : (honest : Bool) (sql : List ℕ) (how : PrepareForCache) (old mid new : Seen) (s s1 : Status) (answer : Result Prepared Refusal) (result : Result Statement Error) → new ≡ mid → (honest ≡ true → IsHonest new) → Prepares (name_of how) sql old mid answer
    → result ≡ statement_by answer → s1 ≡ retold mid.dialect (result_err answer) mid.told s → SendsPrepare old.dialect honest sql how old new s s1 result
sends_prepare honest sql how old mid new s s1 answer result same honesty prepares gives made =
    let heard = prepared_heard answer new.told in
    record {
      answer = answer;
      acts = hears_prepare honest (name_of how) sql old mid new answer prepares same honesty;
      gives = gives;
      follows = follows_by old mid new heard (result_err answer) s s1 (ap (λ (x : Seen). x.dialect) prepares.keeps) same (refusal answer new.told) (told answer new.told) made;
      fresh = prepares.fresh;
      opens = ap (λ (x : Seen). x.open_statements) same ∙ prepares.opens;
      items = subst (λ (x : Seen). old.item_room ≤ x.item_room + 1) (sym same) prepares.appends.items;
      bytes = subst (λ (x : Seen). old.byte_room ≤ x.byte_room + length sql) (sym same) prepares.appends.bytes;
      given = ap (λ (x : Seen). x.given) (same ∙ prepares.keeps);
    }
  where
    refusal : (a : Result Prepared Refusal) (t : Told) → (prepared_heard a t).refusal ≡ result_err a
    refusal (Ok r) t = refl
    refusal (Err r) t = refl

    told : (a : Result Prepared Refusal) (t : Told) → (prepared_heard a t).told ≡ t
    told (Ok r) t = refl
    told (Err r) t = refl

module _ (honest : Bool) (call : Call) (text : List ℕ) (old mid : Seen) (s s1 : Status) (r : Reply) (h : Hears honest call text old mid s s1 r) where
  -- the rest, by what was heard
  pub heard_then : (next : Heard → Status → Process Done) (new : Seen) (a : Done) → Acts honest (next h.heard s1) mid new a → Acts honest (ask old.dialect call text s next) old new a
  heard_then next new a rest =
      goes_on honest call text (λ (x : Heard). next x (retold old.dialect x.refusal x.told s)) h.heard a old mid new h.acts
      (subst (λ (x : Status). Acts honest (next h.heard x) mid new a) h.follows rest)

  -- the rest, by the reply
  pub replied_then : (next : Reply → Status → Process Done) (new : Seen) (a : Done) → Acts honest (next r s1) mid new a → Acts honest (ask old.dialect call text s (λ x s2. next (reply_of x.refusal) s2)) old new a
  replied_then next new a rest =
      heard_then (λ x s2. next (reply_of x.refusal) s2) new a (subst (λ (x : Reply). Acts honest (next x s1) mid new a) h.replies rest)

-- a text that no NUL stops
pub bare_heard : (honest : Bool) (text : List ℕ) (old new : Seen) (s s1 : Status) (r : Reply) → nul_fault old.dialect text ≡ None → Hears honest Exec text old new s s1 r → Acts honest (bare_process old.dialect text s) old new (done r s1)
bare_heard honest text old new s s1 r none h =
    subst (λ (place : Option ℕ). Acts honest (bare_text place old.dialect text s) old new (done r s1)) (sym none)
    (replied_then honest Exec text old new s s1 r h (λ x s2. Stop (done x s2)) new (done r s1) (stops honest new (done r s1)))

-- a text that a NUL stops
pub bare_stopped : (honest : Bool) (text : List ℕ) (seen : Seen) (s : Status) (place : ℕ) → nul_fault seen.dialect text ≡ Some place → Acts honest (bare_process seen.dialect text s) seen seen (done (Err (InvalidCString place)) s)
bare_stopped honest text seen s place is = stays honest (bare_process seen.dialect text s) seen (done (Err (InvalidCString place)) s) (ap (λ (o : Option ℕ). bare_text o seen.dialect text s) is)

-- the other open statements, where none has this number
without_absent : (n : ℕ) (os : List Opened) → find_open n os ≡ None → without_open n os ≡ os
without_absent n [] h = refl
without_absent n (o ∷ os) h =
    elim (nat_eq o.statement n) as (λ b. cond b (Some o) (find_open n os) ≡ None → cond b (without_open n os) (o ∷ without_open n os) ≡ o ∷ os) [
      | true ↦ (λ e. absurd (cc))
      | false ↦ (λ e. ap (λ (x : List Opened). o ∷ x) (without_absent n os e))
    ] h

pub opens_newest : (text : List ℕ) (os : List Opened) (p : Prepared) → find_open p.statement os ≡ None → OpensStatement text os (opened_by text (Ok p) os) p.statement
opens_newest text os p fresh =
    let same : nat_eq p.statement p.statement ≡ true = grind (arith, nat_tests) in
    record {
      runs = rw same refl;
      shuts = rw same (without_absent p.statement os fresh);
    }

-- an accepted prepare opens its statement
pub opens_statement : (text : List ℕ) (old mid new : Seen) (p : Prepared) (result : Result Prepared Refusal) → result ≡ Ok p → Prepares None text old mid result → new ≡ mid → OpensStatement text old.open_statements new.open_statements p.statement
opens_statement text old mid new p result is prepares same =
    let accepted = subst (λ (r : Result Prepared Refusal). Prepares None text old mid r) is prepares in
    let open' : new.open_statements ≡ opened_by text (Ok p) old.open_statements = ap (λ (x : Seen). x.open_statements) same ∙ accepted.opens in
    subst (λ (os : List Opened). OpensStatement text old.open_statements os p.statement) (sym open') (opens_newest text old.open_statements p accepted.fresh)

-- an accepted run has its rows, a refused one asks none
pub begins_if : (honest : Bool) (text : List ℕ) (binds : List Bind) (old mid new : Seen) (ran : Result RunReply Refusal) (count : Result ℕ Error) → count ≡ count_by ran → Runs text binds old mid ran → new ≡ mid → (honest ≡ true → IsHonest new) → BeginsIf honest text old new count
begins_if honest text binds old mid new ran count is runs same honesty =
    subst (λ (r : Result ℕ Error). BeginsIf honest text old new r) (sym is) (by_ran ran runs)
  where
    has_rows : (s : Seen) (r : Ran) → s.given ≡ 0 → r.text ≡ text → s.last ≡ Some r → IsHonest s → s.rows ≡ Some (rows_of s.armed text)
    has_rows s r given words last h =
        let run : IsRun s r = subst (λ (o : Option Ran). RunsAre s o) last h.ran in
        run.left.rows ∙ ap (λ (n : ℕ). Some (drop n (rows_of s.armed r.text))) given ∙ ap (λ (w : List ℕ). Some (rows_of s.armed w)) words

    by_ran : (r : Result RunReply Refusal) → Runs text binds old mid r → BeginsIf honest text old new (count_by r)
    by_ran (Ok r) runs = record {
      given = ap (λ (x : Seen). x.given) same ∙ runs.rows.given;
      rows = λ e. has_rows new (record { text = text; affected = r.affected; columns = r.columns }) (ap (λ (x : Seen). x.given) same ∙ runs.rows.given) refl (ap (λ (x : Seen). x.last) same ∙ runs.last) (honesty e);
    }
    by_ran (Err r) runs = ap (λ (x : Seen). x.given) same ∙ runs.rows.given
