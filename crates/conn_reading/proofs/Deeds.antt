-- What a command asks of a connection is a call of it.
use Rattle.std.proofs.Common.{◌≡◌, Bool, true, false, ℕ, List, [], ◌∷◌, ◌++◌, refl, sym, ap, subst, ◌∙◌, Option, Some, None, Ok, Err}
use Rattle.std.specs.Prelude.{⊤, ◌==◌, if◌then◌else◌}
use Rattle.conn_result.specs.declared.error.Error.{Error}
use Rattle.conn_result.specs.declared.pool.Error.TheVariants as pooling
use Rattle.conn_model.specs.Armed.{Armed}
use Rattle.conn_model.proofs.Beginnings.{form_is_plain}
use Rattle.conn_model.specs.Beginnings.{form_text}
use Rattle.conn_model.specs.Classes.{class, begins, is_begin, is_built, is_write, same_text, number_behind}
use Rattle.conn_model.specs.Nuls.{nul_fault}
use Rattle.conn_model.specs.Process.{Process, Stop, Ask, Look, Tell, map_process}
use Rattle.conn_model.specs.States.{State}
use Rattle.conn_model.specs.declared.item.Dialect.{Dialect}
use Rattle.conn_model.specs.declared.item.Item.{Item}
use Rattle.conn_manager.specs.Manages.{Done, done, Reply as Answer, send_process, try_text}
use Rattle.conn_manager.specs.Statuses.{Status, retold}
use Rattle.conn_model.specs.Caches.{Known}
use Rattle.conn_cache.specs.LoadProcesses.{looked}
use Rattle.conn_cache.specs.QueryProcesses.{ping_view}
use Rattle.conn_report.specs.declared.entry.Reply.{Reply}
use Rattle.conn_report.specs.declared.entry.Reply.TheVariants as replies
use Rattle.conn_script.specs.Requests.{verb_word}
use Rattle.conn_script.specs.declared.command.BlockKind.{BlockKind}
use Rattle.conn_script.specs.declared.command.BlockKind.TheVariants.{Plain, Test, Form}
use Rattle.conn_script.specs.declared.query.Declared.{Declared}
use Rattle.conn_script.specs.declared.command.QueryCall.{QueryCall}
use Rattle.conn_script.specs.declared.command.QueryCall.TheVariants as query_calls
use Rattle.conn_script.specs.declared.request.Verb.{Verb}
use Rattle.conn_script.specs.declared.request.Verb.TheVariants as verbs
use Rattle.conn_script.specs.declared.command.Customizer.{Customizer}
use Rattle.conn_script.specs.declared.command.Customizer.TheVariants as customizers
use Rattle.conn_reading.specs.Asking.{check_deed, customizer_deed, Outcome, declared_process, find_query, process_of, query_call_process, reply_as, told_as, view_of}
use Rattle.conn_reading.specs.Blocks.{opening, plain_deed, if_live, closing, deed_in, deed_of}
use Rattle.conn_reading.specs.Folds.{Stack, Kind, Begins, Commits, Rolls, Closes, Sends, after_reply, kind_of, KeepsLive}
use Rattle.conn_reading.specs.Histories.{Operation, Begin, BeginBy, Commit, Rollback, TestBegin, Close, Asks, IsOperation, left_status, operation_process}
use Rattle.conn_reading.specs.Plainly.{Plainly}
use Rattle.conn_reading.specs.Reading.{Read, read, Reads}
use Rattle.conn_reading.specs.Sessions.{deed_kind, after_kind, KindLive, IsClean, QueriesPlain, SendsPlain}
use Rattle.conn_reading.specs.Verdicts.{is_plain}
use Rattle.conn_reading.specs.declared.blocks.Block.{Block}
use Rattle.conn_reading.specs.declared.blocks.BlockState.{BlockState}
use Rattle.conn_reading.specs.declared.blocks.BlockState.TheVariants.{Live, Refused, Dead}
use Rattle.conn_reading.specs.declared.deed.Deed.{Deed}
use Rattle.conn_reading.specs.declared.deed.Deed.TheVariants as deeds
use Rattle.conn_reading.proofs.ItemsRead.{ReadsFront, reads_front, reads_map, reads_unmap}
use Rattle.conn_reading.proofs.Owned.{DeedOwns, deed_owns}
use Rattle.conn_reading.proofs.Queries.{call_own, own_plainly, ping_own}

-- what is left of an outcome for a history: the status
abbrev pub ended : Outcome → Done
ended o = done (Ok tt) o.status

-- the call, where the script has these queries and the connection this cache
abbrev pub operation_of : List Declared → Known → Deed → Operation
operation_of queries c (deeds.Batch text) = Asks (λ d s. send_process d text s)
operation_of queries c deeds.Begin = Begin
operation_of queries c (deeds.BeginBy form) = BeginBy (form_text form)
operation_of queries c deeds.Commit = Commit
operation_of queries c deeds.Rollback = Rollback
operation_of queries c deeds.TestBegin = TestBegin
operation_of queries c (deeds.Close kind answer) = Close kind answer
operation_of queries c (deeds.Query call n) = Asks (λ d s. map_process ended (process_of d queries s c (deeds.Query call n)))
operation_of queries c (deeds.CacheSize size) = Asks (λ d s. map_process ended (process_of d queries s c (deeds.CacheSize size)))
operation_of queries c deeds.Ping = Asks (λ d s. map_process ended (process_of d queries s c deeds.Ping))

-- ---- of a command whose text is plain

-- a deed that is one, whatever the cache
abbrev pub IsPlainDeed : List Declared → Option Deed → Type 0
IsPlainDeed queries None = ⊤
IsPlainDeed queries (Some deed) = (c : Known) → IsOperation (operation_of queries c deed)

-- a plain text is sent plainly, or not at all
text_plainly : (d : Dialect) (text : List ℕ) (place : Option ℕ) (S : Status) → is_plain (class text) ≡ true → Plainly d left_status S (try_text place d text S (λ r s1. Stop (done r s1)))
text_plainly d text None S plain = (plain, λ h. refl)
text_plainly d text (Some place) S plain = refl

-- a process that asks plainly does so with another value of the same status
plainly_map : {A B : Type 0} (f : A → B) (d : Dialect) (status : A → Status) (status' : B → Status) → ((a : A) → status' (f a) ≡ status a) → (S : Status) (p : Process A) → Plainly d status S p → Plainly d status' S (map_process f p)
plainly_map f d status status' same S (Stop x) h = same x ∙ h
plainly_map f d status status' same S (Tell event p) h = plainly_map f d status status' same S p h
plainly_map f d status status' same S (Ask call text next) h = (h.0, λ x. plainly_map f d status status' same (retold d x.refusal x.told S) (next x) (h.1 x))
plainly_map f d status status' same S (Look text next) h = λ x. plainly_map f d status status' same (looked d x.refusal x.told S) (next x) (h x)

-- the outcome of a query that asks so
ended_plainly : (d : Dialect) (S : Status) (p : Process Outcome) → Plainly d (λ (o : Outcome). o.status) S p → Plainly d left_status S (map_process ended p)
ended_plainly d S p h = plainly_map ended d (λ (o : Outcome). o.status) left_status (λ o. refl) S p h

-- a query that a script has, where their texts are plain
declared_plainly : (call : QueryCall) (n : ℕ) (queries : List Declared) (c : Known) (d : Dialect) (S : Status) → QueriesPlain queries → Plainly d (λ (o : Outcome). o.status) S (declared_process d call (find_query n queries) S c)
declared_plainly call n [] c d S h = refl
declared_plainly call n (q ∷ qs) c d S h = by_number (q.number == n) (declared_plainly call n qs c d S h.1)
  where
    by_number : (b : Bool) → Plainly d (λ (o : Outcome). o.status) S (declared_process d call (find_query n qs) S c) → Plainly d (λ (o : Outcome). o.status) S (declared_process d call (if b then Some q else find_query n qs) S c)
    by_number true rest =
        own_plainly d (view_of q) c.register (λ (o : Outcome). o.status) (λ (o : Outcome). o.cache) false None S (query_call_process d call q.shape (view_of q) S c) h.0 (call_own d call q.shape (view_of q) S c)
    by_number false rest = rest

pub ping_plain : is_plain (class ping_view.sql) ≡ true
unfolding class begins is_begin is_built is_write same_text number_behind
ping_plain = refl

ping_plainly : (queries : List Declared) (c : Known) (d : Dialect) (S : Status) → Plainly d (λ (o : Outcome). o.status) S (process_of d queries S c deeds.Ping)
ping_plainly queries c d S =
    own_plainly d ping_view c.register (λ (o : Outcome). o.status) (λ (o : Outcome). o.cache) false None S (process_of d queries S c deeds.Ping) ping_plain (ping_own d queries S c)

module _ (queries : List Declared) (all : QueriesPlain queries) where
  abbrev IsPlain : Option Deed → Type 0
  IsPlain deed = IsPlainDeed queries deed

  opening_plain : (kind : BlockKind) → IsPlain (Some (opening kind))
  opening_plain Plain = λ c. tt
  opening_plain Test = λ c. tt
  opening_plain (Form form) = λ c. (form_is_plain form).0

  plain_deed_plain : (verb : Verb) → SendsPlain verb → IsPlain (plain_deed verb)
  plain_deed_plain (verbs.Batch text) plain = λ c d S. text_plainly d text (nul_fault d text) S plain
  plain_deed_plain verbs.Begin plain = λ c. tt
  plain_deed_plain verbs.Commit plain = λ c. tt
  plain_deed_plain verbs.Rollback plain = λ c. tt
  plain_deed_plain verbs.TestBegin plain = λ c. tt
  plain_deed_plain (verbs.Block kind) plain = opening_plain kind
  plain_deed_plain verbs.End plain = tt
  plain_deed_plain verbs.Fail plain = tt
  plain_deed_plain (verbs.Query call n) plain = λ c d S. ended_plainly d S (declared_process d call (find_query n queries) S c) (declared_plainly call n queries c d S all)
  plain_deed_plain (verbs.Cache size) plain = λ c d S. refl
  plain_deed_plain verbs.Ping plain = λ c d S. ended_plainly d S (process_of d queries S c deeds.Ping) (ping_plainly queries c d S)

  -- and what `get` asks
  pub customizer_plain : (z : Customizer) → IsPlain (customizer_deed z)
  customizer_plain customizers.Nop = tt
  customizer_plain customizers.Test = plain_deed_plain verbs.TestBegin tt
  customizer_plain customizers.Begin = plain_deed_plain verbs.Begin tt

  pub check_plain : (check : Bool) → IsPlain (check_deed check)
  check_plain true = plain_deed_plain verbs.Ping tt
  check_plain false = tt

  if_live_plain : (state : BlockState) (deed : Option Deed) → IsPlain deed → IsPlain (if_live state deed)
  if_live_plain Live deed h = h
  if_live_plain (Refused e) deed h = tt
  if_live_plain Dead deed h = tt

  closing_plain : (b : Block) (answer : Answer) → IsPlain (closing b.kind b.state answer)
  closing_plain b answer = by_state b.state
    where
      by_state : (state : BlockState) → IsPlain (closing b.kind state answer)
      by_state Live = λ c. tt
      by_state (Refused e) = λ c. tt
      by_state Dead = tt

  deed_in_plain : (b : Block) (verb : Verb) → SendsPlain verb → IsPlain (deed_in b verb)
  deed_in_plain b verbs.End plain = closing_plain b _
  deed_in_plain b verbs.Fail plain = closing_plain b _
  deed_in_plain b (verbs.Batch text) plain = if_live_plain b.state _ (plain_deed_plain (verbs.Batch text) plain)
  deed_in_plain b verbs.Begin plain = if_live_plain b.state _ (λ c. tt)
  deed_in_plain b verbs.Commit plain = if_live_plain b.state _ (λ c. tt)
  deed_in_plain b verbs.Rollback plain = if_live_plain b.state _ (λ c. tt)
  deed_in_plain b verbs.TestBegin plain = if_live_plain b.state _ (λ c. tt)
  deed_in_plain b (verbs.Block kind) plain = if_live_plain b.state _ (opening_plain kind)
  deed_in_plain b (verbs.Query call n) plain = if_live_plain b.state _ (plain_deed_plain (verbs.Query call n) plain)
  deed_in_plain b (verbs.Cache size) plain = if_live_plain b.state _ (plain_deed_plain (verbs.Cache size) plain)
  deed_in_plain b verbs.Ping plain = if_live_plain b.state _ (plain_deed_plain verbs.Ping plain)

  pub deed_plain : (o : Option Block) (verb : Verb) → SendsPlain verb → IsPlain (deed_of o verb)
  deed_plain None verb plain = plain_deed_plain verb plain
  deed_plain (Some b) verb plain = deed_in_plain b verb plain

-- no word but that of `get` hands out
pub verb_clean : (verb : Verb) (reply : Reply) (status : Option Status) → IsClean (verb_word verb) reply status
verb_clean (verbs.Batch text) reply status = tt
verb_clean verbs.Begin reply status = tt
verb_clean verbs.Commit reply status = tt
verb_clean verbs.Rollback reply status = tt
verb_clean verbs.TestBegin reply status = tt
verb_clean (verbs.Block kind) reply status = tt
verb_clean verbs.End reply status = tt
verb_clean verbs.Fail reply status = tt
verb_clean (verbs.Query query_calls.Exec n) reply status = tt
verb_clean (verbs.Query query_calls.Load n) reply status = tt
verb_clean (verbs.Query query_calls.Each n) reply status = tt
verb_clean (verbs.Query query_calls.One n) reply status = tt
verb_clean (verbs.Query query_calls.Optional n) reply status = tt
verb_clean (verbs.Cache size) reply status = tt
verb_clean verbs.Ping reply status = tt

-- ---- the same to the fold

kind_stack : (kind : Kind) (a : Answer) (k : Stack) → after_kind kind (reply_as a) k ≡ after_reply kind a k
kind_stack kind (Ok u) k = refl
kind_stack kind (Err e) k = refl

-- an error keeps nothing
error_live : (kind : Kind) (e : Error) (k : Stack) → KeepsLive kind (Err e) k
error_live Begins e k = tt
error_live Commits e k = tt
error_live Rolls e k = tt
error_live (Closes Plain) e k = tt
error_live (Closes (Form form)) e k = tt
error_live (Closes Test) e k = tt
error_live Sends e k = tt

kind_live : (kind : Kind) (a : Answer) (k : Stack) → KindLive kind (reply_as a) k → KeepsLive kind a k
kind_live kind (Ok u) k h = h
kind_live kind (Err e) k h = error_live kind e k

-- a query does nothing to the stack
sends_stack : (reply : Reply) (k : Stack) → after_kind Sends reply k ≡ k
sends_stack replies.Ok k = refl
sends_stack replies.Kept k = refl
sends_stack replies.Closed k = refl
sends_stack replies.NotOut k = refl
sends_stack replies.NoneFree k = refl
sends_stack replies.Skipped k = refl
sends_stack (replies.Count n) k = refl
sends_stack (replies.Rows rows) k = refl
sends_stack (replies.OneRow row) k = refl
sends_stack replies.NoRow k = refl
sends_stack (replies.Error e) k = refl
sends_stack (replies.Pool (pooling.ConnectionError e)) k = refl
sends_stack (replies.Pool (pooling.QueryError e n)) k = refl
sends_stack (replies.Pool (pooling.LeftOpen n)) k = refl
sends_stack (replies.Pool pooling.OutOfMemory) k = refl

-- what was read for a deed, as what the call read
pub record DeedReads (d : Dialect) (s : State) (S : Status) (queries : List Declared) (c : Known) (deed : Deed) (left : List Item) (r : Read Outcome) : Type 0 where
  pub answer : Done
  pub used : List Item
  pub all : left ≡ used ++ r.left
  pub each : Reads d s (operation_process d S (operation_of queries c deed)) used answer r.state
  pub status : answer.status ≡ r.value.status
  pub owns : DeedOwns d queries c deed used r.value.cache
  pub stack : (k : Stack) → after_kind (deed_kind deed) r.value.reply k ≡ after_reply (kind_of (operation_of queries c deed)) answer.reply k
  pub live : (k : Stack) → KindLive (deed_kind deed) r.value.reply k → KeepsLive (kind_of (operation_of queries c deed)) answer.reply k

-- a call of the manager, or a text
told_reads : (d : Dialect) (s : State) (S : Status) (queries : List Declared) (c : Known) (deed : Deed) (left : List Item) (r : Read Outcome) → deed_kind deed ≡ kind_of (operation_of queries c deed)
    → (front : ReadsFront d s (map_process (told_as c) (operation_process d S (operation_of queries c deed))) left r) → DeedOwns d queries c deed front.used r.value.cache → DeedReads d s S queries c deed left r
told_reads d s S queries c deed left r kind front owns =
    let call : Process Done = operation_process d S (operation_of queries c deed) in
    let m = reads_unmap (told_as c) d s call front.used r.value r.state front.each in
    let reply : r.value.reply ≡ reply_as m.value.reply = ap (λ (o : Outcome). o.reply) m.made in
    record {
      answer = m.value;
      used = front.used;
      all = front.all;
      each = m.reads;
      status = ap (λ (o : Outcome). o.status) (sym m.made);
      owns = owns;
      stack = λ k. ap (λ (x : Reply). after_kind (deed_kind deed) x k) reply ∙ kind_stack (deed_kind deed) m.value.reply k ∙ ap (λ (x : Kind). after_reply x m.value.reply k) kind;
      live = λ k l. subst (λ (x : Kind). KeepsLive x m.value.reply k) kind (kind_live (deed_kind deed) m.value.reply k (subst (λ (x : Reply). KindLive (deed_kind deed) x k) reply l));
    }

pub deed_reads : (d : Dialect) (armed : List Armed) (s : State) (S : Status) (queries : List Declared) (c : Known) (deed : Deed) (left : List Item) (r : Read Outcome) → read d armed s (process_of d queries S c deed) left ≡ Some r
    → DeedReads d s S queries c deed left r
deed_reads d armed s S queries c deed left r is = by_deed deed (reads_front d armed s (process_of d queries S c deed) left r is)
  where
    -- a query, whose status alone is left
    ended_reads : (x : Deed) → (front : ReadsFront d s (process_of d queries S c x) left r) → Reads d s (map_process ended (process_of d queries S c x)) front.used (ended r.value) r.state
    ended_reads x front = reads_map ended d s (process_of d queries S c x) front.used r.value r.state front.each

    owned : (x : Deed) → (front : ReadsFront d s (process_of d queries S c x) left r) → DeedOwns d queries c x front.used r.value.cache
    owned x front = deed_owns d s S queries c front.used r.value r.state x front.each

    by_deed : (x : Deed) → ReadsFront d s (process_of d queries S c x) left r → DeedReads d s S queries c x left r
    by_deed (deeds.Batch text) front = told_reads d s S queries c (deeds.Batch text) left r refl front (owned (deeds.Batch text) front)
    by_deed deeds.Begin front = told_reads d s S queries c deeds.Begin left r refl front (owned deeds.Begin front)
    by_deed (deeds.BeginBy form) front = told_reads d s S queries c (deeds.BeginBy form) left r refl front (owned (deeds.BeginBy form) front)
    by_deed deeds.Commit front = told_reads d s S queries c deeds.Commit left r refl front (owned deeds.Commit front)
    by_deed deeds.Rollback front = told_reads d s S queries c deeds.Rollback left r refl front (owned deeds.Rollback front)
    by_deed deeds.TestBegin front = told_reads d s S queries c deeds.TestBegin left r refl front (owned deeds.TestBegin front)
    by_deed (deeds.Close kind answer) front = told_reads d s S queries c (deeds.Close kind answer) left r refl front (owned (deeds.Close kind answer) front)
    by_deed (deeds.Query call n) front =
        record { answer = ended r.value; used = front.used; all = front.all; each = ended_reads (deeds.Query call n) front; status = refl; owns = owned (deeds.Query call n) front; stack = λ k. sends_stack r.value.reply k; live = λ k l. tt }
    by_deed (deeds.CacheSize size) front =
        record { answer = ended r.value; used = front.used; all = front.all; each = ended_reads (deeds.CacheSize size) front; status = refl; owns = owned (deeds.CacheSize size) front; stack = λ k. sends_stack r.value.reply k; live = λ k l. tt }
    by_deed deeds.Ping front = record { answer = ended r.value; used = front.used; all = front.all; each = ended_reads deeds.Ping front; status = refl; owns = owned deeds.Ping front; stack = λ k. sends_stack r.value.reply k; live = λ k l. tt }
