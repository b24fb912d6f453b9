-- A connection that asked what a deed asks, and made its reply of the answer, does as the deed promises.
use Rattle.std.proofs.Common.{◌≡◌, ◌≢◌, ℕ, Bool, true, false, List, [], ◌∷◌, Option, Some, None, refl, sym, ap, subst, ◌∙◌, Ok, Err, Result, inl, inr, IfOk, arith}
use Rattle.std.specs.Prelude.{IsErr, ◌↔◌, if◌then◌else◌}
use Rattle.std.specs.declared.alloc.AllocError.{AllocError}
use Rattle.conn_result.specs.Optional.{optional}
use Rattle.conn_result.specs.declared.error.Error.{Error}
use Rattle.conn_result.specs.declared.error.Error.TheVariants.{NotFound, OutOfMemory}
use Rattle.conn_model.specs.Acts.{Acts, IsSameServer}
use Rattle.conn_model.specs.Armed.{Values}
use Rattle.conn_model.specs.Caches.{Known}
use Rattle.conn_model.specs.Nuls.{nul_place, nul_fault}
use Rattle.conn_model.specs.Process.{Process, Stop, Sent, Follows, map_process}
use Rattle.conn_model.proofs.Goes.{stays}
use Rattle.conn_model.proofs.NulFree.{fault_place}
use Rattle.conn_model.specs.Seen.{Seen}
use Rattle.conn_model.specs.declared.cache.CacheSize.{CacheSize}
use Rattle.conn_model.specs.declared.item.Dialect.{Dialect}
use Rattle.conn_model.specs.declared.item.Refusal.{Refusal}
use Rattle.conn_model.proofs.Mapped.{acts_map}
use Rattle.conn_manager.specs.Manages.{Done, done, Reply as Answer, HasServerCause, IsRefusal, send_process, try_text}
use Rattle.conn_manager.specs.Statuses.{Status, reply_of}
use Rattle.conn_manager.specs.Views.{View, ActsOrMemoryFrom, KeepsCache}
use Rattle.conn_cache.specs.QueryProcesses.{asked, execute_process, ping_process, ping_view, resized, without_value}
use Rattle.conn_cache.specs.LoadProcesses.{load_process, rows_heard}
use Rattle.conn_drivers.specs.Loaded.{LoadsFrom, made_of}
use Rattle.conn_drivers.specs.Queried.{QueriesFrom}
use Rattle.conn_reading.specs.Asking.{Outcome, asked_as, declared_process, find_query, first_of, list_reply, loaded_as, one_reply, optional_reply, outcome, process_of, query_call_process, reply_as, reply_made, row_reply, rows_process, told_as, view_of}
use Rattle.conn_reading.specs.RowShapes.{shape_reads}
use Rattle.conn_reading.specs.declared.deed.Deed.{Deed}
use Rattle.conn_reading.specs.declared.deed.Deed.TheVariants as deeds
use Rattle.conn_report.specs.declared.entry.Reply.{Reply}
use Rattle.conn_rows.specs.Lists.{first_answer, list_answer}
use Rattle.conn_report.specs.declared.entry.Reply.TheVariants as replies
use Rattle.conn_script.specs.declared.command.QueryCall.{QueryCall}
use Rattle.conn_script.specs.declared.command.QueryCall.TheVariants.{Exec, Load, Each, One, Optional}
use Rattle.conn_script.specs.declared.query.Declared.{Declared}
use Rattle.conn_session.specs.Responses.{Asks, Replies, Does, IsAnswer, IsErrorOf, CountsRefusal, IsRefused, answer_reply, call_of, done_answer, query_answer}

-- ---- replies

done_is : (answer : Answer) → answer_reply (done_answer answer) ≡ reply_as answer
done_is (Ok u) = refl
done_is (Err e) = refl

ping_is : (answer : Answer) → reply_made (λ u. replies.Ok) answer ≡ answer_reply (done_answer answer)
ping_is (Ok u) = refl
ping_is (Err e) = refl

query_is : {A : Type 0} (made : A → Reply) (r : Result A Error) → reply_made made r ≡ answer_reply (query_answer made r)
query_is made (Ok x) = refl
query_is made (Err e) = refl

server_error : (text : List ℕ) (answer : Answer) (refusal : Option Refusal) → answer ≡ reply_of refusal → IsAnswer (deeds.Batch text) (reply_as answer)
server_error text answer None e = subst (λ (a : Answer). IsAnswer (deeds.Batch text) (reply_as a)) (sym e) refl
server_error text answer (Some r) e = subst (λ (a : Answer). IsAnswer (deeds.Batch text) (reply_as a)) (sym e) tt

-- a text is answered by its server, or stopped by its NUL
text_answered : (d : Dialect) (text : List ℕ) (place : Option ℕ) (s : Status) (sent : List Sent) (a : Done) → ((n : ℕ) → place ≡ Some n → nul_place text ≡ Some n) → Follows (try_text place d text s (λ r s1. Stop (done r s1))) sent a
    → IsAnswer (deeds.Batch text) (reply_as a.reply)
text_answered d text None s [] a nul h = absurd h
text_answered d text None s (i ∷ []) a nul h = server_error text a.reply i.heard.refusal (ap (λ (x : Done). x.reply) h.1)
text_answered d text None s (i ∷ j ∷ is) a nul h = absurd h.1
text_answered d text (Some n) s [] a nul h = subst (λ (x : Done). IsAnswer (deeds.Batch text) (reply_as x.reply)) (sym h) (nul n refl)
text_answered d text (Some n) s (i ∷ is) a nul h = absurd h

-- a call that is no query's answers any error but want of memory
call_answered : (deed : Deed) (answer : Answer) → call_of deed ≡ None → ((e : Error) → e ≢ OutOfMemory → IsErrorOf deed e) → answer ≢ Err OutOfMemory → IsAnswer deed (reply_as answer)
call_answered deed (Ok u) none errors memory = none
call_answered deed (Err e) none errors memory = errors e (λ same. memory (ap (λ (x : Error). Err x) same))

-- a query answers what it is made for, or any error but want of memory
query_answered : {A : Type 0} (call : QueryCall) (n : ℕ) (made : A → Reply) → ((x : A) → IsAnswer (deeds.Query call n) (made x)) → (r : Result A Error) → query_answer made r ≢ Err OutOfMemory → IsAnswer (deeds.Query call n) (answer_reply (query_answer made r))
query_answered call n made answers (Ok x) memory = answers x
query_answered call n made answers (Err e) memory = λ same. memory (ap (λ (x : Error). Err x) same)

row_answered : (n : ℕ) (o : Option Values) → IsAnswer (deeds.Query Optional n) (row_reply o)
row_answered n None = refl
row_answered n (Some row) = refl

-- ---- refusals

refusal_is : (answer : Answer) → IsRefused (reply_as answer) → IsRefusal answer
refusal_is (Ok u) h = absurd h
refusal_is (Err e) h = h

-- a call whose refusals are its server's
pub counted_by : (deed : Deed) (old new : Seen) (answer : Answer) → HasServerCause old new answer → CountsRefusal deed old new (reply_as answer)
counted_by deed old new answer cause = record { later = cause.later; refused = λ h. inl (cause.refused (refusal_is answer h)) }

pub counted_done : (deed : Deed) (old new : Seen) (answer : Answer) → CountsRefusal deed old new (reply_as answer) → CountsRefusal deed old new (answer_reply (done_answer answer))
counted_done deed old new answer cause = subst (CountsRefusal deed old new) (sym (done_is answer)) cause

-- what is replied for a query is no refusal
query_refusal : {A : Type 0} (made : A → Reply) → ((x : A) → IsRefused (made x) → ⊥) → (r : Result A Error) → IsRefused (answer_reply (query_answer made r)) → IsRefusal (without_value r)
query_refusal made none (Ok x) h = absurd (none x h)
query_refusal made none (Err e) h = h

-- a query whose refusal is its server's
pub counted_query : {A : Type 0} (made : A → Reply) → ((x : A) → IsRefused (made x) → ⊥) → (deed : Deed) (old new : Seen) (r : Result A Error) → HasServerCause old new (without_value r) → CountsRefusal deed old new (answer_reply (query_answer made r))
counted_query made none deed old new r cause = record { later = cause.later; refused = λ h. inl (cause.refused (query_refusal made none r h)) }

-- no server was asked
pub counted_none : (deed : Deed) (s : Seen) (r : Reply) → (IsRefused r → ⊥) → CountsRefusal deed s s r
counted_none deed s r none = record { later = omega arith; refused = λ h. absurd (none h) }

-- ---- deeds

module _ (honest : Bool) (queries : List Declared) (old new : View) where
  -- a call that counts no rows, by its process
  call_asked : (deed : Deed) (call : Dialect → Status → Process Done) (answer : Answer) → ((d : Dialect) (s : Status) (c : Known) → process_of d queries s c deed ≡ map_process (told_as c) (call d s))
      → ((sent : List Sent) → answer ≢ Err OutOfMemory → Follows (call old.seen.dialect old.status) sent (done answer new.status) → IsAnswer deed (reply_as answer)) → ActsOrMemoryFrom honest call old new answer → KeepsCache old new
      → Asks honest queries deed old new (done_answer answer)
  call_asked deed call answer same answers asks kept = elim asks [
    | inl h ↦ inl (ap done_answer h.0, h.1.same)
    | inr acts ↦ inr (
        let p : Process Outcome = map_process (told_as old.cache) (call old.seen.dialect old.status) in
        let last : Outcome = outcome (answer_reply (done_answer answer)) new.status new.cache in
        let is_last : outcome (reply_as answer) new.status old.cache ≡ last =
        ap (λ (r : Reply). outcome r new.status old.cache) (sym (done_is answer)) ∙ ap (λ (c : Known). outcome (answer_reply (done_answer answer)) new.status c) (sym kept) in
        record {
          acts = subst (λ (x : Process Outcome). Acts honest x old.seen new.seen last) (sym (same old.seen.dialect old.status old.cache))
              (subst (λ (o : Outcome). Acts honest p old.seen new.seen o) is_last (acts_map (told_as old.cache) honest (call old.seen.dialect old.status) old.seen new.seen (done answer new.status) acts));
          answers = λ memory. subst (IsAnswer deed) (sym (done_is answer)) (answers acts.sent (λ e. memory (ap done_answer e)) acts.follows);
        })
  ]

  -- a text
  pub batch_asked : (text : List ℕ) (answer : Answer) → ActsOrMemoryFrom honest (λ d. send_process d text) old new answer → KeepsCache old new → Asks honest queries (deeds.Batch text) old new (done_answer answer)
  batch_asked text answer asks kept =
      call_asked (deeds.Batch text) (λ d. send_process d text) answer (λ d s c. refl)
      (λ sent memory follows. text_answered old.seen.dialect text (nul_fault old.seen.dialect text) old.status sent (done answer new.status) (fault_place old.seen.dialect text) follows) asks kept

  -- a call of the manager, whose errors are any but want of memory
  pub manager_asked : (deed : Deed) (call : Dialect → Status → Process Done) (answer : Answer) → ((d : Dialect) (s : Status) (c : Known) → process_of d queries s c deed ≡ map_process (told_as c) (call d s))
      → call_of deed ≡ None → ((e : Error) → e ≢ OutOfMemory → IsErrorOf deed e) → ActsOrMemoryFrom honest call old new answer → KeepsCache old new → Asks honest queries deed old new (done_answer answer)
  manager_asked deed call answer same none errors asks kept = call_asked deed call answer same (λ sent memory follows. call_answered deed answer none errors memory) asks kept

  -- a query that is executed
  pub exec_asked : (n : ℕ) (q : Declared) (r : Result ℕ Error) → find_query n queries ≡ Some q → QueriesFrom honest (view_of q) (λ d. execute_process d (view_of q)) old new r
      → Asks honest queries (deeds.Query Exec n) old new (query_answer replies.Count r)
  exec_asked n q r found asks = elim asks [
    | inl idle ↦ inl (ap (query_answer replies.Count) idle.is, idle.untouched.same)
    | inr tells ↦ inr (
        let p = execute_process old.seen.dialect (view_of q) old.status old.cache in
        let last : Reply → Outcome = λ (x : Reply). outcome x new.status new.cache in
        record {
          acts = subst (λ (o : Option Declared). Acts honest (declared_process old.seen.dialect Exec o old.status old.cache) old.seen new.seen (last (answer_reply (query_answer replies.Count r)))) (sym found)
              (subst (λ (x : Reply). Acts honest (map_process (asked_as replies.Count) p) old.seen new.seen (last x)) (query_is replies.Count r) (acts_map (asked_as replies.Count) honest p old.seen new.seen (asked r new.status new.cache) tells.acts));
          answers = query_answered Exec n replies.Count (λ k. refl) r;
        })
  ]

  -- a query whose rows are loaded, for a call whose process makes this reply of them
  module _ {A : Type 0} (call : QueryCall) (made : List Values → Result A Error) (reply : Result (List Values) Error → Reply) (answer : Result A Error → Result Reply Error) (n : ℕ) (q : Declared) (found : find_query n queries ≡ Some q) (r : Result A Error) where
    load_asked : ((d : Dialect) (s : Status) (c : Known) → query_call_process d call q.shape (view_of q) s c ≡ rows_process reply d (view_of q) s c) → ((rows : Result (List Values) Error) → reply rows ≡ answer_reply (answer (made_of made rows))) → answer (Err OutOfMemory) ≡ Err OutOfMemory
        → (answer r ≢ Err OutOfMemory → IsAnswer (deeds.Query call n) (answer_reply (answer r))) → LoadsFrom honest (view_of q) made old new r → Asks honest queries (deeds.Query call n) old new (answer r)
    load_asked process replied wanting answers asks = elim asks [
      | inl idle ↦ inl (ap answer idle.is ∙ wanting, idle.untouched.same)
      | inr asks ↦ elim asks [
        | inl lacks ↦ inl (ap answer lacks.is ∙ wanting, lacks.tells.acts.same)
        | inr loads ↦ elim loads.answers [
          | inr want ↦ inl (ap answer want ∙ wanting, loads.tells.acts.same)
          | inl is ↦ inr (
              let p = load_process rows_heard old.seen.dialect (view_of q) old.status old.cache in
              let last : Reply → Outcome = λ (x : Reply). outcome x new.status new.cache in
              let acts : Acts honest (rows_process reply old.seen.dialect (view_of q) old.status old.cache) old.seen new.seen (last (reply loads.rows)) = acts_map (loaded_as reply) honest p old.seen new.seen (asked loads.rows new.status new.cache) loads.tells.acts in
              record {
                acts = subst (λ (o : Option Declared). Acts honest (declared_process old.seen.dialect call o old.status old.cache) old.seen new.seen (last (answer_reply (answer r)))) (sym found)
                    (subst (λ (x : Process Outcome). Acts honest x old.seen new.seen (last (answer_reply (answer r)))) (sym (process old.seen.dialect old.status old.cache))
                    (subst (λ (x : Reply). Acts honest (rows_process reply old.seen.dialect (view_of q) old.status old.cache) old.seen new.seen (last x)) (replied loads.rows ∙ ap (λ (x : Result A Error). answer_reply (answer x)) (sym is)) acts));
                answers = answers;
              })
        ]
      ]
    ]

  -- all its rows are loaded
  pub list_asked : (row_by_row : Bool) (n : ℕ) (q : Declared) (r : Result (List Values) Error) → find_query n queries ≡ Some q → LoadsFrom honest (view_of q) (list_answer (shape_reads q.shape)) old new r
      → Asks honest queries (deeds.Query (if row_by_row then Each else Load) n) old new (query_answer replies.Rows r)
  list_asked false n q r found asks =
      load_asked Load (list_answer (shape_reads q.shape)) (list_reply q.shape) (query_answer replies.Rows) n q found r (λ d s c. refl) (λ rows. query_is replies.Rows (made_of (list_answer (shape_reads q.shape)) rows)) refl (query_answered Load n replies.Rows (λ rows. refl) r) asks
  list_asked true n q r found asks =
      load_asked Each (list_answer (shape_reads q.shape)) (list_reply q.shape) (query_answer replies.Rows) n q found r (λ d s c. refl) (λ rows. query_is replies.Rows (made_of (list_answer (shape_reads q.shape)) rows)) refl (query_answered Each n replies.Rows (λ rows. refl) r) asks

  -- its first row is loaded
  pub one_asked : (n : ℕ) (q : Declared) (r : Result Values Error) → find_query n queries ≡ Some q → LoadsFrom honest (view_of q) (first_answer (shape_reads q.shape)) old new r → Asks honest queries (deeds.Query One n) old new (query_answer replies.OneRow r)
  one_asked n q r found asks =
      load_asked One (first_answer (shape_reads q.shape)) (one_reply q.shape) (query_answer replies.OneRow) n q found r (λ d s c. refl) (λ rows. query_is replies.OneRow (first_of q.shape rows)) refl (query_answered One n replies.OneRow (λ row. refl) r) asks

  -- where there is one
  pub optional_asked : (n : ℕ) (q : Declared) (r : Result Values Error) → find_query n queries ≡ Some q → LoadsFrom honest (view_of q) (first_answer (shape_reads q.shape)) old new r
      → Asks honest queries (deeds.Query Optional n) old new (query_answer row_reply (optional r))
  optional_asked n q r found asks =
      load_asked Optional (first_answer (shape_reads q.shape)) (optional_reply q.shape) (λ x. query_answer row_reply (optional x)) n q found r (λ d s c. refl) (λ rows. query_is row_reply (optional (first_of q.shape rows))) refl (query_answered Optional n row_reply (row_answered n) (optional r)) asks

  pub ping_asked : (answer : Answer) → QueriesFrom honest ping_view ping_process old new answer → Asks honest queries deeds.Ping old new (done_answer answer)
  ping_asked answer asks = elim asks [
    | inl idle ↦ inl (ap done_answer idle.is, idle.untouched.same)
    | inr tells ↦ inr (
        let p = ping_process old.seen.dialect old.status old.cache in
        record {
          acts = subst (λ (x : Reply). Acts honest (map_process (asked_as (λ u. replies.Ok)) p) old.seen new.seen (outcome x new.status new.cache)) (ping_is answer)
              (acts_map (asked_as (λ u. replies.Ok)) honest p old.seen new.seen (asked answer new.status new.cache) tells.acts);
          answers = λ memory. subst (IsAnswer deeds.Ping) (sym (done_is answer)) (call_answered deeds.Ping answer refl (λ e m. m) (λ same. memory (ap done_answer same)));
        })
  ]

  pub does : (deed : Deed) (answer : Result Reply Error) → Asks honest queries deed old new answer → CountsRefusal deed old.seen new.seen (answer_reply answer) → (result : Result Reply AllocError) → IfOk result (λ reply. reply ≡ answer_reply answer)
      → IsErr result ↔ (answer ≡ Err OutOfMemory) → Does honest queries deed old new result
  does deed answer asks cause result = by_result result
    where
      same_server : IsSameServer old.seen new.seen
      same_server = elim asks [ inl h ↦ h.1 | inr h ↦ h.acts.same ]

      answered : (reply : Reply) → reply ≡ answer_reply answer → answer ≢ Err OutOfMemory → Replies honest queries deed old new reply
      answered reply e memory = subst (Replies honest queries deed old new) (sym e) (elim asks [
        | inl h ↦ absurd (memory h.0)
        | inr h ↦ record { acts = h.acts; answer = h.answers memory; counted = cause }
      ])

      by_result : (result : Result Reply AllocError) → IfOk result (λ reply. reply ≡ answer_reply answer) → IsErr result ↔ (answer ≡ Err OutOfMemory) → Does honest queries deed old new result
      by_result (Ok reply) e memory = record { same = same_server; later = cause.later; answered = answered reply e (λ h. let failed = memory.1 h in absurd (cc failed)) }
      by_result (Err u) e memory = record { same = same_server; later = cause.later; answered = tt }

-- another size of the cache, which asks nothing
pub size_asked : (honest : Bool) (queries : List Declared) (size : CacheSize) (old new : View) → new ≡ record old { seen = record old.seen { open_statements = new.seen.open_statements }; cache = resized size old.cache }
    → Asks honest queries (deeds.CacheSize size) old new (Ok replies.Ok)
size_asked honest queries size old new is =
    subst (λ (v : View). Asks honest queries (deeds.CacheSize size) old v (Ok replies.Ok)) (sym is)
    (inr (record {
      acts = record {
        sent = [];
        follows = refl;
        log = refl;
        items = refl;
        told = λ e. tt;
        tells = refl;
        later = omega arith;
        counted = tt;
        same = record { dialect = refl; number = refl; armed = refl; quiet = refl; orders = refl };
      };
      answers = λ memory. refl;
    }))

-- a query that the script doesn't declare
pub none_asked : (honest : Bool) (queries : List Declared) (call : QueryCall) (n : ℕ) (v : View) → find_query n queries ≡ None → Asks honest queries (deeds.Query call n) v v (Err NotFound)
none_asked honest queries call n v none = inr (record {
  acts = stays honest (declared_process v.seen.dialect call (find_query n queries) v.status v.cache) v.seen (outcome (replies.Error NotFound) v.status v.cache) (ap (λ (o : Option Declared). declared_process v.seen.dialect call o v.status v.cache) none);
  answers = λ memory same. cc same;
})
