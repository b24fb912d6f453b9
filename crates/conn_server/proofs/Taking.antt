-- What a server in memory is after it answered a call.
use Rattle.std.proofs.Common.{◌≡◌, ℕ, ◌+◌, Bool, true, false, List, [], ◌∷◌, ◌++◌, length, Option, Some, None, refl, ap, sym, subst, ◌∙◌, arith, if◌then◌else◌}
use Rattle.std.specs.Prelude.{◌≤◌, ◌*◌, ◌&&◌, Result, IfOk, IfErr, OnErr, OnOk, is_some, slice_get, nat_eq}
use Rattle.std.proofs.lemmas.List.Sums.{sum_by-cons}
use Rattle.std.specs.Map.{lookup}
use Rattle.std.specs.Option.{option_and_then, option_map}
use Rattle.conn_result.specs.Causes.{Rose}
use Rattle.std.specs.Cmp.{first_so}
use Rattle.conn_model.specs.Armed.{Armed, affected_of, columns_of}
use Rattle.conn_model.specs.Statements.{value_bytes, bind_bytes, binds_bytes, find_open, opened_by, ran_by, BeginsRows, KeepsRows, RowsAfter}
use Rattle.conn_model.specs.Seen.{Seen, Opened}
use Rattle.conn_model.specs.Served.{Logs, IsDue}
use Rattle.conn_model.specs.declared.reply.Prepared.{Prepared}
use Rattle.conn_model.specs.declared.reply.RunReply.{RunReply}
use Rattle.conn_model.specs.Classes.{class}
use Rattle.conn_model.specs.Kinds.{has_kind}
use Rattle.conn_model.specs.Obeyed.{Obeys, is_fetch}
use Rattle.conn_model.specs.Places.{place_step, place_steps, place_steps-append}
use Rattle.conn_model.specs.States.{StateOf, State, Idle, state_of, accepts_call, commits, refuses, step_with}
use Rattle.conn_model.specs.declared.class.Class.{Class}
use Rattle.conn_model.specs.declared.item.Answer.{Answer}
use Rattle.conn_model.specs.declared.item.Answer.TheVariants.{Accepted, Refused}
use Rattle.conn_model.specs.declared.item.Call.{Call}
use Rattle.conn_model.specs.declared.item.Call.TheVariants as call
use Rattle.conn_model.specs.declared.item.Dialect.{Dialect}
use Rattle.conn_model.specs.declared.item.Effect.{Effect}
use Rattle.conn_model.specs.declared.item.Item.{Item}
use Rattle.conn_model.specs.declared.item.Refusal.{Refusal}
use Rattle.conn_model.specs.declared.plan.Order.{Order}
use Rattle.conn_model.specs.declared.value.Bind.{Bind}
use Rattle.conn_server.specs.Answering.{accepts_demand, commits_demand, step_demand, answer_by, failures_after, reply_by, row_order_for}
use Rattle.conn_server.specs.Logged.{Log, Statement, open_statements, is_accepted, statement_if, ran_of}
use Rattle.conn_server.specs.Moves.{phase_of}
use Rattle.conn_server.specs.Feeds.{armed_in, left_rows, kept_back}
use Rattle.conn_server.specs.Ordered.{OrderList, order_of, row_order_of, is_empty, is_none_ordered}
use Rattle.conn_server.specs.Refusals.{order_in}
use Rattle.conn_server.specs.Scripted.{seen_of}
use Rattle.conn_server.specs.declared.feed.Feed.{Feed}
use Rattle.conn_server.specs.declared.answering.Demand.{Demand}
use Rattle.conn_server.specs.declared.answering.Demand.TheVariants as demand
use Rattle.conn_server.specs.declared.scripted.ScriptedServer.{ScriptedServer}
use Rattle.conn_server.specs.declared.standing.Phase.{Phase}
use Rattle.conn_server.specs.declared.standing.Phase.TheVariants as phase
use Rattle.conn_server.proofs.Due.{unaccepted_due}
use Rattle.conn_server.proofs.Obeying.{answered_obeys, fetched_obeys}

-- the call with this text asks this
pub record IsDemand (asked : Demand) (call : Call) (text : List ℕ) : Type 0 where
  pub accepts : (d : Dialect) (s : StateOf ℕ) (n : ℕ) → accepts_demand d s n asked ≡ accepts_call d s n call (class text)
  pub commits_is : commits_demand asked ≡ commits call text
  pub asks : is_fetch call ≡ false

pub exec_demand : (c : Class) (text : List ℕ) → c ≡ class text → IsDemand (demand.Run c) call.Exec text
exec_demand c text e = subst (λ (k : Class). IsDemand (demand.Run k) call.Exec text) (sym e) (record { accepts = λ d s n. refl; commits_is = refl; asks = refl })

pub run_demand : (c : Class) (binds : List Bind) (text : List ℕ) → c ≡ class text → IsDemand (demand.Run c) (call.Run binds) text
run_demand c binds text e = subst (λ (k : Class). IsDemand (demand.Run k) (call.Run binds) text) (sym e) (record { accepts = λ d s n. refl; commits_is = refl; asks = refl })

pub prepare_demand : (name : Option ℕ) (text : List ℕ) → IsDemand demand.Prepare (call.Prepare name) text
prepare_demand name text = record { accepts = λ d s n. refl; commits_is = refl; asks = refl }

stepped : (d : Dialect) (s : StateOf ℕ) (n : ℕ) (asked : Demand) (call : Call) (text : List ℕ) (a : Answer) → IsDemand asked call text → step_demand d s n asked a ≡ step_with d s n call text a
stepped d s n asked call text Accepted h = h.accepts d s n
stepped d s n asked call text (Refused r e) h = ap (λ (b : Bool). if has_kind d r then refuses d s b r.kind e else None) h.commits_is

quiet_none : (orders : OrderList) (item : ℕ) → is_none_ordered orders ≡ true → order_of orders item ≡ None
quiet_none orders item h = by_list orders.list (first_so (is_empty orders.list) (is_empty orders.rows) h) (lookup (nat_eq item) orders.places)
  where
    by_list : (list : List Order) → is_empty list ≡ true → (found : Option ℕ) → option_and_then (λ (place : ℕ). slice_get list place) found ≡ None
    by_list [] h None = refl
    by_list [] h (Some place) = refl
    by_list (o ∷ os) h found = absurd (cc)

order_none : (p : Phase) → order_in p None ≡ None
order_none phase.Idle = refl
order_none phase.Open = refl
order_none phase.Aborted = refl
order_none phase.Lost = refl

-- without an order, what is refused isn't accepted
unordered : (d : Dialect) (p : Phase) (o : Option (StateOf ℕ)) (b : Bool) (r : Refusal) (e : Effect) → answer_by d p (is_some o) b None ≡ Refused r e → o ≡ None
unordered d p None b r e h = refl
unordered d p (Some s) b r e h = absurd (cc)

-- one call was answered by what the server was, and this is what it is
pub record Took (d : Dialect) (orders : OrderList) (items : List Item) (old new : StateOf ℕ) (call : Call) (text : List ℕ) (answer : Answer) : Type 0 where
  pub lawful : place_steps d (Some (Idle [])) 0 (items ++ record { call = call; text = text; answer = answer } ∷ []) ≡ Some new
  pub obeys : Obeys d (order_of orders) (items ++ record { call = call; text = text; answer = answer } ∷ [])
  pub is : answer ≡ answer_by d (phase_of old) (is_some (accepts_call d old (length items) call (class text))) (commits call text) (order_in (phase_of old) (order_of orders (length items + 1)))
  pub due : (r : Refusal) (e : Effect) → answer ≡ Refused r e → is_none_ordered orders ≡ true → (state : State) → state_of d items ≡ Some state → accepts_call d state text call (class text) ≡ None

module _ (d : Dialect) (orders : OrderList) (items : List Item) (old new : StateOf ℕ) (call : Call) (text : List ℕ) (answer : Answer) (lawful : place_steps d (Some (Idle [])) 0 items ≡ Some old) where
  goes : step_with d old (length items) call text answer ≡ Some new → place_steps d (Some (Idle [])) 0 (items ++ record { call = call; text = text; answer = answer } ∷ []) ≡ Some new
  goes step =
      let i : Item = record { call = call; text = text; answer = answer } in
      place_steps-append d (Some (Idle [])) 0 items i
      ∙ ap (λ (n : ℕ). option_and_then (λ (s : StateOf ℕ). place_step d s n i) (place_steps d (Some (Idle [])) 0 items)) (omega arith)
      ∙ ap (option_and_then (λ (s : StateOf ℕ). place_step d s (length items) i)) lawful
      ∙ step

  due_by : answer ≡ answer_by d (phase_of old) (is_some (accepts_call d old (length items) call (class text))) (commits call text) (order_in (phase_of old) (order_of orders (length items + 1)))
      → (r : Refusal) (e : Effect) → answer ≡ Refused r e → is_none_ordered orders ≡ true → (state : State) → state_of d items ≡ Some state → accepts_call d state text call (class text) ≡ None
  due_by is r e refused quiet state h =
      let o = accepts_call d old (length items) call (class text) in
      let none : order_in (phase_of old) (order_of orders (length items + 1)) ≡ None = ap (order_in (phase_of old)) (quiet_none orders (length items + 1) quiet) ∙ order_none (phase_of old) in
      let plain : answer_by d (phase_of old) (is_some o) (commits call text) None ≡ Refused r e =
      ap (answer_by d (phase_of old) (is_some o) (commits call text)) (sym none) ∙ sym is ∙ refused in
      unaccepted_due d items old (length items) call text state lawful (unordered d (phase_of old) o (commits call text) r e plain) h

  pub takes : (asked : Demand) (place : ℕ) (order : Option Order) → IsDemand asked call text → Obeys d (order_of orders) items → place ≡ length items → order ≡ order_of orders (place + 1)
      → answer ≡ answer_by d (phase_of old) (is_some (accepts_demand d old place asked)) (commits_demand asked) (order_in (phase_of old) order) → step_demand d old place asked answer ≡ Some new
      → Took d orders items old new call text answer
  takes asked place order is obeys here by given step =
      let o = accepts_call d old (length items) call (class text) in
      let p = phase_of old in
      let answered : answer ≡ answer_by d p (is_some o) (commits call text) (order_in p (order_of orders (length items + 1))) =
      given
      ∙ ap (λ (x : Option (StateOf ℕ)). answer_by d p (is_some x) (commits_demand asked) (order_in p order)) (is.accepts d old place ∙ ap (λ (n : ℕ). accepts_call d old n call (class text)) here)
      ∙ ap (λ (b : Bool). answer_by d p (is_some o) b (order_in p order)) is.commits_is
      ∙ ap (λ (x : Option Order). answer_by d p (is_some o) (commits call text) (order_in p x)) (by ∙ ap (λ (n : ℕ). order_of orders (n + 1)) here) in
      record {
        lawful = goes (sym (stepped d old (length items) asked call text answer is) ∙ ap (λ (n : ℕ). step_demand d old n asked answer) (sym here) ∙ step);
        obeys = subst (λ (a : Answer). Obeys d (order_of orders) (items ++ record { call = call; text = text; answer = a } ∷ [])) (sym answered) (answered_obeys d (order_of orders) items old call text (is_some o) is.asks lawful obeys);
        is = answered;
        due = due_by answered;
      }

-- ---- what its caller sees

-- a refusal was due and was counted, and nothing else
pub record Counts {T : Type 0} (call : Call) (text : List ℕ) (old : Seen) (later : ℕ) (result : Result T Refusal) : Type 0 where
  pub rises : old.failures ≤ later
  pub failed : OnErr result (Rose old.failures later)
  pub unfailed : OnOk result (later ≡ old.failures)
  pub due : OnErr result (IsDue old call text)

pub counts_by : {T : Type 0} (value : T) (call : Call) (text : List ℕ) (old : Seen) (answer : Answer) (later : ℕ) → later ≡ failures_after old.failures answer → ((r : Refusal) (e : Effect) → answer ≡ Refused r e → IsDue old call text)
    → old.failures ≤ later → Counts call text old later (reply_by value answer)
counts_by value call text old Accepted later is due rises = record { rises = rises; failed = tt; unfailed = is; due = tt }
counts_by value call text old (Refused r e) later is due rises = record { rises = rises; failed = omega (arith, is); unfailed = tt; due = due r e refl }

pub logs_by : {T : Type 0} (value : T) (old new : List Item) (call : Call) (text : List ℕ) (answer : Answer) → new ≡ old ++ record { call = call; text = text; answer = answer } ∷ [] → Logs (Some old) call text (reply_by value answer) (Some new)
logs_by value old new call text Accepted is = ap Some is
logs_by value old new call text (Refused r e) is = (e, ap Some is)

-- the affected rows
pub affected_by_reply : (n m : ℕ) (answer : Answer) → n ≡ m → IfOk (reply_by n answer) (λ k. k ≡ m)
affected_by_reply n m Accepted is = is
affected_by_reply n m (Refused r e) is = tt

-- a statement is opened where the answer accepts it, with the number of no open one
pub opens_by : (armed : List Armed) (p : Prepared) (n : ℕ) (text : List ℕ) (statements : List Statement) (answer : Answer) → p.statement ≡ n → p.columns ≡ columns_of armed text
    → open_statements armed (statement_if (is_accepted answer) n text ++ statements) ≡ opened_by text (reply_by p answer) (open_statements armed statements)
opens_by armed p n text statements Accepted number columns =
    ap (λ (k : ℕ). record { statement = k; text = text; columns = columns_of armed text } ∷ open_statements armed statements) (sym number)
    ∙ ap (λ (k : ℕ). record { statement = p.statement; text = text; columns = k } ∷ open_statements armed statements) (sym columns)
opens_by armed p n text statements (Refused r e) number columns = refl

pub fresh_by : (p : Prepared) (n : ℕ) (os : List Opened) (answer : Answer) → p.statement ≡ n → find_open n os ≡ None → IfOk (reply_by p answer) (λ q. find_open q.statement os ≡ None)
fresh_by p n os Accepted number none = ap (λ (k : ℕ). find_open k os) number ∙ none
fresh_by p n os (Refused r e) number none = tt

pub number_by : (p : Prepared) (n : ℕ) (answer : Answer) → p.statement ≡ n → IfOk (reply_by p answer) (λ q. q.statement ≡ n)
number_by p n Accepted is = is
number_by p n (Refused r e) is = tt

-- an accepted run is the last one
pub last_by : (armed : List Armed) (reply : RunReply) (text : List ℕ) (old : Option (List ℕ)) (answer : Answer) → reply.affected ≡ affected_of text → reply.columns ≡ columns_of armed text
    → option_map (ran_of armed) (if is_accepted answer then Some text else old) ≡ ran_by text (reply_by reply answer) (option_map (ran_of armed) old)
last_by armed reply text old Accepted affected columns =
    ap (λ (n : ℕ). Some (record { text = text; affected = n; columns = columns_of armed text })) (sym affected)
    ∙ ap (λ (n : ℕ). Some (record { text = text; affected = reply.affected; columns = n })) (sym columns)
last_by armed reply text old (Refused r e) affected columns = refl

-- an accepted run begins its rows, a refused one leaves those of the one before it
pub rows_by : {T : Type 0} (value : T) (old new : Seen) (answer : Answer) → (is_accepted answer ≡ true → BeginsRows new) → (is_accepted answer ≡ false → KeepsRows old new) → RowsAfter old new (reply_by value answer)
rows_by value old new Accepted begins keeps = begins refl
rows_by value old new (Refused r e) begins keeps = keeps refl

-- what is known of the run after an answer
pub ran_if : {T : Type 0} (value : T) (now : Option ℕ) (run : ℕ) (old : Option ℕ) (answer : Answer) → now ≡ (if is_accepted answer then Some run else old) → IfOk (reply_by value answer) (λ _. now ≡ Some run)
ran_if value now run old Accepted is = is
ran_if value now run old (Refused r e) is = tt

pub left_if : {T : Type 0} (value : T) (old now : Feed) (answer : Answer) → (is_accepted answer ≡ false → now ≡ old) → IfErr (reply_by value answer) (λ _. now ≡ old)
left_if value old now Accepted is = tt
left_if value old now (Refused r e) is = is refl

-- what the calls that change no statement and no last run leave
pub same_parts : (d : Dialect) (number : ℕ) (log : Log) (state : StateOf ℕ) (failures item_room byte_room : ℕ) (quiet : Bool) (orders : ℕ → Option Order) (feed : Feed) (statements : List Statement) (last : Option (List ℕ)) → log.statements ≡ statements → log.last ≡ last
    → seen_of d number log state failures item_room byte_room quiet orders feed
    ≡ record (seen_of d number log state failures item_room byte_room quiet orders feed) { open_statements = open_statements (armed_in feed) statements; last = option_map (ran_of (armed_in feed)) last; rows_left = length (left_rows feed last); rows = Some (left_rows feed last) }
same_parts d number log state failures item_room byte_room quiet orders feed statements last e f =
    ap (λ (ss : List Statement). seen_of d number (record log { statements = ss }) state failures item_room byte_room quiet orders feed) e
    ∙ ap (λ (l : Option (List ℕ)). seen_of d number (record log { statements = statements; last = l }) state failures item_room byte_room quiet orders feed) f

-- ---- a refused row

-- it is a step of the log, and no order is for it
pub record Fetched (d : Dialect) (orders : OrderList) (items : List Item) (new : StateOf ℕ) (answer : Answer) : Type 0 where
  pub lawful : place_steps d (Some (Idle [])) 0 (items ++ record { call = call.Fetch; text = []; answer = answer } ∷ []) ≡ Some new
  pub obeys : Obeys d (order_of orders) (items ++ record { call = call.Fetch; text = []; answer = answer } ∷ [])

pub fetched : (d : Dialect) (orders : OrderList) (items : List Item) (old new : StateOf ℕ) (r : Refusal) (e : Effect) (answer : Answer) → answer ≡ Refused r e → place_steps d (Some (Idle [])) 0 items ≡ Some old → Obeys d (order_of orders) items
    → step_demand d old (length items) demand.Fetch answer ≡ Some new → Fetched d orders items new answer
fetched d orders items old new r e answer is lawful obeys step = record {
  lawful = goes d orders items old new call.Fetch [] answer lawful (subst (λ (a : Answer). step_with d old (length items) call.Fetch [] a ≡ Some new) (sym is) (subst (λ (a : Answer). step_demand d old (length items) demand.Fetch a ≡ Some new) is step));
  obeys = fetched_obeys d (order_of orders) items answer obeys;
}

-- a server that orders a row to be refused isn't quiet
pub row_ordered_loud : (orders : OrderList) (item row : ℕ) (order : Order) → row_order_of orders item row ≡ Some order → is_none_ordered orders ≡ false
row_ordered_loud orders item row order h = by_rows orders.rows h
  where
    none : (b : Bool) → (b && false) ≡ false
    none true = refl
    none false = refl

    by_rows : (rows : List ((ℕ × ℕ) × Order)) → lookup (λ (k : ℕ × ℕ). nat_eq item k.0 && nat_eq row k.1) rows ≡ Some order → (is_empty orders.list && is_empty rows) ≡ false
    by_rows [] g = absurd (cc)
    by_rows (e ∷ es) g = none (is_empty orders.list)

order_in_some : (p : Phase) (o : Option Order) (order : Order) → order_in p o ≡ Some order → o ≡ Some order
order_in_some phase.Idle o order h = h
order_in_some phase.Open o order h = h
order_in_some phase.Aborted o order h = h
order_in_some phase.Lost o order h = absurd (cc)

-- what an order for the next row says of its server
pub record IsRowOrdered (s : ScriptedServer) (run : Option ℕ) : Type 0 where
  pub loud : is_none_ordered s.orders ≡ false
  pub back : kept_back run ≡ 1

pub row_ordered : (s : ScriptedServer) (run : Option ℕ) (order : Order) → row_order_for s run ≡ Some order → IsRowOrdered s run
row_ordered s None order h = absurd (cc)
row_ordered s (Some run) order h = record {
  loud = row_ordered_loud s.orders run (s.feed.given + 1) order (order_in_some (phase_of s.standing.state) (row_order_of s.orders run (s.feed.given + 1)) order h);
  back = refl;
}

-- each bind needs at least 32 bytes
pub binds_fit : (binds : List Bind) → 32 * length binds ≤ binds_bytes binds
binds_fit [] = omega arith
binds_fit (b ∷ bs) =
    let rest = binds_fit bs in
    let step : binds_bytes (b ∷ bs) ≡ value_bytes b.value + 32 + binds_bytes bs = sum_by-cons bind_bytes b bs in
    omega (arith, rest, step)
