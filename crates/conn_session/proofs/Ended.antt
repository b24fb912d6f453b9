-- From no server to all of them given back: their logs answer the entries.
use Rattle.std.proofs.Common.{◌≡◌, ◌≢◌, ℕ, zero, suc, ◌+◌, ◌<◌, ◌≤◌, Bool, true, List, [], ◌∷◌, Option, Some, None, Result, Ok, Err, IfOk, refl, sym, ap, subst, ◌∙◌, arith, inl, inr}
use Rattle.std.specs.Prelude.{replicate, sum_by}
use Rattle.std.specs.List.{AllByRecursion}
use Rattle.std.specs.Option.{option_and_then, unwrap_or}
use Rattle.std.proofs.lemmas.Bool.{cases_lt, cases_eq}
use Rattle.std.proofs.lemmas.Bool.Decides.{nat_tests}
use Rattle.std.proofs.lemmas.List.{length-replicate}
use Rattle.std.proofs.lemmas.List.Sums.{sum_by-cons}
use Rattle.conn_model.specs.Armed.{armed_of}
use Rattle.conn_model.specs.Obeyed.{Obeys, obedient, obeyed}
use Rattle.conn_manager.specs.Views.{View}
use Rattle.conn_model.specs.Seen.{Seen, writes_seen}
use Rattle.conn_model.specs.States.{State, Idle, state_of, step}
use Rattle.conn_model.specs.declared.item.Dialect.{Dialect}
use Rattle.conn_model.specs.declared.item.Item.{Item}
use Rattle.conn_model.specs.declared.plan.Order.{Order}
use Rattle.conn_model.specs.declared.plan.PlanLine.{PlanLine}
use Rattle.conn_reading.specs.Answered.{ServerLogs, Progress, started}
use Rattle.conn_reading.specs.Asking.{Policy, policy_of}
use Rattle.conn_reading.specs.Seats.{Context, Seat, at_first}
use Rattle.conn_reading.specs.Readings.{ReadsAll}
use Rattle.conn_reading.proofs.InOrder.{is_answered, is_opened}
use Rattle.conn_report.specs.declared.entry.Entry.{Entry}
use Rattle.conn_script.specs.declared.command.Command.{Command}
use Rattle.conn_script.specs.declared.command.Script.{Script}
use Rattle.conn_script.specs.declared.query.Declared.{Declared}
use Rattle.conn_drivers.specs.Establishing.{AreAt, url_fault}
use Rattle.conn_server.specs.Connected.{Connected, first_returned, writes_by}
use Rattle.conn_server.specs.Ordered.{planned}
use Rattle.conn_session.specs.Accounts.{AllBack, logs_of}
use Rattle.conn_session.specs.Commands.{IsAnswered, TellsKept, EachTold, RunsScript}
use Rattle.conn_session.specs.Known.{Has, IsKnown, OfServer, progress}
use Rattle.conn_session.specs.Plays.{PlaysAll}
use Rattle.conn_session.specs.Steps.{KeepsAll, RunsAll, Closes}
use Rattle.conn_session.specs.Worlds.{Pool, World, Invariant, each_server, new_pool, of_number, part, refusals, context_of, seats_of}
use Rattle.conn_session.proofs.Counts.{all_caused_by}
use Rattle.conn_session.proofs.Totals

-- ---- the first server of a number

first_head : (s : Seen) (ss : List Seen) (n : ℕ) → s.number ≡ n → first_returned n (s ∷ ss) ≡ Some s
first_head s ss n e = grind (arith, nat_tests)

first_tail : (s : Seen) (ss : List Seen) (n : ℕ) → s.number ≢ n → first_returned n (s ∷ ss) ≡ first_returned n ss
first_tail s ss n e = grind (arith, nat_tests)

abbrev count : ℕ → List Seen → ℕ
count n ss = sum_by (of_number n) ss

tail_count : (n : ℕ) (s : Seen) (ss : List Seen) → s.number ≢ n → count n (s ∷ ss) ≡ count n ss
tail_count n s ss d = omega (arith, sum_by-cons (of_number n) s ss, Totals.number_other n s d)

head_count : (n : ℕ) (s : Seen) (ss : List Seen) → s.number ≡ n → count n (s ∷ ss) ≡ 1 + count n ss
head_count n s ss e = omega (arith, sum_by-cons (of_number n) s ss, Totals.number_here n s e)

-- what each of them has, the first of a number has that is there
there : (P : Seen → Type 0) (n : ℕ) (ss : List Seen) → count n ss ≡ 1 → AllByRecursion P ss → (s : Seen) × (first_returned n ss ≡ Some s) × (s.number ≡ n) × P s
there P n [] one all = absurd (omega arith)
there P n (s ∷ ss) one all = elim (cases_eq s.number n) [
  | inl same ↦ (s, first_head s ss n same, same, all.0)
  | inr differs ↦ (let rest = there P n ss (sym (tail_count n s ss differs) ∙ one) all.1 in (rest.0, first_tail s ss n differs ∙ rest.1, rest.2, rest.3))
]

absent : (n : ℕ) (ss : List Seen) → count n ss ≡ 0 → first_returned n ss ≡ None
absent n [] none = refl
absent n (s ∷ ss) none = elim (cases_eq s.number n) [
  | inl same ↦ absurd (omega (arith, head_count n s ss same, none))
  | inr differs ↦ first_tail s ss n differs ∙ absent n ss (sym (tail_count n s ss differs) ∙ none)
]

-- ---- of a server that has its log

log_of : Option Seen → List Item
log_of o = unwrap_or (option_and_then (λ (s : Seen). s.log) o) []

-- its committed writes are those that its log keeps
kept_has : (d : Dialect) (plan : List PlanLine) (logs : ServerLogs) (s : Seen) → Has d plan logs s → TellsKept d (unwrap_or s.log []) (writes_seen s)
kept_has d plan logs s h =
    let honest = h.honest in
    let lawful : state_of d honest.items ≡ Some honest.state = subst (λ (x : Dialect). state_of x honest.items ≡ Some honest.state) h.dialect_is honest.lawful in
    record {
      state = honest.state;
      lawful = ap (λ (l : Option (List Item)). state_of d (unwrap_or l [])) honest.is_log ∙ lawful;
      told_is = rw (honest.is_log, honest.lawful);
    }

-- orders that are the same are obeyed alike
obedient-same : (d : Dialect) (f g : ℕ → Option Order) (s : Option State) (n : ℕ) (is : List Item) → ((m : ℕ) → f m ≡ g m) → obedient d f s n is ≡ obedient d g s n is
obedient-same d f g s n [] e = refl
obedient-same d f g s n (i ∷ is) e =
    ap (λ (o : Option Order). obeyed d o s i ∷ obedient d f (option_and_then (λ (s : State). step d s i) s) (suc n) is) (e (suc n))
    ∙ ap (λ (r : List Item). obeyed d (g (suc n)) s i ∷ r) (obedient-same d f g (option_and_then (λ (s : State). step d s i) s) (suc n) is e)

-- its log obeys the plan
obeys_has : (d : Dialect) (plan : List PlanLine) (logs : ServerLogs) (n : ℕ) (s : Seen) → s.number ≡ n → Has d plan logs s → Obeys d (planned plan n) (unwrap_or s.log [])
obeys_has d plan logs n s same h =
    let honest = h.honest in
    let obeys : Obeys d s.orders honest.items = subst (λ (x : Dialect). Obeys x s.orders honest.items) h.dialect_is honest.obeys in
    let by_plan : Obeys d (planned plan n) honest.items = sym (obedient-same d s.orders (planned plan n) (Some (Idle [])) 0 honest.items (λ m. h.orders m ∙ ap (λ (k : ℕ). planned plan k m) same)) ∙ obeys in
    subst (λ (l : Option (List Item)). Obeys d (planned plan n) (unwrap_or l [])) (sym honest.is_log) by_plan

-- ---- of all servers, once they are back

module _ (d : Dialect) (plan : List PlanLine) (logs : ServerLogs) (k : Connected) (back : AllBack k) (have : AllByRecursion (Has d plan logs) k.returned) where
  logs_back : ((n : ℕ) → k.opened ≤ n → logs n ≡ []) → (n : ℕ) → logs_of k.returned n ≡ logs n
  logs_back fresh n = elim (cases_lt n k.opened) [
    | inl lt ↦ (let h = there (Has d plan logs) n k.returned (back.once n lt) have in rw h.1 (ap (λ (l : Option (List Item)). unwrap_or l []) h.3.log_is ∙ ap logs h.2))
    | inr le ↦ rw (absent n k.returned (back.none n le)) (sym (fresh n le))
  ]

  each_obeys : (n : ℕ) → n < k.opened → Obeys d (planned plan n) (logs_of k.returned n)
  each_obeys n lt = (let h = there (Has d plan logs) n k.returned (back.once n lt) have in rw h.1 (obeys_has d plan logs n h.0 h.2 h.3))

  each_kept : EachTold d k (λ n. writes_by true n k.returned)
  each_kept n lt = (let h = there (Has d plan logs) n k.returned (back.once n lt) have in rw h.1 (kept_has d plan logs h.0 h.3))

-- ---- a script over new servers

abbrev pub script_pool : Script → Pool
script_pool script = new_pool script.dialect script.url script.max_size (policy_of script) script.queries

abbrev pub at_start : Script → Connected → World
at_start script k = record { pool = script_pool script; connector = k }

-- a session of the script's settings, URL and queries
pub starts : (script : Script) (k : Connected) (w : World) (queries : List Declared) → w.pool ≡ new_pool w.pool.dialect w.pool.url script.max_size (policy_of script) queries
    → w.pool.dialect ≡ script.dialect → w.pool.url ≡ script.url → queries ≡ script.queries → w.connector ≡ k → w ≡ at_start script k
starts script k w queries is same_dialect same_url same_queries same =
    ap (λ (p : Pool). record { pool = p; connector = w.connector })
    (is ∙ ap (λ (d : Dialect). new_pool d w.pool.url script.max_size (policy_of script) queries) same_dialect
    ∙ ap (λ (u : List ℕ). new_pool script.dialect u script.max_size (policy_of script) queries) same_url
    ∙ ap (new_pool script.dialect script.url script.max_size (policy_of script)) same_queries)
    ∙ ap (λ (c : Connected). at_start script c) same

-- empty slots have no server
empty_all : (P : Seen → Type 0) (n : ℕ) → AllByRecursion (OfServer P) (replicate n None)
empty_all P zero = tt
empty_all P (suc n) = (tt, empty_all P n)

empty_seats : (n : ℕ) → seats_of (replicate n None) ≡ replicate n None
empty_seats zero = refl
empty_seats (suc n) = ap (λ (l : List (Option Seat)). None ∷ l) (empty_seats n)

empty_sum : (f : Seen → ℕ) (n : ℕ) → sum_by (part f) (replicate n None) ≡ 0
empty_sum f zero = refl
empty_sum f (suc n) = omega (arith, sum_by-cons (part f) None (replicate n None), empty_sum f n)

-- what holds of a session holds of a new one
pub start_holds : (dialect : Dialect) (url : List ℕ) (size : ℕ) (policy : Policy) (queries : List Declared) (k : Connected) → k.opened ≡ 0 → k.returned ≡ []
    → Invariant (record { pool = new_pool dialect url size policy queries; connector = k })
start_holds dialect url size policy queries k opened returned = record {
  accounts = record {
    once = λ n l. absurd (omega (arith, opened, l));
    none = λ n l. omega (arith, empty_sum (of_number n) size, ap (sum_by (of_number n)) returned);
  };
  places = sym opened;
  placed = tt;
  slots = (let none : Option View = None in omega (arith, length-replicate size none, empty_sum each_server size));
  room = omega (arith, empty_sum each_server size);
}

-- and where its servers are opened is no part of it
pub holds_over : (w : World) (dialect : Dialect) (url : List ℕ) → Invariant w → Invariant (record { pool = record w.pool { dialect = dialect; url = url }; connector = w.connector })
holds_over w dialect url holds = record {
  accounts = record { once = holds.accounts.once; none = holds.accounts.none };
  places = holds.places;
  placed = holds.placed;
  slots = holds.slots;
  room = holds.room;
}

known_start : (script : Script) (k : Connected) → k.returned ≡ [] → IsKnown (λ n. []) (at_start script k)
known_start script k returned = record {
  servers = record { slots = empty_all (Has script.dialect k.armed (λ n. [])) script.max_size; out = tt; returned = subst (AllByRecursion (Has script.dialect k.armed (λ n. []))) (sym returned) tt };
  fresh = λ n l. refl;
}

start_is : (script : Script) (k : Connected) → k.opened ≡ 0 → k.attempts ≡ 0 → k.armed ≡ script.plan → progress (at_start script k) ≡ started script
start_is script k opened attempts plan =
    ap (λ (n : ℕ). record (progress (at_start script k)) { context = record (context_of (at_start script k)) { opened = n } }) opened
    ∙ ap (λ (n : ℕ). record (progress (at_start script k)) { context = record (context_of (at_start script k)) { opened = 0 }; attempts = n }) attempts
    ∙ ap (λ (p : List PlanLine). record (progress (at_start script k)) { context = record (context_of (at_start script k)) { opened = 0 }; attempts = 0; plan = p; armed = armed_of p }) plan
    ∙ ap (λ (slots : List (Option Seat)). record (started script) { context = record (at_first script.max_size) { slots = slots } }) (empty_seats script.max_size)

-- each server is back, once
pub all_back : (w : World) (k : Connected) → Invariant w → Closes w k → AllBack k
all_back w k holds closed = record {
  once = λ n l. closed.totals (of_number n) ∙ holds.accounts.once n (omega (arith, closed.opened, l));
  none = λ n l. closed.totals (of_number n) ∙ holds.accounts.none n (omega (arith, closed.opened, l));
}

module _ (honest : Bool) (script : Script) (old new : Connected) (w : World) (entries : List Entry) (opened : old.opened ≡ 0) (returned : old.returned ≡ [])
    (keeps : KeepsAll (at_start script old) w) (runs : RunsAll honest script.commands (at_start script old) w entries) (closed : Closes w new) where
  plan_is : w.connector.armed ≡ old.armed
  plan_is = keeps.opening.plan

  have_all : (logs : ServerLogs) → IsKnown logs w → AllByRecursion (Has script.dialect old.armed logs) new.returned
  have_all logs known = subst (λ (d : Dialect). AllByRecursion (Has d old.armed logs) new.returned) keeps.opening.dialect
      (subst (λ (p : List PlanLine). AllByRecursion (Has w.pool.dialect p logs) new.returned) plan_is (closed.known logs known))

  run_answered : honest ≡ true → old.attempts ≡ 0 → old.armed ≡ script.plan → IsAnswered script new entries
  run_answered h attempts armed =
      let run = runs.grows h (λ n. []) (known_start script old returned) in
      let back = all_back w new keeps.holds closed in
      let have = have_all run.0 run.1 in
      let read : ReadsAll (started script) run.0 script.commands entries (progress w) =
      subst (λ (p : Progress). ReadsAll p run.0 script.commands entries (progress w)) (start_is script old opened attempts armed) run.2 in
      let same = logs_back script.dialect old.armed run.0 new back have (λ n l. run.1.fresh n (omega (arith, closed.opened, l))) in
      record {
        entries_are = is_answered script (logs_of new.returned) run.0 entries (progress w) read same;
        opened = is_opened script (logs_of new.returned) run.0 entries (progress w) read same ∙ ap (λ (n : ℕ). Some n) (sym closed.opened);
        obeys = λ n l. subst (λ (p : List PlanLine). Obeys script.dialect (planned p n) (logs_of new.returned n)) armed (each_obeys script.dialect old.armed run.0 new back have n l);
      }

  run_kept : honest ≡ true → EachTold script.dialect new (λ n. writes_by true n new.returned)
  run_kept h =
      let run = runs.grows h (λ n. []) (known_start script old returned) in
      each_kept script.dialect old.armed run.0 new (all_back w new keeps.holds closed) (have_all run.0 run.1)

  context_start : context_of (at_start script old) ≡ at_first script.max_size
  context_start =
      ap (λ (n : ℕ). record (context_of (at_start script old)) { opened = n }) opened
      ∙ ap (λ (slots : List (Option Seat)). record (at_first script.max_size) { slots = slots }) (empty_seats script.max_size)

  pub runs_script : RunsScript honest script old new entries
  runs_script = record {
    played = (context_of w, subst (λ (c : Context). PlaysAll (url_fault script.dialect script.url) (policy_of script) c script.commands entries (context_of w)) context_start runs.plays_entries);
    caused = all_caused_by (at_start script old) w (λ n. sum_by (refusals n) new.returned) new.failures entries closed.counts (λ n. closed.totals (refusals n)) (runs.caused tt).0;
    answered = run_answered;
    kept = run_kept;
  }

-- ---- whatever the run answered

module _ (script : Script) (old new : Connected) (first w : World) (start : first ≡ at_start script old) (keeps : KeepsAll first w) (closed : Closes w new) where
  keeps_start : KeepsAll (at_start script old) w
  keeps_start = subst (λ (x : World). KeepsAll x w) start keeps

  pub result_runs : {X E : Type 0} (honest : Bool) (commands : List Command) (items : X → List Entry) (result : Result X E) → commands ≡ script.commands → old.opened ≡ 0 → old.returned ≡ []
      → IfOk result (λ x. RunsAll honest commands first w (items x)) → IfOk result (λ x. RunsScript honest script old new (items x))
  result_runs honest commands items (Err e) same opened returned runs = tt
  result_runs honest commands items (Ok x) same opened returned runs =
      runs_script honest script old new w (items x) opened returned keeps_start
      (subst (λ (y : World). RunsAll honest script.commands y w (items x)) start (subst (λ (cs : List Command). RunsAll honest cs first w (items x)) same runs)) closed

  -- each attempt was where the URL says
  pub attempts_at : AreAt script.dialect script.url old.targets → AreAt script.dialect script.url new.targets
  attempts_at at = subst (AreAt script.dialect script.url) (sym closed.targets) (keeps_start.opening.aims at)

  pub armed_same : new.armed ≡ old.armed
  armed_same = closed.plan ∙ keeps_start.opening.plan
