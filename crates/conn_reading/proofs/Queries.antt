-- What a query asks: calls of its own, whose texts ask nothing of a transaction, and rows only after an item; and what becomes of
-- the cache.
use Rattle.std.proofs.Common.{◌≡◌, ℕ, ◌+◌, Bool, true, false, List, [], ◌∷◌, ◌++◌, Option, Some, None, Result, inl, inr, refl, sym, ap, subst, ◌∙◌, arith}
use Rattle.std.specs.Prelude.{⊤, if◌then◌else◌, is_none}
use Rattle.conn_result.specs.declared.error.Error.{Error}
use Rattle.conn_model.specs.Armed.{Values}
use Rattle.conn_model.specs.Classes.{class, begins, is_begin, is_built, is_write, same_text, number_behind}
use Rattle.conn_model.specs.Process.{Process, Stop, Ask, Look, Tell, Heard, given_rows, map_process, plain_heard, refusal_of}
use Rattle.conn_model.specs.States.{State, told_of}
use Rattle.conn_model.specs.declared.item.Answer.{Answer}
use Rattle.conn_model.specs.declared.item.Answer.TheVariants.{Accepted, Refused}
use Rattle.conn_model.specs.declared.item.Call.{Call}
use Rattle.conn_model.specs.declared.item.Call.TheVariants.{Exec, Prepare, Run, Fetch}
use Rattle.conn_model.specs.declared.item.Dialect.{Dialect}
use Rattle.conn_model.specs.declared.item.Dialect.TheVariants.{Pg, Mysql, Sqlite}
use Rattle.conn_model.specs.declared.item.Item.{Item}
use Rattle.conn_model.specs.declared.item.Refusal.{Refusal}
use Rattle.conn_model.specs.declared.value.BindType.{BindType}
use Rattle.conn_manager.specs.Statuses.{Status, retold}
use Rattle.conn_server.specs.Logged.{is_accepted}
use Rattle.conn_model.specs.Caches.{Known, Register}
use Rattle.conn_cache.specs.LoadProcesses.{load_process, looked, looks, rows_heard}
use Rattle.conn_cache.specs.QueryProcesses.{Asked, asked_without_value, columns_at, counted, execute_process, lacks_metadata, ping_process, ping_view, prepared, query_process, ran, runs, runs_due, runs_plain, runs_with, types_for, unless_fault, with_new}
use Rattle.conn_cache.specs.Faults.{query_fault}
use Rattle.conn_cache.specs.QueryViews.{QueryView}
use Rattle.conn_cache.specs.Registers.{due}
use Rattle.conn_cache.specs.declared.entry.Due.{Due}
use Rattle.conn_cache.specs.declared.entry.Due.TheVariants as dues
use Rattle.conn_report.specs.declared.entry.Reply.{Reply}
use Rattle.conn_report.specs.declared.entry.Reply.TheVariants as replies
use Rattle.conn_script.specs.declared.query.Declared.{Declared}
use Rattle.conn_script.specs.declared.command.QueryCall.{QueryCall}
use Rattle.conn_script.specs.declared.command.QueryCall.TheVariants as query_calls
use Rattle.conn_reading.specs.Asking.{Outcome, asked_as, list_reply, loaded_as, one_reply, optional_reply, process_of, query_call_process, rows_process}
use Rattle.conn_reading.specs.Owning.{IsNamed, IsOwn, given_by, last_given, name_given, names_of, register_given}
use Rattle.conn_reading.specs.Plainly.{Plainly}
use Rattle.conn_reading.specs.Reading.{Reads, heard_with}
use Rattle.conn_reading.specs.RowShapes.{RowShape}
use Rattle.conn_reading.specs.Verdicts.{is_plain}
use Rattle.conn_reading.specs.declared.deed.Deed.TheVariants as deeds
use Rattle.conn_reading.proofs.Looks.{AsksSo}
use Rattle.conn_reading.proofs.Rising.{RisesTo}

-- a name is given once
abbrev pub GivesOnce : Option Bool → Call → Type 0
GivesOnce g Exec = ⊤
GivesOnce g (Prepare None) = ⊤
GivesOnce g (Prepare (Some name)) = g ≡ None
GivesOnce g (Run binds) = ⊤
GivesOnce g Fetch = ⊤

accepted_is : (a : Answer) → is_none (refusal_of a) ≡ is_accepted a
accepted_is Accepted = refl
accepted_is (Refused r e) = refl

empty_plain : is_plain (class []) ≡ true
unfolding class begins is_begin is_built is_write same_text number_behind
empty_plain = refl

own_plain : (d : Dialect) (q : QueryView) (r : Register) (call : Call) (text : List ℕ) → is_plain (class q.sql) ≡ true → IsOwn d q r call text → is_plain (class text) ≡ true
own_plain d q r Exec text plain h = absurd h
own_plain d q r (Prepare name) text plain h = subst (λ (t : List ℕ). is_plain (class t) ≡ true) (sym h.0) plain
own_plain d q r (Run binds) text plain h = subst (λ (t : List ℕ). is_plain (class t) ≡ true) (sym h.1) plain
own_plain d q r Fetch text plain h = subst (λ (t : List ℕ). is_plain (class t) ≡ true) (sym h) empty_plain

given_is : (call call' : Call) (a : Answer) (g : Option Bool) → call' ≡ call → given_by call (is_none (refusal_of a)) g ≡ given_by call' (is_accepted a) g
given_is call call' a g same = ap (λ (b : Bool). given_by call b g) (accepted_is a) ∙ ap (λ (c : Call). given_by c (is_accepted a) g) (sym same)

module _ {A : Type 0} (d : Dialect) (q : QueryView) (r : Register) (status : A → Status) (cache : A → Known) where
  -- from here on, where an item was asked just before or not, a name was given or not, and the status is this: each call is the
  -- query's own, and it ends with the status that is told and the register that is due
  abbrev pub AsksOwn : Bool → Option Bool → Status → Process A → Type 0
  AsksOwn b g S (Stop a) = (status a ≡ S) × ((cache a).register ≡ register_given q (types_for d q) g r)
  AsksOwn b g S (Tell event p) = AsksOwn b g S p
  AsksOwn b g S (Ask call text next) = IsOwn d q r call text × GivesOnce g call × ((h : Heard) → AsksOwn true (given_by call (is_none h.refusal) g) (retold d h.refusal h.told S) (next h))
  AsksOwn b g S (Look text next) = (b ≡ true) × ((h : Heard) → AsksOwn false g (looked d h.refusal h.told S) (next h))

  pub own_so : (b : Bool) (g : Option Bool) (S : Status) (p : Process A) → AsksOwn b g S p → AsksSo (IsOwn d q r) b p
  own_so b g S (Stop a) h = tt
  own_so b g S (Tell event p) h = own_so b g S p h
  own_so b g S (Ask call text next) h = (h.0, λ x. own_so true (given_by call (is_none x.refusal) g) (retold d x.refusal x.told S) (next x) (h.2 x))
  own_so b g S (Look text next) h = (h.0, refl, λ x. own_so false g (looked d x.refusal x.told S) (next x) (h.1 x))

  pub own_plainly : (b : Bool) (g : Option Bool) (S : Status) (p : Process A) → is_plain (class q.sql) ≡ true → AsksOwn b g S p → Plainly d status S p
  own_plainly b g S (Stop a) plain h = h.0
  own_plainly b g S (Tell event p) plain h = own_plainly b g S p plain h
  own_plainly b g S (Ask call text next) plain h = (own_plain d q r call text plain h.0, λ x. own_plainly true (given_by call (is_none x.refusal) g) (retold d x.refusal x.told S) (next x) plain (h.2 x))
  own_plainly b g S (Look text next) plain h = λ x. own_plainly false g (looked d x.refusal x.told S) (next x) plain (h.1 x)

  -- the register that its items leave
  pub own_register : (b : Bool) (g : Option Bool) (S : Status) (s : State) (p : Process A) (items : List Item) (a : A) (end : State) → AsksOwn b g S p → Reads d s p items a end
      → (cache a).register ≡ register_given q (types_for d q) (last_given g items) r
  own_register b g S s (Stop x) [] a end h reads = ap (λ (y : A). (cache y).register) reads.0 ∙ h.1
  own_register b g S s (Stop x) (i ∷ is) a end h reads = absurd reads
  own_register b g S s (Tell event p) items a end h reads = own_register b g S s p items a end h reads
  own_register b g S s (Ask call text next) [] a end h reads = absurd reads
  own_register b g S s (Ask call text next) (i ∷ is) a end h reads =
      let heard : Heard = heard_with d reads.2.0 i.answer reads.2.2.0 in
      own_register true (given_by call (is_none heard.refusal) g) (retold d heard.refusal heard.told S) reads.2.0 (next heard) is a end (h.2 heard) reads.2.2.1
      ∙ ap (λ (x : Option Bool). register_given q (types_for d q) (last_given x is) r) (given_is call i.call i.answer g reads.0)
  own_register b g S s (Look text next) [] a end h reads = own_register false g S s (next (given_rows reads.0)) [] a end (h.1 (given_rows reads.0)) reads.1
  own_register b g S s (Look text next) (i ∷ is) a end h (inl reads) = own_register false g S s (next (given_rows reads.0)) (i ∷ is) a end (h.1 (given_rows reads.0)) reads.1
  own_register b g S s (Look text next) (i ∷ is) a end h (inr reads) =
      let heard : Heard = plain_heard (Some reads.0) (told_of d reads.3.0) in
      own_register false g (looked d heard.refusal heard.told S) reads.3.0 (next heard) is a end (h.1 heard) reads.3.2
      ∙ ap (λ (x : Item). register_given q (types_for d q) (last_given (given_by x.call (is_accepted x.answer) g) is) r) (sym reads.2)

-- a name that is given is the next number
named_is : (d : Dialect) (counter name : ℕ) (x : Due) → IsNamed d counter x (Some name) → name ≡ counter + 1
named_is Pg counter name dues.Plain h = absurd h
named_is Mysql counter name dues.Plain h = absurd (cc)
named_is Sqlite counter name dues.Plain h = absurd (cc)
named_is d counter name dues.New h = cc
named_is d counter name (dues.Found place) h = absurd h
named_is d counter name dues.Clash h = absurd h
named_is d counter name dues.Exhausted h = absurd h

-- the counter where a name was given or not
abbrev counter_given : ℕ → Option Bool → ℕ
counter_given n None = n
counter_given n (Some accepted) = n + 1

pub counter_is : (q : QueryView) (types : List BindType) (g : Option Bool) (r : Register) → counter_given r.counter g ≡ (register_given q types g r).counter
counter_is q types None r = refl
counter_is q types (Some true) r = refl
counter_is q types (Some false) r = refl

-- the names of some items rise to the counter that they leave
abbrev pub Rise : Register → Option Bool → List Item → Type 0
Rise r g items = RisesTo (counter_given r.counter g) (names_of items) (counter_given r.counter (last_given g items))

module _ (d : Dialect) (q : QueryView) (r : Register) where
  -- one call of the query's more
  rise_first : (g : Option Bool) (call : Call) (text : List ℕ) (accepted : Bool) (is : List Item) → IsOwn d q r call text → GivesOnce g call
      → (let h : Option Bool = given_by call accepted g in RisesTo (counter_given r.counter h) (names_of is) (counter_given r.counter (last_given h is))
      → RisesTo (counter_given r.counter g) (name_given call ++ names_of is) (counter_given r.counter (last_given h is)))
  rise_first g Exec text accepted is own once rest = absurd own
  rise_first g (Prepare None) text accepted is own once rest = rest
  rise_first g (Prepare (Some name)) text accepted is own once rest =
      let next : name ≡ r.counter + 1 = named_is d r.counter name (due q (types_for d q) r) own.1 in
      let none : counter_given r.counter g ≡ r.counter = ap (counter_given r.counter) once in
      (omega (arith, next, none), subst (λ (n : ℕ). RisesTo n (names_of is) (counter_given r.counter (last_given (Some accepted) is))) (sym next) rest)
  rise_first g (Run binds) text accepted is own once rest = rest
  rise_first g Fetch text accepted is own once rest = rest

module _ {A : Type 0} (d : Dialect) (q : QueryView) (r : Register) (status : A → Status) (cache : A → Known) where
  pub own_rise : (b : Bool) (g : Option Bool) (S : Status) (s : State) (p : Process A) (items : List Item) (a : A) (end : State) → AsksOwn d q r status cache b g S p → Reads d s p items a end → Rise r g items
  own_rise b g S s (Stop x) [] a end h reads = omega arith
  own_rise b g S s (Stop x) (i ∷ is) a end h reads = absurd reads
  own_rise b g S s (Tell event p) items a end h reads = own_rise b g S s p items a end h reads
  own_rise b g S s (Ask call text next) [] a end h reads = absurd reads
  own_rise b g S s (Ask call text next) (i ∷ is) a end h reads =
      let heard : Heard = heard_with d reads.2.0 i.answer reads.2.2.0 in
      let rest : Rise r (given_by call (is_none heard.refusal) g) is =
      own_rise true (given_by call (is_none heard.refusal) g) (retold d heard.refusal heard.told S) reads.2.0 (next heard) is a end (h.2 heard) reads.2.2.1 in
      subst (λ (c : Call). RisesTo (counter_given r.counter g) (name_given c ++ names_of is) (counter_given r.counter (last_given (given_by c (is_accepted i.answer) g) is))) (sym reads.0)
      (rise_first d q r g call text (is_accepted i.answer) is h.0 h.1
      (subst (λ (x : Option Bool). Rise r x is) (ap (λ (t : Bool). given_by call t g) (accepted_is i.answer)) rest))
  own_rise b g S s (Look text next) [] a end h reads = own_rise false g S s (next (given_rows reads.0)) [] a end (h.1 (given_rows reads.0)) reads.1
  own_rise b g S s (Look text next) (i ∷ is) a end h (inl reads) = own_rise false g S s (next (given_rows reads.0)) (i ∷ is) a end (h.1 (given_rows reads.0)) reads.1
  own_rise b g S s (Look text next) (i ∷ is) a end h (inr reads) =
      let heard : Heard = plain_heard (Some reads.0) (told_of d reads.3.0) in
      subst (λ (x : Item). RisesTo (counter_given r.counter g) (name_given x.call ++ names_of is) (counter_given r.counter (last_given (given_by x.call (is_accepted x.answer) g) is))) (sym reads.2)
      (own_rise false g (looked d heard.refusal heard.told S) reads.3.0 (next heard) is a end (h.1 heard) reads.3.2)

-- a process whose value is made of another's, with its status and its cache
pub own_map : {A B : Type 0} (f : A → B) (d : Dialect) (q : QueryView) (r : Register) (status : A → Status) (cache : A → Known) (status' : B → Status) (cache' : B → Known)
    → ((a : A) → status' (f a) ≡ status a) → ((a : A) → cache' (f a) ≡ cache a) → (b : Bool) (g : Option Bool) (S : Status) (p : Process A) → AsksOwn d q r status cache b g S p → AsksOwn d q r status' cache' b g S (map_process f p)
own_map f d q r status cache status' cache' same kept b g S (Stop a) h = (same a ∙ h.0, ap (λ (c : Known). c.register) (kept a) ∙ h.1)
own_map f d q r status cache status' cache' same kept b g S (Tell event p) h = own_map f d q r status cache status' cache' same kept b g S p h
own_map f d q r status cache status' cache' same kept b g S (Ask call text next) h = (h.0, h.1, λ x. own_map f d q r status cache status' cache' same kept true (given_by call (is_none x.refusal) g) (retold d x.refusal x.told S) (next x) (h.2 x))
own_map f d q r status cache status' cache' same kept b g S (Look text next) h = (h.0, λ x. own_map f d q r status cache status' cache' same kept false g (looked d x.refusal x.told S) (next x) (h.1 x))

-- ---- a query

module _ {A : Type 0} (loads : Bool) (d : Dialect) (q : QueryView) (after : ℕ → Status → Known → Process (Asked A)) (c0 : Known) where
  abbrev Own : Bool → Option Bool → Status → Process (Asked A) → Type 0
  Own b g S p = AsksOwn d q c0.register (λ (a : Asked A). a.status) (λ (a : Asked A). a.cache) b g S p

  -- the cache is as it is where a name was given or not
  abbrev Stands : Option Bool → Known → Type 0
  Stands g c = c.register ≡ register_given q (types_for d q) g c0.register

  module _ (so : (n : ℕ) (S : Status) (c : Known) (g : Option Bool) → Stands g c → Own true g S (after n S c)) where
    either : (b : Bool) (g : Option Bool) (S : Status) (t : Bool) (x y : Process (Asked A)) → Own b g S x → Own b g S y → Own b g S (if t then x else y)
    either b g S true x y h k = h
    either b g S false x y h k = k

    ran_own : (x : Option Refusal) (n : ℕ) (S : Status) (c : Known) (g : Option Bool) → Stands g c → Own true g S (ran loads d q after x n S c)
    ran_own None n S c g h = so n S c g h
    ran_own (Some x) n S c g h = (refl, h)

    runs_own : (b : Bool) (S : Status) (c : Known) (g : Option Bool) → Stands g c → Own b g S (runs loads d q after S c)
    runs_own b S c g h = ((refl, refl), tt, λ x. ran_own x.refusal x.affected (retold d x.refusal x.told S) c g h)

    runs_with_own : (b : Bool) (columns : ℕ) (S : Status) (c : Known) (g : Option Bool) → Stands g c → Own b g S (runs_with loads d q after columns S c)
    runs_with_own b columns S c g h = either b g S (lacks_metadata loads d columns) _ _ (refl, h) (runs_own b S c g h)

    prepared_own : (x : Option Refusal) (columns : ℕ) (S : Status) (c : Known) (g : Option Bool) → Stands g c → Own true g S (prepared loads d q after x columns S c)
    prepared_own None columns S c g h = runs_with_own true columns S c g h
    prepared_own (Some x) columns S c g h = (refl, h)

    unnamed : (e : Dialect) → e ≡ d → IsNamed e c0.register.counter dues.Plain None → due q (types_for d q) c0.register ≡ dues.Plain → IsNamed d c0.register.counter (due q (types_for d q) c0.register) None
    unnamed e same h is = subst (λ (x : Due). IsNamed d c0.register.counter x None) (sym is) (subst (λ (x : Dialect). IsNamed x c0.register.counter dues.Plain None) same h)

    plain_own : (e : Dialect) (S : Status) → e ≡ d → due q (types_for d q) c0.register ≡ dues.Plain → Own false None S (runs_plain loads d q after e S c0)
    plain_own Pg S same is = runs_own false S c0 None refl
    plain_own Mysql S same is = ((refl, unnamed Mysql same refl is), tt, λ x. prepared_own x.refusal x.columns (retold d x.refusal x.told S) c0 None refl)
    plain_own Sqlite S same is = ((refl, unnamed Sqlite same refl is), tt, λ x. prepared_own x.refusal x.columns (retold d x.refusal x.told S) c0 None refl)

    named_new : (e : Dialect) → IsNamed e c0.register.counter dues.New (Some (c0.register.counter + 1))
    named_new Pg = refl
    named_new Mysql = refl
    named_new Sqlite = refl

    new_stands : (x : Option Refusal) (columns : ℕ) → Stands (Some (is_none x)) (with_new q (types_for d q) x columns c0)
    new_stands None columns = refl
    new_stands (Some x) columns = refl

    due_own : (x : Due) (S : Status) → due q (types_for d q) c0.register ≡ x → Own false None S (runs_due loads d q after x S c0)
    due_own dues.Plain S is = plain_own d S refl is
    due_own (dues.Found place) S is = runs_with_own false (columns_at place c0) S c0 None refl
    due_own dues.Clash S is = (refl, refl)
    due_own dues.Exhausted S is = (refl, refl)
    due_own dues.New S is = (
      (refl, subst (λ (x : Due). IsNamed d c0.register.counter x (Some (c0.register.counter + 1))) (sym is) (named_new d)),
      refl,
      λ x. prepared_own x.refusal x.columns (retold d x.refusal x.told S) (with_new q (types_for d q) x.refusal x.columns c0) (Some (is_none x.refusal)) (new_stands x.refusal x.columns),
    )

    fault_own : (e : Option Error) (S : Status) → Own false None S (unless_fault loads d q after e S c0)
    fault_own (Some e) S = (refl, refl)
    fault_own None S = due_own (due q (types_for d q) c0.register) S refl

    pub query_own : (S : Status) → Own false None S (query_process loads d q after S c0)
    query_own S = fault_own (query_fault d q) S

-- ---- what a command makes of one

-- what a deed asks, of a connection with this cache
abbrev pub DeedAsksOwn : Dialect → QueryView → Known → Status → Process Outcome → Type 0
DeedAsksOwn d q c S p = AsksOwn d q c.register (λ (o : Outcome). o.status) (λ (o : Outcome). o.cache) false None S p

execute_own : (d : Dialect) (q : QueryView) (S : Status) (c : Known) → AsksOwn d q c.register (λ (a : Asked ℕ). a.status) (λ (a : Asked ℕ). a.cache) false None S (execute_process d q S c)
execute_own d q S c = query_own false d q (counted q) c (λ n S1 c1 g h. (refl, h)) S

load_own : (d : Dialect) (q : QueryView) (S : Status) (c : Known) → AsksOwn d q c.register (λ (a : Asked (List Values)). a.status) (λ (a : Asked (List Values)). a.cache) false None S (load_process rows_heard d q S c)
load_own d q S c = query_own true d q (looks rows_heard d q) c (λ n S1 c1 g h. (refl, λ x. (refl, h))) S

rows_own : (reply : Result (List Values) Error → Reply) (d : Dialect) (q : QueryView) (S : Status) (c : Known) → DeedAsksOwn d q c S (rows_process reply d q S c)
rows_own reply d q S c =
    own_map (loaded_as reply) d q c.register (λ (a : Asked (List Values)). a.status) (λ (a : Asked (List Values)). a.cache) (λ (o : Outcome). o.status) (λ (o : Outcome). o.cache) (λ a. refl) (λ a. refl) false None S (load_process rows_heard d q S c) (load_own d q S c)

pub call_own : (d : Dialect) (call : QueryCall) (shape : RowShape) (q : QueryView) (S : Status) (c : Known) → DeedAsksOwn d q c S (query_call_process d call shape q S c)
call_own d query_calls.Exec shape q S c =
    own_map (asked_as replies.Count) d q c.register (λ (a : Asked ℕ). a.status) (λ (a : Asked ℕ). a.cache) (λ (o : Outcome). o.status) (λ (o : Outcome). o.cache) (λ a. refl) (λ a. refl) false None S (execute_process d q S c) (execute_own d q S c)
call_own d query_calls.Load shape q S c = rows_own (list_reply shape) d q S c
call_own d query_calls.Each shape q S c = rows_own (list_reply shape) d q S c
call_own d query_calls.One shape q S c = rows_own (one_reply shape) d q S c
call_own d query_calls.Optional shape q S c = rows_own (optional_reply shape) d q S c

pub ping_own : (d : Dialect) (queries : List Declared) (S : Status) (c : Known) → DeedAsksOwn d ping_view c S (process_of d queries S c deeds.Ping)
ping_own d queries S c =
    own_map (asked_as (λ (u : Unit {0}). replies.Ok)) d ping_view c.register (λ (a : Asked (Unit {0})). a.status) (λ (a : Asked (Unit {0})). a.cache) (λ (o : Outcome). o.status) (λ (o : Outcome). o.cache) (λ a. refl) (λ a. refl) false None S (ping_process d S c)
    (own_map asked_without_value d ping_view c.register (λ (a : Asked ℕ). a.status) (λ (a : Asked ℕ). a.cache) (λ (a : Asked (Unit {0})). a.status) (λ (a : Asked (Unit {0})). a.cache) (λ a. refl) (λ a. refl) false None S (execute_process d ping_view S c)
    (execute_own d ping_view S c))
