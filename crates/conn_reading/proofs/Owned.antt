-- The items of a command are its own, and its connection's cache is as they leave it.
use Rattle.std.proofs.Common.{◌≡◌, ℕ, ◌-◌, true, false, List, [], ◌∷◌, ◌++◌, length, length-append, length-set, take, Bool, Option, Some, None, refl, sym, ap, subst, ◌∙◌, arith, inl, inr}
use Rattle.std.specs.Prelude.{if◌then◌else◌, is_some, slice_set}
use Rattle.std.specs.Option.{option_map}
use Rattle.std.proofs.Math.Seq.{take-append_seam}
use Rattle.std.proofs.lemmas.Bool.Decides.{leb_tells}
use Rattle.conn_result.specs.declared.pool.Error.{Error as PoolError}
use Rattle.conn_model.specs.Beginnings.{form_text}
use Rattle.conn_model.specs.Caches.{same_size, Known, Register}
use Rattle.conn_model.specs.Nuls.{nul_fault}
use Rattle.conn_model.specs.Process.{Process, Stop, map_process}
use Rattle.conn_model.specs.States.{State}
use Rattle.conn_model.specs.declared.item.Dialect.{Dialect}
use Rattle.conn_model.specs.declared.item.Item.{Item}
use Rattle.conn_model.specs.declared.cache.CacheSize.{CacheSize}
use Rattle.conn_manager.specs.Manages.{Done, begin_process, begin_sql_process, begin_test_process, commit_process, rollback_process, send_process}
use Rattle.conn_manager.specs.Statuses.{Status}
use Rattle.conn_cache.specs.QueryProcesses.{ping_view, resized, types_for}
use Rattle.conn_cache.specs.QueryViews.{QueryView}
use Rattle.conn_cache.specs.Registers.{register_sized}
use Rattle.conn_script.specs.Requests.{request_of, verb_word}
use Rattle.conn_script.specs.declared.command.Command.{Command}
use Rattle.conn_script.specs.declared.command.Word.{Word}
use Rattle.conn_script.specs.declared.query.Declared.{Declared}
use Rattle.conn_script.specs.declared.command.QueryCall.{QueryCall}
use Rattle.conn_script.specs.declared.request.Request.{Request}
use Rattle.conn_script.specs.declared.request.Request.TheVariants.{Get, Put, On}
use Rattle.conn_script.specs.declared.request.Verb.{Verb}
use Rattle.conn_reading.specs.Answered.{ServerLogs, Progress, Taken, readied, reads, reads_deed, reads_get, reads_on, reads_ready, get_refusal, seat_after, taken_on, taken_ready, with_blocks, with_left, with_slots}
use Rattle.conn_reading.specs.Asking.{Outcome, check_deed, close_process, declared_process, find_query, process_of, query_call_process, told_as, view_of}
use Rattle.conn_reading.specs.Blocks.{block_on, deed_of}
use Rattle.conn_reading.specs.Owning.{EachOwn, HandsOut, HasRegister, IsCallOf, IsOwn, IsOwnDeed, IsOwnOf, IsText, OwnAt, OwnGet, OwnItems, OwnKept, OwnOn, last_given, names_of, read_of, register_given, register_queried, register_read}
use Rattle.conn_reading.specs.Reading.{Read, Reads, read}
use Rattle.conn_reading.specs.Seats.{Seat, at_number}
use Rattle.conn_reading.specs.Sessions.{Each}
use Rattle.conn_reading.specs.declared.deed.Deed.{Deed}
use Rattle.conn_reading.specs.declared.deed.Deed.TheVariants as deeds
use Rattle.conn_reading.proofs.ByNumber.{at_past, at_within, at-set}
use Rattle.conn_reading.proofs.ItemsRead.{reads_front, reads_unmap}
use Rattle.conn_reading.proofs.Looks.{Texts, LooksWell, begins_by_text, begins_text, closings_text, commits_text, reads_so, rollbacks_text, so_looks, test_begins_text, text_asks, texts_map}
use Rattle.conn_reading.proofs.Queries.{DeedAsksOwn, call_own, counter_is, own_register, own_rise, own_so, ping_own}
use Rattle.conn_reading.proofs.Rising.{RisesTo, texts_unnamed}

-- ---- rows are looked at only after an item

declared_looks : (d : Dialect) (call : QueryCall) (o : Option Declared) (S : Status) (c : Known) → LooksWell false (declared_process d call o S c)
declared_looks d call None S c = tt
declared_looks d call (Some q) S c =
    so_looks (IsOwn d (view_of q) c.register) false (query_call_process d call q.shape (view_of q) S c) (own_so d (view_of q) c.register (λ (o : Outcome). o.status) (λ (o : Outcome). o.cache) false None S (query_call_process d call q.shape (view_of q) S c) (call_own d call q.shape (view_of q) S c))

told_looks : (c : Known) (p : Process Done) → Texts false p → LooksWell false (map_process (told_as c) p)
told_looks c p w = so_looks (λ call text. IsText call) false (map_process (told_as c) p) (texts_map (told_as c) false p w)

-- a command on a connection does so
pub command_looks : (d : Dialect) (queries : List Declared) (S : Status) (c : Known) (deed : Deed) → LooksWell false (process_of d queries S c deed)
command_looks d queries S c (deeds.Batch text) = told_looks c (send_process d text S) (text_asks d text (nul_fault d text) S)
command_looks d queries S c deeds.Begin = told_looks c (begin_process d S) (begins_text d S)
command_looks d queries S c (deeds.BeginBy form) = told_looks c (begin_sql_process d (form_text form) S) (begins_by_text d (form_text form) S)
command_looks d queries S c deeds.Commit = told_looks c (commit_process d S) (commits_text d S)
command_looks d queries S c deeds.Rollback = told_looks c (rollback_process d S) (rollbacks_text d S)
command_looks d queries S c deeds.TestBegin = told_looks c (begin_test_process d S) (test_begins_text d S)
command_looks d queries S c (deeds.Close kind answer) = told_looks c (close_process kind answer d S) (closings_text kind answer d S)
command_looks d queries S c (deeds.Query call n) = declared_looks d call (find_query n queries) S c
command_looks d queries S c (deeds.CacheSize size) = tt
command_looks d queries S c deeds.Ping =
    so_looks (IsOwn d ping_view c.register) false (process_of d queries S c deeds.Ping) (own_so d ping_view c.register (λ (o : Outcome). o.status) (λ (o : Outcome). o.cache) false None S (process_of d queries S c deeds.Ping) (ping_own d queries S c))

-- ---- what was read for a deed

-- these items are the deed's own, leave this cache, and give names that rise to its counter
pub record DeedOwns (d : Dialect) (queries : List Declared) (c : Known) (deed : Deed) (items : List Item) (after : Known) : Type 0 where
  pub own : Each (λ (i : Item). IsCallOf d queries c.register deed i.call i.text) items
  pub register : after.register ≡ register_read d queries deed items c.register
  pub names : RisesTo c.register.counter (names_of items) after.register.counter

-- those of a call of the manager, or of a text
record TextsOwn (c : Known) (items : List Item) (after : Known) : Type 0 where
  own : Each (λ (i : Item). IsText i.call) items
  cache : after ≡ c
  names : RisesTo c.register.counter (names_of items) after.register.counter

texts_own : (d : Dialect) (s : State) (c : Known) (p : Process Done) (items : List Item) (a : Outcome) (end : State) → Texts false p → Reads d s (map_process (told_as c) p) items a end → TextsOwn c items a.cache
texts_own d s c p items a end w reads =
    let m = reads_unmap (told_as c) d s p items a end reads in
    let own : Each (λ (i : Item). IsText i.call) items = reads_so (λ call text. IsText call) false d s p items m.value end w m.reads in
    let cache : a.cache ≡ c = ap (λ (o : Outcome). o.cache) m.made in
    let none : RisesTo c.register.counter [] a.cache.register.counter = omega (arith, ap (λ (x : Known). x.register.counter) cache) in
    record { own = own; cache = cache; names = subst (λ (ns : List ℕ). RisesTo c.register.counter ns a.cache.register.counter) (sym (texts_unnamed items own)) none }

-- those of a query
record QueryOwns (d : Dialect) (q : QueryView) (c : Known) (items : List Item) (after : Known) : Type 0 where
  own : Each (λ (i : Item). IsOwn d q c.register i.call i.text) items
  register : after.register ≡ register_given q (types_for d q) (last_given None items) c.register
  names : RisesTo c.register.counter (names_of items) after.register.counter

query_owns : (d : Dialect) (s : State) (q : QueryView) (c : Known) (S : Status) (p : Process Outcome) (items : List Item) (a : Outcome) (end : State) → DeedAsksOwn d q c S p → Reads d s p items a end → QueryOwns d q c items a.cache
query_owns d s q c S p items a end asks reads =
    let status : Outcome → Status = λ o. o.status in
    let cache : Outcome → Known = λ o. o.cache in
    let register : a.cache.register ≡ register_given q (types_for d q) (last_given None items) c.register = own_register d q c.register status cache false None S s p items a end asks reads in
    record {
      own = reads_so (IsOwn d q c.register) false d s p items a end (own_so d q c.register status cache false None S p asks) reads;
      register = register;
      names = subst (λ (n : ℕ). RisesTo c.register.counter (names_of items) n) (counter_is q (types_for d q) (last_given None items) c.register ∙ ap (λ (r : Register). r.counter) (sym register))
          (own_rise d q c.register status cache false None S s p items a end asks reads);
    }

-- what asks nothing reads nothing
record StopReads {A : Type 0} (x : A) (items : List Item) (a : A) : Type 0 where
  none : items ≡ []
  value : a ≡ x

stop_reads : {A : Type 0} (d : Dialect) (s : State) (x : A) (items : List Item) (a : A) (end : State) → Reads d s (Stop x) items a end → StopReads x items a
stop_reads d s x [] a end reads = record { none = refl; value = reads.0 }
stop_reads d s x (i ∷ is) a end reads = absurd reads

-- those of a query that a script has
record DeclaredOwns (d : Dialect) (o : Option Declared) (c : Known) (items : List Item) (after : Known) : Type 0 where
  own : Each (λ (i : Item). IsOwnOf d o c.register i.call i.text) items
  register : after.register ≡ register_queried d o items c.register
  names : RisesTo c.register.counter (names_of items) after.register.counter

declared_owns : (d : Dialect) (s : State) (call : QueryCall) (o : Option Declared) (c : Known) (S : Status) (items : List Item) (a : Outcome) (end : State) → Reads d s (declared_process d call o S c) items a end → DeclaredOwns d o c items a.cache
declared_owns d s call None c S items a end reads =
    let h = stop_reads d s _ items a end reads in
    let cache : a.cache ≡ c = ap (λ (x : Outcome). x.cache) h.value in
    let none : RisesTo c.register.counter [] a.cache.register.counter = omega (arith, ap (λ (x : Known). x.register.counter) cache) in
    record {
      own = subst (Each (λ (i : Item). IsOwnOf d None c.register i.call i.text)) (sym h.none) tt;
      register = ap (λ (x : Known). x.register) cache;
      names = subst (λ (l : List Item). RisesTo c.register.counter (names_of l) a.cache.register.counter) (sym h.none) none;
    }
declared_owns d s call (Some q) c S items a end reads =
    let h = query_owns d s (view_of q) c S (query_call_process d call q.shape (view_of q) S c) items a end (call_own d call q.shape (view_of q) S c) reads in
    record { own = h.own; register = h.register; names = h.names }

counter_sized : (size : CacheSize) (r : Register) → (register_sized size r).counter ≡ r.counter
counter_sized size r = elim (same_size size r.size) as (λ b. (if b then r else record { size = size; counter = r.counter; entries = [] }).counter ≡ r.counter) [ true ↦ refl | false ↦ refl ]

sized_owns : (d : Dialect) (s : State) (queries : List Declared) (size : CacheSize) (c : Known) (S : Status) (items : List Item) (a : Outcome) (end : State) → Reads d s (process_of d queries S c (deeds.CacheSize size)) items a end
    → DeedOwns d queries c (deeds.CacheSize size) items a.cache
sized_owns d s queries size c S items a end reads =
    let h = stop_reads d s _ items a end reads in
    let cache : a.cache ≡ resized size c = ap (λ (x : Outcome). x.cache) h.value in
    let none : RisesTo c.register.counter [] a.cache.register.counter = omega (arith, ap (λ (x : Known). x.register.counter) cache, counter_sized size c.register) in
    record {
      own = subst (Each (λ (i : Item). IsCallOf d queries c.register (deeds.CacheSize size) i.call i.text)) (sym h.none) tt;
      register = ap (λ (x : Known). x.register) cache;
      names = subst (λ (l : List Item). RisesTo c.register.counter (names_of l) a.cache.register.counter) (sym h.none) none;
    }

module _ (d : Dialect) (s : State) (S : Status) (queries : List Declared) (c : Known) (items : List Item) (a : Outcome) (end : State) where
  abbrev Owns : Deed → Type 0
  Owns deed = DeedOwns d queries c deed items a.cache

  abbrev Read_by : Deed → Type 0
  Read_by deed = Reads d s (process_of d queries S c deed) items a end

  pub deed_owns : (deed : Deed) → Read_by deed → Owns deed
  deed_owns (deeds.Batch text) reads =
      let h = texts_own d s c (send_process d text S) items a end (text_asks d text (nul_fault d text) S) reads in record { own = h.own; register = ap (λ (x : Known). x.register) h.cache; names = h.names }
  deed_owns deeds.Begin reads = let h = texts_own d s c (begin_process d S) items a end (begins_text d S) reads in record { own = h.own; register = ap (λ (x : Known). x.register) h.cache; names = h.names }
  deed_owns (deeds.BeginBy form) reads =
      let h = texts_own d s c (begin_sql_process d (form_text form) S) items a end (begins_by_text d (form_text form) S) reads in record { own = h.own; register = ap (λ (x : Known). x.register) h.cache; names = h.names }
  deed_owns deeds.Commit reads = let h = texts_own d s c (commit_process d S) items a end (commits_text d S) reads in record { own = h.own; register = ap (λ (x : Known). x.register) h.cache; names = h.names }
  deed_owns deeds.Rollback reads = let h = texts_own d s c (rollback_process d S) items a end (rollbacks_text d S) reads in record { own = h.own; register = ap (λ (x : Known). x.register) h.cache; names = h.names }
  deed_owns deeds.TestBegin reads = let h = texts_own d s c (begin_test_process d S) items a end (test_begins_text d S) reads in record { own = h.own; register = ap (λ (x : Known). x.register) h.cache; names = h.names }
  deed_owns (deeds.Close kind answer) reads =
      let h = texts_own d s c (close_process kind answer d S) items a end (closings_text kind answer d S) reads in record { own = h.own; register = ap (λ (x : Known). x.register) h.cache; names = h.names }
  deed_owns (deeds.Query call n) reads = let h = declared_owns d s call (find_query n queries) c S items a end reads in record { own = h.own; register = h.register; names = h.names }
  deed_owns (deeds.CacheSize size) reads = sized_owns d s queries size c S items a end reads
  deed_owns deeds.Ping reads = let h = query_owns d s ping_view c S (process_of d queries S c deeds.Ping) items a end (ping_own d queries S c) reads in record { own = h.own; register = h.register; names = h.names }

-- ---- along a session

used_is : (before used left : List Item) → before ≡ used ++ left → read_of before left ≡ used
used_is before used left e =
    let long : length before - length left ≡ length used = omega (arith, ap length e, length-append used left) in
    ap (λ (n : ℕ). take n before) long ∙ ap (take (length used)) e ∙ take-append_seam used left

left_at : (logs : ServerLogs) (n : ℕ) (rest : List Item) → with_left logs n rest n ≡ rest
left_at logs n rest = grind arith

own_on : (p : Progress) (logs : ServerLogs) (line n : ℕ) (word : Word) (deed : Deed) (o : Option Seat) (t : Taken) → at_number n p.context.out ≡ o → reads_on p logs line word deed n o ≡ Some t → OwnOn p logs n (Some deed) o t
own_on p logs line n word deed None t there is = tt
own_on p logs line n word deed (Some seat) t there is = by_read (read p.dialect p.armed seat.state (process_of p.dialect p.queries seat.status seat.cache deed) (logs seat.number)) refl is
  where
    by_read : (o : Option (Read Outcome)) → read p.dialect p.armed seat.state (process_of p.dialect p.queries seat.status seat.cache deed) (logs seat.number) ≡ o → option_map (taken_on p logs line word n seat) o ≡ Some t → OwnOn p logs n (Some deed) (Some seat) t
    by_read None e i = absurd (cc)
    by_read (Some r) e i =
        let same : taken_on p logs line word n seat r ≡ t = cc in
        let front = reads_front p.dialect p.armed seat.state (process_of p.dialect p.queries seat.status seat.cache deed) (logs seat.number) r e in
        let owns : DeedOwns p.dialect p.queries seat.cache deed front.used r.value.cache = deed_owns p.dialect seat.state seat.status p.queries seat.cache front.used r.value r.state deed front.each in
        let used : read_of (logs seat.number) (with_left logs seat.number r.left seat.number) ≡ front.used = ap (read_of (logs seat.number)) (left_at logs seat.number r.left) ∙ used_is (logs seat.number) front.used r.left front.all in
        subst (OwnOn p logs n (Some deed) (Some seat)) same
        (subst (λ (items : List Item). IsOwnDeed p.dialect p.queries deed seat.cache.register items (at_number n (taken_on p logs line word n seat r).progress.context.out)) (sym used)
        (record {
          own = owns.own;
          register = subst (HasRegister (register_read p.dialect p.queries deed front.used seat.cache.register)) (sym (at-set n p.context.out (Some (seat_after seat (length (logs seat.number)) r)) (at_within n p.context.out seat there))) owns.register;
        }))

own_deed : (p : Progress) (logs : ServerLogs) (line n : ℕ) (word : Word) (deed : Option Deed) (t : Taken) → reads_deed p logs line word deed n (at_number n p.context.out) ≡ Some t → OwnOn p logs n deed (at_number n p.context.out) t
own_deed p logs line n word None t is = tt
own_deed p logs line n word (Some deed) t is = own_on p logs line n word deed (at_number n p.context.out) t refl is

own_verb : (p : Progress) (logs : ServerLogs) (line n : ℕ) (verb : Verb) (t : Taken) → (let deed : Option Deed = deed_of (block_on n p.context.blocks) verb in option_map (with_blocks n verb) (reads_deed p logs line (verb_word verb) deed n (at_number n p.context.out)) ≡ Some t
    → OwnOn p logs n deed (at_number n p.context.out) t)
own_verb p logs line n verb t is = by_read (reads_deed p logs line (verb_word verb) deed n (at_number n p.context.out)) is (λ u e. own_deed p logs line n (verb_word verb) deed u e) refl
  where
    deed : Option Deed
    deed = deed_of (block_on n p.context.blocks) verb

    by_read : (o : Option Taken) → option_map (with_blocks n verb) o ≡ Some t → ((u : Taken) → reads_deed p logs line (verb_word verb) deed n (at_number n p.context.out) ≡ Some u → OwnOn p logs n deed (at_number n p.context.out) u)
        → reads_deed p logs line (verb_word verb) deed n (at_number n p.context.out) ≡ o → OwnOn p logs n deed (at_number n p.context.out) t
    by_read None i f e = absurd (cc)
    by_read (Some u) i f e =
        let same : with_blocks n verb u ≡ t = cc in
        subst (OwnOn p logs n deed (at_number n p.context.out)) same (still deed (at_number n p.context.out) u (f u e))
      where
        still : (x : Option Deed) (o : Option Seat) (v : Taken) → OwnOn p logs n x o v → OwnOn p logs n x o (with_blocks n verb v)
        still None o v h = tt
        still (Some y) None v h = tt
        still (Some y) (Some seat) v h = h

-- the check of a connection that was kept
module _ (p : Progress) (logs : ServerLogs) (line : ℕ) (deed : Deed) (seat : Seat) (r : Read Outcome) (t : Taken) where
  abbrev after : Seat
  after = seat_after seat (length (logs seat.number)) r

  -- where it is handed out it is out
  out_has : (register : Register) → r.value.cache.register ≡ register → is_some (at_number seat.number (slice_set p.context.out seat.number (Some after))) ≡ true
      → HasRegister register (at_number seat.number (slice_set p.context.out seat.number (Some after)))
  out_has register is there = elim (leb_tells (length p.context.out) seat.number) [
    | inl past ↦ (let none : at_number seat.number (slice_set p.context.out seat.number (Some after)) ≡ None = at_past seat.number (slice_set p.context.out seat.number (Some after)) (omega (arith, past.1, length-set p.context.out seat.number (Some after))) in
        absurd (cc))
    | inr within ↦ subst (HasRegister register) (sym (at-set seat.number p.context.out (Some after) within.1)) is
  ]

  readied_has : (e : Option PoolError) (register : Register) → r.value.cache.register ≡ register → let u : Taken = readied p (with_left logs seat.number r.left) line after e in HandsOut seat.number u → HasRegister register (at_number seat.number u.progress.context.out)
  readied_has None register is out = out_has register is out.1
  readied_has (Some e) register is out = absurd (cc)

  left_readied : (e : Option PoolError) → (readied p (with_left logs seat.number r.left) line after e).left seat.number ≡ r.left
  left_readied None = left_at logs seat.number r.left
  left_readied (Some e) = left_at logs seat.number r.left

  readied_own : (e : Option PoolError) → read p.dialect p.armed seat.state (process_of p.dialect p.queries seat.status seat.cache deed) (logs seat.number) ≡ Some r → OwnKept p logs (Some deed) seat (readied p (with_left logs seat.number r.left) line after e)
  readied_own e is =
      let front = reads_front p.dialect p.armed seat.state (process_of p.dialect p.queries seat.status seat.cache deed) (logs seat.number) r is in
      let owns : DeedOwns p.dialect p.queries seat.cache deed front.used r.value.cache = deed_owns p.dialect seat.state seat.status p.queries seat.cache front.used r.value r.state deed front.each in
      let u : Taken = readied p (with_left logs seat.number r.left) line after e in
      let used : read_of (logs seat.number) (u.left seat.number) ≡ front.used = ap (read_of (logs seat.number)) (left_readied e) ∙ used_is (logs seat.number) front.used r.left front.all in
      subst (λ (items : List Item). OwnItems p.dialect p.queries deed seat.cache.register items × (HandsOut seat.number u → HasRegister (register_read p.dialect p.queries deed items seat.cache.register) (at_number seat.number u.progress.context.out))) (sym used)
      (owns.own, readied_has e (register_read p.dialect p.queries deed front.used seat.cache.register) owns.register)

own_ready : (p : Progress) (logs : ServerLogs) (line : ℕ) (fresh : Bool) (deed : Option Deed) (seat : Seat) (t : Taken) → reads_ready p logs line fresh deed seat ≡ Some t → OwnKept p logs deed seat t
own_ready p logs line fresh None seat t is = tt
own_ready p logs line fresh (Some deed) seat t is = by_read (read p.dialect p.armed seat.state (process_of p.dialect p.queries seat.status seat.cache deed) (logs seat.number)) refl is
  where
    by_read : (o : Option (Read Outcome)) → read p.dialect p.armed seat.state (process_of p.dialect p.queries seat.status seat.cache deed) (logs seat.number) ≡ o → option_map (taken_ready p logs line fresh seat) o ≡ Some t → OwnKept p logs (Some deed) seat t
    by_read None e i = absurd (cc)
    by_read (Some r) e i =
        let same : taken_ready p logs line fresh seat r ≡ t = cc in
        subst (OwnKept p logs (Some deed) seat) same (readied_own p logs line deed seat r t (get_refusal fresh (seat_after seat (length (logs seat.number)) r) r.value.reply) e)

own_get : (p : Progress) (logs : ServerLogs) (line : ℕ) (slots : List (Option Seat)) (t : Taken) → reads_get p logs line slots ≡ Some t → OwnGet p logs slots t
own_get p logs line [] t is = tt
own_get p logs line (None ∷ rest) t is = tt
own_get p logs line (Some seat ∷ rest) t is = own_ready (with_slots p rest) logs line false (check_deed p.policy.check) seat t is

pub own_at : (p : Progress) (logs : ServerLogs) (line : ℕ) (request : Request) (t : Taken) → reads p logs line request ≡ Some t → OwnAt p logs request t
own_at p logs line Get t is = own_get p logs line p.context.slots t is
own_at p logs line (Put n) t is = tt
own_at p logs line (On n verb) t is = own_verb p logs line n verb t is

-- each command of a session
pub each_own : (p : Progress) (logs : ServerLogs) (commands : List Command) → EachOwn p logs commands
each_own p logs [] = tt
each_own p logs (c ∷ cs) = λ t is. (own_at p logs c.line (request_of c.act) t is, each_own t.progress t.left cs)
