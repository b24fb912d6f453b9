-- The invariant over a log, how a process that is read of it keeps it, and what it gives.
use Rattle.std.proofs.Common.{◌≡◌, ℕ, Bool, true, false, ◌||◌, if◌then◌else◌, List, [], ◌∷◌, ◌++◌, refl, subst, sym, ap, ◌∙◌, append_assoc, append-nil, Option, Some, None, inl, inr}
use Rattle.std.specs.List.{list_any}
use Rattle.std.specs.Option.{option_and_then}
use Rattle.conn_model.specs.Process.{Process, Stop, Ask, Look, Tell, Heard, plain_heard, given_rows, row_refused}
use Rattle.conn_model.specs.States.{State, Idle, Open, Lost, step, step_by, steps, state_of, state_of-append, is_closed, told_of}
use Rattle.conn_model.specs.declared.item.Call.{Call}
use Rattle.conn_model.specs.declared.item.Dialect.{Dialect}
use Rattle.conn_model.specs.declared.item.Item.{Item}
use Rattle.conn_manager.specs.Statuses.{Status, valid, no_depth}
use Rattle.conn_manager.specs.declared.status.InTransactionStatus.{InTransactionStatus}
use Rattle.conn_manager.specs.declared.status.TransactionManagerStatus.TheVariants.{Valid, InError}
use Rattle.conn_reading.specs.Reading.{Beside, heard_with, Reads}
use Rattle.conn_reading.specs.Verdicts.{Part, fresh, part_of, part_after, current, opens, is_refusal, breaks, runs_class, is_begin_class, BeginsClosed, Holds, HoldsIn, HoldsAt, Verdict, IsBorneOut, DepthOver, DepthOverIn, DepthOverAt, StandsOver}
use Rattle.conn_reading.proofs.Safe.{Safe}

-- ---- the current part of a log with one item more

any_last : (p : Item → Bool) (xs : List Item) (i : Item) → list_any p (xs ++ i ∷ []) ≡ (p i || list_any p xs)
any_last p [] i = refl
any_last p (x ∷ xs) i = ap (λ (b : Bool). p x || b) (any_last p xs i) ∙ swapped (p x) (p i) (list_any p xs)
  where
    swapped : (a b c : Bool) → (a || (b || c)) ≡ (b || (a || c))
    swapped true true c = refl
    swapped true false c = refl
    swapped false true c = refl
    swapped false false c = refl

current-last : (log : List Item) (i : Item) → current (log ++ i ∷ []) ≡ (if opens i then [] else current log ++ i ∷ [])
current-last [] i = ended (opens i)
  where
    ended : (b : Bool) → (if b || false then [] else i ∷ []) ≡ (if b then [] else i ∷ [])
    ended true = refl
    ended false = refl
current-last (x ∷ log) i = rw (any_last opens log i) (by_cases (opens x) (opens i) (list_any opens log) (current-last log i))
  where
    by_cases : (a b c : Bool) → current (log ++ i ∷ []) ≡ (if b then [] else current log ++ i ∷ []) → (if a || (b || c) then current (log ++ i ∷ []) else x ∷ (log ++ i ∷ [])) ≡ (if b then [] else (if a || c then current log else x ∷ log) ++ i ∷ [])
    by_cases true true c h = h
    by_cases true false c h = h
    by_cases false true c h = h
    by_cases false false true h = h
    by_cases false false false h = refl

part-last : (log : List Item) (i : Item) → part_of (log ++ i ∷ []) ≡ part_after (part_of log) i.call i.text i.answer
part-last log i =
    ap (λ (is : List Item). record { refused = list_any is_refusal is; broke = list_any breaks is }) (current-last log i) ∙ by_case (opens i)
  where
    by_case : (b : Bool) → (let is : List Item = if b then [] else current log ++ i ∷ [] in let q : Part = record { refused = list_any is_refusal is; broke = list_any breaks is } in q)
        ≡ (let q : Part = record { refused = is_refusal i || list_any is_refusal (current log); broke = breaks i || list_any breaks (current log) } in if b then fresh else q)
    by_case true = refl
    by_case false = rw (any_last is_refusal (current log) i, any_last breaks (current log) i)

-- ---- a log and its state

-- the log gives this state, and each Begin item in it found its server without a transaction
pub record Gives (d : Dialect) (log : List Item) (s : State) : Type 0 where
  pub lawful : state_of d log ≡ Some s
  pub begins : BeginsClosed d (Idle []) log

state-last : (d : Dialect) (log : List Item) (s after : State) (i : Item) → state_of d log ≡ Some s → step d s i ≡ Some after → state_of d (log ++ i ∷ []) ≡ Some after
state-last d log s after i lawful is = state_of-append d log i ∙ ap (λ (o : Option State). option_and_then (λ s. step d s i) o) lawful ∙ is

begins-last : (d : Dialect) (s end : State) (log : List Item) (i : Item) → steps d (Some s) log ≡ Some end → BeginsClosed d s log → (runs_class is_begin_class i.call i.text ≡ true → is_closed end ≡ true) → BeginsClosed d s (log ++ i ∷ [])
begins-last d s end [] i is begins closed =
    let same : s ≡ end = cc in
    (λ e. (let c : is_closed end ≡ true = closed e in subst (λ (x : State). is_closed x ≡ true) (sym same) c), λ after e. tt)
begins-last d s end (x ∷ log) i is begins closed = (begins.0, λ after e. (let on : steps d (Some after) log ≡ Some end = rw e at is in begins-last d after end log i on (begins.1 after e) closed))

gives_more : (d : Dialect) (log : List Item) (s after : State) (i : Item) → Gives d log s → (runs_class is_begin_class i.call i.text ≡ true → is_closed s ≡ true) → step d s i ≡ Some after → Gives d (log ++ i ∷ []) after
gives_more d log s after i gives closed is = record { lawful = state-last d log s after i gives.lawful is; begins = begins-last d (Idle []) s log i gives.lawful gives.begins closed }

-- ---- the invariant of a status, a log and the state that it gives

pub record Sound (d : Dialect) (S : Status) (log : List Item) (s : State) : Type 0 where
  pub gives : Gives d log s
  pub holds : Holds d S s (part_of log)

-- of a new connection
pub sound_at_first : (d : Dialect) → Sound d no_depth [] (Idle [])
sound_at_first d = record { gives = record { lawful = refl; begins = tt }; holds = record { lost = tt; status = refl } }

module _ {A : Type 0} (d : Dialect) (status : A → Status) where
  -- what is safe for the call and text that were asked is so for those of the item
  safe_at : (s after : State) (p : Part) (call : Call) (text : List ℕ) (next : Heard → Process A) (i : Item) (b : Beside) → i.call ≡ call → i.text ≡ text → step d s i ≡ Some after → Safe d status s p (Ask call text next)
      → (runs_class is_begin_class i.call i.text ≡ true → is_closed s ≡ true) × Safe d status after (part_after p i.call i.text i.answer) (next (heard_with d after i.answer b))
  safe_at s after p call text next i b same_call same_text is safe =
      let asked : (c : Call) (t : List ℕ) → c ≡ call → t ≡ text → step_by d s c t i.answer ≡ Some after
      → (runs_class is_begin_class c t ≡ true → is_closed s ≡ true) × Safe d status after (part_after p c t i.answer) (next (heard_with d after i.answer b)) =
      (λ c t e f g. rw (e, f) (safe.0, safe.1 i.answer after (rw (e, f) at g) b)) in
      asked i.call i.text same_call same_text is

  sound_by : (process : Process A) (s : State) (before items : List Item) (a : A) (end : State) → Gives d before s → Safe d status s (part_of before) process → Reads d s process items a end → Sound d (status a) (before ++ items) end
  sound_by (Stop x) s before [] a end gives safe reads = rw (append-nil before, reads.0, reads.1) (record { gives = gives; holds = safe })
  sound_by (Stop x) s before (i ∷ is) a end gives safe reads = absurd reads
  sound_by (Tell event p) s before items a end gives safe reads = sound_by p s before items a end gives safe reads
  sound_by (Ask call text next) s before [] a end gives safe reads = absurd reads
  sound_by (Ask call text next) s before (i ∷ is) a end gives safe reads =
      let after : State = reads.2.0 in
      let h = safe_at s after (part_of before) call text next i reads.2.2.0 reads.0 reads.1 reads.2.1 safe in
      let rest = sound_by (next (heard_with d after i.answer reads.2.2.0)) after (before ++ i ∷ []) is a end (gives_more d before s after i gives h.0 reads.2.1)
      (subst (λ (p : Part). Safe d status after p (next (heard_with d after i.answer reads.2.2.0))) (sym (part-last before i)) h.1) reads.2.2.1 in
      subst (λ (l : List Item). Sound d (status a) l end) (append_assoc before (i ∷ []) is) rest
  sound_by (Look text next) s before [] a end gives safe reads = sound_by (next (given_rows reads.0)) s before [] a end gives (safe.0 reads.0) reads.1
  sound_by (Look text next) s before (i ∷ is) a end gives safe (inl reads) = sound_by (next (given_rows reads.0)) s before (i ∷ is) a end gives (safe.0 reads.0) reads.1
  sound_by (Look text next) s before (i ∷ is) a end gives safe (inr reads) =
      let r = reads.0 in
      let e = reads.1 in
      let after : State = reads.3.0 in
      let row : Item = row_refused r e in
      let stepped : step d s row ≡ Some after = subst (λ (x : Item). step d s x ≡ Some after) reads.2 reads.3.1 in
      let more : Gives d (before ++ row ∷ []) after = gives_more d before s after row gives (λ b. absurd (cc)) stepped in
      let here : Safe d status after (part_of (before ++ row ∷ [])) (next (plain_heard (Some r) (told_of d after))) =
      subst (λ (p : Part). Safe d status after p (next (plain_heard (Some r) (told_of d after)))) (sym (part-last before row)) (safe.1 r e after stepped) in
      let rest = sound_by (next (plain_heard (Some r) (told_of d after))) after (before ++ row ∷ []) is a end more here reads.3.2 in
      subst (λ (x : Item). Sound d (status a) (before ++ x ∷ is) end) (sym reads.2) (subst (λ (l : List Item). Sound d (status a) l end) (append_assoc before (row ∷ []) is) rest)

  -- a safe process keeps the invariant over the items that it reads
  pub sound_reads : (S : Status) (s : State) (before items : List Item) (process : Process A) (a : A) (end : State) → Sound d S before s → ((p : Part) → Holds d S s p → Safe d status s p process) → Reads d s process items a end
      → Sound d (status a) (before ++ items) end
  sound_reads S s before items process a end sound safe reads = sound_by process s before items a end sound.gives (safe (part_of before) sound.holds) reads

-- ---- what it gives

borne_out_in : (d : Dialect) (o : Option InTransactionStatus) (s : State) (log : List Item) → HoldsIn d o s (part_of log) → IsBorneOut (valid o) s (current log)
borne_out_in d None s log h = inl h
borne_out_in d (Some t) (Idle w) log h = inr (inl (h.2.1, h.2.2))
borne_out_in d (Some t) (Open o) log h = inl (h.0, h.1, h.2.0)
borne_out_in d (Some t) (Lost w) log h = inl (h.0, h.1, tt)

borne_out_of : (d : Dialect) (S : Status) (s : State) (log : List Item) → Holds d S s (part_of log) → IsBorneOut S s (current log)
borne_out_of d (Valid v) s log h = borne_out_in d v.in_transaction s log h.status
borne_out_of d InError s log h = inr (inr (tt, h.status))

-- the status is borne out
pub sound_verdict : (d : Dialect) (S : Status) (log : List Item) (s : State) → Sound d S log s → Verdict d S log
sound_verdict d S log s sound = record { state = s; lawful = sound.gives.lawful; borne_out = borne_out_of d S s log sound.holds }

depth_over_at : (d : Dialect) (t : InTransactionStatus) (s : State) (p : Part) → HoldsAt d t s p → DepthOverAt d t s
depth_over_at d t (Idle w) p h = (h.0, h.1)
depth_over_at d t (Open o) p h = h.0
depth_over_at d t (Lost w) p h = tt

depth_over_in : (d : Dialect) (o : Option InTransactionStatus) (s : State) (p : Part) → HoldsIn d o s p → DepthOverIn d o s
depth_over_in d None s p h = tt
depth_over_in d (Some t) s p h = depth_over_at d t s p h.2

depth_over : (d : Dialect) (S : Status) (s : State) (p : Part) → Holds d S s p → DepthOver d S s
depth_over d (Valid v) s p h = depth_over_in d v.in_transaction s p h.status
depth_over d InError s p h = tt

-- the depth stands over the server
pub sound_stands : (d : Dialect) (S : Status) (log : List Item) (s : State) → Sound d S log s → StandsOver d S log
sound_stands d S log s sound = record { state = s; lawful = sound.gives.lawful; depth = depth_over d S s (part_of log) sound.holds; begins = sound.gives.begins }
