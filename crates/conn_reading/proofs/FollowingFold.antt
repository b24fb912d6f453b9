-- The fold along the calls of a connection.
use Rattle.std.proofs.Common.{◌≡◌, Bool, true, false, ◌||◌, List, [], ◌∷◌, ◌++◌, refl, sym, ap, ◌∙◌, subst, Some, Ok, Err, inl, inr}
use Rattle.std.specs.List.{list_any}
use Rattle.std.specs.Option.{option_map}
use Rattle.std.proofs.lemmas.List.Folds.{list_any-append}
use Rattle.conn_model.specs.Process.{Process, Stop, Ask, Look, Tell}
use Rattle.conn_model.specs.States.{State, Idle, Open, Lost, Writes, state_of, kept}
use Rattle.conn_model.specs.declared.item.Dialect.{Dialect}
use Rattle.conn_model.specs.declared.item.Item.{Item}
use Rattle.conn_manager.specs.Manages.{Done, Reply}
use Rattle.conn_manager.specs.Statuses.{Status, no_depth}
use Rattle.conn_reading.specs.Folds.{Stack, alone, Nested, IsDoomed, after_items, after_reply, Commits, Sends, kind_of, after_step, fold_of, refuses_transaction, SetsInOpen, KeepsLive, AllKeepLive, FoldPremises, HoldsStack, NestedMeaning}
use Rattle.conn_reading.specs.Histories.{Operation, Begin, BeginBy, Commit, Rollback, TestBegin, Close, Asks, left_status, IsOperation, operation_process, Step, Follow, step_items, IsHistory}
use Rattle.conn_reading.specs.Reading.{Reads}
use Rattle.conn_reading.specs.Verdicts.{Part, part_of, Holds}
use Rattle.conn_reading.proofs.BlockEnds.{close_folds}
use Rattle.conn_reading.proofs.Folding.{begin_folds, begin_sql_folds, commit_folds, rollback_folds}
use Rattle.conn_reading.proofs.Following.{step_sound, history_sound}
use Rattle.conn_reading.proofs.Levels.{holds_stack}
use Rattle.conn_reading.proofs.Logs.{Sound, sound_at_first}
use Rattle.conn_reading.proofs.PlainNesting.{plainly_nests}
use Rattle.conn_reading.proofs.TestBegins.{test_begin_folds}

live_when : (r : Reply) (k : Stack) → KeepsLive Commits r k → r ≡ Ok tt → IsDoomed k.levels → ⊥
live_when (Ok u) k live ok = live
live_when (Err e) k live ok = absurd (cc)

sent_as : (S : Status) (s : State) (r : Reply) (k : Stack) → Nested S s k → Nested S s (after_reply Sends r k)
sent_as S s (Ok u) k n = n
sent_as S s (Err e) k n = n

-- what one call reads and answers
pub operation_folds : (d : Dialect) (operation : Operation) (S : Status) (s : State) (p : Part) (items : List Item) (a : Done) (end : State) (k : Stack) → IsOperation operation → Holds d S s p → Nested S s k → Reads d s (operation_process d S operation) items a end
    → list_any refuses_transaction items ≡ false → SetsInOpen d s items → KeepsLive (kind_of operation) a.reply (after_items items k) → Nested a.status end (after_reply (kind_of operation) a.reply (after_items items k))
operation_folds d Begin S s p items a end k is h n reads none opens live = begin_folds d S s p items a end k h n reads none opens
operation_folds d (BeginBy text) S s p items a end k is h n reads none opens live = begin_sql_folds d S s p text items a end k is h n reads none
operation_folds d Commit S s p items a end k is h n reads none opens live = commit_folds d S s p items a end k h n reads none (live_when a.reply (after_items items k) live)
operation_folds d Rollback S s p items a end k is h n reads none opens live = rollback_folds d S s p items a end k h n reads none
operation_folds d TestBegin S s p items a end k is h n reads none opens live = test_begin_folds d S s p items a end k h n reads none opens
operation_folds d (Close kind answer) S s p items a end k is h n reads none opens live = close_folds d kind answer S s p items a end k h n reads none live
operation_folds d (Asks f) S s p items a end k is h n reads none opens live = sent_as a.status end a.reply (after_items items k) (plainly_nests d left_status S s (f d S) items a end k (is d S) n reads)

pub or_false : (a b : Bool) → (a || b) ≡ false → (a ≡ false) × (b ≡ false)
or_false true b h = absurd (cc)
or_false false b h = (refl, h)

-- the items of a process end in the state after it
pub sets_split : {A : Type 0} (d : Dialect) (s : State) (process : Process A) (items more : List Item) (a : A) (end : State) → Reads d s process items a end → SetsInOpen d s (items ++ more) → SetsInOpen d s items × SetsInOpen d end more
sets_split d s (Stop x) [] more a end reads h = (tt, rw reads.1 h)
sets_split d s (Stop x) (i ∷ is) more a end reads h = absurd reads
sets_split d s (Tell event p) items more a end reads h = sets_split d s p items more a end reads h
sets_split d s (Ask call text next) [] more a end reads h = absurd reads
sets_split d s (Ask call text next) (i ∷ is) more a end reads h =
    let rest = sets_split d reads.2.0 (next _) is more a end reads.2.2.1 (h.1 reads.2.0 reads.2.1) in
    ((h.0, λ mid e. (let same : reads.2.0 ≡ mid = cc (sym reads.2.1 ∙ e) in subst (λ (x : State). SetsInOpen d x is) same rest.0)), rest.1)
sets_split d s (Look text next) [] more a end reads h = sets_split d s (next _) [] more a end reads.1 h
sets_split d s (Look text next) (i ∷ is) more a end (inl reads) h = sets_split d s (next _) (i ∷ is) more a end reads.1 h
sets_split d s (Look text next) (i ∷ is) more a end (inr reads) h =
    let rest = sets_split d reads.3.0 (next _) is more a end reads.3.2 (h.1 reads.3.0 reads.3.1) in
    ((h.0, λ mid e. (let same : reads.3.0 ≡ mid = cc (sym reads.3.1 ∙ e) in subst (λ (x : State). SetsInOpen d x is) same rest.0)), rest.1)

-- what is so of items is so of those in front
pub sets_front : (d : Dialect) (s : State) (items more : List Item) → SetsInOpen d s (items ++ more) → SetsInOpen d s items
sets_front d s [] more h = tt
sets_front d s (i ∷ is) more h = (h.0, λ mid e. sets_front d mid is more (h.1 mid e))

follow_folds : (d : Dialect) (S : Status) (s : State) (before : List Item) (steps : List Step) (end : State) (left : Status) (k : Stack) → Sound d S before s → Nested S s k → Follow d s S steps end left
    → list_any refuses_transaction (step_items steps) ≡ false → SetsInOpen d s (step_items steps) → AllKeepLive steps k → Nested left end (fold_of steps k)
follow_folds d S s before [] end left k sound n f none opens live = rw (f.0, f.1) n
follow_folds d S s before (e ∷ es) end left k sound n f none opens live =
    let after : State = f.1.0 in
    let reads = f.1.1 in
    let parted = or_false (list_any refuses_transaction e.items) (list_any refuses_transaction (step_items es)) (sym (list_any-append refuses_transaction e.items (step_items es)) ∙ none) in
    let opened = sets_split d s (operation_process d S e.operation) e.items (step_items es) e.answer after reads opens in
    let m = operation_folds d e.operation S s (part_of before) e.items e.answer after k f.0 sound.holds n reads parted.0 opened.0 live.0 in
    follow_folds d e.answer.status after (before ++ e.items) es end left (after_step e k) (step_sound d S s after before e f.0 sound f.1.1) m f.1.2 parted.1 opened.1 live.1

pub kept_lowest : (S : Status) (s : State) (k : Stack) → HoldsStack S s k → kept s ≡ k.lowest
kept_lowest S (Idle w) k n = sym (ap (λ (q : Stack). q.lowest) n)
kept_lowest S (Open o) k n = n.base
kept_lowest S (Lost w) k n = sym (ap (λ (q : Stack). q.lowest) n)

history_nests : (d : Dialect) (steps : List Step) (S : Status) → (h : IsHistory d steps S) → FoldPremises d steps → Nested S h.state (fold_of steps (alone []))
history_nests d steps S h premises = follow_folds d no_depth (Idle []) [] steps h.state S (alone []) (sound_at_first d) refl h.follows premises.none_refused premises.none_in_idle premises.live

-- the server holds the stack
pub stack_is_held : (d : Dialect) (steps : List Step) (S : Status) → IsHistory d steps S → FoldPremises d steps → NestedMeaning d S (step_items steps) (fold_of steps (alone []))
stack_is_held d steps S h premises = record { state = h.state; lawful = (history_sound d steps S h).gives.lawful; holds = holds_stack S h.state (fold_of steps (alone [])) (history_nests d steps S h premises) }

-- and so it keeps the lowest list
pub kept_is_the_fold : (d : Dialect) (steps : List Step) (S : Status) → IsHistory d steps S → FoldPremises d steps → option_map kept (state_of d (step_items steps)) ≡ Some (fold_of steps (alone [])).lowest
kept_is_the_fold d steps S h premises =
    let held = stack_is_held d steps S h premises in
    ap (option_map kept) held.lawful ∙ ap (λ (w : Writes). Some w) (kept_lowest S held.state (fold_of steps (alone [])) held.holds)
