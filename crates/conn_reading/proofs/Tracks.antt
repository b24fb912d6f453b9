-- The history of a connection, as far as its log was read.
use Rattle.std.proofs.Common.{◌≡◌, ℕ, ◌+◌, ◌-◌, Bool, true, false, List, [], ◌∷◌, ◌++◌, length, take, drop, refl, sym, ap, ◌∙◌, subst, append_assoc, append-nil, length-append, arith}
use Rattle.std.proofs.Math.Seq.{take-append_seam, drop-append_seam}
use Rattle.conn_model.specs.States.{State, Idle}
use Rattle.conn_model.specs.declared.item.Dialect.{Dialect}
use Rattle.conn_model.specs.declared.item.Item.{Item}
use Rattle.conn_manager.specs.Manages.{Done}
use Rattle.conn_manager.specs.Statuses.{Status, no_depth}
use Rattle.conn_model.specs.Caches.{nothing_known, Register}
use Rattle.conn_reading.specs.Asking.{Policy}
use Rattle.conn_reading.specs.Folds.{Stack, alone, after_items, kind_of, after_step, fold_of, KeepsLive, AllKeepLive}
use Rattle.conn_reading.specs.Histories.{Operation, IsOperation, operation_process, Step, Follow, step_items, StartsSetUp, IsHistory}
use Rattle.conn_reading.specs.Owning.{names_of}
use Rattle.conn_reading.specs.Reading.{Read, Reads}
use Rattle.conn_reading.specs.Sessions.{Folded, between}
use Rattle.conn_reading.specs.declared.blocks.Block.{Block}
use Rattle.conn_reading.proofs.Rising.{RisesTo, names-append, rises-append}

-- ---- a track

-- the calls of a connection so far, and the status, the state and its cache's register after them
pub record Track : Type 0 where
  pub steps : List Step
  pub status : Status
  pub state : State
  pub register : Register

-- no call
abbrev pub no_track : Track
no_track = record { steps = []; status = no_depth; state = Idle []; register = nothing_known.register }

-- some call was made
abbrev pub has_call : List Step → Bool
has_call [] = false
has_call (e ∷ es) = true

-- the calls are a history, have read all but what is left, and gave names that rise to the counter
pub record IsTrack (d : Dialect) (log left : List Item) (t : Track) : Type 0 where
  pub follows : Follow d (Idle []) no_depth t.steps t.state t.status
  pub all : log ≡ step_items t.steps ++ left
  pub names : RisesTo 0 (names_of (step_items t.steps)) t.register.counter

pub is_no_track : (d : Dialect) (log : List Item) → IsTrack d log log no_track
is_no_track d log = record { follows = (refl, refl); all = refl; names = omega arith }

-- one call more
abbrev pub moved : Track → Operation → List Item → Read Done → Register → Track
moved t operation used r register = record { steps = t.steps ++ record { operation = operation; items = used; answer = r.value } ∷ []; status = r.value.status; state = r.state; register = register }

follow-last : (d : Dialect) (s end after : State) (S left : Status) (steps : List Step) (e : Step) → Follow d s S steps end left → IsOperation e.operation → Reads d end (operation_process d left e.operation) e.items e.answer after
    → Follow d s S (steps ++ e ∷ []) after e.answer.status
follow-last d s end after S left [] e f is reads =
    let here : Reads d s (operation_process d left e.operation) e.items e.answer after = subst (λ (x : State). Reads d x (operation_process d left e.operation) e.items e.answer after) f.0 reads in
    (is, (after, subst (λ (X : Status). Reads d s (operation_process d X e.operation) e.items e.answer after) f.1 here, (refl, refl)))
follow-last d s end after S left (x ∷ steps) e f is reads = (f.0, (f.1.0, f.1.1, follow-last d f.1.0 end after x.answer.status left steps e f.1.2 is reads))

-- what set itself up stays so
pub set_up-last : (steps : List Step) (e : Step) → StartsSetUp steps → StartsSetUp (steps ++ e ∷ [])
set_up-last [] e h = absurd h
set_up-last (x ∷ steps) e h = h

pub items-last : (steps : List Step) (e : Step) → step_items (steps ++ e ∷ []) ≡ step_items steps ++ e.items
items-last [] e = append-nil e.items
items-last (x ∷ steps) e = ap (λ (l : List Item). x.items ++ l) (items-last steps e) ∙ sym (append_assoc x.items (step_items steps) e.items)

pub moved_is : (d : Dialect) (operation : Operation) (log left : List Item) (t : Track) (used : List Item) (r : Read Done) (register : Register) → left ≡ used ++ r.left → Reads d t.state (operation_process d t.status operation) used r.value r.state → IsOperation operation
    → RisesTo t.register.counter (names_of used) register.counter → IsTrack d log left t → IsTrack d log r.left (moved t operation used r register)
moved_is d operation log left t used r register all each is names h =
    let e : Step = record { operation = operation; items = used; answer = r.value } in
    record {
      follows = follow-last d (Idle []) t.state r.state no_depth t.status t.steps e h.follows is each;
      all = h.all ∙ ap (λ (l : List Item). step_items t.steps ++ l) all ∙ sym (append_assoc (step_items t.steps) used r.left) ∙ ap (λ (l : List Item). l ++ r.left) (sym (items-last t.steps e));
      names = subst (λ (ns : List ℕ). RisesTo 0 ns register.counter) (sym (ap names_of (items-last t.steps e) ∙ names-append (step_items t.steps) used))
          (rises-append 0 t.register.counter register.counter (names_of (step_items t.steps)) (names_of used) h.names names);
    }

pub moved_count : (t : Track) (operation : Operation) (used : List Item) (r : Read Done) (register : Register) → length (step_items (moved t operation used r register).steps) ≡ length (step_items t.steps) + length used
moved_count t operation used r register = ap length (items-last t.steps (record { operation = operation; items = used; answer = r.value })) ∙ length-append (step_items t.steps) used

-- the log up to what was read is that of the calls
pub track_log : (d : Dialect) (log left : List Item) (t : Track) (mark : ℕ) → IsTrack d log left t → length (step_items t.steps) ≡ mark → take mark log ≡ step_items t.steps
track_log d log left t mark h count = ap (λ (l : List Item). take mark l) h.all ∙ ap (λ (n : ℕ). take n (step_items t.steps ++ left)) (sym count) ∙ take-append_seam (step_items t.steps) left

-- the calls are a history that ends with their status
pub track_history : (d : Dialect) (log left : List Item) (t : Track) (S : Status) → IsTrack d log left t → t.status ≡ S → IsHistory d t.steps S
track_history d log left t S h same = record { state = t.state; follows = subst (λ (X : Status). Follow d (Idle []) no_depth t.steps t.state X) same h.follows }

-- ---- its fold

-- the fold of the calls, and how many items they read, with these blocks open
abbrev pub folded : Policy → List Block → Track → Folded
folded policy blocks t = record { mark = length (step_items t.steps); stack = fold_of t.steps (alone []); blocks = blocks; policy = policy; begun = has_call t.steps }

-- a connection that set itself up made a call, and so did one with one call more
pub set_up_begun : (steps : List Step) → StartsSetUp steps → has_call steps ≡ true
set_up_begun [] h = absurd h
set_up_begun (e ∷ es) h = refl

pub begun-last : (steps : List Step) (e : Step) → has_call (steps ++ e ∷ []) ≡ true
begun-last [] e = refl
begun-last (x ∷ steps) e = refl

pub fold-last : (steps : List Step) (e : Step) (k : Stack) → fold_of (steps ++ e ∷ []) k ≡ after_step e (fold_of steps k)
fold-last [] e k = refl
fold-last (x ∷ steps) e k = fold-last steps e (after_step x k)

pub live-last : (steps : List Step) (e : Step) (k : Stack) → AllKeepLive steps k → KeepsLive (kind_of e.operation) e.answer.reply (after_items e.items (fold_of steps k)) → AllKeepLive (steps ++ e ∷ []) k
live-last [] e k h g = (g, tt)
live-last (x ∷ steps) e k h g = (h.0, live-last steps e (after_step x k) h.1 g)

pub folded_at : (f : Folded) (m n : ℕ) (k l : Stack) (b : Bool) → m ≡ n → k ≡ l → b ≡ true → record f { mark = m; stack = k; begun = true } ≡ record f { mark = n; stack = l; begun = b }
folded_at f m n k l b e g h = ap (λ (x : ℕ). record f { mark = x; stack = k; begun = true }) e ∙ ap (λ (x : Stack). record f { mark = n; stack = x; begun = true }) g ∙ ap (λ (x : Bool). record f { mark = n; stack = l; begun = x }) (sym h)

-- between what was read and one call more stand the items of that call
pub between_is : (log used left : List Item) (policy : Policy) (blocks : List Block) (t : Track) (mark : ℕ) → log ≡ step_items t.steps ++ (used ++ left) → mark ≡ length (step_items t.steps) + length used → between log (folded policy blocks t) mark ≡ after_items used (fold_of t.steps (alone []))
between_is log used left policy blocks t mark all is =
    let n : ℕ = length (step_items t.steps) in
    let long : mark - n ≡ length used = omega (arith, is) in
    let rest : drop n log ≡ used ++ left = ap (drop n) all ∙ drop-append_seam (step_items t.steps) (used ++ left) in
    let items : take (mark - n) (drop n log) ≡ used = ap (λ (m : ℕ). take m (drop n log)) long ∙ ap (take (length used)) rest ∙ take-append_seam used left in
    ap (λ (l : List Item). after_items l (fold_of t.steps (alone []))) items

-- nothing was read
pub between_none : (log : List Item) (f : Folded) (mark : ℕ) → mark ≡ f.mark → between log f mark ≡ f.stack
between_none log f mark is =
    let none : mark - f.mark ≡ 0 = omega (arith, is) in
    ap (λ (m : ℕ). after_items (take m (drop f.mark log)) f.stack) none
