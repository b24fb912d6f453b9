-- An entry that shows what a new connection did after its setup shows the setup too.
use Rattle.std.proofs.Common.{◌≡◌, ◌≢◌, ℕ, ◌+◌, ◌-◌, ◌≤◌, true, false, List, [], ◌∷◌, ◌++◌, append-nil, length, take, drop, Option, Some, None, Ok, Err, refl, sym, ap, subst, ◌∙◌, arith, inl, inr}
use Rattle.std.proofs.lemmas.Bool.{cases_eq}
use Rattle.std.proofs.Math.Seq.{drop-append_seam, take-append-add}
use Rattle.conn_model.specs.declared.item.Dialect.{Dialect}
use Rattle.conn_model.specs.declared.item.Item.{Item}
use Rattle.conn_manager.specs.Manages.{Done, Reply as Answer}
use Rattle.conn_model.specs.Caches.{Register}
use Rattle.conn_report.specs.declared.entry.Entry.{Entry}
use Rattle.conn_reading.specs.Answered.{ServerLogs}
use Rattle.conn_reading.specs.Asking.{Policy}
use Rattle.conn_reading.specs.Folds.{AllKeepLive, Sends, Stack, after_item, after_items, after_reply, alone}
use Rattle.conn_reading.specs.Histories.{Setup}
use Rattle.conn_reading.specs.Reading.{Read}
use Rattle.conn_reading.specs.Sessions.{MarkLive, after_deed, after_mark, between, mark_of, DeedLive}
use Rattle.conn_reading.specs.declared.blocks.Block.{Block}
use Rattle.conn_reading.specs.declared.deed.Deed.{Deed}
use Rattle.conn_reading.proofs.SessionCalls.{mark_same, mark_other}
use Rattle.conn_reading.proofs.SessionKept.{Deeds, EntrySays, Tracks, deed_on}
use Rattle.conn_reading.proofs.Tracks.{Track, folded, moved, no_track}

after_items-append : (xs ys : List Item) (k : Stack) → after_items (xs ++ ys) k ≡ after_items ys (after_items xs k)
after_items-append [] ys k = refl
after_items-append (x ∷ xs) ys k = after_items-append xs ys (after_item x k)

-- what a setup answers does nothing to the stack
pub sends_still : (a : Answer) (k : Stack) → after_reply Sends a k ≡ k
sends_still (Ok u) k = refl
sends_still (Err e) k = refl

-- the items up to a mark behind a setup are its own, and those between
pub between_more : (log used rest : List Item) (policy : Policy) (blocks : List Block) (r : Read Done) (register : Register) (mark : ℕ) → log ≡ used ++ rest → length used ≤ mark
    → between log (folded policy blocks no_track) mark ≡ between log (folded policy blocks (moved no_track Setup used r register)) mark
between_more log used rest policy blocks r register mark all high =
    let u : ℕ = length used in
    let one : length (used ++ []) ≡ u = ap length (append-nil used) in
    let left : take (mark - 0) (drop 0 log) ≡ used ++ take (mark - u) rest =
    ap (λ (n : ℕ). take n log) (let whole : mark - 0 ≡ u + (mark - u) = omega (arith, high) in whole) ∙ ap (take (u + (mark - u))) all ∙ take-append-add used rest (mark - u) in
    let right : take (mark - length (used ++ [])) (drop (length (used ++ [])) log) ≡ take (mark - u) rest =
    ap (λ (n : ℕ). take (mark - n) (drop n log)) one ∙ ap (λ (l : List Item). take (mark - u) (drop u l)) all ∙ ap (take (mark - u)) (drop-append_seam used rest) in
    ap (λ (l : List Item). after_items l (alone [])) left
    ∙ after_items-append used (take (mark - u) rest) (alone [])
    ∙ ap (after_items (take (mark - u) rest)) (sym (sends_still r.value.reply (after_items used (alone []))))
    ∙ ap (λ (l : List Item). after_items l (after_reply Sends r.value.reply (after_items used (alone [])))) (sym right)

-- from before the setup of connection n, whose history starts with it, to after what was asked then
module _ (d : Dialect) (logs : ServerLogs) (policy : Policy) (before one after : Tracks) (opened : ℕ) (blocks : List Block) (asks : Deeds) (deed : Option Deed) (e : Entry) (n m : ℕ) (shows : e.connection ≡ Some n) (marked : e.mark ≡ Some m)
    (apart : (k : ℕ) → k ≢ n → one k ≡ before k) (first : before n ≡ no_track) (same : asks false ≡ deed) (goes_on : between (logs n) (folded policy blocks no_track) m ≡ between (logs n) (folded policy blocks (one n)) m)
    (live : AllKeepLive (one n).steps (alone [])) (second : EntrySays d logs policy one after opened blocks (λ b. deed) e) where
  here : mark_of n e.connection e.mark ≡ Some m
  here = ap (λ (c : Option ℕ). mark_of n c e.mark) shows ∙ ap (mark_of n (Some n)) marked ∙ mark_same n m

  elsewhere : (k : ℕ) → n ≢ k → mark_of k e.connection e.mark ≡ None
  elsewhere k differs = ap (λ (c : Option ℕ). mark_of k c e.mark) shows ∙ ap (mark_of k (Some n)) marked ∙ mark_other k n m differs

  abbrev Folds : Tracks → Deeds → ℕ → Option ℕ → Type 0
  Folds tracks does k o = after_mark (logs k) (deed_on does (tracks k)) e.reply (folded policy blocks (tracks k)) o ≡ folded policy blocks (after k)

  folds_here : Folds before asks n (Some m)
  folds_here =
      let then : Folds one (λ b. deed) n (Some m) = subst (Folds one (λ b. deed) n) here (second.folds n) in
      let stack : after_deed (asks false) e.reply (between (logs n) (folded policy blocks no_track) m) ≡ after_deed deed e.reply (between (logs n) (folded policy blocks (one n)) m) =
      ap (λ (o : Option Deed). after_deed o e.reply (between (logs n) (folded policy blocks no_track) m)) same ∙ ap (after_deed deed e.reply) goes_on in
      subst (λ (t : Track). after_mark (logs n) (deed_on asks t) e.reply (folded policy blocks t) (Some m) ≡ folded policy blocks (after n)) (sym first)
      (ap (λ (k : Stack). record { mark = m; stack = k; blocks = blocks; policy = policy; begun = true }) stack ∙ then)

  folds_all : (k : ℕ) → Folds before asks k (mark_of k e.connection e.mark)
  folds_all k = elim (cases_eq n k) [
    | inl is ↦ subst (λ (j : ℕ). Folds before asks j (mark_of j e.connection e.mark)) is (subst (Folds before asks n) (sym here) folds_here)
    | inr differs ↦ (let none = elsewhere k differs in
        let then : Folds one (λ b. deed) k None = subst (Folds one (λ b. deed) k) none (second.folds k) in
        subst (Folds before asks k) (sym none) (ap (folded policy blocks) (sym (apart k (λ g. differs (sym g)))) ∙ then))
  ]

  abbrev Lives : Tracks → Deeds → ℕ → Option ℕ → Type 0
  Lives tracks does k o = MarkLive (logs k) (deed_on does (tracks k)) e.reply (folded policy blocks (tracks k)) o → AllKeepLive (tracks k).steps (alone []) → AllKeepLive (after k).steps (alone [])

  live_here : Lives before asks n (Some m)
  live_here l h =
      let then : Lives one (λ b. deed) n (Some m) = subst (Lives one (λ b. deed) n) here (second.live n) in
      let first_live : DeedLive (asks false) e.reply (between (logs n) (folded policy blocks no_track) m) = subst (λ (t : Track). MarkLive (logs n) (deed_on asks t) e.reply (folded policy blocks t) (Some m)) first l in
      then (subst (DeedLive deed e.reply) goes_on (subst (λ (o : Option Deed). DeedLive o e.reply (between (logs n) (folded policy blocks no_track) m)) same first_live)) live

  live_all : (k : ℕ) → Lives before asks k (mark_of k e.connection e.mark)
  live_all k = elim (cases_eq n k) [
    | inl is ↦ subst (λ (j : ℕ). Lives before asks j (mark_of j e.connection e.mark)) is (subst (Lives before asks n) (sym here) live_here)
    | inr differs ↦ (let none = elsewhere k differs in
        let then : Lives one (λ b. deed) k None = subst (Lives one (λ b. deed) k) none (second.live k) in
        let still : one k ≡ before k = apart k (λ g. differs (sym g)) in
        subst (Lives before asks k) (sym none) (λ l h. then tt (subst (λ (t : Track). AllKeepLive t.steps (alone [])) (sym still) h)))
  ]

  pub says_more : EntrySays d logs policy before after opened blocks asks e
  says_more = record { at = second.at; clean = second.clean; folds = folds_all; live = live_all; opened_before = second.opened_before }
