-- Each step keeps the slots in their places.
use Rattle.std.proofs.Common.{◌≡◌, ◌≢◌, ℕ, zero, suc, ◌+◌, ◌<◌, ◌≤◌, List, [], ◌∷◌, ◌++◌, length, set, sym, ap, ◌∙◌, arith, subst, inl, inr, ⊎_elim, ◌⊎◌, min, length-append}
use Rattle.std.proofs.lemmas.Bool.Decides.{nat_tests}
use mathlib.Core.Option.{some, some-injective, some-ne-none}
use lib.ListN.{get_elem?}
use Rattle.crossbeam_queue.proofs.Lists.{at_set, at_snoc, set_else}
use Rattle.shared_pool.specs.declared.tally.Tally.{Tally}
use Rattle.shared_pool.specs.Totals.{copies, one_where, all_but}
use Rattle.shared_pool.specs.SlotRules.{HoldsAll, Measure, IsPlaced, first_tally, spent}
use Rattle.shared_pool.proofs.Totals.{sum_over-append, sum_over-set, member_le, sum_over_le, copies-all_but, length-all_but, length-numbers_from, copies-numbers_from, none_in, none_left}

abbrev held_at : ℕ → Tally → ℕ
held_at x v = copies x v.held

abbrev held_of : Tally → ℕ
held_of v = length v.held

abbrev share_of : Tally → ℕ
share_of v = v.share

-- this tally may hold what it holds
abbrev pub Fits : ℕ → Tally → Type 0
Fits seats v = (v.share ≡ seats) ⊎ (length v.held ≤ min 1 v.share)

abbrev Each : ℕ → List Tally → Type 0
Each seats tallies = (seat : ℕ) (v : Tally) → get_elem? tallies seat ≡ some v → Fits seats v

each_set : (seats : ℕ) (tallies : List Tally) (seat : ℕ) (w : Tally) → Fits seats w → Each seats tallies → Each seats (set tallies seat w)
each_set seats tallies seat w mine others j u e =
    ⊎_elim (λ (x : (j ≡ seat) × (w ≡ u)). subst (Fits seats) x.1 mine) (λ (x : (j ≢ seat) × (get_elem? tallies j ≡ some u)). others j u x.1) (at_set tallies seat j w u e)

each_snoc : (seats : ℕ) (tallies : List Tally) (w : Tally) → Fits seats w → Each seats tallies → Each seats (tallies ++ w ∷ [])
each_snoc seats tallies w mine others j u e =
    ⊎_elim (λ (x : get_elem? tallies j ≡ some u). others j u x) (λ (x : w ≡ u). subst (Fits seats) x mine) (at_snoc tallies w u j e)

module _ {T : Type 0} (measure : Measure T) (max seats : ℕ) where
  -- a slot goes to the queue
  pub placed_push : (items : List T) (tallies : List Tally) (seat : ℕ) (v w : Tally) (s : T) → get_elem? tallies seat ≡ some v → 0 < copies (measure.number s) v.held
      → w.held ≡ all_but (measure.number s) v.held → w.share ≡ v.share → IsPlaced measure max seats items tallies → IsPlaced measure max seats (items ++ s ∷ []) (set tallies seat w)
  placed_push items tallies seat v w s at has held share h = record {
    once_each = λ x.
        let a = sum_over-append (λ (t : T). one_where x (measure.number t)) items s in
        let b = sum_over-set (held_at x) tallies seat v w at in
        let c : copies x w.held + one_where x (measure.number s) ≡ copies x v.held = ap (λ l. copies x l + one_where x (measure.number s)) held ∙ copies-all_but (measure.number s) x v.held has in
        let d = h.once_each x in omega (arith, a, b, c, d);
    all =
        let b = sum_over-set held_of tallies seat v w at in
        let c : length w.held + 1 ≡ length v.held = ap (λ (l : List ℕ). length l + 1) held ∙ length-all_but (measure.number s) v.held has in
        let d = h.all in omega (arith, length-append items (s ∷ []), b, c, d);
    shares = let b = sum_over-set share_of tallies seat v w at in let d = h.shares in omega (arith, b, d);
    each = each_set seats tallies seat w
        (let c : length w.held + 1 ≡ length v.held = ap (λ (l : List ℕ). length l + 1) held ∙ length-all_but (measure.number s) v.held has in
        ⊎_elim (λ (e : v.share ≡ seats). inl (share ∙ e)) (λ (e : length v.held ≤ min 1 v.share). inr (omega arith)) (h.each seat v at)) h.each;
  }

  -- a slot leaves the queue
  pub placed_pop : (items : List T) (tallies : List Tally) (seat : ℕ) (v w : Tally) (s : T) → get_elem? tallies seat ≡ some v → (v.share ≡ seats) ⊎ ((v.held ≡ []) × (0 < v.share))
      → w.held ≡ v.held ++ measure.number s ∷ [] → w.share ≡ v.share → IsPlaced measure max seats (s ∷ items) tallies → IsPlaced measure max seats items (set tallies seat w)
  placed_pop items tallies seat v w s at may held share h = record {
    once_each = λ x.
        let b = sum_over-set (held_at x) tallies seat v w at in
        let c : copies x w.held ≡ copies x v.held + one_where x (measure.number s) = ap (copies x) held ∙ sum_over-append (one_where x) v.held (measure.number s) in
        let d = h.once_each x in omega (arith, b, c, d);
    all =
        let b = sum_over-set held_of tallies seat v w at in
        let c : length w.held ≡ length v.held + 1 = ap length held ∙ length-append v.held (measure.number s ∷ []) in
        let d = h.all in omega (arith, b, c, d);
    shares = let b = sum_over-set share_of tallies seat v w at in let d = h.shares in omega (arith, b, d);
    each = each_set seats tallies seat w
        (let c : length w.held ≡ length v.held + 1 = ap length held ∙ length-append v.held (measure.number s ∷ []) in
        ⊎_elim (λ (e : v.share ≡ seats). inl (share ∙ e)) (λ (e : (v.held ≡ []) × (0 < v.share)). inr (let n : length v.held ≡ 0 = ap length e.0 in omega (arith, e.1))) may) h.each;
  }

  -- a seat is split
  pub placed_fork : (items : List T) (tallies : List Tally) (seat : ℕ) (v left right : Tally) → get_elem? tallies seat ≡ some v → length v.held ≤ 1 → left.held ≡ v.held → right.held ≡ []
      → left.share + right.share ≡ v.share → 0 < left.share → IsPlaced measure max seats items tallies → IsPlaced measure max seats items (set tallies seat left ++ right ∷ [])
  placed_fork items tallies seat v left right at one held none share rest h = record {
    once_each = λ x.
        let a = sum_over-append (held_at x) (set tallies seat left) right in
        let b = sum_over-set (held_at x) tallies seat v left at in
        let c : copies x left.held ≡ copies x v.held = ap (copies x) held in
        let e : copies x right.held ≡ 0 = ap (copies x) none in
        let d = h.once_each x in omega (arith, a, b, c, d, e);
    all =
        let a = sum_over-append held_of (set tallies seat left) right in
        let b = sum_over-set held_of tallies seat v left at in
        let c : length left.held ≡ length v.held = ap length held in
        let e : length right.held ≡ 0 = ap length none in
        let d = h.all in omega (arith, a, b, c, d, e);
    shares = let a = sum_over-append share_of (set tallies seat left) right in let b = sum_over-set share_of tallies seat v left at in let d = h.shares in omega (arith, a, b, d);
    each = each_snoc seats (set tallies seat left) right (inr (let e : length right.held ≡ 0 = ap length none in omega arith))
        (each_set seats tallies seat left (inr (let c : length left.held ≡ length v.held = ap length held in omega arith)) h.each);
  }

  -- a seat takes in another one, which holds nothing
  pub placed_merge : (items : List T) (tallies : List Tally) (seat other : ℕ) (v u both none : Tally) → get_elem? tallies seat ≡ some v → get_elem? (set tallies seat both) other ≡ some u
      → both.held ≡ v.held → both.share ≡ v.share + u.share → u.held ≡ [] → 0 < u.share → none.held ≡ [] → none.share ≡ 0
      → other ≢ seat
      → IsPlaced measure max seats items tallies → IsPlaced measure max seats items (set (set tallies seat both) other none)
  placed_merge items tallies seat other v u both none at at' held share empty live gone nil apart h =
      let c : length both.held ≡ length v.held = ap length held in
      let p = sum_over-set share_of tallies seat v none at in
      let q = member_le share_of (set tallies seat none) other u (set_else tallies seat other none apart ∙ (sym (set_else tallies seat other both apart) ∙ at')) in
      let all_shares = h.shares in
      let fits : Fits seats both = ⊎_elim (λ (e : v.share ≡ seats). absurd (omega (arith, p, q, all_shares))) (λ (e : length v.held ≤ min 1 v.share). inr (omega arith)) (h.each seat v at) in
      record {
        once_each = λ x.
            let a = sum_over-set (held_at x) (set tallies seat both) other u none at' in
            let b = sum_over-set (held_at x) tallies seat v both at in
            let c : copies x both.held ≡ copies x v.held = ap (copies x) held in
            let e : copies x u.held ≡ 0 = ap (copies x) empty in
            let f : copies x none.held ≡ 0 = ap (copies x) gone in
            let d = h.once_each x in omega (arith, a, b, c, d, e, f);
        all =
            let a = sum_over-set held_of (set tallies seat both) other u none at' in
            let b = sum_over-set held_of tallies seat v both at in
            let c : length both.held ≡ length v.held = ap length held in
            let e : length u.held ≡ 0 = ap length empty in
            let f : length none.held ≡ 0 = ap length gone in
            let d = h.all in omega (arith, a, b, c, d, e, f);
        shares = let a = sum_over-set share_of (set tallies seat both) other u none at' in let b = sum_over-set share_of tallies seat v both at in let d = h.shares in omega (arith, a, b, d);
        each = each_set seats (set tallies seat both) other none (inr (let f : length none.held ≡ 0 = ap length gone in omega arith))
            (each_set seats tallies seat both fits h.each);
      }

  -- while a seat holds nothing, each slot that is missing numbers_from the queue is with another seat
  pub placed_learn : (items : List T) (tallies : List Tally) (seat : ℕ) (v : Tally) → get_elem? tallies seat ≡ some v → v.held ≡ [] → 0 < v.share → IsPlaced measure max seats items tallies
      → max + v.share ≤ length items + seats
  placed_learn items tallies seat v at empty live h =
      let nobody : length v.held ≡ 0 = ap length empty in
      let away : Tally = spent in
      let a = sum_over-set held_of tallies seat v away at in
      let b = sum_over-set share_of tallies seat v away at in
      let all_shares = h.shares in
      let all_slots = h.all in
      let each : (j : ℕ) (u : Tally) → get_elem? (set tallies seat away) j ≡ some u → held_of u ≤ share_of u =
      λ j u e. let m = member_le share_of (set tallies seat away) j u e in
      ⊎_elim (λ (x : (j ≡ seat) × (away ≡ u)). let n : 0 ≡ length u.held = ap held_of x.1 in omega arith)
      (λ (x : (j ≢ seat) × (get_elem? tallies j ≡ some u)).
      ⊎_elim (λ (y : u.share ≡ seats). absurd (omega (arith, m, b, all_shares))) (λ (y : length u.held ≤ min 1 u.share). omega arith) (h.each j u x.1))
      (at_set tallies seat j away u e) in
      let few = sum_over_le held_of share_of (set tallies seat away) each in
      omega (arith, a, b, few, all_shares, all_slots)

  -- what is with a seat isn't in the queue
  pub placed_room : (items : List T) (tallies : List Tally) (seat : ℕ) (v : Tally) → get_elem? tallies seat ≡ some v → IsPlaced measure max seats items tallies → length items + length v.held ≤ max
  placed_room items tallies seat v at h = let a = member_le held_of tallies seat v at in let b = h.all in omega (arith, a, b)

  -- where one seat has every share, the others hold nothing
  others_hold_none : (items : List T) (tallies : List Tally) (seat : ℕ) (v : Tally) → get_elem? tallies seat ≡ some v → 0 < v.share → v.share ≡ seats → IsPlaced measure max seats items tallies
      → (j : ℕ) (u : Tally) → get_elem? (set tallies seat spent) j ≡ some u → u.held ≡ []
  others_hold_none items tallies seat v at live alone h j u e =
      let m = member_le share_of (set tallies seat spent) j u e in
      let b = sum_over-set share_of tallies seat v spent at in
      let all_shares = h.shares in
      ⊎_elim (λ (x : (j ≡ seat) × (spent ≡ u)). sym (ap (λ (y : Tally). y.held) x.1))
      (λ (x : (j ≢ seat) × (get_elem? tallies j ≡ some u)). none_left u.held
      (⊎_elim (λ (y : u.share ≡ seats). absurd (omega (arith, m, b, all_shares))) (λ (y : length u.held ≤ min 1 u.share). omega (arith, m, b, all_shares)) (h.each j u x.1)))
      (at_set tallies seat j spent u e)

  -- what the only seat doesn't hold is in the queue
  pub placed_alone : (items : List T) (tallies : List Tally) (seat : ℕ) (v : Tally) → get_elem? tallies seat ≡ some v → 0 < v.share → v.share ≡ seats → IsPlaced measure max seats items tallies
      → length items + length v.held ≡ max
  placed_alone items tallies seat v at live alone h =
      let a = sum_over-set held_of tallies seat v spent at in
      let all_slots = h.all in
      let none = none_in held_of (set tallies seat spent) (λ j u e. ap length (others_hold_none items tallies seat v at live alone h j u e)) in
      omega (arith, a, none, all_slots)

  -- the only seat holds each slot once, where the queue is empty
  pub placed_last : (tallies : List Tally) (seat : ℕ) (v : Tally) → get_elem? tallies seat ≡ some v → 0 < v.share → v.share ≡ seats → IsPlaced measure max seats [] tallies → HoldsAll max v
  placed_last tallies seat v at live alone h = λ x.
      let a = sum_over-set (held_at x) tallies seat v spent at in
      let d = h.once_each x in
      let none = none_in (held_at x) (set tallies seat spent) (λ j u e. ap (copies x) (others_hold_none [] tallies seat v at live alone h j u e)) in
      omega (arith, a, none, d)

  pub placed_share : (items : List T) (tallies : List Tally) (seat : ℕ) (v : Tally) → get_elem? tallies seat ≡ some v → IsPlaced measure max seats items tallies → v.share ≤ seats
  placed_share items tallies seat v at h = let a = member_le share_of tallies seat v at in let b = h.shares in omega (arith, a, b)

  only : (v : Tally) (j : ℕ) → get_elem? (first_tally max seats ∷ []) j ≡ some v → v.share ≡ seats
  only v zero e = ap share_of (sym (some-injective (first_tally max seats) v e))
  only v (suc j) e = absurd (some-ne-none v (sym e))

  -- a new pool, whose slots are all with its first seat
  pub placed_first : IsPlaced measure max seats [] (first_tally max seats ∷ [])
  placed_first = record {
    once_each = λ x. let a = copies-numbers_from x 0 max in grind (arith, nat_tests, a);
    all = omega (arith, length-numbers_from 0 max);
    shares = omega arith;
    each = λ seat v e. inl (only v seat e);
  }
