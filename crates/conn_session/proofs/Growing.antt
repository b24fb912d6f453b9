-- Honest servers have their logs wherever they move, and commands that ask nothing read nothing.
use Rattle.std.proofs.Common.{◌≡◌, ◌≢◌, ℕ, zero, suc, ◌+◌, ◌<◌, List, [], ◌∷◌, ◌++◌, append-nil, Option, Some, None, refl, sym, ap, subst, ◌∙◌, arith, inl, inr}
use Rattle.std.specs.Prelude.{slice_set, sum_by}
use Rattle.std.specs.List.{AllByRecursion}
use Rattle.std.proofs.lemmas.Bool.{cases_lt}
use Rattle.std.proofs.lemmas.List.Sums.{sum_by-cons}
use Rattle.conn_model.specs.Seen.{Seen}
use Rattle.conn_model.specs.declared.item.Dialect.{Dialect}
use Rattle.conn_model.specs.declared.item.Item.{Item}
use Rattle.conn_model.specs.declared.plan.PlanLine.{PlanLine}
use Rattle.conn_manager.specs.Views.{View}
use Rattle.conn_reading.specs.Answered.{ServerLogs, Progress, Taken, taken}
use Rattle.conn_reading.specs.Readings.{ReadsEntry}
use Rattle.conn_reading.specs.Seats.{at_number}
use Rattle.conn_reading.proofs.InPlace.{only, only_other}
use Rattle.conn_report.specs.declared.entry.Entry.{Entry}
use Rattle.conn_server.specs.Connected.{Connected, takes_back}
use Rattle.conn_session.specs.Known.{Has, OfServer, Everywhere, IsKnown, Grows, progress, with_more}
use Rattle.conn_session.specs.Transfers.{gives_slot, in_front, puts_out, adds_out}
use Rattle.conn_session.specs.Worlds.{World, Invariant, part, of_number, sum_all}
use Rattle.conn_session.proofs.Totals

-- ---- where servers move

module _ (P : Seen → Type 0) where
  pub everywhere-handed_out : (w : World) (v : View) → Everywhere P (in_front (Some v) w) → Everywhere P (record w { pool = puts_out v.seen.number (Some v) w.pool })
  everywhere-handed_out w v h = record { slots = h.slots.1; out = Totals.all-set P w.pool.out v.seen.number (Some v) h.slots.0 h.out; returned = h.returned }

  pub everywhere-opened : (w : World) (k : Connected) (v : View) → k.returned ≡ w.connector.returned → P v.seen → Everywhere P (in_front None w) → Everywhere P (in_front (Some v) (record { pool = adds_out None w.pool; connector = k }))
  everywhere-opened w k v r here h = record {
    slots = (here, h.slots.1);
    out = Totals.all-last (OfServer P) w.pool.out None h.out tt;
    returned = subst (AllByRecursion P) (sym r) h.returned;
  }

  pub everywhere-closed : (w : World) (v : View) → Everywhere P (in_front (Some v) w) → Everywhere P (record { pool = gives_slot None w.pool; connector = takes_back v.seen w.connector })
  everywhere-closed w v h = record {
    slots = Totals.all-last (OfServer P) w.pool.slots None h.slots.1 tt;
    out = h.out;
    returned = Totals.all-last P w.connector.returned v.seen h.returned h.slots.0;
  }

  pub everywhere-opened_back : (w : World) (k : Connected) (s : Seen) → k.returned ≡ w.connector.returned → P s → Everywhere P (in_front None w) → Everywhere P (record { pool = adds_out None (gives_slot None w.pool); connector = takes_back s k })
  everywhere-opened_back w k s r here h = record {
    slots = Totals.all-last (OfServer P) w.pool.slots None h.slots.1 tt;
    out = Totals.all-last (OfServer P) w.pool.out None h.out tt;
    returned = subst (AllByRecursion P) (sym (ap (λ (ss : List Seen). ss ++ s ∷ []) r)) (Totals.all-last P w.connector.returned s h.returned here);
  }

  pub everywhere-left_empty : (w : World) (k : Connected) → k.returned ≡ w.connector.returned → Everywhere P (in_front None w) → Everywhere P (record { pool = gives_slot None w.pool; connector = k })
  everywhere-left_empty w k r h = record {
    slots = Totals.all-last (OfServer P) w.pool.slots None h.slots.1 tt;
    out = h.out;
    returned = subst (AllByRecursion P) (sym r) h.returned;
  }

  pub everywhere-kept_back : (w : World) (n : ℕ) (v : View) → at_number n w.pool.out ≡ Some v → Everywhere P w → Everywhere P (record w { pool = gives_slot (Some v) (puts_out n None w.pool) })
  everywhere-kept_back w n v e h = record {
    slots = Totals.all-last (OfServer P) w.pool.slots (Some v) h.slots (Totals.all-at P w.pool.out n v e h.out);
    out = Totals.all-set P w.pool.out n None tt h.out;
    returned = h.returned;
  }

  pub everywhere-closed_back : (w : World) (n : ℕ) (v : View) → at_number n w.pool.out ≡ Some v → Everywhere P w → Everywhere P (record { pool = gives_slot None (puts_out n None w.pool); connector = takes_back v.seen w.connector })
  everywhere-closed_back w n v e h = record {
    slots = Totals.all-last (OfServer P) w.pool.slots None h.slots tt;
    out = Totals.all-set P w.pool.out n None tt h.out;
    returned = Totals.all-last P w.connector.returned v.seen h.returned (Totals.all-at P w.pool.out n v e h.out);
  }

-- what holds of each holds of each
pub everywhere-map : (P Q : Seen → Type 0) (w : World) → ((s : Seen) → P s → Q s) → Everywhere P w → Everywhere Q w
everywhere-map P Q w f h = record {
  slots = Totals.all-map (OfServer P) (OfServer Q) w.pool.slots of_server h.slots;
  out = Totals.all-map (OfServer P) (OfServer Q) w.pool.out of_server h.out;
  returned = Totals.all-map P Q w.connector.returned f h.returned;
}
  where
    of_server : (o : Option View) → OfServer P o → OfServer Q o
    of_server None p = tt
    of_server (Some v) p = f v.seen p

-- ---- logs that are the same

has_same : (d : Dialect) (plan : List PlanLine) (logs more : ServerLogs) (s : Seen) → more s.number ≡ logs s.number → Has d plan logs s → Has d plan more s
has_same d plan logs more s e h = record {
  honest = h.honest;
  dialect_is = h.dialect_is;
  armed_is = h.armed_is;
  log_is = h.log_is ∙ ap (λ (l : List Item). Some l) (sym e);
  orders = h.orders;
}

pub known_same : (logs more : ServerLogs) (w : World) → ((n : ℕ) → more n ≡ logs n) → IsKnown logs w → IsKnown more w
known_same logs more w e known = record {
  servers = everywhere-map (Has w.pool.dialect w.connector.armed logs) (Has w.pool.dialect w.connector.armed more) w (λ s h. has_same w.pool.dialect w.connector.armed logs more s (e s.number) h) known.servers;
  fresh = λ n l. e n ∙ known.fresh n l;
}

-- ---- commands that read nothing

pub reads_nothing : (reading : Progress → ServerLogs → Option Taken) (before after : Progress) (entry : Entry) → ((logs : ServerLogs) → reading before logs ≡ Some (taken entry after logs)) → ReadsEntry reading before (λ n. []) entry after
reads_nothing reading before after entry read = record {
  anew = λ n. tt;
  whatever_follows = λ logs more e anew. (logs, read logs, e);
}

pub grows_nothing : (reading : Progress → ServerLogs → Option Taken) (old new : World) (entry : Entry) → ((logs : ServerLogs) → IsKnown logs old → IsKnown logs new)
    → ((logs : ServerLogs) → reading (progress old) logs ≡ Some (taken entry (progress new) logs)) → Grows reading old new entry
grows_nothing reading old new entry kept read = λ logs known. (
  (λ n. []),
  known_same logs (with_more logs (λ n. [])) new (λ n. append-nil (logs n)) (kept logs known),
  reads_nothing reading (progress old) (progress new) entry read,
)

-- ---- the log of one server grows

others : {X : Type 0} (P Q : X → Type 0) (measure : X → ℕ) (xs : List X) → sum_by measure xs ≡ 0 → ((x : X) → measure x ≡ 0 → P x → Q x) → AllByRecursion P xs → AllByRecursion Q xs
others P Q measure [] none f all = tt
others P Q measure (x ∷ xs) none f all =
    let here : measure x ≡ 0 = omega (arith, none, sum_by-cons measure x xs) in
    (f x here all.0, others P Q measure xs (omega (arith, none, sum_by-cons measure x xs)) f all.1)

set-twice : {X : Type 0} (xs : List X) (n : ℕ) (x y : X) → slice_set (slice_set xs n x) n y ≡ slice_set xs n y
set-twice [] n x y = refl
set-twice (z ∷ zs) zero x y = refl
set-twice {X = X} (z ∷ zs) (suc n) x y = ap (λ (ys : List X). z ∷ ys) (set-twice zs n x y)

-- where no server has a number, what holds of each of other numbers holds of each
pub everywhere-unopened : (P Q : Seen → Type 0) (w : World) (n : ℕ) → sum_all (of_number n) w ≡ 0 → ((s : Seen) → s.number ≢ n → P s → Q s) → Everywhere P w → Everywhere Q w
everywhere-unopened P Q w n none f h = record {
  slots = others (OfServer P) (OfServer Q) (part (of_number n)) w.pool.slots (omega (arith, none)) of_server h.slots;
  out = others (OfServer P) (OfServer Q) (part (of_number n)) w.pool.out (omega (arith, none)) of_server h.out;
  returned = others P Q (of_number n) w.connector.returned (omega (arith, none)) of_other h.returned;
}
  where
    of_other : (s : Seen) → of_number n s ≡ 0 → P s → Q s
    of_other s none p = f s (λ e. absurd (omega (arith, none, Totals.number_here n s e))) p

    of_server : (o : Option View) → part (of_number n) o ≡ 0 → OfServer P o → OfServer Q o
    of_server None none p = tt
    of_server (Some t) none p = of_other t.seen none p

-- the server of a connection that is out, and all others, which have other numbers
pub everywhere-grown : (P Q : Seen → Type 0) (w : World) (n : ℕ) (v u : View) → Invariant w → at_number n w.pool.out ≡ Some v → Q u.seen → ((s : Seen) → s.number ≢ v.seen.number → P s → Q s)
    → Everywhere P w → Everywhere Q (record w { pool = puts_out n (Some u) w.pool })
everywhere-grown P Q w n v u holds there here f h =
    let m = v.seen.number in
    let numbered : m ≡ 0 + n = Totals.placed-at 0 w.pool.out n v there holds.placed in
    let one = holds.accounts.once m (omega (arith, numbered, Totals.within w.pool.out n v there, holds.places)) in
    let mine = Totals.number_here m v.seen refl in
    let at = Totals.sum-at (of_number m) w.pool.out n v there in
    let left : sum_by (part (of_number m)) (slice_set w.pool.out n None) ≡ 0 = omega (arith, one, mine, at, Totals.sum-set_at (of_number m) w.pool.out n v None there) in
    record {
      slots = others (OfServer P) (OfServer Q) (part (of_number m)) w.pool.slots (omega (arith, one, mine, at)) of_server h.slots;
      out = subst (AllByRecursion (OfServer Q)) (set-twice w.pool.out n None (Some u))
          (Totals.all-set Q (slice_set w.pool.out n None) n (Some u) here (others (OfServer P) (OfServer Q) (part (of_number m)) (slice_set w.pool.out n None) left of_server (Totals.all-set P w.pool.out n None tt h.out)));
      returned = others P Q (of_number m) w.connector.returned (omega (arith, one, mine, at)) of_other h.returned;
    }
  where
    of_other : (s : Seen) → of_number v.seen.number s ≡ 0 → P s → Q s
    of_other s none p = f s (λ e. absurd (omega (arith, none, Totals.number_here v.seen.number s e))) p

    of_server : (o : Option View) → part (of_number v.seen.number) o ≡ 0 → OfServer P o → OfServer Q o
    of_server None none p = tt
    of_server (Some t) none p = of_other t.seen none p

-- the log of a server that was just opened grew from nothing: all others have the logs that they had
pub known_opened : (logs : ServerLogs) (items : List Item) (w : World) → Invariant w → IsKnown logs w → Everywhere (Has w.pool.dialect w.connector.armed (with_more logs (only w.connector.opened items))) w
known_opened logs items w holds known =
    let n = w.connector.opened in
    let other : (k : ℕ) → k ≢ n → with_more logs (only n items) k ≡ logs k = λ k e. ap (λ (t : List Item). logs k ++ t) (only_other n k items e) ∙ append-nil (logs k) in
    everywhere-unopened (Has w.pool.dialect w.connector.armed logs) (Has w.pool.dialect w.connector.armed (with_more logs (only n items))) w n (holds.accounts.none n (omega arith))
    (λ s e h. has_same w.pool.dialect w.connector.armed logs (with_more logs (only n items)) s (other s.number e) h) known.servers

-- so did the log of a connection's server
pub known_grown : (logs : ServerLogs) (items : List Item) (w : World) (n : ℕ) (v u : View) → Invariant w → at_number n w.pool.out ≡ Some v → Has w.pool.dialect w.connector.armed (with_more logs (only v.seen.number items)) u.seen → IsKnown logs w
    → IsKnown (with_more logs (only v.seen.number items)) (record w { pool = puts_out n (Some u) w.pool })
known_grown logs items w n v u holds there has known =
    let m = v.seen.number in
    let numbered : m ≡ 0 + n = Totals.placed-at 0 w.pool.out n v there holds.placed in
    let below : m < w.connector.opened = omega (arith, numbered, Totals.within w.pool.out n v there, holds.places) in
    let other : (k : ℕ) → k ≢ m → with_more logs (only m items) k ≡ logs k = λ k e. ap (λ (t : List Item). logs k ++ t) (only_other m k items e) ∙ append-nil (logs k) in
    record {
      servers = everywhere-grown (Has w.pool.dialect w.connector.armed logs) (Has w.pool.dialect w.connector.armed (with_more logs (only m items))) w n v u holds there has
          (λ s e h. has_same w.pool.dialect w.connector.armed logs (with_more logs (only m items)) s (other s.number e) h) known.servers;
      fresh = λ k l. other k (λ e. absurd (omega (arith, e, below, l))) ∙ known.fresh k l;
    }

-- or of the connection in the front slot
pub known_front : (logs : ServerLogs) (items : List Item) (w : World) (v u : View) → Invariant (in_front (Some v) w) → Has w.pool.dialect w.connector.armed (with_more logs (only v.seen.number items)) u.seen → IsKnown logs (in_front (Some v) w)
    → IsKnown (with_more logs (only v.seen.number items)) (in_front (Some u) w)
known_front logs items w v u holds has known =
    let m = v.seen.number in
    let front = Totals.sum-first (of_number m) w.pool.slots (Some v) in
    let mine = Totals.number_here m v.seen refl in
    let below : m < w.connector.opened = elim (cases_lt m w.connector.opened) [
      | inl l ↦ l
      | inr le ↦ absurd (omega (arith, holds.accounts.none m le, front, mine))
    ] in
    let none : sum_all (of_number m) w ≡ 0 = omega (arith, holds.accounts.once m below, front, mine) in
    let other : (k : ℕ) → k ≢ m → with_more logs (only m items) k ≡ logs k = λ k e. ap (λ (t : List Item). logs k ++ t) (only_other m k items e) ∙ append-nil (logs k) in
    let rest : Everywhere (Has w.pool.dialect w.connector.armed logs) w = record { slots = known.servers.slots.1; out = known.servers.out; returned = known.servers.returned } in
    let grown : Everywhere (Has w.pool.dialect w.connector.armed (with_more logs (only m items))) w =
    everywhere-unopened (Has w.pool.dialect w.connector.armed logs) (Has w.pool.dialect w.connector.armed (with_more logs (only m items))) w m none
    (λ s e h. has_same w.pool.dialect w.connector.armed logs (with_more logs (only m items)) s (other s.number e) h) rest in
    record {
      servers = record { slots = (has, grown.slots); out = grown.out; returned = grown.returned };
      fresh = λ k l. other k (λ e. absurd (omega (arith, e, below, l))) ∙ known.fresh k l;
    }
