-- Servers are given back, one after the other.
use Rattle.std.proofs.Common.{◌≡◌, ℕ, ◌+◌, ◌≤◌, List, [], ◌∷◌, ◌++◌, Option, Some, None, refl, ap, subst, ◌∙◌, arith}
use Rattle.std.specs.Prelude.{sum_by}
use Rattle.std.specs.List.{AllByRecursion}
use Rattle.conn_model.specs.Seen.{Seen}
use Rattle.conn_manager.specs.Views.{View}
use Rattle.conn_server.specs.Connected.{Connected}
use Rattle.conn_session.specs.Known.{Has, OfServer}
use Rattle.conn_session.specs.Transfers.{gives_back, GivesBackSome}
use Rattle.conn_session.specs.Steps.{Closes}
use Rattle.conn_session.specs.Worlds.{World, part, each_server}
use Rattle.conn_session.proofs.Totals

pub gives-none : (vs : List (Option View)) (k : Connected) → GivesBackSome vs k vs k
gives-none vs k = record { opened = refl; counts = refl; plan = refl; targets = refl; room = omega arith; totals = λ f. refl; known = λ d plan logs have back. (have, back) }

-- one connection more, of which `left` had these parts
module _ (vs : List (Option View)) (old : Connected) (left rest : List (Option View)) (k : Connected) (so_far : GivesBackSome vs old left k) where
  give_one : (v : Option View) → ((f : Seen → ℕ) → sum_by (part f) left ≡ sum_by (part f) rest + part f v) → ((P : Seen → Type 0) → AllByRecursion (OfServer P) left → AllByRecursion (OfServer P) rest × OfServer P v)
      → GivesBackSome vs old rest (gives_back v k)
  give_one None sums parts = record {
    opened = so_far.opened;
    counts = so_far.counts;
    plan = so_far.plan;
    targets = so_far.targets;
    room = omega (arith, so_far.room, sums each_server);
    totals = λ f. omega (arith, so_far.totals f, sums f);
    known = λ d plan logs have back. let h = so_far.known d plan logs have back in ((parts (Has d plan logs) h.0).0, h.1);
  }
  give_one (Some v) sums parts = record {
    opened = so_far.opened;
    counts = so_far.counts;
    plan = so_far.plan;
    targets = so_far.targets;
    room = omega (arith, so_far.room, sums each_server);
    totals = λ f. omega (arith, so_far.totals f, sums f, Totals.sum-last_seen f k.returned v.seen);
    known = λ d plan logs have back.
        let h = so_far.known d plan logs have back in
        let p = parts (Has d plan logs) h.0 in
        (p.0, Totals.all-last (Has d plan logs) k.returned v.seen h.1 p.1);
  }

  -- the last of them
  pub gives-last : (v : Option View) → left ≡ rest ++ v ∷ [] → GivesBackSome vs old rest (gives_back v k)
  gives-last v e = give_one v
      (λ f. ap (sum_by (part f)) e ∙ Totals.sum-last f rest v)
      (λ P all. Totals.all-front (OfServer P) rest v (subst (AllByRecursion (OfServer P)) e all))

  -- the first of them
  pub gives-first : (v : Option View) → left ≡ v ∷ rest → GivesBackSome vs old rest (gives_back v k)
  gives-first v e = give_one v
      (λ f. omega (arith, ap (sum_by (part f)) e, Totals.sum-first f rest v))
      (λ P all. let both = subst (AllByRecursion (OfServer P)) e all in (both.1, both.0))

-- the connector has room for the last of those that are out, and then for the first of those in slots
pub last_room : (slots outs : List (Option View)) (old : Connected) (left rest : List (Option View)) (k : Connected) → GivesBackSome outs old left k → (v : Option View) → sum_by (part each_server) slots + sum_by (part each_server) outs ≤ old.room → left ≡ rest ++ v ∷ []
    → part each_server v ≤ k.room
last_room slots outs old left rest k so_far v room e = omega (arith, so_far.room, room, ap (sum_by (part each_server)) e, Totals.sum-last each_server rest v)

pub first_room : (slots outs : List (Option View)) (old mid : Connected) (left rest : List (Option View)) (k : Connected) → GivesBackSome outs old [] mid → GivesBackSome slots mid left k → (v : Option View)
    → sum_by (part each_server) slots + sum_by (part each_server) outs ≤ old.room → left ≡ v ∷ rest → part each_server v ≤ k.room
first_room slots outs old mid left rest k outs_back so_far v room e = omega (arith, outs_back.room, so_far.room, room, ap (sum_by (part each_server)) e, Totals.sum-first each_server rest v)

-- those that are out were given back, and then those in slots
pub closes : (w : World) (mid new : Connected) → GivesBackSome w.pool.out w.connector [] mid → GivesBackSome w.pool.slots mid [] new → Closes w new
closes w mid new outs slots = record {
  opened = slots.opened ∙ outs.opened;
  counts = slots.counts ∙ outs.counts;
  plan = slots.plan ∙ outs.plan;
  targets = slots.targets ∙ outs.targets;
  totals = λ f. omega (arith, slots.totals f, outs.totals f);
  known = λ logs known.
      let back = outs.known w.pool.dialect w.connector.armed logs known.servers.out known.servers.returned in
      (slots.known w.pool.dialect w.connector.armed logs known.servers.slots back.1).1;
}
