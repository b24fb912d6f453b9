-- A server's rows, as a caller hears them.
use Rattle.std.proofs.Common.{◌≡◌, ℕ, ◌≤◌, Bool, true, List, [], ◌∷◌, refl, ap, subst, sym, ◌∙◌, Some, None, le_refl}
use Rattle.conn_model.specs.declared.item.Refusal.{Refusal}
use Rattle.conn_model.specs.declared.item.Item.{Item}
use Rattle.conn_model.specs.Acts.{Acts, IsSameServer}
use Rattle.conn_model.specs.Armed.{Values, rows_of}
use Rattle.conn_model.specs.Process.{given_rows, plain_heard, hear_rows, row_refused}
use Rattle.conn_model.specs.Rows.{RefusesRow}
use Rattle.conn_model.specs.Seen.{Seen, IsHonest}
use Rattle.conn_model.specs.Served.{with_item, one_more}
use Rattle.conn_model.proofs.Goes.{told_by_honesty, IsSameServer-trans}

-- rows were asked for and given, and nothing else changed
pub record HasGiven (old new : Seen) : Type 0 where
  pub keeps : new ≡ record old { given = new.given; rows_left = new.rows_left; rows = new.rows }

given_same : (old new : Seen) → HasGiven old new → IsSameServer old new
given_same old new g = record {
  dialect = ap (λ (x : Seen). x.dialect) g.keeps;
  number = ap (λ (x : Seen). x.number) g.keeps;
  armed = ap (λ (x : Seen). x.armed) g.keeps;
  quiet = ap (λ (x : Seen). x.quiet) g.keeps;
  orders = ap (λ (x : Seen). x.orders) g.keeps;
}

refused_same : (old new : Seen) (r : Refusal) → RefusesRow old new r → IsSameServer old new
refused_same old new r refuses = record {
  dialect = ap (λ (x : Seen). x.dialect) refuses.keeps;
  number = ap (λ (x : Seen). x.number) refuses.keeps;
  armed = ap (λ (x : Seen). x.armed) refuses.keeps;
  quiet = ap (λ (x : Seen). x.quiet) refuses.keeps;
  orders = ap (λ (x : Seen). x.orders) refuses.keeps;
}

-- rows were given and none refused; these are the rows of the run, also those that weren't asked
pub hears_given : (honest : Bool) (text : List ℕ) (old new : Seen) (rows : List Values) → HasGiven old new → (honest ≡ true → rows ≡ rows_of old.armed text) → Acts honest (hear_rows text) old new (given_rows rows)
hears_given honest text old new rows g are = record {
  sent = record { item = None; heard = given_rows rows } ∷ [];
  follows = (refl, refl);
  log = ap (λ (x : Seen). x.log) g.keeps;
  items = ap (λ (x : Seen). x.sent) g.keeps;
  told = λ e. (ap given_rows (are e), tt);
  tells = ap (λ (x : Seen). x.told) g.keeps;
  later = subst (λ (n : ℕ). old.failures ≤ n) (ap (λ (x : Seen). x.failures) (sym g.keeps)) (le_refl old.failures);
  counted = (tt, tt);
  same = given_same old new g;
}

-- rows were given, and then one was refused, after which the told status was asked
pub hears_refused : (honest : Bool) (text : List ℕ) (old mid new : Seen) (r : Refusal) → HasGiven old mid → RefusesRow mid new r → (honest ≡ true → IsHonest new) → Acts honest (hear_rows text) old new (plain_heard (Some r) new.told)
hears_refused honest text old mid new r g refuses honesty =
    let same : IsSameServer old new = IsSameServer-trans (given_same old mid g) (refused_same mid new r refuses) in
    let item : Item = row_refused r refuses.effect in
    let log : new.log ≡ with_item old.log item = refuses.log ∙ ap (λ (x : Seen). with_item x.log item) g.keeps in
    let failures : mid.failures ≡ old.failures = ap (λ (x : Seen). x.failures) g.keeps in
    record {
      sent = record { item = Some item; heard = plain_heard (Some r) new.told } ∷ [];
      follows = (record { refusal = r; effect = refuses.effect; is = refl; heard_is = refl }, refl);
      log = log;
      items = refuses.sent ∙ ap (λ (x : Seen). one_more x.sent) g.keeps;
      told = λ e. (let h = honesty e in told_by_honesty old new item (plain_heard (Some r) new.told) h same.dialect log (ap (plain_heard (Some r)) (rw same.dialect at h.tells)), tt);
      tells = refl;
      later = rw failures at refuses.later;
      counted = (rw failures at refuses.failed, tt);
      same = same;
    }
