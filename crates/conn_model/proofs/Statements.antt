-- A server's prepare and run, as a caller hears them.
use Rattle.std.proofs.Common.{◌≡◌, ℕ, Bool, true, List, [], refl, ap, subst, sym, ◌∙◌, Option, Some, None, Result, Ok, Err}
use Rattle.conn_model.specs.declared.item.Refusal.{Refusal}
use Rattle.conn_model.specs.declared.item.Answer.TheVariants.{Accepted, Refused}
use Rattle.conn_model.specs.declared.item.Call.TheVariants.{Prepare, Run}
use Rattle.conn_model.specs.declared.item.Item.{Item}
use Rattle.conn_model.specs.declared.item.Told.{Told}
use Rattle.conn_model.specs.declared.reply.Prepared.{Prepared}
use Rattle.conn_model.specs.declared.reply.RunReply.{RunReply}
use Rattle.conn_model.specs.declared.value.Bind.{Bind}
use Rattle.conn_model.specs.Armed.{Armed, Values, columns_of}
use Rattle.conn_model.specs.Seen.{Seen, Opened, Ran, IsHonest, AreColumns, RunsAre}
use Rattle.conn_model.specs.Statements.{Prepares, Runs, opened_by, ran_by, prepared_heard, ran_heard}
use Rattle.conn_model.specs.Process.{Heard, hear}
use Rattle.conn_model.specs.Acts.{Acts, IsSameServer}
use Rattle.conn_model.specs.States.{told_of}
use Rattle.conn_model.proofs.Goes.{hears_item, told_by_honesty}

heard_at : (r : Option Refusal) (t t' : Told) (c c' n n' : ℕ) → t ≡ t' → c ≡ c' → n ≡ n'
    → (let H : Type 0 = Heard in let none : List Values = [] in let x : H = record { refusal = r; told = t; columns = c; affected = n; rows = none } in let y : H = record { refusal = r; told = t'; columns = c'; affected = n'; rows = none } in x ≡ y)
heard_at r t t' c c' n n' e f g = cc

told_is : (old new : Seen) (h : IsHonest new) → new.dialect ≡ old.dialect → new.told ≡ told_of old.dialect h.state
told_is old new h d = rw d at h.tells

-- ---- prepare

prepare_same : (name : Option ℕ) (text : List ℕ) (old new : Seen) (result : Result Prepared Refusal) → Prepares name text old new result → IsSameServer old new
prepare_same name text old new result sends = record {
  dialect = ap (λ (x : Seen). x.dialect) sends.keeps;
  number = ap (λ (x : Seen). x.number) sends.keeps;
  armed = ap (λ (x : Seen). x.armed) sends.keeps;
  quiet = ap (λ (x : Seen). x.quiet) sends.keeps;
  orders = ap (λ (x : Seen). x.orders) sends.keeps;
}

prepares_heard : (honest : Bool) (name : Option ℕ) (text : List ℕ) (old new : Seen) (result : Result Prepared Refusal) → Prepares name text old new result → (honest ≡ true → IsHonest new)
    → Acts honest (hear (Prepare name) text) old new (prepared_heard result new.told)
prepares_heard honest name text old new (Ok p) sends honesty =
    let same = prepare_same name text old new (Ok p) sends in
    let item : Item = record { call = Prepare name; text = text; answer = Accepted } in
    hears_item honest (Prepare name) text Accepted (prepared_heard (Ok p) new.told) old new (record { answer = Accepted; is = refl; heard = refl })
    (λ e.
    let h = honesty e in
    let opened : AreColumns new.armed (opened_by text (Ok p) old.open_statements) = subst (λ (os : List Opened). AreColumns new.armed os) sends.opens h.opened in
    let columns : p.columns ≡ columns_of old.armed text = opened.0 ∙ ap (λ (a : List Armed). columns_of a text) same.armed in
    told_by_honesty old new item (prepared_heard (Ok p) new.told) h same.dialect sends.appends.log (heard_at None new.told (told_of old.dialect h.state) p.columns (columns_of old.armed text) 0 0 (told_is old new h same.dialect) columns refl))
    (record { log = sends.appends.log; items = sends.appends.sent; tells = refl; later = sends.appends.later; counted = tt; same = same })
prepares_heard honest name text old new (Err r) sends honesty =
    let same = prepare_same name text old new (Err r) sends in
    let item : Item = record { call = Prepare name; text = text; answer = Refused r sends.appends.log.0 } in
    hears_item honest (Prepare name) text (Refused r sends.appends.log.0) (prepared_heard (Err r) new.told) old new (record { answer = Refused r sends.appends.log.0; is = refl; heard = refl })
    (λ e. (let h = honesty e in told_by_honesty old new item (prepared_heard (Err r) new.told) h same.dialect sends.appends.log.1 (heard_at (Some r) new.told (told_of old.dialect h.state) 0 0 0 0 (told_is old new h same.dialect) refl refl)))
    (record { log = sends.appends.log.1; items = sends.appends.sent; tells = refl; later = sends.appends.later; counted = sends.appends.failed; same = same })

-- a statement was prepared, and then the told status was asked
pub hears_prepare : (honest : Bool) (name : Option ℕ) (text : List ℕ) (old mid new : Seen) (result : Result Prepared Refusal) → Prepares name text old mid result → new ≡ mid → (honest ≡ true → IsHonest new)
    → Acts honest (hear (Prepare name) text) old new (prepared_heard result new.told)
hears_prepare honest name text old mid new result sends same honesty =
    subst (λ (x : Seen). Acts honest (hear (Prepare name) text) old x (prepared_heard result x.told)) (sym same) (prepares_heard honest name text old mid result sends (λ e. subst (λ (x : Seen). IsHonest x) same (honesty e)))

-- ---- run

run_same : (text : List ℕ) (binds : List Bind) (old new : Seen) (result : Result RunReply Refusal) → Runs text binds old new result → IsSameServer old new
run_same text binds old new result sends = record {
  dialect = ap (λ (x : Seen). x.dialect) sends.keeps;
  number = ap (λ (x : Seen). x.number) sends.keeps;
  armed = ap (λ (x : Seen). x.armed) sends.keeps;
  quiet = ap (λ (x : Seen). x.quiet) sends.keeps;
  orders = ap (λ (x : Seen). x.orders) sends.keeps;
}

runs_heard : (honest : Bool) (text : List ℕ) (binds : List Bind) (old new : Seen) (result : Result RunReply Refusal) → Runs text binds old new result → (honest ≡ true → IsHonest new)
    → Acts honest (hear (Run binds) text) old new (ran_heard result new.told)
runs_heard honest text binds old new (Ok r) sends honesty =
    let same = run_same text binds old new (Ok r) sends in
    let item : Item = record { call = Run binds; text = text; answer = Accepted } in
    hears_item honest (Run binds) text Accepted (ran_heard (Ok r) new.told) old new (record { answer = Accepted; is = refl; heard = refl })
    (λ e.
    let h = honesty e in
    let ran : RunsAre new (ran_by text (Ok r) old.last) = subst (λ (o : Option Ran). RunsAre new o) sends.last h.ran in
    let columns : r.columns ≡ columns_of old.armed text = ran.columns ∙ ap (λ (a : List Armed). columns_of a text) same.armed in
    told_by_honesty old new item (ran_heard (Ok r) new.told) h same.dialect sends.appends.log (heard_at None new.told (told_of old.dialect h.state) r.columns (columns_of old.armed text) r.affected _ (told_is old new h same.dialect) columns ran.affected))
    (record { log = sends.appends.log; items = sends.appends.sent; tells = refl; later = sends.appends.later; counted = tt; same = same })
runs_heard honest text binds old new (Err r) sends honesty =
    let same = run_same text binds old new (Err r) sends in
    let item : Item = record { call = Run binds; text = text; answer = Refused r sends.appends.log.0 } in
    hears_item honest (Run binds) text (Refused r sends.appends.log.0) (ran_heard (Err r) new.told) old new (record { answer = Refused r sends.appends.log.0; is = refl; heard = refl })
    (λ e. (let h = honesty e in told_by_honesty old new item (ran_heard (Err r) new.told) h same.dialect sends.appends.log.1 (heard_at (Some r) new.told (told_of old.dialect h.state) 0 0 0 0 (told_is old new h same.dialect) refl refl)))
    (record { log = sends.appends.log.1; items = sends.appends.sent; tells = refl; later = sends.appends.later; counted = sends.appends.failed; same = same })

-- a text was run, and then the told status was asked
pub hears_run : (honest : Bool) (text : List ℕ) (binds : List Bind) (old mid new : Seen) (result : Result RunReply Refusal) → Runs text binds old mid result → new ≡ mid → (honest ≡ true → IsHonest new)
    → Acts honest (hear (Run binds) text) old new (ran_heard result new.told)
hears_run honest text binds old mid new result sends same honesty =
    subst (λ (x : Seen). Acts honest (hear (Run binds) text) old x (ran_heard result x.told)) (sym same) (runs_heard honest text binds old mid result sends (λ e. subst (λ (x : Seen). IsHonest x) same (honesty e)))
