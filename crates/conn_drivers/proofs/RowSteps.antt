-- Rows that are asked of a server, and what is heard of them.
use Rattle.std.proofs.Common.{◌≡◌, ℕ, ◌≤◌, arith, Bool, true, List, [], ◌++◌, ap, sym, ◌∙◌, subst, Option, Some, None}
use Rattle.std.specs.Option.{option_map, unwrap_or}
use Rattle.conn_result.specs.Causes.{Rose}
use Rattle.conn_model.specs.Acts.{Acts}
use Rattle.conn_model.specs.Armed.{Values, rows_of}
use Rattle.conn_model.specs.Caches.{Known}
use Rattle.conn_model.specs.Events.{Heeded}
use Rattle.conn_model.specs.Process.{Process, Heard, given_rows, hear_rows, plain_heard}
use Rattle.conn_model.specs.Seen.{Seen, IsHonest}
use Rattle.conn_model.specs.declared.item.Dialect.{Dialect}
use Rattle.conn_model.specs.declared.item.Refusal.{Refusal}
use Rattle.conn_model.proofs.Rows.{HasGiven, hears_given, hears_refused}
use Rattle.conn_cache.specs.LoadProcesses.{Gathering, looked, looks}
use Rattle.conn_cache.specs.QueryProcesses.{Asked, finishes}
use Rattle.conn_cache.specs.QueryViews.{QueryView}
use Rattle.conn_manager.specs.Statuses.{Status, retold}
use Rattle.conn_drivers.specs.Loading.{EndsReading, HasRead, HasRows, Looks, all_rows}
use Rattle.conn_drivers.specs.Queried.{Goes}
use Rattle.conn_drivers.proofs.Going.{goes_looked}

-- ---- what is left as it was

has_given : (old new : Seen) (front : List Values) → HasRead old new front → HasGiven old new
has_given old new front read = record { keeps = read.keeps }

-- no statement was opened or closed
pub looks_open : (old new : Seen) (s s1 : Status) (front : List Values) (refusal : Option Refusal) → Looks old new s s1 front refusal → new.open_statements ≡ old.open_statements
looks_open old new s s1 front refusal looks = by_refusal refusal looks.ending ∙ ap (λ (x : Seen). x.open_statements) looks.read.keeps
  where
    by_refusal : (o : Option Refusal) → EndsReading o looks.mid new s s1 → new.open_statements ≡ looks.mid.open_statements
    by_refusal None ending = ap (λ (x : Seen). x.open_statements) ending.0
    by_refusal (Some r) ending = ap (λ (x : Seen). x.open_statements) ending.0.keeps

-- a refusal was counted, and nothing else
pub looks_later : (old new : Seen) (s s1 : Status) (front : List Values) (refusal : Option Refusal) → Looks old new s s1 front refusal → old.failures ≤ new.failures
looks_later old new s s1 front refusal looks =
    let same : looks.mid.failures ≡ old.failures = ap (λ (x : Seen). x.failures) looks.read.keeps in
    subst (λ (n : ℕ). n ≤ new.failures) same (by_refusal refusal looks.ending)
  where
    by_refusal : (o : Option Refusal) → EndsReading o looks.mid new s s1 → looks.mid.failures ≤ new.failures
    by_refusal None ending = let e : new.failures ≡ looks.mid.failures = ap (λ (x : Seen). x.failures) ending.0 in omega (arith, e)
    by_refusal (Some r) ending = ending.0.later

pub looks_rose : (old new : Seen) (s s1 : Status) (front : List Values) (r : Refusal) → Looks old new s s1 front (Some r) → Rose old.failures new.failures
looks_rose old new s s1 front r looks = subst (λ (n : ℕ). Rose n new.failures) (ap (λ (x : Seen). x.failures) looks.read.keeps) looks.ending.0.failed

-- ---- what is heard

whole_rows : (front : List Values) (o : Option (List Values)) (all : List Values) → Some all ≡ option_map (λ (rest : List Values). front ++ rest) o → front ++ unwrap_or o [] ≡ all
whole_rows front None all e = absurd (cc)
whole_rows front (Some rest) all e = cc

-- the rows of a run were asked, and its query is over with them
pub look_goes : (honest : Bool) (gather : Gathering) (d : Dialect) (q : QueryView) (affected : ℕ) (old new : Seen) (s s1 : Status) (k : Known) (told : Heeded) (front : List Values) (refusal : Option Refusal) → d ≡ old.dialect → HasRows honest q.sql old → (honest ≡ true → IsHonest new)
    → Looks old new s s1 front refusal → Goes honest (looks gather d q affected s k) (finishes q.sql (gather refusal (all_rows refusal front new)) s1 k) old new told told
look_goes honest gather d q affected old new s s1 k told front refusal is there honesty look = by_refusal refusal look.ending
  where
    next : Heard → Process (Asked (List Values))
    next h = finishes q.sql (gather h.refusal h.rows) (looked d h.refusal h.told s) k

    by_refusal : (o : Option Refusal) → EndsReading o look.mid new s s1 → Goes honest (looks gather d q affected s k) (finishes q.sql (gather o (all_rows o front new)) s1 k) old new told told
    by_refusal None ending =
        let rows = front ++ unwrap_or new.rows [] in
        let given : HasGiven old new = subst (λ (x : Seen). HasGiven old x) (sym ending.0) (has_given old look.mid front look.read) in
        let read : old.rows ≡ option_map (λ (rest : List Values). front ++ rest) new.rows = look.read.rows ∙ ap (λ (x : Seen). option_map (λ (rest : List Values). front ++ rest) x.rows) (sym ending.0) in
        let acts : Acts honest (hear_rows q.sql) old new (given_rows rows) = hears_given honest q.sql old new rows given (λ e. whole_rows front new.rows (rows_of old.armed q.sql) (sym (there.rows e) ∙ read)) in
        let went = goes_looked honest q.sql (λ (h : Heard). finishes q.sql (gather h.refusal h.rows) (looked d h.refusal h.told s) k) (given_rows rows) old new told acts in
        subst (λ (x : Status). Goes honest (looks gather d q affected s k) (finishes q.sql (gather None rows) x k) old new told told) (sym ending.1) went
    by_refusal (Some r) ending =
        let acts : Acts honest (hear_rows q.sql) old new (plain_heard (Some r) new.told) = hears_refused honest q.sql old look.mid new r (has_given old look.mid front look.read) ending.0 honesty in
        let went = goes_looked honest q.sql (λ (h : Heard). finishes q.sql (gather h.refusal h.rows) (looked d h.refusal h.told s) k) (plain_heard (Some r) new.told) old new told acts in
        let d' : look.mid.dialect ≡ d = ap (λ (x : Seen). x.dialect) look.read.keeps ∙ sym is in
        let follows : retold d (Some r) new.told s ≡ s1 = sym (ending.1 ∙ ap (λ (x : Dialect). retold x (Some r) new.told s) d') in
        subst (λ (x : Status). Goes honest (looks gather d q affected s k) (finishes q.sql (gather (Some r) []) x k) old new told told) follows went
