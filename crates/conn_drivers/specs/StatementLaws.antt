-- A statement that a wire prepares stands for its text, and the others stand still.
use Rattle.std.specs.Prelude.{◌≡◌, ℕ, Bool, true, false, nat_eq, if◌then◌else◌, List, [], ◌∷◌, Option, Some, None, Result, Ok, Err, IfOk, refl}
use Rattle.std.specs.Option.{option_map, unwrap_or}
use Rattle.std.proofs.Common.{ap, arith, subst, sym, ◌∙◌}
use Rattle.std.proofs.lemmas.Bool.Decides.{nat_tests}
use Rattle.conn_result.specs.declared.error.Error.{Error}
use Rattle.conn_cache.specs.Preparers.{IsApart, IsFresh, IsServed}
use Rattle.conn_cache.specs.declared.preparer.PrepareForCache.{PrepareForCache}
use Rattle.conn_cache.specs.declared.preparer.PrepareForCache.TheVariants.{Yes, No}
use Rattle.conn_manager.specs.Statuses.{Status}
use Rattle.conn_model.specs.Seen.{Seen, Opened}
use Rattle.conn_model.specs.Statements.{find_open, opened_by, without_open}
use Rattle.conn_model.specs.declared.item.Dialect.{Dialect}
use Rattle.conn_model.specs.declared.item.Dialect.TheVariants.{Pg, Mysql, Sqlite}
use Rattle.conn_model.specs.declared.item.Refusal.{Refusal}
use Rattle.conn_model.specs.declared.reply.Prepared.{Prepared}
use Rattle.conn_drivers.specs.Prepares.{SendsPrepare, WireCloses, WirePrepares, WirePreparesBy, sends_none, statement_by}
use Rattle.conn_drivers.specs.Standing.{stands_in}
use Rattle.conn_drivers.specs.declared.statement.Statement.{Statement}

same_number : (n : ℕ) → nat_eq n n ≡ true
same_number n = grind (arith, nat_tests)

none_other : (o : Option Opened) (x : Opened) → o ≡ None → o ≡ Some x → ⊥
none_other o x e f = cc

-- the newest is found
newest : (t : ℕ) (x : Opened) (os : List Opened) → x.statement ≡ t → find_open t (x ∷ os) ≡ Some x
newest t x os e = rw (e, same_number t) refl

-- one that was found is found below a fresh one
below : (u : ℕ) (x y : Opened) (os : List Opened) (b : Bool) → nat_eq x.statement u ≡ b → find_open x.statement os ≡ None → find_open u os ≡ Some y → find_open u (x ∷ os) ≡ Some y
below u x y os true is fresh h = absurd (none_other (find_open x.statement os) y fresh (let e : x.statement ≡ u = grind (arith, nat_tests) in rw e h))
below u x y os false is fresh h = rw is h

fresh_by : (d : Dialect) (honest : Bool) (sql : List ℕ) (how : PrepareForCache) (old new : Seen) (s s1 : Status) (t : Statement) → SendsPrepare d honest sql how old new s s1 (Ok t) → IsFresh (stands_in old.open_statements) (stands_in new.open_statements) t sql
fresh_by d honest sql how old new s s1 t p = by_answer p.answer p.gives p.fresh p.opens
  where
    by_answer : (r : Result Prepared Refusal) → Ok t ≡ statement_by r → IfOk r (λ x. find_open x.statement old.open_statements ≡ None) → new.open_statements ≡ opened_by sql r old.open_statements
        → IsFresh (stands_in old.open_statements) (stands_in new.open_statements) t sql
    by_answer (Ok x) e fresh opens =
        let same : t ≡ record { number = x.statement; columns = x.columns } = cc in
        rw same (record {
          apart = λ text f. none_other (find_open x.statement old.open_statements) _ fresh f;
          stands = rw opens (newest x.statement _ old.open_statements refl);
        })
    by_answer (Err r) e fresh opens = absurd (cc)

served_sends : (d : Dialect) (how : PrepareForCache) → IsServed false how → sends_none d how ≡ false
served_sends d No served = absurd (cc)
served_sends Pg (Yes n) served = refl
served_sends Mysql (Yes n) served = refl
served_sends Sqlite (Yes n) served = refl

-- a kept statement stood for nothing, and stands for its text
pub is_fresh : (honest : Bool) (sql : List ℕ) (how : PrepareForCache) (old new : Seen) (s s1 : Status) (t : Statement) → WirePrepares honest sql how old new s s1 (Ok t) → IsServed false how → IsFresh (stands_in old.open_statements) (stands_in new.open_statements) t sql
is_fresh honest sql how old new s s1 t did served =
    fresh_by old.dialect honest sql how old new s s1 t (subst (λ (b : Bool). WirePreparesBy b old.dialect honest sql how old new s s1 (Ok t)) (served_sends old.dialect how served) did)

stay_by : (none : Bool) (d : Dialect) (honest : Bool) (sql : List ℕ) (how : PrepareForCache) (old new : Seen) (s s1 : Status) (r : Result Statement Error) → WirePreparesBy none d honest sql how old new s s1 r
    → (u : Statement) (text : List ℕ) → stands_in old.open_statements u text → stands_in new.open_statements u text
stay_by true d honest sql how old new s s1 r p u text h = rw p.seen h
stay_by false d honest sql how old new s s1 r p u text h = by_answer p.answer p.fresh p.opens
  where
    by_answer : (a : Result Prepared Refusal) → IfOk a (λ x. find_open x.statement old.open_statements ≡ None) → new.open_statements ≡ opened_by sql a old.open_statements → stands_in new.open_statements u text
    by_answer (Ok x) fresh opens = rw opens (below u.number _ _ old.open_statements (nat_eq x.statement u.number) refl fresh h)
    by_answer (Err e) fresh opens = rw opens h

-- a prepare leaves the others
pub stay_at_prepare : (honest : Bool) (sql : List ℕ) (how : PrepareForCache) (old new : Seen) (s s1 : Status) (r : Result Statement Error) → WirePrepares honest sql how old new s s1 r
    → (u : Statement) (text : List ℕ) → stands_in old.open_statements u text → stands_in new.open_statements u text
stay_at_prepare honest sql how old new s s1 r did u text h = stay_by (sends_none old.dialect how) old.dialect honest sql how old new s s1 r did u text h

-- ---- closing

beside : (n u : ℕ) (o : Opened) (os : List Opened) (b : Bool) → nat_eq o.statement n ≡ b → nat_eq n u ≡ false → find_open u (without_open n os) ≡ find_open u os → find_open u (without_open n (o ∷ os)) ≡ find_open u (o ∷ os)
beside n u o os true is other rest = let apart : nat_eq o.statement u ≡ false = grind (arith, nat_tests) in rw (is, apart) rest
beside n u o os false is other rest = rw is (ap (λ (r : Option Opened). if nat_eq o.statement u then Some o else r) rest)

pub found_beside : (n u : ℕ) (os : List Opened) → nat_eq n u ≡ false → find_open u (without_open n os) ≡ find_open u os
found_beside n u [] other = refl
found_beside n u (o ∷ os) other = beside n u o os (nat_eq o.statement n) refl other (found_beside n u os other)

-- two that stand under one number are one
same_statement : (os : List Opened) (t u : Statement) (own text : List ℕ) → t.number ≡ u.number → stands_in os t own → stands_in os u text → t ≡ u
same_statement os t u own text same h k =
    let found : find_open t.number os ≡ find_open u.number os = ap (λ (n : ℕ). find_open n os) same in
    let columns : t.columns ≡ u.columns = ap (λ (o : Option Opened). unwrap_or (option_map (λ (x : Opened). x.columns) o) 0) (sym h ∙ found ∙ k) in
    λ i. record { number = same i; columns = columns i }

-- the close of one that stood for a text leaves the others
pub stay_at_close : (t : Statement) (own : List ℕ) (old new : Seen) (s s1 : Status) → stands_in old.open_statements t own → WireCloses t old new s s1
    → (u : Statement) (text : List ℕ) → IsApart u (t ∷ []) → stands_in old.open_statements u text → stands_in new.open_statements u text
stay_at_close t own old new s s1 stood closed u text apart h = by_test (nat_eq t.number u.number) refl
  where
    by_test : (b : Bool) → nat_eq t.number u.number ≡ b → stands_in new.open_statements u text
    by_test true is = absurd (apart.0 (same_statement old.open_statements t u own text (grind (arith, nat_tests)) stood h))
    by_test false is = ap (λ (x : Seen). find_open u.number x.open_statements) closed.seen ∙ found_beside t.number u.number old.open_statements is ∙ h
