-- Writes that are copied one by one.
use Rattle.std.proofs.Common.{◌≡◌, ℕ, zero, suc, ◌+◌, ◌<◌, Bool, true, List, [], ◌∷◌, ◌++◌, length, take, Option, Some, None, refl, sym, ap, ◌∙◌, arith, add-one, inl, inr}
use Rattle.std.specs.Prelude.{slice_get, IsSome}
use Rattle.std.specs.Option.{option_map, option_and_then}
use Rattle.std.proofs.lemmas.Bool.{cases_lt}
use Rattle.std.proofs.lemmas.List.{length_push}
use Rattle.conn_model.specs.Seen.{Seen}
use Rattle.conn_model.specs.declared.item.Dialect.{Dialect}
use Rattle.conn_model.specs.States.{Writes}
use Rattle.conn_server.specs.Connected.{Connected, writes_by}
use Rattle.conn_session.specs.Accounts.{servers_of}
use Rattle.conn_session.specs.Commands.{EachTold, told_at}

-- the list that is counted
pub counted : {X : Type 0} (o : Option (List X)) (n : ℕ) → option_map length o ≡ Some n → (xs : List X) × (o ≡ Some xs) × (length xs ≡ n)
counted None n e = absurd (cc)
counted (Some xs) n e = (xs, refl, cc)

take_next : {X : Type 0} (xs : List X) (i : ℕ) (x : X) → slice_get xs i ≡ Some x → take (suc i) xs ≡ take i xs ++ x ∷ []
take_next [] i x e = absurd (cc)
take_next (y ∷ ys) zero x e = let same : y ≡ x = cc in ap (λ z. z ∷ []) same
take_next (y ∷ ys) (suc i) x e = ap (λ zs. y ∷ zs) (take_next ys i x e)

pub one_more : {X : Type 0} (o : Option (List X)) (xs done : List X) (i : ℕ) (x : X) → o ≡ Some xs → option_and_then (λ (ys : List X). slice_get ys i) o ≡ Some x → done ≡ take i xs → done ++ x ∷ [] ≡ take (i + 1) xs
one_more {X} o xs done i x e f g = rw add-one (ap (λ (ys : List X). ys ++ x ∷ []) g ∙ sym (take_next xs i x (sym (ap (λ (p : Option (List X)). option_and_then (λ (ys : List X). slice_get ys i) p) e) ∙ f)))

-- a place within the list has an element
there : {X : Type 0} (xs : List X) (i : ℕ) → i < length xs → IsSome (slice_get xs i)
there [] i l = absurd (omega arith)
there (y ∷ ys) zero l = refl
there (y ∷ ys) (suc i) l = there ys i (omega arith)

pub is_there : {X : Type 0} (o : Option (List X)) (n i : ℕ) → option_map length o ≡ Some n → i < n → IsSome (option_and_then (λ (ys : List X). slice_get ys i) o)
is_there None n i e l = absurd (cc)
is_there (Some xs) n i e l = (let f : length xs ≡ n = cc in there xs i (omega arith))

-- ---- the servers of a transcript

length-servers_of : (tells : Bool) (opened : ℕ) (returned : List Seen) → length (servers_of tells opened returned) ≡ opened
length-servers_of tells zero returned = refl
length-servers_of tells (suc n) returned = length_push (servers_of tells n returned) (writes_by tells n returned) ∙ omega (arith, length-servers_of tells n returned)

get-push_old : {X : Type 0} (xs : List X) (y : X) (n : ℕ) → n < length xs → slice_get (xs ++ y ∷ []) n ≡ slice_get xs n
get-push_old [] y n l = absurd (omega arith)
get-push_old (x ∷ xs) y zero l = refl
get-push_old (x ∷ xs) y (suc n) l = get-push_old xs y n (omega arith)

get-push_new : {X : Type 0} (xs : List X) (y : X) (n : ℕ) → n ≡ length xs → slice_get (xs ++ y ∷ []) n ≡ Some y
get-push_new [] y n e = rw e refl
get-push_new (x ∷ xs) y zero e = absurd (omega arith)
get-push_new (x ∷ xs) y (suc n) e = get-push_new xs y n (omega arith)

-- at each number that was opened stand the writes of its server
told_at-servers_of : (tells : Bool) (opened n : ℕ) (returned : List Seen) → n < opened → told_at (servers_of tells opened returned) n ≡ writes_by tells n returned
told_at-servers_of tells zero n returned l = absurd (omega arith)
told_at-servers_of tells (suc m) n returned l =
    let xs = servers_of tells m returned in
    let y = writes_by tells m returned in
    let long = length-servers_of tells m returned in
    let pick : Option (Option Writes) → Option Writes = λ o. option_and_then (λ (writes : Option Writes). writes) o in
    elim (cases_lt n m) [
      | inl below ↦ ap pick (get-push_old xs y n (omega (arith, long))) ∙ told_at-servers_of tells m n returned below
      | inr last ↦ ap pick (get-push_new xs y n (omega (arith, long))) ∙ ap (λ (k : ℕ). writes_by tells k returned) (omega arith)
    ]

pub each_told : (d : Dialect) (k : Connected) (tells : Bool) (servers : List (Option Writes)) → tells ≡ true → servers ≡ servers_of tells k.opened k.returned → EachTold d k (λ n. writes_by true n k.returned) → EachTold d k (told_at servers)
each_told d k tells servers t e told n l =
    let kept = told n l in
    record {
      state = kept.state;
      lawful = kept.lawful;
      told_is = ap (λ (xs : List (Option Writes)). told_at xs n) e ∙ told_at-servers_of tells k.opened n k.returned l ∙ ap (λ (b : Bool). writes_by b n k.returned) t ∙ kept.told_is;
    }
