-- Lines that name keys, and the sets of the keys that are named.
use Rattle.std.specs.Prelude.{◌≡◌, Bool, false, List, Option, Some, None}
use Rattle.std.specs.List.{list_any}
use Rattle.std.specs.BTreeMap.{is_at}
use Rattle.std.specs.declared.cmp.Ordering.{Ordering}

-- there is a key, and it is this one
abbrev pub is_key : {K : Type 0} → (K → K → Ordering) → K → Option K → Bool
is_key compare k None = false
is_key compare k (Some j) = is_at (compare k) j

-- a line names this key
abbrev pub is_named_in : {X K : Type 0} → (K → K → Ordering) → (X → Option K) → List X → K → Bool
is_named_in compare key lines k = list_any (λ x. is_key compare k (key x)) lines

-- these are the keys that the lines name
abbrev pub AreKeys : {X K : Type 0} → (K → K → Ordering) → (X → Option K) → List K → List X → Type 0
AreKeys {X} {K} compare key keys lines =
    (k : K) → list_any (is_at (compare k)) keys ≡ is_named_in compare key lines k
