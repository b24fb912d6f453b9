-- A bind more leaves those that stand there.
use Rattle.std.proofs.Common.{◌≡◌, ℕ, List, [], ◌∷◌, ◌++◌, take, drop, Result, Ok, Err, ap, sym, subst, ◌∙◌, refl}
use Rattle.std.proofs.lemmas.List.{map-append, take-map, drop-map}
use Rattle.std.specs.Prelude.{IfOk}
use Rattle.std.specs.List.{AllByRecursion}
use Rattle.std.specs.Str.{is_utf8}
use Rattle.conn_model.specs.declared.value.Bind.{Bind}
use Rattle.conn_model.specs.declared.value.Value.{Value}
use Rattle.conn_model.specs.declared.value.Value.TheVariants as value
use Rattle.conn_server.specs.BindLists.{value_of, bind_of, bind_list, IsValueIn, IsBindIn}
use Rattle.conn_server.specs.declared.binds.BindRecord.{BindRecord}
use Rattle.conn_server.specs.declared.binds.ValueRecord.{ValueRecord}
use Rattle.conn_server.specs.declared.binds.ValueRecord.TheVariants.{Null, Int, Text, Bytes}
use Rattle.conn_server.proofs.Spanning.{bytes_at-stays, IsSpan-stays}

value_of-stays : (xs ys : List ℕ) (v : ValueRecord) → IsValueIn xs v → value_of (xs ++ ys) v ≡ value_of xs v
value_of-stays xs ys Null h = refl
value_of-stays xs ys (Int n) h = refl
value_of-stays xs ys (Text s) h = ap (λ (b : List ℕ). value.Text b) (bytes_at-stays xs ys s h.within)
value_of-stays xs ys (Bytes s) h = ap (λ (b : List ℕ). value.Bytes b) (bytes_at-stays xs ys s h)

IsValueIn-stays : (xs ys : List ℕ) (v : ValueRecord) → IsValueIn xs v → IsValueIn (xs ++ ys) v
IsValueIn-stays xs ys Null h = h
IsValueIn-stays xs ys (Int n) h = h
IsValueIn-stays xs ys (Text s) h = record { within = IsSpan-stays xs ys s h.within; utf8 = ap is_utf8 (bytes_at-stays xs ys s h.within) ∙ h.utf8 }
IsValueIn-stays xs ys (Bytes s) h = IsSpan-stays xs ys s h

bind_list-stays : (rs : List BindRecord) (xs ys : List ℕ) → AllByRecursion (IsBindIn xs) rs → bind_list (xs ++ ys) rs ≡ bind_list xs rs
bind_list-stays [] xs ys all = refl
bind_list-stays (q ∷ rs) xs ys all =
    ap (λ (v : Value). record { kind = q.kind; value = v } ∷ bind_list (xs ++ ys) rs) (value_of-stays xs ys q.value all.0)
    ∙ ap (λ (bs : List Bind). bind_of xs q ∷ bs) (bind_list-stays rs xs ys all.1)

-- a record more, whose value stands in the longer buffer
pub bind_list-push : (rs : List BindRecord) (xs ys zs : List ℕ) (r : BindRecord) (b : Bind) → zs ≡ xs ++ ys → bind_of zs r ≡ b → AllByRecursion (IsBindIn xs) rs → bind_list zs (rs ++ r ∷ []) ≡ bind_list xs rs ++ b ∷ []
bind_list-push rs xs ys zs r b more is all =
    map-append (bind_of zs) rs (r ∷ [])
    ∙ ap (λ (x : Bind). bind_list zs rs ++ x ∷ []) is
    ∙ ap (λ (bs : List Bind). bs ++ b ∷ []) (ap (λ (bytes : List ℕ). bind_list bytes rs) more ∙ bind_list-stays rs xs ys all)

stand-more : (rs : List BindRecord) (xs ys : List ℕ) → AllByRecursion (IsBindIn xs) rs → AllByRecursion (IsBindIn (xs ++ ys)) rs
stand-more [] xs ys all = tt
stand-more (q ∷ rs) xs ys all = (IsValueIn-stays xs ys q.value all.0, stand-more rs xs ys all.1)

all-push : (P : BindRecord → Type 0) (rs : List BindRecord) (r : BindRecord) → P r → AllByRecursion P rs → AllByRecursion P (rs ++ r ∷ [])
all-push P [] r h all = (h, tt)
all-push P (q ∷ rs) r h all = (all.0, all-push P rs r h all.1)

pub binds_stand-push : (rs : List BindRecord) (xs ys zs : List ℕ) (r : BindRecord) → zs ≡ xs ++ ys → IsValueIn zs r.value → AllByRecursion (IsBindIn xs) rs → AllByRecursion (IsBindIn zs) (rs ++ r ∷ [])
binds_stand-push rs xs ys zs r more h all =
    all-push (IsBindIn zs) rs r h (subst (λ (bytes : List ℕ). AllByRecursion (IsBindIn bytes) rs) (sym more) (stand-more rs xs ys all))

-- a part of the records stands for the same part of the binds
pub part_copied : {E : Type 0} (buffer bytes : List ℕ) (rs records : List BindRecord) (bs : List Bind) (from count n : ℕ) (result : Result (List Bind) E) → n ≡ count → bind_list buffer rs ≡ bs → bytes ≡ buffer → records ≡ rs
    → IfOk result (λ copy. copy ≡ bind_list bytes (take n (drop from records))) → IfOk result (λ copy. copy ≡ take count (drop from bs))
part_copied buffer bytes rs records bs from count n (Err e) size is same equal h = h
part_copied buffer bytes rs records bs from count n (Ok copy) size is same equal h =
    h ∙ sym (take-map (bind_of bytes) n (drop from records)) ∙ ap (take n) (sym (drop-map (bind_of bytes) from records))
    ∙ ap (λ (b : List ℕ). take n (drop from (bind_list b records))) same ∙ ap (λ (r : List BindRecord). take n (drop from (bind_list buffer r))) equal
    ∙ ap (λ (b : List Bind). take n (drop from b)) is ∙ ap (λ (m : ℕ). take m (drop from bs)) size
