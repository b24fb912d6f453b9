-- Rows are found by the links of their records.
use Rattle.std.proofs.Common.{◌≡◌, ℕ, zero, suc, ◌+◌, ◌-◌, ◌^◌, ◌<◌, ◌≤◌, Bool, true, false, List, [], ◌∷◌, ◌++◌, length, map, take, drop, cond, min, Option, Some, None, refl, ap, sym, subst, ◌∙◌, arith, length-append}
use Rattle.std.proofs.Math.Seq.{take-length, drop-length}
use Rattle.std.proofs.lemmas.List.{take-append-le}
use Rattle.std.specs.Prelude.{if◌then◌else◌, slice_get, nat_lt, IfSome}
use Rattle.std.proofs.lemmas.Bool.{ltb-true, ltb-false}
use Rattle.std.specs.Map.{lookup}
use Rattle.std.specs.Option.{unwrap_or}
use Rattle.std.specs.Str.{bytes_eq}
use Rattle.conn_model.specs.Armed.{Values, Armed, rows_of, columns_by, columns_of, armed_of}
use Rattle.conn_model.specs.Classes.{same_text}
use Rattle.conn_model.specs.TextLaws.{text_is}
use Rattle.conn_model.specs.declared.plan.PlanLine.{PlanLine}
use Rattle.conn_model.specs.declared.plan.PlanLine.TheVariants.{Refuse, RefuseRow, NoConnect, Rows, Notify}
use Rattle.conn_server.specs.RowTables.{TextPlaces, text_place, armed_row, armed_by, record_before, has_text, ends_with, LeadsTo, count_up_to, IsRowTable}
use Rattle.conn_server.specs.declared.row_table.RowRecord.{RowRecord}

-- texts are looked up by their bytes
pub lookup-texts : {K X : Type 0} (f : K → List ℕ) (text : List ℕ) (es : List (K × X)) → lookup (same_text text) (map (λ (e : K × X). (f e.0, e.1)) es) ≡ lookup (λ (k : K). bytes_eq text (f k)) es
unfolding same_text
lookup-texts f text [] = refl
lookup-texts {K} {X} f text (e ∷ es) =
    elim (bytes_eq text (f e.0)) as (λ b. cond b (Some e.1) (lookup (bytes_eq text) (map (λ (x : K × X). (f x.0, x.1)) es)) ≡ cond b (Some e.1) (lookup (λ (k : K). bytes_eq text (f k)) es))
    [ true ↦ refl | false ↦ lookup-texts f text es ]

pub take-suc_get : {X : Type 0} (xs : List X) (n : ℕ) (x : X) → slice_get xs n ≡ Some x → take (suc n) xs ≡ take n xs ++ x ∷ []
take-suc_get [] n x h = absurd (cc)
take-suc_get {X} (y ∷ xs) zero x h = let q : y ≡ x = cc in ap (λ (z : X). z ∷ []) q
take-suc_get {X} (y ∷ xs) (suc n) x h = ap (λ (r : List X). y ∷ r) (take-suc_get xs n x h)

get-push : {X : Type 0} (xs : List X) (x : X) (q : ℕ) → q < length xs → slice_get (xs ++ x ∷ []) q ≡ slice_get xs q
get-push [] x q h = absurd (omega (arith, h))
get-push (y ∷ xs) x zero h = refl
get-push (y ∷ xs) x (suc q) h = get-push xs x q (omega (arith, h))

get-newest : {X : Type 0} (xs : List X) (x : X) → slice_get (xs ++ x ∷ []) (length xs) ≡ Some x
get-newest [] x = refl
get-newest (y ∷ xs) x = get-newest xs x

pub get-within : {X : Type 0} (xs : List X) (q : ℕ) (x : X) → slice_get xs q ≡ Some x → q < length xs
get-within [] q x h = absurd (cc)
get-within (y ∷ xs) zero x h = omega arith
get-within (y ∷ xs) (suc q) x h = let r = get-within xs q x h in omega (arith, r)

pub get-past : {X : Type 0} (xs : List X) (q : ℕ) → slice_get xs q ≡ None → length xs ≤ q
get-past [] q h = omega arith
get-past (y ∷ xs) zero h = absurd (cc)
get-past (y ∷ xs) (suc q) h = let r = get-past xs q h in omega (arith, r)

-- the newest record has the first row
pub armed_by-push : (rs : List RowRecord) (r : RowRecord) → armed_by (rs ++ r ∷ []) ≡ armed_row r ∷ armed_by rs
armed_by-push [] r = refl
armed_by-push (q ∷ rs) r = ap (λ (a : List Armed). a ++ armed_row q ∷ []) (armed_by-push rs r)

pub armed_size : (rs : List RowRecord) → length (armed_by rs) ≡ length rs
armed_size [] = refl
armed_size (r ∷ rs) = let e = length-append (armed_by rs) (armed_row r ∷ []) in let i = armed_size rs in omega (arith, e, i)

pub rows_few : (armed : List Armed) (text : List ℕ) → length (rows_of armed text) ≤ length armed
rows_few [] text = omega arith
rows_few (a ∷ armed) text = by_test (same_text a.text text) (rows_few armed text)
  where
    by_test : (b : Bool) → length (rows_of armed text) ≤ length armed → length (if b then a.row ∷ rows_of armed text else rows_of armed text) ≤ length (a ∷ armed)
    by_test true h = omega (arith, h)
    by_test false h = omega (arith, h)

-- the row of the last of so many records comes before those of the others
pub rows_next : (rs : List RowRecord) (q : ℕ) (r : RowRecord) (text : List ℕ) → slice_get rs q ≡ Some r → same_text r.text text ≡ true → rows_of (armed_by (take (suc q) rs)) text ≡ r.row ∷ rows_of (armed_by (take q rs)) text
rows_next rs q r text here same =
    ap (λ (xs : List RowRecord). rows_of (armed_by xs) text) (take-suc_get rs q r here)
    ∙ ap (λ (a : List Armed). rows_of a text) (armed_by-push (take q rs) r)
    ∙ ap (λ (b : Bool). if b then r.row ∷ rows_of (armed_by (take q rs)) text else rows_of (armed_by (take q rs)) text) same

-- ---- one record more

ends_with-push : (rs : List RowRecord) (r : RowRecord) (text : List ℕ) (c : ℕ) → c ≤ length rs → ends_with (rs ++ r ∷ []) text c ≡ ends_with rs text c
ends_with-push rs r text zero h = refl
ends_with-push rs r text (suc q) h = ap (has_text text) (get-push rs r q (omega (arith, h)))

leads-push : (rs : List RowRecord) (r : RowRecord) (n : ℕ) (text : List ℕ) (c : ℕ) → n ≤ length rs → LeadsTo rs n text c → LeadsTo (rs ++ r ∷ []) n text c
leads-push rs r n text c within l =
    let low : c ≤ length rs = omega (arith, l.low, within) in
    record {
      low = l.low;
      ends = ends_with-push rs r text c low ∙ l.ends;
      same = ap (λ (xs : List RowRecord). rows_of (armed_by xs) text) (take-append-le n rs (r ∷ []) within) ∙ l.same
          ∙ ap (λ (xs : List RowRecord). rows_of (armed_by xs) text) (sym (take-append-le c rs (r ∷ []) low));
    }

some_is : (a b : RowRecord) → Some a ≡ Some b → a ≡ b
some_is a b e = cc

-- a record whose text led to its next row was put last
pub table-push : (rs : List RowRecord) (r : RowRecord) (old new : TextPlaces) → r.next ≡ count_up_to old r.text
    → ((text : List ℕ) → text_place new text ≡ (if same_text r.text text then Some (length (rs ++ r ∷ [])) else text_place old text)) → length (rs ++ r ∷ []) + 1 < 2 ^ 64 → IsRowTable rs old → IsRowTable (rs ++ r ∷ []) new
table-push rs r old new next puts small t = record {
  linked = λ q p here. linked_at q p here (within q p here);
  found = λ text. found_by text (same_text r.text text) refl;
  small = small;
}
  where
    size : length (rs ++ r ∷ []) ≡ length rs + 1
    size = length-append rs (r ∷ [])

    within : (q : ℕ) (p : RowRecord) → slice_get (rs ++ r ∷ []) q ≡ Some p → q < length rs + 1
    within q p here = let w = get-within (rs ++ r ∷ []) q p here in omega (arith, w, size)

    linked_at : (q : ℕ) (p : RowRecord) → slice_get (rs ++ r ∷ []) q ≡ Some p → q < length rs + 1 → LeadsTo (rs ++ r ∷ []) q p.text p.next
    linked_at q p here w = by_place (nat_lt q (length rs)) refl
      where
        by_place : (b : Bool) → nat_lt q (length rs) ≡ b → LeadsTo (rs ++ r ∷ []) q p.text p.next
        by_place true e =
            let l : q < length rs = ltb-true q (length rs) e in
            leads-push rs r q p.text p.next (omega (arith, l)) (t.linked q p (sym (get-push rs r q l) ∙ here))
        by_place false e =
            let g : length rs ≤ q = ltb-false q (length rs) e in
            let at : q ≡ length rs = omega (arith, g, w) in
            let is : r ≡ p = some_is r p (sym (get-newest rs r) ∙ ap (slice_get (rs ++ r ∷ [])) (sym at) ∙ here) in
            subst (λ (x : RowRecord). LeadsTo (rs ++ r ∷ []) q x.text x.next) is
            (subst (λ (m : ℕ). LeadsTo (rs ++ r ∷ []) m r.text r.next) (sym at)
            (leads-push rs r (length rs) r.text r.next (omega arith) (subst (λ (m : ℕ). LeadsTo rs (length rs) r.text m) (sym next) (t.found r.text))))

    found_by : (text : List ℕ) (b : Bool) → same_text r.text text ≡ b → LeadsTo (rs ++ r ∷ []) (length (rs ++ r ∷ [])) text (count_up_to new text)
    found_by text true e =
        let all = length (rs ++ r ∷ []) in
        let last : all ≡ suc (length rs) = omega (arith, size) in
        let count : count_up_to new text ≡ all = ap (λ (o : Option ℕ). unwrap_or o 0) (puts text ∙ ap (λ (b : Bool). if b then Some all else text_place old text) e) in
        subst (λ (m : ℕ). LeadsTo (rs ++ r ∷ []) all text m) (sym count) (record {
          low = omega arith;
          ends = ap (ends_with (rs ++ r ∷ []) text) last ∙ ap (has_text text) (get-newest rs r) ∙ e;
          same = refl;
        })
    found_by text false e =
        let all = length (rs ++ r ∷ []) in
        let count : count_up_to new text ≡ count_up_to old text = ap (λ (o : Option ℕ). unwrap_or o 0) (puts text ∙ ap (λ (b : Bool). if b then Some all else text_place old text) e) in
        let l = leads-push rs r (length rs) text (count_up_to old text) (omega arith) (t.found text) in
        let whole : rows_of (armed_by (take all (rs ++ r ∷ []))) text ≡ rows_of (armed_by (take (length rs) (rs ++ r ∷ []))) text =
        ap (λ (xs : List RowRecord). rows_of (armed_by xs) text) (take-length (rs ++ r ∷ []))
        ∙ ap (λ (a : List Armed). rows_of a text) (armed_by-push rs r)
        ∙ ap (λ (b : Bool). if b then r.row ∷ rows_of (armed_by rs) text else rows_of (armed_by rs) text) e
        ∙ ap (λ (xs : List RowRecord). rows_of (armed_by xs) text) (sym (take-append-le (length rs) rs (r ∷ []) (omega arith) ∙ take-length rs)) in
        subst (λ (m : ℕ). LeadsTo (rs ++ r ∷ []) all text m) (sym count) (record { low = omega (arith, l.low, size); ends = l.ends; same = whole ∙ l.same })

-- the places by text are the same
pub table-same : (rs : List RowRecord) (old new : TextPlaces) → ((text : List ℕ) → text_place new text ≡ text_place old text) → IsRowTable rs old → IsRowTable rs new
table-same rs old new same t = record {
  linked = t.linked;
  found = λ text. subst (λ (m : ℕ). LeadsTo rs (length rs) text m) (sym (ap (λ (o : Option ℕ). unwrap_or o 0) (same text))) (t.found text);
  small = t.small;
}

pub table-none : (first : TextPlaces) → ((text : List ℕ) → text_place first text ≡ None) → IsRowTable [] first
table-none first none = record {
  linked = λ q r h. absurd (cc);
  found = λ text. subst (λ (m : ℕ). LeadsTo [] 0 text m) (sym (ap (λ (o : Option ℕ). unwrap_or o 0) (none text))) (record { low = omega arith; ends = refl; same = refl });
  small = omega arith;
}

-- ---- the last of so many records

pub before_is : (rs : List RowRecord) (c : ℕ) → 0 < c → record_before rs c ≡ slice_get rs (c - 1)
before_is rs zero h = absurd (omega (arith, h))
before_is rs (suc q) h = let at : q ≡ suc q - 1 = omega arith in ap (slice_get rs) at

pub linked_if : (rs : List RowRecord) (first : TextPlaces) (q : ℕ) (o : Option RowRecord) → IsRowTable rs first → o ≡ slice_get rs q → IfSome o (λ (r : RowRecord). LeadsTo rs q r.text r.next)
linked_if rs first q None t h = tt
linked_if rs first q (Some r) t h = t.linked q r (sym h)

-- ---- the first row of a text

pub none_before : (rs : List RowRecord) (c : ℕ) → c ≤ length rs → record_before rs c ≡ None → c ≡ 0
none_before rs zero within h = refl
none_before rs (suc q) within h = let past = get-past rs q h in absurd (omega (arith, past, within))

-- without a first row there is none
pub first_none : (rs : List RowRecord) (text : List ℕ) (c : ℕ) → LeadsTo rs (length rs) text c → record_before rs c ≡ None → rows_of (armed_by rs) text ≡ []
first_none rs text c l h =
    ap (λ (xs : List RowRecord). rows_of (armed_by xs) text) (sym (take-length rs)) ∙ l.same ∙ ap (λ (m : ℕ). rows_of (armed_by (take m rs)) text) (none_before rs c l.low h)

-- the first row is that of its record
pub first_some : (rs : List RowRecord) (text : List ℕ) (c : ℕ) (r : RowRecord) → LeadsTo rs (length rs) text c → record_before rs c ≡ Some r → rows_of (armed_by rs) text ≡ r.row ∷ rows_of (armed_by (take (c - 1) rs)) text
first_some rs text zero r l h = absurd (cc)
first_some rs text (suc q) r l h =
    let same : same_text r.text text ≡ true = sym (ap (has_text text) h) ∙ l.ends in
    let at : q ≡ suc q - 1 = omega arith in
    ap (λ (xs : List RowRecord). rows_of (armed_by xs) text) (sym (take-length rs)) ∙ l.same ∙ rows_next rs q r text h same
    ∙ ap (λ (m : ℕ). r.row ∷ rows_of (armed_by (take m rs)) text) at

-- so are the columns of a text
pub columns_none : (rs : List RowRecord) (text : List ℕ) (c : ℕ) → LeadsTo rs (length rs) text c → record_before rs c ≡ None → columns_of (armed_by rs) text ≡ columns_of [] text
columns_none rs text c l h = ap (λ (rows : List Values). columns_by rows text) (first_none rs text c l h)

pub columns_some : (rs : List RowRecord) (text : List ℕ) (c : ℕ) (r : RowRecord) → LeadsTo rs (length rs) text c → record_before rs c ≡ Some r → columns_of (armed_by rs) text ≡ min (length r.row) 4294967295
columns_some rs text c r l h = ap (λ (rows : List Values). columns_by rows text) (first_some rs text c r l h)

-- ---- the rows of a plan

pub armed_of-cons : (l : PlanLine) (ls : List PlanLine) → armed_of (l ∷ ls) ≡ armed_of (l ∷ []) ++ armed_of ls
armed_of-cons (Rows t r) ls = refl
armed_of-cons (Refuse s i c k w) ls = refl
armed_of-cons (RefuseRow s i r c k w) ls = refl
armed_of-cons (NoConnect a c) ls = refl
armed_of-cons (Notify s n) ls = refl

drop_at : (ls : List PlanLine) (n : ℕ) (l : PlanLine) → slice_get ls n ≡ Some l → drop n ls ≡ l ∷ drop (suc n) ls
drop_at [] n l h = absurd (cc)
drop_at (x ∷ ls) zero l h = let q : x ≡ l = cc in ap (λ (y : PlanLine). y ∷ ls) q
drop_at (x ∷ ls) (suc n) l h = drop_at ls n l h

pub rows_at_end : (plan : List PlanLine) (n : ℕ) → n ≡ length plan → armed_of (drop n plan) ≡ []
rows_at_end plan n e = ap (λ (m : ℕ). armed_of (drop m plan)) e ∙ ap armed_of (drop-length plan)

-- the rows from one line earlier on
pub rows_earlier : (plan : List PlanLine) (n left : ℕ) (l : PlanLine) → left ≡ suc n → slice_get plan n ≡ Some l → armed_of (l ∷ []) ++ armed_of (drop left plan) ≡ armed_of (drop n plan)
rows_earlier plan n left l next here =
    ap (λ (m : ℕ). armed_of (l ∷ []) ++ armed_of (drop m plan)) next ∙ sym (armed_of-cons l (drop (suc n) plan)) ∙ ap armed_of (sym (drop_at plan n l here))
