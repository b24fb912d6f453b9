-- Open statements go by the places of their records.
use Rattle.std.proofs.Common.{◌≡◌, ℕ, zero, suc, ◌+◌, ◌<◌, ◌≤◌, Bool, true, false, List, [], ◌∷◌, ◌++◌, length, Option, Some, None, refl, ap, sym, subst, ◌∙◌, arith}
use Rattle.std.proofs.lemmas.Bool.Decides.{nat_tests}
use Rattle.std.specs.Prelude.{if◌then◌else◌, nat_eq, slice_get, slice_set, IsSome}
use Rattle.std.proofs.lemmas.List.{map-append, append-nil}
use Rattle.std.specs.Option.{option_map, unwrap_or}
use Rattle.std.specs.List.{AllByRecursion}
use Rattle.conn_model.specs.Statements.{find_open, without_open, source_text, text_of}
use Rattle.conn_model.specs.declared.reply.RunSource.{RunSource}
use Rattle.conn_model.specs.declared.reply.RunSource.TheVariants as source
use Rattle.conn_model.specs.Armed.{Armed}
use Rattle.conn_model.specs.Seen.{Opened}
use Rattle.conn_server.specs.Indexed.{or_else}
use Rattle.conn_server.specs.Logged.{Statement, opened_of, open_statements, record_text, record_text_at, text_in_records, statement_if, statements_from, IsRecordIn, IsSourceIn, IsAt}
use Rattle.conn_server.specs.declared.log.Record.{Record}

find_open-append : (k : ℕ) (xs ys : List Opened) → find_open k (xs ++ ys) ≡ or_else (find_open k xs) (find_open k ys)
find_open-append k [] ys = refl
find_open-append k (x ∷ xs) ys =
    elim (nat_eq x.statement k) as (λ b. (if b then Some x else find_open k (xs ++ ys)) ≡ or_else (if b then Some x else find_open k xs) (find_open k ys))
    [ true ↦ refl | false ↦ find_open-append k xs ys ]

without_open-append : (k : ℕ) (xs ys : List Opened) → without_open k (xs ++ ys) ≡ without_open k xs ++ without_open k ys
without_open-append k [] ys = refl
without_open-append k (x ∷ xs) ys =
    elim (nat_eq x.statement k) as (λ b. (if b then without_open k (xs ++ ys) else x ∷ without_open k (xs ++ ys)) ≡ (if b then without_open k xs else x ∷ without_open k xs) ++ without_open k ys)
    [ true ↦ without_open-append k xs ys | false ↦ ap (λ (os : List Opened). x ∷ os) (without_open-append k xs ys) ]

-- where a number isn't found, leaving it out changes nothing
without_open-none : (k : ℕ) (os : List Opened) → find_open k os ≡ None → without_open k os ≡ os
without_open-none k [] h = refl
without_open-none k (o ∷ os) h =
    elim (nat_eq o.statement k) as (λ b. (if b then Some o else find_open k os) ≡ None → (if b then without_open k os else o ∷ without_open k os) ≡ o ∷ os)
    [ true ↦ (λ g. absurd (cc)) | false ↦ (λ g. ap (λ (r : List Opened). o ∷ r) (without_open-none k os g)) ] h

-- an open statement has the text of its record
pub record IsOpenAt (buffer : List ℕ) (n : ℕ) (rs : List Record) (k : ℕ) (text : List ℕ) : Type 0 where
  pub place : ℕ
  pub found : Record
  pub number : n + place ≡ k
  pub is : slice_get rs place ≡ Some found
  pub text_is : text ≡ record_text buffer found

-- the record of an open statement, which goes by its place
pub record IsOpenHere (buffer : List ℕ) (rs : List Record) (k : ℕ) (text : List ℕ) : Type 0 where
  pub found : Record
  pub is : slice_get rs k ≡ Some found
  pub text_is : text ≡ record_text buffer found

-- the text of an open statement stands at its place
pub record StandsAt (buffer : List ℕ) (rs : List Record) (k : ℕ) (text : List ℕ) : Type 0 where
  pub at : IsAt buffer rs k
  pub text_is : record_text_at buffer rs k ≡ text

pub all_at : (P : Record → Type 0) (rs : List Record) (k : ℕ) (r : Record) → AllByRecursion P rs → slice_get rs k ≡ Some r → P r
all_at P [] k r all h = absurd (cc)
all_at P (q ∷ rs) zero r all h =
    let same : q ≡ r = cc in
    subst P same all.0
all_at P (q ∷ rs) (suc k) r all h = all_at P rs k r all.1 h

text_same : (a b : List Armed) (ss : List Statement) (k : ℕ) → option_map (λ (o : Opened). o.text) (find_open k (open_statements a ss)) ≡ option_map (λ (o : Opened). o.text) (find_open k (open_statements b ss))
text_same a b [] k = refl
text_same a b (s ∷ ss) k =
    elim (nat_eq s.number k) as (λ t. option_map (λ (o : Opened). o.text) (if t then Some (opened_of a s) else find_open k (open_statements a ss)) ≡ option_map (λ (o : Opened). o.text) (if t then Some (opened_of b s) else find_open k (open_statements b ss)))
    [ true ↦ refl | false ↦ text_same a b ss k ]

-- the text of a source doesn't go by the rows
pub source_same : (a b : List Armed) (ss : List Statement) (s : RunSource) → source_text (open_statements a ss) s ≡ source_text (open_statements b ss) s
source_same a b ss (source.Unnamed text) = refl
source_same a b ss (source.Prepared k) = text_same a b ss k

module _ (armed : List Armed) where
  -- the open statements of records from a place on
  opened_from : List ℕ → ℕ → List Record → List Opened
  opened_from buffer n rs = open_statements armed (statements_from buffer n rs)

  opened_from-cons : (buffer : List ℕ) (n : ℕ) (r : Record) (rs : List Record) → opened_from buffer n (r ∷ rs) ≡ opened_from buffer (suc n) rs ++ open_statements armed (statement_if (r.is_open) n (record_text buffer r))
  unfolding opened_from
  opened_from-cons buffer n r rs = map-append (opened_of armed) (statements_from buffer (suc n) rs) (statement_if (r.is_open) n (record_text buffer r))

  -- a statement at one place isn't found by another number
  one_none : (live : Bool) (n : ℕ) (text : List ℕ) (k : ℕ) → nat_eq n k ≡ false → find_open k (open_statements armed (statement_if live n text)) ≡ None
  one_none true n text k h = rw h refl
  one_none false n text k h = refl

  pub none_past : (buffer : List ℕ) (n : ℕ) (rs : List Record) (k : ℕ) → n + length rs ≤ k → find_open k (open_statements armed (statements_from buffer n rs)) ≡ None
  unfolding opened_from
  none_past buffer n [] k h = refl
  none_past buffer n (r ∷ rs) k h =
      let other : nat_eq n k ≡ false = grind (arith, nat_tests) in
      ap (find_open k) (opened_from-cons buffer n r rs)
      ∙ find_open-append k (opened_from buffer (suc n) rs) (open_statements armed (statement_if (r.is_open) n (record_text buffer r)))
      ∙ ap (λ (o : Option Opened). or_else o (find_open k (open_statements armed (statement_if (r.is_open) n (record_text buffer r))))) (none_past buffer (suc n) rs k (omega (arith, h)))
      ∙ one_none (r.is_open) n (record_text buffer r) k other

  none_before : (buffer : List ℕ) (n : ℕ) (rs : List Record) (k : ℕ) → k < n → find_open k (open_statements armed (statements_from buffer n rs)) ≡ None
  unfolding opened_from
  none_before buffer n [] k h = refl
  none_before buffer n (r ∷ rs) k h =
      let other : nat_eq n k ≡ false = grind (arith, nat_tests) in
      ap (find_open k) (opened_from-cons buffer n r rs)
      ∙ find_open-append k (opened_from buffer (suc n) rs) (open_statements armed (statement_if (r.is_open) n (record_text buffer r)))
      ∙ ap (λ (o : Option Opened). or_else o (find_open k (open_statements armed (statement_if (r.is_open) n (record_text buffer r))))) (none_before buffer (suc n) rs k (omega (arith, h)))
      ∙ one_none (r.is_open) n (record_text buffer r) k other

  open_here : (live : Bool) (buffer : List ℕ) (n : ℕ) (r : Record) (rs : List Record) (k : ℕ) (o : Opened) → find_open k (open_statements armed (statement_if live n (record_text buffer r))) ≡ Some o → IsOpenAt buffer n (r ∷ rs) k o.text
  open_here false buffer n r rs k o h = absurd (cc)
  open_here true buffer n r rs k o h = by_test (nat_eq n k) refl h
    where
      by_test : (b : Bool) → nat_eq n k ≡ b → (if b then Some (opened_of armed (record { number = n; text = record_text buffer r })) else None) ≡ Some o → IsOpenAt buffer n (r ∷ rs) k o.text
      by_test false e g = absurd (cc)
      by_test true e g =
          let same : opened_of armed (record { number = n; text = record_text buffer r }) ≡ o = cc in
          record { place = 0; found = r; number = grind (arith, nat_tests); is = refl; text_is = ap (λ (x : Opened). x.text) (sym same) }

  open_from : (buffer : List ℕ) (n : ℕ) (rs : List Record) (k : ℕ) (o : Opened) → find_open k (open_statements armed (statements_from buffer n rs)) ≡ Some o → IsOpenAt buffer n rs k o.text
  unfolding opened_from
  open_from buffer n [] k o h = absurd (cc)
  open_from buffer n (r ∷ rs) k o h =
      let later = opened_from buffer (suc n) rs in
      let here = open_statements armed (statement_if r.is_open n (record_text buffer r)) in
      by_found (open_from buffer (suc n) rs k) (find_open k later) refl (sym (ap (find_open k) (opened_from-cons buffer n r rs) ∙ find_open-append k later here) ∙ h)
    where
      by_found : ((p : Opened) → find_open k (open_statements armed (statements_from buffer (suc n) rs)) ≡ Some p → IsOpenAt buffer (suc n) rs k p.text) → (f : Option Opened) → find_open k (open_statements armed (statements_from buffer (suc n) rs)) ≡ f
          → or_else f (find_open k (open_statements armed (statement_if r.is_open n (record_text buffer r)))) ≡ Some o → IsOpenAt buffer n (r ∷ rs) k o.text
      by_found later None e g = open_here r.is_open buffer n r rs k o g
      by_found later (Some p) e g =
          let same : p ≡ o = cc in
          let at = later o (e ∙ ap (λ (x : Opened). Some x) same) in
          record { place = suc at.place; found = at.found; number = omega (arith, at.number); is = at.is; text_is = at.text_is }

  -- so it has the text at its number
  pub open_text : (buffer : List ℕ) (rs : List Record) (k : ℕ) (o : Opened) → find_open k (open_statements armed (statements_from buffer 0 rs)) ≡ Some o → IsOpenHere buffer rs k o.text
  open_text buffer rs k o h =
      let at = open_from buffer 0 rs k o h in
      let same : at.place ≡ k = omega (arith, at.number) in
      record { found = at.found; is = subst (λ (n : ℕ). slice_get rs n ≡ Some at.found) same at.is; text_is = at.text_is }

  -- ---- closing

  other_stays : (live : Bool) (n : ℕ) (text : List ℕ) (k : ℕ) → nat_eq n k ≡ false → without_open k (open_statements armed (statement_if live n text)) ≡ open_statements armed (statement_if live n text)
  other_stays live n text k h = without_open-none k (open_statements armed (statement_if live n text)) (one_none live n text k h)

  same_goes : (live : Bool) (n : ℕ) (text : List ℕ) (k : ℕ) → nat_eq n k ≡ true → without_open k (open_statements armed (statement_if live n text)) ≡ []
  same_goes true n text k h = rw h refl
  same_goes false n text k h = refl

  -- the record at a place is shut
  pub closed_from : (buffer : List ℕ) (n : ℕ) (rs : List Record) (k : ℕ) (r : Record) → slice_get rs k ≡ Some r
      → open_statements armed (statements_from buffer n (slice_set rs k (record { text = r.text; answer = r.answer; is_open = false }))) ≡ without_open (n + k) (open_statements armed (statements_from buffer n rs))
  unfolding opened_from
  closed_from buffer n [] k r h = absurd (cc)
  closed_from buffer n (q ∷ rs) zero r h =
      let k : ℕ = n + 0 in
      let more = opened_from buffer (suc n) rs in
      let one = open_statements armed (statement_if q.is_open n (record_text buffer q)) in
      let here : nat_eq n k ≡ true = grind (arith, nat_tests) in
      ap (open_statements armed) (append-nil (statements_from buffer (suc n) rs))
      ∙ sym (append-nil more)
      ∙ ap (λ (os : List Opened). os ++ []) (sym (without_open-none k more (none_before buffer (suc n) rs k (omega arith))))
      ∙ ap (λ (os : List Opened). without_open k more ++ os) (sym (same_goes q.is_open n (record_text buffer q) k here))
      ∙ sym (ap (without_open k) (opened_from-cons buffer n q rs) ∙ without_open-append k more one)
  closed_from buffer n (q ∷ rs) (suc m) r h =
      let k : ℕ = n + suc m in
      let shut = slice_set rs m (record { text = r.text; answer = r.answer; is_open = false }) in
      let one = open_statements armed (statement_if q.is_open n (record_text buffer q)) in
      let other : nat_eq n k ≡ false = grind (arith, nat_tests) in
      let next : suc n + m ≡ k = omega arith in
      opened_from-cons buffer n q shut
      ∙ ap (λ (os : List Opened). os ++ one) (closed_from buffer (suc n) rs m r h ∙ ap (λ (i : ℕ). without_open i (opened_from buffer (suc n) rs)) next)
      ∙ ap (λ (os : List Opened). without_open k (opened_from buffer (suc n) rs) ++ os) (sym (other_stays q.is_open n (record_text buffer q) k other))
      ∙ sym (ap (without_open k) (opened_from-cons buffer n q rs) ∙ without_open-append k (opened_from buffer (suc n) rs) one)

  -- a number past the last item closes nothing
  pub closed_none : (buffer : List ℕ) (rs : List Record) (k : ℕ) → length rs ≤ k → open_statements armed (statements_from buffer 0 rs) ≡ without_open k (open_statements armed (statements_from buffer 0 rs))
  closed_none buffer rs k h = sym (without_open-none k (open_statements armed (statements_from buffer 0 rs)) (none_past buffer 0 rs k (omega (arith, h))))

  -- ---- sources

  stands_at : (buffer : List ℕ) (rs : List Record) (k : ℕ) → AllByRecursion (IsRecordIn buffer) rs → (f : Option Opened) → find_open k (open_statements armed (statements_from buffer 0 rs)) ≡ f → IsSome (option_map (λ (o : Opened). o.text) f)
      → StandsAt buffer rs k (unwrap_or (option_map (λ (o : Opened). o.text) f) [])
  stands_at buffer rs k all None e h = absurd (cc)
  stands_at buffer rs k all (Some o) e h =
      let here = open_text buffer rs k o e in
      record {
        at = record { found = here.found; is = here.is; text = all_at (IsRecordIn buffer) rs k here.found all here.is };
        text_is = ap (λ (r : Option Record). unwrap_or (option_map (record_text buffer) r) []) here.is ∙ sym here.text_is;
      }

  pub opened_at : (buffer : List ℕ) (rs : List Record) (k : ℕ) → AllByRecursion (IsRecordIn buffer) rs → IsSome (source_text (open_statements armed (statements_from buffer 0 rs)) (source.Prepared k))
      → StandsAt buffer rs k (text_of (open_statements armed (statements_from buffer 0 rs)) (source.Prepared k))
  opened_at buffer rs k all h = stands_at buffer rs k all (find_open k (open_statements armed (statements_from buffer 0 rs))) refl h

  pub source_in : (buffer : List ℕ) (rs : List Record) (s : RunSource) → AllByRecursion (IsRecordIn buffer) rs → IsSome (source_text (open_statements armed (statements_from buffer 0 rs)) s) → IsSourceIn buffer rs s
  source_in buffer rs (source.Unnamed text) all h = tt
  source_in buffer rs (source.Prepared k) all h = (opened_at buffer rs k all h).at

  pub source_is : (buffer : List ℕ) (rs : List Record) (s : RunSource) → AllByRecursion (IsRecordIn buffer) rs → IsSome (source_text (open_statements armed (statements_from buffer 0 rs)) s) → text_in_records buffer rs s ≡ text_of (open_statements armed (statements_from buffer 0 rs)) s
  source_is buffer rs (source.Unnamed text) all h = refl
  source_is buffer rs (source.Prepared k) all h = (opened_at buffer rs k all h).text_is
