-- The rows of the last run that are left are those that weren't given.
use Rattle.std.proofs.Common.{◌≡◌, ℕ, zero, suc, ◌+◌, ◌-◌, ◌^◌, ◌<◌, ◌≤◌, Bool, true, false, List, [], ◌∷◌, length, take, drop, Option, Some, None, refl, ap, sym, subst, ◌∙◌, arith}
use Rattle.std.proofs.Math.Seq.{take-length}
use Rattle.std.proofs.lemmas.Bool.{eqb-true}
use Rattle.std.specs.Prelude.{if◌then◌else◌, slice_get}
use Rattle.conn_model.specs.Armed.{Values, rows_of}
use Rattle.conn_model.specs.Classes.{same_text}
use Rattle.conn_model.specs.declared.item.Answer.{Answer}
use Rattle.conn_server.specs.Feeds.{left_rows, ungiven_rows, is_at_row, fed_after, fed_on, kept_back}
use Rattle.conn_server.specs.Logged.{is_accepted}
use Rattle.conn_server.specs.RowTables.{armed_by, record_before, has_text, LeadsTo}
use Rattle.conn_server.specs.declared.feed.Feed.{Feed}
use Rattle.conn_server.specs.declared.row_table.RowRecord.{RowRecord}
use Rattle.conn_model.specs.TextLaws.{text_is}
use Rattle.conn_server.proofs.Tabling.{rows_next, rows_few, armed_size, get-within, none_before}

-- what is always so of a server's rows, with the text of its last run
pub record IsFed (f : Feed) (last : Option (List ℕ)) : Type 0 where
  pub feeds : left_rows f last ≡ ungiven_rows f last
  pub at_row : is_at_row f last ≡ true
  pub within : f.cursor ≤ length f.rows
  pub few : f.given + 1 < 2 ^ 64

pub kept_small : (run : Option ℕ) → kept_back run ≤ 1
kept_small None = omega arith
kept_small (Some run) = omega arith

-- ---- a run

pub fed_by_run : (f : Feed) (last : Option (List ℕ)) (text : List ℕ) (first run : ℕ) (answer : Answer) → LeadsTo f.rows (length f.rows) text first → IsFed f last → IsFed (fed_after first run answer f) (if is_accepted answer then Some text else last)
fed_by_run f last text first run answer l h = by_test (is_accepted answer)
  where
    by_test : (b : Bool) → let F : Type 0 = Feed in let after : F = record { rows = f.rows; run = if b then Some run else f.run; given = if b then 0 else f.given; cursor = if b then first else f.cursor } in IsFed after (if b then Some text else last)
    by_test true = record {
      feeds = sym l.same ∙ ap (λ (rs : List RowRecord). rows_of (armed_by rs) text) (take-length f.rows);
      at_row = l.ends;
      within = l.low;
      few = omega arith;
    }
    by_test false = h

-- a refused run leaves the rows
pub left_kept : (f : Feed) (last now : Option (List ℕ)) (text : List ℕ) (first run : ℕ) (answer : Answer) → is_accepted answer ≡ false → now ≡ (if is_accepted answer then Some text else last) → left_rows (fed_after first run answer f) now ≡ left_rows f last
left_kept f last now text first run answer refused is =
    ap (left_rows (fed_after first run answer f)) is
    ∙ ap (λ (b : Bool). left_rows (record { rows = f.rows; run = if b then Some run else f.run; given = if b then 0 else f.given; cursor = if b then first else f.cursor }) (if b then Some text else last)) refused

-- ---- a row

-- where no record comes next, no row is left
pub none_left_by : (f : Feed) (last : Option (List ℕ)) → IsFed f last → record_before f.rows f.cursor ≡ None → left_rows f last ≡ []
none_left_by f None h none = refl
none_left_by f (Some text) h none = ap (λ (c : ℕ). rows_of (armed_by (take c f.rows)) text) (none_before f.rows f.cursor h.within none)

drop_next : {X : Type 0} (n : ℕ) (xs : List X) (y : X) (ys : List X) → drop n xs ≡ y ∷ ys → drop (suc n) xs ≡ ys
drop_next zero [] y ys h = absurd (cc)
drop_next zero (x ∷ xs) y ys h = cc
drop_next (suc n) [] y ys h = absurd (cc)
drop_next (suc n) (x ∷ xs) y ys h = drop_next n xs y ys h

drop_within : {X : Type 0} (n : ℕ) (xs : List X) (y : X) (ys : List X) → drop n xs ≡ y ∷ ys → n < length xs
drop_within zero [] y ys h = absurd (cc)
drop_within zero (x ∷ xs) y ys h = omega arith
drop_within (suc n) [] y ys h = absurd (cc)
drop_within (suc n) (x ∷ xs) y ys h = let r = drop_within n xs y ys h in omega (arith, r)

-- the record that comes next has the first row that is left, and leads to those after it
pub record IsNext (f : Feed) (last : Option (List ℕ)) (r : RowRecord) : Type 0 where
  pub row : left_rows f last ≡ r.row ∷ left_rows (fed_on r.next f) last
  pub fed : IsFed (fed_on r.next f) last

given_at : (f : Feed) (text : List ℕ) (c : ℕ) (r : RowRecord) → f.cursor ≡ c → length f.rows + 1 < 2 ^ 64 → IsFed f (Some text) → record_before f.rows c ≡ Some r → LeadsTo f.rows (c - 1) r.text r.next → IsNext f (Some text) r
given_at f text zero r at small h here leads = absurd (cc)
given_at f text (suc q) r at small h here leads =
    let ends : has_text text (slice_get f.rows q) ≡ true = ap (λ (c : ℕ). is_at_row (record { rows = f.rows; run = f.run; given = f.given; cursor = c }) (Some text)) (sym at) ∙ h.at_row in
    let same : same_text r.text text ≡ true = sym (ap (has_text text) here) ∙ ends in
    let before : suc q - 1 ≡ q = omega arith in
    let lead : LeadsTo f.rows q text r.next = subst (λ (t : List ℕ). LeadsTo f.rows q t r.next) (text_is r.text text same) (subst (λ (m : ℕ). LeadsTo f.rows m r.text r.next) before leads) in
    let all = rows_of (armed_by f.rows) text in
    let rest = rows_of (armed_by (take r.next f.rows)) text in
    let row : rows_of (armed_by (take f.cursor f.rows)) text ≡ r.row ∷ rest =
    ap (λ (c : ℕ). rows_of (armed_by (take c f.rows)) text) at ∙ rows_next f.rows q r text here same ∙ ap (λ (rows : List Values). r.row ∷ rows) lead.same in
    let dropped : drop f.given all ≡ r.row ∷ rest = sym h.feeds ∙ row in
    let inside = drop_within f.given all r.row rest dropped in
    let few = rows_few (armed_by f.rows) text in
    let size = armed_size f.rows in
    let place = get-within f.rows q r here in
    let next : f.given + 1 ≡ suc f.given = omega arith in
    record {
      row = row;
      fed = record {
        feeds = sym (ap (λ (n : ℕ). drop n all) next ∙ drop_next f.given all r.row rest dropped);
        at_row = lead.ends;
        within = omega (arith, lead.low, place);
        few = omega (arith, inside, few, size, small);
      };
    }

pub is_next : (f : Feed) (last : Option (List ℕ)) (r : RowRecord) → length f.rows + 1 < 2 ^ 64 → IsFed f last → record_before f.rows f.cursor ≡ Some r → LeadsTo f.rows (f.cursor - 1) r.text r.next → IsNext f last r
is_next f None r small h here leads =
    let none : f.cursor ≡ 0 = eqb-true f.cursor 0 h.at_row in
    absurd (no_record f.cursor none here)
  where
    no_record : (c : ℕ) → c ≡ 0 → record_before f.rows c ≡ Some r → ⊥
    no_record zero e g = cc
    no_record (suc q) e g = omega (arith, e)
is_next f (Some text) r small h here leads = given_at f text f.cursor r refl small h here leads
