-- What rows that were asked are made into.
use Rattle.std.proofs.Common.{◌≡◌, inl, inr, ◌+◌, arith, false, List, [], ◌∷◌, ◌++◌, length, refl, ap, sym, ◌∙◌, subst, Option, Some, None, Result, Ok, Err, append-nil}
use Rattle.std.specs.Global.{Vec}
use Rattle.std.specs.Prelude.{◌⊎◌}
use Rattle.std.specs.Option.{is_some, option_map, unwrap_or}
use Rattle.conn_result.specs.declared.error.Error.{Error}
use Rattle.conn_result.specs.declared.error.Error.TheVariants.{NotFound, OutOfMemory}
use Rattle.conn_model.specs.Armed.{Values}
use Rattle.conn_model.specs.Rows.{GivenRow, NoRow, none_left}
use Rattle.conn_model.specs.Seen.{Seen}
use Rattle.conn_model.specs.declared.item.Refusal.{Refusal}
use Rattle.conn_manager.specs.Statuses.{Status}
use Rattle.conn_rows.specs.Answers.{row_answer}
use Rattle.conn_rows.specs.Lists.{Reading, list_answer, rows_read}
use Rattle.conn_drivers.specs.GatherLaws.{MakesFirst, MakesList}
use Rattle.conn_drivers.specs.Loaded.{AsksAll, listed}
use Rattle.conn_drivers.specs.Loading.{LacksRow, Looks, LooksFor, Makes, MakesRows, RefusedRow, all_rows, row_error}
use Rattle.conn_drivers.specs.Prepares.{error_by}
use Rattle.conn_drivers.specs.Reading.{AnswersBy, AreOver, FailsBy, HoldsBy, HoldsRows, ReadsBy, ReadsRows, SkipsBy, SkipsRows}
use Rattle.conn_drivers.proofs.ReadSteps.{fails_on, looks_on, read_given, read_none}

-- no row is left
pub nothing_left : (s : Seen) → AreOver s → unwrap_or s.rows [] ≡ []
nothing_left s over = by_rows s.rows over.rows
  where
    by_rows : (o : Option (List Values)) → o ≡ none_left o → unwrap_or o [] ≡ []
    by_rows None e = refl
    by_rows (Some rest) e = cc

-- all rows, where none is left
pub all_given : (front : List Values) (s : Seen) → AreOver s → all_rows None front s ≡ front
all_given front s over = ap (λ (rest : List Values). front ++ rest) (nothing_left s over) ∙ append-nil front

-- ---- rows that are held at once

module _ {T : Type 0} (makes : List Values → Result T Error → Type 0) (old new : Seen) (s s1 : Status) (error : Option Error) (reply : Result T Error) where
  -- they were read then
  pub held_makes : (result : Result (List Values) Error) (rows : List Values) → result ≡ Ok rows → HoldsRows old new s s1 result → error ≡ None → makes rows reply ⊎ (reply ≡ Err OutOfMemory) → Makes (LooksFor old new s s1) makes error reply
  held_makes result rows is held none made = by_refusal held.refusal held.looks (subst (HoldsBy held.refusal held.front new) is held.holds)
    where
      by_refusal : (o : Option Refusal) → Looks old new s s1 held.front o → HoldsBy o held.front new (Ok rows) → Makes (LooksFor old new s s1) makes error reply
      by_refusal None look holds = inr (record {
        rows = Ok rows;
        leaves = record { front = held.front; refusal = None; looks = look; gathers = ap (λ (x : List Values). let r : Result (List Values) Error = Ok x in r) (holds.0 ∙ sym (all_given held.front new holds.1)) };
        told = none;
        answers = made;
      })
      by_refusal (Some r) look holds = absurd (cc)

  -- they weren't
  pub held_fails : (result : Result (List Values) Error) (e : Error) → result ≡ Err e → HoldsRows old new s s1 result → error ≡ Some e → reply ≡ Err e → Makes (LooksFor old new s s1) makes error reply
  held_fails result e is held told gives = by_refusal held.refusal held.looks (subst (HoldsBy held.refusal held.front new) is held.holds)
    where
      same_error : (e x : Error) → (let r : Result (List Values) Error = Err e in r) ≡ Err x → e ≡ x
      same_error e x h = cc

      by_refusal : (o : Option Refusal) → Looks old new s s1 held.front o → HoldsBy o held.front new (Err e) → Makes (LooksFor old new s s1) makes error reply
      by_refusal None look holds = inl (record {
        leaves = record { front = held.front; refusal = None; looks = look; gathers = refl };
        told = told ∙ ap (λ (x : Error). Some x) holds;
        is = gives ∙ ap (λ (x : Error). let r : Result T Error = Err x in r) holds;
      })
      by_refusal (Some r) look holds =
          let same : e ≡ error_by r = same_error e (error_by r) holds in
          inr (record {
            rows = Err (error_by r);
            leaves = record { front = held.front; refusal = Some r; looks = look; gathers = refl };
            told = told ∙ ap (λ (x : Error). Some x) same;
            answers = inl (gives ∙ ap (λ (x : Error). let y : Result T Error = Err x in y) same);
          })

  -- no row is left where they are held
  pub held_asks : (result : Result (List Values) Error) (rows : List Values) → result ≡ Ok rows → HoldsRows old new s s1 result → AsksAll new reply
  held_asks result rows is held = by_refusal held.refusal (subst (HoldsBy held.refusal held.front new) is held.holds)
    where
      over : new.rows_left ≡ 0 → (r : Result T Error) → AsksAll new r
      over left (Ok x) = left
      over left (Err e) = tt

      by_refusal : (o : Option Refusal) → HoldsBy o held.front new (Ok rows) → AsksAll new reply
      by_refusal None holds = over holds.1.left reply
      by_refusal (Some r) holds = absurd (cc)

-- a list of the held rows
pub makes_list : {T : Type 0} (reads : Reading T) (rows : List Values) (reply : Result (Vec T) Error) → AnswersBy (list_answer reads rows) (listed reply) → MakesList reads rows reply ⊎ (reply ≡ Err OutOfMemory)
makes_list reads rows reply (inl is) = inl is
makes_list reads rows (Ok v) (inr memory) = absurd (cc)
makes_list reads rows (Err e) (inr memory) = inr (ap (λ (x : Error). let r : Result (Vec _) Error = Err x in r) (same_error e memory))
  where
    same_error : {T : Type 0} (e : Error) → (let r : Result (List T) Error = Err e in r) ≡ Err OutOfMemory → e ≡ OutOfMemory
    same_error e h = cc

-- ---- rows that are read one after the other

module _ {T : Type 0} (reads : Reading T) (old new : Seen) (s s1 : Status) (error : Option Error) where
  pub reads_make : (reply : Result (Vec T) Error) → ReadsRows reads old new s s1 error (listed reply) → Makes (LooksFor old new s s1) (MakesList reads) error reply
  reads_make reply read = inr (by_refusal read.refusal reply read.looks read.gives)
    where
      by_fault : (rows : List Values) (e : Error) → FailsBy (rows_read reads rows) e → (let r : Result (Vec T) Error = Err e in MakesList reads rows r ⊎ (r ≡ Err OutOfMemory))
      by_fault rows e (inl memory) = inr (ap (λ (x : Error). let r : Result (Vec T) Error = Err x in r) memory)
      by_fault rows e (inr h) = inl (sym h)

      same_error : (x y : Error) → (let r : Result (List T) Error = Err x in r) ≡ Err y → x ≡ y
      same_error x y h = cc

      by_refusal : (o : Option Refusal) (r : Result (Vec T) Error) → Looks old new s s1 read.front o → ReadsBy reads o read.front new error (listed r) → MakesRows (LooksFor old new s s1) (MakesList reads) error r
      by_refusal None (Ok v) look gives = record {
        rows = Ok (all_rows None read.front new);
        leaves = record { front = read.front; refusal = None; looks = look; gathers = refl };
        told = gives.0;
        answers = inl (sym (ap (λ (rows : List Values). list_answer reads rows) (all_given read.front new gives.2) ∙ ap row_answer gives.1));
      }
      by_refusal None (Err e) look gives = record {
        rows = Ok (all_rows None read.front new);
        leaves = record { front = read.front; refusal = None; looks = look; gathers = refl };
        told = gives.0;
        answers = by_fault (all_rows None read.front new) e (fails_on reads read.front (unwrap_or new.rows []) e gives.1);
      }
      by_refusal (Some r) (Ok v) look gives = absurd (cc)
      by_refusal (Some r) (Err e) look gives = record {
        rows = Err (error_by r);
        leaves = record { front = read.front; refusal = Some r; looks = look; gathers = refl };
        told = gives.0;
        answers = inl (ap (λ (x : Error). let y : Result (Vec T) Error = Err x in y) (same_error e (error_by r) gives.1));
      }

  -- no row is left where all were read
  pub reads_ask : (reply : Result (Vec T) Error) → ReadsRows reads old new s s1 error (listed reply) → AsksAll new reply
  reads_ask (Ok v) read = by_refusal read.refusal read.gives
    where
      by_refusal : (o : Option Refusal) → ReadsBy reads o read.front new error (Ok v.items) → new.rows_left ≡ 0
      by_refusal None gives = gives.2.left
      by_refusal (Some r) gives = absurd (cc)
  reads_ask (Err e) read = tt

-- ---- and then the rest

pub not_some : (o : Option Error) → is_some o ≡ false → o ≡ None
not_some None e = refl
not_some (Some x) e = absurd (cc)

module _ {T : Type 0} (reads : Reading T) (old mid new : Seen) (s s0 s1 : Status) where
  -- none was left to be skipped
  nothing_more : (more : List Values) → AreOver mid → Looks mid new s0 s1 more None → (more ≡ []) × AreOver new
  nothing_more more over look =
      let left : mid.rows_left ≡ look.mid.rows_left + length more = look.read.left in
      let zero_left : mid.rows_left ≡ 0 = over.left in
      let none : length more ≡ 0 = omega (arith, left, zero_left) in
      let end_left : look.mid.rows_left ≡ 0 = omega (arith, left, zero_left) in
      let is = empty more none in (
        is,
        record {
          left = ap (λ (x : Seen). x.rows_left) look.ending.0 ∙ end_left;
          rows = subst (λ (o : Option (List Values)). o ≡ none_left o) (sym (ap (λ (x : Seen). x.rows) look.ending.0)) (none_more more is mid.rows look.mid.rows over.rows look.read.rows);
        },
      )
    where
      empty : (xs : List Values) → length xs ≡ 0 → xs ≡ []
      empty [] e = refl
      empty (x ∷ xs) e = absurd (omega (arith, e))

      none_more : (xs : List Values) → xs ≡ [] → (o p : Option (List Values)) → o ≡ none_left o → o ≡ option_map (λ (rest : List Values). xs ++ rest) p → p ≡ none_left p
      none_more xs is o None e f = refl
      none_more [] is None (Some rest) e f = absurd (cc)
      none_more [] is (Some rows) (Some rest) e f = sym f ∙ e
      none_more (x ∷ xs) is o (Some rest) e f = absurd (cc)

  -- the rest was asked, and none was refused
  pub skipped : (error : Option Error) (reply : Result (List T) Error) → error ≡ None → ReadsRows reads old mid s s0 error reply → SkipsRows mid new s0 s1 (Ok tt) → ReadsRows reads old new s s1 error reply
  skipped error reply none read skip = by_refusals read.refusal skip.refusal reply read.looks skip.looks read.gives skip.skips
    where
      not_told : (o : Option Error) (r : Refusal) → o ≡ None → o ≡ Some (error_by r) → ⊥
      not_told o r e f = cc

      by_refusals : (o p : Option Refusal) (r : Result (List T) Error) → Looks old mid s s0 read.front o → Looks mid new s0 s1 skip.front p → ReadsBy reads o read.front mid error r → SkipsBy p (Ok tt) → ReadsRows reads old new s s1 error r
      by_refusals None None (Ok values) first second gives skips =
          let more = nothing_more skip.front gives.2 second in
          let front : read.front ++ skip.front ≡ read.front = ap (λ (rows : List Values). read.front ++ rows) more.0 ∙ append-nil read.front in
          record { front = read.front ++ skip.front; refusal = None; looks = looks_on old mid new s s0 s1 read.front skip.front None first second; gives = (gives.0, ap (rows_read reads) front ∙ gives.1, more.1) }
      by_refusals None None (Err e) first second gives skips =
          record { front = read.front ++ skip.front; refusal = None; looks = looks_on old mid new s s0 s1 read.front skip.front None first second; gives = (gives.0, fails_on reads read.front skip.front e gives.1) }
      by_refusals None (Some r) reply first second gives skips = absurd (cc)
      by_refusals (Some r) p reply first second gives skips = absurd (not_told error r none gives.0)

  -- one of the rest was refused, or memory was wanting for it
  pub skipped_error : (told error : Option Error) (reply : Result (List T) Error) (e : Error) → told ≡ None → ReadsRows reads old mid s s0 told reply → SkipsRows mid new s0 s1 (Err e) → error ≡ row_error e → ReadsRows reads old new s s1 error (Err e)
  skipped_error told error reply e none read skip is = by_refusals read.refusal skip.refusal read.looks skip.looks read.gives skip.skips
    where
      not_told : (o : Option Error) (r : Refusal) → o ≡ None → o ≡ Some (error_by r) → ⊥
      not_told o r e f = cc

      same_error : (e x : Error) → (let r : Result (Unit {0}) Error = Err e in r) ≡ Err x → e ≡ x
      same_error e x h = cc

      by_refusals : (o p : Option Refusal) → Looks old mid s s0 read.front o → Looks mid new s0 s1 skip.front p → ReadsBy reads o read.front mid told reply → SkipsBy p (Err e) → ReadsRows reads old new s s1 error (Err e)
      by_refusals None None first second gives skips =
          record { front = read.front ++ skip.front; refusal = None; looks = looks_on old mid new s s0 s1 read.front skip.front None first second; gives = (is ∙ ap row_error skips, inl skips) }
      by_refusals None (Some r) first second gives skips =
          let same = same_error e (error_by r) skips in
          record { front = read.front ++ skip.front; refusal = Some r; looks = looks_on old mid new s s0 s1 read.front skip.front (Some r) first second; gives = (is ∙ ap row_error same, ap (λ (x : Error). let y : Result (List T) Error = Err x in y) same) }
      by_refusals (Some r) p first second gives skips = absurd (not_told told r none gives.0)

-- ---- one row alone

module _ {T : Type 0} (reads : Reading T) (old new : Seen) (s s1 : Status) (error : Option Error) (reply : Result T Error) where
  pub one_given : (row : Values) → GivenRow old new row → s1 ≡ s → error ≡ None → (reply ≡ row_answer (reads row)) ⊎ (reply ≡ Err OutOfMemory) → Makes (LooksFor old new s s1) (MakesFirst reads) error reply
  one_given row given follows none answers = inr (record {
    rows = Ok ((row ∷ []) ++ unwrap_or new.rows []);
    leaves = record { front = row ∷ []; refusal = None; looks = record { mid = new; read = read_given old new row given; ending = (refl, follows) }; gathers = refl };
    told = none;
    answers = answers;
  })

  pub one_none : NoRow old new → s1 ≡ s → error ≡ None → reply ≡ Err NotFound → Makes (LooksFor old new s s1) (MakesFirst reads) error reply
  one_none over follows none answers = inr (record {
    rows = Ok [];
    leaves = record {
      front = [];
      refusal = None;
      looks = record { mid = old; read = read_none old; ending = (over.keeps, follows) };
      gathers = ap (λ (rows : List Values). let r : Result (List Values) Error = Ok rows in r) (sym (nothing_left new (record { left = ap (λ (x : Seen). x.rows_left) over.keeps ∙ over.left; rows = ap (λ (x : Seen). x.rows) over.keeps ∙ over.rows ∙ ap (λ (x : Seen). none_left x.rows) (sym over.keeps) })));
    };
    told = none;
    answers = inl answers;
  })

  pub one_fails : (e : Error) → LacksRow old new s s1 e ⊎ RefusedRow old new s s1 e → error ≡ row_error e → reply ≡ Err e → Makes (LooksFor old new s s1) (MakesFirst reads) error reply
  one_fails e (inl lacks) told gives = inr (record {
    rows = Ok (unwrap_or new.rows []);
    leaves = record { front = []; refusal = None; looks = record { mid = old; read = read_none old; ending = (lacks.seen, lacks.status) }; gathers = refl };
    told = told ∙ ap row_error lacks.is;
    answers = inr (gives ∙ ap (λ (x : Error). let y : Result T Error = Err x in y) lacks.is);
  })
  one_fails e (inr refused) told gives = inr (record {
    rows = Err e;
    leaves = record { front = []; refusal = Some refused.refusal; looks = record { mid = old; read = read_none old; ending = (refused.refuses, refused.follows) }; gathers = ap (λ (x : Error). let y : Result (List Values) Error = Err x in y) refused.is };
    told = told ∙ ap row_error refused.is ∙ ap (λ (x : Error). Some x) (sym refused.is);
    answers = inl gives;
  })
