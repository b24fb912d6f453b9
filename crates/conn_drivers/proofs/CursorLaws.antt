-- A load, any number of its rows, and its end are together the process of the load.
use Rattle.std.proofs.Common.{◌≡◌, inl, inr, ℕ, arith, Bool, true, List, [], ◌∷◌, ◌++◌, refl, ap, sym, ◌∙◌, subst, Option, Some, None, Result, Ok, Err}
use Rattle.std.specs.Prelude.{◌⊎◌, ◌≤◌, length, take}
use Rattle.std.specs.Option.{unwrap_or}
use Rattle.std.specs.Result.{result_err}
use Rattle.std.proofs.lemmas.Grind.{common_steps}
use Rattle.std.proofs.Math.Seq.{take-append_seam}
use Rattle.std.proofs.lemmas.List.{take_all}
use Rattle.conn_result.specs.declared.error.Error.{Error}
use Rattle.conn_result.specs.declared.error.Error.TheVariants.{OutOfMemory}
use Rattle.conn_cache.specs.LoadProcesses.{load_process, looks, rows_heard}
use Rattle.conn_cache.specs.QueryProcesses.{Asked, asked, finishes}
use Rattle.conn_cache.specs.QueryViews.{QueryView}
use Rattle.conn_manager.specs.Views.{View}
use Rattle.conn_model.specs.Armed.{Values}
use Rattle.conn_model.specs.Events.{Heeded, with_events, FinishQuery}
use Rattle.conn_model.specs.Process.{Process, Stop}
use Rattle.conn_model.specs.Rows.{none_left}
use Rattle.conn_model.specs.Seen.{Seen, IsHonest}
use Rattle.conn_model.specs.declared.item.Refusal.{Refusal}
use Rattle.conn_model.proofs.Telling.{stops_telling, tells_first}
use Rattle.conn_drivers.specs.Cursors.{AnswersNext, AsksNext, Begins, EndsEarly, FinishesBy, HasAsked, LoadsByRow, NextsBy, SkipsLeft, StandsAt, TakesRows, error_at_end, cursor_end, front_rows, answered_row, progress_after, refusal_in, rows_of_load}
use Rattle.conn_drivers.specs.Loaded.{LoadsFrom, made_of}
use Rattle.conn_drivers.specs.Loading.{HasRead, LacksRow, Looks, RefusedRow, TakesRow, all_rows, row_error, seen_shut}
use Rattle.conn_drivers.specs.Prepares.{error_by}
use Rattle.conn_drivers.specs.Queried.{Goes}
use Rattle.conn_drivers.specs.Reading.{AnswersBy, SkipsBy}
use Rattle.conn_drivers.specs.declared.progress.Progress.{Progress}
use Rattle.conn_drivers.specs.declared.progress.Progress.TheVariants.{Going, Ended, Refused}
use Rattle.conn_drivers.proofs.Going.{goes_closed, goes_further}
use Rattle.conn_drivers.proofs.ReadSteps.{are_over, looks_given, looks_lacking, looks_on, looks_over, looks_refused, read_more, read_none}
use Rattle.conn_drivers.proofs.RowSteps.{look_goes}

-- no row was asked yet
pub asked_none : (v : View) → HasAsked v v Going []
asked_none v = record { refusal = None; looks = looks_given v.seen v.seen v.status v.status [] (read_none v.seen) refl; keeps = refl; stands = tt }

nothing_more : (front : List Values) → front ++ [] ≡ front
nothing_more front = grind (arith, common_steps)

module _ (begun old new : View) (front : List Values) (read : HasRead begun.seen old.seen front) (follows : old.status ≡ begun.status) (keeps : new ≡ record begun { seen = new.seen; status = new.status }) where
  more_by : (progress : Progress) (result : Option (Result Values Error)) (asked : Result (Option Values) Error) → TakesRow old.seen new.seen old.status new.status asked → AnswersNext asked progress result → HasAsked begun new progress (front ++ answered_row result)
  more_by progress result (Ok (Some row)) takes answers =
      subst (λ (p : Progress). HasAsked begun new p (front ++ answered_row result)) (sym answers.0)
      (subst (λ (r : Option (Result Values Error)). HasAsked begun new Going (front ++ answered_row r)) (sym answers.1)
      (record {
        refusal = None;
        looks = looks_given begun.seen new.seen begun.status new.status (front ++ row ∷ []) (read_more begun.seen old.seen new.seen front row read takes.0) (takes.1 ∙ follows);
        keeps = keeps;
        stands = tt;
      }))
  more_by progress result (Ok None) takes answers =
      subst (λ (p : Progress). HasAsked begun new p (front ++ answered_row result)) (sym answers.0)
      (subst (λ (r : Option (Result Values Error)). HasAsked begun new Ended (front ++ answered_row r)) (sym answers.1)
      (subst (λ (rows : List Values). HasAsked begun new Ended rows) (sym (nothing_more front))
      (record {
        refusal = None;
        looks = looks_over begun.seen old.seen new.seen begun.status old.status new.status front read follows takes.0 takes.1;
        keeps = keeps;
        stands = are_over old.seen new.seen takes.0;
      })))
  more_by progress result (Err e) takes answers =
      subst (λ (p : Progress). HasAsked begun new p (front ++ answered_row result)) (sym answers.0)
      (subst (λ (r : Option (Result Values Error)). HasAsked begun new (progress_after e) (front ++ answered_row r)) (sym answers.1)
      (subst (λ (rows : List Values). HasAsked begun new (progress_after e) rows) (sym (nothing_more front)) (failed takes)))
    where
      failed : LacksRow old.seen new.seen old.status new.status e ⊎ RefusedRow old.seen new.seen old.status new.status e → HasAsked begun new (progress_after e) front
      failed (inl lacks) =
          subst (λ (x : Error). HasAsked begun new (progress_after x) front) (sym lacks.is)
          (record {
            refusal = None;
            looks = looks_lacking begun.seen old.seen new.seen begun.status old.status new.status front e read follows lacks;
            keeps = keeps;
            stands = tt;
          })
      failed (inr refused) =
          subst (λ (x : Error). HasAsked begun new (progress_after x) front) (sym refused.is)
          (record {
            refusal = Some refused.refusal;
            looks = looks_refused begun.seen old.seen new.seen begun.status old.status new.status front e read follows refused;
            keeps = keeps;
            stands = refl;
          })

-- the next row was asked
pub asked_more : (begun old new : View) (progress : Progress) (front : List Values) (result : Option (Result Values Error)) → HasAsked begun old Going front → AsksNext old new progress result → HasAsked begun new progress (front ++ answered_row result)
asked_more begun old new progress front result h n = by_refusal h.refusal h.looks h.stands
  where
    by_refusal : (o : Option Refusal) → Looks begun.seen old.seen begun.status old.status front o → StandsAt Going o old.seen → HasAsked begun new progress (front ++ answered_row result)
    by_refusal None looks stands =
        more_by begun old new front (subst (λ (s : Seen). HasRead begun.seen s front) (sym looks.ending.0) looks.read) looks.ending.1
        (n.keeps ∙ ap (λ (v : View). record v { seen = new.seen; status = new.status }) h.keeps) progress result n.asked n.takes n.answers
    by_refusal (Some r) looks stands = absurd stands

none_over : (front : List Values) (o : Option (List Values)) → o ≡ none_left o → front ++ unwrap_or o [] ≡ front
none_over front None e = nothing_more front
none_over front (Some rows) e = ap (λ (x : Option (List Values)). front ++ unwrap_or x []) e ∙ nothing_more front

rows_at : (progress : Progress) (o : Option Refusal) (front : List Values) (s : Seen) → StandsAt progress o s → rows_heard o (all_rows o front s) ≡ rows_of_load progress front s
rows_at Going None front s stands = refl
rows_at Going (Some r) front s stands = absurd stands
rows_at Ended None front s stands = ap (λ (rows : List Values). let r : Result (List Values) Error = Ok rows in r) (none_over front s.rows stands.rows)
rows_at Ended (Some r) front s stands = absurd stands
rows_at (Refused e) None front s stands = absurd stands
rows_at (Refused e) (Some r) front s stands = ap (λ (x : Error). let r : Result (List Values) Error = Err x in r) (sym stands)

error_at : (progress : Progress) (front : List Values) (s : Seen) → refusal_in progress ≡ result_err (rows_of_load progress front s)
error_at Going front s = refl
error_at Ended front s = refl
error_at (Refused e) front s = refl

-- a load that began, whose rows were asked so far, and that was ended
pub cursor_loads : (honest : Bool) (q : QueryView) (old begun last new : View) (statement : Option ℕ) (progress : Progress) (front : List Values) → Begins honest q old begun → HasAsked begun last progress front → (honest ≡ true → IsHonest last.seen)
    → new ≡ cursor_end statement q.sql (refusal_in progress) last → LoadsByRow honest q old last new progress front
cursor_loads honest q old begun last new statement progress front b h honesty is =
    subst (λ (v : View). LoadsByRow honest q old last v progress front) (sym is) (whole statement)
  where
    known : last.cache ≡ begun.cache
    known = ap (λ (v : View). v.cache) h.keeps

    heeds : last.heeded ≡ begun.heeded
    heeds = ap (λ (v : View). v.heeded) h.keeps

    went : Goes honest (load_process rows_heard old.seen.dialect q old.status old.cache) (finishes q.sql (rows_of_load progress front last.seen) last.status last.cache) old.seen last.seen old.heeded last.heeded
    went =
        let d = old.seen.dialect in
        let left = looks rows_heard d q 0 begun.status begun.cache in
        let heard = look_goes honest rows_heard d q 0 begun.seen last.seen begun.status last.status begun.cache begun.heeded front h.refusal (sym b.same) b.rows honesty h.looks in
        let end = finishes q.sql (rows_heard h.refusal (all_rows h.refusal front last.seen)) last.status begun.cache in
        let first = goes_further honest (load_process rows_heard d q old.status old.cache) left end old.seen begun.seen last.seen old.heeded begun.heeded begun.heeded (b.goes rows_heard) heard in
        let shown : end ≡ finishes q.sql (rows_of_load progress front last.seen) last.status last.cache = ap (λ (r : Result (List Values) Error). finishes q.sql r last.status begun.cache) (rows_at progress h.refusal front last.seen h.stands)
        ∙ ap (λ (k : _). finishes q.sql (rows_of_load progress front last.seen) last.status k) (sym known) in
        subst (λ (x : Heeded). Goes honest (load_process rows_heard d q old.status old.cache) (finishes q.sql (rows_of_load progress front last.seen) last.status last.cache) old.seen last.seen old.heeded x) (sym heeds)
        (subst (λ (p : Process (Asked (List Values))). Goes honest (load_process rows_heard d q old.status old.cache) p old.seen last.seen old.heeded begun.heeded) shown first)

    closed : (o : Option ℕ) → Goes honest (load_process rows_heard old.seen.dialect q old.status old.cache) (finishes q.sql (rows_of_load progress front last.seen) last.status last.cache) old.seen (seen_shut o last.seen) old.heeded last.heeded
    closed None = went
    closed (Some n) = goes_closed honest (load_process rows_heard old.seen.dialect q old.status old.cache) (finishes q.sql (rows_of_load progress front last.seen) last.status last.cache) n old.seen last.seen (seen_shut (Some n) last.seen) old.heeded last.heeded refl went

    whole : (o : Option ℕ) → LoadsByRow honest q old last (cursor_end o q.sql (refusal_in progress) last) progress front
    whole o =
        let shut = seen_shut o last.seen in
        let a : Asked (List Values) = asked (rows_of_load progress front last.seen) last.status last.cache in
        let after = with_events last.heeded (FinishQuery q.sql (refusal_in progress) ∷ []) in
        let told : after ≡ with_events last.heeded (FinishQuery q.sql (result_err (rows_of_load progress front last.seen)) ∷ []) = ap (λ (e : Option Error). with_events last.heeded (FinishQuery q.sql e ∷ [])) (error_at progress front last.seen) in
        (closed o).then shut after a (tells_first honest (FinishQuery q.sql (result_err (rows_of_load progress front last.seen))) (Stop a) shut shut last.heeded after after a told (stops_telling honest shut after a))

-- ---- a cursor that asks the rest

-- the rest was asked, and this error is the one that is told
pub record HasEnded (begun mid : View) (error : Option Error) : Type 0 where
  pub progress : Progress
  pub front : List Values
  pub asked : HasAsked begun mid progress front
  pub told : error ≡ refusal_in progress

rest_told : (e : Error) → e ≡ OutOfMemory → row_error e ≡ None
rest_told e is = ap row_error is

rest_refused : (r : Refusal) (result : Result (Unit {0}) Error) → result ≡ Err (error_by r) → error_at_end Going result ≡ Some (error_by r)
rest_refused r result is = ap (error_at_end Going) is

module _ (begun last mid : View) (front : List Values) where
  skipped_none : (progress : Progress) (result : Result (Unit {0}) Error) → HasAsked begun last progress front → result ≡ Ok tt → mid ≡ last → HasEnded begun mid (error_at_end progress result)
  skipped_none progress result h is view = record {
    progress = progress;
    front = front;
    asked = subst (λ (v : View). HasAsked begun v progress front) (sym view) h;
    told = ap (error_at_end progress) is;
  }

  skipped_rest : (o p : Option Refusal) (more : List Values) (result : Result (Unit {0}) Error) → Looks begun.seen last.seen begun.status last.status front o → StandsAt Going o last.seen → mid ≡ record begun { seen = mid.seen; status = mid.status }
      → Looks last.seen mid.seen last.status mid.status more p → SkipsBy p result → HasEnded begun mid (error_at_end Going result)
  skipped_rest None None more (Ok u) first stands keeps second skips = record {
    progress = Going;
    front = front ++ more;
    asked = record { refusal = None; looks = looks_on begun.seen last.seen mid.seen begun.status last.status mid.status front more None first second; keeps = keeps; stands = tt };
    told = refl;
  }
  skipped_rest None None more (Err e) first stands keeps second skips = record {
    progress = Going;
    front = front ++ more;
    asked = record { refusal = None; looks = looks_on begun.seen last.seen mid.seen begun.status last.status mid.status front more None first second; keeps = keeps; stands = tt };
    told = rest_told e skips;
  }
  skipped_rest None (Some r) more result first stands keeps second skips = record {
    progress = Refused (error_by r);
    front = front ++ more;
    asked = record { refusal = Some r; looks = looks_on begun.seen last.seen mid.seen begun.status last.status mid.status front more (Some r) first second; keeps = keeps; stands = refl };
    told = rest_refused r result skips;
  }
  skipped_rest (Some r) p more result first stands keeps second skips = absurd stands

  -- the rest was asked where rows may have been left
  rest_asked : (progress : Progress) (result : Result (Unit {0}) Error) → HasAsked begun last progress front → SkipsLeft progress last mid result → HasEnded begun mid (error_at_end progress result)
  rest_asked Going result h skip =
      skipped_rest h.refusal skip.skips.refusal skip.skips.front result h.looks h.stands (skip.keeps ∙ ap (λ (v : View). record v { seen = mid.seen; status = mid.status }) h.keeps) skip.skips.looks skip.skips.skips
  rest_asked Ended result h skip = skipped_none Ended result h skip.is skip.view
  rest_asked (Refused e) result h skip = skipped_none (Refused e) result h skip.is skip.view

-- a load that began, whose rows were asked so far, was ended after the rest of them
pub row_cursor_loads : (honest : Bool) (q : QueryView) (old begun last new : View) (statement : Option ℕ) (progress : Progress) (front : List Values) (result : Result (Unit {0}) Error) → Begins honest q old begun → HasAsked begun last progress front
    → (finishes : FinishesBy progress statement q.sql last new result) → (honest ≡ true → IsHonest finishes.mid.seen) → (ended : HasEnded begun finishes.mid (error_at_end progress result)) × LoadsByRow honest q old finishes.mid new ended.progress ended.front
row_cursor_loads honest q old begun last new statement progress front result b h finishes honesty =
    let ended = rest_asked begun last finishes.mid front progress result h finishes.skips in
    (ended, cursor_loads honest q old begun finishes.mid new statement ended.progress ended.front b ended.asked honesty (finishes.ends ∙ ap (λ (e : Option Error). cursor_end statement q.sql e finishes.mid) ended.told))

-- ---- the first rows

-- where rows may be left the next one is asked
asks_next : (old new : View) (before progress : Progress) (result answer : Option (Result Values Error)) → before ≡ Going → result ≡ answer → NextsBy before old new progress result → AsksNext old new progress answer
asks_next old new before progress result answer going is n =
    subst (λ (r : Option (Result Values Error)). AsksNext old new progress r) is (subst (λ (p : Progress). NextsBy p old new progress result) going n)

-- so they may after a row was given
went_on : (old new : View) (progress : Progress) (row : Values) → AsksNext old new progress (Some (Ok row)) → progress ≡ Going
went_on old new progress row n = by_asked n.asked n.answers
  where
    by_asked : (asked : Result (Option Values) Error) → AnswersNext asked progress (Some (Ok row)) → progress ≡ Going
    by_asked (Ok (Some r)) answers = answers.0
    by_asked (Ok None) answers = absurd (cc)
    by_asked (Err e) answers = absurd (cc)

module _ (count : ℕ) (begun now : View) (front : List Values) where
  -- so many were asked
  pub takes_enough : HasAsked begun now Going front → count ≡ length front → TakesRows count begun now Going (Ok front)
  takes_enough h enough = record {
    front = front;
    asked = h;
    answers = inl (ap (λ (rows : List Values). let r : Result (List Values) Error = Ok rows in r) (sym (ap (λ (n : ℕ). take n (front ++ unwrap_or now.seen.rows [])) enough ∙ take-append_seam front (unwrap_or now.seen.rows []))));
  }

  -- no further one was left
  takes_all : (old : View) (progress : Progress) → HasAsked begun old Going front → length front ≤ count → AsksNext old now progress None → TakesRows count begun now progress (Ok front)
  takes_all old progress h few n = by_asked n.asked n.takes n.answers
    where
      given : HasAsked begun now progress (front ++ [])
      given = asked_more begun old now progress front None h n

      by_asked : (asked : Result (Option Values) Error) → TakesRow old.seen now.seen old.status now.status asked → AnswersNext asked progress None → TakesRows count begun now progress (Ok front)
      by_asked (Ok (Some row)) takes answers = absurd (cc)
      by_asked (Ok None) takes answers =
          subst (λ (p : Progress). TakesRows count begun now p (Ok front)) (sym answers.0)
          (record {
            front = front;
            asked = subst (λ (rows : List Values). HasAsked begun now Ended rows) (nothing_more front) (subst (λ (p : Progress). HasAsked begun now p (front ++ [])) answers.0 given);
            answers = inl (ap (λ (rows : List Values). let r : Result (List Values) Error = Ok rows in r) (sym (take_all count front few)));
          })
      by_asked (Err e) takes answers = absurd (cc)

  -- memory was wanting
  takes_lost : (progress : Progress) (e : Error) → HasAsked begun now progress front → e ≡ OutOfMemory → TakesRows count begun now progress (Err e)
  takes_lost progress e h is = record { front = front; asked = h; answers = inr (ap (λ (x : Error). let r : Result (List Values) Error = Err x in r) is) }

  same_error : (x y : Error) → (let r : Option (Result Values Error) = Some (Err x) in r) ≡ Some (Err y) → x ≡ y
  same_error x y h = cc

  -- a row was refused, or memory was wanting for it
  takes_refused : (old : View) (progress : Progress) (e : Error) → HasAsked begun old Going front → AsksNext old now progress (Some (Err e)) → TakesRows count begun now progress (Err e)
  takes_refused old progress e h n = by_asked n.asked n.takes n.answers
    where
      given : HasAsked begun now progress (front ++ [])
      given = asked_more begun old now progress front (Some (Err e)) h n

      refused : (x : Error) (r : Refusal) → x ≡ error_by r → progress ≡ progress_after x → e ≡ x → TakesRows count begun now progress (Err e)
      refused x r is stands same =
          let p : progress ≡ Refused (error_by r) = stands ∙ ap progress_after is in
          let whole : rows_of_load progress (front ++ []) now.seen ≡ Err e = ap (λ (y : Progress). rows_of_load y (front ++ []) now.seen) p ∙ ap (λ (y : Error). let r : Result (List Values) Error = Err y in r) (sym (same ∙ is)) in
          record { front = front ++ []; asked = given; answers = inl (sym (ap (λ (rows : Result (List Values) Error). made_of (front_rows count) rows) whole)) }

      by_asked : (asked : Result (Option Values) Error) → TakesRow old.seen now.seen old.status now.status asked → AnswersNext asked progress (Some (Err e)) → TakesRows count begun now progress (Err e)
      by_asked (Ok (Some row)) takes answers = absurd (cc)
      by_asked (Ok None) takes answers = absurd (cc)
      by_asked (Err x) (inl lacks) answers = record { front = front ++ []; asked = given; answers = inr (ap (λ (y : Error). let r : Result (List Values) Error = Err y in r) (same_error e x answers.1 ∙ lacks.is)) }
      by_asked (Err x) (inr refusal) answers = refused x refusal.refusal refusal.is answers.0 (same_error e x answers.1)

module _ (begun old new : View) (front : List Values) (before progress : Progress) (result : Option (Result Values Error)) (h : HasAsked begun old Going front) (going : before ≡ Going) (n : NextsBy before old new progress result) where
  -- one row more was given
  pub row_asked : (row : Values) (rows : List Values) → result ≡ Some (Ok row) → rows ≡ front ++ row ∷ [] → (progress ≡ Going) × HasAsked begun new Going rows
  row_asked row rows is behind =
      let next = asks_next old new before progress result (Some (Ok row)) going is n in
      let on = went_on old new progress row next in
      (on, subst (λ (p : Progress). HasAsked begun new p rows) on (subst (λ (xs : List Values). HasAsked begun new progress xs) (sym behind) (asked_more begun old new progress front (Some (Ok row)) h next)))

  -- memory was wanting to hold it
  pub row_lost : (count : ℕ) (row : Values) (e : Error) → result ≡ Some (Ok row) → e ≡ OutOfMemory → TakesRows count begun new progress (Err e)
  row_lost count row e is memory =
      takes_lost count begun new (front ++ row ∷ []) progress e (asked_more begun old new progress front (Some (Ok row)) h (asks_next old new before progress result (Some (Ok row)) going is n)) memory

  -- it was refused
  pub row_refused : (count : ℕ) (e : Error) → result ≡ Some (Err e) → TakesRows count begun new progress (Err e)
  row_refused count e is = takes_refused count begun new front old progress e h (asks_next old new before progress result (Some (Err e)) going is n)

  -- there was none
  pub rows_ended : (count : ℕ) → length front ≤ count → result ≡ None → TakesRows count begun new progress (Ok front)
  rows_ended count few is = takes_all count begun new front old progress h few (asks_next old new before progress result None going is n)

-- they are the first ones of the whole load
pub first_loads : (honest : Bool) (q : QueryView) (count : ℕ) (old begun last new : View) (statement : Option ℕ) (progress : Progress) (result : Result (List Values) Error) → Begins honest q old begun → TakesRows count begun last progress result → (honest ≡ true → IsHonest last.seen)
    → new ≡ cursor_end statement q.sql (refusal_in progress) last → LoadsFrom honest q (front_rows count) old new result
first_loads honest q count old begun last new statement progress result b t honesty is = inr (inr (record {
  rows = rows_of_load progress t.front last.seen;
  tells = cursor_loads honest q old begun last new statement progress t.front b t.asked honesty is;
  answers = t.answers;
}))

not_err : (rows : List Values) (e : Error) → (let r : Result (List Values) Error = Err e in r) ≡ Ok rows → ⊥
not_err rows e h = cc

-- a load that was over before its rows
pub first_ends : (honest : Bool) (q : QueryView) (count : ℕ) (old new : View) (e : Error) → EndsEarly honest q old new e → LoadsFrom honest q (front_rows count) old new (Err e)
first_ends honest q count old new e ends = by_loads ends.loads
  where
    by_answers : (rows : Result (List Values) Error) → AnswersBy (made_of (λ (xs : List Values). Ok xs) rows) (Err e) → AnswersBy (made_of (front_rows count) rows) (Err e)
    by_answers (Ok rows) (inl is) = absurd (not_err rows e is)
    by_answers (Err x) (inl is) = inl is
    by_answers rows (inr memory) = inr memory

    by_loads : LoadsFrom honest q (λ rows. Ok rows) old new (Err e) → LoadsFrom honest q (front_rows count) old new (Err e)
    by_loads (inl idle) = inl idle
    by_loads (inr (inl lost)) = inr (inl (record { is = lost.is; tells = lost.tells }))
    by_loads (inr (inr loads)) = inr (inr (record { rows = loads.rows; tells = loads.tells; answers = by_answers loads.rows loads.answers }))
