-- Rows that were given one after the other, and what is made of them.
use Rattle.std.proofs.Common.{◌≡◌, inl, inr, ℕ, ◌+◌, arith, List, [], ◌∷◌, ◌++◌, length, refl, ap, sym, ◌∙◌, Option, Some, None, Result, Ok, Err, append_assoc, subst}
use Rattle.std.specs.Prelude.{◌⊎◌}
use Rattle.std.specs.Option.{option_map}
use Rattle.std.proofs.lemmas.Grind.{common_steps}
use Rattle.conn_result.specs.declared.error.Error.{Error}
use Rattle.conn_result.specs.declared.error.Error.TheVariants.{DeserializationError, OutOfMemory}
use Rattle.conn_result.specs.declared.error.RowFault.{RowFault}
use Rattle.conn_model.specs.Armed.{Values}
use Rattle.conn_model.specs.Rows.{GivenRow, NoRow, none_left}
use Rattle.conn_model.specs.Seen.{Seen}
use Rattle.conn_model.specs.declared.item.Refusal.{Refusal}
use Rattle.conn_manager.specs.Statuses.{Status, retold}
use Rattle.conn_rows.specs.Answers.{◌>>=◌, row_answer}
use Rattle.conn_rows.specs.Lists.{Reading, list_answer, rows_read}
use Rattle.conn_drivers.specs.Loading.{EndsReading, HasRead, LacksRow, Looks, RefusedRow, row_error}
use Rattle.conn_drivers.specs.Reading.{AnswersBy, AreOver, FailsBy, HoldsRows, PutsBehind, ReadsRows, SkipsRows}

-- ---- rows that were given

pub read_none : (s : Seen) → HasRead s s []
read_none s = record { given = omega arith; left = omega arith; rows = same s.rows; keeps = refl }
  where
    same : (o : Option (List Values)) → o ≡ option_map (λ (rest : List Values). [] ++ rest) o
    same None = refl
    same (Some rest) = refl

pub read_given : (old new : Seen) (row : Values) → GivenRow old new row → HasRead old new (row ∷ [])
read_given old new row g =
    let given : new.given ≡ old.given + 1 = ap (λ (x : Seen). x.given) g.keeps in
    record {
      given = given;
      left = g.left;
      rows = g.rows ∙ same new.rows;
      keeps = g.keeps ∙ ap (λ (n : ℕ). record old { given = n; rows_left = new.rows_left; rows = new.rows }) (sym given);
    }
  where
    same : (o : Option (List Values)) → option_map (λ (rest : List Values). row ∷ rest) o ≡ option_map (λ (rest : List Values). (row ∷ []) ++ rest) o
    same None = refl
    same (Some rest) = refl

pub read_on : (old mid new : Seen) (front more : List Values) → HasRead old mid front → HasRead mid new more → HasRead old new (front ++ more)
read_on old mid new front more f g =
    let lengths : length (front ++ more) ≡ length front + length more = grind (arith, common_steps) in
    let f_given : mid.given ≡ old.given + length front = f.given in
    let g_given : new.given ≡ mid.given + length more = g.given in
    let f_left : old.rows_left ≡ mid.rows_left + length front = f.left in
    let g_left : mid.rows_left ≡ new.rows_left + length more = g.left in
    record {
      given = omega (arith, lengths, f_given, g_given);
      left = omega (arith, lengths, f_left, g_left);
      rows = f.rows ∙ ap (λ (o : Option (List Values)). option_map (λ (rest : List Values). front ++ rest) o) g.rows ∙ joined new.rows;
      keeps = g.keeps ∙ ap (λ (x : Seen). record x { given = new.given; rows_left = new.rows_left; rows = new.rows }) f.keeps;
    }
  where
    joined : (o : Option (List Values)) → option_map (λ (rest : List Values). front ++ rest) (option_map (λ (rest : List Values). more ++ rest) o) ≡ option_map (λ (rest : List Values). (front ++ more) ++ rest) o
    joined None = refl
    joined (Some rest) = ap (λ (rows : List Values). Some rows) (sym (append_assoc front more rest))

-- one row more was given
pub read_more : (old mid new : Seen) (front : List Values) (row : Values) → HasRead old mid front → GivenRow mid new row → HasRead old new (front ++ row ∷ [])
read_more old mid new front row f g = read_on old mid new front (row ∷ []) f (read_given mid new row g)

pub looks_given : (old new : Seen) (s s1 : Status) (front : List Values) → HasRead old new front → s1 ≡ s → Looks old new s s1 front None
looks_given old new s s1 front read follows = record { mid = new; read = read; ending = (refl, follows) }

-- no row was left after them
pub looks_over : (old mid new : Seen) (s s0 s1 : Status) (front : List Values) → HasRead old mid front → s0 ≡ s → NoRow mid new → s1 ≡ s0 → Looks old new s s1 front None
looks_over old mid new s s0 s1 front read follows none still = record { mid = mid; read = read; ending = (none.keeps, still ∙ follows) }

pub are_over : (mid new : Seen) → NoRow mid new → AreOver new
are_over mid new none = record {
  left = ap (λ (x : Seen). x.rows_left) none.keeps ∙ none.left;
  rows = ap (λ (x : Seen). x.rows) none.keeps ∙ none.rows ∙ ap (λ (x : Seen). none_left x.rows) (sym none.keeps);
}

-- memory was wanting after them
pub looks_lacking : (old mid new : Seen) (s s0 s1 : Status) (front : List Values) (e : Error) → HasRead old mid front → s0 ≡ s → LacksRow mid new s0 s1 e → Looks old new s s1 front None
looks_lacking old mid new s s0 s1 front e read follows lacks = record { mid = mid; read = read; ending = (lacks.seen, lacks.status ∙ follows) }

-- a row was refused after them
pub looks_refused : (old mid new : Seen) (s s0 s1 : Status) (front : List Values) (e : Error) → HasRead old mid front → s0 ≡ s → (refused : RefusedRow mid new s0 s1 e) → Looks old new s s1 front (Some refused.refusal)
looks_refused old mid new s s0 s1 front e read follows refused = record {
  mid = mid;
  read = read;
  ending = (refused.refuses, refused.follows ∙ ap (λ (x : Status). retold mid.dialect (Some refused.refusal) new.told x) follows);
}

-- these were given, and then these, up to a refused one
pub looks_on : (old mid new : Seen) (s s0 s1 : Status) (front more : List Values) (refusal : Option Refusal) → Looks old mid s s0 front None → Looks mid new s0 s1 more refusal → Looks old new s s1 (front ++ more) refusal
looks_on old mid new s s0 s1 front more refusal first second =
    let read : HasRead old mid front = subst (λ (x : Seen). HasRead old x front) (sym first.ending.0) first.read in
    record { mid = second.mid; read = read_on old mid second.mid front more read second.read; ending = by_refusal refusal second.ending }
  where
    by_refusal : (o : Option Refusal) → EndsReading o second.mid new s0 s1 → EndsReading o second.mid new s s1
    by_refusal None ending = (ending.0, ending.1 ∙ first.ending.1)
    by_refusal (Some r) ending = (ending.0, ending.1 ∙ ap (λ (x : Status). retold second.mid.dialect (Some r) new.told x) first.ending.1)

-- ---- held rows

module _ (old mid new : Seen) (s s0 s1 : Status) (front : List Values) (read : HasRead old mid front) (follows : s0 ≡ s) where
  pub holds_all : NoRow mid new → s1 ≡ s0 → HoldsRows old new s s1 (Ok front)
  holds_all none still = record { front = front; refusal = None; looks = looks_over old mid new s s0 s1 front read follows none still; holds = (refl, are_over mid new none) }

  pub holds_fail : (e : Error) → LacksRow mid new s0 s1 e ⊎ RefusedRow mid new s0 s1 e → HoldsRows old new s s1 (Err e)
  holds_fail e (inl lacks) = record { front = front; refusal = None; looks = looks_lacking old mid new s s0 s1 front e read follows lacks; holds = lacks.is }
  holds_fail e (inr refused) = record { front = front; refusal = Some refused.refusal; looks = looks_refused old mid new s s0 s1 front e read follows refused; holds = ap (λ (x : Error). let r : Result (List Values) Error = Err x in r) refused.is }

  pub skips_all : NoRow mid new → s1 ≡ s0 → SkipsRows old new s s1 (Ok tt)
  skips_all none still = record { front = front; refusal = None; looks = looks_over old mid new s s0 s1 front read follows none still; skips = tt }

  pub skips_fail : (e : Error) → LacksRow mid new s0 s1 e ⊎ RefusedRow mid new s0 s1 e → SkipsRows old new s s1 (Err e)
  skips_fail e (inl lacks) = record { front = front; refusal = None; looks = looks_lacking old mid new s s0 s1 front e read follows lacks; skips = lacks.is }
  skips_fail e (inr refused) = record { front = front; refusal = Some refused.refusal; looks = looks_refused old mid new s s0 s1 front e read follows refused; skips = ap (λ (x : Error). let r : Result (Unit {0}) Error = Err x in r) refused.is }

pub holds_memory : (old new : Seen) (s s1 : Status) (front : List Values) (e : Error) → HasRead old new front → s1 ≡ s → e ≡ OutOfMemory → HoldsRows old new s s1 (Err e)
holds_memory old new s s1 front e read follows is = record { front = front; refusal = None; looks = looks_given old new s s1 front read follows; holds = is }

-- ---- rows that are read

module _ {T : Type 0} (reads : Reading T) where
  bound : (h : Result T RowFault) (a b : Result (List T) RowFault)
      → h >>= (λ (u : T). (a >>= (λ (us : List T). b >>= (λ (vs : List T). Ok (us ++ vs)))) >>= (λ (us : List T). Ok (u ∷ us))) ≡ (h >>= (λ (u : T). a >>= (λ (us : List T). Ok (u ∷ us)))) >>= (λ (us : List T). b >>= (λ (vs : List T). Ok (us ++ vs)))
  bound (Ok u) (Ok us) (Ok vs) = refl
  bound (Ok u) (Ok us) (Err f) = refl
  bound (Ok u) (Err f) b = refl
  bound (Err f) a b = refl

  still : (b : Result (List T) RowFault) → b ≡ b >>= (λ (vs : List T). Ok ([] ++ vs))
  still (Ok vs) = refl
  still (Err f) = refl

  -- first these, then those
  pub read_both : (xs ys : List Values) → rows_read reads (xs ++ ys) ≡ rows_read reads xs >>= (λ (us : List T). rows_read reads ys >>= (λ (vs : List T). Ok (us ++ vs)))
  read_both [] ys = still (rows_read reads ys)
  read_both (x ∷ xs) ys =
      ap (λ (r : Result (List T) RowFault). reads x >>= (λ (u : T). r >>= (λ (us : List T). Ok (u ∷ us)))) (read_both xs ys) ∙ bound (reads x) (rows_read reads xs) (rows_read reads ys)

  after_fault : (ys : List Values) (a : Result (List T) RowFault) (e : Error) → row_answer a ≡ Err e → row_answer (a >>= (λ (us : List T). rows_read reads ys >>= (λ (vs : List T). Ok (us ++ vs)))) ≡ Err e
  after_fault ys (Ok us) e h = absurd (cc)
  after_fault ys (Err f) e h = h

  -- a fault is one of more rows too
  pub fails_on : (xs ys : List Values) (e : Error) → FailsBy (rows_read reads xs) e → FailsBy (rows_read reads (xs ++ ys)) e
  fails_on xs ys e (inl memory) = inl memory
  fails_on xs ys e (inr h) = inr (ap row_answer (read_both xs ys) ∙ after_fault ys (rows_read reads xs) e h)

  one_more : (row : Values) (us : List T) (h : Result T RowFault) (u : T) → h ≡ Ok u → (h >>= (λ (v : T). (Ok []) >>= (λ (vs : List T). Ok (v ∷ vs)))) >>= (λ (vs : List T). Ok (us ++ vs)) ≡ Ok (us ++ u ∷ [])
  one_more row us h u e = ap (λ (r : Result T RowFault). (r >>= (λ (v : T). (Ok []) >>= (λ (vs : List T). Ok (v ∷ vs)))) >>= (λ (vs : List T). Ok (us ++ vs))) e

  -- one row more was read
  pub read_one : (xs : List Values) (row : Values) (us : List T) (u : T) → rows_read reads xs ≡ Ok us → reads row ≡ Ok u → rows_read reads (xs ++ row ∷ []) ≡ Ok (us ++ u ∷ [])
  read_one xs row us u e f =
      read_both xs (row ∷ []) ∙ ap (λ (r : Result (List T) RowFault). r >>= (λ (ws : List T). rows_read reads (row ∷ []) >>= (λ (vs : List T). Ok (ws ++ vs)))) e ∙ one_more row us (reads row) u f

  same_error : (x y : Error) → (let r : Result T Error = Err x in r) ≡ Err y → x ≡ y
  same_error x y e = cc

  fault_one : (us : List T) (h : Result T RowFault) (e : Error) → row_answer h ≡ Err e → row_answer ((h >>= (λ (v : T). (Ok []) >>= (λ (vs : List T). Ok (v ∷ vs)))) >>= (λ (vs : List T). Ok (us ++ vs))) ≡ Err e
  fault_one us (Ok u) e h = absurd (cc)
  fault_one us (Err f) e h = ap (λ (x : Error). let r : Result (List T) Error = Err x in r) (same_error (DeserializationError f) e h)

  -- one row more had a fault
  pub fails_one : (xs : List Values) (row : Values) (us : List T) (e : Error) → rows_read reads xs ≡ Ok us → FailsBy (reads row) e → FailsBy (rows_read reads (xs ++ row ∷ [])) e
  fails_one xs row us e is (inl memory) = inl memory
  fails_one xs row us e is (inr h) = inr (ap row_answer (read_both xs (row ∷ []) ∙ ap (λ (r : Result (List T) RowFault). r >>= (λ (ws : List T). rows_read reads (row ∷ []) >>= (λ (vs : List T). Ok (ws ++ vs)))) is) ∙ fault_one us (reads row) e h)

-- these were read so far
pub record HasReadAs {T : Type 0} (reads : Reading T) (old new : Seen) (s s1 : Status) (values : List T) : Type 0 where
  pub front : List Values
  pub read : HasRead old new front
  pub are : rows_read reads front ≡ Ok values
  pub follows : s1 ≡ s

pub read_as_none : {T : Type 0} (reads : Reading T) (old : Seen) (s : Status) → HasReadAs reads old old s s []
read_as_none reads old s = record { front = []; read = read_none old; are = refl; follows = refl }

module _ {T : Type 0} (reads : Reading T) (old mid new : Seen) (s s0 s1 : Status) (values : List T) (so_far : HasReadAs reads old mid s s0 values) where
  pub reads_more : (row : Values) (values' : List T) → GivenRow mid new row → s1 ≡ s0 → PutsBehind (reads row) values values' → HasReadAs reads old new s s1 values'
  reads_more row values' given still puts = record {
    front = so_far.front ++ row ∷ [];
    read = read_more old mid new so_far.front row so_far.read given;
    are = read_one reads so_far.front row values puts.value so_far.are puts.is ∙ ap (λ (us : List T). let r : Result (List T) RowFault = Ok us in r) (sym puts.behind);
    follows = still ∙ so_far.follows;
  }

  pub reads_fault : (row : Values) (e : Error) → GivenRow mid new row → s1 ≡ s0 → FailsBy (reads row) e → ReadsRows reads old new s s1 None (Err e)
  reads_fault row e given still fails = record {
    front = so_far.front ++ row ∷ [];
    refusal = None;
    looks = looks_given old new s s1 (so_far.front ++ row ∷ []) (read_more old mid new so_far.front row so_far.read given) (still ∙ so_far.follows);
    gives = (refl, fails_one reads so_far.front row values e so_far.are fails);
  }

  pub reads_all : NoRow mid new → s1 ≡ s0 → ReadsRows reads old new s s1 None (Ok values)
  reads_all none still = record {
    front = so_far.front;
    refusal = None;
    looks = looks_over old mid new s s0 s1 so_far.front so_far.read so_far.follows none still;
    gives = (refl, so_far.are, are_over mid new none);
  }

  pub reads_fail : (e : Error) (error : Option Error) → error ≡ row_error e → LacksRow mid new s0 s1 e ⊎ RefusedRow mid new s0 s1 e → ReadsRows reads old new s s1 error (Err e)
  reads_fail e error is (inl lacks) = record {
    front = so_far.front;
    refusal = None;
    looks = looks_lacking old mid new s s0 s1 so_far.front e so_far.read so_far.follows lacks;
    gives = (is ∙ ap row_error lacks.is, inl lacks.is);
  }
  reads_fail e error is (inr refused) = record {
    front = so_far.front;
    refusal = Some refused.refusal;
    looks = looks_refused old mid new s s0 s1 so_far.front e so_far.read so_far.follows refused;
    gives = (is ∙ ap row_error refused.is, ap (λ (x : Error). let r : Result (List T) Error = Err x in r) refused.is);
  }

-- ---- rows that were held

-- the answer of a list of them, all of which were read
pub answers_all : {T : Type 0} (reads : Reading T) (seen rows : List Values) (values : List T) → rows_read reads seen ≡ Ok values → rows ≡ seen → AnswersBy (list_answer reads rows) (Ok values)
answers_all reads seen rows values read is = inl (sym (ap (λ (xs : List Values). list_answer reads xs) is ∙ ap row_answer read))

-- and of those up to one with a fault
pub answers_fault : {T : Type 0} (reads : Reading T) (seen : List Values) (row : Values) (rest rows : List Values) (values : List T) (e : Error) → rows_read reads seen ≡ Ok values → rows ≡ seen ++ row ∷ rest → FailsBy (reads row) e → AnswersBy (list_answer reads rows) (Err e)
answers_fault {T} reads seen row rest rows values e read is fails = by_fails (fails_on reads (seen ++ row ∷ []) rest e (fails_one reads seen row values e read fails))
  where
    whole : (seen ++ row ∷ []) ++ rest ≡ rows
    whole = append_assoc seen (row ∷ []) rest ∙ sym is

    by_fails : FailsBy (rows_read reads ((seen ++ row ∷ []) ++ rest)) e → AnswersBy (list_answer reads rows) (Err e)
    by_fails (inl memory) = inr (ap (λ (x : Error). let r : Result (List T) Error = Err x in r) memory)
    by_fails (inr h) = inl (sym (ap (λ (xs : List Values). list_answer reads xs) (sym whole) ∙ h))

-- none is left where their number is 0
pub none_held : (n : ℕ) (rows : List Values) → n ≡ length rows → n ≡ 0 → rows ≡ []
none_held n [] e f = refl
none_held n (row ∷ rows) e f = absurd (omega (arith, e, f))
