-- What is read of a list, one by one.
use Rattle.std.proofs.Common.{◌≡◌, ℕ, List, [], ◌∷◌, ◌++◌, Option, Some, None, refl, sym, ap, ◌∙◌, append_assoc}
use Rattle.std.specs.Option.{option_map}
use Rattle.conn_script.specs.Options.{◌>>=◌, readings}
use Rattle.conn_script.specs.Words.{pieces, split_at}
use Rattle.conn_script.proofs.Pieces.{pieces_cut, pieces_from}

-- what was read so far, with what is read of the rest
abbrev pub behind : {A : Type 0} → List A → Option (List A) → Option (List A)
behind done rest = option_map (λ xs. done ++ xs) rest

pub behind_none : {A : Type 0} (rest : Option (List A)) → behind [] rest ≡ rest
behind_none None = refl
behind_none (Some xs) = refl

-- one more is read
pub behind_one : {A : Type 0} (done : List A) (x : A) (rest : Option (List A)) → behind done (rest >>= λ xs. Some (x ∷ xs)) ≡ behind (done ++ x ∷ []) rest
behind_one done x None = refl
behind_one done x (Some xs) = ap Some (sym (append_assoc done (x ∷ []) xs))

-- what is read of the pieces, by the cut of the first one
abbrev others : ℕ → Option (List ℕ) → List (List ℕ)
others b None = []
others b (Some bs) = pieces b bs

first_piece : (b : ℕ) (piece : List ℕ) (more : Option (List ℕ)) → pieces_from b (piece, more) ≡ piece ∷ others b more
first_piece b piece None = refl
first_piece b piece (Some bs) = refl

module _ {A : Type 0} (read : List ℕ → Option A) (b : ℕ) where
  first_read : (rest piece : List ℕ) (more : Option (List ℕ)) (x : Option A) → (piece, more) ≡ split_at b rest → x ≡ read piece → readings read (pieces b rest) ≡ (x >>= λ y. readings read (others b more) >>= λ ys. Some (y ∷ ys))
  first_read rest piece more x cut is =
      ap (readings read) (pieces_cut b rest ∙ ap (pieces_from b) (sym cut) ∙ first_piece b piece more)
      ∙ ap (λ (o : Option A). o >>= λ y. readings read (others b more) >>= λ ys. Some (y ∷ ys)) (sym is)

  -- the first piece is not read
  pub listed_bad : (done : List A) (rest piece : List ℕ) (more : Option (List ℕ)) → (piece, more) ≡ split_at b rest → None ≡ read piece → None ≡ behind done (readings read (pieces b rest))
  listed_bad done rest piece more cut is = sym (ap (behind done) (first_read rest piece more None cut is))

  -- it is the last one
  pub listed_last : (done : List A) (rest piece : List ℕ) (x : A) → (piece, None) ≡ split_at b rest → Some x ≡ read piece → Some (done ++ x ∷ []) ≡ behind done (readings read (pieces b rest))
  listed_last done rest piece x cut is = sym (ap (behind done) (first_read rest piece None (Some x) cut is))

  -- there are more
  pub listed_more : (done : List A) (rest piece after : List ℕ) (x : A) → (piece, Some after) ≡ split_at b rest → Some x ≡ read piece → behind (done ++ x ∷ []) (readings read (pieces b after)) ≡ behind done (readings read (pieces b rest))
  listed_more done rest piece after x cut is =
      sym (ap (behind done) (first_read rest piece (Some after) (Some x) cut is) ∙ behind_one done x (readings read (pieces b after)))
