-- What setting a size does.
use Rattle.std.specs.Prelude.{◌≡◌, Bool, true, false, List, [], ◌∷◌, reverse}
use Rattle.conn_model.specs.declared.cache.CacheSize.{CacheSize}
use Rattle.conn_model.specs.Caches.{same_size, Cache}
use Rattle.conn_cache.specs.Registers.{register_sized}

-- these were closed, one after the other
abbrev pub ClosesAll : {P T : Type 0} → (P → T → P → Type 0) → P → List T → P → Type 0
ClosesAll closes p [] p' = p' ≡ p
ClosesAll {P} closes p (t ∷ ts) p' = (mid : P) × closes p t mid × ClosesAll closes mid ts p'

-- these were closed, the last one first
abbrev pub ClosesBack : {P T : Type 0} → (P → T → P → Type 0) → P → List T → P → Type 0
ClosesBack closes p ts p' = ClosesAll closes p (reverse ts) p'

-- the same size leaves the statements, and another closes them all
abbrev pub ResizesBy : {P T : Type 0} → (P → T → P → Type 0) → List T → List T → P → P → Bool → Type 0
ResizesBy closes ts ts' p p' true = (ts' ≡ ts) × (p' ≡ p)
ResizesBy closes ts ts' p p' false = (ts' ≡ []) × ClosesBack closes p ts p'

-- a size was set
pub record Resizes {P T : Type 0} (closes : P → T → P → Type 0) (size : CacheSize) (old new : Cache T) (p p' : P) : Type 0 where
  pub register : new.register ≡ register_sized size old.register
  pub statements : ResizesBy closes old.statements new.statements p p' (same_size size old.register.size)
