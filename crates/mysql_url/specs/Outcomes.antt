-- Readings that go on only while nothing was refused.
use Rattle.std.specs.Prelude.{◌≡◌, ◌⊎◌, Bool, true, false, Result, Ok, Err, MatchResult}
use Rattle.conn_result.specs.declared.error.ConnectionError.{ConnectionError}
use Rattle.conn_result.specs.declared.error.ConnectionError.TheVariants.{OutOfMemory}

-- what comes next, unless this was refused
infixl 10 ◌>>=◌
abbrev pub ◌>>=◌ : {A B : Type 0} → Result A ConnectionError → (A → Result B ConnectionError) → Result B ConnectionError
(Ok x) >>= f = f x
(Err e) >>= f = Err e

-- a value, unless a test finds this fault
abbrev pub unless : {A : Type 0} → Bool → ConnectionError → A → Result A ConnectionError
unless true e x = Err e
unless false e x = Ok x

-- the result is the expected one, unless memory was wanting
abbrev pub GivesOrMemory : {A : Type 0} → Result A ConnectionError → Result A ConnectionError → Type 0
GivesOrMemory result expected = MatchResult result (λ x. expected ≡ Ok x) (λ e. (e ≡ OutOfMemory) ⊎ (expected ≡ Err e))
