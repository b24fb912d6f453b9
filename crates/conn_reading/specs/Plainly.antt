-- Calls that send texts which ask nothing of a transaction, and follow what the server tells.
use Rattle.std.specs.Prelude.{◌≡◌, true}
use Rattle.conn_model.specs.Classes.{class}
use Rattle.conn_model.specs.Process.{Process, Stop, Ask, Look, Tell, Heard}
use Rattle.conn_model.specs.declared.item.Dialect.{Dialect}
use Rattle.conn_manager.specs.Statuses.{Status, retold}
use Rattle.conn_cache.specs.LoadProcesses.{looked}
use Rattle.conn_reading.specs.Verdicts.{is_plain}

module _ {A : Type 0} (d : Dialect) (status : A → Status) where
  -- it sends plain texts, and ends with the status that the items tell
  abbrev pub Plainly : Status → Process A → Type 0
  Plainly S (Stop a) = status a ≡ S
  Plainly S (Tell event p) = Plainly S p
  Plainly S (Ask call text next) = (is_plain (class text) ≡ true) × ((h : Heard) → Plainly (retold d h.refusal h.told S) (next h))
  Plainly S (Look text next) = (h : Heard) → Plainly (looked d h.refusal h.told S) (next h)
