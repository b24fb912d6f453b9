-- The servers that a connector took back.
use Rattle.std.specs.Prelude.{ℕ, ◌≡◌, ◌<◌, ◌≤◌, zero, suc, Bool, List, [], ◌∷◌, ◌++◌, sum_by, Option}
use Rattle.std.specs.Option.{option_and_then, unwrap_or}
use Rattle.conn_model.specs.Seen.{Seen}
use Rattle.conn_model.specs.States.{Writes}
use Rattle.conn_reading.specs.Answered.{ServerLogs}
use Rattle.conn_server.specs.Connected.{Connected, writes_by, first_returned}
use Rattle.conn_session.specs.Worlds.{of_number}

-- each server that was opened was taken back, once, and no other was
pub record AllBack (k : Connected) : Type 0 where
  pub once : (n : ℕ) → n < k.opened → sum_by (of_number n) k.returned ≡ 1
  pub none : (n : ℕ) → k.opened ≤ n → sum_by (of_number n) k.returned ≡ 0

-- the committed writes of the servers, in the order of their numbers, where they are told
abbrev pub servers_of : Bool → ℕ → List Seen → List (Option Writes)
servers_of honest zero returned = []
servers_of honest (suc n) returned = servers_of honest n returned ++ writes_by honest n returned ∷ []

-- the logs of the servers that were taken back, by their numbers; a server that tells none, or a number that was not opened,
-- has no items
abbrev pub logs_of : List Seen → ServerLogs
logs_of returned n = unwrap_or (option_and_then (λ (s : Seen). s.log) (first_returned n returned)) []
