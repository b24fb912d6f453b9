-- How a connection is established: where to connect to by its URL, what is sent first, and each refusal.
use Rattle.std.specs.Prelude.{◌≡◌, ◌⊎◌, ℕ, ℤ, Bool, true, List, [], ◌∷◌, Option, Some, None, Result, Ok, Err, IfSome, MatchResult}
use Rattle.std.specs.List.{AllByRecursion}
use Rattle.std.specs.Result.{result_err}
use Rattle.conn_result.specs.declared.error.ConnectionError.{ConnectionError}
use Rattle.conn_result.specs.declared.error.ConnectionError.TheVariants.{InvalidCString, BadConnection, InvalidConnectionUrl, CouldntSetupConfiguration, OutOfMemory}
use Rattle.conn_result.specs.declared.error.Error.{Error}
use Rattle.conn_model.specs.Caches.{nothing_known}
use Rattle.conn_model.specs.Events.{Event, Heeded, with_events, StartEstablishConnection, FinishEstablishConnection}
use Rattle.conn_model.specs.Nuls.{nul_place}
use Rattle.conn_model.specs.Seen.{Seen, IsHonest}
use Rattle.conn_model.specs.declared.item.Dialect.{Dialect}
use Rattle.conn_model.specs.declared.item.Dialect.TheVariants.{Pg, Mysql, Sqlite}
use Rattle.conn_model.specs.declared.plan.Target.{Target}
use Rattle.conn_model.specs.declared.plan.Target.TheVariants.{Url}
use Rattle.conn_server.specs.Connected.{Connected, NotOpened, Opens, takes_back}
use Rattle.conn_server.specs.declared.connector.ConnectRefusal.TheVariants.{Refused}
use Rattle.conn_manager.specs.Manages.{Done, done}
use Rattle.conn_manager.specs.Statuses.{Status, no_depth}
use Rattle.conn_manager.specs.Views.{View}
use Rattle.mysql_url.specs.Options.{options_in, target_of}
use Rattle.mysql_url.specs.Outcomes.{◌>>=◌}
use Rattle.conn_drivers.specs.Wires.{IsSetUp}

-- a URL as it is, unless it has a NUL at this place
abbrev pub plain_target : List ℕ → Option ℕ → Result Target ConnectionError
plain_target url None = Ok (Url url)
plain_target url (Some place) = Err (InvalidCString place)

-- where to connect to by a URL, or the URL's fault
abbrev pub target_in : Dialect → List ℕ → Result Target ConnectionError
target_in Pg url = plain_target url (nul_place url)
target_in Mysql url = options_in url >>= λ options. Ok (target_of options)
target_in Sqlite url = plain_target url (nul_place url)

-- the fault of a URL, where it has one
abbrev pub url_fault : Dialect → List ℕ → Option ConnectionError
url_fault dialect url = result_err (target_in dialect url)

-- each attempt was where the URL says, where the attempts are told
abbrev pub AreAt : Dialect → List ℕ → Option (List Target) → Type 0
AreAt dialect url targets = IfSome targets (AllByRecursion (λ t. target_in dialect url ≡ Ok t))

-- what a handler is told of an opening
abbrev pub establish_events : List ℕ → Option ConnectionError → List Event
establish_events url error = StartEstablishConnection url ∷ FinishEstablishConnection url error ∷ []

-- a connector and its servers, honest or not, and a URL
module _ (opens_honestly serves_honestly : Bool) (dialect : Dialect) (url : List ℕ) (old : Connected) where
  -- the connector opened this server at the URL's target
  pub record OpensAt (left : Connected) (first : Seen) : Type 0 where
    pub target : Target
    pub aims : target_in dialect url ≡ Ok target
    pub opens : Opens opens_honestly (λ (s : Seen). s) dialect target old left first

  -- a server was opened, and got the texts of its setup, which it answered so; an honest one is so before and after
  pub record SetsUp (left : Connected) (last : Seen) (a : Done) : Type 0 where
    pub first : Seen
    pub opened : OpensAt left first
    pub set_up : IsSetUp serves_honestly first last no_depth a
    pub honest : serves_honestly ≡ true → IsHonest first × IsHonest last

  -- the setup was refused with this error, and the server of this number is back
  pub record RefusesSetup (e : Error) (number : ℕ) (new : Connected) : Type 0 where
    pub left : Connected
    pub last : Seen
    pub status : Status
    pub tried : SetsUp left last (done (Err e) status)
    pub number_is : number ≡ last.number
    pub back : new ≡ takes_back last left

  -- for want of memory nothing was sent, and the server that was opened is back
  pub record LacksMemory (new : Connected) : Type 0 where
    pub left : Connected
    pub first : Seen
    pub last : Seen
    pub opened : OpensAt left first
    pub untouched : last ≡ record first { item_room = last.item_room; byte_room = last.byte_room }
    pub honest : serves_honestly ≡ true → IsHonest first × IsHonest last
    pub back : new ≡ takes_back last left

  -- the connector refused with this code
  pub record RefusesToOpen (code : ℤ) (new : Connected) : Type 0 where
    pub target : Target
    pub aims : target_in dialect url ≡ Ok target
    pub refuses : NotOpened opens_honestly target old new (Refused code)

  -- no connection is established: each server that was opened is back
  abbrev pub FailsToEstablish : ConnectionError → Connected → Type 0
  FailsToEstablish (InvalidCString place) new = (target_in dialect url ≡ Err (InvalidCString place)) × (new ≡ old)
  FailsToEstablish (InvalidConnectionUrl fault) new = (target_in dialect url ≡ Err (InvalidConnectionUrl fault)) × (new ≡ old)
  FailsToEstablish (BadConnection code) new = RefusesToOpen code new
  FailsToEstablish (CouldntSetupConfiguration e number) new = RefusesSetup e number new
  FailsToEstablish OutOfMemory new = (new ≡ old) ⊎ LacksMemory new

  -- a connection is established: its server is set up, its handler was told of its opening, and it keeps no statement
  pub record IsEstablished (told : Heeded) (new : Connected) (v : View) : Type 0 where
    pub set_up : SetsUp new v.seen (done (Ok tt) v.status)
    pub heeds : v.heeded ≡ with_events told (establish_events url None)
    pub cache : v.cache ≡ nothing_known

  -- a connection is established or not
  abbrev pub Establishes : {C : Type 0} → (C → View) → Heeded → Connected → Result C ConnectionError → Type 0
  Establishes view told new result = MatchResult result (λ c. IsEstablished told new (view c)) (λ e. FailsToEstablish e new)

  -- a server that was just opened, or none
  abbrev pub OpensServer : {S : Type 0} → (S → Seen) → Connected → Result S ConnectionError → Type 0
  OpensServer seen new result = MatchResult result (λ s. OpensAt new (seen s)) (λ e. FailsToEstablish e new)

  -- a wire with a server that is set up, or none
  abbrev pub OpensWire : {W : Type 0} → (W → Seen) → (W → Status) → Connected → Result W ConnectionError → Type 0
  OpensWire seen status new result = MatchResult result (λ w. SetsUp new (seen w) (done (Ok tt) (status w))) (λ e. FailsToEstablish e new)
