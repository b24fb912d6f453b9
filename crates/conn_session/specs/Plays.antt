-- What the commands of a session may give, whatever its servers answer.
use Rattle.std.specs.Prelude.{ℕ, ◌+◌, ◌≡◌, ◌⊎◌, ℤ, Bool, true, false, List, [], ◌∷◌, ◌++◌, Option, Some, None, slice_set}
use Rattle.conn_result.specs.declared.error.ConnectionError.{ConnectionError}
use Rattle.conn_result.specs.declared.error.ConnectionError.TheVariants.{BadConnection, CouldntSetupConfiguration}
use Rattle.conn_result.specs.declared.error.Error.{Error}
use Rattle.conn_result.specs.declared.pool.Error.{Error as PoolError}
use Rattle.conn_result.specs.declared.pool.Error.TheVariants as pooling
use Rattle.conn_report.specs.declared.entry.Entry.{Entry}
use Rattle.conn_report.specs.declared.entry.Reply.{Reply}
use Rattle.conn_report.specs.declared.entry.Reply.TheVariants as replies
use Rattle.conn_script.specs.Requests.{request_of, verb_word}
use Rattle.conn_script.specs.declared.command.Command.{Command}
use Rattle.conn_script.specs.declared.command.Customizer.{Customizer}
use Rattle.conn_script.specs.declared.command.Word.{Word}
use Rattle.conn_script.specs.declared.command.Word.TheVariants as words
use Rattle.conn_script.specs.declared.request.Request.{Request}
use Rattle.conn_script.specs.declared.request.Request.TheVariants.{Get, Put, On}
use Rattle.conn_script.specs.declared.request.Verb.{Verb}
use Rattle.conn_reading.specs.Answered.{get_refusal, skip_entry}
use Rattle.conn_reading.specs.Asking.{Policy, check_deed, customizer_deed}
use Rattle.conn_reading.specs.Blocks.{block_on, blocks_after, deed_of}
use Rattle.conn_reading.specs.Seats.{Seat, Context, at_first, at_number, make_entry, entry_on, entry_without, put_reply, put_slot}
use Rattle.conn_reading.specs.declared.deed.Deed.{Deed}
use Rattle.conn_session.specs.Responses.{IsAnswer, IsServerError}

-- ---- get and put

-- what is asked of a connection is answered; where nothing is asked it is as it was
abbrev pub AnswersReady : Option Deed → Seat → Seat → Reply → Type 0
AnswersReady None seat after reply = (after ≡ seat) × (reply ≡ replies.Ok)
AnswersReady (Some deed) seat after reply = IsAnswer deed reply

-- the entry of a connection that is handed out, or closed; the mark of a closed one is what its connector tells
abbrev pub ready_entry : ℕ → Seat → Option ℕ → Option PoolError → Entry
ready_entry line seat mark None = entry_on line words.Get replies.Ok seat
ready_entry line seat mark (Some e) = make_entry line words.Get (Some seat.number) (replies.Pool e) None mark

-- the connection is at its place, or its slot is at the back, empty
abbrev pub ready_context : Context → Seat → Option PoolError → Context
ready_context c seat None = record c { out = slice_set c.out seat.number (Some seat) }
ready_context c seat (Some e) = record c { slots = c.slots ++ None ∷ [] }

-- a connection, new or kept, was asked a deed or nothing, and was handed out or closed by its reply
pub record PlaysReady (line : ℕ) (fresh : Bool) (deed : Option Deed) (seat : Seat) (old : Context) (entry : Entry) (new : Context) : Type 0 where
  pub after : Seat
  pub reply : Reply
  pub mark : Option ℕ
  pub numbered : after.number ≡ seat.number
  pub answers : AnswersReady deed seat after reply
  pub entry_is : entry ≡ ready_entry line after mark (get_refusal fresh after reply)
  pub context_is : new ≡ ready_context old after (get_refusal fresh after reply)

-- an attempt opened a server, which has a place
abbrev pub with_place : Context → Context
with_place c = record c { out = c.out ++ None ∷ []; opened = c.opened + 1 }

-- the empty slot that was in front is filled by the connection of the least number not used yet, of which what is asked of new ones
-- is asked
pub record FillsSlot (line : ℕ) (z : Customizer) (old : Context) (entry : Entry) (new : Context) : Type 0 where
  pub seat : Seat
  pub numbered : seat.number ≡ old.opened
  pub ready : PlaysReady line true (customizer_deed z) seat (with_place old) entry new

-- a server was opened, refused a text of the setup, and is closed again: its number is used up, and the slot is at the back,
-- still empty
pub record FailsSetup (line : ℕ) (old : Context) (entry : Entry) (new : Context) : Type 0 where
  pub error : Error
  pub mark : Option ℕ
  pub refused : IsServerError error
  pub entry_is : entry ≡ make_entry line words.Get (Some old.opened) (replies.Pool (pooling.ConnectionError (CouldntSetupConfiguration error old.opened))) None mark
  pub context_is : new ≡ record (with_place old) { slots = old.slots ++ None ∷ [] }

-- no server was opened: the slot is at the back, still empty
pub record KeepsSlotEmpty (line : ℕ) (error : ConnectionError) (old : Context) (entry : Entry) (new : Context) : Type 0 where
  pub entry_is : entry ≡ entry_without line words.Get None (replies.Pool (pooling.ConnectionError error))
  pub context_is : new ≡ record old { slots = old.slots ++ None ∷ [] }

-- the empty slot that was in front, where the URL is at fault, and where it isn't: the connector may refuse with any code
abbrev pub PlaysOpening : Option ConnectionError → Customizer → ℕ → Context → Entry → Context → Type 0
PlaysOpening (Some fault) z line old entry new = KeepsSlotEmpty line fault old entry new
PlaysOpening None z line old entry new =
    FillsSlot line z old entry new ⊎ FailsSetup line old entry new
    ⊎ ((code : ℤ) × KeepsSlotEmpty line (BadConnection code) old entry new)

-- the command found nothing to do, and changed nothing
pub record Finds (wanted : Entry) (old : Context) (entry : Entry) (new : Context) : Type 0 where
  pub entry_is : entry ≡ wanted
  pub context_is : new ≡ old

-- the slot that was in front: an empty one is filled, and a connection in it is checked where connections are
abbrev pub PlaysSlot : Option ConnectionError → Policy → ℕ → Context → Entry → Context → Option Seat → Type 0
PlaysSlot fault policy line old entry new None = PlaysOpening fault policy.customizer line old entry new
PlaysSlot fault policy line old entry new (Some seat) = PlaysReady line false (check_deed policy.check) seat old entry new

-- `get` by the slots
abbrev pub PlaysGet : Option ConnectionError → Policy → ℕ → Context → Entry → Context → List (Option Seat) → Type 0
PlaysGet fault policy line old entry new [] = Finds (entry_without line words.Get None replies.NoneFree) old entry new
PlaysGet fault policy line old entry new (slot ∷ rest) = PlaysSlot fault policy line (record old { slots = rest }) entry new slot

-- the slot of a connection that is given back goes to the back, with the connection where it is kept
pub record GivesBack (line : ℕ) (n : ℕ) (seat : Seat) (old : Context) (entry : Entry) (new : Context) : Type 0 where
  pub entry_is : entry ≡ entry_on line words.Put (put_reply seat.status) seat
  pub context_is : new ≡ record old { slots = old.slots ++ put_slot seat ∷ []; out = slice_set old.out n None }

-- a connection that isn't handed out
abbrev pub PlaysAbsent : ℕ → Word → ℕ → Context → Entry → Context → Type 0
PlaysAbsent line word n old entry new = Finds (entry_without line word (Some n) replies.NotOut) old entry new

-- `put`, by the connection of the number, where it is out
abbrev pub PlaysPut : ℕ → ℕ → Context → Entry → Context → Option Seat → Type 0
PlaysPut line n old entry new None = PlaysAbsent line words.Put n old entry new
PlaysPut line n old entry new (Some seat) = GivesBack line n seat old entry new

-- ---- a command on a connection

-- a deed was answered: the connection stays at its place
pub record Responds (line : ℕ) (word : Word) (deed : Deed) (n : ℕ) (seat : Seat) (old : Context) (entry : Entry) (new : Context) : Type 0 where
  pub reply : Reply
  pub after : Seat
  pub answer : IsAnswer deed reply
  pub numbered : after.number ≡ seat.number
  pub entry_is : entry ≡ entry_on line word reply after
  pub context_is : new ≡ record old { out = slice_set old.out n (Some after) }

-- a deed on the connection of a number, where it is out
abbrev pub PlaysOn : ℕ → Word → Deed → ℕ → Context → Entry → Context → Option Seat → Type 0
PlaysOn line word deed n old entry new None = PlaysAbsent line word n old entry new
PlaysOn line word deed n old entry new (Some seat) = Responds line word deed n seat old entry new

-- a command by its deed; without one it is skipped
abbrev pub PlaysDeed : ℕ → Word → Option Deed → ℕ → Context → Entry → Context → Option Seat → Type 0
PlaysDeed line word None n old entry new place = Finds (skip_entry line word n place) old entry new
PlaysDeed line word (Some deed) n old entry new place = PlaysOn line word deed n old entry new place

-- a command on the connection of a number: by the open blocks it has a deed or is skipped
abbrev pub PlaysByDeed : ℕ → ℕ → Verb → Context → Entry → Context → Type 0
PlaysByDeed line n verb old entry new =
    PlaysDeed line (verb_word verb) (deed_of (block_on n old.blocks) verb) n old entry new (at_number n old.out)

-- and then its reply tells the blocks
pub record PlaysVerb (line n : ℕ) (verb : Verb) (old : Context) (entry : Entry) (new : Context) : Type 0 where
  pub mid : Context
  pub by_deed : PlaysByDeed line n verb old entry mid
  pub context_is : new ≡ record mid { blocks = blocks_after n verb entry.reply mid.blocks }

-- ---- all commands, where the URL has this fault or none, and `get` asks by this policy

-- a command gave this entry, from one context to another
abbrev pub Plays : Option ConnectionError → Policy → ℕ → Request → Context → Entry → Context → Type 0
Plays fault policy line Get old entry new = PlaysGet fault policy line old entry new old.slots
Plays fault policy line (Put n) old entry new = PlaysPut line n old entry new (at_number n old.out)
Plays fault policy line (On n verb) old entry new = PlaysVerb line n verb old entry new

-- commands gave these entries, one for each, in order
abbrev pub PlaysAll : Option ConnectionError → Policy → Context → List Command → List Entry → Context → Type 0
PlaysAll fault policy old [] [] new = new ≡ old
PlaysAll fault policy old [] (e ∷ es) new = ⊥
PlaysAll fault policy old (c ∷ cs) [] new = ⊥
PlaysAll fault policy old (c ∷ cs) (e ∷ es) new = (mid : Context) × Plays fault policy c.line (request_of c.act) old e mid × PlaysAll fault policy mid cs es new

-- a session over a pool of so many slots may give these entries
abbrev pub IsPlayed : Option ConnectionError → Policy → ℕ → List Command → List Entry → Type 0
IsPlayed fault policy size commands entries = (last : Context) × PlaysAll fault policy (at_first size) commands entries last
