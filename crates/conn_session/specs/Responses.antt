-- What a connection shows, and what it does for a command.
use Rattle.std.specs.Prelude.{◌≡◌, ◌≢◌, ◌≤◌, ◌⊎◌, ℕ, Bool, true, false, ⊤, List, [], Option, Some, None, Result, Ok, Err, IfOk, IsErr}
use Rattle.std.specs.Option.{option_and_then, unwrap_or}
use Rattle.std.specs.declared.alloc.AllocError.{AllocError}
use Rattle.conn_result.specs.Causes.{Rose}
use Rattle.conn_result.specs.declared.error.ConnectionError.TheVariants.{BadConnection, CouldntSetupConfiguration}
use Rattle.conn_result.specs.declared.error.Error.{Error}
use Rattle.conn_result.specs.declared.error.Error.TheVariants.{DatabaseError, InvalidCString, OutOfMemory}
use Rattle.conn_result.specs.declared.pool.Error.{Error as PoolError}
use Rattle.conn_result.specs.declared.pool.Error.TheVariants as pooling
use Rattle.conn_result.specs.declared.pool.PoolError.{PoolError as PoolRefusal}
use Rattle.conn_result.specs.declared.pool.PoolError.TheVariants as refusals
use Rattle.conn_model.specs.Acts.{Acts, IsSameServer}
use Rattle.conn_model.specs.Nuls.{nul_place}
use Rattle.conn_model.specs.Seen.{Seen, state_seen}
use Rattle.conn_model.specs.States.{State, Idle}
use Rattle.conn_manager.specs.Manages.{IsRefusal, Reply as Answer}
use Rattle.conn_manager.specs.Views.{View}
use Rattle.conn_reading.specs.Asking.{outcome, process_of, reply_made}
use Rattle.conn_reading.specs.Seats.{Seat, make_entry, entry_without}
use Rattle.conn_report.specs.declared.entry.Entry.{Entry}
use Rattle.conn_report.specs.declared.entry.Reply.{Reply}
use Rattle.conn_report.specs.declared.entry.Reply.TheVariants as replies
use Rattle.conn_script.specs.declared.command.QueryCall.{QueryCall}
use Rattle.conn_script.specs.declared.command.QueryCall.TheVariants.{Exec, Load, Each, One, Optional}
use Rattle.conn_script.specs.declared.command.Word.TheVariants as words
use Rattle.conn_script.specs.declared.query.Declared.{Declared}
use Rattle.conn_server.specs.Connected.{sent_by}
use Rattle.conn_reading.specs.declared.deed.Deed.{Deed}
use Rattle.conn_reading.specs.declared.deed.Deed.TheVariants as deeds

-- the state that a server's log gives, where it is told and lawful
abbrev pub state_told : Seen → State
state_told s = unwrap_or (state_seen s) (Idle [])

-- a connection as a reader of logs has it
abbrev pub seat_of : View → Seat
seat_of v = record { number = v.seen.number; status = v.status; mark = v.seen.sent; state = state_told v.seen; cache = v.cache }

-- want of memory
abbrev pub wants_memory : Answer → Bool
wants_memory (Err OutOfMemory) = true
wants_memory _ = false

-- the error is a server's refusal of a text
abbrev pub IsServerError : Error → Type 0
IsServerError (DatabaseError kind code) = ⊤
IsServerError _ = ⊥

-- the error is a server's refusal of the text, or tells the place of its first NUL
abbrev pub IsTextError : List ℕ → Error → Type 0
IsTextError text (InvalidCString place) = nul_place text ≡ Some place
IsTextError text e = IsServerError e

-- no connection was handed out, since a server refused: a text of the setup, or what was asked of the connection
abbrev pub IsServers : PoolError → Type 0
IsServers (pooling.ConnectionError (CouldntSetupConfiguration e n)) = IsRefusal (Err e)
IsServers (pooling.QueryError e n) = IsRefusal (Err e)
IsServers _ = ⊥

-- the reply hands on a refusal of a server
abbrev pub IsRefused : Reply → Type 0
IsRefused (replies.Error e) = IsRefusal (Err e)
IsRefused (replies.Pool e) = IsServers e
IsRefused _ = ⊥

-- the connector refused
abbrev pub IsConnectors : PoolError → Type 0
IsConnectors (pooling.ConnectionError (BadConnection code)) = ⊤
IsConnectors _ = ⊥

-- the reply hands on a refusal of the connector
abbrev pub IsUnopened : Reply → Type 0
IsUnopened (replies.Pool e) = IsConnectors e
IsUnopened _ = ⊥

-- the connection that was closed where none was handed out
abbrev pub closed_number : PoolError → Option ℕ
closed_number (pooling.ConnectionError (CouldntSetupConfiguration e n)) = Some n
closed_number (pooling.QueryError e n) = Some n
closed_number (pooling.LeftOpen n) = Some n
closed_number _ = None

-- the entry of a `get` that handed no connection out: where one was closed, its number, and how many items its server's log has
-- where that is told
abbrev pub unserved_entry : ℕ → PoolError → List Seen → Entry
unserved_entry line e returned = make_entry line words.Get (closed_number e) (replies.Pool e) None (option_and_then (λ (n : ℕ). sent_by n returned) (closed_number e))

-- no connection was handed out for an error of the front slot; want of memory has no entry
abbrev pub ShowsError : ℕ → PoolError → List Seen → Result Entry AllocError → Type 0
ShowsError line pooling.OutOfMemory returned result = IsErr result
ShowsError line e returned result = result ≡ Ok (unserved_entry line e returned)

-- no connection was handed out
abbrev pub ShowsUnserved : ℕ → PoolRefusal → List Seen → Result Entry AllocError → Type 0
ShowsUnserved line (refusals.Error e) returned result = ShowsError line e returned result
ShowsUnserved line _ returned result = result ≡ Ok (entry_without line words.Get None replies.NoneFree)

-- the errors of a deed: a text is refused by its server or stopped by its NUL, and a size of the cache has none; want of memory
-- is no reply
abbrev pub IsErrorOf : Deed → Error → Type 0
IsErrorOf (deeds.Batch text) e = IsTextError text e
IsErrorOf (deeds.CacheSize size) e = ⊥
IsErrorOf _ e = e ≢ OutOfMemory

-- the call of a query, where the deed is one
abbrev pub call_of : Deed → Option QueryCall
call_of (deeds.Query call n) = Some call
call_of _ = None

-- it loads all rows
abbrev pub loads_all : Option QueryCall → Bool
loads_all (Some Load) = true
loads_all (Some Each) = true
loads_all _ = false

-- it loads the first row
abbrev pub loads_first : Option QueryCall → Bool
loads_first (Some One) = true
loads_first (Some Optional) = true
loads_first _ = false

-- a reply to a deed: a query's is what its call is made for
abbrev pub IsAnswer : Deed → Reply → Type 0
IsAnswer deed replies.Ok = call_of deed ≡ None
IsAnswer deed (replies.Count n) = call_of deed ≡ Some Exec
IsAnswer deed (replies.Rows rows) = loads_all (call_of deed) ≡ true
IsAnswer deed (replies.OneRow row) = loads_first (call_of deed) ≡ true
IsAnswer deed replies.NoRow = call_of deed ≡ Some Optional
IsAnswer deed (replies.Error e) = IsErrorOf deed e
IsAnswer deed _ = ⊥

-- the reply is the error with which a block closes, which came before
abbrev pub IsBlocks : Deed → Reply → Type 0
IsBlocks (deeds.Close kind (Err e)) reply = reply ≡ replies.Error e
IsBlocks _ reply = ⊥

-- a refusal in the reply was counted, or is the block's; the count never falls
pub record CountsRefusal (deed : Deed) (old new : Seen) (reply : Reply) : Type 0 where
  pub later : old.failures ≤ new.failures
  pub refused : IsRefused reply → Rose old.failures new.failures ⊎ IsBlocks deed reply

-- the answer of a call that counts no rows
abbrev pub done_answer : Answer → Result Reply Error
done_answer (Ok u) = Ok replies.Ok
done_answer (Err e) = Err e

-- the answer of a query, whose value is replied so
abbrev pub query_answer : {A : Type 0} → (A → Reply) → Result A Error → Result Reply Error
query_answer made (Ok x) = Ok (made x)
query_answer made (Err e) = Err e

-- the reply that an answer stands for
abbrev pub answer_reply : Result Reply Error → Reply
answer_reply answer = reply_made (λ r. r) answer

-- the queries of a script, and a deed on a connection, before and after
module _ (honest : Bool) (queries : List Declared) (deed : Deed) (old new : View) where
  -- the connection acted by the deed's process, and answers what the deed may
  pub record IsDone (answer : Result Reply Error) : Type 0 where
    pub acts : Acts honest (process_of old.seen.dialect queries old.status old.cache deed) old.seen new.seen (outcome (answer_reply answer) new.status new.cache)
    pub answers : answer ≢ Err OutOfMemory → IsAnswer deed (answer_reply answer)

  -- the deed was asked: it was done, or the connection answers want of memory and has the same server
  abbrev pub Asks : Result Reply Error → Type 0
  Asks answer = ((answer ≡ Err OutOfMemory) × IsSameServer old.seen new.seen) ⊎ IsDone answer

  -- the deed was answered: the connection acted by its process, and a refusal in the reply was counted
  pub record Replies (reply : Reply) : Type 0 where
    pub acts : Acts honest (process_of old.seen.dialect queries old.status old.cache deed) old.seen new.seen (outcome reply new.status new.cache)
    pub answer : IsAnswer deed reply
    pub counted : CountsRefusal deed old.seen new.seen reply

  -- the connection did what the deed asks, or answers want of memory; it still has the same server
  pub record Does (result : Result Reply AllocError) : Type 0 where
    pub same : IsSameServer old.seen new.seen
    pub later : old.seen.failures ≤ new.seen.failures
    pub answered : IfOk result Replies

-- a deed on the connection at a place, where there is one
abbrev pub ActsIn : Bool → List Declared → Deed → Option View → Option View → Option (Result Reply AllocError) → Type 0
ActsIn honest queries deed None new result = (new ≡ None) × (result ≡ None)
ActsIn honest queries deed (Some v) (Some w) (Some r) = Does honest queries deed v w r
ActsIn honest queries deed (Some v) _ _ = ⊥
