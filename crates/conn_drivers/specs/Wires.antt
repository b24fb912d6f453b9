-- What is asked on a wire, without events, and what is made of what is heard.
use Rattle.std.specs.Prelude.{◌≡◌, ◌+◌, ◌*◌, ◌≤◌, ℕ, Bool, List, length, Some, None, Result, MatchResult}
use Rattle.conn_result.specs.declared.error.Error.{Error}
use Rattle.conn_model.specs.Acts.{Acts, IsSameServer}
use Rattle.conn_model.specs.Process.{Process, Heard, hear}
use Rattle.conn_model.specs.Statements.{source_text, without_open}
use Rattle.conn_model.specs.Seen.{Seen, Opened}
use Rattle.conn_model.specs.declared.item.Call.{Call}
use Rattle.conn_model.specs.declared.item.Call.TheVariants.{Prepare}
use Rattle.conn_model.specs.declared.item.Dialect.{Dialect}
use Rattle.conn_model.specs.declared.reply.RunSource.TheVariants.{Prepared}
use Rattle.conn_manager.specs.Manages.{Done, Reply, ask, HasServerCause}
use Rattle.conn_manager.specs.Setups.{run_ready, setup_texts, execute_texts}
use Rattle.conn_manager.specs.Statuses.{Status, reply_of, retold}

-- one call was heard, the answer is made of that, and the status follows
pub record HearsBy {T : Type 0} (made : Heard → T) (honest : Bool) (call : Call) (text : List ℕ) (old new : Seen) (s s1 : Status) (answer : T) : Type 0 where
  pub heard : Heard
  pub acts : Acts honest (hear call text) old new heard
  pub replies : answer ≡ made heard
  pub follows : s1 ≡ retold old.dialect heard.refusal heard.told s

-- by its refusal alone
abbrev pub Hears : Bool → Call → List ℕ → Seen → Seen → Status → Status → Reply → Type 0
Hears honest call text old new s s1 reply = HearsBy (λ (h : Heard). reply_of h.refusal) honest call text old new s s1 reply

-- a statement of this text was opened: it can be run, and once it is closed those are open that were before
pub record OpensStatement (text : List ℕ) (old new : List Opened) (statement : ℕ) : Type 0 where
  pub runs : source_text new (Prepared statement) ≡ Some text
  pub shuts : without_open statement new ≡ old

-- an accepted prepare opens a statement, a refused one none
abbrev pub OpensIf : List ℕ → List Opened → List Opened → Result ℕ Error → Type 0
OpensIf text old new result = MatchResult result (OpensStatement text old new) (λ _. new ≡ old)

-- there is room to execute so many texts of at most 64 bytes
pub record HasRoomFor (texts : ℕ) (s : Seen) : Type 0 where
  pub items : 3 * texts ≤ s.item_room
  pub bytes : 128 * texts ≤ s.byte_room

-- what asks something by a text, and goes on by a reply and a status
abbrev pub Asking : Type 0
Asking = Dialect → List ℕ → Status → (Reply → Status → Process Done) → Process Done

-- a text is prepared and run, without binds
abbrev pub prepare_text : Asking
prepare_text d text s next = ask d (Prepare None) text s (λ h s1. run_ready d text h.refusal s1 next)

-- it was asked, whatever follows by this reply and status; a refusal was counted, and no statement is left open
pub record Asks (honest : Bool) (asking : Asking) (text : List ℕ) (old new : Seen) (s s1 : Status) (reply : Reply) : Type 0 where
  pub then : (next : Reply → Status → Process Done) (last : Seen) (a : Done) → Acts honest (next reply s1) new last a → Acts honest (asking old.dialect text s next) old last a
  pub same : IsSameServer old new
  pub cause : HasServerCause old new reply
  pub shut : new.open_statements ≡ old.open_statements
  pub items : old.item_room ≤ new.item_room + 3
  pub bytes : old.byte_room ≤ new.byte_room + 2 * length text

-- these texts were executed, up to the first that was refused; a refusal was counted, and no statement is left open
pub record Executes (honest : Bool) (texts : List (List ℕ)) (old new : Seen) (s : Status) (a : Done) : Type 0 where
  pub acts : Acts honest (execute_texts old.dialect texts s) old new a
  pub cause : HasServerCause old new a.reply
  pub shut : new.open_statements ≡ old.open_statements

-- so were the texts of a setup
abbrev pub IsSetUp : Bool → Seen → Seen → Status → Done → Type 0
IsSetUp honest old new s a = Executes honest (setup_texts old.dialect) old new s a
