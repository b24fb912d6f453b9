-- The blocks that are open, innermost first: what a command does by them, and what its reply makes of them.
use Rattle.std.specs.Prelude.{ℕ, ◌==◌, List, [], ◌∷◌, Option, Some, None, Ok, Err, if◌then◌else◌}
use Rattle.conn_result.specs.declared.error.Error.{Error}
use Rattle.conn_result.specs.declared.error.Error.TheVariants.{RollbackTransaction}
use Rattle.conn_manager.specs.Manages.{Reply as Answer}
use Rattle.conn_report.specs.declared.entry.Reply.{Reply}
use Rattle.conn_report.specs.declared.entry.Reply.TheVariants as replies
use Rattle.conn_script.specs.declared.command.BlockKind.{BlockKind}
use Rattle.conn_script.specs.declared.command.BlockKind.TheVariants.{Plain, Test, Form}
use Rattle.conn_script.specs.declared.request.Request.{Request}
use Rattle.conn_script.specs.declared.request.Request.TheVariants.{Get, Put, On}
use Rattle.conn_script.specs.declared.request.Verb.{Verb}
use Rattle.conn_script.specs.declared.request.Verb.TheVariants as verbs
use Rattle.conn_reading.specs.declared.blocks.Block.{Block}
use Rattle.conn_reading.specs.declared.blocks.BlockState.{BlockState}
use Rattle.conn_reading.specs.declared.blocks.BlockState.TheVariants.{Live, Refused, Dead}
use Rattle.conn_reading.specs.declared.deed.Deed.{Deed}
use Rattle.conn_reading.specs.declared.deed.Deed.TheVariants as deeds

-- the innermost block, where it is one of connection n
abbrev pub block_on : ℕ → List Block → Option Block
block_on n [] = None
block_on n (b ∷ bs) = if b.connection == n then Some b else None

-- ---- what a command does

-- how a block begins
abbrev pub opening : BlockKind → Deed
opening Plain = deeds.Begin
opening Test = deeds.Begin
opening (Form form) = deeds.BeginBy form

-- outside of a block, or in one that is live; there is nothing to close
abbrev pub plain_deed : Verb → Option Deed
plain_deed (verbs.Batch text) = Some (deeds.Batch text)
plain_deed verbs.Begin = Some deeds.Begin
plain_deed verbs.Commit = Some deeds.Commit
plain_deed verbs.Rollback = Some deeds.Rollback
plain_deed verbs.TestBegin = Some deeds.TestBegin
plain_deed (verbs.Query call n) = Some (deeds.Query call n)
plain_deed (verbs.Cache size) = Some (deeds.CacheSize size)
plain_deed verbs.Ping = Some deeds.Ping
plain_deed (verbs.Block kind) = Some (opening kind)
plain_deed verbs.End = None
plain_deed verbs.Fail = None

-- nothing is done in a block that isn't live
abbrev pub if_live : BlockState → Option Deed → Option Deed
if_live Live deed = deed
if_live (Refused e) deed = None
if_live Dead deed = None

-- a block closes with this answer, or with the error that a command in it got; one that was never opened isn't closed
abbrev pub closing : BlockKind → BlockState → Answer → Option Deed
closing kind Live answer = Some (deeds.Close kind answer)
closing kind (Refused e) answer = Some (deeds.Close kind (Err e))
closing kind Dead answer = None

-- in a block
abbrev pub deed_in : Block → Verb → Option Deed
deed_in b verbs.End = closing b.kind b.state (Ok tt)
deed_in b verbs.Fail = closing b.kind b.state (Err RollbackTransaction)
deed_in b verb = if_live b.state (plain_deed verb)

-- what a command does by its block, where it stands in one; without a deed it is skipped
abbrev pub deed_of : Option Block → Verb → Option Deed
deed_of None verb = plain_deed verb
deed_of (Some b) verb = deed_in b verb

-- the deed of a command, where `get` asks this one
abbrev pub request_deed : Option Deed → List Block → Request → Option Deed
request_deed get blocks Get = get
request_deed get blocks (Put n) = None
request_deed get blocks (On n verb) = deed_of (block_on n blocks) verb

-- ---- what its reply makes of the blocks

-- a block whose opening had this reply
abbrev pub opening_state : Reply → BlockState
opening_state replies.Ok = Live
opening_state _ = Dead

-- the innermost block is refused, where it is one of connection n
abbrev pub with_refusal : ℕ → Error → List Block → List Block
with_refusal n e [] = []
with_refusal n e (b ∷ bs) = if b.connection == n then record b { state = Refused e } ∷ bs else b ∷ bs

-- an error refuses the block in which it came
abbrev pub blocks_told : ℕ → Reply → List Block → List Block
blocks_told n (replies.Error e) blocks = with_refusal n e blocks
blocks_told n _ blocks = blocks

-- the innermost block is closed, where it is one of connection n
abbrev pub without_block : ℕ → List Block → List Block
without_block n [] = []
without_block n (b ∷ bs) = if b.connection == n then bs else b ∷ bs

-- after a command of connection n with this reply; the lines that open and close a block refuse none around it
abbrev pub blocks_after : ℕ → Verb → Reply → List Block → List Block
blocks_after n (verbs.Block kind) reply blocks = record { connection = n; kind = kind; state = opening_state reply } ∷ blocks
blocks_after n verbs.End reply blocks = without_block n blocks
blocks_after n verbs.Fail reply blocks = without_block n blocks
blocks_after n verb reply blocks = blocks_told n reply blocks

-- after a command; the pool's leave them
abbrev pub request_blocks : Request → Reply → List Block → List Block
request_blocks Get reply blocks = blocks
request_blocks (Put n) reply blocks = blocks
request_blocks (On n verb) reply blocks = blocks_after n verb reply blocks
