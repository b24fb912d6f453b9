-- The text of a report. Every line ends with a line feed.
use Rattle.std.specs.Prelude.{ℕ, ◌+◌, Bool, true, false, List, [], ◌∷◌, ◌++◌, length, map, Option, Some, None, codes, decimal}
use Rattle.std.specs.Fmt.{signed_decimal}
use Rattle.std.specs.List.{flat_map, join_with_byte}
use Rattle.hex.specs.Hex.{encode_lower}
use Rattle.conn_model.specs.declared.value.Value.{Value}
use Rattle.conn_model.specs.declared.value.Value.TheVariants as values
use Rattle.conn_result.specs.declared.error.BuildFault.{BuildFault}
use Rattle.conn_result.specs.declared.error.BuildFault.TheVariants as build
use Rattle.conn_result.specs.declared.error.RowFault.{RowFault}
use Rattle.conn_result.specs.declared.error.RowFault.TheVariants as rows
use Rattle.conn_result.specs.declared.error.UrlFault.{UrlFault}
use Rattle.conn_result.specs.declared.error.UrlFault.TheVariants as urls
use Rattle.conn_result.specs.declared.error.FlatError.{FlatError}
use Rattle.conn_result.specs.declared.error.FlatError.TheVariants as flat
use Rattle.conn_result.specs.declared.error.Error.{Error}
use Rattle.conn_result.specs.declared.error.Error.TheVariants as errors
use Rattle.conn_result.specs.declared.error.ConnectionError.{ConnectionError}
use Rattle.conn_result.specs.declared.error.ConnectionError.TheVariants as connecting
use Rattle.conn_result.specs.declared.pool.Error.{Error as PoolFault}
use Rattle.conn_result.specs.declared.pool.Error.TheVariants as pooling
use Rattle.conn_manager.specs.declared.status.InTransactionStatus.{InTransactionStatus}
use Rattle.conn_manager.specs.declared.status.TransactionManagerStatus.{TransactionManagerStatus}
use Rattle.conn_manager.specs.declared.status.TransactionManagerStatus.TheVariants.{Valid, InError}
use Rattle.conn_script.specs.Spelling.{kind_text, word_text}
use Rattle.conn_report.specs.declared.entry.Entry.{Entry}
use Rattle.conn_report.specs.declared.entry.Reply.{Reply}
use Rattle.conn_report.specs.declared.entry.Reply.TheVariants as replies

-- words where a test holds, and else nothing
abbrev pub words_if : Bool → List ℕ → List ℕ
words_if true text = text
words_if false text = []

-- a transaction: its depth, and whether it is flagged and a test's
abbrev pub depth_text : InTransactionStatus → List ℕ
depth_text t =
    codes "depth " ++ decimal t.transaction_depth
    ++ words_if t.requires_rollback_maybe_up_to_top_level (codes " flagged")
    ++ words_if t.test_transaction (codes " test")

-- the transaction, or that there is none
abbrev pub transaction_text : Option InTransactionStatus → List ℕ
transaction_text None = codes "none"
transaction_text (Some t) = depth_text t

-- what is tracked of a connection's transaction
abbrev pub status_text : TransactionManagerStatus → List ℕ
status_text (Valid v) = transaction_text v.in_transaction
status_text InError = codes "broken"

-- why a query has no text to send
abbrev pub build_text : BuildFault → List ℕ
build_text build.EmptyQuery = codes "EmptyQuery"
build_text build.EmptyChangeset = codes "EmptyChangeset"

-- why a row could not be read; columns count from 0
abbrev pub row_fault_text : RowFault → List ℕ
row_fault_text (rows.UnexpectedNull column) = codes "UnexpectedNull " ++ decimal column
row_fault_text rows.UnexpectedEndOfRow = codes "UnexpectedEndOfRow"
row_fault_text (rows.WrongKind column) = codes "WrongKind " ++ decimal column
row_fault_text rows.NoMetadata = codes "NoMetadata"

-- why a URL is refused
abbrev pub url_fault_text : UrlFault → List ℕ
url_fault_text urls.Unparsable = codes "Unparsable"
url_fault_text urls.Scheme = codes "Scheme"
url_fault_text urls.Segments = codes "Segments"
url_fault_text urls.DatabaseKey = codes "DatabaseKey"
url_fault_text urls.TlsKey = codes "TlsKey"
url_fault_text urls.NotUtf8 = codes "NotUtf8"

-- an error as a part of another: the variant's name, then its content
abbrev pub flat_error_text : FlatError → List ℕ
flat_error_text (flat.InvalidCString place) = codes "InvalidCString " ++ decimal place
flat_error_text (flat.DatabaseError kind code) =
    codes "DatabaseError " ++ kind_text kind ++ codes " " ++ signed_decimal code
flat_error_text flat.NotFound = codes "NotFound"
flat_error_text (flat.QueryBuilderError fault) = codes "QueryBuilderError " ++ build_text fault
flat_error_text (flat.DeserializationError fault) =
    codes "DeserializationError " ++ row_fault_text fault
flat_error_text (flat.SerializationError fault) = codes "SerializationError " ++ decimal fault.place
flat_error_text flat.RollbackTransaction = codes "RollbackTransaction"
flat_error_text flat.AlreadyInTransaction = codes "AlreadyInTransaction"
flat_error_text flat.NotInTransaction = codes "NotInTransaction"
flat_error_text flat.BrokenTransactionManager = codes "BrokenTransactionManager"
flat_error_text flat.IntegerConversion = codes "IntegerConversion"
flat_error_text flat.DepthExhausted = codes "DepthExhausted"
flat_error_text flat.CounterExhausted = codes "CounterExhausted"
flat_error_text flat.QueryIdClash = codes "QueryIdClash"
flat_error_text flat.OutOfMemory = codes "OutOfMemory"

-- an error: the variant's name, then its content; places count from 0
abbrev pub error_text : Error → List ℕ
error_text (errors.InvalidCString place) = codes "InvalidCString " ++ decimal place
error_text (errors.DatabaseError kind code) =
    codes "DatabaseError " ++ kind_text kind ++ codes " " ++ signed_decimal code
error_text errors.NotFound = codes "NotFound"
error_text (errors.QueryBuilderError fault) = codes "QueryBuilderError " ++ build_text fault
error_text (errors.DeserializationError fault) =
    codes "DeserializationError " ++ row_fault_text fault
error_text (errors.SerializationError fault) = codes "SerializationError " ++ decimal fault.place
error_text (errors.RollbackErrorOnCommit rollback commit) =
    codes "RollbackErrorOnCommit rollback " ++ flat_error_text rollback ++ codes " commit "
    ++ flat_error_text commit
error_text errors.RollbackTransaction = codes "RollbackTransaction"
error_text errors.AlreadyInTransaction = codes "AlreadyInTransaction"
error_text errors.NotInTransaction = codes "NotInTransaction"
error_text errors.BrokenTransactionManager = codes "BrokenTransactionManager"
error_text errors.IntegerConversion = codes "IntegerConversion"
error_text errors.DepthExhausted = codes "DepthExhausted"
error_text errors.CounterExhausted = codes "CounterExhausted"
error_text errors.QueryIdClash = codes "QueryIdClash"
error_text errors.OutOfMemory = codes "OutOfMemory"

-- why no connection was opened: the variant's name, then its content, without the number of the
-- server
abbrev pub connection_error_text : ConnectionError → List ℕ
connection_error_text (connecting.InvalidCString place) = codes "InvalidCString " ++ decimal place
connection_error_text (connecting.BadConnection code) =
    codes "BadConnection " ++ signed_decimal code
connection_error_text (connecting.InvalidConnectionUrl fault) =
    codes "InvalidConnectionUrl " ++ url_fault_text fault
connection_error_text (connecting.CouldntSetupConfiguration error number) =
    codes "CouldntSetupConfiguration " ++ error_text error
connection_error_text connecting.OutOfMemory = codes "OutOfMemory"

-- why no connection was handed out: the variant's name, then its content, without the number of the
-- connection that was closed
abbrev pub pool_error_text : PoolFault → List ℕ
pool_error_text (pooling.ConnectionError error) = codes "ConnectionError " ++ connection_error_text error
pool_error_text (pooling.QueryError error number) = codes "QueryError " ++ error_text error
pool_error_text (pooling.LeftOpen number) = codes "LeftOpen"
pool_error_text pooling.OutOfMemory = codes "OutOfMemory"

-- a value as scripts write it, a text as it stands
abbrev pub value_text : Value → List ℕ
value_text values.Null = codes "null"
value_text (values.Int n) = codes "int:" ++ signed_decimal n
value_text (values.Text text) = codes "text:" ++ text
value_text (values.Bytes bytes) = codes "bytes:" ++ encode_lower bytes

-- a row: its values with commas between them
abbrev pub row_text : List Value → List ℕ
row_text row = codes "(" ++ join_with_byte 44 (map value_text row) ++ codes ")"

-- rows, one right behind the other
abbrev pub rows_text : List (List Value) → List ℕ
rows_text [] = codes "rows"
rows_text (row ∷ rows) = codes "rows " ++ flat_map row_text (row ∷ rows)

-- the reply to a command
abbrev pub reply_text : Reply → List ℕ
reply_text replies.Ok = codes "ok"
reply_text replies.Kept = codes "kept"
reply_text replies.Closed = codes "closed"
reply_text (replies.Count n) = codes "count " ++ decimal n
reply_text (replies.Rows rows) = rows_text rows
reply_text (replies.OneRow row) = codes "row " ++ row_text row
reply_text replies.NoRow = codes "none"
reply_text replies.NotOut = codes "notout"
reply_text replies.NoneFree = codes "nonefree"
reply_text replies.Skipped = codes "skipped"
reply_text (replies.Error error) = codes "error " ++ error_text error
reply_text (replies.Pool error) = codes "poolerror " ++ pool_error_text error

-- what there is, or a dash
abbrev pub or_dash : {X : Type 0} → (X → List ℕ) → Option X → List ℕ
or_dash text None = codes "-"
or_dash text (Some x) = text x

-- the script's line, the command's word and the connection
abbrev pub entry_head : Entry → List ℕ
entry_head e =
    decimal e.line ++ codes " " ++ word_text e.word ++ codes " " ++ or_dash decimal e.connection

-- the status and the mark
abbrev pub entry_end : Entry → List ℕ
entry_end e =
    codes " | " ++ or_dash status_text e.status ++ codes " | " ++ or_dash decimal e.mark
    ++ codes "\n"

-- one line for an entry
abbrev pub entry_line : Entry → List ℕ
entry_line e = entry_head e ++ codes " | " ++ reply_text e.reply ++ entry_end e

-- one line for a committed write
abbrev pub write_line : List ℕ → List ℕ
write_line text = codes "write " ++ text ++ codes "\n"

-- the server of this number, with its committed writes where they are told
abbrev pub server_lines : ℕ → Option (List (List ℕ)) → List ℕ
server_lines n None = codes "server " ++ decimal n ++ codes " untold\n"
server_lines n (Some writes) =
    codes "server " ++ decimal n ++ codes " " ++ decimal (length writes) ++ codes "\n"
    ++ flat_map write_line writes

-- the servers, of which the first has this number
abbrev pub servers_lines : ℕ → List (Option (List (List ℕ))) → List ℕ
servers_lines n [] = []
servers_lines n (writes ∷ servers) = server_lines n writes ++ servers_lines (n + 1) servers

-- how many entries and servers there are
abbrev pub last_line : ℕ → ℕ → List ℕ
last_line entries servers =
    codes "done " ++ decimal entries ++ codes " " ++ decimal servers ++ codes "\n"

-- the report: a line for each entry, then each server with its writes, then the counts
abbrev pub report : List Entry → List (Option (List (List ℕ))) → List ℕ
report entries servers =
    flat_map entry_line entries ++ servers_lines 0 servers
    ++ last_line (length entries) (length servers)
