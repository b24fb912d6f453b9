-- How the first words of commands, and the kinds of refusals, are spelled.
use Rattle.std.specs.Prelude.{ℕ, List, [], ◌∷◌, Option, codes}
use Rattle.std.specs.List.{find}
use Rattle.std.specs.Str.{bytes_eq}
use Rattle.conn_result.specs.declared.error.DatabaseErrorKind.{DatabaseErrorKind}
use Rattle.conn_result.specs.declared.error.DatabaseErrorKind.TheVariants.{UniqueViolation, ForeignKeyViolation, UnableToSendCommand, SerializationFailure, ReadOnlyTransaction, NotNullViolation, CheckViolation, ClosedConnection, Unknown, RestrictViolation, ExclusionViolation}
use Rattle.conn_script.specs.declared.command.Word.{Word}
use Rattle.conn_script.specs.declared.command.Word.TheVariants.{Get, Put, Batch, Begin, Commit, Rollback, TestBegin, Exec, Load, Each, One, Optional, CacheSize, Ping, Transaction, End, Fail}

-- how a word is spelled
abbrev pub word_text : Word → List ℕ
word_text Get = codes "get"
word_text Put = codes "put"
word_text Batch = codes "batch"
word_text Begin = codes "begin"
word_text Commit = codes "commit"
word_text Rollback = codes "rollback"
word_text TestBegin = codes "testbegin"
word_text Exec = codes "exec"
word_text Load = codes "load"
word_text Each = codes "each"
word_text One = codes "one"
word_text Optional = codes "optional"
word_text CacheSize = codes "cachesize"
word_text Ping = codes "ping"
word_text Transaction = codes "transaction"
word_text End = codes "end"
word_text Fail = codes "fail"

-- all of the words
abbrev pub all_words : List Word
all_words =
    Get ∷ Put ∷ Batch ∷ Begin ∷ Commit ∷ Rollback ∷ TestBegin ∷ Exec ∷ Load ∷ Each ∷ One
    ∷ Optional ∷ CacheSize ∷ Ping ∷ Transaction ∷ End ∷ Fail ∷ []

-- the word that is spelled so
abbrev pub word_named : List ℕ → Option Word
word_named bs = find (λ w. bytes_eq bs (word_text w)) all_words

-- a kind of refusal by its name
abbrev pub kind_text : DatabaseErrorKind → List ℕ
kind_text UniqueViolation = codes "UniqueViolation"
kind_text ForeignKeyViolation = codes "ForeignKeyViolation"
kind_text UnableToSendCommand = codes "UnableToSendCommand"
kind_text SerializationFailure = codes "SerializationFailure"
kind_text ReadOnlyTransaction = codes "ReadOnlyTransaction"
kind_text NotNullViolation = codes "NotNullViolation"
kind_text CheckViolation = codes "CheckViolation"
kind_text ClosedConnection = codes "ClosedConnection"
kind_text Unknown = codes "Unknown"
kind_text RestrictViolation = codes "RestrictViolation"
kind_text ExclusionViolation = codes "ExclusionViolation"

-- all of the kinds
abbrev pub all_kinds : List DatabaseErrorKind
all_kinds =
    UniqueViolation ∷ ForeignKeyViolation ∷ UnableToSendCommand ∷ SerializationFailure
    ∷ ReadOnlyTransaction ∷ NotNullViolation ∷ CheckViolation ∷ ClosedConnection ∷ Unknown
    ∷ RestrictViolation ∷ ExclusionViolation ∷ []

-- the kind of this name
abbrev pub kind_named : List ℕ → Option DatabaseErrorKind
kind_named bs = find (λ k. bytes_eq bs (kind_text k)) all_kinds
