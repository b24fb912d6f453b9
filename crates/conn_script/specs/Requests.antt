-- What a command asks of the pool or of a connection.
use Rattle.conn_script.specs.declared.command.Act.{Act}
use Rattle.conn_script.specs.declared.command.Act.TheVariants as acts
use Rattle.conn_script.specs.declared.command.QueryCall.TheVariants.{Exec, Load, Each, One, Optional}
use Rattle.conn_script.specs.declared.command.Word.{Word}
use Rattle.conn_script.specs.declared.command.Word.TheVariants as words
use Rattle.conn_script.specs.declared.request.Request.{Request}
use Rattle.conn_script.specs.declared.request.Request.TheVariants.{Get, Put, On}
use Rattle.conn_script.specs.declared.request.Verb.{Verb}
use Rattle.conn_script.specs.declared.request.Verb.TheVariants as verbs

-- what it asks, and of whom: the one view of an act
abbrev pub request_of : Act → Request
request_of acts.Get = Get
request_of (acts.Put n) = Put n
request_of (acts.Batch n text) = On n (verbs.Batch text)
request_of (acts.Begin n) = On n verbs.Begin
request_of (acts.Commit n) = On n verbs.Commit
request_of (acts.Rollback n) = On n verbs.Rollback
request_of (acts.TestBegin n) = On n verbs.TestBegin
request_of (acts.Query call n query) = On n (verbs.Query call query)
request_of (acts.Cache n size) = On n (verbs.Cache size)
request_of (acts.Ping n) = On n verbs.Ping
request_of (acts.Block n kind) = On n (verbs.Block kind)
request_of (acts.End n) = On n verbs.End
request_of (acts.Fail n) = On n verbs.Fail

-- the first word of the command with a verb
abbrev pub verb_word : Verb → Word
verb_word (verbs.Batch text) = words.Batch
verb_word verbs.Begin = words.Begin
verb_word verbs.Commit = words.Commit
verb_word verbs.Rollback = words.Rollback
verb_word verbs.TestBegin = words.TestBegin
verb_word (verbs.Query Exec query) = words.Exec
verb_word (verbs.Query Load query) = words.Load
verb_word (verbs.Query Each query) = words.Each
verb_word (verbs.Query One query) = words.One
verb_word (verbs.Query Optional query) = words.Optional
verb_word (verbs.Cache size) = words.CacheSize
verb_word verbs.Ping = words.Ping
verb_word (verbs.Block kind) = words.Transaction
verb_word verbs.End = words.End
verb_word verbs.Fail = words.Fail

-- the first word of a command
abbrev pub request_word : Request → Word
request_word Get = words.Get
request_word (Put n) = words.Put
request_word (On n verb) = verb_word verb
