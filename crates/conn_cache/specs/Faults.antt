-- Why a query is refused before anything of it is sent.
use Rattle.std.specs.Prelude.{ℕ, min, nat_eq, Bool, true, false, not, ◌||◌, if◌then◌else◌, List, Option, Some, None}
use Rattle.std.specs.List.{list_all, position_from}
use Rattle.std.specs.Option.{option_map, option_or}
use Rattle.conn_result.specs.declared.error.BuildFault.TheVariants.{EmptyChangeset, EmptyQuery}
use Rattle.conn_result.specs.declared.error.Error.{Error}
use Rattle.conn_result.specs.declared.error.Error.TheVariants.{InvalidCString, QueryBuilderError, SerializationError}
use Rattle.conn_model.specs.Binds.{bind_fits}
use Rattle.conn_model.specs.Nuls.{nul_fault}
use Rattle.conn_model.specs.declared.item.Dialect.{Dialect}
use Rattle.conn_model.specs.declared.item.Dialect.TheVariants.{Pg, Mysql, Sqlite}
use Rattle.conn_model.specs.declared.value.Bind.{Bind}
use Rattle.conn_cache.specs.QueryViews.{QueryView}

-- it has nothing to do
abbrev pub changes_fault : Bool → Option Error
changes_fault true = None
changes_fault false = Some (QueryBuilderError EmptyChangeset)

-- the place of the first bind that doesn't fit, from 0
abbrev pub unfit_place : List Bind → Option ℕ
unfit_place binds = position_from (λ (b : Bind). not (bind_fits b)) 0 binds

-- a bind doesn't fit; a place past the end of its type is told as that end
abbrev pub bind_fault : List Bind → Option Error
bind_fault binds = option_map (λ (place : ℕ). SerializationError (record { place = min place 4294967295 })) (unfit_place binds)

-- its text has a NUL
abbrev pub text_fault : Dialect → List ℕ → Option Error
text_fault d sql = option_map InvalidCString (nul_fault d sql)

-- a space, a tab, a line feed, a form feed or a carriage return
abbrev pub is_blank : ℕ → Bool
is_blank b = nat_eq b 32 || nat_eq b 9 || nat_eq b 10 || nat_eq b 12 || nat_eq b 13

-- SQLite has no statement for a text of blanks
abbrev pub blank_fault : Dialect → List ℕ → Option Error
blank_fault Pg sql = None
blank_fault Mysql sql = None
blank_fault Sqlite sql = if list_all is_blank sql then Some (QueryBuilderError EmptyQuery) else None

-- the first fault of a query
abbrev pub query_fault : Dialect → QueryView → Option Error
query_fault d q = option_or (changes_fault q.has_changes) (option_or (bind_fault q.binds) (option_or (text_fault d q.sql) (blank_fault d q.sql)))
