-- Results whose value may be missing.
use Rattle.std.specs.Prelude.{Option, Some, None, Result, Ok, Err}
use Rattle.conn_result.specs.declared.error.Error.{Error}
use Rattle.conn_result.specs.declared.error.Error.TheVariants.{NotFound, QueryBuilderError}
use Rattle.conn_result.specs.declared.error.BuildFault.TheVariants.{EmptyChangeset}

-- none where nothing was found; every other answer as it is
abbrev pub optional : {T : Type 0} → Result T Error → Result (Option T) Error
optional (Ok value) = Ok (Some value)
optional (Err NotFound) = Ok None
optional (Err e) = Err e

-- none where an update sets no column; every other answer as it is
abbrev pub optional_empty_changeset : {T : Type 0} → Result T Error → Result (Option T) Error
optional_empty_changeset (Ok value) = Ok (Some value)
optional_empty_changeset (Err (QueryBuilderError EmptyChangeset)) = Ok None
optional_empty_changeset (Err e) = Err e
