-- Which dialect one is.
use Rattle.std.specs.Prelude.{Bool, true, false}
use Rattle.conn_model.specs.declared.item.Dialect.{Dialect}
use Rattle.conn_model.specs.declared.item.Dialect.TheVariants.{Pg, Mysql, Sqlite}

-- these are one dialect
abbrev pub is_dialect : Dialect → Dialect → Bool
is_dialect Pg Pg = true
is_dialect Mysql Mysql = true
is_dialect Sqlite Sqlite = true
is_dialect _ _ = false
