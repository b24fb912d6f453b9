-- Which requests may come behind others: the open blocks, all on one connection, and the number of
-- those that ask for rows.
use Rattle.std.specs.Prelude.{ℕ, ◌+◌, ◌-◌, ◌==◌, ◌&&◌, ◌||◌, not, Bool, true, false, nat_lt, if◌then◌else◌}
use Rattle.conn_model.specs.declared.item.Dialect.{Dialect}
use Rattle.conn_model.specs.declared.item.Dialect.TheVariants.{Pg}
use Rattle.conn_model.specs.Beginnings.{form_dialect}
use Rattle.conn_model.specs.Dialects.{is_dialect}
use Rattle.conn_script.specs.declared.command.BlockKind.TheVariants.{Form}
use Rattle.conn_script.specs.declared.command.QueryCall.TheVariants.{Load, Each, One, Optional}
use Rattle.conn_script.specs.declared.request.Request.{Request}
use Rattle.conn_script.specs.declared.request.Request.TheVariants.{On}
use Rattle.conn_script.specs.declared.request.Verb.TheVariants.{Batch, Query, Cache, Ping, Block, End, Fail}

-- it closes a block
abbrev pub closes_block : Request → Bool
closes_block (On c End) = true
closes_block (On c Fail) = true
closes_block _ = false

-- it opens or closes a block
abbrev pub bounds_block : Request → Bool
bounds_block (On c (Block kind)) = true
bounds_block request = closes_block request

-- it may come inside of this many blocks, all on this connection: it names it, and opens a block
-- only where fewer than 64 are open
abbrev pub may_stand_inside : ℕ → ℕ → Request → Bool
may_stand_inside blocks inside (On c (Batch text)) = c == inside
may_stand_inside blocks inside (On c (Query call query)) = c == inside
may_stand_inside blocks inside (On c (Cache size)) = c == inside
may_stand_inside blocks inside (On c Ping) = c == inside
may_stand_inside blocks inside (On c (Block kind)) = c == inside && nat_lt blocks 64
may_stand_inside blocks inside (On c End) = c == inside
may_stand_inside blocks inside (On c Fail) = c == inside
may_stand_inside blocks inside _ = false

-- it may come where this many blocks are open, all on this connection
abbrev pub may_stand : ℕ → ℕ → Request → Bool
may_stand blocks inside request =
    if blocks == 0 then not (closes_block request) else may_stand_inside blocks inside request

-- how many blocks are open behind it
abbrev pub blocks_behind : ℕ → Request → ℕ
blocks_behind blocks (On c (Block kind)) = blocks + 1
blocks_behind blocks (On c End) = blocks - 1
blocks_behind blocks (On c Fail) = blocks - 1
blocks_behind blocks _ = blocks

-- the connection that they name
abbrev pub inside_behind : ℕ → Request → ℕ
inside_behind inside (On c (Block kind)) = c
inside_behind inside _ = inside

-- it asks for rows
abbrev pub loads_rows : Request → Bool
loads_rows (On c (Query Load query)) = true
loads_rows (On c (Query Each query)) = true
loads_rows (On c (Query One query)) = true
loads_rows (On c (Query Optional query)) = true
loads_rows _ = false

-- it may come behind so many that ask for rows, of which a script has at most 65,536
abbrev pub may_load : ℕ → Request → Bool
may_load loads request = not (loads_rows request) || nat_lt loads 65536

-- how many ask for rows with it
abbrev pub loads_behind : ℕ → Request → ℕ
loads_behind loads request = if loads_rows request then loads + 1 else loads

-- servers of this dialect can be asked it: PostgreSQL alone gives rows one by one, and a text that
-- begins a block is one dialect's
abbrev pub fits_dialect : Dialect → Request → Bool
fits_dialect dialect (On c (Query Each query)) = is_dialect dialect Pg
fits_dialect dialect (On c (Block (Form form))) = is_dialect dialect (form_dialect form)
fits_dialect dialect _ = true
