-- Where the first NUL of a text stands, and for which dialects no text with one is sent.
use Rattle.std.specs.Prelude.{ℕ, nat_eq, List, Option, Some, None}
use Rattle.std.specs.List.{position_from}
use Rattle.conn_model.specs.declared.item.Dialect.{Dialect}
use Rattle.conn_model.specs.declared.item.Dialect.TheVariants.{Pg, Mysql, Sqlite}

-- the place of the first NUL, from 0
abbrev pub nul_place : List ℕ → Option ℕ
nul_place text = position_from (λ (b : ℕ). nat_eq b 0) 0 text

-- by the text first, since a text without NUL is one for every dialect
abbrev pub fault_at : Dialect → Option ℕ → Option ℕ
fault_at d None = None
fault_at Pg (Some place) = Some place
fault_at Mysql (Some place) = None
fault_at Sqlite (Some place) = Some place

-- the place of the NUL for which a text isn't sent; MySQL is sent every text
abbrev pub nul_fault : Dialect → List ℕ → Option ℕ
nul_fault d text = fault_at d (nul_place text)
