use Rattle.std.proofs.Common.{◌≡◌, drop}
use Rattle.std.specs.List.{find}
use Rattle.std.specs.Str.{bytes_eq}
use Rattle.conn_script.specs.Spelling.{kind_text, all_kinds, kind_named}
use Rattle.conn_script.proofs.kinds.kind_of.Given as goal

-- the kinds that are left have the one of this name
abbrev pub invariant-loop-kind : goal.invariant-loop-kind
invariant-loop-kind l = find (λ k. bytes_eq l.name (kind_text k)) (drop l.kind-index all_kinds) ≡ kind_named l.name
