use Rattle.std.proofs.Common.{◌≡◌, ◌<◌, Bool, length, arith, ap, sym, ◌∙◌, refl, subst}
use Rattle.std.specs.Prelude.{if◌then◌else◌}
use Rattle.std.proofs.lemmas.Option.{slice_get_read, slice_get_within}
use Rattle.conn_cache.specs.declared.entry.Due.TheVariants.{Found, Clash}
use Rattle.conn_model.specs.Caches.{Cache}
use Rattle.conn_cache.specs.Registers.{due_at, place_from}
use Rattle.conn_cache.proofs.Indexing.{found_due, found_entry}
use Rattle.conn_cache.proofs.statement_cache.StatementCache.due.Goals as goal

pub index-requires : goal.index-requires
index-requires g c =
    let es = c.self.inside.entries.items in
    let found = found_entry c.args.key.now c.in-Some.place es c.self.inside.table c.self.invariant.1 (cc) in
    let within = slice_get_within es c.in-Some.place found.entry found.stands in
    omega (arith, within, c.self.inside.entries.ok)

pub returns-in-Some-clause-due : goal.returns-in-Some-clause-due
returns-in-Some-clause-due g c =
    let es = c.self.inside.entries.items in
    let q = g.Q.Query.view c.args.source.now in
    let place = c.in-Some.place in
    let found = found_entry c.args.key.now place es c.self.inside.table c.self.invariant.1 (cc) in
    let at = slice_get_read es (length es) place c.index.result.now refl (slice_get_within es place found.entry found.stands) c.index.ensures in
    subst (λ (v : Cache g.row.T.Denot). Found place ≡ due_at q c.args.types.now v.register.counter (place_from c.args.key.now 0 v.register.entries)) c.self.view_is
    (sym (found_due q c.args.types.now c.self.inside.counter c.args.key.now place es c.index.result.now found at c.is_entry_of.result c.is_entry_of.ensures ∙ ap (λ (b : Bool). if b then Found place else Clash) c.if-is_entry_of.true))

pub returns-in-Some-clause-within : goal.returns-in-Some-clause-within
returns-in-Some-clause-within g c =
    let es = c.self.inside.entries.items in
    let found = found_entry c.args.key.now c.in-Some.place es c.self.inside.table c.self.invariant.1 (cc) in
    let within = slice_get_within es c.in-Some.place found.entry found.stands in
    subst (λ (v : Cache g.row.T.Denot). c.in-Some.place < length v.statements) c.self.view_is (omega (arith, within, c.self.invariant.0))

pub returns-in-Some-2-clause-due : goal.returns-in-Some-2-clause-due
returns-in-Some-2-clause-due g c =
    let es = c.self.inside.entries.items in
    let q = g.Q.Query.view c.args.source.now in
    let place = c.in-Some.place in
    let found = found_entry c.args.key.now place es c.self.inside.table c.self.invariant.1 (cc) in
    let at = slice_get_read es (length es) place c.index.result.now refl (slice_get_within es place found.entry found.stands) c.index.ensures in
    subst (λ (v : Cache g.row.T.Denot). Clash ≡ due_at q c.args.types.now v.register.counter (place_from c.args.key.now 0 v.register.entries)) c.self.view_is
    (sym (found_due q c.args.types.now c.self.inside.counter c.args.key.now place es c.index.result.now found at c.is_entry_of.result c.is_entry_of.ensures ∙ ap (λ (b : Bool). if b then Found place else Clash) c.if-is_entry_of.false))
