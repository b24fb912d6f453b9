use Rattle.std.proofs.Common.{◌≡◌, List, [], ◌∷◌, ◌++◌, None, sym, ◌∙◌, arith, subst}
use Rattle.std.proofs.lemmas.Grind.{common_steps}
use Rattle.conn_model.specs.declared.cache.CacheEntry.{CacheEntry}
use Rattle.conn_model.specs.Caches.{Cache}
use Rattle.conn_cache.specs.Registers.{HasPlaces, place_from}
use Rattle.conn_cache.proofs.Indexing.{entry_has_key, indexed_more}
use Rattle.conn_cache.proofs.statement_cache.StatementCache.add.Goals as goal

pub invariant_of-self-2 : goal.invariant_of-self-2
invariant_of-self-2 g c =
    let es = c.self.inside.entries.items in
    let none = subst (λ (v : Cache g.row.T.Denot). place_from c.args.key 0 v.register.entries ≡ None) (sym c.self.view_is) c.requires.new in
    let items : c.push_reserved.new.self.items ≡ es ++ c.in_ok-entry.entry ∷ [] = cc in (
      grind (arith, common_steps, c.self.invariant.0),
      subst (λ (after : List CacheEntry). HasPlaces c.add.new.self after) (sym items)
          (indexed_more c.reserve.new.self c.add.new.self c.args.key es c.in_ok-entry.entry c.len-place.result (entry_has_key (g.Q.Query.view c.args.source.now) c.args.types.now _ c.args.key c.in_ok-entry.entry c.in_ok-entry.ensures.ok c.requires.key) (cc) none
          (λ k. c.in_ok-reserve.ensures.same k ∙ c.self.invariant.1 k) c.add.ensures),
    )
