use Rattle.std.proofs.Common.{◌≡◌, List, Option, ap, ◌∙◌}
use Rattle.conn_manager.specs.Views.{View}
use Rattle.conn_pool.specs.SlotViews.{PoolView, empty_slots}
use Rattle.conn_pool.specs.declared.pooled.PooledConnection.{PooledConnection}
use Rattle.conn_reading.specs.declared.blocks.Block.{Block}
use Rattle.conn_session.specs.Worlds.{Pool, kept_views, new_pool, policy_with, views_of}
use Rattle.conn_session.proofs.Shown.{kept-empty}
use Rattle.conn_session.proofs.session.Session.new.Goals as goal

pub returns : goal.returns
returns g c = λ m.
    let view = g.C.SimpleConnection.view in
    let size = c.args.size in
    let pool : Pool = new_pool m.dialect m.url size (policy_with c.args.customizer c.args.check) c.args.queries in
    let core_is : c.in_ok-core.core ≡ record { slots = empty_slots size; max_size = size } = c.in_ok-core.ensures.slots in
    ap (λ (x : PoolView _). record pool { size = x.max_size; slots = kept_views view x.slots; out = views_of view c.new-2.result.items; blocks = c.new-3.result }) core_is
    ∙ ap (λ (slots : List (Option View)). record pool { slots = slots; out = views_of view c.new-2.result.items; blocks = c.new-3.result }) (kept-empty view size)
    ∙ ap (λ (out : List (Option (PooledConnection _))). record pool { out = views_of view out; blocks = c.new-3.result }) c.new-2.ensures.items
    ∙ ap (λ (blocks : List Block). record pool { blocks = blocks }) c.new-3.ensures
