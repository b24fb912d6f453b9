-- What a check-in of the pool's core is to a session: `put`.
use Rattle.std.proofs.Common.{◌≡◌, ℕ, ◌<◌, ◌≤◌, Bool, true, false, not, List, [], ◌∷◌, ◌++◌, length, Option, Some, None, Ok, refl, sym, ap, subst, ◌∙◌, arith}
use Rattle.std.specs.Prelude.{slice_set}
use Rattle.std.specs.Option.{option_map}
use Rattle.std.proofs.lemmas.List.{length-map}
use Rattle.conn_manager.specs.Views.{View}
use Rattle.conn_pool.specs.Checkouts.{ChecksIn}
use Rattle.conn_pool.specs.Managers.{ClosesManaged, Managed}
use Rattle.conn_pool.specs.SlotViews.{GivesBack, PoolView, kept_view}
use Rattle.conn_pool.specs.declared.pooled.PooledConnection.{PooledConnection}
use Rattle.conn_reading.specs.Asking.{Policy}
use Rattle.conn_reading.specs.Seats.{at_number, entry_on, entry_without}
use Rattle.conn_reading.specs.declared.blocks.Block.{Block}
use Rattle.conn_report.specs.declared.entry.Entry.{Entry}
use Rattle.conn_report.specs.declared.entry.Reply.TheVariants as replies
use Rattle.conn_script.specs.declared.command.Word.TheVariants as words
use Rattle.conn_script.specs.declared.query.Declared.{Declared}
use Rattle.conn_script.specs.declared.request.Request.TheVariants.{Put}
use Rattle.conn_server.specs.Connected.{takes_back}
use Rattle.conn_session.specs.Responses.{seat_of}
use Rattle.conn_session.specs.Steps.{Steps}
use Rattle.conn_session.specs.Transfers.{gives_slot, puts_out}
use Rattle.conn_session.specs.Worlds.{World, Invariant, kept_views, views_of}
use Rattle.conn_session.proofs.Checkouts.{world_from}
use Rattle.conn_session.proofs.Moving.{room_is_there, slot_is_out, vacant_same}
use Rattle.conn_session.proofs.Puts.{put_absent, put_closed, put_kept}
use Rattle.conn_session.proofs.Shown.{kept-last, views-set}

module _ {M C : Type 0} (at : M → Managed) (view : C → View) (honest : Bool) (line n : ℕ) (core : PoolView C) (old : M) (out : List (Option (PooledConnection C))) (blocks : List Block) (queries : List Declared) (policy : Policy)
    (holds : Invariant (world_from view core out blocks queries policy (at old))) where
  abbrev start : World
  start = world_from view core out blocks queries policy (at old)

  -- the session without the connection
  abbrev left : List (Option (PooledConnection C))
  left = slice_set out n None

  left_views : views_of view left ≡ slice_set (views_of view out) n None
  left_views = views-set view out n None

  -- the connection isn't out
  pub back_absent : (entry : Entry) → at_number n (views_of view out) ≡ None → entry ≡ entry_without line words.Put (Some n) replies.NotOut → Steps honest line (Put n) start (world_from view core left blocks queries policy (at old)) (Ok entry)
  back_absent entry none entry_is =
      subst (λ (x : World). Steps honest line (Put n) start x (Ok entry)) (sym (ap (λ (l : List (Option View)). record start { pool = record start.pool { out = l } }) left_views ∙ ap (λ p. record start { pool = p }) (vacant_same start.pool n none)))
      (put_absent honest line n start entry none entry_is holds)

  module _ (p : PooledConnection C) (there : at_number n (views_of view out) ≡ Some (view p.connection)) where
    abbrev v : View
    v = view p.connection

    -- its slot isn't in the pool, and its server has room
    pub back_out : length core.slots < core.max_size
    back_out = omega (arith, slot_is_out start n v (puts_out n None start.pool) there refl holds, length-map core.slots (λ s. option_map view s.kept))

    pub back_room : 1 ≤ (at old).connector.room
    back_room = room_is_there start n v there holds

    module _ (core' : PoolView C) (new : M) (entry : Entry) where
      -- the slot is at the back, with what it keeps
      back_pool : (kept : Option View) → GivesBack view core core' p.slot kept → (m : Managed) → world_from view core' left blocks queries policy m
          ≡ record { pool = record (gives_slot kept (puts_out n None start.pool)) { dialect = m.dialect; url = m.url }; connector = m.connector }
      back_pool kept g m =
          ap (λ (c : PoolView C). world_from view c left blocks queries policy m) g.pool_is
          ∙ ap (λ (l : List (Option View)). record (world_from view core left blocks queries policy m) { pool = record (world_from view core left blocks queries policy m).pool { slots = l } }) (kept-last view core.slots g.slot ∙ ap (λ (o : Option View). kept_views view core.slots ++ o ∷ []) g.kept_is)
          ∙ ap (λ (l : List (Option View)). record (world_from view core left blocks queries policy m) { pool = record (world_from view core left blocks queries policy m).pool { slots = kept_views view core.slots ++ kept ∷ []; out = l } }) left_views

      -- it is kept
      pub back_kept : ChecksIn (λ (a b : M). ClosesManaged (at a) (at b)) (λ (a b : M). at b ≡ at a) old new v true → GivesBack view core core' p.slot (kept_view v true) → entry ≡ entry_on line words.Put replies.Kept (seat_of v)
          → Steps honest line (Put n) start (world_from view core' left blocks queries policy (at new)) (Ok entry)
      back_kept h g entry_is =
          subst (λ (x : World). Steps honest line (Put n) start x (Ok entry)) (sym (back_pool (Some v) g (at new) ∙ ap (λ (m : Managed). record { pool = record (gives_slot (Some v) (puts_out n None start.pool)) { dialect = m.dialect; url = m.url }; connector = m.connector }) h.1))
          (put_kept honest line n start entry v there (ap not h.0) entry_is holds)

      -- it is closed
      pub back_closed : ChecksIn (λ (a b : M). ClosesManaged (at a) (at b)) (λ (a b : M). at b ≡ at a) old new v false → GivesBack view core core' p.slot (kept_view v false) → entry ≡ entry_on line words.Put replies.Closed (seat_of v)
          → Steps honest line (Put n) start (world_from view core' left blocks queries policy (at new)) (Ok entry)
      back_closed h g entry_is =
          let shut : at new ≡ record (at old) { connector = takes_back v.seen (at old).connector } = h.1.closed ∙ ap (λ (m : Managed). record m { connector = takes_back v.seen m.connector }) h.1.looked in
          subst (λ (x : World). Steps honest line (Put n) start x (Ok entry)) (sym (back_pool None g (at new) ∙ ap (λ (m : Managed). record { pool = record (gives_slot None (puts_out n None start.pool)) { dialect = m.dialect; url = m.url }; connector = m.connector }) shut))
          (put_closed honest line n start entry v there (ap not h.0) entry_is holds)
