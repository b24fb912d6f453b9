-- A command on a connection, by its deed or skipped, and then what its reply tells the blocks.
use Rattle.std.proofs.Common.{◌≡◌, ℕ, ◌<◌, Bool, true, false, if◌then◌else◌, List, [], ◌∷◌, Option, Some, None, refl, sym, ap, subst, ◌∙◌, arith, Ok, Err, Result, inl, inr}
use Rattle.std.specs.Prelude.{◌==◌, ⊤}
use Rattle.std.specs.List.{AllByRecursion}
use Rattle.std.specs.Option.{option_map}
use Rattle.std.specs.declared.alloc.AllocError.{AllocError}
use Rattle.conn_result.specs.declared.error.Error.{Error}
use Rattle.conn_manager.specs.Manages.{IsRefusal, Reply as Answer}
use Rattle.conn_manager.specs.Views.{View}
use Rattle.conn_reading.specs.Answered.{ServerLogs, Progress, Taken, taken, reads_on, reads_by_deed, reads_deed, skip_entry, with_blocks}
use Rattle.conn_reading.specs.Blocks.{block_on, opening, plain_deed, if_live, closing, deed_in, deed_of, opening_state, with_refusal, blocks_told, without_block, blocks_after}
use Rattle.conn_reading.specs.Seats.{Seat, at_number}
use Rattle.conn_reading.specs.declared.blocks.Block.{Block}
use Rattle.conn_reading.specs.declared.blocks.BlockState.{BlockState}
use Rattle.conn_reading.specs.declared.blocks.BlockState.TheVariants.{Live, Refused, Dead}
use Rattle.conn_reading.specs.declared.deed.Deed.{Deed}
use Rattle.conn_report.specs.declared.entry.Entry.{Entry}
use Rattle.conn_report.specs.declared.entry.Reply.{Reply}
use Rattle.conn_report.specs.declared.entry.Reply.TheVariants as replies
use Rattle.conn_script.specs.declared.command.BlockKind.{BlockKind}
use Rattle.conn_script.specs.declared.command.BlockKind.TheVariants.{Plain, Test, Form}
use Rattle.conn_script.specs.Requests.{verb_word}
use Rattle.conn_script.specs.declared.command.Word.{Word}
use Rattle.conn_script.specs.declared.request.Request.TheVariants.{On}
use Rattle.conn_script.specs.declared.request.Verb.{Verb}
use Rattle.conn_script.specs.declared.request.Verb.TheVariants as verbs
use Rattle.conn_session.specs.Known.{IsKnown, Grows, progress}
use Rattle.conn_session.specs.Plays.{PlaysDeed}
use Rattle.conn_session.specs.Responses.{IsBlocks, IsRefused, seat_of}
use Rattle.conn_session.specs.Steps.{DoesOn, IsCausedState, AreBlocksCaused, KeepsAll, Steps, StepsDeed, AnswersVerb, entry_at}
use Rattle.conn_session.specs.Transfers.{tells_blocks}
use Rattle.conn_session.specs.Worlds.{World, Invariant, context_of, refusals, sum_all}
use Rattle.conn_session.proofs.Counts.{no_cause, blocks_later, later-refl, opening-refl}
use Rattle.conn_session.proofs.Growing.{grows_nothing}
use Rattle.conn_session.proofs.Shown.{seats-at}
use Rattle.conn_session.proofs.Totals

-- ---- a refusal that a block closes with was counted

module _ (counts : ℕ → ℕ) (n : ℕ) (reply : Reply) where
  -- so it is where the deed hands it on
  abbrev HandsOn : Option Deed → Type 0
  HandsOn None = ⊤
  HandsOn (Some deed) = IsBlocks deed reply → IsRefused reply → 0 < counts n

  opening_hands : (kind : BlockKind) → HandsOn (Some (opening kind))
  opening_hands Plain = λ h r. absurd h
  opening_hands Test = λ h r. absurd h
  opening_hands (Form form) = λ h r. absurd h

  plain_hands : (verb : Verb) → HandsOn (plain_deed verb)
  plain_hands (verbs.Batch text) = λ h r. absurd h
  plain_hands verbs.Begin = λ h r. absurd h
  plain_hands verbs.Commit = λ h r. absurd h
  plain_hands verbs.Rollback = λ h r. absurd h
  plain_hands verbs.TestBegin = λ h r. absurd h
  plain_hands (verbs.Query call query) = λ h r. absurd h
  plain_hands (verbs.Cache size) = λ h r. absurd h
  plain_hands verbs.Ping = λ h r. absurd h
  plain_hands (verbs.Block kind) = opening_hands kind
  plain_hands verbs.End = tt
  plain_hands verbs.Fail = tt

  live_hands : (state : BlockState) (verb : Verb) → HandsOn (if_live state (plain_deed verb))
  live_hands Live verb = plain_hands verb
  live_hands (Refused e) verb = tt
  live_hands Dead verb = tt

  refused_hands : (e : Error) → (IsRefusal (Err e) → 0 < counts n) → reply ≡ replies.Error e → IsRefused reply → 0 < counts n
  refused_hands e h same r = h (subst IsRefused same r)

  closing_hands : (b : Block) (answer : Answer) → IsCausedState counts n b.state → ((e : Error) → answer ≡ Err e → IsRefusal (Err e) → ⊥) → HandsOn (closing b.kind b.state answer)
  closing_hands b answer caused own = by_state b.state caused
    where
      live : (answer : Answer) → ((e : Error) → answer ≡ Err e → IsRefusal (Err e) → ⊥) → HandsOn (closing b.kind Live answer)
      live (Ok u) h = λ x r. absurd x
      live (Err e) h = λ same r. absurd (h e refl (subst IsRefused same r))

      by_state : (state : BlockState) → IsCausedState counts n state → HandsOn (closing b.kind state answer)
      by_state Live c = live answer own
      by_state (Refused e) c = refused_hands e c
      by_state Dead c = tt

  deed_in_hands : (b : Block) (verb : Verb) → IsCausedState counts n b.state → HandsOn (deed_in b verb)
  deed_in_hands b verbs.End c = closing_hands b _ c (λ e same r. absurd (cc))
  deed_in_hands b verbs.Fail c = closing_hands b _ c (λ e same r. subst IsRefusal (sym same) r)
  deed_in_hands b (verbs.Batch text) c = live_hands b.state (verbs.Batch text)
  deed_in_hands b verbs.Begin c = live_hands b.state verbs.Begin
  deed_in_hands b verbs.Commit c = live_hands b.state verbs.Commit
  deed_in_hands b verbs.Rollback c = live_hands b.state verbs.Rollback
  deed_in_hands b verbs.TestBegin c = live_hands b.state verbs.TestBegin
  deed_in_hands b (verbs.Query call query) c = live_hands b.state (verbs.Query call query)
  deed_in_hands b (verbs.Cache size) c = live_hands b.state (verbs.Cache size)
  deed_in_hands b verbs.Ping c = live_hands b.state verbs.Ping
  deed_in_hands b (verbs.Block kind) c = live_hands b.state (verbs.Block kind)

  abbrev AllCaused : List Block → Type 0
  AllCaused blocks = AllByRecursion (λ (b : Block). IsCausedState counts b.connection b.state) blocks

  deed_hands : (blocks : List Block) (verb : Verb) → AllCaused blocks → HandsOn (deed_of (block_on n blocks) verb)
  deed_hands [] verb all = plain_hands verb
  deed_hands (b ∷ bs) verb all = by_number (b.connection == n) refl
    where
      by_number : (t : Bool) → (b.connection == n) ≡ t → HandsOn (deed_of (if t then Some b else None) verb)
      by_number false e = plain_hands verb
      by_number true e = deed_in_hands b verb (subst (λ (k : ℕ). IsCausedState counts k b.state) (grind arith) all.0)

  -- ---- and so are those of the blocks that it tells

  opened_caused : (reply : Reply) → IsCausedState counts n (opening_state reply)
  opened_caused replies.Ok = tt
  opened_caused replies.Kept = tt
  opened_caused replies.Closed = tt
  opened_caused replies.NotOut = tt
  opened_caused replies.NoneFree = tt
  opened_caused replies.Skipped = tt
  opened_caused (replies.Count k) = tt
  opened_caused (replies.Rows rows) = tt
  opened_caused (replies.OneRow row) = tt
  opened_caused replies.NoRow = tt
  opened_caused (replies.Error e) = tt
  opened_caused (replies.Pool e) = tt

  without_caused : (blocks : List Block) → AllCaused blocks → AllCaused (without_block n blocks)
  without_caused [] all = tt
  without_caused (b ∷ bs) all = by_number (b.connection == n)
    where
      by_number : (t : Bool) → AllCaused (if t then bs else b ∷ bs)
      by_number true = all.1
      by_number false = all

  refusal_caused : (e : Error) (blocks : List Block) → (IsRefusal (Err e) → 0 < counts n) → AllCaused blocks → AllCaused (with_refusal n e blocks)
  refusal_caused e [] h all = tt
  refusal_caused e (b ∷ bs) h all = by_number (b.connection == n) refl
    where
      by_number : (t : Bool) → (b.connection == n) ≡ t → AllCaused (if t then record b { state = Refused e } ∷ bs else b ∷ bs)
      by_number true same = (subst (λ (k : ℕ). IsRefusal (Err e) → 0 < counts k) (grind arith) h, all.1)
      by_number false same = all

  told_caused : (blocks : List Block) → (IsRefused reply → 0 < counts n) → AllCaused blocks → AllCaused (blocks_told n reply blocks)
  told_caused blocks h all = by_reply reply h
    where
      by_reply : (r : Reply) → (IsRefused r → 0 < counts n) → AllCaused (blocks_told n r blocks)
      by_reply replies.Ok g = all
      by_reply replies.Kept g = all
      by_reply replies.Closed g = all
      by_reply replies.NotOut g = all
      by_reply replies.NoneFree g = all
      by_reply replies.Skipped g = all
      by_reply (replies.Count k) g = all
      by_reply (replies.Rows rows) g = all
      by_reply (replies.OneRow row) g = all
      by_reply replies.NoRow g = all
      by_reply (replies.Error e) g = refusal_caused e blocks g all
      by_reply (replies.Pool e) g = all

  after_caused : (verb : Verb) (blocks : List Block) → (IsRefused reply → 0 < counts n) → AllCaused blocks → AllCaused (blocks_after n verb reply blocks)
  after_caused (verbs.Block kind) blocks h all = (opened_caused reply, all)
  after_caused verbs.End blocks h all = without_caused blocks all
  after_caused verbs.Fail blocks h all = without_caused blocks all
  after_caused (verbs.Batch text) blocks h all = told_caused blocks h all
  after_caused verbs.Begin blocks h all = told_caused blocks h all
  after_caused verbs.Commit blocks h all = told_caused blocks h all
  after_caused verbs.Rollback blocks h all = told_caused blocks h all
  after_caused verbs.TestBegin blocks h all = told_caused blocks h all
  after_caused (verbs.Query call query) blocks h all = told_caused blocks h all
  after_caused (verbs.Cache size) blocks h all = told_caused blocks h all
  after_caused verbs.Ping blocks h all = told_caused blocks h all

-- ---- by its deed

-- a connection that is out has the number of its place
seat_numbered : (w : World) (n : ℕ) (seat : Seat) → at_number n (context_of w).out ≡ Some seat → Invariant w → seat.number ≡ n
seat_numbered w n seat e holds = by_view (at_number n w.pool.out) refl
  where
    by_view : (o : Option View) → at_number n w.pool.out ≡ o → seat.number ≡ n
    by_view None f = let none : at_number n (context_of w).out ≡ None = seats-at w.pool.out n None f in absurd (cc)
    by_view (Some v) f =
        let same : Some (seat_of v) ≡ Some seat = sym (seats-at w.pool.out n (Some v) f) ∙ e in
        omega (arith, ap (λ (o : Option Seat). number_in o) same, Totals.placed-at 0 w.pool.out n v f holds.placed)
      where
        number_in : Option Seat → ℕ
        number_in None = 0
        number_in (Some s) = s.number

-- what is read in another way is read
grows_as : (r s : Progress → ServerLogs → Option Taken) (old new : World) (entry : Entry) → ((logs : ServerLogs) → s (progress old) logs ≡ r (progress old) logs) → Grows r old new entry → Grows s old new entry
grows_as r s old new entry same g = λ logs known.
    let h = g logs known in (
      h.0,
      h.1,
      record {
        anew = h.2.anew;
        whatever_follows = λ all more follows anew. let x = h.2.whatever_follows all more follows anew in (x.0, same all ∙ x.1, x.2);
      },
    )

module _ (honest : Bool) (line n : ℕ) (verb : Verb) (w : World) where
  -- it has a deed, which was done
  pub does_deed : (deed : Deed) (mid : World) (result : Result Entry AllocError) → Some deed ≡ deed_of (block_on n w.pool.blocks) verb → DoesOn honest line n (verb_word verb) deed w mid result → StepsDeed honest line n verb w mid result
  does_deed deed mid (Err e) is does = record {
    steps = record { keeps = does.keeps; plays_entry = tt; caused = λ _. tt; grows = λ _. tt };
    blocks = does.blocks;
    on = tt;
  }
  does_deed deed mid (Ok entry) is does =
      let later = does.keeps.counts in
      let now : ℕ → ℕ = λ m. sum_all (refusals m) mid in
      record {
        steps = record {
          keeps = does.keeps;
          plays_entry = subst (λ (o : Option Deed). PlaysDeed line (verb_word verb) o n (context_of w) entry (context_of mid) (at_number n (context_of w).out)) is does.plays_entry;
          caused = λ all.
              let blocks : AreBlocksCaused mid = blocks_later w mid does.blocks later all in
              let hands : HandsOn now n entry.reply (Some deed) = subst (HandsOn now n entry.reply) (sym is) (deed_hands now n entry.reply w.pool.blocks verb (subst (λ (bs : List Block). AllCaused now n entry.reply bs) does.blocks blocks)) in (
                record {
                  refused = λ h. (n, does.caused.on, elim (does.caused.refused h) [ inl more ↦ more | inr own ↦ hands own h ]);
                  unopened = λ h. absurd (does.caused.opened h);
                },
                blocks,
              );
          grows = λ h. grows_as (λ p logs. reads_on p logs line (verb_word verb) deed n (at_number n p.context.out)) (reads_by_deed line n verb) w mid entry
              (λ logs. ap (λ (o : Option Deed). reads_deed (progress w) logs line (verb_word verb) o n (at_number n (context_of w).out)) (sym is)) (does.grows h);
        };
        blocks = does.blocks;
        on = does.caused.on;
      }

  -- it is skipped
  pub skips : (entry : Entry) → None ≡ deed_of (block_on n w.pool.blocks) verb → entry ≡ skip_entry line (verb_word verb) n (at_number n (context_of w).out) → Invariant w → StepsDeed honest line n verb w w (Ok entry)
  skips entry is entry_is holds =
      let place : Option Seat = at_number n (context_of w).out in
      record {
        steps = record {
          keeps = record { holds = holds; counts = later-refl w; opening = opening-refl w };
          plays_entry = subst (λ (o : Option Deed). PlaysDeed line (verb_word verb) o n (context_of w) entry (context_of w) place) is (record { entry_is = entry_is; context_is = refl });
          caused = λ all. (no_cause w w entry replies.Skipped (ap (λ (e : Entry). e.reply) entry_is ∙ skip_reply place) (λ h. h) (λ h. h), all);
          grows = λ _. grows_nothing (reads_by_deed line n verb) w w entry (λ logs known. known)
              (λ logs. ap (λ (o : Option Deed). reads_deed (progress w) logs line (verb_word verb) o n place) (sym is) ∙ ap (λ (e : Entry). Some (taken e (progress w) logs)) (sym entry_is));
        };
        blocks = refl;
        on = ap (λ (e : Entry). e.connection) entry_is ∙ skip_on place refl;
      }
    where
      skip_reply : (o : Option Seat) → (skip_entry line (verb_word verb) n o).reply ≡ replies.Skipped
      skip_reply None = refl
      skip_reply (Some seat) = refl

      skip_on : (o : Option Seat) → at_number n (context_of w).out ≡ o → (skip_entry line (verb_word verb) n o).connection ≡ Some n
      skip_on None e = refl
      skip_on (Some seat) e = ap (λ (k : ℕ). Some k) (seat_numbered w n seat e holds)

  -- as its entry says
  pub skips_by : None ≡ deed_of (block_on n w.pool.blocks) verb → Invariant w → StepsDeed honest line n verb w w (Ok (entry_at line (verb_word verb) n replies.Skipped (at_number n (context_of w).out)))
  skips_by is holds = skips (entry_at line (verb_word verb) n replies.Skipped (at_number n (context_of w).out)) is (by_place (at_number n (context_of w).out)) holds
    where
      by_place : (o : Option Seat) → entry_at line (verb_word verb) n replies.Skipped o ≡ skip_entry line (verb_word verb) n o
      by_place None = refl
      by_place (Some seat) = refl

-- ---- and then its reply tells the blocks

-- an entry has its reply
entry_at-reply : (line : ℕ) (word : Word) (n : ℕ) (reply : Reply) (o : Option Seat) → (entry_at line word n reply o).reply ≡ reply
entry_at-reply line word n reply None = refl
entry_at-reply line word n reply (Some seat) = refl

told_keeps : (n : ℕ) (verb : Verb) (reply : Reply) (old mid : World) → KeepsAll old mid → KeepsAll old (tells_blocks n verb reply mid)
told_keeps n verb reply old mid k = record {
  holds = record { accounts = record { once = k.holds.accounts.once; none = k.holds.accounts.none }; places = k.holds.places; placed = k.holds.placed; slots = k.holds.slots; room = k.holds.room };
  counts = record { later = k.counts.later; refusals_later = k.counts.refusals_later };
  opening = record { dialect = k.opening.dialect; url = k.opening.url; size = k.opening.size; queries = k.opening.queries; policy = k.opening.policy; plan = k.opening.plan; aims = k.opening.aims };
}

told_known : (n : ℕ) (verb : Verb) (reply : Reply) (logs : ServerLogs) (w : World) → IsKnown logs w → IsKnown logs (tells_blocks n verb reply w)
told_known n verb reply logs w k = record { servers = record { slots = k.servers.slots; out = k.servers.out; returned = k.servers.returned }; fresh = k.fresh }

module _ (honest : Bool) (line n : ℕ) (verb : Verb) (old mid : World) where
  -- it wanted memory
  pub failed_step : (e : AllocError) (result : Result Entry AllocError) → StepsDeed honest line n verb old mid result → Steps honest line (On n verb) old mid (Err e)
  failed_step e result s = record { keeps = s.steps.keeps; plays_entry = tt; caused = λ _. tt; grows = λ _. tt }

  pub told_step : (entry : Entry) → StepsDeed honest line n verb old mid (Ok entry) → Steps honest line (On n verb) old (tells_blocks n verb entry.reply mid) (Ok entry)
  told_step entry s =
      let new : World = tells_blocks n verb entry.reply mid in
      record {
        keeps = told_keeps n verb entry.reply old mid s.steps.keeps;
        plays_entry = record { mid = context_of mid; by_deed = s.steps.plays_entry; context_is = refl };
        caused = λ all.
            let both = s.steps.caused all in
            let here : IsRefused entry.reply → 0 < sum_all (refusals n) mid = λ h. (let r = both.0.refused h in subst (λ (k : ℕ). 0 < sum_all (refusals k) mid) (same_number r.0 (sym r.1 ∙ s.on)) r.2) in (
              record { refused = both.0.refused; unopened = both.0.unopened },
              after_caused (λ m. sum_all (refusals m) mid) n entry.reply verb mid.pool.blocks here both.1,
            );
        grows = λ h logs known.
            let g = s.steps.grows h logs known in (
              g.0,
              told_known n verb entry.reply _ mid g.1,
              record {
                anew = g.2.anew;
                whatever_follows = λ all more follows anew. let x = g.2.whatever_follows all more follows anew in (x.0, ap (option_map (with_blocks n verb)) x.1, x.2);
              },
            );
      }
    where
      same_number : (m : ℕ) → Some m ≡ Some n → m ≡ n
      same_number m e = cc

  -- the same by its reply
  pub told_reply : (reply : Reply) (blocks : List Block) (entry : Entry) → blocks ≡ blocks_after n verb reply mid.pool.blocks → entry ≡ entry_at line (verb_word verb) n reply (at_number n (context_of mid).out)
      → AnswersVerb honest n verb old mid (Ok reply) → Steps honest line (On n verb) old (record mid { pool = record mid.pool { blocks = blocks } }) (Ok entry)
  told_reply reply blocks entry after entry_is answers =
      let reply_is : entry.reply ≡ reply = ap (λ (e : Entry). e.reply) entry_is ∙ entry_at-reply line (verb_word verb) n reply (at_number n (context_of mid).out) in
      let after_entry : blocks ≡ blocks_after n verb entry.reply mid.pool.blocks = after ∙ ap (λ (r : Reply). blocks_after n verb r mid.pool.blocks) (sym reply_is) in
      subst (λ (bs : List Block). Steps honest line (On n verb) old (record mid { pool = record mid.pool { blocks = bs } }) (Ok entry)) (sym after_entry)
      (told_step entry (subst (λ (e : Entry). StepsDeed honest line n verb old mid (Ok e)) (sym entry_is) (answers line)))
