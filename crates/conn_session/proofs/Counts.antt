-- What counts of refusals say of entries.
use Rattle.std.proofs.Common.{◌≡◌, ℕ, ◌≤◌, cond, true, false, List, [], ◌∷◌, ◌++◌, refl, sym, subst, arith}
use Rattle.std.specs.List.{AllByRecursion}
use Rattle.conn_manager.specs.Statuses.{Status}
use Rattle.conn_reading.specs.Seats.{is_kept, put_reply}
use Rattle.conn_report.specs.declared.entry.Entry.{Entry}
use Rattle.conn_report.specs.declared.entry.Reply.{Reply}
use Rattle.conn_report.specs.declared.entry.Reply.TheVariants as replies
use Rattle.conn_reading.specs.declared.blocks.Block.{Block}
use Rattle.conn_reading.specs.declared.blocks.BlockState.{BlockState}
use Rattle.conn_reading.specs.declared.blocks.BlockState.TheVariants.{Live, Refused, Dead}
use Rattle.conn_reading.specs.declared.deed.Deed.{Deed}
use Rattle.conn_session.specs.Responses.{IsAnswer, IsRefused, IsUnopened}
use Rattle.conn_session.specs.Steps.{IsLater, IsCausedBy, IsCausedIn, IsCausedState, AreBlocksCaused, KeepsOpening}
use Rattle.conn_session.specs.Worlds.{World, sum_all, refusals}

pub later-refl : (w : World) → IsLater w w
later-refl w = record { later = omega arith; refusals_later = λ n. omega arith }

pub later-trans : (a b c : World) → IsLater a b → IsLater b c → IsLater a c
later-trans a b c p q = record { later = omega (arith, p.later, q.later); refusals_later = λ n. omega (arith, p.refusals_later n, q.refusals_later n) }

-- an entry that has no refusal
pub no_cause : (old new : World) (entry : Entry) (r : Reply) → entry.reply ≡ r → (IsRefused r → ⊥) → (IsUnopened r → ⊥) → IsCausedIn old new entry
no_cause old new entry r e refused unopened = record {
  refused = λ h. absurd (refused (subst IsRefused e h));
  unopened = λ h. absurd (unopened (subst IsUnopened e h));
}

pub put_not_refused : (s : Status) → IsRefused (put_reply s) → ⊥
put_not_refused s = elim (is_kept s) as (λ b. IsRefused (cond b replies.Kept replies.Closed) → ⊥) [ true ↦ (λ h. h) | false ↦ (λ h. h) ]

pub put_not_unopened : (s : Status) → IsUnopened (put_reply s) → ⊥
put_not_unopened s = elim (is_kept s) as (λ b. IsUnopened (cond b replies.Kept replies.Closed) → ⊥) [ true ↦ (λ h. h) | false ↦ (λ h. h) ]

pub answers_open : (deed : Deed) (reply : Reply) → IsAnswer deed reply → IsUnopened reply → ⊥
answers_open deed replies.Ok a u = u
answers_open deed replies.Kept a u = u
answers_open deed replies.Closed a u = u
answers_open deed replies.NotOut a u = u
answers_open deed replies.NoneFree a u = u
answers_open deed replies.Skipped a u = u
answers_open deed (replies.Count k) a u = u
answers_open deed (replies.Rows rows) a u = u
answers_open deed (replies.OneRow row) a u = u
answers_open deed replies.NoRow a u = u
answers_open deed (replies.Error e) a u = u
answers_open deed (replies.Pool e) a u = a

-- ---- the blocks

state_later : (f g : ℕ → ℕ) (n : ℕ) (state : BlockState) → f n ≤ g n → IsCausedState f n state → IsCausedState g n state
state_later f g n Live l h = tt
state_later f g n Dead l h = tt
state_later f g n (Refused e) l h = λ r. omega (arith, l, h r)

blocks_later_in : (f g : ℕ → ℕ) (blocks : List Block) → ((n : ℕ) → f n ≤ g n) → AllByRecursion (λ (b : Block). IsCausedState f b.connection b.state) blocks → AllByRecursion (λ (b : Block). IsCausedState g b.connection b.state) blocks
blocks_later_in f g [] l all = tt
blocks_later_in f g (b ∷ bs) l all = (state_later f g b.connection b.state (l b.connection) all.0, blocks_later_in f g bs l all.1)

-- blocks that a command leaves
pub blocks_later : (old new : World) → new.pool.blocks ≡ old.pool.blocks → IsLater old new → AreBlocksCaused old → AreBlocksCaused new
blocks_later old new same l caused =
    subst (λ (blocks : List Block). AllByRecursion (λ (b : Block). IsCausedState (λ n. sum_all (refusals n) new) b.connection b.state) blocks) (sym same)
    (blocks_later_in (λ n. sum_all (refusals n) old) (λ n. sum_all (refusals n) new) old.pool.blocks l.refusals_later caused)

-- ---- along commands

caused_later : (start old new : World) (entry : Entry) → IsLater old new → IsCausedIn start old entry → IsCausedIn start new entry
caused_later start old new entry l c = record {
  refused = λ h. let r = c.refused h in (r.0, r.1, omega (arith, l.refusals_later r.0, r.2));
  unopened = λ h. omega (arith, l.later, c.unopened h);
}

caused_earlier : (start old new : World) (entry : Entry) → IsLater start old → IsCausedIn old new entry → IsCausedIn start new entry
caused_earlier start old new entry l c = record {
  refused = c.refused;
  unopened = λ h. omega (arith, l.later, c.unopened h);
}

-- one entry more
pub all_caused : (start old new : World) (entries : List Entry) (entry : Entry) → IsLater start old → IsLater old new → AllByRecursion (IsCausedIn start old) entries → IsCausedIn old new entry → AllByRecursion (IsCausedIn start new) (entries ++ entry ∷ [])
all_caused start old new [] entry l m all one = (caused_earlier start old new entry l one, tt)
all_caused start old new (e ∷ es) entry l m all one = (caused_later start old new e m all.0, all_caused start old new es entry l m all.1 one)

-- the same, by what counted at the end
pub all_caused_by : (old new : World) (servers : ℕ → ℕ) (now : ℕ) (entries : List Entry) → now ≡ new.connector.failures → ((n : ℕ) → servers n ≡ sum_all (refusals n) new) → AllByRecursion (IsCausedIn old new) entries
    → AllByRecursion (IsCausedBy servers old.connector.failures now) entries
all_caused_by old new servers now [] e same all = tt
all_caused_by old new servers now (x ∷ xs) e same all = (
  record {
    refused = λ h. let r = all.0.refused h in (r.0, r.1, omega (arith, same r.0, r.2));
    unopened = λ h. omega (arith, e, all.0.unopened h);
  },
  all_caused_by old new servers now xs e same all.1,
)

pub opening-refl : (w : World) → KeepsOpening w w
opening-refl w = record { dialect = refl; url = refl; size = refl; queries = refl; policy = refl; plan = refl; aims = λ h. h }
