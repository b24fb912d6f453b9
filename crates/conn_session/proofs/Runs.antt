-- One command after another.
use Rattle.std.proofs.Common.{◌≡◌, Bool, List, [], ◌∷◌, ◌++◌, Option, Ok, ℕ, refl, ap, subst, sym, append-nil, append_assoc, ◌∙◌}
use Rattle.conn_report.specs.declared.entry.Entry.{Entry}
use Rattle.conn_script.specs.Requests.{request_of}
use Rattle.conn_script.specs.declared.command.Command.{Command}
use Rattle.conn_reading.specs.Answered.{reads}
use Rattle.conn_reading.specs.Asking.{Policy}
use Rattle.conn_reading.specs.Seats.{Context}
use Rattle.conn_reading.proofs.InOrder.{ReadsAll-none, ReadsAll-push}
use Rattle.conn_model.specs.declared.item.Dialect.{Dialect}
use Rattle.conn_drivers.specs.Establishing.{AreAt, url_fault}
use Rattle.conn_result.specs.declared.error.ConnectionError.{ConnectionError}
use Rattle.conn_session.specs.Known.{Grows, GrowsAll, progress, with_more}
use Rattle.conn_session.specs.Plays.{Plays, PlaysAll}
use Rattle.conn_session.specs.Steps.{fault_of, KeepsOpening, KeepsAll, RunsAll, Steps}
use Rattle.conn_session.specs.Worlds.{World, Invariant, context_of}
use Rattle.conn_session.proofs.Counts.{later-refl, later-trans, all_caused, opening-refl}
use Rattle.conn_session.proofs.Growing.{known_same}

-- ---- what each command keeps

opening-trans : (a b c : World) → KeepsOpening a b → KeepsOpening b c → KeepsOpening a c
opening-trans a b c p q = record {
  dialect = q.dialect ∙ p.dialect;
  url = q.url ∙ p.url;
  size = q.size ∙ p.size;
  queries = q.queries ∙ p.queries;
  policy = q.policy ∙ p.policy;
  plan = q.plan ∙ p.plan;
  aims = λ h.
      let before = subst (λ (d : Dialect). AreAt d b.pool.url b.connector.targets) (sym p.dialect) (subst (λ (url : List ℕ). AreAt a.pool.dialect url b.connector.targets) (sym p.url) (p.aims h)) in
      subst (λ (d : Dialect). AreAt d a.pool.url c.connector.targets) p.dialect (subst (λ (url : List ℕ). AreAt b.pool.dialect url c.connector.targets) p.url (q.aims before));
}

fault_same : (a b : World) → KeepsOpening a b → fault_of b ≡ fault_of a
fault_same a b k = ap (λ (d : Dialect). url_fault d b.pool.url) k.dialect ∙ ap (url_fault a.pool.dialect) k.url

pub keeps-refl : (w : World) → Invariant w → KeepsAll w w
keeps-refl w h = record { holds = h; counts = later-refl w; opening = opening-refl w }

pub keeps-trans : (a b c : World) → KeepsAll a b → KeepsAll b c → KeepsAll a c
keeps-trans a b c p q = record { holds = q.holds; counts = later-trans a b c p.counts q.counts; opening = opening-trans a b c p.opening q.opening }

-- ---- the entries

PlaysAll-push : (fault : Option ConnectionError) (policy : Policy) (a b c : Context) (commands : List Command) (entries : List Entry) (command : Command) (entry : Entry) → PlaysAll fault policy a commands entries b → Plays fault policy command.line (request_of command.act) b entry c
    → PlaysAll fault policy a (commands ++ command ∷ []) (entries ++ entry ∷ []) c
PlaysAll-push fault policy a b c [] [] command entry so_far more = (c, subst (λ (x : Context). Plays fault policy command.line (request_of command.act) x entry c) so_far more, refl)
PlaysAll-push fault policy a b c [] (e ∷ es) command entry so_far more = absurd so_far
PlaysAll-push fault policy a b c (d ∷ ds) [] command entry so_far more = absurd so_far
PlaysAll-push fault policy a b c (d ∷ ds) (e ∷ es) command entry so_far more = (so_far.0, so_far.1, PlaysAll-push fault policy so_far.0 b c ds es command entry so_far.2 more)

grows-none : (w : World) → GrowsAll w w [] []
grows-none w = λ logs known. ((λ n. []), known_same logs (with_more logs (λ n. [])) w (λ n. append-nil (logs n)) known, ReadsAll-none (progress w))

grows-push : (start old new : World) (commands : List Command) (command : Command) (entries : List Entry) (entry : Entry)
    → GrowsAll start old commands entries → Grows (λ p logs. reads p logs command.line (request_of command.act)) old new entry → GrowsAll start new (commands ++ command ∷ []) (entries ++ entry ∷ [])
grows-push start old new commands command entries entry r s = λ logs known.
    let first = r logs known in
    let second = s (with_more logs first.0) first.1 in (
      (λ n. first.0 n ++ second.0 n),
      known_same (with_more (with_more logs first.0) second.0) (with_more logs (λ n. first.0 n ++ second.0 n)) new (λ n. sym (append_assoc (logs n) (first.0 n) (second.0 n))) second.1,
      ReadsAll-push (progress start) (progress old) (progress new) first.0 second.0 commands command entries entry first.2 second.2,
    )

pub runs-none : (honest : Bool) (w : World) → RunsAll honest [] w w []
runs-none honest w = record { plays_entries = refl; caused = λ b. (tt, b); grows = λ _. grows-none w }

pub runs-push : (honest : Bool) (start old new : World) (commands : List Command) (command : Command) (entries : List Entry) (entry : Entry) → KeepsAll start old → RunsAll honest commands start old entries
    → Steps honest command.line (request_of command.act) old new (Ok entry) → RunsAll honest (commands ++ command ∷ []) start new (entries ++ entry ∷ [])
runs-push honest start old new commands command entries entry keeps r s = record {
  plays_entries = PlaysAll-push (fault_of start) start.pool.policy (context_of start) (context_of old) (context_of new) commands entries command entry r.plays_entries
      (subst (λ (policy : Policy). Plays (fault_of start) policy command.line (request_of command.act) (context_of old) entry (context_of new)) keeps.opening.policy
      (subst (λ (fault : Option ConnectionError). Plays fault old.pool.policy command.line (request_of command.act) (context_of old) entry (context_of new)) (fault_same start old keeps.opening) s.plays_entry));
  caused = λ b.
      let first = r.caused b in
      let second = s.caused first.1 in
      (all_caused start old new entries entry keeps.counts s.keeps.counts first.0 second.0, second.1);
  grows = λ h. grows-push start old new commands command entries entry (r.grows h) (s.grows h);
}
