-- The histories along all commands of a session.
use Rattle.std.proofs.Common.{◌≡◌, ℕ, zero, suc, ◌<◌, ◌≤◌, Bool, true, false, ◌&&◌, ◌||◌, if◌then◌else◌, List, [], ◌∷◌, length, nat_eq, eqb-true, Option, Some, None, refl, sym, ap, subst, ◌∙◌, arith, inl, inr}
use Rattle.std.specs.Prelude.{is_some}
use Rattle.std.specs.List.{list_any}
use Rattle.std.specs.Option.{option_map}
use Rattle.std.proofs.lemmas.Option.{option_and_then_some}
use Rattle.std.proofs.lemmas.Bool.Decides.{leb_tells}
use Rattle.conn_model.specs.States.{Idle}
use Rattle.conn_model.specs.declared.item.Dialect.{Dialect}
use Rattle.conn_model.specs.declared.item.Item.{Item}
use Rattle.conn_report.specs.declared.entry.Entry.{Entry}
use Rattle.conn_script.specs.Requests.{request_of}
use Rattle.conn_script.specs.declared.command.Command.{Command}
use Rattle.conn_script.specs.declared.command.Script.{Script}
use Rattle.conn_script.specs.declared.request.Request.{Request}
use Rattle.conn_script.specs.declared.request.Request.TheVariants.{Get, Put, On}
use Rattle.conn_reading.specs.Answered.{ServerLogs, Progress, Taken, Run, taken_put, reads, reads_all, with_entry, all_read, whole, started, answered}
use Rattle.conn_reading.specs.Asking.{Policy, get_deed, policy_of}
use Rattle.conn_reading.specs.Blocks.{request_deed, request_blocks}
use Rattle.conn_reading.specs.Folds.{alone, AllKeepLive, refuses_transaction, SetsInOpen}
use Rattle.conn_reading.specs.Seats.{Seat, at_number}
use Rattle.conn_reading.specs.Sessions.{AsksPlain, AllPlain, QueriesPlain, ScriptPlain, EachRecorded, EachClean, Folded, mark_of, is_opened, after_entry, fold_entries, EntriesLive, MarkNested, EachNested}
use Rattle.conn_reading.specs.declared.blocks.Block.{Block}
use Rattle.conn_reading.proofs.SessionNests.{at_recorded, at_nested}
use Rattle.conn_reading.proofs.EachSeat.{held-none}
use Rattle.conn_reading.proofs.SessionKept.{IsOf, Tracks, Keeps, ProgressKeeps, TakenKeeps}
use Rattle.conn_reading.proofs.SessionMoves.{verb_keeps}
use Rattle.conn_reading.proofs.SessionSlots.{get_keeps, put_keeps}
use Rattle.conn_reading.proofs.Tracks.{IsTrack, no_track, is_no_track, folded}

-- after a command
abbrev pub CommandKeeps : Dialect → ServerLogs → Policy → Tracks → Progress → Request → Taken → Type 0
CommandKeeps d logs policy tracks p request t = TakenKeeps d logs policy tracks p.context.opened (λ b. request_deed (get_deed policy b) p.context.blocks request) p.context.blocks (request_blocks request t.entry.reply p.context.blocks) t

-- one command
pub reads_keeps : (d : Dialect) (logs left : ServerLogs) (policy : Policy) (tracks : Tracks) (p : Progress) (line : ℕ) (request : Request) (t : Taken) → AsksPlain request → IsOf d policy p → ProgressKeeps d logs left tracks p → reads p left line request ≡ Some t
    → CommandKeeps d logs policy tracks p request t
reads_keeps d logs left policy tracks p line Get t plain is_of h is = get_keeps d logs left policy tracks p line t is_of h is
reads_keeps d logs left policy tracks p line (Put n) t plain is_of h is =
    let e : taken_put p left line n (at_number n p.context.out) ≡ t = cc in subst (CommandKeeps d logs policy tracks p (Put n)) e (put_keeps d logs left policy tracks p line n is_of h (at_number n p.context.out) refl)
reads_keeps d logs left policy tracks p line (On n verb) t plain is_of h is = verb_keeps d logs left policy tracks p line n verb t plain is_of h is

-- what the entries of commands say, between the histories before them and after them, and the blocks that are open then
pub record EntriesSay (d : Dialect) (logs : ServerLogs) (policy : Policy) (before after : Tracks) (blocks left : List Block) (opened : ℕ) (commands : List Command) (entries : List Entry) : Type 0 where
  pub recorded : EachRecorded d logs entries
  pub clean : EachClean entries
  pub folds : (n : ℕ) → fold_entries n (logs n) commands entries (folded policy blocks (before n)) ≡ folded policy left (after n)
  pub live : (n : ℕ) → EntriesLive n (logs n) commands entries (folded policy blocks (before n)) → AllKeepLive (before n).steps (alone []) → AllKeepLive (after n).steps (alone [])
  pub nested : (n : ℕ) → list_any refuses_transaction (logs n) ≡ false → SetsInOpen d (Idle []) (logs n) → EntriesLive n (logs n) commands entries (folded policy blocks (before n)) → AllKeepLive (before n).steps (alone [])
      → EachNested d n (logs n) commands entries (folded policy blocks (before n))
  pub opened_before : (n : ℕ) → is_opened n entries ≡ true → n < opened

record RunKeeps (d : Dialect) (logs : ServerLogs) (policy : Policy) (before : Tracks) (blocks : List Block) (opened : ℕ) (commands : List Command) (run : Run) : Type 0 where
  pub tracks : Tracks
  pub progress : ProgressKeeps d logs run.left tracks run.progress
  pub grows : opened ≤ run.progress.context.opened
  pub entries : EntriesSay d logs policy before tracks blocks run.progress.context.blocks run.progress.context.opened commands run.entries

-- one entry, and those of the commands after it
first_keeps : (d : Dialect) (logs : ServerLogs) (policy : Policy) (before : Tracks) (p : Progress) (c : Command) (cs : List Command) (t : Taken) (rest : Run) → (first : CommandKeeps d logs policy before p (request_of c.act) t)
    → RunKeeps d logs policy first.tracks t.progress.context.blocks t.progress.context.opened cs rest → RunKeeps d logs policy before p.context.blocks p.context.opened (c ∷ cs) (with_entry t.entry rest)
first_keeps d logs policy before p c cs t rest first more = record {
  tracks = more.tracks;
  progress = more.progress;
  grows = omega (arith, first.grows, more.grows);
  entries = record {
    recorded = (at_recorded d logs first.tracks t.entry.connection t.entry.status t.entry.mark first.entry.at, more.entries.recorded);
    clean = (first.entry.clean, more.entries.clean);
    folds = λ n. ap (fold_entries n (logs n) cs rest.entries) (folds_to n) ∙ more.entries.folds n;
    live = λ n l h. more.entries.live n (subst (EntriesLive n (logs n) cs rest.entries) (folds_to n) l.1) (first.entry.live n l.0 h);
    nested = λ n none opens l h.
        let here : AllKeepLive (first.tracks n).steps (alone []) = first.entry.live n l.0 h in
        subst (λ (f : Folded). MarkNested d (logs n) t.entry.status (mark_of n t.entry.connection t.entry.mark) f.stack × EachNested d n (logs n) cs rest.entries f) (sym (folds_to n)) (
          at_nested d logs first.tracks n t.entry.connection t.entry.status t.entry.mark first.entry.at none opens here,
          more.entries.nested n none opens (subst (EntriesLive n (logs n) cs rest.entries) (folds_to n) l.1) here,
        );
    opened_before = λ n is. by_entry n (is_some (mark_of n t.entry.connection t.entry.mark)) refl is;
  };
}
  where
    folds_to : (n : ℕ) → after_entry n (logs n) (request_of c.act) t.entry (folded policy p.context.blocks (before n)) ≡ folded policy t.progress.context.blocks (first.tracks n)
    folds_to n =
        ap (λ (f : Folded). record f { blocks = request_blocks (request_of c.act) t.entry.reply p.context.blocks }) (first.entry.folds n)
        ∙ ap (λ (blocks : List Block). folded policy blocks (first.tracks n)) (sym first.open_blocks)

    by_entry : (n : ℕ) (b : Bool) → is_some (mark_of n t.entry.connection t.entry.mark) ≡ b → (b || is_opened n rest.entries) ≡ true → n < rest.progress.context.opened
    by_entry n true e is = omega (arith, first.entry.opened_before n e, more.grows)
    by_entry n false e is = more.entries.opened_before n is

run_keeps : (d : Dialect) (logs left : ServerLogs) (policy : Policy) (tracks : Tracks) (p : Progress) (commands : List Command) (run : Run) → AllPlain commands → IsOf d policy p → ProgressKeeps d logs left tracks p → reads_all p left commands ≡ Some run
    → RunKeeps d logs policy tracks p.context.blocks p.context.opened commands run
run_keeps d logs left policy tracks p [] run plain is_of h is =
    let first : Run = record { entries = []; progress = p; left = left } in
    let e : first ≡ run = cc in
    subst (RunKeeps d logs policy tracks p.context.blocks p.context.opened []) e (record {
      tracks = tracks;
      progress = h;
      grows = omega arith;
      entries = record { recorded = tt; clean = tt; folds = λ n. refl; live = λ n l g. g; nested = λ n none opens l g. tt; opened_before = λ n o. absurd (cc) };
    })
run_keeps d logs left policy tracks p (c ∷ cs) run plain is_of h is =
    option_and_then_some (λ (t : Taken). option_map (with_entry t.entry) (reads_all t.progress t.left cs)) (reads p left c.line (request_of c.act)) run is (λ t one more.
    (let first = reads_keeps d logs left policy tracks p c.line (request_of c.act) t plain.0 is_of h one in
    by_rest t first (reads_all t.progress t.left cs) more (λ rest e. run_keeps d logs t.left policy first.tracks t.progress cs rest plain.1 first.is_of first.progress e) refl))
  where
    by_rest : (t : Taken) → (first : CommandKeeps d logs policy tracks p (request_of c.act) t) → (o : Option Run) → option_map (with_entry t.entry) o ≡ Some run
        → ((rest : Run) → reads_all t.progress t.left cs ≡ Some rest → RunKeeps d logs policy first.tracks t.progress.context.blocks t.progress.context.opened cs rest) → reads_all t.progress t.left cs ≡ o
        → RunKeeps d logs policy tracks p.context.blocks p.context.opened (c ∷ cs) run
    by_rest t first None i f e = absurd (cc)
    by_rest t first (Some rest) i f e =
        let same : with_entry t.entry rest ≡ run = cc in
        subst (RunKeeps d logs policy tracks p.context.blocks p.context.opened (c ∷ cs)) same (first_keeps d logs policy tracks p c cs t rest first (f rest e))

-- ---- a whole session

-- no connection has read anything
abbrev pub no_tracks : Tracks
no_tracks n = no_track

pub started_is : (script : Script) → QueriesPlain script.queries → IsOf script.dialect (policy_of script) (started script)
started_is script plain = record { dialect = refl; plain = plain; asked = refl }

pub started_keeps : (script : Script) (logs : ServerLogs) → ProgressKeeps script.dialect logs logs no_tracks (started script)
started_keeps script logs =
    subst (λ (seats : List Seat). Keeps script.dialect logs logs no_tracks seats [] 0) (sym (held-none script.max_size))
    (record { tracked = λ n. is_no_track script.dialect (logs n); unopened = λ n l. refl; in_slots = tt; free = tt; places = refl; in_out = λ n seat e. absurd (cc); once = λ n. omega arith; none = λ n l. refl })

none_empty : (l : List Item) → nat_eq (length l) 0 ≡ true → l ≡ []
none_empty [] h = refl
none_empty (i ∷ is) h = absurd (omega (arith, eqb-true (length (i ∷ is)) 0 h))

-- nothing is left of a server that was opened
left_none : (m n : ℕ) (left : ServerLogs) → n < m → all_read m left ≡ true → left n ≡ []
left_none zero n left l h = absurd (omega (arith, l))
left_none (suc m) n left l h = by_test (nat_eq (length (left m)) 0) (all_read m left) refl refl h (λ k. left_none m n left k)
  where
    by_test : (a b : Bool) → nat_eq (length (left m)) 0 ≡ a → all_read m left ≡ b → (a && b) ≡ true → (n < m → all_read m left ≡ true → left n ≡ []) → left n ≡ []
    by_test true true e f g below = elim (leb_tells m n) [
      | inl at ↦ (let same : m ≡ n = omega (arith, at.1, l) in subst (λ (k : ℕ). left k ≡ []) same (none_empty (left m) e))
      | inr less ↦ below less.1 f
    ]
    by_test true false e f g below = absurd (cc)
    by_test false b e f g below = absurd (cc)

-- what the entries of a session say, and that the history of each server that was opened has all of its log
pub record SessionSays (d : Dialect) (logs : ServerLogs) (policy : Policy) (commands : List Command) (entries : List Entry) : Type 0 where
  pub tracks : Tracks
  pub opened : ℕ
  pub blocks : List Block
  pub entries_say : EntriesSay d logs policy no_tracks tracks [] blocks opened commands entries
  pub ended : (n : ℕ) → n < opened → IsTrack d (logs n) [] (tracks n)

pub answered_says : (script : Script) (logs : ServerLogs) (entries : List Entry) → ScriptPlain script → answered script logs ≡ Some entries → SessionSays script.dialect logs (policy_of script) script.commands entries
answered_says script logs entries plain is =
    option_and_then_some whole (reads_all (started script) logs script.commands) entries is (λ run all some.
    by_test (all_read run.progress.context.opened run.left) run refl some (run_keeps script.dialect logs logs (policy_of script) no_tracks (started script) script.commands run plain.0 (started_is script plain.1) (started_keeps script logs) all))
  where
    by_test : (b : Bool) (run : Run) → all_read run.progress.context.opened run.left ≡ b → (if b then Some run.entries else None) ≡ Some entries → RunKeeps script.dialect logs (policy_of script) no_tracks [] 0 script.commands run → SessionSays script.dialect logs (policy_of script) script.commands entries
    by_test true run e i h =
        let same : run.entries ≡ entries = cc in
        subst (SessionSays script.dialect logs (policy_of script) script.commands) same (record {
          tracks = h.tracks;
          opened = run.progress.context.opened;
          blocks = run.progress.context.blocks;
          entries_say = h.entries;
          ended = λ n l. subst (λ (rest : List Item). IsTrack script.dialect (logs n) rest (h.tracks n)) (left_none run.progress.context.opened n run.left l e) (h.progress.tracked n);
        })
    by_test false run e i h = absurd (cc)
