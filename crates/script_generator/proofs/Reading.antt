-- The lines of a script that were read, and the bytes that are left.
use Rattle.std.proofs.Common.{◌≡◌, ℕ, ◌+◌, ◌≤◌, Bool, true, cond, List, [], ◌∷◌, length, Option, Some, None, Ok, Err, sym, ap, ◌∙◌, arith, length-append}
use Rattle.std.specs.Prelude.{◌==◌}
use Rattle.std.proofs.lemmas.Bool.Decides.{nat_tests}
use Rattle.conn_script.specs.Drafts.{Draft, can_end, command_added, if_closable}
use Rattle.conn_script.specs.Grammar.{judged, lines_of, next}
use Rattle.conn_script.specs.Openings.{blocks_behind, inside_behind}
use Rattle.conn_script.specs.Options.{◌>>=◌, guard}
use Rattle.conn_script.specs.Requests.{request_of}
use Rattle.conn_script.specs.Words.{split_at}
use Rattle.conn_script.specs.declared.command.Act.{Act}
use Rattle.conn_script.specs.declared.command.Script.{Script}
use Rattle.conn_script.proofs.Lines.{left_good}
use Rattle.script_generator.proofs.Commands.{IsCommand}

-- These bytes are left of all the bytes, behind lines with at most so many commands; so many blocks
-- are open then, of connection 0.
pub record IsLeft (bytes rest : List ℕ) (blocks most : ℕ) : Type 0 where
  pub number : ℕ
  pub draft : Draft
  pub open_blocks : draft.blocks ≡ blocks
  pub inside : draft.inside ≡ 0
  pub few : length draft.script.commands ≤ most
  pub same : judged 1 None (lines_of bytes) ≡ judged number (Some draft) (lines_of rest)

-- a greater bound
pub more_left : {bytes rest : List ℕ} {blocks : ℕ} (least most : ℕ) → least ≤ most → IsLeft bytes rest blocks least → IsLeft bytes rest blocks most
more_left least most h r = record {
  number = r.number;
  draft = r.draft;
  open_blocks = r.open_blocks;
  inside = r.inside;
  few = omega (arith, r.few, h);
  same = r.same;
}

-- the same bytes in another form
pub same_left : {bytes : List ℕ} {blocks most : ℕ} (rest form : List ℕ) → rest ≡ form → IsLeft bytes rest blocks most → IsLeft bytes form blocks most
same_left rest form e r = record {
  number = r.number;
  draft = r.draft;
  open_blocks = r.open_blocks;
  inside = r.inside;
  few = r.few;
  same = r.same ∙ ap (λ (bs : List ℕ). judged r.number (Some r.draft) (lines_of bs)) e;
}

can_end_here : (commands blocks inside : ℕ) → commands + blocks ≤ 1048576 → inside ≡ 0 → can_end commands blocks inside ≡ true
can_end_here commands blocks inside h e = grind (arith, nat_tests)

-- one line is read
pub read_line : {line : List ℕ} {act : Act} {blocks behind : ℕ} {bytes : List ℕ} (here rest : List ℕ) (most : ℕ) → IsCommand line act blocks behind → split_at 10 here ≡ (line, Some rest) → most + 1 + behind ≤ 1048576
    → IsLeft bytes here blocks most → IsLeft bytes rest behind (most + 1)
read_line {line} {act} {blocks} {behind} here rest most is cut room r =
    let d : Draft = r.draft in
    let e : Draft = command_added r.number d act in
    let open_blocks : e.blocks ≡ behind = ap (λ (b : ℕ). blocks_behind b (request_of act)) r.open_blocks ∙ is.bounds in
    let inside : e.inside ≡ 0 = ap (λ (i : ℕ). inside_behind i (request_of act)) r.inside ∙ is.inside in
    let few : length e.script.commands ≤ most + 1 = omega (arith, r.few, length-append d.script.commands (record { line = r.number; act = act } ∷ [])) in
    let reads : next r.number (Some d) line ≡ Some e =
    is.reads r.number d
    ∙ ap (λ (o : Option Draft). o >>= if_closable) (ap (λ (t : Bool). guard t e) (is.comes d r.open_blocks r.inside))
    ∙ ap (λ (t : Bool). guard t e) (can_end_here (length e.script.commands) e.blocks e.inside (omega (arith, few, open_blocks, room)) inside) in
    record {
      number = r.number + 1;
      draft = e;
      open_blocks = open_blocks;
      inside = inside;
      few = few;
      same = r.same ∙ left_good r.number (Some d) e here line rest (sym cut) (sym reads);
    }

-- all of them are, and no block is open
pub read_all : {most : ℕ} (bytes : List ℕ) → IsLeft bytes [] 0 most → (script : Script) × (judged 1 None (lines_of bytes) ≡ Ok script)
read_all bytes r = (r.draft.script, r.same ∙ ap (λ (b : ℕ). cond (b == 0) (Ok r.draft.script) (Err r.number)) r.open_blocks)
