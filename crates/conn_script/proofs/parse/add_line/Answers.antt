use Rattle.std.proofs.Common.{◌≡◌, ◌∙◌, ℕ, Bool, true, false, cond, List, Option, refl, ap, sym, subst, codes}
use Rattle.std.specs.Option.{option_copied}
use Rattle.std.specs.Result.{IfOk}
use Rattle.std.specs.Str.{bytes_eq}
use Rattle.std.specs.Cmp.Lexicographic.{bytes_decides}
use Rattle.conn_script.specs.Drafts.{Draft}
use Rattle.conn_script.specs.Options.{guard}
use Rattle.conn_script.specs.Grammar.{with_attempt_refusal, with_given_url, with_item_refusal, with_query_words, with_row_refusal, with_words}
use Rattle.conn_script.proofs.parse.add_line.Goals as goal

differs : (w v : List ℕ) → (w ≡ v → ⊥) → bytes_eq w v ≡ false
differs w v h = by_test (bytes_eq w v) refl
  where
    by_test : (b : Bool) → bytes_eq w v ≡ b → b ≡ false
    by_test true e = absurd (h ((bytes_decides w v).0 e))
    by_test false e = refl

-- a line that gives no URL and refuses nothing
passes : (n : ℕ) (d : Draft) (w : List ℕ) (r : Option (List ℕ)) → bytes_eq w (codes "url") ≡ false → bytes_eq w (codes "refuse") ≡ false → bytes_eq w (codes "refuserow") ≡ false → bytes_eq w (codes "noconnect") ≡ false
    → with_words n d (w, r) ≡ with_query_words n d w r
passes n d w r u a b c =
    ap (λ (t : Bool). cond t (with_given_url d r) (cond (bytes_eq w (codes "refuse")) (with_item_refusal d r) (cond (bytes_eq w (codes "refuserow")) (with_row_refusal d r) (cond (bytes_eq w (codes "noconnect")) (with_attempt_refusal d r) (with_query_words n d w r))))) u
    ∙ ap (λ (t : Bool). cond t (with_item_refusal d r) (cond (bytes_eq w (codes "refuserow")) (with_row_refusal d r) (cond (bytes_eq w (codes "noconnect")) (with_attempt_refusal d r) (with_query_words n d w r)))) a
    ∙ ap (λ (t : Bool). cond t (with_row_refusal d r) (cond (bytes_eq w (codes "noconnect")) (with_attempt_refusal d r) (with_query_words n d w r))) b
    ∙ ap (λ (t : Bool). cond t (with_attempt_refusal d r) (with_query_words n d w r)) c

pub returns-in_default : goal.returns-in_default
returns-in_default c =
    let w = c.args.word.now in
    subst (λ (o : Option Draft). IfOk c.add_query_line.result (λ good. guard good c.add_query_line.new.draft ≡ o))
    (sym (passes c.args.number c.args.draft.now w (option_copied c.args.rest) (differs w (codes "url") c.in_default.not-url) (differs w (codes "refuse") c.in_default.not-refuse) (differs w (codes "refuserow") c.in_default.not-refuserow) (differs w (codes "noconnect") c.in_default.not-noconnect)))
    c.add_query_line.ensures
