-- The commands of a valid script send plain texts.
use Rattle.std.proofs.Common.{◌≡◌, ℕ, ◌+◌, Bool, true, false, ◌&&◌, ◌||◌, not, if◌then◌else◌, List, [], ◌∷◌, ◌++◌, codes, length, take, drop, refl, sym, ap, ◌∙◌, subst, Option, Some, None, Ok, Err, nat_eq, nat_lt, nat_le, arith}
use Rattle.std.specs.Prelude.{◌==◌, ⊤}
use Rattle.std.specs.List.{list_all, starts_with}
use Rattle.std.specs.Option.{option_map, is_none}
use Rattle.std.specs.Str.{bytes_eq, is_utf8}
use Rattle.std.proofs.lemmas.List.{take-append-drop}
use Rattle.std.proofs.lemmas.Slice.Eq.{bytes_eq-Decides}
use Rattle.conn_model.specs.Classes.{class, begins, is_begin, is_built, is_write, same_text, number_behind}
use Rattle.conn_model.specs.Numbers.{number}
use Rattle.conn_script.specs.Binds.{binds_named}
use Rattle.conn_script.specs.BlockForms.{block_named}
use Rattle.conn_script.specs.Drafts.{Draft, empty_draft, command_added, with_command, query_added, with_query, with_refused, with_refused_attempt, with_refused_row, with_row, with_url, can_close, if_closable}
use Rattle.conn_script.specs.Grammar.{connection_alone, query_call, size_named, act_from, act_of, with_act, with_declared, with_given_url, with_query_row, with_query_words, with_attempt_refusal, with_item_refusal, with_row_refusal, with_words, with_text, with_line, next, lines_of, judged_last, or_bad, judged, script_of}
use Rattle.conn_script.specs.Options.{◌>>=◌, guard}
use Rattle.conn_script.specs.Fields.{number_at, url_of, word_at}
use Rattle.conn_script.specs.Headers.{header_of}
use Rattle.conn_script.specs.Plans.{query_row_of, refused_attempt_of, refused_of, refused_row_of}
use Rattle.conn_script.specs.Queries.{declared_by, declared_of, id_at, is_query_text, query_text, safety_at}
use Rattle.conn_script.specs.Requests.{request_of}
use Rattle.conn_script.specs.Shapes.{shape_named}
use Rattle.conn_script.specs.Spelling.{word_named}
use Rattle.conn_script.specs.Words.{split_at, is_statement, begins_statement, has_mark}
use Rattle.conn_script.specs.declared.command.Act.{Act}
use Rattle.conn_script.specs.declared.command.Act.TheVariants as acts
use Rattle.conn_script.specs.declared.command.Command.{Command}
use Rattle.conn_script.specs.declared.command.QueryCall.{QueryCall}
use Rattle.conn_script.specs.declared.command.QueryCall.TheVariants as query_calls
use Rattle.conn_script.specs.declared.command.Script.{Script}
use Rattle.conn_script.specs.declared.command.Word.{Word}
use Rattle.conn_script.specs.declared.command.Word.TheVariants as words
use Rattle.conn_script.specs.declared.query.Declared.{Declared}
use Rattle.conn_reading.specs.Sessions.{AsksPlain, AllPlain, ScriptPlain}
use Rattle.conn_reading.specs.Verdicts.{is_plain}
use Rattle.conn_reading.proofs.EachSeat.{each-append}

-- ---- a statement text

begins_so : (w t : List ℕ) → starts_with nat_eq t w ≡ true → t ≡ w ++ drop (length w) t
begins_so w t h =
    let same : w ≡ take (length w) t = (bytes_eq-Decides w (take (length w) t)).0 h in
    sym (take-append-drop (length w) t) ∙ ap (λ (x : List ℕ). x ++ drop (length w) t) (sym same)

select_plain : (rest : List ℕ) → is_plain (class (codes "SELECT" ++ rest)) ≡ true
unfolding class begins is_begin is_built is_write same_text number_behind
select_plain rest = refl

insert_plain : (rest : List ℕ) → is_plain (class (codes "INSERT" ++ rest)) ≡ true
unfolding class begins is_begin is_built is_write same_text number_behind
insert_plain rest = refl

update_plain : (rest : List ℕ) → is_plain (class (codes "UPDATE" ++ rest)) ≡ true
unfolding class begins is_begin is_built is_write same_text number_behind
update_plain rest = refl

delete_plain : (rest : List ℕ) → is_plain (class (codes "DELETE" ++ rest)) ≡ true
unfolding class begins is_begin is_built is_write same_text number_behind
delete_plain rest = refl

empty_plain : is_plain (class []) ≡ true
unfolding class begins is_begin is_built is_write same_text number_behind
empty_plain = refl

space_plain : (rest : List ℕ) → is_plain (class (32 ∷ rest)) ≡ true
unfolding class begins is_begin is_built is_write same_text number_behind
space_plain rest = refl

spaces_plain : (t : List ℕ) → list_all (λ b. b == 32) t ≡ true → is_plain (class t) ≡ true
spaces_plain [] h = empty_plain
spaces_plain (b ∷ bs) h = first (b == 32) refl h
  where
    first : (c : Bool) → (b == 32) ≡ c → (c && list_all (λ b. b == 32) bs) ≡ true → is_plain (class (b ∷ bs)) ≡ true
    first true e g = let z : 32 ≡ b = grind arith in subst (λ (x : ℕ). is_plain (class (x ∷ bs)) ≡ true) z (space_plain bs)
    first false e g = absurd (cc)

word_plain : (t : List ℕ) → begins_statement t ≡ true → is_plain (class t) ≡ true
word_plain t h = by_word (starts_with nat_eq t (codes "SELECT")) (starts_with nat_eq t (codes "INSERT")) (starts_with nat_eq t (codes "UPDATE")) (starts_with nat_eq t (codes "DELETE")) refl refl refl refl h
  where
    plain_if : (x : List ℕ) → t ≡ x → is_plain (class x) ≡ true → is_plain (class t) ≡ true
    plain_if x e g = subst (λ (y : List ℕ). is_plain (class y) ≡ true) (sym e) g

    by_word : (a b c e : Bool) → starts_with nat_eq t (codes "SELECT") ≡ a → starts_with nat_eq t (codes "INSERT") ≡ b → starts_with nat_eq t (codes "UPDATE") ≡ c → starts_with nat_eq t (codes "DELETE") ≡ e → (a || b || c || e) ≡ true → is_plain (class t) ≡ true
    by_word true b c e p q r u g = plain_if (codes "SELECT" ++ drop 6 t) (begins_so (codes "SELECT") t p) (select_plain (drop 6 t))
    by_word false true c e p q r u g = plain_if (codes "INSERT" ++ drop 6 t) (begins_so (codes "INSERT") t q) (insert_plain (drop 6 t))
    by_word false false true e p q r u g = plain_if (codes "UPDATE" ++ drop 6 t) (begins_so (codes "UPDATE") t r) (update_plain (drop 6 t))
    by_word false false false true p q r u g = plain_if (codes "DELETE" ++ drop 6 t) (begins_so (codes "DELETE") t u) (delete_plain (drop 6 t))
    by_word false false false false p q r u g = absurd (cc)

pub statement_plain : (t : List ℕ) → is_statement t ≡ true → is_plain (class t) ≡ true
statement_plain t h = by_case (list_all (λ b. b == 32) t) (begins_statement t) refl refl h
  where
    by_case : (a b : Bool) → list_all (λ b. b == 32) t ≡ a → begins_statement t ≡ b → ((a || b) && not (has_mark t) && nat_le (length t) 65536) ≡ true → is_plain (class t) ≡ true
    by_case true b p q g = spaces_plain t p
    by_case false true p q g = word_plain t q
    by_case false false p q g = absurd (cc)

-- ---- the grammar

abbrev pub IfThere : {A : Type 0} → (A → Type 0) → Option A → Type 0
IfThere P None = ⊤
IfThere P (Some x) = P x

there_bind : {A B : Type 0} (Q : B → Type 0) (o : Option A) (f : A → Option B) → ((x : A) → IfThere Q (f x)) → IfThere Q (o >>= f)
there_bind Q None f h = tt
there_bind Q (Some x) f h = h x

there_bind_if : {A B : Type 0} (P : A → Type 0) (Q : B → Type 0) (o : Option A) (f : A → Option B) → IfThere P o → ((x : A) → P x → IfThere Q (f x)) → IfThere Q (o >>= f)
there_bind_if P Q None f g h = tt
there_bind_if P Q (Some x) f g h = h x g

there_nest : {A B C : Type 0} (Q : C → Type 0) (o : Option A) (f : A → Option B) (g : B → Option C) → ((x : A) → IfThere Q (f x >>= g)) → IfThere Q (o >>= f >>= g)
there_nest Q None f g h = tt
there_nest Q (Some x) f g h = h x

there_map : {A B : Type 0} (Q : B → Type 0) (o : Option A) (f : A → B) → ((x : A) → Q (f x)) → IfThere Q (option_map f o)
there_map Q None f h = tt
there_map Q (Some x) f h = h x

there_guard : {A : Type 0} (P : A → Type 0) (b : Bool) (x : A) → (b ≡ true → P x) → IfThere P (guard b x)
there_guard P true x h = h refl
there_guard P false x h = tt

there_guarded : {A B : Type 0} (Q : B → Type 0) (b : Bool) (x : A) (f : A → Option B) → (b ≡ true → IfThere Q (f x)) → IfThere Q (guard b x >>= f)
there_guarded Q true x f h = h refl
there_guarded Q false x f h = tt

-- the text of an act, where it has one
abbrev pub ActPlain : Act → Type 0
ActPlain act = AsksPlain (request_of act)

query_call_plain : (call : QueryCall) (rest : Option (List ℕ)) → IfThere ActPlain (query_call call rest)
query_call_plain call rest =
    there_bind ActPlain rest _ (λ text. there_bind ActPlain (number 4294967296 (split_at 32 text).0) _ (λ c. there_bind ActPlain (split_at 32 text).1 _ (λ query. there_bind ActPlain (number 4294967296 query) _ (λ q. tt))))

act_plain : (word : Word) (rest : Option (List ℕ)) → IfThere ActPlain (act_from word rest)
act_plain words.Get rest = there_guard ActPlain (is_none rest) acts.Get (λ e. tt)
act_plain words.Put rest = there_map ActPlain (connection_alone rest) acts.Put (λ n. tt)
act_plain words.Batch rest =
    there_bind ActPlain rest _ (λ text. there_bind ActPlain (number 4294967296 (split_at 32 text).0) _ (λ c. there_bind ActPlain (split_at 32 text).1 _ (λ statement.
    there_guard ActPlain (is_statement statement) (acts.Batch c statement) (statement_plain statement))))
act_plain words.Begin rest = there_map ActPlain (connection_alone rest) acts.Begin (λ n. tt)
act_plain words.Commit rest = there_map ActPlain (connection_alone rest) acts.Commit (λ n. tt)
act_plain words.Rollback rest = there_map ActPlain (connection_alone rest) acts.Rollback (λ n. tt)
act_plain words.TestBegin rest = there_map ActPlain (connection_alone rest) acts.TestBegin (λ n. tt)
act_plain words.Exec rest = query_call_plain query_calls.Exec rest
act_plain words.Load rest = query_call_plain query_calls.Load rest
act_plain words.Each rest = query_call_plain query_calls.Each rest
act_plain words.One rest = query_call_plain query_calls.One rest
act_plain words.Optional rest = query_call_plain query_calls.Optional rest
act_plain words.CacheSize rest =
    there_bind ActPlain rest _ (λ text. there_bind ActPlain (number 4294967296 (split_at 32 text).0) _ (λ c. there_bind ActPlain ((split_at 32 text).1 >>= size_named) _ (λ size. tt)))
act_plain words.Ping rest = there_map ActPlain (connection_alone rest) acts.Ping (λ n. tt)
act_plain words.Transaction rest =
    there_bind ActPlain rest _ (λ text. there_bind ActPlain (number 4294967296 (split_at 32 text).0) _ (λ c. there_bind ActPlain ((split_at 32 text).1 >>= block_named) _ (λ kind. tt)))
act_plain words.End rest = there_map ActPlain (connection_alone rest) acts.End (λ n. tt)
act_plain words.Fail rest = there_map ActPlain (connection_alone rest) acts.Fail (λ n. tt)

plain-append : (xs ys : List Command) → AllPlain xs → AllPlain ys → AllPlain (xs ++ ys)
plain-append [] ys h g = g
plain-append (x ∷ xs) ys h g = (h.0, plain-append xs ys h.1 g)

-- the text of a query is plain
abbrev pub QueryPlain : Declared → Type 0
QueryPlain q = is_plain (class q.text) ≡ true

query_text_plain : (t : List ℕ) → is_query_text t ≡ true → is_plain (class t) ≡ true
query_text_plain t h = by_size (nat_le (length t) 512) h
  where
    by_size : (b : Bool) → (b && is_statement t) ≡ true → is_plain (class t) ≡ true
    by_size true g = statement_plain t g
    by_size false g = absurd (cc)

declared_plain : (rest : Option (List ℕ)) → IfThere QueryPlain (declared_of rest)
declared_plain rest =
    there_nest QueryPlain (number_at 0 65535 rest) _ declared_by (λ number. there_nest QueryPlain (safety_at number.1) _ declared_by (λ safety. there_nest QueryPlain (id_at safety.1) _ declared_by (λ id.
    there_nest QueryPlain (word_at id.1) _ declared_by (λ binds. there_nest QueryPlain (word_at binds.1) _ declared_by (λ shape. there_nest QueryPlain shape.1 _ declared_by (λ text.
    there_guarded QueryPlain (is_query_text text) _ declared_by (λ e. there_bind QueryPlain (binds_named binds.0) _ (λ b. there_bind QueryPlain (shape_named shape.0) _ (λ columns. query_text_plain text e)))))))))

-- the draft's script sends plain texts
abbrev pub DraftPlain : Draft → Type 0
DraftPlain d = ScriptPlain d.script

-- a line with the URL, or one more of the plan, leaves the texts
given_url_plain : (d : Draft) (rest : Option (List ℕ)) → DraftPlain d → IfThere DraftPlain (with_given_url d rest)
given_url_plain d rest h = there_bind DraftPlain (url_of rest) (with_url d) (λ url. there_guard DraftPlain _ _ (λ e. h))

refusal_plain : (d : Draft) (rest : Option (List ℕ)) → DraftPlain d → IfThere DraftPlain (with_item_refusal d rest)
refusal_plain d rest h = there_bind DraftPlain (refused_of d.script.dialect rest) (with_refused d) (λ r. there_guard DraftPlain _ _ (λ e. h))

row_refusal_plain : (d : Draft) (rest : Option (List ℕ)) → DraftPlain d → IfThere DraftPlain (with_row_refusal d rest)
row_refusal_plain d rest h = there_bind DraftPlain (refused_row_of d.script.dialect rest) (with_refused_row d) (λ r. there_guard DraftPlain _ _ (λ e. h))

attempt_refusal_plain : (d : Draft) (rest : Option (List ℕ)) → DraftPlain d → IfThere DraftPlain (with_attempt_refusal d rest)
attempt_refusal_plain d rest h = there_bind DraftPlain (refused_attempt_of rest) (with_refused_attempt d) (λ r. there_guard DraftPlain _ _ (λ e. h))

query_row_plain : (d : Draft) (rest : Option (List ℕ)) → DraftPlain d → IfThere DraftPlain (with_query_row d rest)
query_row_plain d rest h = there_bind DraftPlain (query_row_of rest) (with_row d) (λ r. there_bind DraftPlain (query_text d.script.queries r.query) _ (λ text. there_guard DraftPlain _ _ (λ e. h)))

query_plain : (d : Draft) (rest : Option (List ℕ)) → DraftPlain d → IfThere DraftPlain (with_declared d rest)
query_plain d rest h =
    there_bind_if QueryPlain DraftPlain (declared_of rest) (with_query d) (declared_plain rest) (λ q g. there_guard DraftPlain _ (query_added d q) (λ e. (h.0, each-append QueryPlain d.script.queries (q ∷ []) h.1 (g, tt))))

command_plain : (n : ℕ) (d : Draft) (first : List ℕ) (rest : Option (List ℕ)) → DraftPlain d → IfThere DraftPlain (with_act n d first rest)
command_plain n d first rest h =
    there_bind_if ActPlain DraftPlain (act_of first rest) (with_command n d) (there_bind ActPlain (word_named first) (λ word. act_from word rest) (λ word. act_plain word rest))
    (λ act g. there_guard DraftPlain _ (command_added n d act) (λ e. (plain-append d.script.commands (record { line = n; act = act } ∷ []) h.0 (g, tt), h.1)))

-- either of two
there_either : (b : Bool) (o p : Option Draft) → IfThere DraftPlain o → IfThere DraftPlain p → IfThere DraftPlain (if b then o else p)
there_either true o p h g = h
there_either false o p h g = g

query_words_plain : (n : ℕ) (d : Draft) (first : List ℕ) (rest : Option (List ℕ)) → DraftPlain d → IfThere DraftPlain (with_query_words n d first rest)
query_words_plain n d first rest h =
    there_either (bytes_eq first (codes "query")) (with_declared d rest) _ (query_plain d rest h) (there_either (bytes_eq first (codes "row")) (with_query_row d rest) _ (query_row_plain d rest h) (command_plain n d first rest h))

words_plain : (n : ℕ) (d : Draft) (line : List ℕ × Option (List ℕ)) → DraftPlain d → IfThere DraftPlain (with_words n d line)
words_plain n d line h =
    there_either (bytes_eq line.0 (codes "url")) (with_given_url d line.1) _ (given_url_plain d line.1 h)
    (there_either (bytes_eq line.0 (codes "refuse")) (with_item_refusal d line.1) _ (refusal_plain d line.1 h)
    (there_either (bytes_eq line.0 (codes "refuserow")) (with_row_refusal d line.1) _ (row_refusal_plain d line.1 h)
    (there_either (bytes_eq line.0 (codes "noconnect")) (with_attempt_refusal d line.1) _ (attempt_refusal_plain d line.1 h) (query_words_plain n d line.0 line.1 h))))

text_plain : (n : ℕ) (d : Draft) (line : List ℕ) → DraftPlain d → IfThere DraftPlain (with_text n d line)
text_plain n d line h = there_bind_if DraftPlain DraftPlain (with_words n d (split_at 32 line)) if_closable (words_plain n d (split_at 32 line) h) (λ e g. there_guard DraftPlain (can_close e) e (λ c. g))

line_plain : (n : ℕ) (o : Option Draft) (line : List ℕ) → IfThere DraftPlain o → IfThere DraftPlain (with_line n o line)
line_plain n None line h = there_map DraftPlain (header_of line) empty_draft (λ header. (tt, tt))
line_plain n (Some d) line h = text_plain n d line h

next_plain : (n : ℕ) (o : Option Draft) (line : List ℕ) → IfThere DraftPlain o → IfThere DraftPlain (next n o line)
next_plain n o line h = there_either (is_utf8 line) (with_line n o line) None (line_plain n o line h) tt

last_plain : (n : ℕ) (o : Option Draft) (last : List ℕ) (script : Script) → IfThere DraftPlain o → judged_last n o last ≡ Ok script → ScriptPlain script
last_plain n (Some d) [] script h is = by_blocks (d.blocks == 0) is
  where
    by_blocks : (b : Bool) → (if b then Ok d.script else Err n) ≡ Ok script → ScriptPlain script
    by_blocks true e = let same : d.script ≡ script = cc in subst ScriptPlain same h
    by_blocks false e = absurd (cc)
last_plain n (Some d) (b ∷ bs) script h is = absurd (cc)
last_plain n None last script h is = absurd (cc)

judged_plain : (n : ℕ) (o : Option Draft) (lines : List (List ℕ)) (script : Script) → IfThere DraftPlain o → judged n o lines ≡ Ok script → ScriptPlain script
judged_plain n o [] script h is = absurd (cc)
judged_plain n o (last ∷ []) script h is = last_plain n o last script h is
judged_plain n o (line ∷ more ∷ lines) script h is = go (next n o line) (next_plain n o line h) is (λ d g e. judged_plain (n + 1) (Some d) (more ∷ lines) script g e)
  where
    go : (m : Option Draft) → IfThere DraftPlain m → or_bad n m (λ d. judged (n + 1) (Some d) (more ∷ lines)) ≡ Ok script → ((d : Draft) → DraftPlain d → judged (n + 1) (Some d) (more ∷ lines) ≡ Ok script → ScriptPlain script) → ScriptPlain script
    go None g e rest = absurd (cc)
    go (Some d) g e rest = rest d g e

-- a valid script
pub script_plain : (bytes : List ℕ) (script : Script) → script_of bytes ≡ Ok script → ScriptPlain script
script_plain bytes script is = by_size (nat_lt 16777216 (length bytes)) is
  where
    by_size : (b : Bool) → (if b then Err 0 else judged 1 None (lines_of bytes)) ≡ Ok script → ScriptPlain script
    by_size true e = absurd (cc)
    by_size false e = judged_plain 1 None (lines_of bytes) script tt e
