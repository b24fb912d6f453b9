-- The lines of stanzas, and the commands that they are read as.
use Rattle.std.proofs.Common.{◌≡◌, ℕ, ◌<◌, ◌≤◌, Bool, true, false, List, ◌++◌, length, Some, refl, ap, ◌∙◌, arith, length-append}
use Rattle.std.specs.Prelude.{◌&&◌, not, nat_le, nat_lt, codes, decimal}
use Rattle.std.specs.List.{list_all, All}
use Rattle.std.specs.Str.{IsUtf8}
use Rattle.std.proofs.lemmas.Bool.{ltb-true}
use Rattle.std.proofs.lemmas.Bool.Decides.{nat_tests}
use Rattle.std.proofs.lemmas.Fmt.{IsAscii-decimal, length-decimal-le}
use Rattle.std.proofs.lemmas.List.Sums.{AllPass-from_list_all}
use Rattle.std.proofs.lemmas.Str.{IsUtf8-append, IsUtf8-from_ascii}
use Rattle.std.proofs.lemmas.Str.Ascii.{IsAscii-from_all}
use Rattle.conn_script.specs.Drafts.{Draft, if_closable, may_come, with_command}
use Rattle.conn_script.specs.Grammar.{next, with_text}
use Rattle.conn_script.specs.Openings.{blocks_behind, inside_behind, may_stand}
use Rattle.conn_script.specs.Options.{◌>>=◌, guard}
use Rattle.conn_script.specs.Requests.{request_of}
use Rattle.conn_script.specs.Words.{has_mark, is_statement}
use Rattle.conn_script.specs.declared.command.Act.{Act}
use Rattle.conn_script.specs.declared.command.Act.TheVariants.{Get, Put, Batch, Begin, Commit, Rollback, Block, End, Fail}
use Rattle.conn_script.specs.declared.command.BlockKind.TheVariants.{Plain}
use Rattle.conn_script.proofs.Lines.{next_reads}
use Rattle.script_generator.proofs.Digits.{number_unmarked}

-- The line is that of a command that may come where so many blocks of connection 0 are open, and
-- behind which so many are.
pub record IsCommand (line : List ℕ) (act : Act) (blocks behind : ℕ) : Type 0 where
  pub reads : (n : ℕ) (d : Draft) → next n (Some d) line ≡ (with_command n d act >>= if_closable)
  pub comes : (d : Draft) → d.blocks ≡ blocks → d.inside ≡ 0 → may_come d (request_of act) ≡ true
  pub bounds : blocks_behind blocks (request_of act) ≡ behind
  pub inside : inside_behind 0 (request_of act) ≡ 0

-- bytes of ASCII are text
pub text_is : (bs : List ℕ) → list_all (λ b. nat_lt b 128) bs ≡ true → IsUtf8 bs
text_is bs e = IsUtf8-from_ascii bs (IsAscii-from_all bs (below 128 bs e))
  where
    below : (n : ℕ) (bs : List ℕ) → list_all (λ b. nat_lt b n) bs ≡ true → All (λ b. b < n) bs
    below n bs e = λ k d lt. ltb-true _ n (AllPass-from_list_all (λ b. nat_lt b n) bs e k d lt)

-- what a line is read as, and that it may come where it may stand, asking for no query and no rows
command_is : (line : List ℕ) (act : Act) (blocks behind : ℕ) → IsUtf8 line → ((n : ℕ) (d : Draft) → with_text n d line ≡ (with_command n d act >>= if_closable))
    → ((d : Draft) → may_come d (request_of act) ≡ (may_stand d.blocks d.inside (request_of act) && true && true)) → may_stand blocks 0 (request_of act) ≡ true → blocks_behind blocks (request_of act) ≡ behind
    → inside_behind 0 (request_of act) ≡ 0 → IsCommand line act blocks behind
command_is line act blocks behind text is plain stands bounds inside = record {
  reads = λ n d. next_reads n (Some d) line text ∙ is n d;
  comes = λ d b i.
      plain d
      ∙ ap (λ (x : ℕ). may_stand x d.inside (request_of act) && true && true) b
      ∙ ap (λ (x : ℕ). may_stand blocks x (request_of act) && true && true) i
      ∙ ap (λ (t : Bool). t && true && true) stands;
  bounds = bounds;
  inside = inside;
}

pub is_get : IsCommand (codes "get") Get 0 0
is_get = command_is (codes "get") Get 0 0 (text_is (codes "get") refl) (λ n d. refl) (λ d. refl) refl refl refl

pub is_put : IsCommand (codes "put 0") (Put 0) 0 0
is_put = command_is (codes "put 0") (Put 0) 0 0 (text_is (codes "put 0") refl) (λ n d. refl) (λ d. refl) refl refl refl

pub is_begin : IsCommand (codes "begin 0") (Begin 0) 0 0
is_begin = command_is (codes "begin 0") (Begin 0) 0 0 (text_is (codes "begin 0") refl) (λ n d. refl) (λ d. refl) refl refl refl

pub is_commit : IsCommand (codes "commit 0") (Commit 0) 0 0
is_commit = command_is (codes "commit 0") (Commit 0) 0 0 (text_is (codes "commit 0") refl) (λ n d. refl) (λ d. refl) refl refl refl

pub is_rollback : IsCommand (codes "rollback 0") (Rollback 0) 0 0
is_rollback = command_is (codes "rollback 0") (Rollback 0) 0 0 (text_is (codes "rollback 0") refl) (λ n d. refl) (λ d. refl) refl refl refl

pub is_block : IsCommand (codes "transaction 0 plain") (Block 0 Plain) 0 1
is_block = command_is (codes "transaction 0 plain") (Block 0 Plain) 0 1 (text_is (codes "transaction 0 plain") refl) (λ n d. refl) (λ d. refl) refl refl refl

pub is_end : IsCommand (codes "end 0") (End 0) 1 0
is_end = command_is (codes "end 0") (End 0) 1 0 (text_is (codes "end 0") refl) (λ n d. refl) (λ d. refl) refl refl refl

pub is_fail : IsCommand (codes "fail 0") (Fail 0) 1 0
is_fail = command_is (codes "fail 0") (Fail 0) 1 0 (text_is (codes "fail 0") refl) (λ n d. refl) (λ d. refl) refl refl refl

-- ---- batches, whose texts end with a number

pub short_number : (i : ℕ) → i < 100000 → length (decimal i) ≤ 5
short_number i h = length-decimal-le 5 i (omega arith) (omega arith) (omega arith)

numbered : (front : List ℕ) (i : ℕ) → i < 100000 → list_all (λ b. nat_lt b 128) front ≡ true → IsUtf8 (front ++ decimal i)
numbered front i h e =
    IsUtf8-append front (decimal i) (text_is front e) (IsUtf8-from_ascii (decimal i) (IsAscii-decimal i (omega arith)))

passes : (marked : Bool) (n : ℕ) → marked ≡ false → n ≤ 65536 → (true && not marked && nat_le n 65536) ≡ true
passes marked n e h = grind (arith, nat_tests)

-- a word and a space before a number, with which a statement may begin
statement_is : (word : List ℕ) (i : ℕ) → ((bs : List ℕ) → is_statement (word ++ bs) ≡ (true && not (has_mark bs) && nat_le (length (word ++ bs)) 65536)) → length word ≡ 7 → i < 100000
    → is_statement (word ++ decimal i) ≡ true
statement_is word i begins w h =
    begins (decimal i)
    ∙ passes (has_mark (decimal i)) (length (word ++ decimal i)) (number_unmarked i (omega arith)) (omega (arith, w, short_number i h, length-append word (decimal i)))

batch_reads : (n : ℕ) (d : Draft) (text : List ℕ) → is_statement text ≡ true → (guard (is_statement text) (Batch 0 text) >>= with_command n d >>= if_closable) ≡ (with_command n d (Batch 0 text) >>= if_closable)
batch_reads n d text h = ap (λ (t : Bool). guard t (Batch 0 text) >>= with_command n d >>= if_closable) h

pub is_insert : (i : ℕ) → i < 100000 → IsCommand (codes "batch 0 INSERT " ++ decimal i) (Batch 0 (codes "INSERT " ++ decimal i)) 0 0
is_insert i h =
    command_is (codes "batch 0 INSERT " ++ decimal i) (Batch 0 (codes "INSERT " ++ decimal i)) 0 0 (numbered (codes "batch 0 INSERT ") i h refl)
    (λ n d. batch_reads n d (codes "INSERT " ++ decimal i) (statement_is (codes "INSERT ") i (λ bs. refl) refl h)) (λ d. refl) refl refl refl

pub is_select : (i : ℕ) → i < 100000 → IsCommand (codes "batch 0 SELECT " ++ decimal i) (Batch 0 (codes "SELECT " ++ decimal i)) 0 0
is_select i h =
    command_is (codes "batch 0 SELECT " ++ decimal i) (Batch 0 (codes "SELECT " ++ decimal i)) 0 0 (numbered (codes "batch 0 SELECT ") i h refl)
    (λ n d. batch_reads n d (codes "SELECT " ++ decimal i) (statement_is (codes "SELECT ") i (λ bs. refl) refl h)) (λ d. refl) refl refl refl

pub is_update : (i : ℕ) → i < 100000 → IsCommand (codes "batch 0 UPDATE " ++ decimal i) (Batch 0 (codes "UPDATE " ++ decimal i)) 1 1
is_update i h =
    command_is (codes "batch 0 UPDATE " ++ decimal i) (Batch 0 (codes "UPDATE " ++ decimal i)) 1 1 (numbered (codes "batch 0 UPDATE ") i h refl)
    (λ n d. batch_reads n d (codes "UPDATE " ++ decimal i) (statement_is (codes "UPDATE ") i (λ bs. refl) refl h)) (λ d. refl) refl refl refl

pub is_delete : (i : ℕ) → i < 100000 → IsCommand (codes "batch 0 DELETE " ++ decimal i) (Batch 0 (codes "DELETE " ++ decimal i)) 1 1
is_delete i h =
    command_is (codes "batch 0 DELETE " ++ decimal i) (Batch 0 (codes "DELETE " ++ decimal i)) 1 1 (numbered (codes "batch 0 DELETE ") i h refl)
    (λ n d. batch_reads n d (codes "DELETE " ++ decimal i) (statement_is (codes "DELETE ") i (λ bs. refl) refl h)) (λ d. refl) refl refl refl
