-- The texts by which a connection that was just opened sets itself up.
use Rattle.std.specs.Prelude.{List, [], ◌∷◌, ℕ, codes, Option, Some, None, Ok, Err}
use Rattle.conn_model.specs.Process.{Process, Stop}
use Rattle.conn_model.specs.declared.item.Call.TheVariants.{Prepare, Run}
use Rattle.conn_model.specs.declared.item.Dialect.{Dialect}
use Rattle.conn_model.specs.declared.item.Dialect.TheVariants.{Pg, Mysql, Sqlite}
use Rattle.conn_model.specs.declared.item.Refusal.{Refusal}
use Rattle.conn_manager.specs.Manages.{Done, Reply, ask, done}
use Rattle.conn_manager.specs.Statuses.{Status, reply_of}

-- PostgreSQL is told the time zone and the encoding, MySQL the time zone and its three character sets, SQLite nothing
abbrev pub setup_texts : Dialect → List (List ℕ)
setup_texts Pg = codes "SET TIME ZONE 'UTC'" ∷ codes "SET CLIENT_ENCODING TO 'UTF8'" ∷ []
setup_texts Mysql = codes "SET time_zone = '+00:00';" ∷ codes "SET character_set_client = 'utf8mb4'" ∷ codes "SET character_set_connection = 'utf8mb4'" ∷ codes "SET character_set_results = 'utf8mb4'" ∷ []
setup_texts Sqlite = []

-- a text is run, with no values for its binds
abbrev pub run_text : Dialect → List ℕ → Status → (Reply → Status → Process Done) → Process Done
run_text d text s next = ask d (Run []) text s (λ h s1. next (reply_of h.refusal) s1)

-- and so is one that was prepared, unless that was refused
abbrev pub run_ready : Dialect → List ℕ → Option Refusal → Status → (Reply → Status → Process Done) → Process Done
run_ready d text None s next = run_text d text s next
run_ready d text (Some r) s next = next (reply_of (Some r)) s

-- PostgreSQL runs a text at once; MySQL and SQLite prepare it first
abbrev pub execute_text : Dialect → List ℕ → Status → (Reply → Status → Process Done) → Process Done
execute_text Pg text s next = run_text Pg text s next
execute_text Mysql text s next = ask Mysql (Prepare None) text s (λ h s1. run_ready Mysql text h.refusal s1 next)
execute_text Sqlite text s next = ask Sqlite (Prepare None) text s (λ h s1. run_ready Sqlite text h.refusal s1 next)

-- a process, unless the text before it was refused
abbrev pub unless_refused : Reply → Status → Process Done → Process Done
unless_refused (Ok u) s p = p
unless_refused (Err e) s p = Stop (done (Err e) s)

-- each of some texts is executed, until one is refused
abbrev pub execute_texts : Dialect → List (List ℕ) → Status → Process Done
execute_texts d [] s = Stop (done (Ok tt) s)
execute_texts d (text ∷ texts) s = execute_text d text s (λ r s1. unless_refused r s1 (execute_texts d texts s1))

-- what an opening sends; it tells nothing, since a connection that is set up has no handler yet
abbrev pub setup_process : Dialect → Status → Process Done
setup_process d s = execute_texts d (setup_texts d) s
