-- What the logs answer they bear out.
use Rattle.std.specs.Prelude.{◌≡◌, ℕ, List, Ok}
use Rattle.conn_report.specs.declared.entry.Entry.{Entry}
use Rattle.conn_script.specs.Grammar.{script_of}
use Rattle.conn_script.specs.declared.command.Script.{Script}
use Rattle.conn_server.specs.Connected.{Connected}
use Rattle.conn_reading.specs.Answered.{started}
use Rattle.conn_reading.proofs.Owned.{each_own}
use Rattle.conn_reading.proofs.Premises.{premises_left}
use Rattle.conn_reading.proofs.SessionLaws.{each_verdict, each_stands_over, each_clean, each_nested, kept_by_entries, names_rise}
use Rattle.conn_reading.proofs.SessionOnce.{session_once}
use Rattle.conn_session.specs.Accounts.{logs_of}
use Rattle.conn_session.specs.Commands.{IsAnswered, AreBorneOut, HasOwnStatements, IsParsed}

pub are_borne_out : (script : Script) (k : Connected) (entries : List Entry) → IsParsed script → IsAnswered script k entries → AreBorneOut script k entries
are_borne_out script k entries parsed is =
    let logs = logs_of k.returned in
    record {
      verdicts = each_verdict parsed.bytes script logs entries parsed.parses is.entries_are;
      depths = each_stands_over parsed.bytes script logs entries parsed.parses is.entries_are;
      clean = each_clean parsed.bytes script logs entries parsed.parses is.entries_are;
      nested = each_nested parsed.bytes script logs entries parsed.parses is.entries_are;
      folds = kept_by_entries parsed.bytes script logs entries parsed.parses is.entries_are;
      premises = premises_left parsed.bytes script logs entries parsed.parses is.entries_are;
    }

pub has_own_statements : (script : Script) (k : Connected) (entries : List Entry) → IsParsed script → IsAnswered script k entries → HasOwnStatements script (logs_of k.returned) entries
has_own_statements script k entries parsed is =
    let logs = logs_of k.returned in
    record {
      own = each_own (started script) logs script.commands;
      once = session_once parsed.bytes script logs parsed.parses;
      rising = names_rise parsed.bytes script logs entries parsed.parses is.entries_are;
    }

pub is_parsed : (bytes : List ℕ) (script : Script) → script_of bytes ≡ Ok script → IsParsed script
is_parsed bytes script parses = record { bytes = bytes; parses = parses }
