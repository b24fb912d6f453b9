-- What a server in memory gives that is asked for a row.
use Rattle.std.proofs.Common.{◌≡◌, List, [], ◌∷◌, length, Some, None, refl, ap, sym, ◌∙◌, arith}
use Rattle.conn_model.specs.Armed.{Values}
use Rattle.conn_model.specs.Rows.{GivenRow, NoRow}
use Rattle.conn_model.specs.Seen.{Seen}
use Rattle.conn_server.specs.Feeds.{left_rows, fed_on}
use Rattle.conn_server.specs.Firsts.{seen_scripted}
use Rattle.conn_server.specs.Ordered.{order_of, is_none_ordered}
use Rattle.conn_server.specs.RowTables.{record_before}
use Rattle.conn_server.specs.Scripted.{seen_of}
use Rattle.conn_server.specs.declared.feed.Feed.{Feed}
use Rattle.conn_server.specs.declared.row_table.RowRecord.{RowRecord}
use Rattle.conn_server.specs.declared.scripted.ScriptedServer.{ScriptedServer}
use Rattle.conn_server.proofs.Feeding.{IsFed, IsNext, none_left_by}

-- what its type says of the rows of a server
pub fed_so : (s : ScriptedServer) → IsFed s.feed s.log.last
fed_so s = record { feeds = s.feeds; at_row = s.at_row; within = s.within; few = s.few }

-- what is seen of it with other rows of the last run left
abbrev pub seen_with : ScriptedServer → Feed → Seen
seen_with s feed = seen_of s.dialect s.number s.log s.standing.state s.failures s.room.items s.room.bytes (is_none_ordered s.orders) (order_of s.orders) feed

pub gives_none : (s : ScriptedServer) → record_before s.feed.rows s.feed.cursor ≡ None → NoRow (seen_scripted s) (seen_scripted s)
gives_none s none =
    let no : left_rows s.feed s.log.last ≡ [] = none_left_by s.feed s.log.last (fed_so s) none in
    record {
      left = ap (λ (rows : List Values). length rows) no;
      rows = ap (λ (rows : List Values). Some rows) no;
      keeps = refl;
    }

pub gives_next : (s : ScriptedServer) (r : RowRecord) (row : Values) → IsNext s.feed s.log.last r → row ≡ r.row → GivenRow (seen_scripted s) (seen_with s (fed_on r.next s.feed)) row
gives_next s r row next is =
    let rest = left_rows (fed_on r.next s.feed) s.log.last in
    let rows : left_rows s.feed s.log.last ≡ row ∷ rest = next.row ∙ ap (λ (v : Values). v ∷ rest) (sym is) in
    let size : length (left_rows s.feed s.log.last) ≡ length (row ∷ rest) = ap (λ (rs : List Values). length rs) rows in
    record {
      left = omega (arith, size);
      rows = ap (λ (rs : List Values). Some rs) rows;
      keeps = refl;
    }
