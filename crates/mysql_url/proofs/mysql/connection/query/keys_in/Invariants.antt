use Rattle.std.proofs.Common.{◌≡◌}
use Rattle.form_urlencoded.specs.Parse.{pairs_left}
use Rattle.mysql_url.specs.Queries.{with_pairs, keys_of}
use Rattle.mysql_url.proofs.mysql.connection.query.keys_in.Given as goal

abbrev pub invariant-loop-pair : goal.invariant-loop-pair
invariant-loop-pair l = with_pairs l.keys (pairs_left l.pair-iterator) ≡ keys_of l.url
