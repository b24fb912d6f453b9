use Rattle.std.proofs.Common.{lit<}
use Rattle.std.proofs.lemmas.Str.Pattern.{strip_prefix_char}
use Rattle.mysql_url.proofs.Slashes.{slash_cut}
use Rattle.mysql_url.proofs.mysql.connection.path.segments_in.Goals as goal

pub returns : goal.returns
returns c = slash_cut c.args.path.now c.strip_prefix.result (strip_prefix_char 47 c.args.path.now c.strip_prefix.result c.strip_prefix.ensures.cases (lit< tt))
