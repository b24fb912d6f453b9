-- What a MySQL URL says of a connection. Its parts are those of the URL Standard, by `parse_url`.
use Rattle.std.specs.Prelude.{ℕ, not, List, codes, None, Result, Ok, Err}
use Rattle.std.specs.Str.{bytes_eq}
use Rattle.url.specs.Parts.{Parts, nonempty_host}
use Rattle.url.specs.Parser.{parse_url, Parsed}
use Rattle.conn_model.specs.declared.plan.Target.{Target}
use Rattle.conn_model.specs.declared.plan.Target.TheVariants.{Mysql}
use Rattle.conn_result.specs.declared.error.ConnectionError.{ConnectionError}
use Rattle.conn_result.specs.declared.error.ConnectionError.TheVariants.{InvalidConnectionUrl}
use Rattle.conn_result.specs.declared.error.UrlFault.TheVariants.{Unparsable, Scheme, Segments, DatabaseKey, TlsKey}
use Rattle.mysql_url.specs.Outcomes.{◌>>=◌, unless}
use Rattle.mysql_url.specs.Strings.{c_string_if, credential, password_of}
use Rattle.mysql_url.specs.Paths.{database_of, has_more_segments}
use Rattle.mysql_url.specs.Queries.{keys_of}
use Rattle.mysql_url.specs.Hosts.{host_of}
use Rattle.mysql_url.specs.declared.mysql.connection.flags.CapabilityFlags.{CapabilityFlags}
use Rattle.mysql_url.specs.declared.mysql.connection.query.QueryKeys.{QueryKeys}
use Rattle.mysql_url.specs.declared.mysql.connection.options.ConnectionOptions.{ConnectionOptions}

-- the URL, or that there is none
abbrev pub url_or_fault : Parsed Parts → Result Parts ConnectionError
url_or_fault (Ok url) = Ok url
url_or_fault (Err e) = Err (InvalidConnectionUrl Unparsable)

-- the keys of a URL's query, where its scheme, its path and they themselves are those of a MySQL URL
abbrev pub mysql_keys : Parts → Result QueryKeys ConnectionError
mysql_keys url = do
  mysql ← unless (not (bytes_eq url.scheme (codes "mysql"))) (InvalidConnectionUrl Scheme) url
  short ← unless (has_more_segments mysql.path) (InvalidConnectionUrl Segments) mysql
  keys ← unless (keys_of short).has_database (InvalidConnectionUrl DatabaseKey) (keys_of short)
  unless keys.has_tls (InvalidConnectionUrl TlsKey) keys

-- asks that the rows be counted that an update found
abbrev pub found_rows : CapabilityFlags
found_rows = record { 0 = 2 }

-- the options of a MySQL URL with these keys
abbrev pub options_by : Parts → QueryKeys → Result ConnectionOptions ConnectionError
options_by url keys = do
  socket ← c_string_if keys.socket
  user ← credential url.username
  password ← password_of url.password
  Ok (record {
    host = host_of socket (nonempty_host url);
    user = user;
    password = password;
    database = database_of url.path;
    port = url.port;
    unix_socket = socket;
    client_flags = found_rows;
  })

-- the options of a URL, or its first fault
abbrev pub options_of : Parts → Result ConnectionOptions ConnectionError
options_of url = mysql_keys url >>= options_by url

-- what a text says of a connection, or its first fault
abbrev pub options_in : List ℕ → Result ConnectionOptions ConnectionError
options_in text = url_or_fault (parse_url None text) >>= options_of

-- where to connect to by these options
abbrev pub target_of : ConnectionOptions → Target
target_of options = Mysql (record {
  host = options.host;
  port = options.port;
  user = options.user;
  password = options.password;
  database = options.database;
  unix_socket = options.unix_socket;
  flags = options.client_flags.0;
})
