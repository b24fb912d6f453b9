-- The host of a URL.
use Rattle.std.specs.Prelude.{ℕ, ◌&&◌, List, codes, Option, Some, None, is_some, if◌then◌else◌}
use Rattle.std.specs.Str.{bytes_eq}
use Rattle.std.specs.Net.Addr.{ipv4_octets, ipv6_segments}
use Rattle.std.specs.Net.Text.{ipv4_text, hex_groups_text}
use Rattle.url.specs.declared.host.Host.{Host}
use Rattle.url.specs.declared.host.Host.TheVariants.{Domain, Ipv4, Ipv6}

-- its name, or its address as the URL writes it, without brackets
abbrev pub host_name : Host (List ℕ) → List ℕ
host_name (Domain domain) = domain
host_name (Ipv4 address) = ipv4_text (ipv4_octets address)
host_name (Ipv6 address) = hex_groups_text (ipv6_segments address)

-- the name, unless it is `localhost` beside a socket
abbrev pub unless_local : Option (List ℕ) → List ℕ → Option (List ℕ)
unless_local socket name = if is_some socket && bytes_eq name (codes "localhost") then None else Some name

-- the host beside this socket
abbrev pub host_of : Option (List ℕ) → Option (Host (List ℕ)) → Option (List ℕ)
host_of socket None = None
host_of socket (Some host) = unless_local socket (host_name host)
