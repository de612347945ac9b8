-- Where a socket is asked to listen.
use Rattle.std.specs.Prelude.{◌≡◌, ℕ, List, ◌++◌, codes, Option, None, Some}
use Rattle.nm_commands.specs.declared.listen_settings.ListenSettings.{ListenSettings}
use Rattle.nm_reports.specs.declared.address.Address.{Address}
use Rattle.nm_reports.specs.declared.address.Address.TheVariants.{Named, LocalPort}
use Rattle.nm_reports.specs.declared.address.Port.{Port}
use Rattle.nm_reports.specs.declared.address.Port.TheVariants.{Clients, Control}

-- The address is that of a Unix socket at this path.
abbrev pub IsAtPath : Address → List ℕ → Type 0
IsAtPath (Named text) path = text.now ≡ codes "unix:" ++ path
IsAtPath (LocalPort port) path = ⊥

-- For clients: a port that was named stands in place of the address.
abbrev pub client_address : Option ℕ → ListenSettings → Address
client_address (Some number) listening = LocalPort number
client_address None listening = Named listening.address

-- Where they connect.
abbrev pub address_of : Port → ListenSettings → Address
address_of Clients listening = client_address listening.port listening
address_of Control listening = Named listening.control
