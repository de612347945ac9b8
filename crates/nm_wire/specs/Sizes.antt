-- Sizes in bytes that the protocol fixes or leaves to the server.
use Rattle.std.specs.Prelude.{ℕ}

-- the minimum block size ("Block size constraints")
abbrev pub min_block : ℕ
min_block = 1

-- the preferred block size ("Block size constraints")
abbrev pub preferred_block : ℕ
preferred_block = 4096

-- the maximum block size, and the most data of one READ or WRITE ("Block size constraints")
abbrev pub max_payload : ℕ
max_payload = 33554432

-- the most data of an option ("Fixed newstyle negotiation")
abbrev pub max_option_data : ℕ
max_option_data = 65536

-- how many zeroes end the reply to EXPORT_NAME ("Newstyle negotiation")
abbrev pub export_name_zeroes : ℕ
export_name_zeroes = 124
