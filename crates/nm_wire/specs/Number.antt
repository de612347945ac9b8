-- Numbers of the NBD protocol: their byte order, and the magic numbers.
use Rattle.std.specs.Prelude.{ℕ, List}
use Rattle.std.specs.Int.{bytes_high_first}

-- a number as this many bytes, the highest first (network byte order)
unfoldable pub be : ℕ → ℕ → List ℕ
be width number = bytes_high_first width number

-- "NBDMAGIC", the first number of the greeting ("Newstyle negotiation")
abbrev pub greeting_magic : ℕ
greeting_magic = 0x4e42444d41474943

-- "IHAVEOPT", the first number of each option that the client sends ("Fixed newstyle negotiation")
abbrev pub option_magic : ℕ
option_magic = 0x49484156454f5054

-- the first number of each reply to an option ("Fixed newstyle negotiation")
abbrev pub option_reply_magic : ℕ
option_reply_magic = 0x0003e889045565a9

-- the first number of each request ("Request message")
abbrev pub request_magic : ℕ
request_magic = 0x25609513

-- the first number of each simple reply ("Simple reply message")
abbrev pub simple_reply_magic : ℕ
simple_reply_magic = 0x67446698
