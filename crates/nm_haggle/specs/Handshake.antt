-- A client's text in the handshake as a tree, its bytes, and where it leads ("Fixed newstyle
-- negotiation").
use Rattle.std.specs.Prelude.{◌≡◌, ◌≢◌, ℕ, ◌<◌, ◌≤◌, ◌^◌, Bool, false, ◌==◌, bit_and, List, []}
use Rattle.std.specs.Prelude.{◌++◌, length}
use Rattle.std.specs.List.{flat_map, AllByRecursion}
use Rattle.nm_wire.specs.Number.{be}
use Rattle.nm_wire.specs.declared.export.Export.{Export}
use Rattle.nm_haggle.specs.declared.next.Next.{Next}
use Rattle.nm_haggle.specs.declared.next.Next.TheVariants.{More, Close}
use Rattle.nm_haggle.specs.declared.phase.Phase.{Phase}
use Rattle.nm_haggle.specs.declared.phase.Phase.TheVariants as phase
use Rattle.nm_haggle.specs.ClientOption.{ClientOption, option_bytes, IsAccepted, IsUnfinished}
use Rattle.nm_haggle.specs.ClientOption.{IsRefused}
use Rattle.nm_haggle.specs.Answer.{answer_to}

-- how options end: with an incomplete one, with one that ends the haggling, or with a header that
-- closes the session; what follows an end is not read
pub data Ending : Type 0 where
  Waits : (rest : List ℕ) → Ending
  Settles : (option : ClientOption) (following : List ℕ) → Ending
  Breaks : (head following : List ℕ) → Ending

-- options after each of which the haggling goes on, and the ending
pub record Options : Type 0 where
  pub answered : List ClientOption
  pub ending : Ending

-- a whole text: less than the client's flags, flags that close the session, or flags and options
pub data Handshake : Type 0 where
  NoFlags : (rest : List ℕ) → Handshake
  BadFlags : (flags : ℕ) (following : List ℕ) → Handshake
  GoodFlags : (flags : ℕ) (options : Options) → Handshake

-- the bytes of an ending
abbrev pub ending_bytes : Ending → List ℕ
ending_bytes (Waits rest) = rest
ending_bytes (Settles option following) = option_bytes option ++ following
ending_bytes (Breaks head following) = head ++ following

-- the bytes of options
abbrev pub options_bytes : Options → List ℕ
options_bytes t = flat_map option_bytes t.answered ++ ending_bytes t.ending

-- the bytes of a whole text; the flags have 32 bits
abbrev pub handshake_bytes : Handshake → List ℕ
handshake_bytes (NoFlags rest) = rest
handshake_bytes (BadFlags flags following) = be 4 flags ++ following
handshake_bytes (GoodFlags flags options) = be 4 flags ++ options_bytes options

-- the flag NO_ZEROES, bit 1 of the client's flags ("Client flags")
abbrev pub has_no_zeroes : ℕ → Bool
has_no_zeroes flags = bit_and flags 2 == 2

-- an option that is accepted, after which the haggling goes on
pub record IsPassed (export : Export) (no_zeroes : Bool) (o : ClientOption) : Type 0 where
  pub accepted : IsAccepted o
  pub next : (answer_to export no_zeroes o).next ≡ More

-- an option that is accepted and ends the haggling
pub record IsLast (export : Export) (no_zeroes : Bool) (o : ClientOption) : Type 0 where
  pub accepted : IsAccepted o
  pub next : (answer_to export no_zeroes o).next ≢ More

-- an ending is what it says
abbrev pub IsEnding : Export → Bool → Ending → Type 0
IsEnding export no_zeroes (Waits rest) = IsUnfinished rest
IsEnding export no_zeroes (Settles option following) = IsLast export no_zeroes option
IsEnding export no_zeroes (Breaks head following) = IsRefused head

-- options are what they say
pub record IsOptions (export : Export) (no_zeroes : Bool) (t : Options) : Type 0 where
  pub answered : AllByRecursion (IsPassed export no_zeroes) t.answered
  pub ending : IsEnding export no_zeroes t.ending

-- a text is what it says: of the flags bits 0 and 1 alone are known
abbrev pub IsHandshake : Export → Handshake → Type 0
IsHandshake export (NoFlags rest) = length rest < 4
IsHandshake export (BadFlags flags following) = (4 ≤ flags) × (flags < 2 ^ 32)
IsHandshake export (GoodFlags flags options) =
    (flags < 4) × IsOptions export (has_no_zeroes flags) options

-- where a text leads: the bytes of all replies, what comes next, what the client is to send then,
-- and the rest of the text after the last element that was answered
pub record Destination : Type 0 where
  pub out : List ℕ
  pub next : Next
  pub phase : Phase
  pub rest : List ℕ

-- where an ending leads, after these replies
abbrev pub ending_destination : Export → Bool → List ℕ → Ending → Destination
ending_destination export no_zeroes out (Waits rest) =
    record { out = out; next = More; phase = phase.Options no_zeroes; rest = rest }
ending_destination export no_zeroes out (Settles option following) =
    record {
      out = out ++ (answer_to export no_zeroes option).out;
      next = (answer_to export no_zeroes option).next;
      phase = phase.Over;
      rest = following;
    }
ending_destination export no_zeroes out (Breaks head following) =
    record { out = out; next = Close false; phase = phase.Over; rest = following }

-- the replies to options, in order
abbrev pub replies : Export → Bool → List ClientOption → List ℕ
replies export no_zeroes options = flat_map (λ o. (answer_to export no_zeroes o).out) options

-- where options lead
abbrev pub options_destination : Export → Bool → Options → Destination
options_destination export no_zeroes t =
    ending_destination export no_zeroes (replies export no_zeroes t.answered) t.ending

-- where a whole text leads
abbrev pub handshake_destination : Export → Handshake → Destination
handshake_destination export (NoFlags rest) =
    record { out = []; next = More; phase = phase.Flags; rest = rest }
handshake_destination export (BadFlags flags following) =
    record { out = []; next = Close false; phase = phase.Over; rest = following }
handshake_destination export (GoodFlags flags options) =
    options_destination export (has_no_zeroes flags) options
