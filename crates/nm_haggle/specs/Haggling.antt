-- The haggling from any of its states on, and of a whole text.
use Rattle.std.specs.Prelude.{◌≡◌, ℕ, ◌+◌, ◌^◌, ◌<◌, ◌≤◌, Bool, List, [], ◌++◌, length, drop}
use Rattle.nm_wire.specs.Number.{be, greeting_magic, option_magic}
use Rattle.nm_wire.specs.declared.export.Export.{Export}
use Rattle.nm_haggle.specs.declared.next.Next.{Next}
use Rattle.nm_haggle.specs.declared.next.Next.TheVariants as next
use Rattle.nm_haggle.specs.declared.phase.Phase.{Phase}
use Rattle.nm_haggle.specs.declared.phase.Phase.TheVariants as phase
use Rattle.nm_haggle.specs.ClientOption.{IsUnfinished}
use Rattle.nm_haggle.specs.Handshake.{Options, Handshake, Destination, IsOptions, IsHandshake}
use Rattle.nm_haggle.specs.Handshake.{options_bytes, handshake_bytes, options_destination}
use Rattle.nm_haggle.specs.Handshake.{handshake_destination}

-- the greeting: two magic numbers, and the flags FIXED_NEWSTYLE and NO_ZEROES ("Handshake flags")
abbrev pub greeting_bytes : List ℕ
greeting_bytes = be 8 greeting_magic ++ be 8 option_magic ++ be 2 (2 ^ 0 + 2 ^ 1)

-- what the haggling needs to go on: the export, what the client is to send next, and the bytes of
-- it that came already
pub record Haggling : Type 0 where
  pub export : Export
  pub phase : Phase
  pub rest : List ℕ

-- transmission began, or the session closed
abbrev pub IsOver : Haggling → Type 0
IsOver haggling = haggling.phase ≡ phase.Over

-- the state with these fields
abbrev pub state : Export → Phase → List ℕ → Haggling
state export phase rest = record { export = export; phase = phase; rest = rest }

-- the state before the client's first byte
abbrev pub initial_state : Export → Haggling
initial_state export = state export phase.Flags []

-- a text of options that leads there
pub record OptionsLead
    (export : Export) (no_zeroes : Bool) (text : List ℕ) (to : Destination) : Type 0 where
  pub tree : Options
  pub valid : IsOptions export no_zeroes tree
  pub bytes : text ≡ options_bytes tree
  pub destination : to ≡ options_destination export no_zeroes tree

-- a whole text that leads there
pub record HandshakeLeads (export : Export) (text : List ℕ) (to : Destination) : Type 0 where
  pub tree : Handshake
  pub valid : IsHandshake export tree
  pub bytes : text ≡ handshake_bytes tree
  pub destination : to ≡ handshake_destination export tree

-- a text that leads there, from a phase on; once the haggling is over none does
abbrev pub Leads : Export → Phase → List ℕ → Destination → Type 0
Leads export phase.Flags text to = HandshakeLeads export text to
Leads export (phase.Options no_zeroes) text to = OptionsLead export no_zeroes text to
Leads export phase.Over text to = ⊥

-- an incomplete prefix of the flags or of an option
abbrev pub IsAwaited : Phase → List ℕ → Type 0
IsAwaited phase.Flags rest = length rest < 4
IsAwaited (phase.Options no_zeroes) rest = IsUnfinished rest
IsAwaited phase.Over rest = rest ≡ []

-- which bytes of the rest are kept: those that wait for more; after an end it is not the haggling's
abbrev pub waiting_bytes : Next → List ℕ → List ℕ
waiting_bytes next.More rest = rest
waiting_bytes next.Transmit rest = []
waiting_bytes (next.Close aborted) rest = []

-- how many bytes of a text are used: all where it waits for more, else all before the rest
abbrev pub IsUsed : Next → List ℕ → List ℕ → ℕ → Type 0
IsUsed next.More text rest used = used ≡ length text
IsUsed next.Transmit text rest used = (used ≤ length text) × (drop used text ≡ rest)
IsUsed (next.Close aborted) text rest used = (used ≤ length text) × (drop used text ≡ rest)

-- what a text is answered with: the bytes of the replies, how many of its bytes are used, and what
-- comes next
pub record Response : Type 0 where
  pub out : List ℕ
  pub used : ℕ
  pub next : Next

-- in the old state this text gets this response, and the new state follows
pub record HagglesFrom
    (old : Haggling) (text : List ℕ) (response : Response) (new : Haggling) : Type 0 where
  pub destination : Destination
  pub leads : Leads old.export old.phase (old.rest ++ text) destination
  pub out_is : response.out ≡ destination.out
  pub next_is : response.next ≡ destination.next
  pub used_is : IsUsed destination.next text destination.rest response.used
  pub export_is : new.export ≡ old.export
  pub phase_is : new.phase ≡ destination.phase
  pub rest_is : new.rest ≡ waiting_bytes destination.next destination.rest

-- how a whole text ends: it may go on, or transmission begins or the session closes after the bytes
-- used, closed by ABORT or not
pub data End : Type 0 where
  More : End
  Transmit : (used : ℕ) → End
  Close : (used : ℕ) (aborted : Bool) → End

-- the end after so many bytes
abbrev pub end_at : ℕ → Next → End
end_at used next.More = More
end_at used next.Transmit = Transmit used
end_at used (next.Close aborted) = Close used aborted

-- a whole text of a client that meets the export is answered with these bytes, and ends so
pub record Haggles (export : Export) (text out : List ℕ) (end : End) : Type 0 where
  pub response : Response
  pub new : Haggling
  pub from : HagglesFrom (initial_state export) text response new
  pub out_is : out ≡ response.out
  pub end_is : end ≡ end_at response.used response.next
