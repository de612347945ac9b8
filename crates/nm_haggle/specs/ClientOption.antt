-- An option as a client sends it, and its bytes ("Fixed newstyle negotiation").
use Rattle.std.specs.Prelude.{◌≡◌, ◌≢◌, ℕ, ◌<◌, ◌≤◌, ◌^◌, ◌⊎◌, List, ◌++◌, length, take}
use Rattle.nm_wire.specs.Number.{be, option_magic}
use Rattle.nm_wire.specs.Sizes.{max_option_data}
use Rattle.nm_wire.specs.Layout.{FitsOptionHead, option_head_bytes}
use Rattle.nm_wire.specs.declared.option_head.OptionHead.{OptionHead}

-- an option: its number and its data
pub record ClientOption : Type 0 where
  pub number : ℕ
  pub payload : List ℕ

-- the header of an option: its number, and how many bytes of data follow
abbrev pub head_of : ClientOption → OptionHead
head_of o = record { option = o.number; length = length o.payload }

-- the bytes of an option: its header, then its data
abbrev pub option_bytes : ClientOption → List ℕ
option_bytes o = option_head_bytes (head_of o) ++ o.payload

-- an option that is accepted: its number has 32 bits, and its data are not too long
pub record IsAccepted (o : ClientOption) : Type 0 where
  pub number : o.number < 2 ^ 32
  pub payload : length o.payload ≤ max_option_data

-- the header of an option that is accepted, followed by fewer bytes of data than it states
pub record LacksData (rest : List ℕ) : Type 0 where
  pub head : OptionHead
  pub begun : List ℕ
  pub bytes : rest ≡ option_head_bytes head ++ begun
  pub fits : FitsOptionHead head
  pub accepted : head.length ≤ max_option_data
  pub short : length begun < head.length

-- an incomplete option: less than a header, or a header and less data than it states
abbrev pub IsUnfinished : List ℕ → Type 0
IsUnfinished rest = (length rest < 16) ⊎ LacksData rest

-- the header of an option with too many data
pub record IsTooLong (bytes : List ℕ) : Type 0 where
  pub head : OptionHead
  pub whole : bytes ≡ option_head_bytes head
  pub fits : FitsOptionHead head
  pub long : max_option_data < head.length

-- a 16-byte header that closes the session: its magic is wrong, or its data would be too long
pub record IsRefused (bytes : List ℕ) : Type 0 where
  pub whole : length bytes ≡ 16
  pub cause : (take 8 bytes ≢ be 8 option_magic) ⊎ IsTooLong bytes
