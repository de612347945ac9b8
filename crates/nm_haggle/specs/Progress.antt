-- How far a text was answered.
use Rattle.std.specs.Prelude.{◌≡◌, ℕ, ◌≤◌, Bool, List, ◌++◌, length, drop}
use Rattle.std.specs.List.{flat_map, AllByRecursion}
use Rattle.nm_wire.specs.declared.export.Export.{Export}
use Rattle.nm_haggle.specs.declared.phase.Phase.{Phase}
use Rattle.nm_haggle.specs.declared.progress.Progress.{Progress}
use Rattle.nm_haggle.specs.ClientOption.{ClientOption, option_bytes}
use Rattle.nm_haggle.specs.Handshake.{IsPassed, Destination, replies}
use Rattle.nm_haggle.specs.Haggling.{Haggling, Leads, IsUsed, waiting_bytes}

-- from this phase on a text was answered with these replies, as far as it leads
pub record Advances
    (export : Export) (phase : Phase) (text out : List ℕ) (p : Progress) : Type 0 where
  pub destination : Destination
  pub leads : Leads export phase text destination
  pub out_is : out ≡ destination.out
  pub next_is : p.next ≡ destination.next
  pub phase_is : p.phase ≡ destination.phase
  pub within : p.used ≤ length text
  pub rest_is : drop p.used text ≡ destination.rest

-- so many bytes of a text are options that got these replies, and the haggling goes on
pub record Passes
    (export : Export) (no_zeroes : Bool) (text : List ℕ) (used : ℕ) (out : List ℕ)
    : Type 0 where
  pub answered : List ClientOption
  pub each : AllByRecursion (IsPassed export no_zeroes) answered
  pub within : used ≤ length text
  pub bytes : text ≡ flat_map option_bytes answered ++ drop used text
  pub out_is : out ≡ replies export no_zeroes answered

-- in the old state a piece was answered with these replies, so much of it is used, and these bytes
-- are held now
pub record Reads
    (old : Haggling) (piece out : List ℕ) (p : Progress) (held : List ℕ) : Type 0 where
  pub destination : Destination
  pub leads : Leads old.export old.phase (old.rest ++ piece) destination
  pub out_is : out ≡ destination.out
  pub next_is : p.next ≡ destination.next
  pub phase_is : p.phase ≡ destination.phase
  pub used_is : IsUsed destination.next piece destination.rest p.used
  pub held_is : held ≡ waiting_bytes destination.next destination.rest
