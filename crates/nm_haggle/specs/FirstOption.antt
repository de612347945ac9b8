-- What a text of options begins with.
use Rattle.std.specs.Prelude.{◌≡◌, ℕ, ◌+◌, ◌≤◌, List, ◌++◌, length, take, drop}
use Rattle.nm_wire.specs.declared.option_head.OptionHead.{OptionHead}
use Rattle.nm_haggle.specs.declared.first_option.FirstOption.{FirstOption}
use Rattle.nm_haggle.specs.declared.first_option.FirstOption.TheVariants.{Unfinished, Refused}
use Rattle.nm_haggle.specs.declared.first_option.FirstOption.TheVariants.{Whole}
use Rattle.nm_haggle.specs.ClientOption.{ClientOption, option_bytes, IsAccepted, IsUnfinished}
use Rattle.nm_haggle.specs.ClientOption.{IsRefused}

-- the option with this header that a text begins with
abbrev pub option_at : OptionHead → List ℕ → ClientOption
option_at head text = record { number = head.option; payload = take head.length (drop 16 text) }

-- the text begins with a header that closes the session
pub record BeginsRefused (text : List ℕ) : Type 0 where
  pub within : 16 ≤ length text
  pub refused : IsRefused (take 16 text)

-- the text begins with an option that is accepted, and this is its header
pub record BeginsAccepted (text : List ℕ) (head : OptionHead) : Type 0 where
  pub accepted : IsAccepted (option_at head text)
  pub within : 16 + head.length ≤ length text
  pub bytes : text ≡ option_bytes (option_at head text) ++ drop (16 + head.length) text

-- the text begins with what is answered
abbrev pub IsFirstOption : List ℕ → FirstOption → Type 0
IsFirstOption text Unfinished = IsUnfinished text
IsFirstOption text Refused = BeginsRefused text
IsFirstOption text (Whole head) = BeginsAccepted text head
