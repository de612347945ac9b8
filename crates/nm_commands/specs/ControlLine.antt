-- The lines of the control port: a table of their words, and what a line asks for.
use Rattle.std.specs.Prelude.{◌≡◌, ◌<◌, ◌≤◌, ℕ, ◌^◌, ◌-◌, List, [], ◌∷◌, ◌++◌, length, codes}
use Rattle.std.specs.Prelude.{Option, None, Some, slice_get}
use Rattle.std.specs.Str.Parse.{IsNumeral, digits_value}
use Rattle.nm_commands.specs.declared.command_word.Argument.{Argument}
use Rattle.nm_commands.specs.declared.command_word.Argument.TheVariants.{Nothing, Leg, Stripe}
use Rattle.nm_commands.specs.declared.command_word.Argument.TheVariants.{Client, Mib, Seconds}
use Rattle.nm_commands.specs.declared.command_word.CommandWord.{CommandWord}
use Rattle.nm_commands.specs.declared.command_word.CommandWord.TheVariants as row
use Rattle.nm_commands.specs.declared.control_command.ControlCommand.{ControlCommand}
use Rattle.nm_commands.specs.declared.control_command.ControlCommand.TheVariants.{Bad}
use Rattle.nm_commands.specs.declared.control_command.ControlCommand.TheVariants as ask

-- The word is this number: 1 to 20 decimal digits of it, and it fits 64 bits.
pub record IsNumeralOf (word : List ℕ) (number : ℕ) : Type 0 where
  pub digits : IsNumeral 10 word
  pub few : length word ≤ 20
  pub value : digits_value 10 word ≡ number
  pub fits : number < 2 ^ 64

-- The line is this beginning and a number.
abbrev pub IsWithNumber : List ℕ → List ℕ → ℕ → Type 0
IsWithNumber start line number =
    (word : List ℕ) × (line ≡ start ++ word) × IsNumeralOf word number

-- The rows of the table.
abbrev pub rows : List CommandWord
rows =
    row.Status ∷ row.Unread ∷ row.History ∷ row.Info ∷ row.Metrics
    ∷ row.Fail ∷ row.Attach ∷ row.Replace ∷ row.Retire
    ∷ row.Pause ∷ row.Resume ∷ row.Reopen ∷ row.ReopenAll
    ∷ row.CopyRate ∷ row.SetCopyRate ∷ row.DefaultCopyRate ∷ row.Verify
    ∷ row.VerifyRepair ∷ row.VerifyStop ∷ row.Quit ∷ row.QuitWithin
    ∷ row.Clients ∷ row.Kick
    ∷ []

-- The table has this row.
abbrev pub IsRow : CommandWord → Type 0
IsRow word = (place : ℕ) × (slice_get rows place ≡ Some word)

-- The word of each row, as lines begin with it.
abbrev pub word_of : CommandWord → List ℕ
word_of row.Status = codes "status"
word_of row.Unread = codes "unread"
word_of row.History = codes "history"
word_of row.Info = codes "info"
word_of row.Metrics = codes "metrics"
word_of row.Fail = codes "fail"
word_of row.Attach = codes "attach"
word_of row.Replace = codes "replace"
word_of row.Retire = codes "retire"
word_of row.Pause = codes "pause"
word_of row.Resume = codes "resume"
word_of row.Reopen = codes "reopen"
word_of row.ReopenAll = codes "reopen all"
word_of row.CopyRate = codes "copy-rate"
word_of row.SetCopyRate = codes "copy-rate"
word_of row.DefaultCopyRate = codes "copy-rate default"
word_of row.Verify = codes "verify"
word_of row.VerifyRepair = codes "verify repair"
word_of row.VerifyStop = codes "verify stop"
word_of row.Quit = codes "quit"
word_of row.QuitWithin = codes "quit"
word_of row.Clients = codes "clients"
word_of row.Kick = codes "kick"

-- What follows the word of a row, behind a blank.
abbrev pub argument_of : CommandWord → Argument
argument_of row.History = Stripe
argument_of row.Fail = Leg
argument_of row.Attach = Leg
argument_of row.Replace = Leg
argument_of row.Retire = Leg
argument_of row.Pause = Leg
argument_of row.Resume = Leg
argument_of row.Reopen = Stripe
argument_of row.SetCopyRate = Mib
argument_of row.VerifyRepair = Leg
argument_of row.QuitWithin = Seconds
argument_of row.Kick = Client
argument_of word = Nothing

-- The least number that may follow.
abbrev pub least_of : Argument → ℕ
least_of Mib = 1
least_of argument = 0

-- The greatest number that may follow: a day of seconds; 2^64 - 1 where nothing else bounds it.
abbrev pub most_of : Argument → ℕ
most_of Mib = 65535
most_of Seconds = 86400
most_of argument = 2 ^ 64 - 1

-- What each row is for, in a line.
abbrev pub help_of : CommandWord → List ℕ
help_of row.Status = codes "how each stripe stands"
help_of row.Unread = codes "the regions that could not be read"
help_of row.History = codes "the last reads and writes of a stripe"
help_of row.Info = codes "what the server tells of itself"
help_of row.Metrics = codes "what the server has counted"
help_of row.Fail = codes "take a leg out"
help_of row.Attach = codes "copy a leg again"
help_of row.Replace = codes "open a leg's file anew and copy it whole"
help_of row.Retire = codes "take the last leg out for good"
help_of row.Pause = codes "copy no more to a leg until it is resumed"
help_of row.Resume = codes "copy to a leg again that was paused"
help_of row.Reopen = codes "open a stripe that stopped anew"
help_of row.ReopenAll = codes "open each stripe that stopped anew"
help_of row.CopyRate = codes "at what rate legs are copied"
help_of row.SetCopyRate = codes "copy legs at so many MiB a second"
help_of row.DefaultCopyRate = codes "copy legs at the rate that clients leave"
help_of row.Verify = codes "compare the legs in sync"
help_of row.VerifyRepair = codes "write what differs on a leg anew"
help_of row.VerifyStop = codes "end the comparison where it is"
help_of row.Quit = codes "end the server once its clients have left"
help_of row.QuitWithin = codes "end the server, and cut clients off after so many seconds"
help_of row.Clients = codes "who is connected"
help_of row.Kick = codes "close a client's connection"

-- The line is this word, a blank and a number that may follow it.
pub record IsNumberedLine (argument : Argument) (word line : List ℕ) (number : ℕ) : Type 0 where
  pub numeral : IsWithNumber (word ++ codes " ") line number
  pub least : least_of argument ≤ number
  pub most : number ≤ most_of argument

-- The line is this word, and what follows it, if something does: then with this number.
abbrev pub IsSaid : Argument → (word line : List ℕ) → (number : ℕ) → Type 0
IsSaid Nothing word line number = line ≡ word
IsSaid argument word line number = IsNumberedLine argument word line number

-- The line is one of this row, with this number if the row has one.
abbrev pub IsLineOf : CommandWord → (line : List ℕ) → (number : ℕ) → Type 0
IsLineOf word line number = IsSaid (argument_of word) (word_of word) line number

-- The row at this place, if there is one, does not have the line.
abbrev pub IsPassed : (line : List ℕ) → (place : ℕ) → Type 0
IsPassed line place =
    (word : CommandWord) → (number : ℕ) → slice_get rows place ≡ Some word
    → IsLineOf word line number → ⊥

-- What a row asks for, with the number in its line.
abbrev pub command_of : CommandWord → ℕ → ControlCommand
command_of row.Status number = ask.Status
command_of row.Unread number = ask.Unread
command_of row.History number = ask.History number
command_of row.Info number = ask.Info
command_of row.Metrics number = ask.Metrics
command_of row.Fail number = ask.Fail number
command_of row.Attach number = ask.Attach number
command_of row.Replace number = ask.Replace number
command_of row.Retire number = ask.Retire number
command_of row.Pause number = ask.Pause number
command_of row.Resume number = ask.Resume number
command_of row.Reopen number = ask.Reopen number
command_of row.ReopenAll number = ask.ReopenAll
command_of row.CopyRate number = ask.CopyRate
command_of row.SetCopyRate number = ask.SetCopyRate number
command_of row.DefaultCopyRate number = ask.DefaultCopyRate
command_of row.Verify number = ask.Verify
command_of row.VerifyRepair number = ask.VerifyRepair number
command_of row.VerifyStop number = ask.VerifyStop
command_of row.Quit number = ask.Quit
command_of row.QuitWithin number = ask.QuitWithin number
command_of row.Clients number = ask.Clients
command_of row.Kick number = ask.Kick number

-- The row that asks for a command, and the number in its line, if the row has one.
abbrev pub row_of : ControlCommand → Option (CommandWord × ℕ)
row_of ask.Status = Some (row.Status, 0)
row_of ask.Unread = Some (row.Unread, 0)
row_of (ask.History stripe) = Some (row.History, stripe)
row_of ask.Info = Some (row.Info, 0)
row_of ask.Metrics = Some (row.Metrics, 0)
row_of (ask.Fail leg) = Some (row.Fail, leg)
row_of (ask.Attach leg) = Some (row.Attach, leg)
row_of (ask.Replace leg) = Some (row.Replace, leg)
row_of (ask.Retire leg) = Some (row.Retire, leg)
row_of (ask.Pause leg) = Some (row.Pause, leg)
row_of (ask.Resume leg) = Some (row.Resume, leg)
row_of (ask.Reopen stripe) = Some (row.Reopen, stripe)
row_of ask.ReopenAll = Some (row.ReopenAll, 0)
row_of ask.CopyRate = Some (row.CopyRate, 0)
row_of (ask.SetCopyRate mib) = Some (row.SetCopyRate, mib)
row_of ask.DefaultCopyRate = Some (row.DefaultCopyRate, 0)
row_of ask.Verify = Some (row.Verify, 0)
row_of (ask.VerifyRepair leg) = Some (row.VerifyRepair, leg)
row_of ask.VerifyStop = Some (row.VerifyStop, 0)
row_of ask.Quit = Some (row.Quit, 0)
row_of (ask.QuitWithin seconds) = Some (row.QuitWithin, seconds)
row_of ask.Clients = Some (row.Clients, 0)
row_of (ask.Kick client) = Some (row.Kick, client)
row_of Bad = None

-- The line is one of this row with this number, where there is a row.
abbrev pub IsByRow : List ℕ → Option (CommandWord × ℕ) → Type 0
IsByRow line None = ⊥
IsByRow line (Some one) = IsLineOf one.0 line one.1

-- The line asks for this.
abbrev pub Asks : List ℕ → ControlCommand → Type 0
Asks line command = IsByRow line (row_of command)

-- The line is read as what it asks for, or as bad where it asks for nothing.
abbrev pub IsReadAs : List ℕ → ControlCommand → Type 0
IsReadAs line Bad = (command : ControlCommand) → Asks line command → ⊥
IsReadAs line command = Asks line command
