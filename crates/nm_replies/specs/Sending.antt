-- What a writer of replies shows of itself, and what sending is.
use Rattle.std.specs.Prelude.{Bool, List, Option, ℕ}
use Rattle.std.specs.Io.KnownBytes.{Appends}
use Rattle.nm_replies.specs.declared.reply_writer.ReplyWriter.{ReplyWriter}

-- what the bytes are written to
abbrev pub device_of : {W : Type 0} → ReplyWriter W → W
device_of writer = writer.device

-- whether a write has failed
abbrev pub has_failed : {W : Type 0} → ReplyWriter W → Bool
has_failed writer = writer.failed

-- what the device holds, where it tells it, grew by exactly these bytes
abbrev pub Sends : {W : Type 0} → (W → Option (List ℕ))
    → (old new : ReplyWriter W) → List ℕ → Type 0
Sends contents old new bytes = Appends (contents (device_of old)) (contents (device_of new)) bytes
