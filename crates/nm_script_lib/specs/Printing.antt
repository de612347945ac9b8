-- The lines that are printed.
use Rattle.std.specs.Prelude.{ℕ, List, [], ◌∷◌, ◌++◌, ◌==◌, Bool, true, false, if◌then◌else◌}
use Rattle.std.specs.Prelude.{length, slice_index_or, codes, decimal, Result, Ok, Err}
use Rattle.std.specs.List.{flat_map, list_all}
use Rattle.nm_replay.specs.declared.block.Block.{Block}
use Rattle.nm_script_lib.specs.declared.power_leg.PowerLeg.{PowerLeg}
use Rattle.nm_replay.specs.declared.entry.Kind.{Kind}
use Rattle.nm_replay.specs.declared.entry.Kind.TheVariants.{Read, Write, Patch}
use Rattle.nm_replay.specs.declared.entry.Entry.{Entry}
use Rattle.nm_stripe.specs.declared.answer.Answer.{Answer}
use Rattle.nm_stripe.specs.declared.answer.Answer.TheVariants.{Begun, Pushed, Complete, Halted}
use Rattle.nm_stripe.specs.declared.answer.Answer.TheVariants.{Written, Value}
use Rattle.nm_stripe.specs.declared.answer.Answer.TheVariants.{Failed, MasterChanged, Joining}
use Rattle.nm_stripe.specs.declared.answer.Answer.TheVariants.{Copied, Nothing, InSync, Synced}
use Rattle.nm_stripe.specs.declared.answer.Answer.TheVariants.{LegLost, Refused}
use Rattle.nm_rules.specs.declared.refusal.Refusal.{Refusal}
use Rattle.nm_rules.specs.Refusal.{text_of}
use Rattle.nm_script_lib.specs.declared.fill.Fill.{Fill}
use Rattle.nm_script_lib.specs.declared.fill.Fill.TheVariants.{Same, Mixed}
use Rattle.nm_script_lib.specs.Forms.{hex_byte}

-- A line ends with LF.
abbrev pub ended_line : List ℕ → List ℕ
ended_line words = words ++ (10 ∷ [])

-- The byte that all of these bytes are, if there is one.
abbrev pub fill_of : List ℕ → Fill
fill_of bytes =
    let first = slice_index_or bytes 0 0 in
    if list_all (λ byte. byte == first) bytes then Same first else Mixed

-- The bytes of a block, or of several: two digits where all are the same, else a word.
abbrev pub fill_text : Fill → List ℕ
fill_text (Same byte) = hex_byte byte
fill_text Mixed = codes "mixed"

-- A step's answer, without the end of its line.
abbrev pub answer_text : Answer PowerLeg → List ℕ
answer_text (Begun ticket) = codes "begun " ++ decimal ticket
answer_text (Pushed owed) = codes "pushed " ++ decimal owed
answer_text (Complete number) = codes "complete " ++ decimal number
answer_text Halted = codes "halted"
answer_text (Written written) = codes "written " ++ decimal written.number
answer_text (Value value) =
    codes "value " ++ decimal value.names.number ++ codes " " ++ fill_text (fill_of value.bytes)
answer_text Failed = codes "failed"
answer_text (MasterChanged master) = codes "master " ++ decimal master
answer_text (Joining blocks) = codes "joining " ++ decimal blocks
answer_text (Copied moved blocks) = codes "copied " ++ decimal blocks
answer_text Nothing = codes "nothing"
answer_text InSync = codes "insync"
answer_text Synced = codes "synced"
answer_text (LegLost leg handed) = codes "lost " ++ decimal leg
answer_text (Refused refusal handed) = codes "refused " ++ text_of refusal

-- What a leg has in a block.
abbrev pub holds_text : Block → List ℕ
holds_text block = codes "holds " ++ fill_text (fill_of block.0)

-- What a loss of power changed, or why there is none.
abbrev pub loss_text : Result ℕ Refusal → List ℕ
loss_text (Ok count) = codes "forgot " ++ decimal count
loss_text (Err refusal) = codes "refused " ++ text_of refusal

-- What an entry did, and of which write it is.
abbrev pub kind_text : Kind → List ℕ
kind_text Read = codes " read "
kind_text (Write ticket) = codes " write " ++ decimal ticket ++ codes " "
kind_text (Patch ticket start len) = codes " patch " ++ decimal ticket ++ codes " "

-- Which bytes of its block an entry is of, where it is not of all.
abbrev pub span_text : Kind → List ℕ
span_text Read = []
span_text (Write ticket) = []
span_text (Patch ticket start len) = decimal start ++ codes " " ++ decimal len ++ codes " "

-- Which block an entry is of, and which of its bytes, where it is not of all.
abbrev pub place_text : Kind → ℕ → List ℕ
place_text kind block = decimal block ++ codes " " ++ span_text kind

-- The line of an entry.
abbrev pub entry_line : Entry → List ℕ
entry_line e = ended_line
    (decimal e.seq ++ kind_text e.kind ++ place_text e.kind e.block
    ++ fill_text (fill_of e.bytes.0))

-- The line that counts entries: those kept, and all.
abbrev pub counts_line : ℕ → ℕ → List ℕ
counts_line kept total =
    ended_line (codes "history " ++ decimal kept ++ codes " of " ++ decimal total)

-- The line that says whether a history is legal.
abbrev pub legal_line : Bool → List ℕ
legal_line true = ended_line (codes "legal yes")
legal_line false = ended_line (codes "legal no")

-- The lines of a history.
abbrev pub history_lines : List Entry → ℕ → Bool → List ℕ
history_lines entries total is_legal =
    counts_line (length entries) total ++ flat_map entry_line entries ++ legal_line is_legal
