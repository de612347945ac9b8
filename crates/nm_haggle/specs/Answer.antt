-- What each option is answered with, and what comes after it ("Option types", "Option reply
-- types").
use Rattle.std.specs.Prelude.{◌≡◌, ℕ, ◌+◌, ◌*◌, ◌^◌, ◌<◌, Bool, true, false, ◌==◌, ◌||◌}
use Rattle.std.specs.Prelude.{if◌then◌else◌, List, [], ◌++◌, length, take, drop, replicate}
use Rattle.std.specs.Str.{bytes_eq}
use Rattle.std.specs.Int.{w16, w32, from_be_bytes}
use Rattle.nm_wire.specs.Number.{be}
use Rattle.nm_wire.specs.Layout.{option_reply_bytes}
use Rattle.nm_wire.specs.Export.{size_of, flags_of}
use Rattle.nm_wire.specs.InfoKind.{info_number}
use Rattle.nm_wire.specs.OptionKind.{option_number}
use Rattle.nm_wire.specs.ReplyKind.{reply_number}
use Rattle.nm_wire.specs.Sizes.{min_block, preferred_block, max_payload, export_name_zeroes}
use Rattle.nm_wire.specs.declared.export.Export.{Export}
use Rattle.nm_wire.specs.declared.info_kind.InfoKind.TheVariants as info
use Rattle.nm_wire.specs.declared.option_kind.OptionKind.TheVariants as option
use Rattle.nm_wire.specs.declared.reply_kind.ReplyKind.{ReplyKind}
use Rattle.nm_wire.specs.declared.reply_kind.ReplyKind.TheVariants as kind
use Rattle.nm_haggle.specs.declared.next.Next.{Next}
use Rattle.nm_haggle.specs.declared.next.Next.TheVariants.{More, Transmit, Close}
use Rattle.nm_haggle.specs.ClientOption.{ClientOption}

-- the bytes that answer an option, and what comes after it
pub record Answer : Type 0 where
  pub out : List ℕ
  pub next : Next

-- the answer's bytes were appended to the output, and what comes next is what it says
pub record IsAnswered (answer : Answer) (old new : List ℕ) (next : Next) : Type 0 where
  pub out : new ≡ old ++ answer.out
  pub next_is : next ≡ answer.next

-- one reply to an option: its header, then its data
abbrev pub reply : ℕ → ReplyKind → List ℕ → List ℕ
reply number kind payload =
    option_reply_bytes (record {
      option = number;
      kind = reply_number kind;
      length = length payload;
    })
    ++ payload

-- one reply without data, after which the haggling goes on
abbrev pub refusal : ℕ → ReplyKind → Answer
refusal number kind = record { out = reply number kind []; next = More }

-- a client may name the export, or name none
abbrev pub is_known : Export → List ℕ → Bool
is_known export name = (length name == 0) || bytes_eq name export.name

-- the size and the flags of an export
abbrev pub size_and_flags : Export → List ℕ
size_and_flags export = be 8 (size_of export) ++ be 2 (flags_of export)

-- information on the export: its size and flags
abbrev pub export_information : Export → List ℕ
export_information export = be 2 (info_number info.Export) ++ size_and_flags export

-- information on block sizes: the minimum, the preferred and the maximum
abbrev pub block_sizes : List ℕ
block_sizes =
    be 2 (info_number info.BlockSize)
    ++ be 4 min_block ++ be 4 preferred_block ++ be 4 max_payload

-- the replies that describe the export, whatever types of information were asked for
abbrev pub information_replies : ℕ → Export → List ℕ
information_replies number export =
    reply number kind.Info (export_information export)
    ++ reply number kind.Info block_sizes
    ++ reply number kind.Ack []

-- the length of the name that the data of INFO and GO begin with
abbrev pub name_length : List ℕ → ℕ
name_length payload = from_be_bytes w32 (take 4 payload)

-- that name
abbrev pub asked_name : List ℕ → List ℕ
asked_name payload = take (name_length payload) (drop 4 payload)

-- the count of the information types after the name
abbrev pub type_count : List ℕ → ℕ
type_count payload = from_be_bytes w16 (take 2 (drop (4 + name_length payload) payload))

-- the data are a name after its length, and information types after their count
abbrev pub adds_up : List ℕ → Bool
adds_up payload = 6 + name_length payload + 2 * type_count payload == length payload

-- the data of INFO and GO as they are put together: the length of the name, the name, the count of
-- the types, and two bytes a type
abbrev pub information_bytes : List ℕ → ℕ → List ℕ → List ℕ
information_bytes name count types = be 4 (length name) ++ name ++ be 2 count ++ types

-- the name and the count fit their places, and the types are as many as counted
pub record IsInformation (name : List ℕ) (count : ℕ) (types : List ℕ) : Type 0 where
  pub name_fits : length name < 2 ^ 32
  pub count_fits : count < 2 ^ 16
  pub counted : length types ≡ 2 * count

-- INFO and GO describe the export; after GO transmission begins
abbrev pub answer_to_information : ℕ → Next → Export → List ℕ → Answer
answer_to_information number next export payload =
    if adds_up payload
    then (if is_known export (asked_name payload)
    then record { out = information_replies number export; next = next }
    else refusal number kind.Unknown)
    else refusal number kind.Invalid

-- LIST names the export; it has no data
abbrev pub answer_to_list : Export → List ℕ → Answer
answer_to_list export payload =
    if length payload == 0
    then record {
      out = reply (option_number option.List) kind.Server (be 4 (length export.name) ++ export.name)
          ++ reply (option_number option.List) kind.Ack [];
      next = More;
    }
    else refusal (option_number option.List) kind.Invalid

-- the zeroes that end the reply to EXPORT_NAME
unfoldable pub closing_zeroes : List ℕ
closing_zeroes = replicate export_name_zeroes 0

-- EXPORT_NAME begins transmission without a reply's header, or closes the session without a byte
abbrev pub answer_to_export_name : Export → Bool → List ℕ → Answer
answer_to_export_name export no_zeroes payload =
    if is_known export payload
    then record {
      out = size_and_flags export ++ (if no_zeroes then [] else closing_zeroes);
      next = Transmit;
    }
    else record { out = []; next = Close false }

-- ABORT ends the session, whatever its data
abbrev pub answer_to_abort : Answer
answer_to_abort = record { out = reply (option_number option.Abort) kind.Ack []; next = Close true }

-- each option by its number; one that is not served is skipped
abbrev pub answer_to : Export → Bool → ClientOption → Answer
answer_to export no_zeroes o =
    if o.number == option_number option.ExportName
    then answer_to_export_name export no_zeroes o.payload
    else if o.number == option_number option.Abort then answer_to_abort
    else if o.number == option_number option.List then answer_to_list export o.payload
    else if o.number == option_number option.Info
    then answer_to_information (option_number option.Info) More export o.payload
    else if o.number == option_number option.Go
    then answer_to_information (option_number option.Go) Transmit export o.payload
    else refusal o.number kind.Unsupported
