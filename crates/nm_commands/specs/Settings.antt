-- What the words of a command line ask for.
use Rattle.std.specs.Prelude.{◌≡◌, ◌≢◌, ◌⊎◌, ℕ, Bool, true, false, List, [], map, Option, None}
use Rattle.std.specs.Prelude.{Some, codes, find, option_and_then, IsTrue, ◌↔◌}
use Rattle.std.specs.Str.{bytes_eq}
use Rattle.std.specs.Borrow.{Bor}
use Rattle.std.specs.Str.Parse.{IsNumeral, digits_value, without_leading_plus}
use Rattle.clap.specs.Words.{IsAmong, Row, Text, all_of, fault_of, first_of, kind_of, matches_of}
use Rattle.clap.specs.Words.{one_of}
use Rattle.clap.specs.declared.error.Error.{Error}
use Rattle.clap.specs.declared.error.kind.ErrorKind.TheVariants.{ArgumentConflict, OutOfMemory}
use Rattle.clap.specs.declared.parser.matches.ValueSource.{ValueSource}
use Rattle.clap.specs.declared.parser.matches.ValueSource.TheVariants.{CommandLine}
use Rattle.nm_choice.specs.declared.policy.Policy.{Policy}
use Rattle.nm_choice.specs.declared.policy.Policy.TheVariants.{RoundRobin, Striped}
use Rattle.nm_commands.specs.declared.client_settings.ClientSettings.{ClientSettings}
use Rattle.nm_commands.specs.declared.copy_settings.CopySettings.{CopySettings}
use Rattle.nm_commands.specs.declared.listen_settings.ListenSettings.{ListenSettings}
use Rattle.nm_commands.specs.declared.mirror_settings.MirrorSettings.{MirrorSettings}
use Rattle.nm_commands.specs.declared.opening_settings.OpeningSettings.{OpeningSettings}
use Rattle.nm_commands.specs.declared.server_settings.Settings.{Settings}
use Rattle.nm_commands.specs.declared.start.Start.{Start}
use Rattle.nm_commands.specs.declared.start.Start.TheVariants.{Compare, Equal, Full}
use Rattle.nm_commands.specs.declared.superblock_place.SuperblockPlace.{SuperblockPlace}
use Rattle.nm_commands.specs.declared.superblock_place.SuperblockPlace.TheVariants.{Beside, Folder}
use Rattle.nm_commands.specs.declared.superblock_place.SuperblockPlace.TheVariants.{Inside, Nowhere}
use Rattle.nm_commands.specs.CommandLine.{ArePolicies, AreStarts, nbdmirror}

-- The word for a policy.
abbrev pub policy_text : Policy → Text
policy_text RoundRobin = codes "round-robin"
policy_text Striped = codes "striped"

-- The word for a start.
abbrev pub start_text : Start → Text
start_text Compare = codes "compare"
start_text Full = codes "full"
start_text Equal = codes "equal"

-- The word says that superblocks are there: any other word than these three is a folder's name.
abbrev pub IsPlaceOf : Option Text → SuperblockPlace → Type 0
IsPlaceOf word Nowhere = word ≡ Some (codes "none")
IsPlaceOf word Beside = word ≡ Some (codes "beside")
IsPlaceOf word Inside = word ≡ Some (codes "inside")
IsPlaceOf word (Folder name) =
    (word ≡ Some name.now) × (name.now ≢ codes "none") × (name.now ≢ codes "beside")
    × (name.now ≢ codes "inside")

-- The place is the one that the word says, and none where there is no word.
abbrev pub HasPlace : Option Text → Option SuperblockPlace → Type 0
HasPlace word (Some place) = IsPlaceOf word place
HasPlace word None = word ≡ None

-- What was found is this number: decimal digits, with or without a plus before them.
pub record IsNumber (found : Option Text) (number : ℕ) : Type 0 where
  pub text : Text
  pub is : found ≡ Some text
  pub numeral : IsNumeral 10 (without_leading_plus text)
  pub value : digits_value 10 (without_leading_plus text) ≡ number

-- The number is the one that the rows have for this id, and none where they have none.
abbrev pub HasNumber : List Row → Text → Option ℕ → Type 0
HasNumber rows id (Some number) = IsNumber (one_of id rows) number
HasNumber rows id None = first_of id rows ≡ None

-- The words are those that were found, and none where nothing was.
abbrev pub AreAll : Option (List Text) → List Text → Type 0
AreAll (Some found) words = words ≡ found
AreAll None words = words ≡ []

-- The flag is set where the rows have it as true.
abbrev pub HasFlag : List Row → Text → Bool → Type 0
HasFlag rows id flag = (one_of id rows ≡ Some (codes "true") → flag ≡ true)
    × (one_of id rows ≡ Some (codes "false") → flag ≡ false)

-- Where the value of this id comes from, where it has one.
abbrev pub source_of : Text → List Row → Option ValueSource
source_of id rows = option_and_then (λ row. row.source) (find (λ row. bytes_eq row.id id) rows)

-- The words themselves have this option: its value is not the default.
abbrev pub IsNamed : Text → List Row → Type 0
IsNamed id rows = source_of id rows ≡ Some CommandLine

-- It is told whether the words themselves have this option.
abbrev pub TellsNamed : List Row → Text → Bool → Type 0
TellsNamed rows id told = IsTrue told ↔ IsNamed id rows

-- The words have both an address and a port for clients.
abbrev pub NamesTwo : List Row → Type 0
NamesTwo rows = IsNamed (codes "listen") rows × IsNamed (codes "port") rows

-- Clients and control connect where the rows say.
pub record HasListening (rows : List Row) (s : ListenSettings) : Type 0 where
  pub address : first_of (codes "listen") rows ≡ Some s.address.now
  pub port : HasNumber rows (codes "port") s.port
  pub control : first_of (codes "control") rows ≡ Some s.control.now

-- The mirror is the one that the rows say.
pub record HasMirror (rows : List Row) (s : MirrorSettings) : Type 0 where
  pub legs : all_of (codes "leg") rows ≡ Some (map (λ leg. leg.now) s.legs.items)
  pub force_in_use : HasFlag rows (codes "force-in-use") s.force_in_use
  pub stripes : IsNumber (one_of (codes "stripes") rows) s.stripes
  pub names_stripes : TellsNamed rows (codes "stripes") s.names_stripes
  pub policy : first_of (codes "policy") rows ≡ Some (policy_text s.policy)
  pub history : IsNumber (one_of (codes "history") rows) s.history

-- The mirror is opened as the rows say.
pub record HasOpening (rows : List Row) (s : OpeningSettings) : Type 0 where
  pub master : HasNumber rows (codes "master") s.master
  pub start : first_of (codes "start") rows ≡ Some (start_text s.start)
  pub superblock : IsPlaceOf (first_of (codes "superblock") rows) s.superblock
  pub names_superblock : TellsNamed rows (codes "superblock") s.names_superblock
  pub superblock_from : HasPlace (first_of (codes "superblock-from") rows) s.superblock_from
  pub degraded : HasFlag rows (codes "degraded") s.degraded
  pub force_master : HasNumber rows (codes "force-master") s.force_master
  pub added : AreAll (all_of (codes "add-leg") rows) (map (λ leg. leg.now) s.added.items)
  pub moved : AreAll (all_of (codes "moved") rows) (map (λ leg. leg.now) s.moved.items)
  pub shrink : HasFlag rows (codes "shrink") s.shrink

-- Legs are copied as the rows say.
pub record HasCopies (rows : List Row) (s : CopySettings) : Type 0 where
  pub auto_attach : HasFlag rows (codes "auto-attach") s.auto_attach
  pub copy_rate : HasNumber rows (codes "copy-rate") s.copy_rate
  pub leg_timeout : HasNumber rows (codes "leg-timeout") s.leg_timeout

-- Clients are served as the rows say.
pub record HasClients (rows : List Row) (s : ClientSettings) : Type 0 where
  pub export : first_of (codes "name") rows ≡ Some s.export.now
  pub read_only : HasFlag rows (codes "read-only") s.read_only
  pub sessions : IsNumber (one_of (codes "sessions") rows) s.sessions
  pub idle_limit : HasNumber rows (codes "idle-limit") s.idle_limit
  pub verbose : HasFlag rows (codes "verbose") s.verbose

-- The settings are the values that the rows have, subject by subject.
pub record HasSettings (rows : List Row) (s : Settings) : Type 0 where
  pub listening : HasListening rows s.listening
  pub mirror : HasMirror rows s.mirror
  pub opening : HasOpening rows s.opening
  pub copies : HasCopies rows s.copies
  pub clients : HasClients rows s.clients

-- The settings are those that the words of a command line ask for, with the defaults for the rest.
-- Such words have no fault, and not both an address and a port for clients.
pub record AsksFor (words : List Text) (s : Settings) : Type 0 where
  pub policies : Bor (List (Bor Text))
  pub known : ArePolicies policies
  pub starts : Bor (List (Bor Text))
  pub known_starts : AreStarts starts
  pub faultless : fault_of (nbdmirror policies starts) words ≡ []
  pub one_place : NamesTwo (matches_of (nbdmirror policies starts) words) → ⊥
  pub settings : HasSettings (matches_of (nbdmirror policies starts) words) s

-- The words have a fault, and the error is of its kind.
pub record IsFault (words : List Text) (error : Error) : Type 0 where
  pub policies : Bor (List (Bor Text))
  pub known : ArePolicies policies
  pub starts : Bor (List (Bor Text))
  pub known_starts : AreStarts starts
  pub among : IsAmong (kind_of error) (fault_of (nbdmirror policies starts) words)

-- The words have no fault but this one: both an address and a port for clients. So the error says.
pub record AreTwo (words : List Text) (error : Error) : Type 0 where
  pub policies : Bor (List (Bor Text))
  pub known : ArePolicies policies
  pub starts : Bor (List (Bor Text))
  pub known_starts : AreStarts starts
  pub faultless : fault_of (nbdmirror policies starts) words ≡ []
  pub two : NamesTwo (matches_of (nbdmirror policies starts) words)
  pub kind : kind_of error ≡ ArgumentConflict

-- The error says that there is no memory, or what is wrong with the words.
abbrev pub IsRefusal : List Text → Error → Type 0
IsRefusal words error =
    (kind_of error ≡ OutOfMemory) ⊎ (IsFault words error ⊎ AreTwo words error)
