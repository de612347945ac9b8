-- What the definitions say of whole texts, and of texts that come in pieces.
use Rattle.std.specs.Prelude.{◌≡◌, ◌≢◌, ℕ, ◌+◌, ◌<◌, true, slice_index, List, [], ◌∷◌, ◌++◌, length}
use Rattle.std.specs.List.{flat_map}
use Rattle.nm_wire.specs.declared.export.Export.{Export}
use Rattle.nm_haggle.specs.declared.next.Next.TheVariants.{More}
use Rattle.nm_haggle.specs.ClientOption.{ClientOption, option_bytes, IsAccepted}
use Rattle.nm_haggle.specs.Answer.{information_bytes, IsInformation, adds_up, asked_name}
use Rattle.nm_haggle.specs.Haggling.{Haggling, Response, HagglesFrom, Haggles, IsOver, IsAwaited}
use Rattle.nm_haggle.specs.Haggling.{End, end_at, initial_state}

-- each item is a byte
abbrev pub AreBytes : List ℕ → Type 0
AreBytes text = (k : ℕ) → slice_index text k < 256

-- no option begins another one: bytes that begin with an option begin with no other, and the bytes
-- after it are the same
abbrev pub NoOptionBeginsAnother : Type 0
NoOptionBeginsAnother =
    (o p : ClientOption) (rest after : List ℕ) → IsAccepted o → IsAccepted p
    → option_bytes o ++ rest ≡ option_bytes p ++ after → (o ≡ p) × (rest ≡ after)

-- in each state a text has at most one response, and one state that follows
abbrev pub OneResponse : Type 0
OneResponse =
    (old : Haggling) (text : List ℕ) (response other : Response) (new other_new : Haggling)
    → HagglesFrom old text response new → HagglesFrom old text other other_new
    → (response ≡ other) × (new ≡ other_new)

-- a whole text has at most one answer and one end
abbrev pub OneAnswer : Type 0
OneAnswer =
    (export : Export) (text out other_out : List ℕ) (end other_end : End)
    → Haggles export text out end → Haggles export text other_out other_end
    → (out ≡ other_out) × (end ≡ other_end)

-- a text of bytes has a response in each state in which the haggling is not over
abbrev pub SomeResponse : Type 0
SomeResponse =
    (old : Haggling) (text : List ℕ) → ¬ IsOver old → IsAwaited old.phase old.rest
    → AreBytes (old.rest ++ text)
    → (response : Response) × (new : Haggling) × HagglesFrom old text response new

-- a whole text of bytes has an answer and an end
abbrev pub SomeAnswer : Type 0
SomeAnswer =
    (export : Export) (text : List ℕ) → AreBytes text
    → (out : List ℕ) × (end : End) × Haggles export text out end

-- the haggling is over after a text exactly where the text does not ask for more
abbrev pub OverAfterAnEnd : Type 0
OverAfterAnEnd =
    (old new : Haggling) (text : List ℕ) (response : Response)
    → HagglesFrom old text response new
    → (response.next ≡ More → ¬ IsOver new) × (response.next ≢ More → IsOver new)

-- the response to a text that asks for more and to what follows it, as one
abbrev pub sequence : List ℕ → Response → Response → Response
sequence text first second = record {
  out = first.out ++ second.out;
  used = length text + second.used;
  next = second.next;
}

-- where a text asks for more, what follows it is answered from the state that it led to
abbrev pub GoesOn : Type 0
GoesOn =
    (old between new : Haggling) (text more : List ℕ) (first second : Response)
    → first.next ≡ More → HagglesFrom old text first between
    → HagglesFrom between more second new
    → HagglesFrom old (text ++ more) (sequence text first second) new

-- and in no other way
abbrev pub GoesOnOnlySo : Type 0
GoesOnOnlySo =
    (old between new : Haggling) (text more : List ℕ) (first whole : Response)
    → first.next ≡ More → HagglesFrom old text first between
    → HagglesFrom old (text ++ more) whole new
    → (second : Response) × HagglesFrom between more second new
    × (whole ≡ sequence text first second)

-- where a text does not ask for more, what follows it changes nothing
abbrev pub EndsThere : Type 0
EndsThere =
    (old new : Haggling) (text more : List ℕ) (response : Response) → response.next ≢ More
    → HagglesFrom old text response new → HagglesFrom old (text ++ more) response new

-- a piece of the client's text, and the response to it
pub record Exchange : Type 0 where
  pub piece : List ℕ
  pub response : Response

-- pieces fed one after the other, each in the state that the one before led to, all but the last
-- asking for more
abbrev pub Feeds : Haggling → List Exchange → Exchange → Haggling → Type 0
Feeds old [] last new = HagglesFrom old last.piece last.response new
Feeds old (fed ∷ more) last new =
    (between : Haggling) × (fed.response.next ≡ More)
    × HagglesFrom old fed.piece fed.response between × Feeds between more last new

-- the pieces before the last one
abbrev pub pieces : List Exchange → List ℕ
pieces exchanges = flat_map (λ fed. fed.piece) exchanges

-- what they were answered with
abbrev pub answers : List Exchange → List ℕ
answers exchanges = flat_map (λ fed. fed.response.out) exchanges

-- however a text is cut into pieces, their answers are that of the whole, and it ends with the last
abbrev pub HoweverCut : Type 0
HoweverCut =
    (export : Export) (exchanges : List Exchange) (last : Exchange) (new : Haggling)
    → Feeds (initial_state export) exchanges last new
    → Haggles export (pieces exchanges ++ last.piece) (answers exchanges ++ last.response.out)
    (end_at (length (pieces exchanges) + last.response.used) last.response.next)

-- the data of INFO and GO add up where they are a name and a list of types, and ask for that name
abbrev pub InformationAddsUp : Type 0
InformationAddsUp =
    (name types : List ℕ) (count : ℕ) → IsInformation name count types
    → (adds_up (information_bytes name count types) ≡ true)
    × (asked_name (information_bytes name count types) ≡ name)

-- and only there
abbrev pub OnlyInformationAddsUp : Type 0
OnlyInformationAddsUp =
    (payload : List ℕ) → AreBytes payload → adds_up payload ≡ true
    → (types : List ℕ) × (count : ℕ) × IsInformation (asked_name payload) count types
    × (payload ≡ information_bytes (asked_name payload) count types)
