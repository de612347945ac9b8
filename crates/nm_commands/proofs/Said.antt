-- What the getters of matches give is what the rows of the command line have.
use Rattle.std.proofs.Common.{◌≡◌, ◌∙◌, ◌⊎◌, ℕ, List, Option, None, Some, IfSome, Bool, true, false, option_map, refl, ap, sym, codes, [], inl, inr, Result, Ok, Err, IsErrAnd, IfErr}
use Rattle.std.specs.Borrow.{Bor}
use Rattle.clap.specs.Words.{App, HasKind, Row, Text, fault_of, kind_of, matches_of, is_simple, is_simple_and_free, first_of, one_of, all_of, first_value, one_text, matched_of, raw_values, rows_of}
use Rattle.clap.specs.declared.parser.matches.Found.{Found}
use Rattle.clap.proofs.WalkLemmas.{find_row, first_value-rows, one_text-rows, raw_values-rows}
use Rattle.clap.proofs.OnLiterals.{clap_on_literals}
use Rattle.clap.specs.Facts.{Entry}
use Rattle.clap.specs.Walk.{row_of}
use Rattle.clap.specs.declared.parser.matches.MatchedArg.{MatchedArg}
use Rattle.std.specs.List.{find}
use Rattle.std.specs.Prelude.{option_and_then}
use Rattle.std.specs.Str.{bytes_eq}
use Rattle.nm_commands.specs.CommandLine.{nbdmirror}
use Rattle.clap.specs.declared.error.Error.{Error}
use Rattle.clap.specs.declared.error.kind.ErrorKind.TheVariants.{ArgumentConflict, OutOfMemory}
use Rattle.nm_commands.specs.CommandLine.{ArePolicies, AreStarts}
use Rattle.nm_commands.specs.Settings.{IsNumber, IsPlaceOf, HasPlace, IsRefusal, AreAll, HasFlag, HasNumber, NamesTwo, source_of}
use Rattle.nm_commands.specs.declared.superblock_place.SuperblockPlace.{SuperblockPlace}

pub simple : (policies starts : Bor (List (Bor Text))) →
    is_simple (nbdmirror policies starts) ≡ true
unfolding clap_on_literals
simple policies starts = refl

pub simple_and_free : (policies starts : Bor (List (Bor Text))) →
    is_simple_and_free (nbdmirror policies starts) ≡ true
unfolding clap_on_literals
simple_and_free policies starts = refl

pub said_fault : (policies starts : Bor (List (Bor Text))) (app : App) (words : List Text)
    (e : Error) →
    ArePolicies policies → AreStarts starts → app ≡ nbdmirror policies starts →
    HasKind (fault_of app words) e → IsRefusal words e
said_fault policies starts app words e known known_starts same (inl memory) = inl memory
said_fault policies starts app words e known known_starts same (inr among) = inr (inl (record {
  policies = policies;
  known = known;
  starts = starts;
  known_starts = known_starts;
  among = rw (← ap (λ (a : App). fault_of a words) same) among;
}))

pub said_two : (policies starts : Bor (List (Bor Text))) (words : List Text) (e : Error) →
    ArePolicies policies → AreStarts starts → fault_of (nbdmirror policies starts) words ≡ [] →
    (kind_of e ≡ OutOfMemory)
    ⊎ (NamesTwo (matches_of (nbdmirror policies starts) words) × (kind_of e ≡ ArgumentConflict)) →
    IsRefusal words e
said_two policies starts words e known known_starts faultless (inl memory) = inl memory
said_two policies starts words e known known_starts faultless (inr two) = inr (inr (record {
  policies = policies;
  known = known;
  starts = starts;
  known_starts = known_starts;
  faultless = faultless;
  two = two.0;
  kind = two.1;
}))

pub said_text : (f : Found) (rows : List Row) (id text : Text) → rows_of f ≡ rows →
    first_value f id ≡ Some text → first_of id rows ≡ Some text
said_text f rows id text e h = sym (first_value-rows f id ∙ ap (first_of id) e) ∙ h

pub said_place : (f : Found) (rows : List Row) (id : Text) (place : SuperblockPlace) →
    rows_of f ≡ rows → IsPlaceOf (first_value f id) place → IsPlaceOf (first_of id rows) place
said_place f rows id place e h = rw (← first_value-rows f id ∙ ap (first_of id) e) h

pub said_place_if_any : (f : Found) (rows : List Row) (id : Text)
    (place : Option SuperblockPlace) → rows_of f ≡ rows → HasPlace (first_value f id) place
    → HasPlace (first_of id rows) place
said_place_if_any f rows id place e h = rw (← first_value-rows f id ∙ ap (first_of id) e) h

said_one : (f : Found) (rows : List Row) (id : Text) → rows_of f ≡ rows →
    one_text f id ≡ one_of id rows
said_one f rows id e = one_text-rows f id ∙ ap (one_of id) e

pub said_number : (f : Found) (rows : List Row) (id : Text) (n : ℕ) → rows_of f ≡ rows →
    IsNumber (one_text f id) n → IsNumber (one_of id rows) n
said_number f rows id n e h = record {
  text = h.text;
  is = sym (said_one f rows id e) ∙ h.is;
  numeral = h.numeral;
  value = h.value;
}

pub said_number_if_any : (f : Found) (rows : List Row) (id : Text) (number : Option ℕ) →
    rows_of f ≡ rows → IfSome number (λ n. IsNumber (one_text f id) n) →
    (number ≡ None → first_value f id ≡ None) → HasNumber rows id number
said_number_if_any f rows id (Some n) e some none = said_number f rows id n e some
said_number_if_any f rows id None e some none =
    sym (first_value-rows f id ∙ ap (first_of id) e) ∙ none refl

-- the entry has this id
abbrev has_id : Text → Entry → Bool
has_id id entry = bytes_eq entry.0.now id

-- where a value comes from, by the entry and by its row
pub source-rows : (f : Found) (id : Text) →
    option_and_then (λ (a : MatchedArg). a.source) (matched_of f id) ≡ source_of id (rows_of f)
source-rows f id = go (find (has_id id) f.entries.items)
    ∙ ap (option_and_then (λ (r : Row). r.source)) (sym (find_row f.entries.items id))
  where
    go : (o : Option Entry) →
        option_and_then (λ (a : MatchedArg). a.source) (option_map (λ e. e.1) o)
        ≡ option_and_then (λ (r : Row). r.source) (option_map row_of o)
    go None = refl
    go (Some e) = refl

pub said_flag : (f : Found) (rows : List Row) (id : Text) (flag : Bool) → rows_of f ≡ rows →
    ((one_text f id ≡ Some (codes "true")) → flag ≡ true) →
    ((one_text f id ≡ Some (codes "false")) → flag ≡ false) → HasFlag rows id flag
said_flag f rows id flag e set unset =
    (λ h. set (said_one f rows id e ∙ h), λ h. unset (said_one f rows id e ∙ h))

pub said_words : (f : Found) (rows : List Row) (id : Text) (words : List Text) → rows_of f ≡ rows →
    Some words ≡ option_map raw_values (matched_of f id) → all_of id rows ≡ Some words
said_words f rows id words e h = sym (raw_values-rows f id ∙ ap (all_of id) e) ∙ sym h

pub said_all : (f : Found) (rows : List Row) (id : Text) (words : List Text) → rows_of f ≡ rows →
    AreAll (option_map raw_values (matched_of f id)) words → AreAll (all_of id rows) words
said_all f rows id words e h = rw (← raw_values-rows f id ∙ ap (all_of id) e) h

-- what `?` hands on of an error
pub handed_on : {T : Type 0} (r : Result T Error) (e : Error) (Q : Error → Type 0) →
    IsErrAnd r (λ x. x ≡ e) → Q e → IfErr r Q
handed_on (Ok x) e Q same q = absurd same
handed_on (Err x) e Q same q = rw same q
