-- What the private readers of words give. The laws in proofs/ tie it to the grammar.
use Rattle.std.specs.Prelude.{◌≡◌, ℕ, ◌+◌, ◌*◌, ◌-◌, ◌^◌, Bool, true, false, List, [], ◌∷◌, ◌==◌}
use Rattle.std.specs.Prelude.{◌&&◌, length, Option, Some, None, nat_lt, nat_le, if◌then◌else◌}
use Rattle.std.specs.Prelude.{codes}
use Rattle.std.specs.List.{slice_split}
use Rattle.std.specs.Option.{option_copied}
use Rattle.std.specs.Str.{all_ascii_digits}
use Rattle.std.specs.Str.Parse.{digits_value}
use Rattle.nm_choice.specs.declared.policy.Policy.{Policy}
use Rattle.nm_choice.specs.declared.policy.Policy.TheVariants.{RoundRobin, Striped}
use Rattle.nm_script_lib.specs.declared.words.Words.{Words}
use Rattle.nm_script_lib.specs.Forms.{Kind, Number, Below, Within, Byte, Form, Makes, Then}
use Rattle.nm_script_lib.specs.Forms.{ThenPolicy, Keyword, NoForm}

-- the pieces of a text between the bytes `at`
abbrev pub pieces : ℕ → List ℕ → List (List ℕ)
pieces at text = slice_split (λ b. b == at) text

-- the pieces of the rest of a text, if there is one
abbrev pub pieces_of_rest : ℕ → Option (List ℕ) → List (List ℕ)
pieces_of_rest at None = []
pieces_of_rest at (Some text) = pieces at text

-- how many bytes the rest has, and one for its being there
abbrev pub rest_size : Option (List ℕ) → ℕ
rest_size None = 0
rest_size (Some text) = length text + 1

-- the words that are still to be read
abbrev pub rest_words : Words → List (List ℕ)
rest_words w = pieces_of_rest 32 (option_copied w.rest)

infixl 10 ◌>>=◌
abbrev pub ◌>>=◌ : {A B : Type 0} → Option A → (A → Option B) → Option B
None >>= f = None
(Some x) >>= f = f x

-- a reader gave x, and these words are still to be read, or it gave nothing
abbrev pub Gives : {X : Type 0} → Option X → List (List ℕ) → Option (X × List (List ℕ)) → Type 0
Gives None rest read = read ≡ None
Gives (Some x) rest read = read ≡ Some (x, rest)

-- the number that a word of decimal digits spells, below 2^64
abbrev pub number_of : List ℕ → Option ℕ
number_of word =
    if all_ascii_digits word && (nat_lt 0 (length word) && nat_lt (digits_value 10 word) (2 ^ 64))
    then Some (digits_value 10 word) else None

abbrev pub hex_digit_of : ℕ → Option ℕ
hex_digit_of c =
    if nat_le 48 c && nat_le c 57 then Some (c - 48)
    else (if nat_le 97 c && nat_le c 102 then Some (c - 87) else None)

unfoldable pub byte_of : List ℕ → Option ℕ
byte_of (high ∷ low ∷ []) = hex_digit_of high >>= λ h. hex_digit_of low >>= λ l. Some (h * 16 + l)
byte_of _ = None

-- two words are the same
abbrev pub is_word : List ℕ → List ℕ → Bool
is_word [] [] = true
is_word [] (c ∷ cs) = false
is_word (b ∷ bs) [] = false
is_word (b ∷ bs) (c ∷ cs) = b == c && is_word bs cs

-- the number of this kind that a word spells
abbrev pub value_of : Kind → List ℕ → Option ℕ
value_of Number word = number_of word
value_of (Below limit) word = number_of word >>= λ n. if nat_lt n limit then Some n else None
value_of (Within least most) word =
    number_of word >>= λ n. if nat_le least n && nat_le n most then Some n else None
value_of Byte word = byte_of word

-- the next word
abbrev pub word_at : List (List ℕ) → Option (List ℕ × List (List ℕ))
word_at [] = None
word_at (word ∷ words) = Some (word, words)

-- the next word as a number of this kind
unfoldable pub value_at : Kind → List (List ℕ) → Option (ℕ × List (List ℕ))
value_at kind words = word_at words >>= λ w. value_of kind w.0 >>= λ n. Some (n, w.1)

-- the next word as a policy
unfoldable pub policy_at : List (List ℕ) → Option (Policy × List (List ℕ))
policy_at words = word_at words >>= λ w.
    if is_word w.0 (codes "rr") then Some (RoundRobin, w.1)
    else (if is_word w.0 (codes "st") then Some (Striped, w.1) else None)

-- what words of this form make, and the words after them
abbrev pub read : {A : Type 0} → Form A → List (List ℕ) → Option (A × List (List ℕ))
read (Makes made) words = Some (made, words)
read (Then kind rest) words = value_at kind words >>= λ n. read (rest n.0) n.1
read (ThenPolicy rest) words = policy_at words >>= λ p. read (rest p.0) p.1
read (Keyword name rest other) words = word_at words >>= λ w.
    if is_word w.0 name then read rest w.1 else read other words
read NoForm words = None

-- what was read, if no word is left
abbrev pub if_at_end : {X : Type 0} → X × List (List ℕ) → Option X
if_at_end (x, []) = Some x
if_at_end (x, word ∷ words) = None

-- what a line of this form makes
unfoldable pub read_line : {A : Type 0} → Form A → List ℕ → Option A
read_line form line = read form (pieces 32 line) >>= if_at_end
