-- The form of a line: which words it has, one after the other, and what they make.
use Rattle.std.specs.Prelude.{◌≡◌, ℕ, ◌^◌, ◌<◌, ◌≤◌, ◌/◌, ◌%◌, ◌⊎◌, false, List, [], ◌∷◌, length}
use Rattle.std.specs.Prelude.{codes}
use Rattle.std.specs.List.{join_with_byte, AllByRecursion}
use Rattle.std.specs.Fmt.{digit_glyph}
use Rattle.std.specs.Str.Parse.{IsNumeral, digits_value}
use Rattle.nm_choice.specs.declared.policy.Policy.{Policy}
use Rattle.nm_choice.specs.declared.policy.Policy.TheVariants.{RoundRobin, Striped}

-- The pieces of a text: the separator stands between each two, and nowhere else.
pub record AreSeparated (separator : ℕ) (text : List ℕ) (pieces : List (List ℕ)) : Type 0 where
  pub joined : text ≡ join_with_byte separator pieces
  pub some : 0 < length pieces
  pub each : AllByRecursion (AllByRecursion (λ b. b ≡ separator → ⊥)) pieces

-- Decimal digits of a number of 64 bits. Leading zeros are allowed.
pub record IsDecimal (word : List ℕ) (n : ℕ) : Type 0 where
  pub digits : IsNumeral 10 word
  pub value : digits_value 10 word ≡ n
  pub fits : n < 2 ^ 64

-- The two lower-case hexadecimal digits of a byte.
abbrev pub hex_byte : ℕ → List ℕ
hex_byte n = digit_glyph false (n / 16) ∷ digit_glyph false (n % 16) ∷ []

-- The word of a policy.
abbrev pub policy_word : Policy → List ℕ
policy_word RoundRobin = codes "rr"
policy_word Striped = codes "st"

-- What one word spells: a decimal number in some range, or a byte in hexadecimal.
pub data Kind : Type 0 where
  Number : Kind
  Below : ℕ → Kind
  Within : ℕ → ℕ → Kind
  Byte : Kind

-- The number is one of this kind.
abbrev pub IsOfKind : Kind → ℕ → Type 0
IsOfKind Number n = n < 2 ^ 64
IsOfKind (Below limit) n = n < limit
IsOfKind (Within least most) n = (least ≤ n) × (n ≤ most)
IsOfKind Byte n = n < 256

-- The word spells this number of this kind.
abbrev pub Spells : Kind → List ℕ → ℕ → Type 0
Spells Byte word n = (word ≡ hex_byte n) × IsOfKind Byte n
Spells kind word n = IsDecimal word n × IsOfKind kind n

-- A form of words. A keyword has a form for the words after it, and another form where the next
-- word is a different one.
pub data Form (A : Type 0) : Type 0 where
  Makes : A → Form A
  Then : Kind → (ℕ → Form A) → Form A
  ThenPolicy : (Policy → Form A) → Form A
  Keyword : List ℕ → Form A → Form A → Form A
  NoForm : Form A

-- One word of this kind, and what it makes.
abbrev pub one : {A : Type 0} → Kind → (ℕ → A) → Form A
one kind make = Then kind (λ n. Makes (make n))

-- Two words, and what they make.
abbrev pub two : {A : Type 0} → Kind → Kind → (ℕ → ℕ → A) → Form A
two first second make = Then first (λ m. Then second (λ n. Makes (make m n)))

-- The first row whose keyword is the next word, and its form for the words after it; where there is
-- none, the other form.
abbrev pub keywords : {A : Type 0} → List (List ℕ × Form A) → Form A → Form A
keywords [] other = other
keywords ((name, rest) ∷ rows) other = Keyword name rest (keywords rows other)

-- The words have this form, and make this.
abbrev pub Make : {A : Type 0} → Form A → List (List ℕ) → A → Type 0
Make (Makes made) words x = (words ≡ []) × (made ≡ x)
Make (Then kind rest) [] x = ⊥
Make (Then kind rest) (word ∷ words) x = (n : ℕ) × Spells kind word n × Make (rest n) words x
Make (ThenPolicy rest) [] x = ⊥
Make (ThenPolicy rest) (word ∷ words) x =
    (policy : Policy) × (word ≡ policy_word policy) × Make (rest policy) words x
Make (Keyword name rest other) [] x = ⊥
Make (Keyword name rest other) (word ∷ words) x =
    ((word ≡ name) × Make rest words x) ⊎ ((word ≡ name → ⊥) × Make other (word ∷ words) x)
Make NoForm words x = ⊥

-- A line of this form: words with one space between each two, which make this.
abbrev pub IsLine : {A : Type 0} → Form A → List ℕ → A → Type 0
IsLine form line x = (words : List (List ℕ)) × AreSeparated 32 line words × Make form words x
