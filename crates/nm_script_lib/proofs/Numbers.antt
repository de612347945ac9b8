-- A number that is read is spelled by its digits, and a number that is spelled is read; std's
-- `parse` finds it.
use Rattle.std.proofs.Common.{◌≡◌, ◌≢◌, ℕ, ◌+◌, ◌*◌, ◌/◌, ◌%◌, ◌<◌, ◌^◌, Bool, true, false, cond, ◌&&◌, nat_lt, List, [], ◌∷◌, length, Some, None, Option, Result, Ok, Err, get_or, sym, refl, ap, arith}
use Rattle.std.specs.Fmt.{digit_glyph}
use Rattle.std.specs.Result.{OkIff, result_ok}
use Rattle.std.specs.Str.{all_ascii_digits, IsUtf8}
use Rattle.std.specs.Str.Parse.{digits_value, ParsesUnsigned}
use Rattle.std.proofs.lemmas.Fmt.{IsAscii-from_digits}
use Rattle.std.proofs.lemmas.Str.{IsUtf8-from_ascii}
use Rattle.std.proofs.lemmas.Str.Parse.{IsNumeralModel, numerals_by_value, tells_all_ascii_digits, parse_plain}
use Rattle.std.proofs.lemmas.Bool.{and_parts, and_from, ltb-true, lt-ltb}
use Rattle.std.proofs.lemmas.Option.{same_Some}
use Rattle.nm_script_lib.specs.Forms.{IsDecimal, hex_byte}
use Rattle.nm_script_lib.specs.Reading.{number_of, hex_digit_of, byte_of, ◌>>=◌}

pub guarded : {A : Type 0} (b : Bool) (x : Option A) (y : A) → cond b x None ≡ Some y →
    (b ≡ true) × (x ≡ Some y)
guarded true x y h = (refl, h)
guarded false x y h = cc

numerals : IsNumeralModel (λ ds. all_ascii_digits ds ≡ true) (digits_value 10)
numerals = numerals_by_value (λ ds. all_ascii_digits ds ≡ true) tells_all_ascii_digits

pub number_spells : (w : List ℕ) (n : ℕ) → number_of w ≡ Some n → IsDecimal w n
number_spells w n h =
    let some : Bool = nat_lt 0 (length w) in
    let small : Bool = nat_lt (digits_value 10 w) (2 ^ 64) in
    let g = guarded (all_ascii_digits w && (some && small)) (Some (digits_value 10 w)) n h in
    let tests = and_parts (all_ascii_digits w) (some && small) g.0 in
    let bounds = and_parts some small tests.1 in
    let value : digits_value 10 w ≡ n = same_Some (digits_value 10 w) n g.1 in
    record {
      digits = (ltb-true 0 (length w) bounds.0, numerals.to w tests.0);
      value = value;
      fits = rw (← value) (ltb-true (digits_value 10 w) (2 ^ 64) bounds.1);
    }

pub spells_number : (w : List ℕ) (n : ℕ) → IsDecimal w n → number_of w ≡ Some n
spells_number w n s =
    let small : digits_value 10 w < 2 ^ 64 = rw s.value s.fits in
    let bounds = and_from (nat_lt 0 (length w)) (nat_lt (digits_value 10 w) (2 ^ 64))
    (lt-ltb 0 (length w) s.digits.0) (lt-ltb (digits_value 10 w) (2 ^ 64) small) in
    let all = and_from (all_ascii_digits w)
    (nat_lt 0 (length w) && nat_lt (digits_value 10 w) (2 ^ 64)) (numerals.from w s.digits.1) bounds in
    rw all (ap Some s.value)

none_found : (found : Option ℕ) → ((n : ℕ) → found ≡ Some n → ⊥) → None ≡ found
none_found None never = refl
none_found (Some n) never = absurd (never n refl)

-- what std parses, of a text without a plus in front, is the number
pub parsed_number : {E : Type 0} (w : List ℕ) (r : Result ℕ E) → ParsesUnsigned 64 10 w r
    → get_or w 0 0 ≢ 43 → result_ok r ≡ number_of w
parsed_number w r parses plain = by_result r (parse_plain numerals 64 w r parses plain) where
  by_result : {E : Type 0} (r : Result ℕ E)
      → OkIff r ((all_ascii_digits w ≡ true) × (0 < length w) × (digits_value 10 w < 2 ^ 64))
      (digits_value 10 w) → result_ok r ≡ number_of w
  by_result (Ok n) is = sym (spells_number w n (record {
    digits = (is.0.1, numerals.to w is.0.0);
    value = sym is.1;
    fits = rw is.1 is.0.2;
  }))
  by_result (Err error) is = none_found (number_of w) (λ n found. let s = number_spells w n found in
      is (numerals.from w s.digits.1, s.digits.0, rw s.value s.fits))

-- bytes that are no text are no number
pub no_text_no_number : (w : List ℕ) → (IsUtf8 w → ⊥) → None ≡ number_of w
no_text_no_number w no_text = none_found (number_of w) (λ n found.
    no_text (IsUtf8-from_ascii w (IsAscii-from_digits w (number_spells w n found).digits.1)))

-- hexadecimal digits

hex_digit_says : (c d : ℕ) → hex_digit_of c ≡ Some d → (c ≡ digit_glyph false d) × (d < 16)
hex_digit_says c d h = grind arith

hex_digit_back : (d : ℕ) → d < 16 → hex_digit_of (digit_glyph false d) ≡ Some d
hex_digit_back d small = grind arith

both_digits : (a b : Option ℕ) (n : ℕ) → (a >>= λ h. b >>= λ l. Some (h * 16 + l)) ≡ Some n →
    (h : ℕ) × (l : ℕ) × (a ≡ Some h) × (b ≡ Some l) × (h * 16 + l ≡ n)
both_digits None b n e = cc
both_digits (Some h) None n e = cc
both_digits (Some h) (Some l) n e = (h, l, refl, refl, same_Some (h * 16 + l) n e)

pub byte_says : (w : List ℕ) (n : ℕ) → byte_of w ≡ Some n → (w ≡ hex_byte n) × (n < 256)
unfolding byte_of
byte_says [] n h = cc
byte_says (a ∷ []) n h = cc
byte_says (a ∷ b ∷ c ∷ cs) n h = cc
byte_says (a ∷ b ∷ []) n h =
    let d = both_digits (hex_digit_of a) (hex_digit_of b) n h in
    let high = hex_digit_says a d.0 d.2 in
    let low = hex_digit_says b d.1 d.3 in
    let top : n / 16 ≡ d.0 = omega (arith, d.4, low.1) in
    let rest : n % 16 ≡ d.1 = omega (arith, d.4, low.1) in
    (rw (top, rest, ← high.0, ← low.0) refl, omega (arith, d.4, low.1, high.1))

pub byte_back : (n : ℕ) → n < 256 → byte_of (hex_byte n) ≡ Some n
unfolding byte_of
byte_back n small =
    let high = hex_digit_back (n / 16) (omega arith) in
    let low = hex_digit_back (n % 16) (omega arith) in
    let whole : n / 16 * 16 + n % 16 ≡ n = omega arith in
    rw (high, low) (ap Some whole)
