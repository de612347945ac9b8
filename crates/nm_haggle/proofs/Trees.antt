-- A text has one tree: its options are found one after the other, and one ending after them.
use Rattle.std.proofs.Common.{◌≡◌, ℕ, ◌<◌, ◌≤◌, ◌^◌, Bool, List, [], ◌∷◌, ◌++◌, length, refl, sym, ap, ◌∙◌, subst, arith, length-append}
use Rattle.std.proofs.lemmas.List.{append_assoc, append-nil}
use Rattle.std.specs.List.{flat_map, AllByRecursion}
use Rattle.nm_wire.specs.Number.{be}
use Rattle.nm_wire.specs.declared.export.Export.{Export}
use Rattle.nm_haggle.specs.ClientOption.{ClientOption, option_bytes, IsAccepted, IsUnfinished, IsRefused}
use Rattle.nm_haggle.specs.Handshake.{Ending, Waits, Settles, Breaks, Options, Handshake, NoFlags, BadFlags, GoodFlags, ending_bytes, options_bytes, handshake_bytes, IsPassed, IsEnding, IsOptions, IsHandshake, has_no_zeroes}
use Rattle.nm_wire.proofs.Numbers.{length-be, be-unique}
use Rattle.nm_haggle.proofs.Elements.{same_prefixes}
use Rattle.nm_haggle.proofs.Elements.{options_one, unfinished_is_short, accepted_not_refused, unfinished_not_refused}

-- a rest that is unfinished is not as long as an option or a refused header that it begins
rest_no_option : (o : ClientOption) (rest x : List ℕ) → IsAccepted o → IsUnfinished rest → rest ≡ option_bytes o ++ x → ⊥
rest_no_option o rest x t u e =
    omega (arith, unfinished_is_short o rest [] x t u (append-nil rest ∙ e), ap length e, length-append (option_bytes o) x)

rest_no_refused : (rest head y : List ℕ) → IsUnfinished rest → IsRefused head → rest ≡ head ++ y → ⊥
rest_no_refused rest head y u r e =
    omega (arith, unfinished_not_refused rest [] head y u r (append-nil rest ∙ e), ap length e, length-append head y, r.whole)

-- an ending begins with no option after which the haggling goes on
pub ending_no_passed : (export : Export) (nz : Bool) (e : Ending) (p : ClientOption) (x : List ℕ)
    → IsEnding export nz e → IsPassed export nz p → ending_bytes e ≡ option_bytes p ++ x → ⊥
ending_no_passed export nz (Waits rest) p x u t h = rest_no_option p rest x t.accepted u h
ending_no_passed export nz (Settles o remaining) p x l t h =
    let same = (options_one o p remaining x l.accepted t.accepted h).0 in
    l.next (subst (λ q. (Rattle.nm_haggle.specs.Answer.answer_to export nz q).next ≡ Rattle.nm_haggle.specs.declared.next.Next.TheVariants.More) (sym same) t.next)
ending_no_passed export nz (Breaks head remaining) p x r t h = accepted_not_refused p head x remaining t.accepted r (sym h)

same_settles : {o p : ClientOption} {x y : List ℕ} → o ≡ p → x ≡ y → Settles o x ≡ Settles p y
same_settles {o} {p} {x} {y} e f = ap (λ q. Settles q x) e ∙ ap (λ xs. Settles p xs) f

same_breaks : {a b x y : List ℕ} → a ≡ b → x ≡ y → Breaks a x ≡ Breaks b y
same_breaks {a} {b} {x} {y} e f = ap (λ q. Breaks q x) e ∙ ap (λ xs. Breaks b xs) f

pub ending_one : (export : Export) (nz : Bool) (d e : Ending) → IsEnding export nz d → IsEnding export nz e
    → ending_bytes d ≡ ending_bytes e → d ≡ e
ending_one export nz (Waits r) (Waits s) u v h = ap (λ xs. Waits xs) h
ending_one export nz (Waits r) (Settles o x) u l h = absurd (rest_no_option o r x l.accepted u h)
ending_one export nz (Waits r) (Breaks b x) u f h = absurd (rest_no_refused r b x u f h)
ending_one export nz (Settles o x) (Waits s) l v h = absurd (rest_no_option o s x l.accepted v (sym h))
ending_one export nz (Settles o x) (Settles p y) l m h =
    let both = options_one o p x y l.accepted m.accepted h in same_settles both.0 both.1
ending_one export nz (Settles o x) (Breaks b y) l f h = absurd (accepted_not_refused o b x y l.accepted f h)
ending_one export nz (Breaks a x) (Waits s) r v h = absurd (rest_no_refused s a x v r (sym h))
ending_one export nz (Breaks a x) (Settles o y) r m h = absurd (accepted_not_refused o a y x m.accepted r (sym h))
ending_one export nz (Breaks a x) (Breaks b y) r f h =
    let both = same_prefixes a b x y (r.whole ∙ sym f.whole) h in same_breaks both.0 both.1

-- options that were passed begin every other reading of the text that they begin
pub passed_begin : (export : Export) (nz : Bool) (passed others : List ClientOption) (z : List ℕ) (e : Ending)
    → AllByRecursion (IsPassed export nz) passed → AllByRecursion (IsPassed export nz) others → IsEnding export nz e
    → flat_map option_bytes passed ++ z ≡ flat_map option_bytes others ++ ending_bytes e
    → (more : List ClientOption) × AllByRecursion (IsPassed export nz) more × (others ≡ passed ++ more)
    × (z ≡ flat_map option_bytes more ++ ending_bytes e)
passed_begin export nz [] others z e p q f h = (others, q, refl, h)
passed_begin export nz (o ∷ os) [] z e p q f h =
    absurd (ending_no_passed export nz e o (flat_map option_bytes os ++ z) f p.0
    (sym h ∙ append_assoc (option_bytes o) (flat_map option_bytes os) z))
passed_begin export nz (o ∷ os) (b ∷ bs) z e p q f h =
    let both = options_one o b (flat_map option_bytes os ++ z) (flat_map option_bytes bs ++ ending_bytes e) p.0.accepted q.0.accepted
    (sym (append_assoc (option_bytes o) (flat_map option_bytes os) z) ∙ h
    ∙ append_assoc (option_bytes b) (flat_map option_bytes bs) (ending_bytes e)) in
    let rest = passed_begin export nz os bs z e p.1 q.1 f both.1 in
    (rest.0, rest.1, ap (λ (q : ClientOption). q ∷ bs) (sym both.0) ∙ ap (λ (qs : List ClientOption). o ∷ qs) rest.2, rest.3)

same_options : {t u : Options} → t.answered ≡ u.answered → t.ending ≡ u.ending → t ≡ u
same_options {t} {u} e f =
    let with_answered : List ClientOption → Options = λ os. record { answered = os; ending = t.ending } in
    let with_ending : Ending → Options = λ d. record { answered = u.answered; ending = d } in
    ap with_answered e ∙ ap with_ending f

lists_one : (export : Export) (nz : Bool) (as_read others : List ClientOption) (d e : Ending)
    → AllByRecursion (IsPassed export nz) as_read → IsEnding export nz d
    → AllByRecursion (IsPassed export nz) others → IsEnding export nz e
    → flat_map option_bytes as_read ++ ending_bytes d ≡ flat_map option_bytes others ++ ending_bytes e
    → (as_read ≡ others) × (d ≡ e)
lists_one export nz [] [] d e p f q g h = (refl, ending_one export nz d e f g h)
lists_one export nz [] (b ∷ bs) d e p f q g h =
    absurd (ending_no_passed export nz d b (flat_map option_bytes bs ++ ending_bytes e) f q.0
    (h ∙ append_assoc (option_bytes b) (flat_map option_bytes bs) (ending_bytes e)))
lists_one export nz (o ∷ os) [] d e p f q g h =
    absurd (ending_no_passed export nz e o (flat_map option_bytes os ++ ending_bytes d) g p.0
    (sym h ∙ append_assoc (option_bytes o) (flat_map option_bytes os) (ending_bytes d)))
lists_one export nz (o ∷ os) (b ∷ bs) d e p f q g h =
    let both = options_one o b (flat_map option_bytes os ++ ending_bytes d) (flat_map option_bytes bs ++ ending_bytes e) p.0.accepted q.0.accepted
    (sym (append_assoc (option_bytes o) (flat_map option_bytes os) (ending_bytes d)) ∙ h
    ∙ append_assoc (option_bytes b) (flat_map option_bytes bs) (ending_bytes e)) in
    let rest = lists_one export nz os bs d e p.1 f q.1 g both.1 in
    (ap (λ (q : ClientOption). q ∷ os) both.0 ∙ ap (λ (qs : List ClientOption). b ∷ qs) rest.0, rest.1)

-- a text of options has one tree
pub options_tree_one : (export : Export) (nz : Bool) (t u : Options) → IsOptions export nz t → IsOptions export nz u
    → options_bytes t ≡ options_bytes u → t ≡ u
options_tree_one export nz t u p q h =
    let both = lists_one export nz t.answered u.answered t.ending u.ending p.answered p.ending q.answered q.ending h in
    same_options both.0 both.1

-- bytes of flags that are one
pub flags_one : (f g : ℕ) (x y : List ℕ) → f < 2 ^ 32 → g < 2 ^ 32 → be 4 f ++ x ≡ be 4 g ++ y → (f ≡ g) × (x ≡ y)
flags_one f g x y l k h = be-unique 4 f g x y l k h

no_flags : (rest : List ℕ) (f : ℕ) (x : List ℕ) → length rest < 4 → rest ≡ be 4 f ++ x → ⊥
no_flags rest f x l h = omega (arith, l, ap length h, length-append (be 4 f) x, length-be 4 f)

bad_not_good : (f g : ℕ) (x y : List ℕ) → 4 ≤ f → f < 2 ^ 32 → g < 4 → be 4 f ++ x ≡ be 4 g ++ y → ⊥
bad_not_good f g x y b l k h =
    let small : g < 2 ^ 32 = omega (arith, k) in
    omega (arith, (flags_one f g x y l small h).0, b, k)

same_bad : {f g : ℕ} {x y : List ℕ} → f ≡ g → x ≡ y → BadFlags f x ≡ BadFlags g y
same_bad {f} {g} {x} {y} e h = ap (λ n. BadFlags n x) e ∙ ap (λ xs. BadFlags g xs) h

same_good : {f g : ℕ} {x y : Options} → f ≡ g → x ≡ y → GoodFlags f x ≡ GoodFlags g y
same_good {f} {g} {x} {y} e h = ap (λ n. GoodFlags n x) e ∙ ap (λ xs. GoodFlags g xs) h

-- a whole text has one tree
pub handshake_tree_one : (export : Export) (t u : Handshake) → IsHandshake export t → IsHandshake export u
    → handshake_bytes t ≡ handshake_bytes u → t ≡ u
handshake_tree_one export (NoFlags r) (NoFlags s) p q h = ap (λ xs. NoFlags xs) h
handshake_tree_one export (NoFlags r) (BadFlags f x) p q h = absurd (no_flags r f x p h)
handshake_tree_one export (NoFlags r) (GoodFlags f o) p q h = absurd (no_flags r f (options_bytes o) p h)
handshake_tree_one export (BadFlags f x) (NoFlags s) p q h = absurd (no_flags s f x q (sym h))
handshake_tree_one export (BadFlags f x) (BadFlags g y) p q h =
    let both = flags_one f g x y p.1 q.1 h in same_bad both.0 both.1
handshake_tree_one export (BadFlags f x) (GoodFlags g o) p q h =
    absurd (bad_not_good f g x (options_bytes o) p.0 p.1 q.0 h)
handshake_tree_one export (GoodFlags f o) (NoFlags s) p q h = absurd (no_flags s f (options_bytes o) q (sym h))
handshake_tree_one export (GoodFlags f o) (BadFlags g y) p q h =
    absurd (bad_not_good g f y (options_bytes o) q.0 q.1 p.0 (sym h))
handshake_tree_one export (GoodFlags f o) (GoodFlags g n) p q h =
    let small_f : f < 2 ^ 32 = omega (arith, p.0) in
    let small_g : g < 2 ^ 32 = omega (arith, q.0) in
    let both = flags_one f g (options_bytes o) (options_bytes n) small_f small_g h in
    let one = options_tree_one export (has_no_zeroes f) o n p.1
    (subst (λ m. IsOptions export (has_no_zeroes m) n) (sym both.0) q.1) both.1 in
    same_good both.0 one
