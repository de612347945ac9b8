-- What is read of a line is what a line of the form makes, and what such a line makes is read.
use Rattle.std.proofs.Common.{◌≡◌, ℕ, Bool, true, false, cond, ◌&&◌, nat_lt, nat_le, ◌==◌, List, [], ◌∷◌, Some, None, Option, codes, refl, ap, subst, ◌∙◌, inl, inr}
use Rattle.std.proofs.lemmas.Bool.{and_parts, and_from, ltb-true, lt-ltb, leb-true, le-leb, eqb-true, eq-eqb, false_from_ne_true, both_ways}
use Rattle.std.proofs.lemmas.Option.{same_Some}
use Rattle.nm_choice.specs.declared.policy.Policy.{Policy}
use Rattle.nm_choice.specs.declared.policy.Policy.TheVariants.{RoundRobin, Striped}
use Rattle.nm_script_lib.specs.Forms.{policy_word, Kind, Number, Below, Within, Byte, IsOfKind, Spells, Form, Makes, Then, ThenPolicy, Keyword, NoForm, Make, IsLine}
use Rattle.nm_script_lib.specs.Reading.{pieces, number_of, value_of, value_at, policy_at, is_word, read, read_line, if_at_end, ◌>>=◌}
use Rattle.nm_script_lib.proofs.Numbers.{guarded, number_spells, spells_number, byte_says, byte_back}
use Rattle.nm_script_lib.proofs.Joined.{are_separated, pieces_are}

bound : {A B : Type 0} (o : Option A) (f : A → Option B) (y : B) → (o >>= f) ≡ Some y →
    (x : A) × (o ≡ Some x) × (f x ≡ Some y)
bound None f y h = cc
bound (Some x) f y h = (x, refl, h)

pub same_word : (a b : List ℕ) → is_word a b ≡ true → a ≡ b
same_word [] [] h = refl
same_word [] (c ∷ cs) h = cc
same_word (b ∷ bs) [] h = cc
same_word (b ∷ bs) (c ∷ cs) h =
    let p = and_parts (b == c) (is_word bs cs) h in
    let e = eqb-true b c p.0 in
    let f = same_word bs cs p.1 in
    cc

pub word_same : (a : List ℕ) → is_word a a ≡ true
word_same [] = refl
word_same (b ∷ bs) = and_from (b == b) (is_word bs bs) (eq-eqb b b refl) (word_same bs)

same_tests : (a b : List ℕ) → a ≡ b → is_word a b ≡ true
same_tests a b e = ap (λ x. is_word x b) e ∙ word_same b

other_tests : (a b : List ℕ) → (a ≡ b → ⊥) → is_word a b ≡ false
other_tests a b ne = false_from_ne_true (is_word a b) (λ t. ne (same_word a b t))

-- one word

value_sound : (kind : Kind) (w : List ℕ) (n : ℕ) → value_of kind w ≡ Some n → Spells kind w n
value_sound Number w n h = let s = number_spells w n h in (s, s.fits)
value_sound (Below limit) w n h =
    let b = bound (number_of w) (λ n. cond (nat_lt n limit) (Some n) None) n h in
    let g = guarded (nat_lt b.0 limit) (Some b.0) n b.2 in
    let e = same_Some b.0 n g.1 in
    rw (← e) (number_spells w b.0 b.1, ltb-true b.0 limit g.0)
value_sound (Within least most) w n h =
    let b = bound (number_of w) (λ n. cond (nat_le least n && nat_le n most) (Some n) None) n h in
    let g = guarded (nat_le least b.0 && nat_le b.0 most) (Some b.0) n b.2 in
    let e = same_Some b.0 n g.1 in
    let p = and_parts (nat_le least b.0) (nat_le b.0 most) g.0 in
    rw (← e) (number_spells w b.0 b.1, (leb-true least b.0 p.0, leb-true b.0 most p.1))
value_sound Byte w n h = byte_says w n h

value_complete : (kind : Kind) (w : List ℕ) (n : ℕ) → Spells kind w n → value_of kind w ≡ Some n
value_complete Number w n s = spells_number w n s.0
value_complete (Below limit) w n s = rw (spells_number w n s.0, lt-ltb n limit s.1) refl
value_complete (Within least most) w n s =
    rw (spells_number w n s.0, le-leb least n s.1.0, le-leb n most s.1.1) refl
value_complete Byte w n s = rw s.0 (byte_back n s.1)

-- the words of a form

abbrev given : {X : Type 0} → X → List (List ℕ) → Option (X × List (List ℕ))
given x words = Some (x, words)

abbrev Reads : {A : Type 0} → Form A → List (List ℕ) → A → Type 0
Reads form words x = (read form words >>= if_at_end) ≡ Some x

end_sound : {A : Type 0} (made : A) (words : List (List ℕ)) (x : A) → Reads (Makes made) words x →
    (words ≡ []) × (made ≡ x)
end_sound made [] x h = (refl, same_Some made x h)
end_sound made (w ∷ words) x h = cc

then_sound : {A : Type 0} (kind : Kind) (rest : ℕ → Form A) (w : List ℕ) (words : List (List ℕ))
    (x : A) (o : Option ℕ) →
    ((n : ℕ) → Reads (rest n) words x → Make (rest n) words x) → value_of kind w ≡ o →
    (((o >>= λ n. given n words) >>= λ n. read (rest n.0) n.1) >>= if_at_end) ≡ Some x →
    Make (Then kind rest) (w ∷ words) x
then_sound kind rest w words x None sound e h = cc
then_sound kind rest w words x (Some n) sound e h = (n, value_sound kind w n e, sound n h)

policy_sound : {A : Type 0} (rest : Policy → Form A) (w : List ℕ) (words : List (List ℕ)) (x : A)
    (is_rr is_st : Bool) →
    ((p : Policy) → Reads (rest p) words x → Make (rest p) words x) →
    is_word w (codes "rr") ≡ is_rr → is_word w (codes "st") ≡ is_st →
    ((cond is_rr (given RoundRobin words) (cond is_st (given Striped words) None) >>=
    λ p. read (rest p.0) p.1) >>= if_at_end) ≡ Some x →
    Make (ThenPolicy rest) (w ∷ words) x
policy_sound rest w words x true b sound e f h =
    (RoundRobin, same_word w (codes "rr") e, sound RoundRobin h)
policy_sound rest w words x false true sound e f h =
    (Striped, same_word w (codes "st") f, sound Striped h)
policy_sound rest w words x false false sound e f h = cc

keyword_sound : {A : Type 0} (name : List ℕ) (rest other : Form A) (w : List ℕ)
    (words : List (List ℕ)) (x : A) (b : Bool) →
    (Reads rest words x → Make rest words x) →
    (Reads other (w ∷ words) x → Make other (w ∷ words) x) → is_word w name ≡ b →
    (cond b (read rest words) (read other (w ∷ words)) >>= if_at_end) ≡ Some x →
    Make (Keyword name rest other) (w ∷ words) x
keyword_sound name rest other w words x true sound else e h = inl (same_word w name e, sound h)
keyword_sound name rest other w words x false sound else e h =
    inr ((λ same. both_ways (is_word w name) e (same_tests w name same)), else h)

read_sound : {A : Type 0} (form : Form A) (words : List (List ℕ)) (x : A) → Reads form words x →
    Make form words x
unfolding value_at policy_at
read_sound (Makes made) words x h = end_sound made words x h
read_sound (Then kind rest) [] x h = cc
read_sound (Then kind rest) (w ∷ words) x h =
    then_sound kind rest w words x (value_of kind w) (λ n. read_sound (rest n) words x) refl h
read_sound (ThenPolicy rest) [] x h = cc
read_sound (ThenPolicy rest) (w ∷ words) x h =
    policy_sound rest w words x (is_word w (codes "rr")) (is_word w (codes "st"))
    (λ p. read_sound (rest p) words x) refl refl h
read_sound (Keyword name rest other) [] x h = cc
read_sound (Keyword name rest other) (w ∷ words) x h =
    keyword_sound name rest other w words x (is_word w name) (read_sound rest words x)
    (read_sound other (w ∷ words) x) refl h
read_sound NoForm words x h = cc

policy_complete : (p : Policy) (words : List (List ℕ)) →
    policy_at (policy_word p ∷ words) ≡ Some (p, words)
unfolding policy_at
policy_complete RoundRobin words = refl
policy_complete Striped words = refl

value_given : (kind : Kind) (w : List ℕ) (words : List (List ℕ)) (n : ℕ) → Spells kind w n →
    value_at kind (w ∷ words) ≡ Some (n, words)
unfolding value_at
value_given kind w words n s = rw (value_complete kind w n s) refl

read_complete : {A : Type 0} (form : Form A) (words : List (List ℕ)) (x : A) → Make form words x →
    Reads form words x
read_complete (Makes made) words x h = rw (h.0, h.1) refl
read_complete (Then kind rest) [] x h = absurd h
read_complete (Then kind rest) (w ∷ words) x h =
    rw (value_given kind w words h.0 h.1) (read_complete (rest h.0) words x h.2)
read_complete (ThenPolicy rest) [] x h = absurd h
read_complete (ThenPolicy rest) (w ∷ words) x h =
    rw (h.1, policy_complete h.0 words) (read_complete (rest h.0) words x h.2)
read_complete (Keyword name rest other) [] x h = absurd h
read_complete (Keyword name rest other) (w ∷ words) x (inl h) =
    rw (same_tests w name h.0) (read_complete rest words x h.1)
read_complete (Keyword name rest other) (w ∷ words) x (inr h) =
    rw (other_tests w name h.0) (read_complete other (w ∷ words) x h.1)
read_complete NoForm words x h = absurd h

-- a whole line

pub line_sound : {A : Type 0} (form : Form A) (line : List ℕ) (x : A) →
    read_line form line ≡ Some x → IsLine form line x
unfolding read_line
line_sound form line x h =
    (pieces 32 line, are_separated 32 line, read_sound form (pieces 32 line) x h)

pub line_complete : {A : Type 0} (form : Form A) (line : List ℕ) (x : A) → IsLine form line x →
    read_line form line ≡ Some x
unfolding read_line
line_complete form line x h =
    rw (pieces_are 32 line h.0 h.1) (read_complete form h.0 x h.2)

-- what a form makes

-- whatever the form makes has this property
abbrev pub Always : {A : Type 0} → (A → Type 0) → Form A → Type 0
Always P (Makes made) = P made
Always P (Then kind rest) = (n : ℕ) → IsOfKind kind n → Always P (rest n)
Always P (ThenPolicy rest) = (p : Policy) → Always P (rest p)
Always P (Keyword name rest other) = Always P rest × Always P other
Always P NoForm = Unit {0}

of_kind : (kind : Kind) (w : List ℕ) (n : ℕ) → Spells kind w n → IsOfKind kind n
of_kind Number w n s = s.1
of_kind (Below limit) w n s = s.1
of_kind (Within least most) w n s = s.1
of_kind Byte w n s = s.1

made_always : {A : Type 0} (P : A → Type 0) (form : Form A) (words : List (List ℕ)) (x : A) →
    Always P form → Make form words x → P x
made_always P (Makes made) words x all h = subst P h.1 all
made_always P (Then kind rest) [] x all h = absurd h
made_always P (Then kind rest) (w ∷ words) x all h =
    made_always P (rest h.0) words x (all h.0 (of_kind kind w h.0 h.1)) h.2
made_always P (ThenPolicy rest) [] x all h = absurd h
made_always P (ThenPolicy rest) (w ∷ words) x all h =
    made_always P (rest h.0) words x (all h.0) h.2
made_always P (Keyword name rest other) [] x all h = absurd h
made_always P (Keyword name rest other) (w ∷ words) x all (inl h) =
    made_always P rest words x all.0 h.1
made_always P (Keyword name rest other) (w ∷ words) x all (inr h) =
    made_always P other (w ∷ words) x all.1 h.1
made_always P NoForm words x all h = absurd h

pub line_always : {A : Type 0} (P : A → Type 0) (form : Form A) (line : List ℕ) (x : A) →
    Always P form → IsLine form line x → P x
line_always P form line x all h = made_always P form h.0 x all h.2
