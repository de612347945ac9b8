-- The loop over a text's options: each option that is passed joins those before it, and the ending
-- closes the tree.
use Rattle.std.proofs.Common.{◌≡◌, ◌≢◌, ℕ, ◌+◌, ◌-◌, ◌⊎◌, inl, inr, Bool, false, List, [], ◌∷◌, ◌++◌, length, take, drop, refl, sym, ap, ◌∙◌, subst, arith}
use Rattle.std.proofs.lemmas.List.{append_assoc, append-nil, take-append-drop, take_all, take_at, length-drop, drop-drop}
use Rattle.std.proofs.lemmas.Grind.{flat_map-append}
use Rattle.std.specs.List.{flat_map}
use Rattle.nm_wire.specs.declared.export.Export.{Export}
use Rattle.nm_wire.specs.declared.option_head.OptionHead.{OptionHead}
use Rattle.nm_haggle.specs.declared.next.Next.{Next}
use Rattle.nm_haggle.specs.declared.next.Next.TheVariants.{More, Transmit, Close}
use Rattle.nm_haggle.specs.declared.phase.Phase.TheVariants as phase
use Rattle.nm_haggle.specs.declared.progress.Progress.{Progress}
use Rattle.nm_haggle.specs.ClientOption.{option_bytes, IsUnfinished}
use Rattle.nm_haggle.specs.Answer.{IsAnswered, answer_to}
use Rattle.nm_haggle.specs.FirstOption.{option_at, BeginsRefused, BeginsAccepted}
use Rattle.nm_haggle.specs.Handshake.{Ending, Waits, Settles, Breaks, ending_bytes, IsPassed, IsEnding, replies, ending_destination}
use Rattle.nm_haggle.specs.Haggling.{OptionsLead}
use Rattle.nm_haggle.specs.Output.{Appends}
use Rattle.nm_haggle.specs.Progress.{Passes, Advances}
use Rattle.nm_haggle.proofs.Pieces.{all_append, replies-append}

-- the loop's invariant, and what it leads to
abbrev pub Passed : Export → Bool → List ℕ → ℕ → List ℕ → List ℕ → Type 0
Passed export nz text used old mid = Appends old mid (λ out. Passes export nz text used out)

abbrev pub Ended : Export → Bool → List ℕ → Progress → List ℕ → List ℕ → Type 0
Ended export nz text p old new = Appends old new (λ out. Advances export (phase.Options nz) text out p)

-- the rest of a text, as the code cuts it
pub slice_is_rest : (text : List ℕ) (used : ℕ) → take (length text - used) (drop used text) ≡ drop used text
slice_is_rest text used = take_all (length text - used) (drop used text) (omega (arith, length-drop used text))

pub passes_none : (export : Export) (nz : Bool) (text old : List ℕ) → Passed export nz text 0 old old
passes_none export nz text old = record {
  bytes = [];
  appended = sym (append-nil old);
  holds = record { answered = []; each = tt; within = omega arith; bytes = refl; out_is = refl };
}

-- the option whose header the rest begins with, as it was answered
same_option : (export : Export) (nz : Bool) (rest payload mid new : List ℕ) (head : OptionHead) (next : Next)
    → payload ≡ take head.length (drop 16 rest)
    → IsAnswered (answer_to export nz (record { number = head.option; payload = payload })) mid new next
    → IsAnswered (answer_to export nz (option_at head rest)) mid new next
same_option export nz rest payload mid new head next e h =
    subst (λ xs. IsAnswered (answer_to export nz (record { number = head.option; payload = xs })) mid new next) e h

-- one more reply after those before
one_more : (old mid new bytes reply : List ℕ) → mid ≡ old ++ bytes → new ≡ mid ++ reply → new ≡ old ++ (bytes ++ reply)
one_more old mid new bytes reply e f = f ∙ ap (λ xs. xs ++ reply) e ∙ append_assoc old bytes reply

pub passes_more : (export : Export) (nz : Bool) (text : List ℕ) (used : ℕ) (old mid new rest payload : List ℕ)
    (head : OptionHead) (next : Next) → Passed export nz text used old mid → rest ≡ drop used text → BeginsAccepted rest head
    → payload ≡ take head.length (drop 16 rest)
    → IsAnswered (answer_to export nz (record { number = head.option; payload = payload })) mid new next → next ≡ More
    → Passed export nz text (used + (16 + head.length)) old new
passes_more export nz text used old mid new rest payload head next q r t e h m =
    let p = q.holds in
    let o = option_at head rest in
    let a = same_option export nz rest payload mid new head next e h in
    let bytes_too : rest ≡ option_bytes o ++ drop (used + (16 + head.length)) text =
    t.bytes ∙ ap (λ xs. option_bytes o ++ drop (16 + head.length) xs) r
    ∙ ap (λ xs. option_bytes o ++ xs) (drop-drop (16 + head.length) used text) in
    let single : flat_map option_bytes (p.answered ++ o ∷ []) ≡ flat_map option_bytes p.answered ++ option_bytes o =
    flat_map-append option_bytes p.answered (o ∷ []) ∙ ap (λ xs. flat_map option_bytes p.answered ++ xs) (append-nil (option_bytes o)) in
    record {
      bytes = q.bytes ++ (answer_to export nz o).out;
      appended = one_more old mid new q.bytes (answer_to export nz o).out q.appended a.out;
      holds = record {
        answered = p.answered ++ o ∷ [];
        each = all_append (IsPassed export nz) p.answered (o ∷ []) p.each (record { accepted = t.accepted; next = sym a.next_is ∙ m }, tt);
        within = omega (arith, t.within, ap length r, length-drop used text, p.within);
        bytes = p.bytes ∙ ap (λ xs. flat_map option_bytes p.answered ++ xs) (sym r ∙ bytes_too)
            ∙ sym (append_assoc (flat_map option_bytes p.answered) (option_bytes o) (drop (used + (16 + head.length)) text))
            ∙ ap (λ xs. xs ++ drop (used + (16 + head.length)) text) (sym single);
        out_is = ap (λ xs. xs ++ (answer_to export nz o).out) p.out_is
            ∙ ap (λ xs. replies export nz p.answered ++ xs) (sym (append-nil (answer_to export nz o).out))
            ∙ sym (replies-append export nz p.answered (o ∷ []));
      };
    }

-- a text whose options were passed, and the ending after them
ends : (export : Export) (nz : Bool) (text : List ℕ) (used : ℕ) (out : List ℕ) (e : Ending)
    → (p : Passes export nz text used out) → IsEnding export nz e → drop used text ≡ ending_bytes e
    → OptionsLead export nz text (ending_destination export nz (replies export nz p.answered) e)
ends export nz text used out e p v b = record {
  tree = record { answered = p.answered; ending = e };
  valid = record { answered = p.each; ending = v };
  bytes = p.bytes ∙ ap (λ xs. flat_map option_bytes p.answered ++ xs) b;
  destination = refl;
}

pub waits : (export : Export) (nz : Bool) (text : List ℕ) (used : ℕ) (old mid rest : List ℕ)
    → Passed export nz text used old mid → rest ≡ drop used text → IsUnfinished rest
    → Ended export nz text (record { used = used; next = More; phase = phase.Options nz }) old mid
waits export nz text used old mid rest q r u = record {
  bytes = q.bytes;
  appended = q.appended;
  holds = record {
    destination = ending_destination export nz (replies export nz q.holds.answered) (Waits (drop used text));
    leads = ends export nz text used q.bytes (Waits (drop used text)) q.holds (subst (λ xs. IsUnfinished xs) r u) refl;
    out_is = q.holds.out_is;
    next_is = refl;
    phase_is = refl;
    within = q.holds.within;
    rest_is = refl;
  };
}

pub breaks : (export : Export) (nz : Bool) (text : List ℕ) (used : ℕ) (old mid rest : List ℕ)
    → Passed export nz text used old mid → rest ≡ drop used text → BeginsRefused rest
    → Ended export nz text (record { used = used + 16; next = Close false; phase = phase.Over }) old mid
breaks export nz text used old mid rest q r b =
    let remaining : drop (used + 16) text ≡ drop 16 rest = sym (drop-drop 16 used text) ∙ ap (λ xs. drop 16 xs) (sym r) in
    let e = Breaks (take 16 rest) (drop 16 rest) in
    record {
      bytes = q.bytes;
      appended = q.appended;
      holds = record {
        destination = ending_destination export nz (replies export nz q.holds.answered) e;
        leads = ends export nz text used q.bytes e q.holds b.refused (sym r ∙ sym (take-append-drop 16 rest));
        out_is = q.holds.out_is;
        next_is = refl;
        phase_is = refl;
        within = omega (arith, b.within, ap length r, length-drop used text, q.holds.within);
        rest_is = remaining;
      };
    }

pub settles : (export : Export) (nz : Bool) (text : List ℕ) (used : ℕ) (old mid new rest payload : List ℕ)
    (head : OptionHead) (next : Next) → Passed export nz text used old mid → rest ≡ drop used text → BeginsAccepted rest head
    → payload ≡ take head.length (drop 16 rest)
    → IsAnswered (answer_to export nz (record { number = head.option; payload = payload })) mid new next → next ≢ More
    → Ended export nz text (record { used = used + (16 + head.length); next = next; phase = phase.Over }) old new
settles export nz text used old mid new rest payload head next q r t e h n =
    let p = q.holds in
    let o = option_at head rest in
    let a = same_option export nz rest payload mid new head next e h in
    let remaining : drop (used + (16 + head.length)) text ≡ drop (16 + head.length) rest =
    sym (drop-drop (16 + head.length) used text) ∙ ap (λ xs. drop (16 + head.length) xs) (sym r) in
    let ending = Settles o (drop (16 + head.length) rest) in
    record {
      bytes = q.bytes ++ (answer_to export nz o).out;
      appended = one_more old mid new q.bytes (answer_to export nz o).out q.appended a.out;
      holds = record {
        destination = ending_destination export nz (replies export nz p.answered) ending;
        leads = ends export nz text used q.bytes ending p
            (record { accepted = t.accepted; next = λ m. n (a.next_is ∙ m) }) (sym r ∙ t.bytes);
        out_is = ap (λ xs. xs ++ (answer_to export nz o).out) p.out_is;
        next_is = a.next_is;
        phase_is = refl;
        within = omega (arith, t.within, ap length r, length-drop used text, p.within);
        rest_is = remaining;
      };
    }

-- what begins with a list begins with what that list begins with
pub begins_too : (a b c bytes : List ℕ) → b ≡ a ++ bytes → take (length b) c ≡ b → take (length a) c ≡ a
begins_too a b c bytes e h =
    let whole : c ≡ a ++ (bytes ++ drop (length b) c) =
    sym (take-append-drop (length b) c) ∙ ap (λ xs. xs ++ drop (length b) c) (h ∙ e) ∙ append_assoc a bytes (drop (length b) c) in
    ap (λ xs. take (length a) xs) whole ∙ take_at a (bytes ++ drop (length b) c) (length a) refl

-- what ends the haggling does not ask for more
pub ends_not_more : (next : Next) → (next ≡ Transmit) ⊎ ((aborted : Bool) × (next ≡ Close aborted)) → next ≢ More
ends_not_more next (inl e) m = let no : Transmit ≡ More = sym e ∙ m in absurd (cc)
ends_not_more next (inr e) m = let no : Close e.0 ≡ More = sym e.1 ∙ m in absurd (cc)
