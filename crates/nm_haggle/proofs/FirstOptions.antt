-- What a header says of the option that it begins.
use Rattle.std.proofs.Common.{◌≡◌, ℕ, ◌-◌, ◌<◌, ◌≤◌, inr, List, ◌++◌, length, take, drop, refl, sym, ap, ◌∙◌, arith, length-append}
use Rattle.std.proofs.lemmas.List.{append_assoc, take-append-drop, take_at, length-take, length-drop, drop-drop}
use Rattle.nm_wire.specs.Sizes.{max_option_data}
use Rattle.nm_wire.specs.Layout.{FitsOptionHead, option_head_bytes}
use Rattle.nm_wire.specs.declared.option_head.OptionHead.{OptionHead}
use Rattle.nm_haggle.specs.ClientOption.{option_bytes, head_of}
use Rattle.nm_haggle.specs.FirstOption.{option_at, BeginsRefused, BeginsAccepted}
use Rattle.nm_wire.proofs.Heads.{length-option_head_bytes}

same_head : {h k : OptionHead} → h.option ≡ k.option → h.length ≡ k.length → h ≡ k
same_head {h} {k} e f =
    let with_option : ℕ → OptionHead = λ n. record { option = n; length = h.length } in
    let with_length : ℕ → OptionHead = λ n. record { option = k.option; length = n } in
    ap with_option e ∙ ap with_length f

-- a header with too many data closes the session
pub too_long : (text : List ℕ) (head : OptionHead) → text ≡ option_head_bytes head ++ drop 16 text → FitsOptionHead head
    → max_option_data < head.length → BeginsRefused text
too_long text head e f l =
    let prefix_is : take 16 text ≡ option_head_bytes head =
    ap (λ xs. take 16 xs) e ∙ take_at (option_head_bytes head) (drop 16 text) 16 (length-option_head_bytes head) in
    record {
      within = omega (arith, ap length e, length-append (option_head_bytes head) (drop 16 text), length-option_head_bytes head);
      refused = record {
        whole = ap length prefix_is ∙ length-option_head_bytes head;
        cause = inr (record { head = head; whole = prefix_is; fits = f; long = l });
      };
    }

-- a header and all of its data are an option
pub all_there : (text : List ℕ) (head : OptionHead) → text ≡ option_head_bytes head ++ drop 16 text → FitsOptionHead head
    → head.length ≤ max_option_data → head.length ≤ length text - 16 → BeginsAccepted text head
all_there text head e f l k =
    let long_enough : 16 ≤ length text = omega (arith, ap length e, length-append (option_head_bytes head) (drop 16 text), length-option_head_bytes head) in
    let told : length (take head.length (drop 16 text)) ≡ head.length =
    omega (arith, length-take head.length (drop 16 text), length-drop 16 text, k) in
    let same : head_of (option_at head text) ≡ head = same_head refl told in
    record {
      accepted = record { number = f.option; payload = omega (arith, told, l) };
      within = omega (arith, long_enough, k);
      bytes = e ∙ ap (λ xs. option_head_bytes head ++ xs) (sym (take-append-drop head.length (drop 16 text)))
          ∙ sym (append_assoc (option_head_bytes head) (take head.length (drop 16 text)) (drop head.length (drop 16 text)))
          ∙ ap (λ h. (option_head_bytes h ++ take head.length (drop 16 text)) ++ drop head.length (drop 16 text)) (sym same)
          ∙ ap (λ xs. option_bytes (option_at head text) ++ xs) (drop-drop head.length 16 text);
    }
