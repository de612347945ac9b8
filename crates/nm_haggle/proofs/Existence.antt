-- Each text of bytes has a tree: it begins with an incomplete option, a refused header or an option,
-- and what follows an option is shorter.
use Rattle.std.proofs.Common.{◌≡◌, ◌≢◌, ℕ, zero, suc, ◌+◌, ◌-◌, ◌<◌, ◌≤◌, ◌^◌, ◌⊎◌, inl, inr, Bool, true, false, List, [], ◌∷◌, ◌++◌, length, take, drop, refl, sym, ap, ◌∙◌, subst, arith, length-append, ⊎_elim}
use Rattle.std.proofs.lemmas.List.{append_assoc, take-append-drop, take-append-le, drop_at, length-take-le, length-drop, drop-drop}
use Rattle.std.proofs.lemmas.Bool.{cases_lt}
use Rattle.std.proofs.lemmas.Slice.Eq.{bytes_eq-Decides}
use Rattle.std.specs.Str.{bytes_eq}
use Rattle.std.specs.Int.{w32, from_be_bytes}
use Rattle.std.specs.List.{flat_map}
use Rattle.nm_wire.specs.Sizes.{max_option_data}
use Rattle.nm_wire.specs.Number.{be, option_magic}
use Rattle.nm_wire.specs.Layout.{FitsOptionHead, option_head_bytes}
use Rattle.nm_wire.specs.declared.export.Export.{Export}
use Rattle.nm_wire.specs.declared.option_head.OptionHead.{OptionHead}
use Rattle.nm_haggle.specs.declared.next.Next.{Next}
use Rattle.nm_haggle.specs.declared.next.Next.TheVariants.{More, Transmit, Close}
use Rattle.nm_haggle.specs.declared.phase.Phase.{Phase}
use Rattle.nm_haggle.specs.declared.phase.Phase.TheVariants as phase
use Rattle.nm_haggle.specs.ClientOption.{option_bytes, IsUnfinished}
use Rattle.nm_haggle.specs.Answer.{answer_to}
use Rattle.nm_haggle.specs.FirstOption.{option_at, BeginsRefused, BeginsAccepted}
use Rattle.nm_haggle.specs.Handshake.{Ending, Waits, Settles, Breaks, Options, Handshake, NoFlags, BadFlags, GoodFlags, ending_bytes, options_bytes, handshake_bytes, ending_destination, options_destination, handshake_destination, Destination, replies, has_no_zeroes}
use Rattle.nm_haggle.specs.Haggling.{OptionsLead, HandshakeLeads, Leads, IsUsed, state, waiting_bytes, end_at, initial_state}
use Rattle.nm_haggle.specs.Laws.{AreBytes, SomeResponse, SomeAnswer}
use Rattle.nm_haggle.proofs.Bytes.{bytes_of_take, bytes_of_drop, written_4, below_32}
use Rattle.nm_haggle.proofs.FirstOptions.{too_long, all_there}
use Rattle.nm_haggle.proofs.Cuts.{leads_within}
use Rattle.nm_haggle.proofs.Joins.{next_cases}
use Rattle.nm_haggle.proofs.States.{used_back}

true_or_false : (r : Bool) → (r ≡ true) ⊎ (r ≡ false)
true_or_false true = inl refl
true_or_false false = inr refl

-- ---- what a text of options begins with

abbrev pub Begins : List ℕ → Type 0
Begins text = IsUnfinished text ⊎ (BeginsRefused text ⊎ ((head : OptionHead) × BeginsAccepted text head))

-- the header that 16 bytes are if their magic is right
abbrev head_at : List ℕ → OptionHead
head_at text = record {
  option = from_be_bytes w32 (take 4 (drop 8 text));
  length = from_be_bytes w32 (take 4 (drop 12 text));
}

number_at : (text : List ℕ) (at : ℕ) → AreBytes text → at + 4 ≤ length text
    → be 4 (from_be_bytes w32 (take 4 (drop at text))) ≡ take 4 (drop at text)
number_at text at b l =
    let four : 4 ≤ length (drop at text) = omega (arith, length-drop at text, l) in
    written_4 (take 4 (drop at text)) (length-take-le 4 (drop at text) four)
    (bytes_of_take (drop at text) 4 four (bytes_of_drop text at b))

head_is : (text : List ℕ) → 16 ≤ length text → AreBytes text → take 8 text ≡ be 8 option_magic
    → text ≡ option_head_bytes (head_at text) ++ drop 16 text
unfolding option_head_bytes
head_is text l b m =
    let first : be 4 (head_at text).option ≡ take 4 (drop 8 text) = number_at text 8 b (omega (arith, l)) in
    let second : be 4 (head_at text).length ≡ take 4 (drop 12 text) = number_at text 12 b (omega (arith, l)) in
    let last : drop 12 text ≡ be 4 (head_at text).length ++ drop 16 text =
    sym (take-append-drop 4 (drop 12 text)) ∙ ap (λ xs. xs ++ drop 4 (drop 12 text)) (sym second)
    ∙ ap (λ xs. be 4 (head_at text).length ++ xs) (drop-drop 4 12 text) in
    let middle : drop 8 text ≡ be 4 (head_at text).option ++ (be 4 (head_at text).length ++ drop 16 text) =
    sym (take-append-drop 4 (drop 8 text)) ∙ ap (λ xs. xs ++ drop 4 (drop 8 text)) (sym first)
    ∙ ap (λ xs. be 4 (head_at text).option ++ xs) (drop-drop 4 8 text ∙ last) in
    sym (take-append-drop 8 text) ∙ ap (λ xs. xs ++ drop 8 text) m ∙ ap (λ xs. be 8 option_magic ++ xs) middle
    ∙ sym (append_assoc (be 8 option_magic) (be 4 (head_at text).option) (be 4 (head_at text).length ++ drop 16 text))
    ∙ sym (append_assoc (be 8 option_magic ++ be 4 (head_at text).option) (be 4 (head_at text).length) (drop 16 text))

head_fits : (text : List ℕ) → 16 ≤ length text → AreBytes text → FitsOptionHead (head_at text)
head_fits text l b = record {
  option = below_32 (take 4 (drop 8 text)) (bytes_of_take (drop 8 text) 4 (omega (arith, length-drop 8 text, l)) (bytes_of_drop text 8 b));
  length = below_32 (take 4 (drop 12 text)) (bytes_of_take (drop 12 text) 4 (omega (arith, length-drop 12 text, l)) (bytes_of_drop text 12 b));
}

with_head : (text : List ℕ) (head : OptionHead) → text ≡ option_head_bytes head ++ drop 16 text → FitsOptionHead head → Begins text
with_head text head e f =
    ⊎_elim (λ long. inr (inl (too_long text head e f long)))
    (λ few. ⊎_elim
    (λ short. inl (inr (record {
      head = head;
      begun = drop 16 text;
      bytes = e;
      fits = f;
      accepted = few;
      short = omega (arith, short, length-drop 16 text);
    })))
    (λ all. inr (inr (head, all_there text head e f few all)))
    (cases_lt (length text - 16) head.length))
    (cases_lt max_option_data head.length)

other_magic : (text : List ℕ) → 16 ≤ length text → take 8 text ≢ be 8 option_magic → BeginsRefused text
other_magic text l n =
    let sixteen = length-take-le 16 text l in
    let same : take 8 text ≡ take 8 (take 16 text) =
    ap (λ xs. take 8 xs) (sym (take-append-drop 16 text))
    ∙ take-append-le 8 (take 16 text) (drop 16 text) (omega (arith, sixteen)) in
    record { within = l; refused = record { whole = sixteen; cause = inl (λ e. n (same ∙ e)) } }

begins : (text : List ℕ) → AreBytes text → Begins text
begins text b =
    ⊎_elim (λ short. inl (inl short))
    (λ l. ⊎_elim
    (λ yes. with_head text (head_at text)
    (head_is text l b ((bytes_eq-Decides (take 8 text) (be 8 option_magic)).0 yes)) (head_fits text l b))
    (λ no. inr (inl (other_magic text l (λ e.
    let yes = (bytes_eq-Decides (take 8 text) (be 8 option_magic)).1 e in
    let same : true ≡ false = sym yes ∙ no in absurd (cc)))))
    (true_or_false (bytes_eq (take 8 text) (be 8 option_magic))))
    (cases_lt (length text) 16)

-- ---- the tree

abbrev Reads : Export → Bool → List ℕ → Type 0
Reads export nz text = (to : Destination) × OptionsLead export nz text to

no_more_options : (export : Export) (nz : Bool) (text : List ℕ) (e : Ending)
    → Rattle.nm_haggle.specs.Handshake.IsEnding export nz e → text ≡ ending_bytes e → Reads export nz text
no_more_options export nz text e v h =
    let tree : Options = record { answered = []; ending = e } in
    (options_destination export nz tree, record { tree = tree; valid = record { answered = tt; ending = v }; bytes = h; destination = refl })

one_more_option : (export : Export) (nz : Bool) (text : List ℕ) (head : OptionHead) → BeginsAccepted text head
    → (answer_to export nz (option_at head text)).next ≡ More → Reads export nz (drop (16 + head.length) text)
    → Reads export nz text
one_more_option export nz text head t more p =
    let o = option_at head text in
    let tree : Options = record { answered = o ∷ p.1.tree.answered; ending = p.1.tree.ending } in (
      options_destination export nz tree,
      record {
        tree = tree;
        valid = record {
          answered = (record { accepted = t.accepted; next = more }, p.1.valid.answered);
          ending = p.1.valid.ending;
        };
        bytes = t.bytes ∙ ap (λ xs. option_bytes o ++ xs) p.1.bytes
            ∙ sym (append_assoc (option_bytes o) (flat_map option_bytes p.1.tree.answered) (ending_bytes p.1.tree.ending));
        destination = refl;
      },
    )

after_head : (export : Export) (nz : Bool) (text : List ℕ) (head : OptionHead) → BeginsAccepted text head
    → Reads export nz (drop (16 + head.length) text) → Reads export nz text
after_head export nz text head t p =
    ⊎_elim (λ more. one_more_option export nz text head t more p)
    (λ ended. no_more_options export nz text (Settles (option_at head text) (drop (16 + head.length) text))
    (record { accepted = t.accepted; next = ended }) t.bytes)
    (next_cases (answer_to export nz (option_at head text)).next)

options_read : (export : Export) (nz : Bool) (most : ℕ) (text : List ℕ) → length text ≤ most → AreBytes text → Reads export nz text
options_read export nz zero text l b = no_more_options export nz text (Waits text) (inl (omega (arith, l))) refl
options_read export nz (suc n) text l b =
    ⊎_elim (λ u. no_more_options export nz text (Waits text) u refl)
    (λ other. ⊎_elim
    (λ r. no_more_options export nz text (Breaks (take 16 text) (drop 16 text)) r.refused (sym (take-append-drop 16 text)))
    (λ whole. after_head export nz text whole.0 whole.1
    (options_read export nz n (drop (16 + whole.0.length) text)
    (omega (arith, l, whole.1.within, length-drop (16 + whole.0.length) text))
    (bytes_of_drop text (16 + whole.0.length) b)))
    other)
    (begins text b)

after_flags : (export : Export) (text : List ℕ) (flags : ℕ) → text ≡ be 4 flags ++ drop 4 text → flags < 2 ^ 32 → AreBytes text
    → (to : Destination) × HandshakeLeads export text to
after_flags export text flags e f b =
    ⊎_elim (λ good.
    let p = options_read export (has_no_zeroes flags) (length (drop 4 text)) (drop 4 text) (omega arith) (bytes_of_drop text 4 b) in (
      p.0,
      record {
        tree = GoodFlags flags p.1.tree;
        valid = (good, p.1.valid);
        bytes = e ∙ ap (λ xs. be 4 flags ++ xs) p.1.bytes;
        destination = p.1.destination;
      },
    ))
    (λ bad.
    let tree : Handshake = BadFlags flags (drop 4 text) in
    (handshake_destination export tree, record { tree = tree; valid = (bad, f); bytes = e; destination = refl }))
    (cases_lt flags 4)

handshake_read : (export : Export) (text : List ℕ) → AreBytes text → (to : Destination) × HandshakeLeads export text to
handshake_read export text b =
    ⊎_elim (λ short.
    let tree : Handshake = NoFlags text in
    (handshake_destination export tree, record { tree = tree; valid = short; bytes = refl; destination = refl }))
    (λ four. after_flags export text (from_be_bytes w32 (take 4 text))
    (sym (take-append-drop 4 text) ∙ ap (λ xs. xs ++ drop 4 text)
    (sym (written_4 (take 4 text) (length-take-le 4 text four) (bytes_of_take text 4 four b))))
    (below_32 (take 4 text) (bytes_of_take text 4 four b)) b)
    (cases_lt (length text) 4)

leads_read : (export : Export) (ph : Phase) (text : List ℕ) → ph ≢ phase.Over → AreBytes text → (to : Destination) × Leads export ph text to
leads_read export phase.Flags text n b = handshake_read export text b
leads_read export (phase.Options nz) text n b = options_read export nz (length text) text (omega arith) b
leads_read export phase.Over text n b = absurd (n refl)

-- ---- how many bytes are used

-- the rest ends the text
record EndsWith (text rest : List ℕ) : Type 0 where
  start : List ℕ
  whole : text ≡ start ++ rest

ending_rest : (export : Export) (nz : Bool) (out : List ℕ) (e : Ending) → EndsWith (ending_bytes e) (ending_destination export nz out e).rest
ending_rest export nz out (Waits rest) = record { start = []; whole = refl }
ending_rest export nz out (Settles o x) = record { start = option_bytes o; whole = refl }
ending_rest export nz out (Breaks h x) = record { start = h; whole = refl }

options_rest : (export : Export) (nz : Bool) (text : List ℕ) (a : Destination) → OptionsLead export nz text a → EndsWith text a.rest
options_rest export nz text a p =
    let passed = flat_map option_bytes p.tree.answered in
    let e = ending_rest export nz (replies export nz p.tree.answered) p.tree.ending in
    subst (λ (o : Destination). EndsWith text o.rest) (sym p.destination) (record {
      start = passed ++ e.start;
      whole = p.bytes ∙ ap (λ xs. passed ++ xs) e.whole
          ∙ sym (append_assoc passed e.start (options_destination export nz p.tree).rest);
    })

tree_rest : (export : Export) (t : Handshake) (a : Destination) → Rattle.nm_haggle.specs.Handshake.IsHandshake export t
    → a ≡ handshake_destination export t → EndsWith (handshake_bytes t) a.rest
tree_rest export (NoFlags r) a v e =
    subst (λ (o : Destination). EndsWith r o.rest) (sym e) (record { start = []; whole = refl })
tree_rest export (BadFlags f x) a v e =
    subst (λ (o : Destination). EndsWith (be 4 f ++ x) o.rest) (sym e) (record { start = be 4 f; whole = refl })
tree_rest export (GoodFlags f os) a v e =
    let p : OptionsLead export (has_no_zeroes f) (options_bytes os) a = record { tree = os; valid = v.1; bytes = refl; destination = e } in
    let q = options_rest export (has_no_zeroes f) (options_bytes os) a p in
    record { start = be 4 f ++ q.start; whole = ap (λ xs. be 4 f ++ xs) q.whole ∙ sym (append_assoc (be 4 f) q.start a.rest) }

leads_rest : (export : Export) (ph : Phase) (text : List ℕ) (a : Destination) → Leads export ph text a → EndsWith text a.rest
leads_rest export phase.Flags text a p =
    subst (λ xs. EndsWith xs a.rest) (sym p.bytes) (tree_rest export p.tree a p.valid p.destination)
leads_rest export (phase.Options nz) text a p = options_rest export nz text a p
leads_rest export phase.Over text a p = absurd p

use_of : (next : Next) (text rest : List ℕ) → EndsWith text rest → (used : ℕ) × IsUsed next text rest used
use_of More text rest p = (length text, refl)
use_of Transmit text rest p = (
  length p.start,
  (
    omega (arith, ap length p.whole, length-append p.start rest),
    ap (λ xs. drop (length p.start) xs) p.whole ∙ drop_at p.start rest (length p.start) refl,
  ),
)
use_of (Close aborted) text rest p = (
  length p.start,
  (
    omega (arith, ap length p.whole, length-append p.start rest),
    ap (λ xs. drop (length p.start) xs) p.whole ∙ drop_at p.start rest (length p.start) refl,
  ),
)

pub some_response : SomeResponse
some_response old text going awaited b =
    let p = leads_read old.export old.phase (old.rest ++ text) going b in
    let whole = use_of p.0.next (old.rest ++ text) p.0.rest (leads_rest old.export old.phase (old.rest ++ text) p.0 p.1) in
    let back = used_back p.0.next old.rest text p.0.rest whole.0 whole.1
    (leads_within old.export old.phase old.rest text p.0 awaited p.1) in (
      record { out = p.0.out; used = back.0; next = p.0.next },
      state old.export p.0.phase (waiting_bytes p.0.next p.0.rest),
      record {
        destination = p.0;
        leads = p.1;
        out_is = refl;
        next_is = refl;
        used_is = back.1;
        export_is = refl;
        phase_is = refl;
        rest_is = refl;
      },
    )

pub some_answer : SomeAnswer
some_answer export text b =
    let p = some_response (initial_state export) text (λ e. cc) (omega arith) b in
    (p.0.out, end_at p.0.used p.0.next, record { response = p.0; new = p.1; from = p.2; out_is = refl; end_is = refl })
