-- What is written of a history, at each point where its writing may end.
use Rattle.std.proofs.Common.{◌≡◌, ◌↔◌, ℕ, List, [], ◌++◌, length, Bool, true, false, IsTrue, Option, append_assoc, refl, sym, subst, ap, ◌∙◌}
use Rattle.std.specs.List.{flat_map}
use Rattle.std.specs.Io.KnownBytes.{Appends, Keeps}
use Rattle.std.proofs.KnownBytes.{Appends-trans}
use Rattle.nm_replay.specs.declared.entry.Entry.{Entry}
use Rattle.nm_replay.specs.History.{Consistent}
use Rattle.nm_script_lib.specs.MemStripe.{MemStripe}
use Rattle.nm_script_lib.specs.Printing.{counts_line, entry_line, legal_line, history_lines}
use Rattle.nm_script_lib.specs.Streams.{AppendsPrefix, FlushesPrefix}
use Rattle.nm_script_lib.specs.Runs.{JudgesHistory, history}
use Rattle.nm_script_lib.proofs.RunLaws.{prefix_none, prefix_longer, prefix_sent, all_sent, appends_kept, prefix_after, regroup}

abbrev Judged : Bool → List Entry → Type 0
Judged b entries = IsTrue b ↔ Consistent entries

pub nothing_yet : (entries : List Entry) (total : ℕ) (a : Option (List ℕ)) (g : List ℕ) →
    JudgesHistory entries total (λ text. AppendsPrefix a a (g ++ text))
nothing_yet entries total a g b judged = prefix_none a (g ++ history_lines entries total b)

pub prefix_of_entries : (entries : List Entry) (total : ℕ) (old new : Option (List ℕ))
    (g counted : List ℕ) →
    counted ≡ g ++ counts_line (length entries) total →
    AppendsPrefix old new (counted ++ flat_map entry_line entries) →
    JudgesHistory entries total (λ text. AppendsPrefix old new (g ++ text))
prefix_of_entries entries total old new g counted e w b judged =
    let counts : List ℕ = counts_line (length entries) total in
    let lines : List ℕ = flat_map entry_line entries in
    let legal : List ℕ = legal_line b in
    let there : AppendsPrefix old new ((g ++ counts) ++ lines) = subst
    (λ (x : List ℕ). AppendsPrefix old new (x ++ lines)) e w in
    subst (λ (x : List ℕ). AppendsPrefix old new x) (sym (regroup g counts lines legal))
    (prefix_longer old new ((g ++ counts) ++ lines) legal there)

-- two verdicts on one history are the same
same_judged : (a b : Bool) (C : Type 0) → (IsTrue a ↔ C) → (IsTrue b ↔ C) → a ≡ b
same_judged true true C h k = refl
same_judged true false C h k = sym (k.1 (h.0 refl))
same_judged false true C h k = h.1 (k.0 refl)
same_judged false false C h k = refl

-- all lines, written or still in the buffer
abbrev pub all_buffered : List Entry → ℕ → Bool → List ℕ → List ℕ
all_buffered entries total b g =
    ((g ++ counts_line (length entries) total) ++ flat_map entry_line entries) ++
    legal_line b

pub buffers_all : (entries : List Entry) (total : ℕ) (b : Bool) (old cur : Option (List ℕ))
    (g counted passed judged : List ℕ) →
    counted ≡ g ++ counts_line (length entries) total →
    FlushesPrefix old cur (counted ++ flat_map entry_line entries) passed →
    judged ≡ passed ++ legal_line b → FlushesPrefix old cur (all_buffered entries total b g) judged
buffers_all entries total b old cur g counted passed judged e p f =
    let counts : List ℕ = counts_line (length entries) total in
    let lines : List ℕ = flat_map entry_line entries in
    let there : FlushesPrefix old cur ((g ++ counts) ++ lines) passed = subst
    (λ (x : List ℕ). FlushesPrefix old cur (x ++ lines) passed) e p in (
      there.0,
      ap (λ r. r ++ legal_line b) there.1 ∙
          append_assoc there.0 passed (legal_line b) ∙ ap (λ r. there.0 ++ r) (sym f),
      there.2,
    )

pub prefix_of_all : (entries : List Entry) (total : ℕ) (b : Bool) → Judged b entries →
    (old cur new : Option (List ℕ)) (g judged : List ℕ) →
    FlushesPrefix old cur (all_buffered entries total b g) judged → AppendsPrefix cur new judged →
    JudgesHistory entries total (λ text. AppendsPrefix old new (g ++ text))
prefix_of_all entries total b known old cur new g judged p w other also =
    subst (λ (x : Bool). AppendsPrefix old new (g ++ history_lines entries total x))
    (same_judged b other (Consistent entries) known also)
    (subst (λ (x : List ℕ). AppendsPrefix old new x)
    (sym (regroup g (counts_line (length entries) total) (flat_map entry_line entries)
    (legal_line b)))
    (prefix_sent old cur new (all_buffered entries total b g) judged p w))

pub whole_history : (entries : List Entry) (total : ℕ) (b : Bool) → Judged b entries →
    (old cur new : Option (List ℕ)) (g judged : List ℕ) →
    FlushesPrefix old cur (all_buffered entries total b g) judged → Appends cur new judged →
    JudgesHistory entries total (λ text. Appends old new (g ++ text))
whole_history entries total b known old cur new g judged p w other also =
    subst (λ (x : Bool). Appends old new (g ++ history_lines entries total x))
    (same_judged b other (Consistent entries) known also)
    (subst (λ (x : List ℕ). Appends old new x)
    (sym (regroup g (counts_line (length entries) total) (flat_map entry_line entries)
    (legal_line b)))
    (all_sent old cur new (all_buffered entries total b g) judged p w))

-- consistent entries are judged legal
pub judged_legal : (entries : List Entry) (total : ℕ) (P : List ℕ → Type 0) → Consistent entries →
    JudgesHistory entries total P → P (history_lines entries total true)
judged_legal entries total P is judged = judged true ((λ known. is), (λ known. refl))

-- the history of a stripe, from a copy of what it keeps
pub stripe_history : (stripe : MemStripe) (entries : List Entry) (total : ℕ) (buffer : List ℕ)
    (P : List ℕ → Type 0) → entries ≡ stripe.kept.entries →
    total ≡ stripe.total → buffer ≡ [] → Consistent entries →
    JudgesHistory entries total (λ text. P (buffer ++ text)) → P (history stripe)
stripe_history stripe entries total buffer P e t g is judged =
    let here : P (buffer ++ history_lines entries total true) = judged_legal entries total
    (λ text. P (buffer ++ text)) is judged in
    let bare : P (history_lines entries total true) = subst
    (λ (x : List ℕ). P (x ++ history_lines entries total true)) g here in
    subst (λ (x : ℕ). P (history_lines stripe.kept.entries x true)) t
    (subst (λ (x : List Entry). P (history_lines x total true)) e bare)

-- what a stripe keeps, as a copy of its entries shows it
pub record Copied (stripe : MemStripe) (entries : List Entry) (total : ℕ) : Type 0 where
  pub entries_are : entries ≡ stripe.kept.entries
  pub total_is : total ≡ stripe.total
  pub consistent : Consistent entries

pub prefix_finished : (stripe : MemStripe) (entries : List Entry) (total : ℕ)
    (old cur new : Option (List ℕ)) (sent buffer : List ℕ) →
    Appends old cur sent → Copied stripe entries total → buffer ≡ [] →
    JudgesHistory entries total (λ text. AppendsPrefix cur new (buffer ++ text)) →
    AppendsPrefix old new (sent ++ history stripe)
prefix_finished stripe entries total old cur new sent buffer h k g judged =
    prefix_after old cur new sent (history stripe) h
    (stripe_history stripe entries total buffer (AppendsPrefix cur new) k.entries_are k.total_is
    g k.consistent judged)

pub whole_finished : (stripe : MemStripe) (entries : List Entry) (total : ℕ)
    (old cur mid new : Option (List ℕ)) (sent buffer : List ℕ) →
    Appends old cur sent → Copied stripe entries total → buffer ≡ [] →
    JudgesHistory entries total (λ text. Appends cur mid (buffer ++ text)) → Keeps mid new →
    Appends old new (sent ++ history stripe)
whole_finished stripe entries total old cur mid new sent buffer h k g judged kept =
    appends_kept old mid new (sent ++ history stripe)
    (Appends-trans old cur mid sent (history stripe) h
    (stripe_history stripe entries total buffer (Appends cur mid) k.entries_are k.total_is g
    k.consistent judged)) kept
