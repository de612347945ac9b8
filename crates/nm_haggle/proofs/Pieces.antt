-- A text that asks for more, and what follows it: their trees are joined, and come apart again.
use Rattle.std.proofs.Common.{◌≡◌, ◌≢◌, ℕ, ◌+◌, ◌<◌, ◌≤◌, ◌^◌, Bool, List, [], ◌∷◌, ◌++◌, refl, sym, ap, ◌∙◌, subst}
use Rattle.std.proofs.lemmas.List.{append_assoc}
use Rattle.std.proofs.lemmas.Grind.{flat_map-append}
use Rattle.std.specs.List.{flat_map, AllByRecursion}
use Rattle.nm_wire.specs.Number.{be}
use Rattle.nm_wire.specs.declared.export.Export.{Export}
use Rattle.nm_haggle.specs.declared.next.Next.TheVariants.{More, Close}
use Rattle.nm_haggle.specs.declared.phase.Phase.{Phase}
use Rattle.nm_haggle.specs.declared.phase.Phase.TheVariants as phase
use Rattle.nm_haggle.specs.ClientOption.{ClientOption, option_bytes, IsUnfinished}
use Rattle.nm_haggle.specs.Answer.{answer_to}
use Rattle.nm_haggle.specs.Handshake.{Ending, Waits, Settles, Breaks, Handshake, NoFlags, BadFlags, GoodFlags, ending_bytes, options_bytes, handshake_bytes, IsPassed, IsEnding, IsHandshake, has_no_zeroes, Destination, ending_destination, replies, options_destination, handshake_destination}
use Rattle.nm_haggle.specs.Haggling.{OptionsLead, HandshakeLeads, Leads, IsAwaited}
use Rattle.nm_haggle.proofs.Trees.{options_tree_one, handshake_tree_one}

-- what two texts lead to, one after the other
unfoldable pub concat : Destination → Destination → Destination
concat a b = record { out = a.out ++ b.out; next = b.next; phase = b.phase; rest = b.rest }

pub all_append : {X : Type 0} (P : X → Type 0) (xs ys : List X) → AllByRecursion P xs → AllByRecursion P ys → AllByRecursion P (xs ++ ys)
all_append P [] ys p q = q
all_append P (x ∷ xs) ys p q = (p.0, all_append P xs ys p.1 q)

-- an ending that asks for more is a rest
pub record AsksMore (export : Export) (nz : Bool) (out : List ℕ) (e : Ending) : Type 0 where
  pub rest : List ℕ
  pub is : e ≡ Waits rest
  pub unfinished : IsUnfinished rest
  pub leads : ending_destination export nz out e ≡ record { out = out; next = More; phase = phase.Options nz; rest = rest }

pub asks_more : (export : Export) (nz : Bool) (out : List ℕ) (e : Ending) → IsEnding export nz e
    → (ending_destination export nz out e).next ≡ More → AsksMore export nz out e
asks_more export nz out (Waits rest) u h = record { rest = rest; is = refl; unfinished = u; leads = refl }
asks_more export nz out (Settles o x) l h = absurd (l.next h)
asks_more export nz out (Breaks b x) r h = absurd (cc)

pub ending_concat : (export : Export) (nz : Bool) (out more : List ℕ) (e : Ending) (rest : List ℕ)
    → ending_destination export nz (out ++ more) e
    ≡ concat (record { out = out; next = More; phase = phase.Options nz; rest = rest }) (ending_destination export nz more e)
unfolding concat
ending_concat export nz out more (Waits r) rest = refl
ending_concat export nz out more (Settles o x) rest =
    let made : List ℕ → Destination = λ bs. record { out = bs; next = (answer_to export nz o).next; phase = phase.Over; rest = x } in
    ap made (append_assoc out more (answer_to export nz o).out)
ending_concat export nz out more (Breaks b x) rest = refl

pub replies-append : (export : Export) (nz : Bool) (os ps : List ClientOption) → replies export nz (os ++ ps) ≡ replies export nz os ++ replies export nz ps
replies-append export nz os ps = flat_map-append (λ o. (answer_to export nz o).out) os ps

-- the two texts of options are one
pub options_join : (export : Export) (nz : Bool) (text more : List ℕ) (a b : Destination)
    → OptionsLead export nz text a → a.next ≡ More → OptionsLead export nz (a.rest ++ more) b
    → OptionsLead export nz (text ++ more) (concat a b)
options_join export nz text more a b p h q =
    let asks = asks_more export nz (replies export nz p.tree.answered) p.tree.ending p.valid.ending
    (ap (λ (o : Destination). o.next) (sym p.destination) ∙ h) in
    let leads = p.destination ∙ asks.leads in
    let remaining : a.rest ≡ asks.rest = ap (λ (o : Destination). o.rest) leads in
    let os = p.tree.answered in
    let ps = q.tree.answered in
    record {
      tree = record { answered = os ++ ps; ending = q.tree.ending };
      valid = record { answered = all_append (IsPassed export nz) os ps p.valid.answered q.valid.answered; ending = q.valid.ending };
      bytes =
          ap (λ xs. xs ++ more) (p.bytes ∙ ap (λ e. flat_map option_bytes os ++ ending_bytes e) asks.is)
          ∙ append_assoc (flat_map option_bytes os) asks.rest more
          ∙ ap (λ xs. flat_map option_bytes os ++ (xs ++ more)) (sym remaining)
          ∙ ap (λ xs. flat_map option_bytes os ++ xs) q.bytes
          ∙ sym (append_assoc (flat_map option_bytes os) (flat_map option_bytes ps) (ending_bytes q.tree.ending))
          ∙ ap (λ xs. xs ++ ending_bytes q.tree.ending) (sym (flat_map-append option_bytes os ps));
      destination =
          ap (λ o. concat o b) leads ∙ ap (λ o. concat (record { out = replies export nz os; next = More; phase = phase.Options nz; rest = asks.rest }) o) q.destination
          ∙ sym (ending_concat export nz (replies export nz os) (replies export nz ps) q.tree.ending asks.rest)
          ∙ ap (λ out. ending_destination export nz out q.tree.ending) (sym (replies-append export nz os ps));
    }

pub phase_after : (export : Export) (nz : Bool) (text : List ℕ) (a : Destination) → OptionsLead export nz text a → a.next ≡ More
    → a.phase ≡ phase.Options nz
phase_after export nz text a p h =
    let asks = asks_more export nz (replies export nz p.tree.answered) p.tree.ending p.valid.ending
    (ap (λ (o : Destination). o.next) (sym p.destination) ∙ h) in
    ap (λ (o : Destination). o.phase) (p.destination ∙ asks.leads)

awaited_options : (export : Export) (nz : Bool) (text : List ℕ) (a : Destination) → OptionsLead export nz text a → a.next ≡ More
    → IsAwaited a.phase a.rest
awaited_options export nz text a p h =
    let asks = asks_more export nz (replies export nz p.tree.answered) p.tree.ending p.valid.ending
    (ap (λ (o : Destination). o.next) (sym p.destination) ∙ h) in
    subst (λ (o : Destination). IsAwaited o.phase o.rest) (sym (p.destination ∙ asks.leads)) asks.unfinished

awaited_flags : (export : Export) (t : Handshake) (a : Destination) → IsHandshake export t
    → a ≡ handshake_destination export t → a.next ≡ More → IsAwaited a.phase a.rest
awaited_flags export (NoFlags rest) a v e h = subst (λ (o : Destination). IsAwaited o.phase o.rest) (sym e) v
awaited_flags export (BadFlags f x) a v e h =
    let no : Close Rattle.std.proofs.Common.false ≡ More = ap (λ (o : Destination). o.next) (sym e) ∙ h in absurd (cc)
awaited_flags export (GoodFlags f os) a v e h =
    awaited_options export (has_no_zeroes f) (options_bytes os) a (record { tree = os; valid = v.1; bytes = refl; destination = e }) h

pub with_flags : (export : Export) (flags : ℕ) (text : List ℕ) (o : Destination) → flags < 4
    → OptionsLead export (has_no_zeroes flags) text o → HandshakeLeads export (be 4 flags ++ text) o
with_flags export flags text o l p = record {
  tree = GoodFlags flags p.tree;
  valid = (l, p.valid);
  bytes = ap (λ xs. be 4 flags ++ xs) p.bytes;
  destination = p.destination;
}

handshake_join_at : (export : Export) (t : Handshake) (more : List ℕ) (a b : Destination) → IsHandshake export t
    → a ≡ handshake_destination export t → a.next ≡ More → Leads export a.phase (a.rest ++ more) b
    → HandshakeLeads export (handshake_bytes t ++ more) (concat a b)
unfolding concat
handshake_join_at export (NoFlags rest) more a b v e h q =
    let leads : Leads export phase.Flags (rest ++ more) b =
    subst (λ ph. Leads export ph (rest ++ more) b) (ap (λ (o : Destination). o.phase) e)
    (subst (λ xs. Leads export a.phase (xs ++ more) b) (ap (λ (o : Destination). o.rest) e) q) in
    let same : concat a b ≡ b = ap (λ (xs : List ℕ). (let made : List ℕ → Destination = λ ys. record { out = ys ++ b.out; next = b.next; phase = b.phase; rest = b.rest } in made xs)) (ap (λ (o : Destination). o.out) e) in
    subst (λ o. HandshakeLeads export (rest ++ more) o) (sym same) leads
handshake_join_at export (BadFlags f x) more a b v e h q =
    let no : Close Rattle.std.proofs.Common.false ≡ More = ap (λ (o : Destination). o.next) (sym e) ∙ h in absurd (cc)
handshake_join_at export (GoodFlags f os) more a b v e h q =
    let p : OptionsLead export (has_no_zeroes f) (options_bytes os) a = record { tree = os; valid = v.1; bytes = refl; destination = e } in
    let leads : Leads export (phase.Options (has_no_zeroes f)) (a.rest ++ more) b =
    subst (λ ph. Leads export ph (a.rest ++ more) b) (phase_after export (has_no_zeroes f) (options_bytes os) a p h) q in
    let whole = with_flags export f (options_bytes os ++ more) (concat a b) v.0
    (options_join export (has_no_zeroes f) (options_bytes os) more a b p h leads) in
    subst (λ xs. HandshakeLeads export xs (concat a b)) (sym (append_assoc (be 4 f) (options_bytes os) more)) whole

-- the two texts are one, from each phase on
pub leads_join : (export : Export) (ph : Phase) (text more : List ℕ) (a b : Destination) → Leads export ph text a
    → a.next ≡ More → Leads export a.phase (a.rest ++ more) b → Leads export ph (text ++ more) (concat a b)
leads_join export phase.Flags text more a b p h q =
    subst (λ xs. HandshakeLeads export (xs ++ more) (concat a b)) (sym p.bytes)
    (handshake_join_at export p.tree more a b p.valid p.destination h q)
leads_join export (phase.Options nz) text more a b p h q =
    options_join export nz text more a b p h
    (subst (λ ph. Leads export ph (a.rest ++ more) b) (phase_after export nz text a p h) q)
leads_join export phase.Over text more a b p h q = absurd p

-- a text leads to one place, from each phase on
pub leads_one : (export : Export) (ph : Phase) (text : List ℕ) (a b : Destination) → Leads export ph text a → Leads export ph text b → a ≡ b
leads_one export phase.Flags text a b p q =
    p.destination ∙ ap (λ t. handshake_destination export t) (handshake_tree_one export p.tree q.tree p.valid q.valid (sym p.bytes ∙ q.bytes))
    ∙ sym q.destination
leads_one export (phase.Options nz) text a b p q =
    p.destination ∙ ap (λ t. options_destination export nz t) (options_tree_one export nz p.tree q.tree p.valid q.valid (sym p.bytes ∙ q.bytes))
    ∙ sym q.destination
leads_one export phase.Over text a b p q = absurd p

-- the rest of a text that asks for more is still awaited
pub awaited_after : (export : Export) (ph : Phase) (text : List ℕ) (a : Destination) → Leads export ph text a → a.next ≡ More
    → IsAwaited a.phase a.rest
awaited_after export phase.Flags text a p h = awaited_flags export p.tree a p.valid p.destination h
awaited_after export (phase.Options nz) text a p h = awaited_options export nz text a p h
awaited_after export phase.Over text a p h = absurd p
