-- What is held and the piece that is fed are read as one text, in one stage or in two.
use Rattle.std.proofs.Common.{◌≡◌, ◌≢◌, ℕ, ◌+◌, ◌-◌, ◌<◌, ◌≤◌, ◌⊎◌, inl, inr, Bool, false, List, [], ◌∷◌, ◌++◌, length, take, drop, refl, sym, ap, ◌∙◌, subst, arith, length-append}
use Rattle.std.proofs.lemmas.List.{append_assoc, take-append-drop, take_all, length-drop, length-take, drop-drop, drop-append-le}
use Rattle.std.proofs.Math.Seq.{drop-append-add}
use Rattle.std.specs.List.{flat_map, AllByRecursion}
use Rattle.nm_wire.specs.Sizes.{max_option_data}
use Rattle.nm_wire.specs.Number.{be}
use Rattle.nm_wire.specs.declared.export.Export.{Export}
use Rattle.nm_haggle.specs.declared.next.Next.{Next}
use Rattle.nm_haggle.specs.declared.next.Next.TheVariants.{More, Transmit, Close}
use Rattle.nm_haggle.specs.declared.phase.Phase.{Phase}
use Rattle.nm_haggle.specs.declared.phase.Phase.TheVariants as phase
use Rattle.nm_haggle.specs.declared.progress.Progress.{Progress}
use Rattle.nm_haggle.specs.ClientOption.{ClientOption, option_bytes, IsUnfinished}
use Rattle.nm_haggle.specs.Handshake.{Ending, Waits, Settles, Breaks, Handshake, NoFlags, BadFlags, GoodFlags, ending_bytes, options_bytes, handshake_bytes, IsPassed, IsEnding, IsHandshake, has_no_zeroes, Destination, ending_destination, replies, handshake_destination}
use Rattle.nm_haggle.specs.Haggling.{OptionsLead, HandshakeLeads, Leads, IsAwaited, IsUsed, state, waiting_bytes}
use Rattle.nm_haggle.specs.Progress.{Advances, Reads}
use Rattle.nm_wire.proofs.Heads.{length-option_head_bytes}
use Rattle.nm_wire.proofs.Numbers.{length-be}
use Rattle.nm_haggle.proofs.Elements.{unfinished_is_short}
use Rattle.nm_haggle.proofs.Pieces.{concat, leads_join, awaited_after, asks_more}
use Rattle.nm_haggle.proofs.Cuts.{leads_within, longer_prefix}

-- ---- what follows an end

-- where a text that ends the haggling leads, with more bytes after it
unfoldable pub with_more : Destination → List ℕ → Destination
with_more a more = record { out = a.out; next = a.next; phase = a.phase; rest = a.rest ++ more }

record EndsSo (export : Export) (nz : Bool) (out : List ℕ) (e : Ending) (more : List ℕ) : Type 0 where
  ending : Ending
  valid : IsEnding export nz ending
  bytes : ending_bytes e ++ more ≡ ending_bytes ending
  destination : with_more (ending_destination export nz out e) more ≡ ending_destination export nz out ending

ends_so : (export : Export) (nz : Bool) (out : List ℕ) (e : Ending) (more : List ℕ) → IsEnding export nz e
    → (ending_destination export nz out e).next ≢ More → EndsSo export nz out e more
unfolding with_more
ends_so export nz out (Waits r) more v n = absurd (n refl)
ends_so export nz out (Settles o x) more v n =
    record { ending = Settles o (x ++ more); valid = v; bytes = append_assoc (option_bytes o) x more; destination = refl }
ends_so export nz out (Breaks b x) more v n =
    record { ending = Breaks b (x ++ more); valid = v; bytes = append_assoc b x more; destination = refl }

options_extend : (export : Export) (nz : Bool) (text more : List ℕ) (a : Destination) → OptionsLead export nz text a → a.next ≢ More
    → OptionsLead export nz (text ++ more) (with_more a more)
options_extend export nz text more a p n =
    let out = replies export nz p.tree.answered in
    let e = ends_so export nz out p.tree.ending more p.valid.ending (λ h. n (ap (λ (o : Destination). o.next) p.destination ∙ h)) in
    let start = flat_map option_bytes p.tree.answered in
    record {
      tree = record { answered = p.tree.answered; ending = e.ending };
      valid = record { answered = p.valid.answered; ending = e.valid };
      bytes = ap (λ xs. xs ++ more) p.bytes ∙ append_assoc start (ending_bytes p.tree.ending) more ∙ ap (λ xs. start ++ xs) e.bytes;
      destination = ap (λ o. with_more o more) p.destination ∙ e.destination;
    }

flags_extend : (export : Export) (t : Handshake) (more : List ℕ) (a : Destination) → IsHandshake export t → a ≡ handshake_destination export t
    → a.next ≢ More → HandshakeLeads export (handshake_bytes t ++ more) (with_more a more)
unfolding with_more
flags_extend export (NoFlags r) more a v e n = absurd (n (ap (λ (o : Destination). o.next) e))
flags_extend export (BadFlags f x) more a v e n = record {
  tree = BadFlags f (x ++ more);
  valid = v;
  bytes = append_assoc (be 4 f) x more;
  destination = ap (λ o. with_more o more) e;
}
flags_extend export (GoodFlags f os) more a v e n =
    let p : OptionsLead export (has_no_zeroes f) (options_bytes os) a = record { tree = os; valid = v.1; bytes = refl; destination = e } in
    let q = options_extend export (has_no_zeroes f) (options_bytes os) more a p n in
    record {
      tree = GoodFlags f q.tree;
      valid = (v.0, q.valid);
      bytes = append_assoc (be 4 f) (options_bytes os) more ∙ ap (λ xs. be 4 f ++ xs) q.bytes;
      destination = q.destination;
    }

-- what follows an end belongs to the rest, from each phase on
pub leads_extend : (export : Export) (ph : Phase) (text more : List ℕ) (a : Destination) → Leads export ph text a → a.next ≢ More
    → Leads export ph (text ++ more) (with_more a more)
leads_extend export phase.Flags text more a p n =
    subst (λ xs. HandshakeLeads export (xs ++ more) (with_more a more)) (sym p.bytes)
    (flags_extend export p.tree more a p.valid p.destination n)
leads_extend export (phase.Options nz) text more a p n = options_extend export nz text more a p n
leads_extend export phase.Over text more a p n = absurd p

-- ---- what is held is short, and comes before what was answered

rest_short : (rest : List ℕ) → IsUnfinished rest → length rest < 16 + max_option_data
rest_short rest (inl l) = omega (arith, l)
rest_short rest (inr p) =
    omega (arith, ap length p.bytes, length-append (Rattle.nm_wire.specs.Layout.option_head_bytes p.head) p.begun, length-option_head_bytes p.head, p.accepted, p.short)

pub awaited_short : (ph : Phase) (rest : List ℕ) → IsAwaited ph rest → length rest < 16 + max_option_data
awaited_short phase.Flags rest u = omega (arith, u)
awaited_short (phase.Options nz) rest u = rest_short rest u
awaited_short phase.Over rest u = omega (arith, ap length u)

-- nothing was answered, or nothing of what was held before belongs to the rest
more_lists : (export : Export) (nz : Bool) (held more rest : List ℕ) (os : List ClientOption) → IsUnfinished held
    → AllByRecursion (IsPassed export nz) os → held ++ more ≡ flat_map option_bytes os ++ rest
    → (rest ≡ held ++ more) ⊎ (length rest ≤ length more)
more_lists export nz held more rest [] u p h = inl (sym h)
more_lists export nz held more rest (o ∷ os) u p h =
    let split = h ∙ append_assoc (option_bytes o) (flat_map option_bytes os) rest in
    let short = unfinished_is_short o held more (flat_map option_bytes os ++ rest) p.0.accepted u split in
    let within = longer_prefix held more (option_bytes o) (flat_map option_bytes os ++ rest) split (omega (arith, short)) in
    inr (omega (arith, within, length-append (flat_map option_bytes os) rest))

more_options : (export : Export) (nz : Bool) (held more : List ℕ) (a : Destination) → IsUnfinished held
    → OptionsLead export nz (held ++ more) a → a.next ≡ More → (a.rest ≡ held ++ more) ⊎ (length a.rest ≤ length more)
more_options export nz held more a u p h =
    let asks = asks_more export nz (replies export nz p.tree.answered) p.tree.ending p.valid.ending
    (ap (λ (o : Destination). o.next) (sym p.destination) ∙ h) in
    subst (λ (o : Destination). (o.rest ≡ held ++ more) ⊎ (length o.rest ≤ length more)) (sym (p.destination ∙ asks.leads))
    (more_lists export nz held more asks.rest p.tree.answered u p.valid.answered
    (p.bytes ∙ ap (λ e. flat_map option_bytes p.tree.answered ++ ending_bytes e) asks.is))

-- what waits after options is no more than their text
waits_within : (export : Export) (nz : Bool) (text : List ℕ) (a : Destination) → OptionsLead export nz text a → a.next ≡ More
    → length a.rest ≤ length text
waits_within export nz text a p h =
    let asks = asks_more export nz (replies export nz p.tree.answered) p.tree.ending p.valid.ending
    (ap (λ (o : Destination). o.next) (sym p.destination) ∙ h) in
    let bytes = p.bytes ∙ ap (λ e. flat_map option_bytes p.tree.answered ++ ending_bytes e) asks.is in
    subst (λ (o : Destination). length o.rest ≤ length text) (sym (p.destination ∙ asks.leads))
    (omega (arith, ap length bytes, length-append (flat_map option_bytes p.tree.answered) asks.rest))

more_flags : (export : Export) (held more : List ℕ) (t : Handshake) (a : Destination) → length held < 4 → IsHandshake export t
    → held ++ more ≡ handshake_bytes t → a ≡ handshake_destination export t → a.next ≡ More
    → (a.rest ≡ held ++ more) ⊎ (length a.rest ≤ length more)
more_flags export held more (NoFlags r) a l v b e h = inl (ap (λ (o : Destination). o.rest) e ∙ sym b)
more_flags export held more (BadFlags f x) a l v b e h =
    let no : Close false ≡ More = ap (λ (o : Destination). o.next) (sym e) ∙ h in absurd (cc)
more_flags export held more (GoodFlags f os) a l v b e h =
    let within = longer_prefix held more (be 4 f) (options_bytes os) b (omega (arith, l, length-be 4 f)) in
    let left = waits_within export (has_no_zeroes f) (options_bytes os) a (record { tree = os; valid = v.1; bytes = refl; destination = e }) h in
    inr (omega (arith, within, left))

pub more_within : (export : Export) (ph : Phase) (held more : List ℕ) (a : Destination) → IsAwaited ph held
    → Leads export ph (held ++ more) a → a.next ≡ More → (a.rest ≡ held ++ more) ⊎ (length a.rest ≤ length more)
more_within export phase.Flags held more a u p h = more_flags export held more p.tree a u p.valid p.bytes p.destination h
more_within export (phase.Options nz) held more a u p h = more_options export nz held more a u p h
more_within export phase.Over held more a u p h = absurd p

-- ---- the stages

-- the bytes after a place past what was held
past_held : (held text : List ℕ) (used : ℕ) → length held ≤ used → drop used (held ++ text) ≡ drop (used - length held) text
past_held held text used l =
    let counted : used ≡ length held + (used - length held) = omega (arith, l) in
    ap (λ n. drop n (held ++ text)) counted ∙ drop-append-add held text (used - length held)

-- what is held, the bytes of a piece that are joined to it, and the others
cut : (held text : List ℕ) (n : ℕ) → (held ++ take n text) ++ drop n text ≡ held ++ text
cut held text n = append_assoc held (take n text) (drop n text) ∙ ap (λ xs. held ++ xs) (take-append-drop n text)

-- the bytes after a place in the joined ones
rest_cut : (held text remaining : List ℕ) (n used : ℕ) → used ≤ length (held ++ take n text) → length held ≤ used
    → drop used (held ++ take n text) ≡ remaining → remaining ++ drop n text ≡ drop (used - length held) text
rest_cut held text remaining n used l k e =
    ap (λ xs. xs ++ drop n text) (sym e)
    ∙ sym (drop-append-le used (held ++ take n text) (drop n text) l)
    ∙ ap (λ xs. drop used xs) (cut held text n)
    ∙ past_held held text used k

pub next_cases : (next : Next) → (next ≡ More) ⊎ (next ≢ More)
next_cases More = inl refl
next_cases Transmit = inr (λ h. cc)
next_cases (Close aborted) = inr (λ h. cc)

past_some : (held joined rest : List ℕ) (used : ℕ) → used ≤ length (held ++ joined) → drop used (held ++ joined) ≡ rest → used ≢ 0
    → (rest ≡ held ++ joined) ⊎ (length rest ≤ length joined) → length held ≤ used
past_some held joined rest used l e n (inl all) =
    absurd (n (omega (arith, l, ap length e, ap length all, length-drop used (held ++ joined))))
past_some held joined rest used l e n (inr within) =
    omega (arith, l, ap length e, within, length-drop used (held ++ joined), length-append held joined)

-- all that was used is past what was held, where the haggling ended
pub ended_past : (export : Export) (ph : Phase) (held joined out : List ℕ) (p : Progress) → IsAwaited ph held
    → Advances export ph (held ++ joined) out p → p.next ≢ More → length held ≤ p.used
ended_past export ph held joined out p u a n =
    let within = leads_within export ph held joined a.destination u a.leads (λ h. n (a.next_is ∙ h)) in
    omega (arith, within, ap length a.rest_is, length-drop p.used (held ++ joined), length-append held joined, a.within)

-- and where it goes on after an element
pub passed_past : (export : Export) (ph : Phase) (held joined out : List ℕ) (p : Progress) → IsAwaited ph held
    → Advances export ph (held ++ joined) out p → p.next ≡ More → p.used ≢ 0 → length held ≤ p.used
passed_past export ph held joined out p u a h n =
    past_some held joined a.destination.rest p.used a.within a.rest_is n
    (more_within export ph held joined a.destination u a.leads (sym a.next_is ∙ h))

used_ended : (next : Next) (text rest : List ℕ) (used : ℕ) → next ≢ More → used ≤ length text → drop used text ≡ rest
    → IsUsed next text rest used
used_ended More text rest used n l e = absurd (n refl)
used_ended Transmit text rest used n l e = (l, e)
used_ended (Close aborted) text rest used n l e = (l, e)

none_waits : (next : Next) (rest : List ℕ) → next ≢ More → [] ≡ waiting_bytes next rest
none_waits More rest n = absurd (n refl)
none_waits Transmit rest n = refl
none_waits (Close aborted) rest n = refl

-- the haggling ended in the joined bytes
pub ended_in_joined : (export : Export) (ph : Phase) (held text out : List ℕ) (n : ℕ) (p : Progress) → IsAwaited ph held
    → Advances export ph (held ++ take n text) out p → p.next ≢ More
    → Reads (state export ph held) text out (record { used = p.used - length held; next = p.next; phase = p.phase }) []
unfolding with_more
ended_in_joined export ph held text out n p u a m =
    let past = ended_past export ph held (take n text) out p u a m in
    let ended : a.destination.next ≢ More = λ h. m (a.next_is ∙ h) in
    record {
      destination = with_more a.destination (drop n text);
      leads = subst (λ xs. Leads export ph xs (with_more a.destination (drop n text))) (cut held text n)
          (leads_extend export ph (held ++ take n text) (drop n text) a.destination a.leads ended);
      out_is = a.out_is;
      next_is = a.next_is;
      phase_is = a.phase_is;
      used_is = used_ended a.destination.next text (a.destination.rest ++ drop n text) (p.used - length held) ended
          (omega (arith, a.within, length-append held (take n text), length-take n text, past))
          (sym (rest_cut held text a.destination.rest n p.used a.within past a.rest_is));
      held_is = none_waits a.destination.next (a.destination.rest ++ drop n text) ended;
    }

-- nothing was complete yet: then all of the piece was joined
pub nothing_whole : (export : Export) (ph : Phase) (held text out : List ℕ) (n : ℕ) (p : Progress)
    → 16 + max_option_data ≤ length held + n → Advances export ph (held ++ take n text) out p → p.next ≡ More → p.used ≡ 0
    → Reads (state export ph held) text out (record { used = length text; next = p.next; phase = p.phase }) (held ++ take n text)
nothing_whole export ph held text out n p room a h z =
    let asks : a.destination.next ≡ More = sym a.next_is ∙ h in
    let rest : a.destination.rest ≡ held ++ take n text = sym a.rest_is ∙ ap (λ m. drop m (held ++ take n text)) z in
    let short = awaited_short a.destination.phase a.destination.rest (awaited_after export ph (held ++ take n text) a.destination a.leads asks) in
    let all : take n text ≡ text =
    take_all n text (omega (arith, short, ap length rest, length-append held (take n text), length-take n text, room)) in
    record {
      destination = a.destination;
      leads = subst (λ xs. Leads export ph (held ++ xs) a.destination) all a.leads;
      out_is = a.out_is;
      next_is = a.next_is;
      phase_is = a.phase_is;
      used_is = subst (λ x. IsUsed x text a.destination.rest (length text)) (sym asks) refl;
      held_is = sym rest ∙ ap (λ x. waiting_bytes x a.destination.rest) (sym asks);
    }

used_on : (next : Next) (text rest : List ℕ) (at used : ℕ) → at ≤ length text → IsUsed next (drop at text) rest used
    → IsUsed next text rest (at + used)
used_on More text rest at used l p = omega (arith, p, l, length-drop at text)
used_on Transmit text rest at used l p =
    (omega (arith, p.0, l, length-drop at text), sym (drop-drop used at text) ∙ p.1)
used_on (Close aborted) text rest at used l p =
    (omega (arith, p.0, l, length-drop at text), sym (drop-drop used at text) ∙ p.1)

-- an element was complete in the joined bytes, and the rest of the piece is read where it lies
pub in_two_stages : (export : Export) (ph : Phase) (held text first second now : List ℕ) (n : ℕ) (p q : Progress) → IsAwaited ph held
    → Advances export ph (held ++ take n text) first p → p.next ≡ More → p.used ≢ 0
    → Reads (state export p.phase []) (drop (p.used - length held) text) second q now
    → Reads (state export ph held) text (first ++ second)
    (record { used = (p.used - length held) + q.used; next = q.next; phase = q.phase }) now
unfolding concat
in_two_stages export ph held text first second now n p q u a h z b =
    let past = passed_past export ph held (take n text) first p u a h z in
    let asks : a.destination.next ≡ More = sym a.next_is ∙ h in
    let rest : a.destination.rest ++ drop n text ≡ drop (p.used - length held) text =
    rest_cut held text a.destination.rest n p.used a.within past a.rest_is in
    let onward : Leads export a.destination.phase (a.destination.rest ++ drop n text) b.destination =
    subst (λ x. Leads export x (a.destination.rest ++ drop n text) b.destination) a.phase_is
    (subst (λ xs. Leads export p.phase xs b.destination) (sym rest) b.leads) in
    record {
      destination = concat a.destination b.destination;
      leads = subst (λ xs. Leads export ph xs (concat a.destination b.destination)) (cut held text n)
          (leads_join export ph (held ++ take n text) (drop n text) a.destination b.destination a.leads asks onward);
      out_is = ap (λ xs. xs ++ second) a.out_is ∙ ap (λ xs. a.destination.out ++ xs) b.out_is;
      next_is = b.next_is;
      phase_is = b.phase_is;
      used_is = used_on b.destination.next text b.destination.rest (p.used - length held) q.used
          (omega (arith, a.within, length-append held (take n text), length-take n text, past)) b.used_is;
      held_is = b.held_is;
    }
