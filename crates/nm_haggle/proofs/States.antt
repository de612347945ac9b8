-- The laws of whole texts and of texts in pieces, from each state on.
use Rattle.std.proofs.Common.{Bool, ◌≡◌, ◌≢◌, ℕ, ◌+◌, ◌-◌, ◌≤◌, List, [], ◌∷◌, ◌++◌, length, drop, refl, sym, ap, ◌∙◌, subst, arith, length-append, zero-add}
use Rattle.std.proofs.lemmas.List.{append_assoc, length-drop, drop-append-le}
use Rattle.std.proofs.Math.Seq.{drop-append-add}
use Rattle.nm_wire.specs.declared.export.Export.{Export}
use Rattle.nm_haggle.specs.declared.next.Next.{Next}
use Rattle.nm_haggle.specs.declared.next.Next.TheVariants.{More, Transmit, Close}
use Rattle.nm_haggle.specs.declared.phase.Phase.{Phase}
use Rattle.nm_haggle.specs.declared.phase.Phase.TheVariants as phase
use Rattle.nm_haggle.specs.Handshake.{Ending, Waits, Settles, Breaks, Handshake, NoFlags, BadFlags, GoodFlags, IsEnding, IsHandshake, Destination, ending_destination, handshake_destination, has_no_zeroes, options_bytes, replies}
use Rattle.nm_haggle.specs.Haggling.{OptionsLead, Haggling, Response, HagglesFrom, Leads, IsUsed, end_at, waiting_bytes, initial_state}
use Rattle.nm_haggle.specs.Laws.{OneResponse, OneAnswer, GoesOn, GoesOnOnlySo, EndsThere, OverAfterAnEnd, HoweverCut, Exchange, Feeds, pieces, answers, sequence, NoOptionBeginsAnother}
use Rattle.nm_haggle.proofs.Elements.{options_one}
use Rattle.nm_haggle.proofs.Pieces.{concat, leads_join, leads_one, awaited_after}
use Rattle.nm_haggle.proofs.Cuts.{leads_within, leads_apart}
use Rattle.nm_haggle.proofs.Joins.{with_more, leads_extend}

pub no_option_begins_another : NoOptionBeginsAnother
no_option_begins_another o p x y t u e = options_one o p x y t u e

same_use : (text rest : List ℕ) (m n : ℕ) → m ≤ length text → drop m text ≡ rest → n ≤ length text → drop n text ≡ rest → m ≡ n
same_use text rest m n l e k f =
    omega (arith, l, k, ap length e, ap length f, length-drop m text, length-drop n text)

used_one : (next : Next) (text rest : List ℕ) (m n : ℕ) → IsUsed next text rest m → IsUsed next text rest n → m ≡ n
used_one More text rest m n p q = p ∙ sym q
used_one Transmit text rest m n p q = same_use text rest m n p.0 p.1 q.0 q.1
used_one (Close aborted) text rest m n p q = same_use text rest m n p.0 p.1 q.0 q.1

same_state : {s t : Haggling} → s.export ≡ t.export → s.phase ≡ t.phase → s.rest ≡ t.rest → s ≡ t
same_state {s} {t} e f g =
    let with_export : Export → Haggling = λ x. record { export = x; phase = s.phase; rest = s.rest } in
    let with_phase : Phase → Haggling = λ x. record { export = t.export; phase = x; rest = s.rest } in
    let with_rest : List ℕ → Haggling = λ x. record { export = t.export; phase = t.phase; rest = x } in
    ap with_export e ∙ ap with_phase f ∙ ap with_rest g

same_response : {s t : Response} → s.out ≡ t.out → s.used ≡ t.used → s.next ≡ t.next → s ≡ t
same_response {s} {t} e f g =
    let with_out : List ℕ → Response = λ x. record { out = x; used = s.used; next = s.next } in
    let with_used : ℕ → Response = λ x. record { out = t.out; used = x; next = s.next } in
    let with_next : Next → Response = λ x. record { out = t.out; used = t.used; next = x } in
    ap with_out e ∙ ap with_used f ∙ ap with_next g

pub one_response : OneResponse
one_response old text response other new other_new p q =
    let one = leads_one old.export old.phase (old.rest ++ text) p.destination q.destination p.leads q.leads in
    let used_too = used_one q.destination.next text q.destination.rest response.used other.used
    (subst (λ (o : Destination). IsUsed o.next text o.rest response.used) one p.used_is) q.used_is in (
      same_response (p.out_is ∙ ap (λ (o : Destination). o.out) one ∙ sym q.out_is) used_too
          (p.next_is ∙ ap (λ (o : Destination). o.next) one ∙ sym q.next_is),
      same_state (p.export_is ∙ sym q.export_is)
          (p.phase_is ∙ ap (λ (o : Destination). o.phase) one ∙ sym q.phase_is)
          (p.rest_is ∙ ap (λ (o : Destination). waiting_bytes o.next o.rest) one ∙ sym q.rest_is),
    )

pub one_answer : OneAnswer
one_answer export text out other_out end other_end p q =
    let one = one_response (initial_state export) text p.response q.response p.new q.new p.from q.from in (
      p.out_is ∙ ap (λ (r : Response). r.out) one.0 ∙ sym q.out_is,
      p.end_is ∙ ap (λ (r : Response). end_at r.used r.next) one.0 ∙ sym q.end_is,
    )

-- how many bytes are used of a text and of what follows it
used_more : (next : Next) (text more rest : List ℕ) (used : ℕ) → IsUsed next more rest used
    → IsUsed next (text ++ more) rest (length text + used)
used_more More text more rest used p = omega (arith, p, length-append text more)
used_more Transmit text more rest used p =
    (omega (arith, p.0, length-append text more), drop-append-add text more used ∙ p.1)
used_more (Close aborted) text more rest used p =
    (omega (arith, p.0, length-append text more), drop-append-add text more used ∙ p.1)

-- a text that asks for more, and the state that it leads to
pub record Pauses (old between : Haggling) (text more out : List ℕ) : Type 0 where
  pub destination : Destination
  pub asks : destination.next ≡ More
  pub leads : Leads old.export old.phase (old.rest ++ text) destination
  pub onward : (b : Destination) → Leads between.export between.phase (between.rest ++ more) b
      → Leads old.export destination.phase (destination.rest ++ more) b
  pub back : (b : Destination) → Leads old.export destination.phase (destination.rest ++ more) b
      → Leads between.export between.phase (between.rest ++ more) b
  pub out_is : out ≡ destination.out

leads_too : (e f : Export) (p q : Phase) (r s : List ℕ) (more : List ℕ) (b : Destination) → e ≡ f → p ≡ q → r ≡ s
    → Leads e p (r ++ more) b → Leads f q (s ++ more) b
leads_too e f p q r s more b x y z l =
    subst (λ t. Leads f q (t ++ more) b) z (subst (λ t. Leads f t (r ++ more) b) y (subst (λ t. Leads t p (r ++ more) b) x l))

pauses : (old between : Haggling) (text more : List ℕ) (first : Response) → first.next ≡ More
    → HagglesFrom old text first between → Pauses old between text more first.out
pauses old between text more first h p =
    let asks : p.destination.next ≡ More = sym p.next_is ∙ h in
    let rest : between.rest ≡ p.destination.rest = p.rest_is ∙ ap (λ n. waiting_bytes n p.destination.rest) asks in
    record {
      destination = p.destination;
      asks = asks;
      leads = p.leads;
      onward = λ b l. leads_too between.export old.export between.phase p.destination.phase between.rest p.destination.rest more b
          p.export_is p.phase_is rest l;
      back = λ b l. leads_too old.export between.export p.destination.phase between.phase p.destination.rest between.rest more b
          (sym p.export_is) (sym p.phase_is) (sym rest) l;
      out_is = p.out_is;
    }

pub goes_on : GoesOn
unfolding concat
goes_on old between new text more first second h p q =
    let pause = pauses old between text more first h p in
    let whole = leads_join old.export old.phase (old.rest ++ text) more pause.destination q.destination pause.leads pause.asks
    (pause.onward q.destination q.leads) in
    record {
      destination = concat pause.destination q.destination;
      leads = subst (λ xs. Leads old.export old.phase xs (concat pause.destination q.destination)) (append_assoc old.rest text more) whole;
      out_is = ap (λ xs. xs ++ second.out) pause.out_is ∙ ap (λ xs. pause.destination.out ++ xs) q.out_is;
      next_is = q.next_is;
      used_is = used_more q.destination.next text more q.destination.rest second.used q.used_is;
      export_is = q.export_is ∙ p.export_is;
      phase_is = q.phase_is;
      rest_is = q.rest_is;
    }

within_more : (text more rest : List ℕ) (w : ℕ) → w ≤ length (text ++ more) → drop w (text ++ more) ≡ rest
    → length rest ≤ length more → (used : ℕ) × ((used ≤ length more) × (drop used more ≡ rest)) × (w ≡ length text + used)
within_more text more rest w l e k =
    let counted : w ≡ length text + (w - length text) =
    omega (arith, l, k, ap length e, length-drop w (text ++ more), length-append text more) in (
      w - length text,
      (
        omega (arith, l, length-append text more),
        sym (drop-append-add text more (w - length text)) ∙ ap (λ n. drop n (text ++ more)) (sym counted) ∙ e,
      ),
      counted,
    )

-- a rest is the rest of what follows
pub used_back : (next : Next) (text more rest : List ℕ) (whole_used : ℕ) → IsUsed next (text ++ more) rest whole_used
    → (next ≢ More → length rest ≤ length more)
    → (used : ℕ) × IsUsed next more rest used × (whole_used ≡ length text + used)
used_back More text more rest w p l = (length more, refl, p ∙ length-append text more)
used_back Transmit text more rest w p l = within_more text more rest w p.0 p.1 (l (λ h. cc))
used_back (Close aborted) text more rest w p l = within_more text more rest w p.0 p.1 (l (λ h. cc))

pub goes_on_only_so : GoesOnOnlySo
unfolding concat
goes_on_only_so old between new text more first whole h p q =
    let pause = pauses old between text more first h p in
    let apart = leads_apart old.export old.phase (old.rest ++ text) more pause.destination q.destination pause.leads pause.asks
    (subst (λ xs. Leads old.export old.phase xs q.destination) (sym (append_assoc old.rest text more)) q.leads) in
    let awaited = awaited_after old.export old.phase (old.rest ++ text) pause.destination pause.leads pause.asks in
    let within = leads_within old.export pause.destination.phase pause.destination.rest more apart.tail awaited apart.leads in
    let tail_used = subst (λ (o : Destination). IsUsed o.next (text ++ more) o.rest whole.used) apart.whole q.used_is in
    let back = used_back apart.tail.next text more apart.tail.rest whole.used tail_used within in
    let second : Response = record { out = apart.tail.out; used = back.0; next = whole.next } in (
      second,
      record {
        destination = apart.tail;
        leads = pause.back apart.tail apart.leads;
        out_is = refl;
        next_is = q.next_is ∙ ap (λ (o : Destination). o.next) apart.whole;
        used_is = back.1;
        export_is = q.export_is ∙ sym p.export_is;
        phase_is = q.phase_is ∙ ap (λ (o : Destination). o.phase) apart.whole;
        rest_is = q.rest_is ∙ ap (λ (o : Destination). waiting_bytes o.next o.rest) apart.whole;
      },
      same_response
          (q.out_is ∙ ap (λ (o : Destination). o.out) apart.whole ∙ ap (λ xs. xs ++ apart.tail.out) (sym pause.out_is))
          back.2 refl,
    )

ended_use : (next : Next) (text more rest : List ℕ) (used : ℕ) → next ≢ More → IsUsed next text rest used
    → IsUsed next (text ++ more) (rest ++ more) used
ended_use More text more rest used n p = absurd (n refl)
ended_use Transmit text more rest used n p =
    (omega (arith, p.0, length-append text more), drop-append-le used text more p.0 ∙ ap (λ xs. xs ++ more) p.1)
ended_use (Close aborted) text more rest used n p =
    (omega (arith, p.0, length-append text more), drop-append-le used text more p.0 ∙ ap (λ xs. xs ++ more) p.1)

no_bytes_wait : (next : Next) (xs ys : List ℕ) → next ≢ More → waiting_bytes next xs ≡ waiting_bytes next ys
no_bytes_wait More xs ys n = absurd (n refl)
no_bytes_wait Transmit xs ys n = refl
no_bytes_wait (Close aborted) xs ys n = refl

pub ends_there : EndsThere
unfolding with_more
ends_there old new text more response n p =
    let ended : p.destination.next ≢ More = λ h. n (p.next_is ∙ h) in
    record {
      destination = with_more p.destination more;
      leads = subst (λ xs. Leads old.export old.phase xs (with_more p.destination more)) (append_assoc old.rest text more)
          (leads_extend old.export old.phase (old.rest ++ text) more p.destination p.leads ended);
      out_is = p.out_is;
      next_is = p.next_is;
      used_is = ended_use p.destination.next text more p.destination.rest response.used ended p.used_is;
      export_is = p.export_is;
      phase_is = p.phase_is;
      rest_is = p.rest_is ∙ no_bytes_wait p.destination.next p.destination.rest (p.destination.rest ++ more) ended;
    }

-- the response to pieces in a row
response_to : List Exchange → Exchange → Response
response_to exchanges last = record {
  out = answers exchanges ++ last.response.out;
  used = length (pieces exchanges) + last.response.used;
  next = last.response.next;
}

however_from : (old new : Haggling) (exchanges : List Exchange) (last : Exchange) → Feeds old exchanges last new
    → HagglesFrom old (pieces exchanges ++ last.piece) (response_to exchanges last) new
unfolding response_to
however_from old new [] last p =
    let counted : response_to [] last ≡ last.response = same_response refl (zero-add last.response.used) refl in
    subst (λ r. HagglesFrom old last.piece r new) (sym counted) p
however_from old new (fed ∷ exchanges) last p =
    let whole = goes_on old p.0 new fed.piece (pieces exchanges ++ last.piece) fed.response (response_to exchanges last)
    p.1 p.2 (however_from p.0 new exchanges last p.3) in
    let one : sequence fed.piece fed.response (response_to exchanges last) ≡ response_to (fed ∷ exchanges) last =
    same_response (sym (append_assoc fed.response.out (answers exchanges) last.response.out))
    (omega (arith, length-append fed.piece (pieces exchanges))) refl in
    subst (λ r. HagglesFrom old ((fed.piece ++ pieces exchanges) ++ last.piece) r new) one
    (subst (λ xs. HagglesFrom old xs (sequence fed.piece fed.response (response_to exchanges last)) new)
    (sym (append_assoc fed.piece (pieces exchanges) last.piece)) whole)

pub however_cut : HoweverCut
unfolding response_to
however_cut export exchanges last new p = record {
  response = response_to exchanges last;
  new = new;
  from = however_from (initial_state export) new exchanges last p;
  out_is = refl;
  end_is = refl;
}

-- a text of options leads to the end exactly where it does not ask for more
over_ending : (export : Export) (nz : Bool) (out : List ℕ) (e : Ending) → IsEnding export nz e
    → ((ending_destination export nz out e).next ≡ More → ¬ ((ending_destination export nz out e).phase ≡ phase.Over))
    × ((ending_destination export nz out e).next ≢ More → (ending_destination export nz out e).phase ≡ phase.Over)
over_ending export nz out (Waits r) v = (λ _ h. cc, λ n. absurd (n refl))
over_ending export nz out (Settles o x) v = (λ h _. v.next h, λ _. refl)
over_ending export nz out (Breaks b x) v = (λ h _. cc, λ _. refl)

-- the end, and what it says of what comes next
record OverSo (o : Destination) : Type 0 where
  going : o.next ≡ More → ¬ (o.phase ≡ phase.Over)
  ended : o.next ≢ More → o.phase ≡ phase.Over

over_options : (export : Export) (nz : Bool) (text : List ℕ) (a : Destination) → OptionsLead export nz text a → OverSo a
over_options export nz text a p =
    let both = over_ending export nz (replies export nz p.tree.answered) p.tree.ending p.valid.ending in
    subst (λ o. OverSo o) (sym p.destination) (record { going = both.0; ended = both.1 })

over_flags : (export : Export) (t : Handshake) (a : Destination) → IsHandshake export t → a ≡ handshake_destination export t → OverSo a
over_flags export (NoFlags r) a v e =
    subst (λ o. OverSo o) (sym e) (record { going = λ _ h. cc; ended = λ n. absurd (n refl) })
over_flags export (BadFlags f x) a v e =
    subst (λ o. OverSo o) (sym e) (record { going = λ h _. cc; ended = λ _. refl })
over_flags export (GoodFlags f os) a v e =
    over_options export (has_no_zeroes f) (options_bytes os) a (record { tree = os; valid = v.1; bytes = refl; destination = e })

over_leads : (export : Export) (ph : Phase) (text : List ℕ) (a : Destination) → Leads export ph text a → OverSo a
over_leads export phase.Flags text a p = over_flags export p.tree a p.valid p.destination
over_leads export (phase.Options nz) text a p = over_options export nz text a p
over_leads export phase.Over text a p = absurd p

pub over_after_an_end : OverAfterAnEnd
over_after_an_end old new text response p =
    let so = over_leads old.export old.phase (old.rest ++ text) p.destination p.leads in (
      λ h over. so.going (sym p.next_is ∙ h) (sym p.phase_is ∙ over),
      λ n. p.phase_is ∙ so.ended (λ h. n (p.next_is ∙ h)),
    )
