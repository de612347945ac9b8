-- One gate more goes by the image.
use Rattle.std.proofs.Common.{◌≡◌, ℕ, max, [], ◌∷◌, ◌++◌, List, length, slice_get, Some, sym, ap, ◌∙◌, subst, arith, rules}
use Rattle.std.proofs.lemmas.List.{length-append}
use Rattle.std.proofs.lemmas.Option.{same_Some, slice_get-get_or, slice_get_within}
use Rattle.nm_rules.specs.declared.at.At.{At}
use Rattle.nm_rules.specs.State.{StripeState}
use Rattle.nm_gate.specs.Durable.{Durable}
use Rattle.nm_plans.proofs.OneMore.{one_more}
use Rattle.nm_plans.specs.Plan.{IsDurableOf, spans_of}
use Rattle.nm_plans.proofs.gates.durable_states.Goals as goal

pub stripes-preserved : goal.stripes-preserved
stripes-preserved g c =
    let old = c.stripes.states.items in
    let own = c.in_ok-durable_state.field-0 in
    let image = c.args.image.now in
    let count = c.stripes.invariant.count_is in
    let adds : c.push.new.self.items ≡ old ++ own ∷ [] = search rules in
    let goes : ℕ → Durable → Type 0 = λ number d. (stripe : StripeState g.row.L.Denot) → slice_get c.args.stripes.now number ≡ Some stripe
    → IsDurableOf image number (spans_of stripe.place (max image.span_regions 1)) d in
    let here : goes c.stripes.number own = λ stripe at.
    let is : c.index-stripes-number.result ≡ stripe = same_Some c.index-stripes-number.result stripe
    (ap Some c.index-stripes-number.is ∙ sym (slice_get-get_or c.args.stripes.now c.stripes.number c.index-stripes-number.result (slice_get_within c.args.stripes.now c.stripes.number stripe at)) ∙ at) in
    let place : c.place.result ≡ stripe.place = c.place.ensures ∙ ap (λ (s : StripeState g.row.L.Denot). s.place) is in
    let spans : c.spans_of-spans.result ≡ spans_of stripe.place (max image.span_regions 1) =
    c.spans_of-spans.ensures ∙ ap (λ (p : At). spans_of p c.from-span.result) place ∙ ap (spans_of stripe.place) (c.from-span.ensures ∙ c.max.ensures) in
    subst (λ (n : ℕ). IsDurableOf image c.stripes.number n own) spans c.in_ok-durable_state.ensures in record {
      count_is = omega (arith, ap length adds, length-append old (own ∷ []), count);
      each = λ number stripe d at there. one_more goes old own (λ k x found s is. c.stripes.invariant.each k s x is found)
          (subst (λ (k : ℕ). goes k own) (sym count) here)
          number d (subst (λ (all : List Durable). slice_get all number ≡ Some d) adds there) stripe at;
    }
