-- What the image says of the legs and spans is handed on, list by list.
use Rattle.std.proofs.Common.{◌≡◌, ◌⊎◌, ◌↔◌, ℕ, true, false, slice_index_or, refl, subst, ◌∙◌}
use Rattle.std.specs.Int.{bit_at}
use Rattle.nm_superblock.specs.Spans.{candidates_of, in_sync_of}
use Rattle.nm_plans.proofs.Unions.{in-either}
use Rattle.nm_plans.proofs.gates.durable_state.Goals as goal

pub returns : goal.returns
returns c =
    let sets = c.args.image.now.sets in
    let stripe = c.args.stripe in
    let named = c.in_sync-named.result in
    let candidates = c.candidates.result in
    let named_is : named ≡ in_sync_of stripe sets = c.in_sync-named.ensures in
    let candidates_is : candidates ≡ candidates_of stripe sets = c.candidates.ensures in
    rw c.new.ensures (record {
      named = λ leg inside. subst (λ (set : ℕ). (slice_index_or c.of_bits.result leg false ≡ true) ↔ (bit_at set leg ≡ 1)) named_is (c.of_bits.ensures leg inside);
      listed = λ leg inside.
          let one = c.of_bits-2.ensures leg inside in
          let two = in-either named candidates leg in
          let given : ℕ → ℕ → Type 0 = λ own other. (slice_index_or c.of_bits-2.result leg false ≡ true) ↔ ((bit_at own leg ≡ 1) ⊎ (bit_at other leg ≡ 1)) in
          subst (λ (set : ℕ). given (in_sync_of stripe sets) set) candidates_is
          (subst (λ (set : ℕ). given set candidates) named_is (λ is. two.0 (one.0 is), λ either. one.1 (two.1 either)));
      lacking = λ leg inside. subst (λ (set : ℕ). (slice_index_or c.of_bits-3.result leg false ≡ true) ↔ (bit_at set leg ≡ 1)) c.partial.ensures (c.of_bits-3.ensures leg inside);
      marked = c.in_ok-marks.ensures.marks;
      count = c.in_ok-marks.ensures.count;
      span = c.from.ensures ∙ c.max.ensures;
      whole = refl;
    })
