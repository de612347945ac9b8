-- The records of the run's blocks all go, and the answer names their entries.
use Rattle.std.proofs.Common.{◌≡◌, ℕ, ◌≤◌, List, Option, None, Some, IsSome, length, refl, sym, ap, ◌∙◌, subst}
use Rattle.std.specs.Option.{option_and_then}
use Rattle.nm_fanout.specs.declared.write_record.Record.{Record}
use Rattle.nm_fanout.specs.Records.{without}
use Rattle.nm_fanout.specs.Runs.{flat}
use Rattle.nm_fanout.proofs.FlatClaims.{claiming}
use Rattle.nm_fanout.proofs.Laying.{length-run}
use Rattle.nm_rules.specs.RunClaim.{ClaimsRun, after_claim_run, claim_run_cause}
use Rattle.nm_rules.specs.Runs.{AreFinished, find_run, of_run}
use Rattle.nm_rules.specs.State.{StripeState}
use Rattle.nm_rules.proofs.RunFlatLemmas.{are-finished}
use Rattle.nm_store.specs.Inside.{AllFit, state_of}
use Rattle.nm_store.proofs.ClaimLemmas.{claimed-counts, entry-there}
use Rattle.nm_store.proofs.RunFitLemmas.{fit-without}
use Rattle.nm_store.proofs.RunNameLemmas.{claim-over, claim-some, place-at, place-some, run-is_over, run-there}
use Rattle.nm_store.proofs.TableLemmas.{table-of}
use Rattle.nm_store.proofs.store.Store.claim.Goals as goal

pub unwrap-place-requires : goal.unwrap-place-requires
unwrap-place-requires g c =
    let none : claim_run_cause (state_of c.self.inside) c.args.ticket ≡ None = subst (λ (s : StripeState _). claim_run_cause s c.args.ticket ≡ None) (sym c.self.view_is) c.requires.no_cause in
    place-some c.args.ticket c.self.inside.records c.find_near.result c.find_near.ensures.absent c.find_near.ensures.in_order.runs (claim-some (state_of c.self.inside) c.args.ticket none)

pub claim_at-number-requires : goal.claim_at-number-requires
claim_at-number-requires g c =
    let rs = c.self.inside.records in
    let x = c.at-run.result.now in
    let at = place-at c.args.ticket rs c.find_near.result c.unwrap-place.result c.find_near.ensures.found c.unwrap-place.ensures in
    let run = run-there c.args.ticket c.unwrap-place.result rs x c.find_near.ensures.in_order at c.at-run.ensures.found in
    let landed = c.requires.landed run.block.first (ap (λ (s : StripeState _). find_run c.args.ticket s.records) (sym c.self.view_is) ∙ run.first) in
    record {
      landed = subst (λ (o : Option Record). IsSome (option_and_then (λ (r : Record). r.entry) o)) (sym c.at-run.ensures.found)
          (subst (λ (e : Option ℕ). IsSome e) run.block.entry landed);
    }

pub invariant_of-self : goal.invariant_of-self
invariant_of-self g c =
    let old = state_of c.self.inside in
    let rs = c.self.inside.records in
    let x = c.at-run.result.now in
    let none : claim_run_cause old c.args.ticket ≡ None = subst (λ (s : StripeState _). claim_run_cause s c.args.ticket ≡ None) (sym c.self.view_is) c.requires.no_cause in
    let at = place-at c.args.ticket rs c.find_near.result c.unwrap-place.result c.find_near.ensures.found c.unwrap-place.ensures in
    let run = run-there c.args.ticket c.unwrap-place.result rs x c.find_near.ensures.in_order at c.at-run.ensures.found in
    let over = run-is_over x run.block (claim-over old c.args.ticket run.block.first none run.first) in
    let list : c.claim_at-number.new.self ≡ without c.args.ticket rs = c.claim_at-number.ensures.records c.args.ticket at in
    record {
      regions = table-of c.self.inside.regions (record old { records = flat (without c.args.ticket rs) }) (flat c.claim_at-number.new.self)
          (c.self.invariant.regions ∙ claimed-counts old rs c.args.ticket c.unwrap-place.result x refl c.find_near.ensures.in_order at c.at-run.ensures.found over)
          (ap (λ (l : List Record). flat l) list);
      states = c.self.invariant.states;
      flags = c.self.invariant.flags;
      chunk = c.self.invariant.chunk;
      runs = subst (λ (l : List Record). AllFit old.place l) (sym list) (fit-without old.place c.args.ticket rs c.self.invariant.runs);
    }

pub returns : goal.returns
returns g c =
    let old = state_of c.self.inside in
    let rs = c.self.inside.records in
    let x = c.at-run.result.now in
    let none : claim_run_cause old c.args.ticket ≡ None = subst (λ (s : StripeState _). claim_run_cause s c.args.ticket ≡ None) (sym c.self.view_is) c.requires.no_cause in
    let at = place-at c.args.ticket rs c.find_near.result c.unwrap-place.result c.find_near.ensures.found c.unwrap-place.ensures in
    let run = run-there c.args.ticket c.unwrap-place.result rs x c.find_near.ensures.in_order at c.at-run.ensures.found in
    let over = run-is_over x run.block (claim-over old c.args.ticket run.block.first none run.first) in
    let list : c.claim_at-number.new.self ≡ without c.args.ticket rs = c.claim_at-number.ensures.records c.args.ticket at in
    let entry : x.entry ≡ Some c.claim_at-number.result = entry-there c.unwrap-place.result c.claim_at-number.result rs x c.at-run.ensures.found c.claim_at-number.ensures.number in
    let gone = claiming c.args.ticket c.unwrap-place.result rs c.find_near.ensures.in_order at in
    let are : AreFinished c.args.ticket x.block c.claim_at-number.result (of_run c.args.ticket old.records) old.records =
    subst (λ (t : ℕ). AreFinished t x.block c.claim_at-number.result (of_run c.args.ticket old.records) old.records) run.ticket
    (subst (λ (os : List Record). AreFinished x.ticket x.block c.claim_at-number.result os old.records) (sym run.members) (are-finished x c.claim_at-number.result old.records over entry run.found)) in
    let after : flat c.claim_at-number.new.self ≡ (after_claim_run old (of_run c.args.ticket old.records)).records =
    ap (λ (l : List Record). flat l) list ∙ gone.after ∙ ap (λ (os : List Record). (after_claim_run old os).records) (sym gone.members) in
    let count : c.blocks-count.result ≡ length (of_run c.args.ticket old.records) = c.blocks-count.ensures ∙ sym (length-run x) ∙ ap (λ (os : List Record). length os) (sym run.members) in
    let claims : ClaimsRun old (record old { records = flat c.claim_at-number.new.self }) c.args.ticket (record { stripe = old.place.stripe; block = x.block; number = c.claim_at-number.result; count = c.blocks-count.result }) = record {
      no_cause = none;
      are = are;
      stripe = refl;
      count = count;
      after = ap (λ (l : List Record). let s : StripeState _ = record old { records = l } in s) after;
    } in
    record {
      claimed = subst (λ (s : StripeState _). ClaimsRun s (record old { records = flat c.claim_at-number.new.self }) c.args.ticket (record { stripe = s.place.stripe; block = x.block; number = c.claim_at-number.result; count = c.blocks-count.result })) c.self.view_is claims;
      most = subst (λ (n : ℕ). n ≤ 128) (sym c.blocks-count.ensures) run.is_run.filled.most;
    }
