-- The run and its records are there after it has reached the leg.
use Rattle.std.proofs.Common.{◌≡◌, IsSome, Some, sym, subst}
use Rattle.nm_fanout.specs.Records.{find_record}
use Rattle.nm_rules.specs.Runs.{find_run}
use Rattle.nm_rules.specs.State.{StripeState}
use Rattle.nm_stripe.proofs.PushLemmas.{after-record, after-run}
use Rattle.nm_stripe.proofs.push.answer_write.Goals as goal

pub reach_of-requires-clause-run : goal.reach_of-requires-clause-run
reach_of-requires-clause-run g c =
    let s = c.args.store.now in
    subst (λ (n : StripeState _). IsSome (find_run c.args.ticket n.records)) (sym c.reach.ensures) (after-run s s.legs c.args.ticket c.args.leg c.requires.no_cause)

pub reach_of-requires-clause-record : goal.reach_of-requires-clause-record
reach_of-requires-clause-record g c =
    let s = c.args.store.now in
    subst (λ (n : StripeState _). IsSome (find_record c.args.ticket n.records)) (sym c.reach.ensures) (after-record s s.legs c.args.ticket c.args.leg c.requires.record)

pub reach_of-requires-clause-landed : goal.reach_of-requires-clause-landed
reach_of-requires-clause-landed g c r found over =
    let after = c.requires.landed c.if-done.true in
    after r (subst (λ (n : StripeState _). find_record c.args.ticket n.records ≡ Some r) c.reach.ensures found) over
