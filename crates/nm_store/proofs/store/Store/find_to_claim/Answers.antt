-- The run of the ticket, as its first block has it.
use Rattle.std.proofs.Common.{rules, ◌≡◌, None, false, sym, ap, ◌∙◌}
use Rattle.nm_fanout.specs.Records.{IsAt, find_record}
use Rattle.nm_rules.specs.State.{StripeState}
use Rattle.nm_store.proofs.FindingLemmas.{place-found}
use Rattle.nm_store.proofs.StoreLemmas.{claim-none, claim-going, claim-over}
use Rattle.nm_store.proofs.store.Store.find_to_claim.Goals as goal

pub returns-in_default : goal.returns-in_default
returns-in_default g c =
    let runs : c.args.self.now.stopped ≡ false = search rules in
    let none : find_record c.args.ticket c.self.inside.records ≡ None = search rules in
    record { ok = tt; place = tt; cause = sym (claim-none c.args.self.now c.args.ticket c.self.inside.records c.find.ensures.in_order (ap (λ (s : StripeState _). s.records) (sym c.self.view_is)) runs none) }

pub returns-then-is_under_way : goal.returns-then-is_under_way
returns-then-is_under_way g c =
    let runs : c.args.self.now.stopped ≡ false = search rules in
    let at : IsAt c.args.ticket c.in-Some.place c.self.inside.records = search rules in
    record { ok = tt; place = tt; cause = sym (claim-going c.args.self.now c.args.ticket c.self.inside.records c.find.ensures.in_order (ap (λ (s : StripeState _). s.records) (sym c.self.view_is)) runs c.at-run.result.now (at.found ∙ c.at-run.ensures.found) (sym c.is_under_way.ensures ∙ c.if-is_under_way.true)) }

pub returns-else-is_under_way : goal.returns-else-is_under_way
returns-else-is_under_way g c =
    let runs : c.args.self.now.stopped ≡ false = search rules in
    let at : IsAt c.args.ticket c.in-Some.place c.self.inside.records = search rules in
    record { ok = sym (claim-over c.args.self.now c.args.ticket c.self.inside.records c.find.ensures.in_order (ap (λ (s : StripeState _). s.records) (sym c.self.view_is)) runs c.at-run.result.now (at.found ∙ c.at-run.ensures.found) (sym c.is_under_way.ensures ∙ c.if-is_under_way.false)); place = place-found c.args.self.now c.args.ticket c.in-Some.place c.self.inside.records c.at-run.result.now c.find.ensures.in_order (ap (λ (s : StripeState _). s.records) c.self.view_is) at c.at-run.ensures.found; cause = tt }
