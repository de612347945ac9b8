-- The run of the ticket, as its first block has it.
use Rattle.std.proofs.Common.{rules, ◌≡◌, None, false, sym, ap, ◌∙◌}
use Rattle.nm_fanout.specs.Records.{IsAt, find_record}
use Rattle.nm_rules.specs.State.{StripeState}
use Rattle.nm_store.proofs.FindingLemmas.{place-found}
use Rattle.nm_store.proofs.StoreLemmas.{push-none, push-owed, push-not_owed}
use Rattle.nm_store.proofs.store.Store.find_to_push.Goals as goal

pub returns-in_default : goal.returns-in_default
returns-in_default g c =
    let runs : c.args.self.now.stopped ≡ false = search rules in
    let none : find_record c.args.ticket c.self.inside.records ≡ None = search rules in
    record { ok = tt; place = tt; cause = sym (push-none c.args.self.now c.args.ticket c.self.inside.records c.find.ensures.in_order (ap (λ (s : StripeState _). s.records) (sym c.self.view_is)) runs c.args.leg none) }

pub returns-then-owes : goal.returns-then-owes
returns-then-owes g c =
    let runs : c.args.self.now.stopped ≡ false = search rules in
    let at : IsAt c.args.ticket c.in-Some.place c.self.inside.records = search rules in
    record { ok = sym (push-owed c.args.self.now c.args.ticket c.self.inside.records c.find.ensures.in_order (ap (λ (s : StripeState _). s.records) (sym c.self.view_is)) runs c.at-run.result.now (at.found ∙ c.at-run.ensures.found) c.args.leg (sym c.owes.ensures ∙ c.if-owes.true)); place = place-found c.args.self.now c.args.ticket c.in-Some.place c.self.inside.records c.at-run.result.now c.find.ensures.in_order (ap (λ (s : StripeState _). s.records) c.self.view_is) at c.at-run.ensures.found; cause = tt }

pub returns-else-owes : goal.returns-else-owes
returns-else-owes g c =
    let runs : c.args.self.now.stopped ≡ false = search rules in
    let at : IsAt c.args.ticket c.in-Some.place c.self.inside.records = search rules in
    record { ok = tt; place = tt; cause = sym (push-not_owed c.args.self.now c.args.ticket c.self.inside.records c.find.ensures.in_order (ap (λ (s : StripeState _). s.records) (sym c.self.view_is)) runs c.at-run.result.now (at.found ∙ c.at-run.ensures.found) c.args.leg (sym c.owes.ensures ∙ c.if-owes.false)) }
