-- A busy run is that of a busy block.
use Rattle.std.proofs.Common.{Some, None, sym, ap, ◌∙◌}
use Rattle.std.specs.Option.{option_map}
use Rattle.nm_fanout.specs.declared.write_record.Record.{Record}
use Rattle.nm_fanout.specs.Records.{busy_among}
use Rattle.nm_rules.specs.declared.refusal.Refusal.TheVariants.{Busy}
use Rattle.nm_rules.specs.State.{StripeState}
use Rattle.nm_store.proofs.StoreLemmas.{busy-run}
use Rattle.nm_store.proofs.store.Store.busy_among.Goals as goal

pub returns-in_err-ticket : goal.returns-in_err-ticket
returns-in_err-ticket g c =
    c.from_residual.ensures
    ∙ busy-run c.args.first c.args.count c.self.inside.records None c.requires c.busy_among.ensures.in_order.runs (sym c.in_err-ticket.was ∙ c.busy_among.ensures.busy)
    ∙ ap (λ (s : StripeState _). option_map (λ (r : Record). Busy r.run) (busy_among c.args.first c.args.count s.records)) c.self.view_is

pub returns : goal.returns
returns g c =
    busy-run c.args.first c.args.count c.self.inside.records (Some c.in_ok-ticket.ticket) c.requires c.busy_among.ensures.in_order.runs (sym c.in_ok-ticket.was ∙ c.busy_among.ensures.busy)
    ∙ ap (λ (s : StripeState _). option_map (λ (r : Record). Busy r.run) (busy_among c.args.first c.args.count s.records)) c.self.view_is
