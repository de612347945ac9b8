-- A run that is busy in the new chunk is that of a block that is.
use Rattle.std.proofs.Common.{ℕ, Option, Some, None, sym, ap, ◌∙◌}
use Rattle.std.specs.Option.{option_map}
use Rattle.nm_fanout.specs.declared.write_record.Record.{Record}
use Rattle.nm_fanout.specs.Records.{busy_among}
use Rattle.nm_rules.specs.declared.refusal.Refusal.TheVariants.{Busy}
use Rattle.nm_rules.specs.Copy.{busy_within}
use Rattle.nm_rules.specs.State.{StripeState, copy_start}
use Rattle.nm_store.proofs.StoreLemmas.{busy-run, within-among}
use Rattle.nm_store.proofs.store.Store.busy_new_chunk.Goals as goal

pub returns-in_err-ticket : goal.returns-in_err-ticket
returns-in_err-ticket g c =
    let start = c.block_of-start.result in
    let long = c.new_length.result in
    c.from_residual.ensures
    ∙ busy-run start long c.self.inside.records None c.new_length.ensures.some c.busy_among.ensures.in_order.runs (sym c.in_err-ticket.was ∙ c.busy_among.ensures.busy)
    ∙ ap (λ (s : StripeState _). option_map (λ (r : Record). Busy r.run) (busy_among start long s.records)) c.self.view_is
    ∙ ap (λ (o : Option Record). option_map (λ (r : Record). Busy r.run) o) (within-among start long c.args.self.now.records)
    ∙ ap (λ (n : ℕ). option_map (λ (r : Record). Busy r.run) (busy_within n long c.args.self.now.records)) c.block_of-start.ensures.start
    ∙ ap (λ (n : ℕ). option_map (λ (r : Record). Busy r.run) (busy_within (copy_start c.args.self.now.place.region c.args.copy) n c.args.self.now.records)) c.new_length.ensures.length

pub returns : goal.returns
returns g c =
    let start = c.block_of-start.result in
    let long = c.new_length.result in
    busy-run start long c.self.inside.records (Some c.in_ok-ticket.ticket) c.new_length.ensures.some c.busy_among.ensures.in_order.runs (sym c.in_ok-ticket.was ∙ c.busy_among.ensures.busy)
    ∙ ap (λ (s : StripeState _). option_map (λ (r : Record). Busy r.run) (busy_among start long s.records)) c.self.view_is
    ∙ ap (λ (o : Option Record). option_map (λ (r : Record). Busy r.run) o) (within-among start long c.args.self.now.records)
    ∙ ap (λ (n : ℕ). option_map (λ (r : Record). Busy r.run) (busy_within n long c.args.self.now.records)) c.block_of-start.ensures.start
    ∙ ap (λ (n : ℕ). option_map (λ (r : Record). Busy r.run) (busy_within (copy_start c.args.self.now.place.region c.args.copy) n c.args.self.now.records)) c.new_length.ensures.length
