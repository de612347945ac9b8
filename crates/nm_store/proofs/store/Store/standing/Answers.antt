-- The first block of the run owes what the run owes, and has its entry.
use Rattle.std.proofs.Common.{◌≡◌, Bool, List, IsSome, count_by, sym, ap, ◌∙◌, subst}
use Rattle.std.specs.List.{list_any}
use Rattle.std.proofs.lemmas.Option.{same_Some}
use Rattle.nm_fanout.specs.declared.write_record.Record.{Record}
use Rattle.nm_fanout.specs.Records.{find_record}
use Rattle.nm_rules.specs.Runs.{find_run}
use Rattle.nm_rules.specs.State.{StripeState}
use Rattle.nm_store.specs.Inside.{state_of}
use Rattle.nm_store.proofs.RunNameLemmas.{place-at, place-some, run-there}
use Rattle.nm_store.proofs.store.Store.standing.Goals as goal

pub unwrap-place-requires : goal.unwrap-place-requires
unwrap-place-requires g c =
    let some : IsSome (find_run c.args.ticket (state_of c.self.inside).records) = subst (λ (s : StripeState _). IsSome (find_run c.args.ticket s.records)) (sym c.self.view_is) c.requires in
    place-some c.args.ticket c.self.inside.records c.find_near.result c.find_near.ensures.absent c.find_near.ensures.in_order.runs some

pub returns : goal.returns
returns g c = λ r found.
    let rs = c.self.inside.records in
    let x = c.at-run.result.now in
    let at = place-at c.args.ticket rs c.find_near.result c.unwrap-place.result c.find_near.ensures.found c.unwrap-place.ensures in
    let run = run-there c.args.ticket c.unwrap-place.result rs x c.find_near.ensures.in_order at c.at-run.ensures.found in
    let same : run.block.first ≡ r = same_Some run.block.first r (sym run.record_found ∙ ap (λ (s : StripeState _). find_record c.args.ticket s.records) c.self.view_is ∙ found) in
    let owed : x.owed ≡ r.owed = sym run.block.owed ∙ ap (λ (q : Record). q.owed) same in (
      c.owed_count.ensures.count ∙ ap (λ (os : List Bool). count_by (λ (o : Bool). o) os) owed,
      c.is_under_way.ensures ∙ ap (λ (os : List Bool). list_any (λ (o : Bool). o) os) owed,
      sym run.block.entry ∙ ap (λ (q : Record). q.entry) same,
    )
