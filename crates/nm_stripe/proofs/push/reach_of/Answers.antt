-- Where the run stands is said of the record of its first block.
use Rattle.std.proofs.Common.{rules, ◌≡◌, true, false, is_some, sym, ap, ◌∙◌}
use Rattle.nm_fanout.specs.Records.{find_record}
use Rattle.nm_stripe.proofs.PushLemmas.{some-there}
use Rattle.nm_stripe.proofs.push.reach_of.Goals as goal

pub unwrap-requires : goal.unwrap-requires
unwrap-requires g c =
    let at = some-there (find_record c.args.ticket c.args.store.now.records) c.requires.record in
    let stands = c.standing-standing.ensures at.0 at.1 in
    let over : c.standing-standing.result.under_way ≡ false = search rules in
    ap (λ e. is_some e) stands.2 ∙ c.requires.landed at.0 at.1 (sym stands.1 ∙ over)

pub returns-then-standing : goal.returns-then-standing
returns-then-standing g c =
    let at = some-there (find_record c.args.ticket c.args.store.now.records) c.requires.record in
    let stands = c.standing-standing.ensures at.0 at.1 in
    let goes : c.standing-standing.result.under_way ≡ true = search rules in
    record { pending = at.0; found = at.1; under_way = sym stands.1 ∙ goes; owed = stands.0 }

pub returns-else-standing : goal.returns-else-standing
returns-else-standing g c =
    let at = some-there (find_record c.args.ticket c.args.store.now.records) c.requires.record in
    let stands = c.standing-standing.ensures at.0 at.1 in
    let over : c.standing-standing.result.under_way ≡ false = search rules in
    record { finished = at.0; found = at.1; all_reached = sym stands.1 ∙ over; entry = sym stands.2 ∙ c.unwrap.ensures }
