-- A place that has the ticket is that of the ticket's record.
use Rattle.std.proofs.Common.{rules, ◌≡◌, ◌<◌, length, get_or, arith}
use Rattle.std.specs.Vec.{vec_len}
use Rattle.nm_fanout.specs.Records.{IsAt}
use Rattle.nm_fanout.proofs.Indexed.{near-ticket}
use Rattle.nm_fanout.proofs.records.Records.find_near.Goals as goal

pub returns-then-index-ticket-clause-found : goal.returns-then-index-ticket-clause-found
returns-then-index-ticket-clause-found c =
    let len : vec_len c.self.inside.tickets ≡ length c.self.inside.tickets.items = search rules in
    let within : c.args.near < length c.self.inside.tickets.items = omega (arith, c.if-near-len.true, c.len.ensures, len) in
    let read : c.args.ticket ≡ get_or c.self.inside.tickets.items c.args.near c.args.ticket = search rules in
    let at : IsAt c.args.ticket c.args.near c.self.inside.list = near-ticket c.self.inside.list c.self.inside.tickets.items c.self.inside.blocks.items c.self.inside.without_entry c.args.near c.args.ticket c.self.invariant.0 within read in
    rw (← c.self.view_is) at
