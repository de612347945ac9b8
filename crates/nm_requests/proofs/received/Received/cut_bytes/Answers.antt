-- The payload is what follows the header, whether that was taken off or not.
use Rattle.std.proofs.Common.{◌≡◌, ◌+◌, ap, sym, ◌∙◌, arith, take, drop}
use Rattle.std.proofs.lemmas.List.{drop-drop}
use Rattle.nm_requests.proofs.HeadOff.{after_head, length_is}
use Rattle.nm_requests.proofs.received.Received.cut_bytes.Goals as goal

pub cut_range-requires : goal.cut_range-requires
cut_range-requires c =
    omega (
      arith,
      c.requires,
      length_is c.self.inside c.args.self.now _ c.self.view_is
          c.in-Some.is,
    )

pub returns-in-Some-clause-payload : goal.returns-in-Some-clause-payload
returns-in-Some-clause-payload c =
    c.in_ok-payload.ensures.payload ∙ ap (take c.args.len) (sym (after_head c.self.inside
    c.args.self.now _ c.self.view_is c.in-Some.is))

pub returns-in-Some-clause-rest : goal.returns-in-Some-clause-rest
returns-in-Some-clause-rest c =
    let same : 0 + c.args.len ≡ c.args.len = omega arith in
    c.leave_long_block.ensures ∙ c.in_ok-payload.ensures.rest
    ∙ ap (λ n. drop n c.self.inside.bytes.items) same
    ∙ ap (drop c.args.len) (sym (after_head c.self.inside c.args.self.now _ c.self.view_is
    c.in-Some.is)) ∙ drop-drop c.args.len 28 c.args.self.now.items
