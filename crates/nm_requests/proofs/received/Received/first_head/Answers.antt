-- The bytes begin with the header that was taken off, and with no other.
use Rattle.std.proofs.Common.{◌++◌, Ok, ap, sym, ◌∙◌, arith}
use Rattle.nm_wire.specs.Layout.{request_head_bytes}
use Rattle.nm_wire.proofs.Heads.{request_head_bytes-unique}
use Rattle.nm_requests.proofs.HeadOff.{items_are, after_head, length_is}
use Rattle.nm_requests.proofs.received.Received.first_head.Goals as goal

pub returns-in-Some-clause-ok : goal.returns-in-Some-clause-ok
returns-in-Some-clause-ok c =
    items_are c.self.inside c.args.self.now c.in-Some.head c.self.view_is c.in-Some.is
    ∙ ap (λ rest. request_head_bytes c.in-Some.head ++ rest) (sym (after_head c.self.inside
    c.args.self.now c.in-Some.head c.self.view_is c.in-Some.is))

pub returns-in-Some-clause-reads_back : goal.returns-in-Some-clause-reads_back
returns-in-Some-clause-reads_back c head rest fits same =
    let own = rw c.in-Some.is at c.self.invariant in
    ap Ok (request_head_bytes-unique c.in-Some.head head c.self.inside.bytes.items rest own fits
    (sym (items_are c.self.inside c.args.self.now c.in-Some.head c.self.view_is c.in-Some.is)
    ∙ same)).0

pub returns-in-Some-clause-short : goal.returns-in-Some-clause-short
returns-in-Some-clause-short c = (
  λ other. absurd (cc),
  λ short. absurd (omega (
    arith,
    short,
    length_is c.self.inside c.args.self.now c.in-Some.head
        c.self.view_is c.in-Some.is,
  )),
)
