use Rattle.std.proofs.Common.{◌≡◌, ◌+◌, ◌-◌, [], ◌∷◌, ◌++◌, length, refl, arith, sym, ap, ◌∙◌, length-drop}
use Rattle.circular_buffer.specs.Buffer.{keep_last}
use Rattle.nm_replay.specs.Heads.{heads_from}
use Rattle.nm_replay.specs.Kept.{ticket_in}
use Rattle.nm_replay.proofs.Heads.{heads-step, keep_last-few, ticket-next}
use Rattle.nm_replay.proofs.kept.add_heads.Goals as goal

pub loop-init : goal.loop-init
loop-init c =
    let all : c.args.count - 0 ≡ c.args.count = omega arith in
    record {
      number = omega arith;
      ticket = omega arith;
      block = omega arith;
      capacity = refl;
      few = c.requires.few;
      items = ap (λ k. keep_last c.args.heads.now.capacity (c.args.heads.now.items ++ heads_from k c.args.first)) all;
    }

pub next-next-requires-clause-number : goal.next-next-requires-clause-number
next-next-requires-clause-number c = omega (arith, c.loop.invariant.number, c.loop-test.true, c.requires.numbers)

pub next-next-requires-clause-ticket : goal.next-next-requires-clause-ticket
next-next-requires-clause-ticket c = omega (arith, c.loop.invariant.ticket, c.loop-test.true, c.requires.tickets)

pub next-next-requires-clause-block : goal.next-next-requires-clause-block
next-next-requires-clause-block c = omega (arith, c.loop.invariant.block, c.loop-test.true, c.requires.blocks)

pub loop-preserved : goal.loop-preserved
loop-preserved c =
    let inv = c.loop.invariant in
    let most = c.args.heads.now.capacity in
    let hs = c.loop.heads.items in
    let h = c.loop.next in
    let kept : c.push_back.new.self.items ≡ keep_last most (hs ++ h ∷ []) =
    ap (λ b. b.items) c.push_back.ensures.items ∙ ap (λ n. keep_last n (hs ++ h ∷ [])) inv.capacity in
    record {
      number = omega (arith, ap (λ x. x.seq) c.next-next.ensures, inv.number);
      ticket = omega (arith, ap (λ x. ticket_in x.kind) c.next-next.ensures, ticket-next h.kind, inv.ticket);
      block = omega (arith, ap (λ x. x.block) c.next-next.ensures, inv.block);
      capacity = ap (λ b. b.capacity) c.push_back.ensures.items ∙ inv.capacity;
      few = omega (arith, ap (λ xs. length xs) kept, length-drop (length (hs ++ h ∷ []) - most) (hs ++ h ∷ []));
      items = ap (λ x. keep_last most (c.push_back.new.self.items ++ heads_from (c.args.count - (c.loop.counter + 1)) x)) c.next-next.ensures
          ∙ heads-step most c.args.count c.loop.counter h hs c.push_back.new.self.items c.loop-test.true kept ∙ inv.items;
    }

pub returns-clause-items : goal.returns-clause-items
returns-clause-items c =
    let inv = c.loop.invariant in
    let most = c.args.heads.now.capacity in
    let none : c.args.count - c.loop.counter ≡ 0 = omega (arith, c.loop-test.false) in
    sym (keep_last-few most c.loop.heads.items inv.few)
    ∙ ap (λ k. keep_last most (c.loop.heads.items ++ heads_from k c.loop.next)) (sym none)
    ∙ inv.items

pub returns-clause-capacity : goal.returns-clause-capacity
returns-clause-capacity c = c.loop.invariant.capacity
