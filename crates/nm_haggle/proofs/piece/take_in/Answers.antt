-- The goals are those of two stages: what is joined to the held bytes, and the rest of the piece.
use Rattle.std.proofs.Common.{◌≡◌, ◌-◌, ◌+◌, ℕ, List, [], ◌++◌, length, take, drop, sym, ap, ◌∙◌, subst, arith}
use Rattle.std.proofs.lemmas.List.{append_assoc}
use Rattle.nm_wire.specs.declared.export.Export.{Export}
use Rattle.nm_haggle.specs.declared.phase.Phase.{Phase}
use Rattle.nm_haggle.specs.declared.progress.Progress.{Progress}
use Rattle.nm_haggle.specs.Haggling.{state}
use Rattle.nm_haggle.specs.Progress.{Advances, Reads}
use Rattle.nm_haggle.proofs.Passings.{slice_is_rest, ends_not_more}
use Rattle.nm_haggle.proofs.Joins.{awaited_short, ended_past, passed_past, ended_in_joined, nothing_whole, in_two_stages}
use Rattle.nm_haggle.proofs.piece.take_in.Goals as goal

-- the answer to what was joined, as it follows the held bytes
answer_to_joined : (export : Export) (ph : Phase) (held text joined out : List ℕ) (n : ℕ) (p : Progress) → joined ≡ held ++ take n text
    → Advances export ph joined out p → Advances export ph (held ++ take n text) out p
answer_to_joined export ph held text joined out n p e a = subst (λ xs. Advances export ph xs out p) e a

-- the replies of both stages were appended
appended_both : (old mid new first second : List ℕ) → mid ≡ old ++ first → new ≡ mid ++ second → new ≡ old ++ (first ++ second)
appended_both old mid new first second e f = f ∙ ap (λ xs. xs ++ second) e ∙ append_assoc old first second

pub join-requires-clause-room : goal.join-requires-clause-room
join-requires-clause-room c = omega (arith, awaited_short c.args.phase c.args.held.now.items c.requires.awaited)

pub overflow_sub-start : goal.overflow_sub-start
overflow_sub-start c =
    let held = c.args.held.now.items in
    let n = 65552 - length held in
    let q = c.in_ok-first.ensures.ok in
    let a = answer_to_joined c.args.export.now c.args.phase held c.args.piece.now c.join.new.held.items q.bytes n
    c.in_ok-first.first c.in_ok-first.ensures.joined q.holds in
    let past = passed_past c.args.export.now c.args.phase held (take n c.args.piece.now) q.bytes
    c.in_ok-first.first c.requires.awaited a c.in-More-2.is c.if-first-eq0.false in
    omega (arith, past, c.len-before.ensures)

pub overflow_sub-result : goal.overflow_sub-result
overflow_sub-result c =
    let held = c.args.held.now.items in
    let n = 65552 - length held in
    let q = c.in_ok-first.ensures.ok in
    let a = answer_to_joined c.args.export.now c.args.phase held c.args.piece.now c.join.new.held.items q.bytes n
    c.in_ok-first.first c.in_ok-first.ensures.joined q.holds in
    let past = ended_past c.args.export.now c.args.phase held (take n c.args.piece.now) q.bytes
    c.in_ok-first.first c.requires.awaited a (ends_not_more c.in_ok-first.first.next c.in-Transmit.is) in
    omega (arith, past, c.len-before.ensures)

pub returns-in-More-clause-ok : goal.returns-in-More-clause-ok
returns-in-More-clause-ok c =
    let held = c.args.held.now.items in
    let n = 65552 - length held in
    let q = c.in_ok-first.ensures.ok in
    let a = answer_to_joined c.args.export.now c.args.phase held c.args.piece.now c.join.new.held.items q.bytes n
    c.in_ok-first.first c.in_ok-first.ensures.joined q.holds in
    record {
      bytes = q.bytes;
      appended = q.appended;
      holds = subst (λ now. Reads (state c.args.export.now c.args.phase held) c.args.piece.now q.bytes
          (record { used = length c.args.piece.now; next = c.in_ok-first.first.next; phase = c.in_ok-first.first.phase }) now)
          (sym c.in_ok-first.ensures.joined)
          (nothing_whole c.args.export.now c.args.phase held c.args.piece.now q.bytes n
          c.in_ok-first.first (omega arith) a c.in-More.is c.if-first-eq0.true);
    }

pub returns-in-Ok-clause-ok : goal.returns-in-Ok-clause-ok
returns-in-Ok-clause-ok c =
    let held = c.args.held.now.items in
    let n = 65552 - length held in
    let before : c.len-before.result ≡ length held = omega (arith, c.len-before.ensures) in
    let q = c.in_ok-first.ensures.ok in
    let r = c.in-Ok.ensures.ok in
    let a = answer_to_joined c.args.export.now c.args.phase held c.args.piece.now c.join.new.held.items q.bytes n
    c.in_ok-first.first c.in_ok-first.ensures.joined q.holds in
    let second = subst (λ xs. Reads (state c.args.export.now c.in_ok-first.first.phase []) xs r.bytes
    c.in-Ok.second c.read_piece-in-More-2.new.held.items)
    (slice_is_rest c.args.piece.now (c.in_ok-first.first.used - c.len-before.result)
    ∙ ap (λ m. drop (c.in_ok-first.first.used - m) c.args.piece.now) before) r.holds in
    record {
      bytes = q.bytes ++ r.bytes;
      appended = appended_both c.args.out.now.items c.join.new.out.items c.read_piece-in-More-2.new.out.items q.bytes r.bytes
          q.appended r.appended;
      holds = subst (λ m. Reads (state c.args.export.now c.args.phase held) c.args.piece.now (q.bytes ++ r.bytes)
          (record { used = (c.in_ok-first.first.used - m) + c.in-Ok.second.used; next = c.in-Ok.second.next; phase = c.in-Ok.second.phase })
          c.read_piece-in-More-2.new.held.items)
          (sym before)
          (in_two_stages c.args.export.now c.args.phase held c.args.piece.now q.bytes r.bytes
          c.read_piece-in-More-2.new.held.items n c.in_ok-first.first c.in-Ok.second
          c.requires.awaited a c.in-More-2.is c.if-first-eq0.false second);
    }

pub returns-in-Transmit-clause-ok : goal.returns-in-Transmit-clause-ok
returns-in-Transmit-clause-ok c =
    let held = c.args.held.now.items in
    let n = 65552 - length held in
    let before : c.len-before.result ≡ length held = omega (arith, c.len-before.ensures) in
    let q = c.in_ok-first.ensures.ok in
    let a = answer_to_joined c.args.export.now c.args.phase held c.args.piece.now c.join.new.held.items q.bytes n
    c.in_ok-first.first c.in_ok-first.ensures.joined q.holds in
    let ended = ended_in_joined c.args.export.now c.args.phase held c.args.piece.now q.bytes n
    c.in_ok-first.first c.requires.awaited a (ends_not_more c.in_ok-first.first.next c.in-Transmit.is) in
    record {
      bytes = q.bytes;
      appended = q.appended;
      holds = subst (λ m. Reads (state c.args.export.now c.args.phase held) c.args.piece.now q.bytes
          (record { used = c.in_ok-first.first.used - m; next = c.in_ok-first.first.next; phase = c.in_ok-first.first.phase })
          c.new.result.items)
          (sym before)
          (subst (λ now. Reads (state c.args.export.now c.args.phase held) c.args.piece.now q.bytes
          (record { used = c.in_ok-first.first.used - length held; next = c.in_ok-first.first.next; phase = c.in_ok-first.first.phase }) now)
          (sym c.new.ensures.items) ended);
    }
