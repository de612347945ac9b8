-- What was cut is the first request.
use Rattle.std.proofs.Common.{◌≡◌, ℕ, ◌<◌, arith, ap, ◌∙◌, ◌+◌, take, drop}
use Rattle.std.proofs.lemmas.Bool.{false≢true}
use Rattle.nm_requests.proofs.FirstRequest.{starts_from_cut, payload_from_whole}
use Rattle.nm_requests.proofs.cutting.cut_first.Goals as goal

some_from : (n m : ℕ) → n ≡ m → (n ≡ 0 → ⊥) → 0 < m
some_from n m same some = omega arith

pub returns-in_err-payload-clause-memory : goal.returns-in_err-payload-clause-memory
returns-in_err-payload-clause-memory c _ =
    let has = rw c.in-Some.is at c.in_ok-head.ensures.whole in
    payload_from_whole c.args.index c.args.buffer.now.items c.in-Some.head has
    (some_from c.payload_len.result _ c.payload_len.ensures (λ e. false≢true
    (c.in_err-payload.ensures.empty e)))

pub returns-clause-request : goal.returns-clause-request
returns-clause-request c =
    let has = rw c.in-Some.is at c.in_ok-head.ensures.whole in
    starts_from_cut c.args.index c.args.buffer.now.items c.in_ok-payload.payload
    c.cut_payload.new.self.items c.in-Some.head has
    (c.in_ok-payload.ensures.payload ∙ ap (λ n. take n
    (drop 28 c.args.buffer.now.items)) c.payload_len.ensures)
    (c.in_ok-payload.ensures.rest ∙ ap (λ n. drop
    (28 + n) c.args.buffer.now.items) c.payload_len.ensures)
