use Rattle.std.proofs.Common.{◌≡◌, ◌-◌, ℕ, [], ◌∷◌, ◌++◌, length, drop, ap, ◌∙◌, arith}
use Rattle.std.proofs.lemmas.List.{take_all}
use Rattle.nm_replay.specs.Heads.{entry_of, joined}
use Rattle.nm_replay.specs.Kept.{kept_with, last_kept}
use Rattle.nm_replay.proofs.Heads.{joined-kept, kept_of}
use Rattle.nm_replay.proofs.kept.Kept.push.Goals as goal

pub returns-clause-last : goal.returns-clause-last
returns-clause-last c =
    let hs = c.self.inside.heads.items in
    let bs = c.self.inside.bytes.items in
    let most : ℕ = c.self.inside.heads.capacity in
    let h = c.of.result in
    let b = c.args.entry.now.bytes.0 in
    let block : length b ≡ 512 = omega arith in
    ap (λ heads. kept_of heads.capacity (joined heads.items c.extend_from_slice.new.self.items)) c.push_back.ensures.items
    ∙ ap (λ es. kept_of most es) (ap (λ bytes. joined (drop (length (hs ++ h ∷ []) - most) (hs ++ h ∷ [])) bytes.items) c.extend_from_slice.ensures
    ∙ ap (λ n. joined (drop (length (hs ++ h ∷ []) - most) (hs ++ h ∷ [])) (drop (length (bs ++ b) - n) (bs ++ b))) c.self.invariant.0
    ∙ joined-kept most hs (h ∷ []) bs b c.self.invariant.2 (omega (arith, block))
    ∙ ap (λ x. last_kept most (joined hs bs ++ entry_of h x ∷ [])) (take_all 512 b (omega (arith, block)))
    ∙ ap (λ head. last_kept most (joined hs bs ++ entry_of head b ∷ [])) c.of.ensures)
    ∙ ap (λ k. kept_with (c.args.entry.now ∷ []) k.last) c.self.view_is
