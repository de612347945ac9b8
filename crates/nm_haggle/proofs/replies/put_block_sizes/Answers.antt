use Rattle.std.proofs.Common.{List, ℕ, ◌≡◌, ◌++◌, ap, ◌∙◌}
use Rattle.std.proofs.lemmas.List.{append_assoc}
use Rattle.nm_wire.specs.Number.{be}
use Rattle.nm_wire.specs.Layout.{option_reply_bytes}
use Rattle.nm_wire.specs.Sizes.{min_block, preferred_block, max_payload}
use Rattle.nm_wire.specs.InfoKind.{info_number}
use Rattle.nm_wire.specs.declared.info_kind.InfoKind.TheVariants.{BlockSize}
use Rattle.nm_wire.specs.declared.reply_kind.ReplyKind.TheVariants.{Info}
use Rattle.nm_haggle.specs.Answer.{block_sizes}
use Rattle.nm_haggle.proofs.ReplyBytes.{head_for, reply_from, length-block_sizes}
use Rattle.nm_haggle.proofs.replies.put_block_sizes.Goals as goal

-- four lists appended one after the other are one list appended
regroup : (before a b c d : List ℕ) → (((before ++ a) ++ b) ++ c) ++ d ≡ before ++ (a ++ b ++ c ++ d)
regroup before a b c d = simp append_assoc

pub returns-clause-ok : goal.returns-clause-ok
returns-clause-ok c =
    c.in_ok-put_u32-3.ensures.ok
    ∙ ap (λ xs. xs ++ be 4 max_payload) (c.in_ok-put_u32-2.ensures.ok
    ∙ ap (λ xs. xs ++ be 4 preferred_block) (c.in_ok-put_u32.ensures.ok
    ∙ ap (λ xs. xs ++ be 4 min_block) (c.in_ok-put_u16.ensures.ok
    ∙ ap (λ n. c.put_head.new.out.items ++ be 2 n) c.number.ensures
    ∙ ap (λ xs. xs ++ be 2 (info_number BlockSize)) c.in_ok-put_head.ensures.ok)))
    ∙ regroup (c.args.out.now.items ++ option_reply_bytes (head_for c.args.option Info 14))
    (be 2 (info_number BlockSize)) (be 4 min_block) (be 4 preferred_block) (be 4 max_payload)
    ∙ reply_from c.args.option Info 14 c.args.out.now.items block_sizes length-block_sizes
