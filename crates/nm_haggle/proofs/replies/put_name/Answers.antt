use Rattle.std.proofs.Common.{◌≡◌, ◌+◌, ◌++◌, length, ap, ◌∙◌, subst}
use Rattle.nm_haggle.specs.Answer.{reply}
use Rattle.std.proofs.lemmas.List.{append_assoc}
use Rattle.nm_wire.specs.Number.{be}
use Rattle.nm_wire.specs.Layout.{option_reply_bytes}
use Rattle.nm_wire.specs.declared.reply_kind.ReplyKind.TheVariants.{Server}
use Rattle.nm_haggle.proofs.ReplyBytes.{head_for, reply_from, length-name}
use Rattle.nm_haggle.proofs.replies.put_name.Goals as goal

pub returns-clause-ok : goal.returns-clause-ok
returns-clause-ok c =
    let name = c.as_bytes-name.result.now in
    let out = c.args.out.now.items in
    let made : c.extend_from_slice.new.self.items ≡ out ++ reply c.args.option Server (be 4 (length name) ++ name) =
    c.in_ok-extend_from_slice.ensures.items
    ∙ ap (λ xs. xs ++ name) (c.in_ok-put_u32.ensures.ok ∙ ap (λ xs. xs ++ be 4 (length name)) c.in_ok-put_head.ensures.ok)
    ∙ append_assoc (out ++ option_reply_bytes (head_for c.args.option Server (4 + length name))) (be 4 (length name)) name
    ∙ reply_from c.args.option Server (4 + length name) out (be 4 (length name) ++ name) (length-name name) in
    subst (λ n. c.extend_from_slice.new.self.items ≡ out ++ reply c.args.option Server (be 4 (length n) ++ n)) c.as_bytes-name.ensures made
