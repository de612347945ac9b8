use Rattle.std.proofs.Common.{◌++◌, ap, ◌∙◌}
use Rattle.std.proofs.lemmas.List.{append_assoc}
use Rattle.nm_wire.specs.Number.{be}
use Rattle.nm_wire.specs.Layout.{option_reply_bytes}
use Rattle.nm_wire.specs.InfoKind.{info_number}
use Rattle.nm_wire.specs.declared.info_kind.InfoKind.TheVariants as info
use Rattle.nm_wire.specs.declared.reply_kind.ReplyKind.TheVariants.{Info}
use Rattle.nm_haggle.specs.Answer.{export_information, size_and_flags}
use Rattle.nm_haggle.proofs.ReplyBytes.{head_for, reply_from, length-export_information}
use Rattle.nm_haggle.proofs.replies.put_export_information.Goals as goal

pub returns-clause-ok : goal.returns-clause-ok
returns-clause-ok c =
    c.in_ok-put_size_and_flags.ensures.ok
    ∙ ap (λ xs. xs ++ size_and_flags c.args.export.now) (c.in_ok-put_u16.ensures.ok
    ∙ ap (λ n. c.put_head.new.out.items ++ be 2 n) c.number.ensures
    ∙ ap (λ xs. xs ++ be 2 (info_number info.Export)) c.in_ok-put_head.ensures.ok)
    ∙ append_assoc (c.args.out.now.items ++ option_reply_bytes (head_for c.args.option Info 12)) (be 2 (info_number info.Export)) (size_and_flags c.args.export.now)
    ∙ reply_from c.args.option Info 12 c.args.out.now.items (export_information c.args.export.now) (length-export_information c.args.export.now)
