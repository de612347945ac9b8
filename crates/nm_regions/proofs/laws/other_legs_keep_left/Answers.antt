use Rattle.nm_regions.proofs.OutLaws.{out-keeps-left, replace-keeps-left, attach-keeps-left}
use Rattle.nm_regions.proofs.laws.other_legs_keep_left.Goals as goal

pub returns-clause-gone_out : goal.returns-clause-gone_out
returns-clause-gone_out c = out-keeps-left

pub returns-clause-replaced : goal.returns-clause-replaced
returns-clause-replaced c = replace-keeps-left

pub returns-clause-attached : goal.returns-clause-attached
returns-clause-attached c = attach-keeps-left
