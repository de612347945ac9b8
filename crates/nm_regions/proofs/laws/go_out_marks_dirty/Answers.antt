use Rattle.nm_regions.proofs.OutLaws.{out-marks-dirty}
use Rattle.nm_regions.proofs.laws.go_out_marks_dirty.Goals as goal

pub returns : goal.returns
returns c = out-marks-dirty
