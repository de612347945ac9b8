-- One leg more is told, and the others stay.
use Rattle.std.proofs.Common.{arith, ◌∙◌}
use Rattle.std.proofs.lemmas.Bool.{cases_eq}
use Rattle.std.proofs.lemmas.List.{get_or-set_other, get_or-set_same, length-set}
use Rattle.nm_starts.proofs.renewed_ids.unknown_here.Goals as goal

pub legs-preserved : goal.legs-preserved
legs-preserved c = (
  length-set c.legs.unknown c.legs.leg c.is_unknown_here.result ∙ c.legs.invariant.0,
  λ leg below. grind (arith, cases_eq leg c.legs.leg, get_or-set_other, get_or-set_same),
)
