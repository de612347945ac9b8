use Rattle.nm_assemble.specs.Legs.{IsNameless}
use Rattle.nm_assemble.proofs.image_legs.named_leg.Given as goal

-- none of the legs so far is named
abbrev pub invariant-legs : goal.invariant-legs
invariant-legs l = IsNameless l.leg l.stripe l.image
