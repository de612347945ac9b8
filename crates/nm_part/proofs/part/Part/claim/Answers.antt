-- A refused claim is explained by no events, and leaves the stripe as it was.
use Rattle.nm_part.proofs.AskLemmas.{claim-acts}
use Rattle.nm_part.proofs.part.Part.claim.Goals as goal

pub returns-in_default-clause-acts : goal.returns-in_default-clause-acts
returns-in_default-clause-acts g c =
    λ honest. claim-acts g.L.LegPart.model c.args.stripe.now c.claim-claimed.new.self c.args.ticket c.claim-claimed.result (c.claim-claimed.ensures.acts honest) c.sound.ensures.kept c.claim-claimed.ensures.stays
