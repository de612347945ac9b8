-- Of all legs they are those that are not here.
use Rattle.std.proofs.Common.{List, Bool, not, ◌&&◌, ap, ◌∙◌}
use Rattle.nm_geometry.specs.LegSets.{has, legs_where}
use Rattle.nm_starts.proofs.kept.absent_legs.Goals as goal

pub returns : goal.returns
returns c =
    c.without.ensures
    ∙ ap (λ (all : List Bool). legs_where (λ leg. has leg all && not (has leg c.args.here.now))) c.of.ensures
