-- Each field fits.
use Rattle.std.proofs.Common.{arith}
use Rattle.nm_saves.proofs.fitting.all_fit.Goals as goal

pub returns : goal.returns
returns c = record {
  fits = record {
    generation = c.names_fit.ensures.0;
    mirror = c.names_fit.ensures.1;
    blocks = omega arith;
    region_blocks = c.sizes_fit.ensures.0;
    span_regions = c.sizes_fit.ensures.1;
    leg_ids = record { size = omega arith; fit = c.table_fits.ensures.fit };
    seen = record { size = omega arith; fit = c.table_fits-2.ensures.fit };
    sets = c.sets_fit.ensures;
    lineages = record { size = omega arith; fit = c.table_fits-3.ensures.fit };
    forks = record { size = omega arith; fit = c.table_fits-4.ensures.fit };
    marked = c.marks_fit.ensures;
    identities = record { size = omega arith; fit = c.table_fits-5.ensures.fit };
    changed = record { size = omega arith; fit = c.table_fits-6.ensures.fit };
    version = c.version_fits.ensures;
  };
  bounds = c.requires;
}
