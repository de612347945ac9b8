-- So far pieces were read and sent.
use Rattle.nm_workers.specs.Reading.{ReadsFurther}
use Rattle.nm_workers.proofs.reader.read_pieces.Given as goal

abbrev pub invariant-permits : goal.invariant-permits
invariant-permits g l = record {
  reads : ReadsFurther g.I.Read.remaining l.fn.reader l.reader;
}
