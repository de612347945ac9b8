-- What a read gave follows what was read before.
use Rattle.std.proofs.Common.{length, sym, subst, ap, arith, length-append}
use Rattle.std.specs.Io.KnownBytes.{Consumes}
use Rattle.std.proofs.KnownBytes.{Consumes-trans}
use Rattle.nm_workers.proofs.reader.fill.Goals as goal

pub reads-preserved : goal.reads-preserved
reads-preserved g c =
    let read = c.in_ok-count.ensures.ok in
    record {
      gives = subst (Consumes (g.I.Read.remaining c.args.source.now)
          (g.I.Read.remaining c.read_from.new.from)) (sym read.2)
          (Consumes-trans (g.I.Read.remaining c.args.source.now)
          (g.I.Read.remaining c.reads.source) (g.I.Read.remaining c.read_from.new.from)
          c.reads.room.items read.0 c.reads.invariant.gives read.3);
      some = λ none. absurd (omega (
        arith,
        c.if-count-eq0.false,
        read.1,
        ap length read.2,
        length-append c.reads.room.items read.0,
        ap length none,
      ));
    }
