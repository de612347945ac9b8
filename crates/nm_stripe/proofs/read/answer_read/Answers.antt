-- What was found is kept, and named.
use Rattle.std.proofs.Common.{arith, Bool, Ok, sym, subst}
use Rattle.nm_leg.specs.Leg.{blocks_of}
use Rattle.nm_stripe.specs.declared.read.Reading.TheVariants.{Value}
use Rattle.nm_stripe.specs.Ends.{EndsRead}
use Rattle.nm_stripe.proofs.ReadEndLemmas.{ends-found}
use Rattle.nm_stripe.proofs.read.answer_read.Goals as goal

pub overflow_add-block : goal.overflow_add-block
overflow_add-block g c = omega (arith, c.requires.run.some, c.requires.run.inside, c.requires.few)

pub returns-then-done : goal.returns-then-done
returns-then-done g c =
    let old = c.args.store.now in
    let new = c.keep_read-number.new.self in
    let bytes = c.args.bytes.now in
    record {
      ends = subst (λ (b : Bool). EndsRead b c.args.leg c.args.block (blocks_of bytes) old new (Ok (Value c.new-receipt.result))) (sym c.if-done.true)
          (ends-found old new c.args.leg c.args.block bytes c.new-receipt.result c.place.result c.keep_read-number.result c.keep_read-number.ensures.kept c.keep_read-number.ensures.number c.place.ensures c.new-receipt.ensures);
    }
