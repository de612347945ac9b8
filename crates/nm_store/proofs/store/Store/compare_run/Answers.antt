-- The master's run was read, or that failed; and one leg more is compared.
use Rattle.std.proofs.Common.{rules, ◌≡◌, ◌<◌, ℕ, Bool, true, false, length, is_ok, arith, sym, ◌∙◌, subst, add-one, refl}
use Rattle.nm_leg.specs.Leg.{blocks_in, blocks_of, leg_type}
use Rattle.nm_rules.specs.RunCalls.{ReadsRunAt}
use Rattle.nm_rules.specs.RunComparing.{ComparesLegsRun}
use Rattle.nm_rules.specs.Runs.{FitsRun}
use Rattle.nm_rules.specs.State.{StripeState}
use Rattle.nm_rules.proofs.LegLemmas.{calls-length}
use Rattle.nm_rules.proofs.RunCallLemmas.{length-blocks}
use Rattle.nm_store.specs.Comparing.{IsComparing}
use Rattle.nm_store.proofs.ComparingLemmas.{leg-comparing, leg-count, on-err, read-comparing}
use Rattle.nm_store.proofs.store.Store.compare_run.Goals as goal

pub returns-in_err-read_leg-clause-fails : goal.returns-in_err-read_leg-clause-fails
returns-in_err-read_leg-clause-fails g c =
    let type = leg_type g.L.LegPart.model g.L.LegPart.honest in
    let s = c.args.self.now in
    let found = blocks_of c.read_leg.new.into in
    let failed : is_ok c.read_leg.result ≡ false = search rules in
    let blocks : blocks_in c.read_leg.new.into ≡ blocks_in c.args.held.now = omega (arith, c.read_leg.ensures.long) in
    let long : length found ≡ blocks_in c.args.held.now = length-blocks c.read_leg.new.into ∙ blocks in
    on-err c.from_residual.result (record {
      found = found;
      fits = subst (λ (n : ℕ). FitsRun s.place c.args.block n) (sym long) c.requires.run;
      fails =
          subst (λ (leg : ℕ). ReadsRunAt type false leg c.args.block found s.legs c.read_leg.new.self.legs) c.master.ensures
          (subst (λ (b : Bool). ReadsRunAt type b c.master.result c.args.block found s.legs c.read_leg.new.self.legs) failed c.read_leg.ensures.reads);
    })

pub loop-leg-init : goal.loop-leg-init
loop-leg-init g c =
    let type = leg_type g.L.LegPart.model g.L.LegPart.honest in
    let s = c.args.self.now in
    record {
      compares = refl;
      comparing = subst (λ (s : StripeState _). IsComparing g.L.LegPart.model s) (sym c.read_leg.ensures.others)
          (read-comparing type (is_ok c.read_leg.result) c.master.result c.args.block s c.read_leg.new.self.legs (blocks_of c.read_leg.new.into) c.read_leg.ensures.reads c.requires.comparing);
      count = refl;
      place = refl;
      long = c.requires.long ∙ sym c.read_leg.ensures.long;
    }

pub loop-leg-preserved : goal.loop-leg-preserved
loop-leg-preserved g c =
    let type = leg_type g.L.LegPart.model g.L.LegPart.honest in
    let blocks = blocks_of c.read_leg.new.into in
    let so_far = c.loop-leg.invariant in
    let inside : c.loop-leg.leg < length c.loop-leg.self.legs = omega (arith, c.loop-leg-test.true, c.leg_count-leg-end.ensures, so_far.count) in
    let kept = leg-count type c.args.block blocks c.loop-leg.leg c.loop-leg.self c.compare_leg.new.self c.compare_leg.ensures.compares in
    record {
      compares = rw add-one (c.loop-leg.self, so_far.compares, c.compare_leg.ensures.compares);
      comparing = leg-comparing type c.args.block blocks c.loop-leg.leg c.loop-leg.self c.compare_leg.new.self inside so_far.comparing c.compare_leg.ensures.compares;
      count = kept.0 ∙ so_far.count;
      place = kept.1 ∙ so_far.place;
      long = c.compare_leg.ensures.long ∙ so_far.long;
    }

pub returns-clause-compares : goal.returns-clause-compares
returns-clause-compares g c =
    let type = leg_type g.L.LegPart.model g.L.LegPart.honest in
    let s = c.args.self.now in
    let legs = c.read_leg.new.self.legs in
    let found = blocks_of c.read_leg.new.into in
    let went_well : is_ok c.read_leg.result ≡ true = search rules in
    let blocks : blocks_in c.read_leg.new.into ≡ blocks_in c.args.held.now = omega (arith, c.read_leg.ensures.long) in
    let r = c.read_leg.ensures.reads in
    let count : length legs ≡ length s.legs = calls-length type.model s.legs legs c.master.result r.before r.after r.change in
    let last : c.loop-leg.leg ≡ length s.legs = omega (arith, c.loop-leg-test.false, c.loop-leg.auto.leg-end, c.leg_count-leg-end.ensures, count) in
    record {
      legs = legs;
      found = found;
      long = length-blocks c.read_leg.new.into ∙ blocks;
      reads =
          subst (λ (leg : ℕ). ReadsRunAt type true leg c.args.block found s.legs legs) c.master.ensures
          (subst (λ (b : Bool). ReadsRunAt type b c.master.result c.args.block found s.legs legs) went_well r);
      compares =
          subst (λ (n : ℕ). ComparesLegsRun type c.args.block found n (record s { legs = legs }) c.loop-leg.self) last
          (subst (λ (x : StripeState _). ComparesLegsRun type c.args.block found c.loop-leg.leg x c.loop-leg.self) c.read_leg.ensures.others c.loop-leg.invariant.compares);
    }
