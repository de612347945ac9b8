-- The leg was read: it failed, or holds the same run, or another.
use Rattle.std.proofs.Common.{rules, ◌≡◌, ◌≢◌, ℕ, List, length, true, false, is_ok, arith, ap, sym, ◌∙◌}
use Rattle.nm_choice.specs.declared.leg_state.LegState.{LegState}
use Rattle.nm_leg.specs.Leg.{blocks_in, blocks_of, cut_into, leg_type}
use Rattle.nm_rules.specs.State.{is_joining, leg_state}
use Rattle.nm_rules.proofs.RunCallLemmas.{length-blocks}
use Rattle.nm_store.proofs.ComparingLemmas.{cut-same, fails-read, holds-other, holds-same}
use Rattle.nm_store.proofs.store.Store.compare_leg.Goals as goal

pub read_leg-requires-clause-run : goal.read_leg-requires-clause-run
read_leg-requires-clause-run g c leg there =
    let long = c.requires.comparing.lengths c.args.leg leg there in
    record {
      some = omega (arith, c.requires.long, c.requires.whole, c.requires.run.some);
      whole = omega (arith, c.requires.long, c.requires.whole);
      inside = omega (arith, long, c.requires.long, c.requires.run.inside);
    }

pub returns-then-is_err-clause-compares : goal.returns-then-is_err-clause-compares
returns-then-is_err-clause-compares g c =
    let joins : is_joining (leg_state c.args.leg c.args.self.now) ≡ true =
    ap (λ (st : LegState). is_joining st) (sym c.state.ensures) ∙ sym c.is_joining.ensures ∙ c.if-not-is_joining.false in
    let failed : is_ok c.read_leg.result ≡ false = search rules in
    fails-read (leg_type g.L.LegPart.model g.L.LegPart.honest) c.args.leg c.args.block (blocks_of c.args.held.now) (blocks_of c.read_leg.new.into) c.args.self.now c.read_leg.new.self c.drop_out.new.self joins (is_ok c.read_leg.result) c.read_leg.ensures.reads c.read_leg.ensures.others failed c.drop_out.ensures

pub returns-then-eq-clause-compares : goal.returns-then-eq-clause-compares
returns-then-eq-clause-compares g c =
    let joins : is_joining (leg_state c.args.leg c.args.self.now) ≡ true =
    ap (λ (st : LegState). is_joining st) (sym c.state.ensures) ∙ sym c.is_joining.ensures ∙ c.if-not-is_joining.false in
    let went_well : is_ok c.read_leg.result ≡ true = search rules in
    let same : c.read_leg.new.into ≡ c.args.held.now = search rules in
    holds-same (leg_type g.L.LegPart.model g.L.LegPart.honest) c.args.leg c.args.block (blocks_of c.args.held.now) (blocks_of c.read_leg.new.into) c.args.self.now c.read_leg.new.self c.read_leg.new.self joins (is_ok c.read_leg.result) c.read_leg.ensures.reads c.read_leg.ensures.others went_well (ap (λ (bs : List ℕ). blocks_of bs) same)

pub returns-clause-compares : goal.returns-clause-compares
returns-clause-compares g c =
    let joins : is_joining (leg_state c.args.leg c.args.self.now) ≡ true =
    ap (λ (st : LegState). is_joining st) (sym c.state.ensures) ∙ sym c.is_joining.ensures ∙ c.if-not-is_joining.false in
    let went_well : is_ok c.read_leg.result ≡ true = search rules in
    let differs : c.read_leg.new.into ≢ c.args.held.now = search rules in
    let xs = c.read_leg.new.into in
    let ys = c.args.held.now in
    let as_long : length xs ≡ length ys = c.read_leg.ensures.long ∙ c.requires.long in
    let count : blocks_in xs ≡ blocks_in ys = omega (arith, as_long) in
    let long : length (blocks_of xs) ≡ length (blocks_of ys) = length-blocks xs ∙ count ∙ sym (length-blocks ys) in
    let other : blocks_of xs ≢ blocks_of ys = λ same. differs (cut-same (blocks_in ys) xs ys (as_long ∙ c.requires.whole) c.requires.whole (ap (λ (n : ℕ). cut_into n xs) (sym count) ∙ same)) in
    holds-other (leg_type g.L.LegPart.model g.L.LegPart.honest) c.args.leg c.args.block (blocks_of ys) (blocks_of xs) c.args.self.now c.read_leg.new.self c.mark_at.new.self joins (is_ok c.read_leg.result) c.read_leg.ensures.reads c.read_leg.ensures.others went_well long other c.mark_at.ensures
