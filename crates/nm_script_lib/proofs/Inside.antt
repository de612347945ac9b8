-- The steps of a script name blocks and legs of its stripe, before and after each step.
use Rattle.std.proofs.Common.{◌≡◌, ℕ, ◌*◌, ◌/◌, ◌<◌, ◌≤◌, zero, suc, List, [], ◌∷◌, length, take, replicate, get_or, Option, Some, None, refl, sym, ap, subst, ◌∙◌, arith}
use Rattle.std.specs.List.{AllByRecursion, AllZip}
use Rattle.std.proofs.Math.Nat.{mod-lt}
use Rattle.std.proofs.lemmas.List.{length-replicate, take-replicate}
use Rattle.nm_rules.specs.Runs.{FitsRun}
use Rattle.nm_fanout.specs.declared.block_data.Data.{Data}
use Rattle.nm_fanout.specs.declared.block_data.Data.TheVariants.{Part}
use Rattle.nm_leg.specs.Leg.{Leg}
use Rattle.nm_script_lib.specs.PowerLeg.{of_power, power_legs}
use Rattle.nm_script_lib.specs.declared.power_leg.PowerLeg.{PowerLeg}
use Rattle.nm_stripe.specs.declared.answer.Answer.{Answer}
use Rattle.nm_stripe.specs.declared.step.Step.{Step as MachineStep}
use Rattle.nm_stripe.specs.declared.step.Step.TheVariants.{Replace as ReplaceStep}
use Rattle.nm_stripe.specs.Run.{MayBeAsked, StepOf}
use Rattle.nm_stripe.proofs.RunLemmas.{step-shape}
use Rattle.nm_script_lib.specs.declared.load.Load.{Load}
use Rattle.nm_script_lib.specs.declared.mirror_line.MirrorLine.{MirrorLine}
use Rattle.nm_script_lib.specs.declared.step.Step.{Step}
use Rattle.nm_script_lib.specs.declared.step.Step.TheVariants.{Ask}
use Rattle.nm_script_lib.specs.declared.step.StripeStep.{StripeStep}
use Rattle.nm_script_lib.specs.declared.step.StripeStep.TheVariants.{Begin, Zero, Patch, Push, Claim, Read, Run, Get, Fail, Attach, Return, Replace, Copy, Promote, Sync, Flush}
use Rattle.nm_script_lib.specs.Forms.{IsLine}
use Rattle.nm_script_lib.specs.Grammar.{IsStepLine, IsOpening, IsScript, load_form, start_form, mirror_form, step_form, patch_args, run_args, get_args, run_form, leg_form, look_form, most_run}
use Rattle.nm_script_lib.specs.MemStripe.{MemStripe, InRange, FitsLoad, FitOpening, IsNew, IsOpened, HasShape, IsInside, IsAsked, IsReplacement, filled, filled_block, place_of}
use Rattle.nm_script_lib.proofs.FormLaws.{Always, line_always}
use Rattle.nm_script_lib.proofs.Legs.{new_lengths}
use Rattle.nm_script_lib.proofs.Loaded.{compared_shape}
use Rattle.nm_script_lib.proofs.StepLengths.{step_lengths}

pub at_place : {A : Type 0} (P : A → Type 0) (xs : List A) (k : ℕ) (d : A) → k < length xs →
    AllByRecursion P xs → P (get_or xs k d)
at_place P [] k d h all = absurd (omega arith)
at_place P (x ∷ xs) zero d h all = all.0
at_place P (x ∷ xs) (suc k) d h all = at_place P xs k d (omega arith) all.1

-- a new stripe has the mirror's shape
pub new_shape : (m : MirrorLine) (stripe : MemStripe) → InRange m → IsNew m stripe →
    HasShape m stripe
new_shape m stripe range is = record {
  region = omega (arith, range.region.0);
  sizes = (range.legs.1, range.blocks.1);
  place = ap (λ (s : MemStripe). s.place) is.state;
  legs = is.legs.count;
  each = new_lengths m stripe.legs is.legs;
}

-- and so has each stripe that a script opens
pub opened_shape : (m : MirrorLine) (loads : List Load) (master : Option ℕ) (stripe : MemStripe) →
    InRange m → FitOpening m loads master → IsOpened m loads master stripe → HasShape m stripe
opened_shape m loads None stripe range fits is = new_shape m stripe range is
opened_shape m loads (Some master) stripe range fits is =
    compared_shape m loads is.0 master stripe range is.1 fits.1 is.2

fills_block : (fill : ℕ) → length (filled_block fill) ≡ 512
unfolding filled_block
fills_block fill = length-replicate 512 fill

-- the front of a block of one byte
pub cut_filled : (start len fill : ℕ) (whole bytes : List ℕ) → len ≤ 512 →
    whole ≡ filled_block fill → bytes ≡ take len whole →
    Part start bytes ≡ Part start (replicate len fill)
unfolding filled_block
cut_filled start len fill whole bytes few is cut =
    ap (λ (xs : List ℕ). let made : Data = Part start xs in made)
    (cut ∙ (ap (λ xs. take len xs) is ∙ take-replicate len 512 fill few))

-- a block is a run of one
one_fits : (m : MirrorLine) (block : ℕ) → 0 < m.region → block < m.blocks →
    FitsRun (place_of m) block 1
one_fits m block some low = record {
  some = omega arith;
  most = omega arith;
  inside = omega (arith, low);
  one_region = omega (arith, mod-lt block some);
}

-- the bytes of so many blocks are theirs
filled_count : (count fill : ℕ) → length (filled count fill) / 512 ≡ count
unfolding filled
filled_count count fill = ap (λ n. n / 512) (length-replicate (512 * count) fill) ∙ omega arith

filled_length_is : (count fill : ℕ) → length (filled count fill) ≡ 512 * count
unfolding filled
filled_length_is count fill = length-replicate (512 * count) fill

filled_whole : (count fill : ℕ) →
    length (filled count fill) ≡ 512 * (length (filled count fill) / 512)
filled_whole count fill = filled_length_is count fill
    ∙ ap (λ n. 512 * n) (sym (filled_count count fill))

-- so they are room for a read of them
room_fits : (m : MirrorLine) (block count : ℕ) → FitsRun (place_of m) block count →
    FitsRun (place_of m) block (length (filled count 0) / 512)
room_fits m block count fits =
    subst (λ (n : ℕ). FitsRun (place_of m) block n) (sym (filled_count count 0)) fits

-- a leg to put in another's place is as long as the mirror
replacement_length : (m : MirrorLine) (fill : ℕ) (part : PowerLeg) → IsReplacement m fill part →
    length (of_power part).contents ≡ m.blocks
replacement_length m fill part is =
    ap (λ (l : Leg). length l.contents) is ∙ length-replicate m.blocks _

-- what a step inside the mirror asks of the stripe may be asked
pub may_ask : (m : MirrorLine) (step : StripeStep) (asked : MachineStep PowerLeg) (stripe : MemStripe) →
    HasShape m stripe → IsInside m (Ask step) → IsAsked m step asked →
    MayBeAsked of_power stripe asked
may_ask m (Begin block fill) asked stripe has inside is =
    let one : length (filled_block fill) / 512 ≡ 1 = ap (λ n. n / 512) (fills_block fill) in
    rw (is, has.place) (
      subst (λ (n : ℕ). FitsRun (place_of m) block n) (sym one) (one_fits m block has.region inside),
      record {
        some = omega (arith, one);
        most = omega (arith, one);
        whole = fills_block fill ∙ ap (λ n. 512 * n) (sym one);
      },
    )
may_ask m (Zero block) asked stripe has inside is =
    rw (is, has.place) (one_fits m block has.region inside, (omega arith, omega arith))
may_ask m (Patch block start len fill) asked stripe has inside is =
    let size : length (replicate len fill) ≡ len = length-replicate len fill in
    rw (is, has.place) (
      one_fits m block has.region inside.0,
      (omega (arith, inside.1, size), omega (arith, inside.2, size)),
    )
may_ask m (Push ticket leg) asked stripe has inside is = rw (is, has.legs) inside
may_ask m (Claim ticket) asked stripe has inside is = rw is tt
may_ask m (Read block) asked stripe has inside is =
    rw (is, has.place)
    (room_fits m block 1 (one_fits m block has.region inside), filled_whole 1 0)
may_ask m (Run block count fill) asked stripe has inside is =
    rw (is, has.place) (
      subst (λ (n : ℕ). FitsRun (place_of m) block n) (sym (filled_count count fill)) inside,
      record {
        some = omega (arith, inside.some, filled_count count fill);
        most = omega (arith, inside.most, filled_count count fill);
        whole = filled_whole count fill;
      },
    )
may_ask m (Get block count) asked stripe has inside is =
    rw (is, has.place) (room_fits m block count inside, filled_whole count 0)
may_ask m (Fail leg) asked stripe has inside is = rw (is, has.legs) inside
may_ask m (Attach leg) asked stripe has inside is = rw (is, has.legs) inside
may_ask m (Return leg) asked stripe has inside is = rw (is, has.legs) (inside, omega arith)
may_ask m (Copy leg most) asked stripe has inside is = rw (is, has.legs) inside
may_ask m (Promote leg) asked stripe has inside is = rw (is, has.legs) inside
may_ask m (Sync leg) asked stripe has inside is = rw (is, has.legs) inside
may_ask m (Flush leg) asked stripe has inside is = rw (is, has.legs) inside
may_ask m (Replace leg fill) asked stripe has inside is =
    rw (is.2, has.legs, has.place) (inside, replacement_length m fill is.0 is.1)

pub replacement_asked : (m : MirrorLine) (step : StripeStep) (leg fill : ℕ) (part : PowerLeg) →
    step ≡ Replace leg fill → IsReplacement m fill part →
    IsAsked m step (ReplaceStep leg part)
replacement_asked m step leg fill part is filled =
    subst (λ s. IsAsked m s (ReplaceStep leg part)) (sym is) (part, filled, refl)

-- a step keeps the mirror's shape
pub keeps_shape : (m : MirrorLine) (asked : MachineStep PowerLeg) (answer : Answer PowerLeg)
    (old new : MemStripe) → HasShape m old → MayBeAsked of_power old asked →
    StepOf power_legs asked answer old new → HasShape m new
keeps_shape m asked answer old new has may is =
    let shape = step-shape power_legs asked answer old new is in
    record {
      region = has.region;
      sizes = has.sizes;
      place = shape.place ∙ has.place;
      legs = shape.legs ∙ has.legs;
      each = step_lengths m.blocks asked answer old new (ap (λ at. at.blocks) has.place) may is has.each;
    }

-- each step that a line can say is inside the mirror
looks_fit : (m : MirrorLine) → Always (IsInside m) (look_form m)
unfolding look_form
looks_fit m = (
  (λ leg small call most. (small, omega (arith, most.0))),
  ((λ leg small block low. (small, low)), ((λ leg small. small), (tt, tt))),
)

leg_steps_fit : (m : MirrorLine) → Always (IsInside m) (leg_form m)
unfolding leg_form
leg_steps_fit m = (
  (λ leg small. small),
  (
    (λ leg small. small),
    (
      (λ leg small. small),
      (
        (λ leg small fill byte. small),
        (
          (λ leg small. (small, omega arith)),
          (
            (λ leg small most within. (small, omega (arith, within.0))),
            ((λ leg small. small), ((λ leg small. small), ((λ leg small. small), looks_fit m))),
          ),
        ),
      ),
    ),
  ),
)

patch_fits : (m : MirrorLine) → Always (IsInside m) (patch_args m)
unfolding patch_args
patch_fits m = λ block low start small len within fill byte. (low, omega (arith, within.0), omega (arith, within.1, small))

-- a run that ends with its region does not leave it
run_fits : (m : MirrorLine) (block count : ℕ) → block < m.blocks → 1 ≤ count
    → count ≤ most_run m block → FitsRun (place_of m) block count
run_fits m block count low some most = record {
  some = omega (arith, some);
  most = omega (arith, most);
  inside = omega (arith, most, low);
  one_region = omega (arith, most, some);
}

run_args_fit : (m : MirrorLine) → Always (IsInside m) (run_args m)
unfolding run_args
run_args_fit m =
    λ block low count within fill byte. run_fits m block count low within.0 within.1

get_args_fit : (m : MirrorLine) → Always (IsInside m) (get_args m)
unfolding get_args
get_args_fit m = λ block low count within. run_fits m block count low within.0 within.1

run_steps_fit : (m : MirrorLine) → Always (IsInside m) (run_form m)
unfolding run_form
run_steps_fit m = (run_args_fit m, (get_args_fit m, leg_steps_fit m))

steps_fit : (m : MirrorLine) → Always (IsInside m) (step_form m)
unfolding step_form
steps_fit m = (
  (λ block small fill byte. small),
  (
    (λ block small. small),
    (
      patch_fits m,
      (
        (λ ticket any leg small. small),
        ((λ ticket any. tt), ((λ block small. small), run_steps_fit m)),
      ),
    ),
  ),
)

all_fit : (m : MirrorLine) (others : List (List ℕ)) (steps : List Step) →
    AllZip (IsStepLine m) others steps → AllByRecursion (IsInside m) steps
all_fit m [] [] h = tt
all_fit m [] (s ∷ steps) h = absurd h
all_fit m (line ∷ others) [] h = absurd h
all_fit m (line ∷ others) (s ∷ steps) h = (
  line_always (IsInside m) (step_form m) line s (steps_fit m) h.0,
  all_fit m others steps h.1,
)

pub script_fits : (text : List ℕ) (m : MirrorLine) (loads : List Load) (master : Option ℕ)
    (steps : List Step) → IsScript text m loads master steps → AllByRecursion (IsInside m) steps
script_fits text m loads master steps h = all_fit m h.others steps h.each_step

-- each load that a line can say is inside the mirror, and so is each start
load_fits : (m : MirrorLine) → Always (FitsLoad m) (load_form m)
load_fits m = ((λ leg small block low fill byte. (small, low)), tt)

loads_fit : (m : MirrorLine) (before : List (List ℕ)) (loads : List Load) →
    AllZip (λ line load. IsLine (load_form m) line load) before loads →
    AllByRecursion (FitsLoad m) loads
loads_fit m [] [] h = tt
loads_fit m [] (l ∷ loads) h = absurd h
loads_fit m (line ∷ before) [] h = absurd h
loads_fit m (line ∷ before) (l ∷ loads) h = (
  line_always (FitsLoad m) (load_form m) line l (load_fits m) h.0,
  loads_fit m before loads h.1,
)

opening_inside : (m : MirrorLine) (opening : List (List ℕ)) (loads : List Load) (master : Option ℕ) →
    IsOpening m opening loads master → FitOpening m loads master
opening_inside m opening loads None o = rw o.1 tt
opening_inside m opening loads (Some master) o = (
  loads_fit m o.0 loads o.3,
  line_always (λ leg. leg < m.legs) (start_form m) o.1 master ((λ leg small. small), tt) o.4,
)

pub opening_fits : (text : List ℕ) (m : MirrorLine) (loads : List Load) (master : Option ℕ)
    (steps : List Step) → IsScript text m loads master steps → FitOpening m loads master
opening_fits text m loads master steps h = opening_inside m h.opening loads master h.opens

mirror_ranges : Always InRange mirror_form
mirror_ranges = (
  (λ legs l blocks b region r chunk c policy first f.
      record { legs = l; blocks = b; region = r; chunk = c; first = f.1 }),
  tt,
)

pub script_in_range : (text : List ℕ) (m : MirrorLine) (loads : List Load) (master : Option ℕ)
    (steps : List Step) → IsScript text m loads master steps → InRange m
script_in_range text m loads master steps h =
    line_always InRange mirror_form h.first m mirror_ranges h.mirror
