-- New legs are all alike; a stripe of such legs may be opened.
use Rattle.std.proofs.Common.{◌≡◌, true, ℕ, ◌+◌, ◌-◌, ◌/◌, ◌<◌, ◌≤◌, ◌^◌, zero, suc, List, [], ◌∷◌, ◌++◌, length, Some, refl, sym, ap, subst, ◌∙◌, arith}
use Rattle.std.specs.List.{AllByRecursion, slice_get}
use Rattle.std.proofs.lemmas.List.{length-append, length-replicate}
use Rattle.std.proofs.lemmas.Option.{same_Some}
use Rattle.nm_leg.specs.Leg.{Leg, filled_array}
use Rattle.nm_leg.specs.LegCalls.{EachHas}
use Rattle.nm_script_lib.specs.PowerLeg.{of_power}
use Rattle.nm_script_lib.specs.declared.power_leg.PowerLeg.{PowerLeg}
use Rattle.nm_regions.specs.Sound.{AreSizes}
use Rattle.nm_resync.specs.Chunk.{IsChunkSize}
use Rattle.nm_rules.specs.declared.at.At.{At}
use Rattle.nm_rules.specs.Array.{contents_of}
use Rattle.nm_script_lib.specs.declared.mirror_line.MirrorLine.{MirrorLine}
use Rattle.nm_rules.specs.Opening.{has_bit}
use Rattle.nm_stripe.specs.Opening.{NamesALeg}
use Rattle.nm_script_lib.specs.MemStripe.{IsFilled, AreNewLegs, InRange, place_of}

pub at_place : {A : Type 0} (P : A → Type 0) (xs : List A) (k : ℕ) (x : A) → slice_get xs k ≡ Some x →
    AllByRecursion P xs → P x
at_place P [] k x h all = cc
at_place P (y ∷ xs) zero x h all = subst P (same_Some y x h) all.0
at_place P (y ∷ xs) (suc k) x h all = at_place P xs k x h all.1

all_more : {A : Type 0} (P : A → Type 0) (xs : List A) (x : A) → AllByRecursion P xs → P x →
    AllByRecursion P (xs ++ x ∷ [])
all_more P [] x all here = (here, tt)
all_more P (y ∷ xs) x all here = (all.0, all_more P xs x all.1 here)

-- the legs so far
pub record LegsSoFar (n blocks : ℕ) (legs : List PowerLeg) : Type 0 where
  pub count : length legs ≡ n
  pub zero : AllByRecursion (IsFilled blocks 0) legs

pub no_legs : (blocks : ℕ) (legs : List PowerLeg) → legs ≡ [] → LegsSoFar 0 blocks legs
no_legs blocks legs is = rw is (record { count = refl; zero = tt })

pub leg_more : (n blocks : ℕ) (old new : List PowerLeg) (leg : PowerLeg) →
    LegsSoFar n blocks old → IsFilled blocks 0 leg → new ≡ old ++ leg ∷ [] →
    LegsSoFar (n + 1) blocks new
leg_more n blocks old new leg so_far is e = rw e (record {
  count = length-append old (leg ∷ []) ∙ ap (λ k. k + 1) so_far.count;
  zero = all_more (IsFilled blocks 0) old leg so_far.zero is;
})

pub filled_length : (blocks fill : ℕ) (leg : PowerLeg) → IsFilled blocks fill leg →
    length (of_power leg).contents ≡ blocks
filled_length blocks fill leg is = ap (λ (l : Leg). length l.contents) is ∙ length-replicate blocks _

pub new_lengths : (m : MirrorLine) (legs : List PowerLeg) → AreNewLegs m legs →
    EachHas of_power legs m.blocks
new_lengths m legs are = λ place leg found.
    filled_length m.blocks 0 leg (at_place (IsFilled m.blocks 0) legs place leg found are.zero)

all_contents : (blocks k : ℕ) (legs : List PowerLeg) → k < length legs →
    AllByRecursion (IsFilled blocks 0) legs →
    contents_of of_power legs k ≡ filled_array blocks 0
all_contents blocks k [] h all = absurd (omega arith)
all_contents blocks zero (leg ∷ legs) h all = ap (λ (l : Leg). l.contents) all.0
all_contents blocks (suc k) (leg ∷ legs) h all = all_contents blocks k legs (omega arith) all.1

pub equal_legs : (m : MirrorLine) (legs : List PowerLeg) (leg other : ℕ) → AreNewLegs m legs →
    leg < length legs → other < length legs →
    contents_of of_power legs leg ≡ contents_of of_power legs other
equal_legs m legs leg other are h k =
    all_contents m.blocks leg legs h are.zero ∙ sym (all_contents m.blocks other legs k are.zero)

pub all_bits : (legs : ℕ) → 1 ≤ legs → legs ≤ 8 → 255 / 2 ^ (8 - legs) ≡ 2 ^ legs - 1
all_bits zero low high = absurd (omega arith)
all_bits (suc zero) low high = refl
all_bits (suc (suc zero)) low high = refl
all_bits (suc (suc (suc zero))) low high = refl
all_bits (suc (suc (suc (suc zero)))) low high = refl
all_bits (suc (suc (suc (suc (suc zero))))) low high = refl
all_bits (suc (suc (suc (suc (suc (suc zero)))))) low high = refl
all_bits (suc (suc (suc (suc (suc (suc (suc zero))))))) low high = refl
all_bits (suc (suc (suc (suc (suc (suc (suc (suc zero)))))))) low high = refl
all_bits (suc (suc (suc (suc (suc (suc (suc (suc (suc n))))))))) low high = absurd (omega arith)

first_bit : (legs : ℕ) → 1 ≤ legs → legs ≤ 8 → has_bit (2 ^ legs - 1) 0 ≡ true
first_bit zero low high = absurd (omega arith)
first_bit (suc zero) low high = refl
first_bit (suc (suc zero)) low high = refl
first_bit (suc (suc (suc zero))) low high = refl
first_bit (suc (suc (suc (suc zero)))) low high = refl
first_bit (suc (suc (suc (suc (suc zero))))) low high = refl
first_bit (suc (suc (suc (suc (suc (suc zero)))))) low high = refl
first_bit (suc (suc (suc (suc (suc (suc (suc zero))))))) low high = refl
first_bit (suc (suc (suc (suc (suc (suc (suc (suc zero)))))))) low high = refl
first_bit (suc (suc (suc (suc (suc (suc (suc (suc (suc n))))))))) low high = absurd (omega arith)

-- leg 0 is among the legs in sync
pub names_first : (bits legs count : ℕ) → 1 ≤ legs → legs ≤ 8 → bits ≡ 2 ^ legs - 1 →
    count ≡ legs → NamesALeg bits count
names_first bits legs count low high e c = record {
  leg = 0;
  inside = omega (arith, low, c);
  named = ap (λ b. has_bit b 0) e ∙ first_bit legs low high;
}

-- a stripe of this place and so many legs has a size that a stripe may have
pub sizes_fit : (m : MirrorLine) (place : At) (legs : ℕ) → InRange m → legs ≡ m.legs →
    place ≡ place_of m → AreSizes place.blocks place.region legs
sizes_fit m place legs range count is = rw is (record {
  some_blocks = range.blocks.0;
  most_blocks = omega (arith, range.blocks.1);
  some_region = range.region.0;
  most_region = range.region.1;
  some_legs = omega (arith, range.legs.0, count);
  most_legs = omega (arith, range.legs.1, count);
})

pub chunk_fits : (m : MirrorLine) (place : At) → InRange m → place ≡ place_of m →
    IsChunkSize place.chunk
chunk_fits m place range is =
    rw is (record { some = range.chunk.0; limit = omega (arith, range.chunk.1, range.region.1) })

-- legs as long as the mirror are as long as this place
pub place_lengths : (m : MirrorLine) (place : At) (legs : List PowerLeg) → place ≡ place_of m →
    EachHas of_power legs m.blocks → EachHas of_power legs place.blocks
place_lengths m place legs is each =
    subst (λ (p : At). EachHas of_power legs p.blocks) (sym is) each
