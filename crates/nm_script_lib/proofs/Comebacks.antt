-- A leg that lost power comes back as what is left of it: that differs only where it was not synced.
use Rattle.std.proofs.Common.{◌≡◌, ⊎_elim, ℕ, ◌/◌, ◌<◌, ◌≤◌, Bool, true, false, get_or, List, [], ◌∷◌, Option, Some, length, length-set, sym, ap, subst, ◌∙◌, arith}
use Rattle.std.specs.List.{slice_get}
use Rattle.std.proofs.Math.Nat.{div-eq_of_lt, div-le_self}
use Rattle.std.proofs.lemmas.Bool.{cases_lt}
use Rattle.std.proofs.lemmas.Option.{slice_get-get_or, slice_get_past}
use Rattle.nm_replay.specs.declared.block.Block.{Block}
use Rattle.nm_rules.specs.Array.{contents_at}
use Rattle.nm_leg.specs.LegCalls.{EachHas}
use Rattle.nm_rules.specs.Losing.{CoversLoss, LosesPower, ReturnsLost}
use Rattle.nm_rules.specs.Reopening.{is_in_marked}
use Rattle.nm_rules.specs.State.{is_out, leg_state}
use Rattle.nm_rules.specs.Unsynced.{unsynced_at}
use Rattle.nm_script_lib.specs.declared.mirror_line.MirrorLine.{MirrorLine}
use Rattle.nm_script_lib.specs.declared.power_leg.PowerLeg.{PowerLeg}
use Rattle.nm_script_lib.specs.MemStripe.{MemStripe, HasShape, everywhere}
use Rattle.nm_script_lib.specs.Power.{IsLeft}
use Rattle.nm_script_lib.specs.PowerLeg.{of_power}
use Rattle.nm_script_lib.proofs.StepLengths.{set_long}

-- where it has no mark it is as it was
pub kept-there : (held part : PowerLeg) → IsLeft (of_power held) (of_power part) → (block : ℕ) → get_or (of_power held).unsynced block false ≡ false
    → slice_get (of_power part).contents block ≡ slice_get (of_power held).contents block
kept-there held part is block none =
    ap (λ (xs : List Block). slice_get xs block) is.contents
    ∙ ⊎_elim
    (λ inside. held.elsewhere block (slice_get-get_or (of_power held).unsynced block false inside ∙ ap (λ (b : Bool). Some b) none))
    (λ past. slice_get_past (of_power held).durable block (omega (arith, past, held.marked_each, held.same_length)) ∙ sym (slice_get_past (of_power held).contents block (omega (arith, past, held.marked_each))))
    (cases_lt block (length (of_power held).unsynced))

module _ (m : MirrorLine) (stripe : MemStripe) (leg : ℕ) (held part : PowerLeg) (has : HasShape m stripe) (at : slice_get stripe.legs leg ≡ Some held) (is : IsLeft (of_power held) (of_power part)) where
  abbrev same_held : contents_at of_power (slice_get stripe.legs leg) ≡ (of_power held).contents
  same_held = ap (λ (o : Option PowerLeg). contents_at of_power o) at

  pub part-long : length (of_power part).contents ≡ m.blocks
  part-long = ap (λ (xs : List Block). length xs) is.contents ∙ held.same_length ∙ has.each leg held at

  -- a loss of its power leaves this of it
  pub left-loses : is_out (leg_state leg stripe) ≡ true → LosesPower of_power stripe leg part
  left-loses out =
      let same_marks : unsynced_at of_power (slice_get stripe.legs leg) ≡ (of_power held).unsynced = ap (λ (o : Option PowerLeg). unsynced_at of_power o) at in
      record {
        out = out;
        long = part-long ∙ sym (has.each leg held at) ∙ sym (ap (λ (xs : List Block). length xs) same_held);
        marks = is.unsynced ∙ sym same_marks;
        kept = λ block clear none.
            kept-there held part is block (sym (ap (λ (flags : List Bool). get_or flags block false) same_marks) ∙ none)
            ∙ sym (ap (λ (xs : List Block). slice_get xs block) same_held);
      }

  all-marked : (block : ℕ) → block < m.blocks → is_in_marked everywhere (block / stripe.place.region) ≡ true
  all-marked block low =
      let less : block / stripe.place.region ≤ block = div-le_self block stripe.place.region in
      let region : block / stripe.place.region < 65536 = omega (arith, low, less, has.sizes.1) in
      ap (λ (n : ℕ). get_or (true ∷ []) n false) (div-eq_of_lt region)

  -- and what it lost lies in the one span
  pub left-covered : CoversLoss of_power stripe leg part everywhere
  left-covered = λ block clear unmarked. ⊎_elim
      (λ inside. absurd (let both : true ≡ false = sym (all-marked block inside) ∙ unmarked in cc))
      (λ past.
      slice_get_past (of_power part).contents block (omega (arith, past, part-long))
      ∙ sym (ap (λ (xs : List Block). slice_get xs block) same_held ∙ slice_get_past (of_power held).contents block (omega (arith, past, has.each leg held at))))
      (cases_lt block m.blocks)

  -- once it is back the stripe has its shape
  pub back-shape : (new : MemStripe) → leg < m.legs → ReturnsLost of_power stripe new leg part everywhere → HasShape m new
  back-shape new inside returns =
      let there : leg < length stripe.legs = omega (arith, inside, has.legs) in
      record {
        region = has.region;
        sizes = has.sizes;
        place = ap (λ (s : MemStripe). s.place) returns.returns.after ∙ has.place;
        legs = ap (λ (s : MemStripe). length s.legs) returns.returns.after ∙ length-set stripe.legs leg part ∙ has.legs;
        each = subst (λ (legs : List PowerLeg). EachHas of_power legs m.blocks) (sym (ap (λ (s : MemStripe). s.legs) returns.returns.after))
            (set_long m.blocks stripe.legs leg part there part-long has.each);
      }
