-- What a step has to copy to a leg: nothing where the leg is behind nowhere, and from the first region
-- on something just where it is behind.
use Rattle.std.proofs.Common.{◌≡◌, ℕ, ◌+◌, ◌<◌, ◌==◌, ◌||◌, Bool, true, false, List, [], ◌∷◌, Option, None, Some, is_some, length, refl, sym, ap, ◌∙◌, subst, arith, position, drop}
use Rattle.std.specs.List.{list_any}
use Rattle.std.specs.Option.{option_map}
use Rattle.std.proofs.lemmas.Bool.{cond_below}
use Rattle.std.proofs.lemmas.List.{get_or-drop}
use Rattle.std.proofs.lemmas.List.Quantifiers.{position-Some}
use Rattle.nm_leg.specs.Leg.{LegType}
use Rattle.nm_regions.specs.declared.copy_place.CopyPlace.{CopyPlace}
use Rattle.nm_regions.specs.LegFlags.{is_behind}
use Rattle.nm_regions.specs.Links.{before_lowest}
use Rattle.nm_regions.specs.Table.{has_behind, leg_at, next_behind}
use Rattle.nm_regions.proofs.Linking.{lowest-position}
use Rattle.nm_rules.specs.Copy.{has_more, is_of}
use Rattle.nm_rules.specs.Invariant.{Keeps}
use Rattle.nm_rules.specs.State.{StripeState, table}
use Rattle.nm_rules.proofs.ChunkLemmas.{copy-is}
use Rattle.nm_rules.proofs.ClearLemmas.{none-at}
use Rattle.nm_rules.proofs.RecordLemmas.{same}

-- where no region is behind, none from a place on is
next-nowhere : (flags : List Bool) (from : ℕ) → list_any (λ behind. behind) flags ≡ false
    → is_some (option_map (λ (k : ℕ). from + k) (position (λ behind. behind) (drop from flags))) ≡ false
next-nowhere flags from none = by_first (position (λ behind. behind) (drop from flags)) refl
  where
    by_first : (o : Option ℕ) → position (λ behind. behind) (drop from flags) ≡ o → is_some (option_map (λ (k : ℕ). from + k) o) ≡ false
    by_first None is = refl
    by_first (Some k) is =
        let behind = (position-Some (λ behind. behind) (drop from flags) k false is).1 in
        absurd (let clash : true ≡ false = sym behind ∙ get_or-drop from flags k false ∙ none-at flags (from + k) none in cc)

-- where some region is behind, the lowest is one
lowest-inside : (flags : List Bool) → list_any (λ behind. behind) flags ≡ true → before_lowest flags < length flags
lowest-inside [] some = cc
lowest-inside (true ∷ flags) some = omega arith
lowest-inside (false ∷ flags) some = omega (arith, lowest-inside flags some)

first-some : (flags : List Bool) → list_any (λ behind. behind) flags ≡ true
    → is_some (option_map (λ (k : ℕ). 0 + k) (position (λ behind. behind) flags)) ≡ true
first-some flags some =
    ap (λ (o : Option ℕ). is_some (option_map (λ (k : ℕ). 0 + k) o))
    (lowest-position flags ∙ sym (cond_below (before_lowest flags) (length flags) (Some (before_lowest flags)) None (lowest-inside flags some)))

or-none : (a b : Bool) → a ≡ false → b ≡ false → (a || b) ≡ false
or-none true b one two = cc
or-none false b one two = two

or-second : (a b : Bool) → b ≡ true → (a || b) ≡ true
or-second true b is = refl
or-second false b is = is

module _ {L : Type 0} (type : LegType L) (s : StripeState L) (leg : ℕ) (k : Keeps type s) where
  -- no copy is open of a leg that is behind nowhere
  of-nowhere : (o : Option CopyPlace) → s.copy ≡ o → has_behind leg (table s) ≡ false → is_of leg o ≡ false
  of-nowhere None is nowhere = refl
  of-nowhere (Some c) is nowhere =
      (elim (c.leg == leg) as (λ b. (c.leg == leg) ≡ b → b ≡ false) [
        | true ↦ λ own.
            let here : is_behind c.region (leg_at leg (table s)) ≡ true = subst (λ (i : ℕ). is_behind c.region (leg_at i (table s)) ≡ true) (same c.leg leg own) (copy-is s c k.chunk is).behind in
            absurd (let clash : true ≡ false = sym here ∙ none-at (leg_at leg (table s)).behind c.region nowhere in cc)
        | false ↦ λ other. refl
      ]) refl

  -- so nothing is to be copied to it, wherever a step begins
  pub none-more : (from : ℕ) → has_behind leg (table s) ≡ false → has_more leg from s ≡ false
  none-more from nowhere =
      or-none (is_of leg s.copy) (is_some (next_behind leg from (table s))) (of-nowhere s.copy refl nowhere) (next-nowhere (leg_at leg (table s)).behind from nowhere)

  -- from the first region on something is to be copied just where the leg is behind
  pub all-more : has_more leg 0 s ≡ has_behind leg (table s)
  all-more =
      (elim (has_behind leg (table s)) as (λ b. has_behind leg (table s) ≡ b → has_more leg 0 s ≡ b) [
        | true ↦ λ some. or-second (is_of leg s.copy) (is_some (next_behind leg 0 (table s))) (first-some (leg_at leg (table s)).behind some)
        | false ↦ λ nowhere. none-more 0 nowhere
      ]) refl
