-- What a lost leg leaves of the legs: those that the failed call left.
use Rattle.std.proofs.Common.{◌≡◌, ℕ, ◌==◌, Bool, true, false, cond, List, refl, sym, ap, ◌∙◌}
use Rattle.nm_rules.specs.Lost.{failed_over, lost, lost_all, settled, without_leg_of}
use Rattle.nm_rules.specs.State.{StripeState, is_last}

pub lost-legs : {L : Type 0} (leg : ℕ) (s : StripeState L) → (lost leg s).legs ≡ s.legs
lost-legs leg s = elim (leg == s.master) as (λ b. (settled (cond b (failed_over (without_leg_of leg s)) (without_leg_of leg s))).legs ≡ s.legs) [ true ↦ refl | false ↦ refl ]

pub lost-after : {L : Type 0} (leg : ℕ) (old new : StripeState L) (legs : List L) → new ≡ lost leg (record old { legs = legs }) → new ≡ lost leg (record old { legs = new.legs })
lost-after leg old new legs after =
    let same : new.legs ≡ legs = ap (λ (s : StripeState _). s.legs) after ∙ lost-legs leg (record old { legs = legs }) in
    after ∙ ap (λ ls. lost leg (record old { legs = ls })) (sym same)

pub lost_all-after : {L : Type 0} (leg : ℕ) (old new : StripeState L) (legs : List L) → new ≡ lost_all leg (record old { legs = legs }) → new ≡ lost_all leg (record old { legs = new.legs })
lost_all-after leg old new legs after =
    let same : new.legs ≡ legs = ap (λ (s : StripeState _). s.legs) after ∙ lost-legs leg (record old { legs = legs }) in
    after ∙ ap (λ ls. lost_all leg (record old { legs = ls })) (sym same)

pub lost-legs_after : {L : Type 0} (leg : ℕ) (old new : StripeState L) (legs : List L) → new ≡ lost leg (record old { legs = legs }) → new.legs ≡ legs
lost-legs_after leg old new legs after = ap (λ (s : StripeState _). s.legs) after ∙ lost-legs leg (record old { legs = legs })

pub lost_all-legs_after : {L : Type 0} (leg : ℕ) (old new : StripeState L) (legs : List L) → new ≡ lost_all leg (record old { legs = legs }) → new.legs ≡ legs
lost_all-legs_after leg old new legs after = ap (λ (s : StripeState _). s.legs) after ∙ lost-legs leg (record old { legs = legs })

-- a call of a leg leaves no more than the legs changed: so does what follows it
pub lost-from : {L : Type 0} (leg : ℕ) (old mid new : StripeState L) → mid ≡ record old { legs = mid.legs } → new ≡ lost leg mid → new ≡ lost leg (record old { legs = mid.legs })
lost-from leg old mid new others after = after ∙ ap (λ (m : StripeState _). lost leg m) others

pub lost_all-from : {L : Type 0} (leg : ℕ) (old mid new : StripeState L) → mid ≡ record old { legs = mid.legs } → new ≡ lost_all leg mid → new ≡ lost_all leg (record old { legs = mid.legs })
lost_all-from leg old mid new others after = after ∙ ap (λ (m : StripeState _). lost_all leg m) others

pub last-from : {L : Type 0} (leg : ℕ) (old mid : StripeState L) (last : Bool) → mid ≡ record old { legs = mid.legs } → last ≡ is_last leg mid → is_last leg old ≡ last
last-from leg old mid last others is = sym (is ∙ ap (λ (m : StripeState _). is_last leg m) others)
