-- Histories: one transition more, where they lead, and what each stripe in them keeps.
use Rattle.std.proofs.Common.{◌≡◌, ⊎_elim, inl, inr, ℕ, true, List, [], ◌∷◌, ◌++◌, Some, refl, sym, ap, ◌∙◌, subst}
use Rattle.std.proofs.lemmas.Option.{same_Some}
use Rattle.nm_leg.specs.Leg.{LegType}
use Rattle.nm_rules.specs.declared.at.At.{At}
use Rattle.nm_rules.specs.Invariant.{Keeps}
use Rattle.nm_rules.specs.State.{StripeState, is_out, leg_state}
use Rattle.nm_stripe.specs.declared.answer.Answer.{Answer}
use Rattle.nm_stripe.specs.declared.answer.Answer.TheVariants.{Joining}
use Rattle.nm_stripe.specs.declared.step.Step.{Step}
use Rattle.nm_stripe.specs.declared.step.Step.TheVariants.{Replace, Return}
use Rattle.nm_stripe.proofs.RunLemmas.{step-shape}
use Rattle.nm_stripe.proofs.StepLemmas.{step-keeps}
use Rattle.nm_gate.specs.declared.gated_stripe.GatedStripe.{GatedStripe}
use Rattle.nm_gate.proofs.Looked.{looked-keeps, looked-place}
use Rattle.nm_history.specs.declared.transition.Move.{Move}
use Rattle.nm_history.specs.declared.transition.Move.TheVariants.{Opens, Does, Looks, Saves, Clears, Loses}
use Rattle.nm_history.specs.declared.transition.Transition.{Transition}
use Rattle.nm_history.specs.History.{Follow, LeadsTo, LegalMoves, end_of, last_of}
use Rattle.nm_history.specs.Laws.{All, HistoriesGoOn, IsNoLoss, LossesMayStand, loss}
use Rattle.nm_history.specs.Lost.{IsReturnOf, Recovers, lost_after, none_lost}
use Rattle.nm_history.specs.Moves.{DoesStep, MoveOf}

-- the legs that had lost power once all of these moves were made
abbrev pub lost_by : {L : Type 0} → (ℕ → Type 0) → List (Transition L) → ℕ → Type 0
lost_by lost [] = lost
lost_by lost (t ∷ list) = lost_by (lost_after t.made lost) list

-- no leg had, or each of the one had of the other
abbrev pub NoneLost : (ℕ → Type 0) → Type 0
NoneLost lost = (leg : ℕ) → lost leg → ⊥

abbrev IsPart : (lost more : ℕ → Type 0) → Type 0
IsPart lost more = (leg : ℕ) → lost leg → more leg

-- where no leg loses power none has
pub none-after : {L : Type 0} (move : Move L) (lost : ℕ → Type 0) → NoneLost lost → IsNoLoss move → NoneLost (lost_after move lost)
none-after Opens lost none whole leg is = is
none-after (Does (Return back marks) (Joining blocks)) lost none whole leg is = none leg is.1
none-after (Does (Replace new part) (Joining blocks)) lost none whole leg is = none leg is.1
none-after (Does step answer) lost none whole leg is = none leg is
none-after (Looks at block found) lost none whole leg is = none leg is
none-after Saves lost none whole leg is = none leg is
none-after Clears lost none whole leg is = none leg is
none-after (Loses gone) lost none whole leg is = absurd whole

part-after : {L : Type 0} (move : Move L) (lost more : ℕ → Type 0) → IsPart lost more → IsPart (lost_after move lost) (lost_after move more)
part-after Opens lost more part leg is = is
part-after (Does (Return back marks) (Joining blocks)) lost more part leg is = (is.0, part leg is.1)
part-after (Does (Replace new with) (Joining blocks)) lost more part leg is = (is.0, part leg is.1)
part-after (Does step answer) lost more part leg is = part leg is
part-after (Looks at block found) lost more part leg is = part leg is
part-after Saves lost more part leg is = part leg is
part-after Clears lost more part leg is = part leg is
part-after (Loses gone) lost more part leg is = ⊎_elim (λ now. inl now) (λ was. inr (part leg was)) is

not-return : {L : Type 0} (lost : ℕ → Type 0) (step : Step L) → NoneLost lost → IsReturnOf lost step → ⊥
not-return lost (Return leg marks) none is = none leg is
not-return lost step none is = is

return-more : {L : Type 0} (lost more : ℕ → Type 0) (step : Step L) → IsPart lost more → IsReturnOf lost step → IsReturnOf more step
return-more lost more (Return leg marks) part is = part leg is
return-more lost more step part is = absurd is

module _ {L : Type 0} (type : LegType L) where
  -- then a step is done as ever
  pub does-step : (lost : ℕ → Type 0) (step : Step L) (answer : Answer L) (old new : GatedStripe L) → NoneLost lost → MoveOf type lost (Does step answer) old new → DoesStep type step answer old new
  does-step lost step answer old new none is = ⊎_elim (λ does. does) (λ recovers. absurd (not-return lost step none recovers.0)) is

  move-more : (lost more : ℕ → Type 0) (move : Move L) (old new : GatedStripe L) → IsPart lost more → MoveOf type lost move old new → MoveOf type more move old new
  move-more lost more Opens old new part is = is
  move-more lost more (Does step answer) old new part is = ⊎_elim (λ does. inl does) (λ recovers. inr (return-more lost more step part recovers.0, recovers.1)) is
  move-more lost more (Looks leg block found) old new part is = is
  move-more lost more Saves old new part is = is
  move-more lost more Clears old new part is = is
  move-more lost more (Loses leg) old new part is = is

  follow-more : (lost more : ℕ → Type 0) (from : GatedStripe L) (list : List (Transition L)) → IsPart lost more → Follow type lost from list → Follow type more from list
  follow-more lost more from [] part follow = tt
  follow-more lost more from (t ∷ list) part follow =
      (move-more lost more t.made from t.to part follow.0, follow-more (lost_after t.made lost) (lost_after t.made more) t.to list (part-after t.made lost more part) follow.1)

  -- one transition more
  follow-push : (lost : ℕ → Type 0) (from : GatedStripe L) (list : List (Transition L)) (t : Transition L) → Follow type lost from list → MoveOf type (lost_by lost list) t.made (end_of from list) t.to → Follow type lost from (list ++ t ∷ [])
  follow-push lost from [] t follow is = (is, tt)
  follow-push lost from (u ∷ list) t follow is = (follow.0, follow-push (lost_after u.made lost) u.to list t follow.1 is)

  end-push : (from : GatedStripe L) (list : List (Transition L)) (t : Transition L) → end_of from (list ++ t ∷ []) ≡ t.to
  end-push from [] t = refl
  end-push from (u ∷ list) t = end-push u.to list t

  -- what the end of a history is
  pub record IsEnd (t : Transition L) (list : List (Transition L)) : Type 1 where
    pub lost : ℕ → Type 0
    pub follow : Follow type lost t.to list

  follow-back : (lost : ℕ → Type 0) (from : GatedStripe L) (before : List (Transition L)) (t : Transition L) (list : List (Transition L)) → Follow type lost from (before ++ t ∷ list) → IsEnd t list
  follow-back lost from [] t list follow = record { lost = lost_after t.made lost; follow = follow.1 }
  follow-back lost from (u ∷ before) t list follow = follow-back (lost_after u.made lost) u.to before t list follow.1

  pub legal-end : (number : ℕ) (before : List (Transition L)) (t : Transition L) (list : List (Transition L)) → LegalMoves type number (before ++ t ∷ list) → IsEnd t list
  legal-end number [] t list legal = record { lost = none_lost; follow = legal.3 }
  legal-end number (u ∷ before) t list legal = follow-back none_lost u.to before t list legal.3

  -- each stripe keeps what every stripe keeps, where no leg loses power
  pub move-keeps : (lost : ℕ → Type 0) (move : Move L) (old new : GatedStripe L) → Keeps type old.stripe → NoneLost lost → IsNoLoss move → MoveOf type lost move old new → Keeps type new.stripe
  move-keeps lost Opens old new k none whole is = is.keeps
  move-keeps lost (Does step answer) old new k none whole is =
      let does = does-step lost step answer old new none is in
      step-keeps type step answer old.stripe new.stripe k does.asked does.does
  move-keeps lost (Looks leg block found) old new k none whole is = looked-keeps type leg block found old.stripe new.stripe is.0 k
  move-keeps lost Saves old new k none whole is = subst (λ (s : StripeState L). Keeps type s) (sym is.stripe) k
  move-keeps lost Clears old new k none whole is = subst (λ (s : StripeState L). Keeps type s) (sym is.stripe) k
  move-keeps lost (Loses leg) old new k none whole is = absurd whole

  pub all-keep : (lost : ℕ → Type 0) (from : GatedStripe L) (list : List (Transition L)) → Keeps type from.stripe → NoneLost lost → All IsNoLoss list → Follow type lost from list → Keeps type (end_of from list).stripe
  all-keep lost from [] k none whole follow = k
  all-keep lost from (t ∷ list) k none whole follow =
      all-keep (lost_after t.made lost) t.to list (move-keeps lost t.made from t.to k none whole.0 follow.0) (none-after t.made lost none whole.0) whole.1 follow.1

  -- so does each in the midst of a history
  pub record IsWhole (t : Transition L) (list : List (Transition L)) : Type 1 where
    pub lost : ℕ → Type 0
    pub none : NoneLost lost
    pub keeps : Keeps type t.to.stripe
    pub whole : All IsNoLoss list
    pub follow : Follow type lost t.to list

  mid-whole : (lost : ℕ → Type 0) (from : GatedStripe L) (before : List (Transition L)) (t : Transition L) (list : List (Transition L)) → Keeps type from.stripe → NoneLost lost → All IsNoLoss (before ++ t ∷ list)
      → Follow type lost from (before ++ t ∷ list) → IsWhole t list
  mid-whole lost from [] t list k none whole follow = record {
    lost = lost_after t.made lost;
    none = none-after t.made lost none whole.0;
    keeps = move-keeps lost t.made from t.to k none whole.0 follow.0;
    whole = whole.1;
    follow = follow.1;
  }
  mid-whole lost from (u ∷ before) t list k none whole follow =
      mid-whole (lost_after u.made lost) u.to before t list (move-keeps lost u.made from u.to k none whole.0 follow.0) (none-after u.made lost none whole.0) whole.1 follow.1

  nobody : NoneLost none_lost
  nobody leg is = is

  pub legal-whole : (number : ℕ) (before : List (Transition L)) (t : Transition L) (list : List (Transition L)) → LegalMoves type number (before ++ t ∷ list) → All IsNoLoss (before ++ t ∷ list) → IsWhole t list
  legal-whole number [] t list legal whole = record { lost = none_lost; none = nobody; keeps = legal.1; whole = whole.1; follow = legal.3 }
  legal-whole number (u ∷ before) t list legal whole = mid-whole none_lost u.to before t list legal.1 nobody whole.1 legal.3

  -- each move leaves the stripe at its place
  step-place : (step : Step L) (answer : Answer L) (old new : GatedStripe L) → Recovers type step answer old new → new.stripe.place ≡ old.stripe.place
  step-place (Return leg marks) (Joining blocks) old new is = ap (λ (s : StripeState L). s.place) is.0.returns.after
  step-place step answer old new is = absurd is

  move-place : (lost : ℕ → Type 0) (move : Move L) (old new : GatedStripe L) → MoveOf type lost move old new → new.stripe.place ≡ old.stripe.place
  move-place lost Opens old new is = ap (λ (s : StripeState L). s.place) is.stripe
  move-place lost (Does step answer) old new is = ⊎_elim (λ does. (step-shape type step answer old.stripe new.stripe does.does).place) (λ recovers. step-place step answer old new recovers.1) is
  move-place lost (Looks leg block found) old new is = looked-place type leg block found old.stripe new.stripe is.0
  move-place lost Saves old new is = ap (λ (s : StripeState L). s.place) is.stripe
  move-place lost Clears old new is = ap (λ (s : StripeState L). s.place) is.stripe
  move-place lost (Loses leg) old new is = ap (λ (g : GatedStripe L). g.stripe.place) is.1

  all-place : (lost : ℕ → Type 0) (from : GatedStripe L) (list : List (Transition L)) → Follow type lost from list → (end_of from list).stripe.place ≡ from.stripe.place
  all-place lost from [] follow = refl
  all-place lost from (t ∷ list) follow = all-place (lost_after t.made lost) t.to list follow.1 ∙ move-place lost t.made from t.to follow.0

  -- what leads somewhere is not empty
  nothing-last : (now : GatedStripe L) → last_of {L = L} [] ≡ Some now → ⊥
  nothing-last now is = cc

  goes-on : (number : ℕ) (list : List (Transition L)) (now : GatedStripe L) (t : Transition L) → LeadsTo type number list now → MoveOf type none_lost t.made now t.to → LeadsTo type number (list ++ t ∷ []) t.to
  goes-on number [] now t leads is = absurd (nothing-last now leads.last)
  goes-on number (first ∷ list) now t leads is =
      let here : end_of first.to list ≡ now = same_Some (end_of first.to list) now leads.last in
      let lost = lost_by none_lost list in
      let made = move-more none_lost lost t.made now t.to (λ leg was. absurd was) is in
      record {
        legal = (leads.legal.0, leads.legal.1, leads.legal.2, follow-push none_lost first.to list t leads.legal.3 (subst (λ (g : GatedStripe L). MoveOf type lost t.made g t.to) (sym here) made));
        last = ap (λ (g : GatedStripe L). Some g) (end-push first.to list t);
      }

  one-end : (number : ℕ) (list : List (Transition L)) (now other : GatedStripe L) → LeadsTo type number list now → LeadsTo type number list other → now ≡ other
  one-end number list now other here there = same_Some now other (sym here.last ∙ there.last)

  number-is : (number : ℕ) (list : List (Transition L)) (now : GatedStripe L) → LeadsTo type number list now → now.stripe.place.stripe ≡ number
  number-is number [] now leads = absurd (nothing-last now leads.last)
  number-is number (first ∷ list) now leads =
      let here : end_of first.to list ≡ now = same_Some (end_of first.to list) now leads.last in
      subst (λ (g : GatedStripe L). g.stripe.place.stripe ≡ number) here
      (ap (λ (place : At). place.stripe) (all-place none_lost first.to list leads.legal.3) ∙ leads.legal.2)

  leads-keep : (number : ℕ) (list : List (Transition L)) (now : GatedStripe L) → LeadsTo type number list now → All IsNoLoss list → Keeps type now.stripe
  leads-keep number [] now leads whole = absurd (nothing-last now leads.last)
  leads-keep number (first ∷ list) now leads whole =
      let here : end_of first.to list ≡ now = same_Some (end_of first.to list) now leads.last in
      subst (λ (g : GatedStripe L). Keeps type g.stripe) here (all-keep none_lost first.to list leads.legal.1 nobody whole.1 leads.legal.3)

  pub histories-go-on : HistoriesGoOn type
  histories-go-on = record {
    begins = λ number first opens opening at. record { legal = (opens, opening, at, tt); last = refl };
    goes_on = goes-on;
    one_end = one-end;
    number_is = number-is;
    keeps = leads-keep;
  }

  -- a loss put in
  after-loss : (lost : ℕ → Type 0) (leg : ℕ) (now : GatedStripe L) (later : List (Transition L)) → Follow type lost now later → is_out (leg_state leg now.stripe) ≡ true → Follow type lost now (loss leg now ∷ later)
  after-loss lost leg now later follow out = ((out, refl), follow-more lost (lost_after {L = L} (Loses leg) lost) now later (λ other was. inr was) follow)

  mid-loss : (lost : ℕ → Type 0) (from : GatedStripe L) (before later : List (Transition L)) (t : Transition L) (leg : ℕ) → Follow type lost from (before ++ t ∷ later) → is_out (leg_state leg t.to.stripe) ≡ true
      → Follow type lost from (before ++ t ∷ loss leg t.to ∷ later)
  mid-loss lost from [] later t leg follow out = (follow.0, after-loss (lost_after t.made lost) leg t.to later follow.1 out)
  mid-loss lost from (u ∷ before) later t leg follow out = (follow.0, mid-loss (lost_after u.made lost) u.to before later t leg follow.1 out)

  pub losses-may-stand : LossesMayStand type
  losses-may-stand number [] later t leg legal out = (legal.0, legal.1, legal.2, after-loss none_lost leg t.to later legal.3 out)
  losses-may-stand number (u ∷ before) later t leg legal out = (legal.0, legal.1, legal.2, mid-loss none_lost u.to before later t leg legal.3 out)
