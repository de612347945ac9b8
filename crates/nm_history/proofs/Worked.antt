-- Worked rows: what is a history, and what is none. The stripe is that of two legs with one block, of
-- which the second is out and has not synced it.
use Rattle.std.proofs.Common.{⊎_elim, inl, inr, [], ◌∷◌, None, refl, arith}
use Rattle.nm_leg.specs.Leg.{Leg}
use Rattle.nm_rules.specs.Attach.{after_return, may_lack_each}
use Rattle.nm_rules.specs.Losing.{with_part}
use Rattle.nm_rules.specs.State.{StripeState, left}
use Rattle.nm_rules.specs.declared.refusal.Refusal.TheVariants.{NoTicket}
use Rattle.nm_stripe.specs.declared.answer.Answer.{Answer}
use Rattle.nm_stripe.specs.declared.answer.Answer.TheVariants.{Joining, Refused}
use Rattle.nm_stripe.specs.declared.answer.Handed.TheVariants.{Nothing}
use Rattle.nm_stripe.specs.declared.step.Step.TheVariants.{Attach, Claim, Return}
use Rattle.nm_gate.specs.declared.gated_stripe.GatedStripe.{GatedStripe}
use Rattle.nm_gate.specs.Returning.{everywhere}
use Rattle.nm_losses.proofs.Attached.{held, rest, stands, stripe, unsure}
use Rattle.nm_history.specs.declared.transition.Move.{Move}
use Rattle.nm_history.specs.declared.transition.Move.TheVariants.{Opens, Does, Saves, Loses}
use Rattle.nm_history.specs.declared.transition.Transition.{Transition}
use Rattle.nm_history.specs.History.{LegalMoves}
use Rattle.nm_history.specs.Lost.{ComesBack, none_lost}
use Rattle.nm_history.specs.Moves.{MoveOf}

-- a move, and what it leaves of a stripe without a superblock
abbrev left_by : Move Leg → StripeState Leg → Transition Leg
left_by move s = record { made = move; to = record { stripe = s; durable = None } }

-- the stripe once its second leg has come back as what a loss of power left of it
abbrev back : StripeState Leg
back =
    let lost = with_part stripe 1 rest in
    after_return lost 1 (may_lack_each held.model everywhere lost 1)

comes-back : ComesBack held 1 everywhere (left_by Opens stripe).to (left_by Opens back).to
comes-back = record {
  held = unsure;
  part = rest;
  there = omega arith;
  was = refl;
  crash = record { long = refl; marks = refl; left = λ block. inl refl; durable = refl };
  allowed = tt;
  marked = refl;
  returns = record { no_cause = refl; after = refl };
  durable = refl;
}

-- It opens; a claim is refused; the leg that is out loses power, and comes back as what that left of
-- it, behind where it has not synced.
pub worked : LegalMoves held 0 (
    left_by Opens stripe
    ∷ left_by (Does (Claim 0) (Refused NoTicket Nothing)) stripe
    ∷ left_by (Loses 1) stripe
    ∷ left_by (Does (Return 1 everywhere) (Joining (left 1 back))) back
    ∷ []
    )
worked = (
  refl,
  stands.keeps,
  refl,
  (
    inl (record { allowed = tt; marked = tt; asked = tt; does = (refl, refl, refl); durable = refl }),
    ((refl, refl), (inr (inl refl, (comes-back, refl)), tt)),
  ),
)

-- no history begins with another move than an opening
pub begins-with_loss : LegalMoves held 0 (left_by (Loses 1) stripe ∷ []) → ⊥
begins-with_loss legal = let clash = legal.0 in cc

-- nothing is saved where there is no superblock
pub saves-nothing : MoveOf held none_lost Saves (left_by Opens stripe).to (left_by Opens stripe).to → ⊥
saves-nothing is = is.durable

-- a leg never comes back as if it had lost nothing
pub attaches-none : (answer : Answer Leg) (old new : GatedStripe Leg) → MoveOf held none_lost (Does (Attach 1) answer) old new → ⊥
attaches-none answer old new is = ⊎_elim (λ does. does.marked) (λ recovers. recovers.0) is
