-- What a piece of the haggling leads to, from the fields of the old and the new session.
use Rattle.std.proofs.Common.{◌≡◌, ℕ, List, ◌++◌, refl, subst}
use Rattle.nm_haggle.specs.declared.next.Next.{Next}
use Rattle.nm_haggle.specs.Haggling.{Response, HagglesFrom}
use Rattle.nm_session.specs.Session.{Session}
use Rattle.nm_session.specs.Feeding.{Responds, stage_then, request_bytes}
use Rattle.nm_session.proofs.Sessions.{same_session}

abbrev pub response_of : List ℕ → ℕ → Next → Response
response_of out used next = record { out = out; used = used; next = next }

pub responds : (old new : Session) (piece replies : List ℕ) (used : ℕ) (next shown : Next)
    → next ≡ shown
    → HagglesFrom old.haggling piece (response_of replies used next) new.haggling
    → new.limit ≡ old.limit → new.stage ≡ stage_then shown
    → new.rest ≡ old.rest ++ request_bytes shown used piece
    → new.count ≡ old.count → new.outstanding ≡ old.outstanding
    → new.out ≡ old.out ++ replies → Responds old piece new
responds old new piece replies used next shown is from limit stage rest count outstanding out = record {
  response = response_of replies used shown;
  haggling = new.haggling;
  from = subst (λ (n : Next). HagglesFrom old.haggling piece (response_of replies used n) new.haggling)
      is from;
  new_is = same_session new (record old {
    stage = stage_then shown;
    haggling = new.haggling;
    rest = old.rest ++ request_bytes shown used piece;
    out = old.out ++ replies;
  }) limit stage refl rest count outstanding out;
}
