-- Sessions whose fields are the same are the same.
use Rattle.std.proofs.Common.{◌≡◌}
use Rattle.nm_session.specs.Session.{Session}

pub same_session : (a b : Session) → a.limit ≡ b.limit → a.stage ≡ b.stage
    → a.haggling ≡ b.haggling → a.rest ≡ b.rest → a.count ≡ b.count
    → a.outstanding ≡ b.outstanding → a.out ≡ b.out → a ≡ b
same_session a b limit stage haggling rest count outstanding out = λ i. record {
  limit = limit i;
  stage = stage i;
  haggling = haggling i;
  rest = rest i;
  count = count i;
  outstanding = outstanding i;
  out = out i;
}
