-- A claim of a run is a claim of each of its blocks, in order: what it keeps, and how it is explained.
use Rattle.std.proofs.Common.{◌≡◌, ◌≢◌, ℕ, zero, suc, ◌+◌, ◌<◌, List, [], ◌∷◌, length, refl, sym, ap, ◌∙◌, subst, arith}
use Rattle.nm_replay.specs.Events.{Event, RepliesWrite, marks_of}
use Rattle.nm_fanout.proofs.Finding.{find_record-without_other}
use Rattle.nm_fanout.specs.declared.write_record.Record.{Record}
use Rattle.nm_fanout.specs.Records.{without}
use Rattle.nm_leg.specs.Leg.{LegType}
use Rattle.nm_rules.specs.Acts.{Acts, IsExplainedStep}
use Rattle.nm_rules.specs.Claim.{after_claim}
use Rattle.nm_rules.specs.Invariant.{Keeps}
use Rattle.nm_rules.specs.RunClaim.{ClaimsRun, after_claim_run, replies_of}
use Rattle.nm_rules.specs.Runs.{AreFinished, EntryNames, of_run}
use Rattle.nm_rules.specs.State.{StripeState}
use Rattle.nm_rules.proofs.ActsLemmas.{acts-append, acts-none}
use Rattle.nm_rules.proofs.ClaimLemmas.{claim-acts, claim-keeps}
use Rattle.nm_rules.proofs.RunBeginSteps.{RunDone}

-- the stripe after these writes were claimed, in order
abbrev pub claim_each : {L : Type 0} → StripeState L → List Record → StripeState L
claim_each old [] = old
claim_each old (r ∷ rs) = claim_each (after_claim old r.ticket) rs

-- it is the stripe without these records
each-claimed : {L : Type 0} (rs : List Record) (old : StripeState L) → claim_each old rs ≡ after_claim_run old rs
each-claimed [] old = refl
each-claimed (r ∷ rs) old = each-claimed rs (after_claim old r.ticket)

-- the other records of a run are still there once one is claimed
finished-next : (u : ℕ) (rs : List Record) (records : List Record) (ticket block number : ℕ) → u < ticket → AreFinished ticket block number rs records → AreFinished ticket block number rs (without u records)
finished-next u [] records ticket block number below are = tt
finished-next u (q ∷ rs) records ticket block number below are =
    let other : q.ticket ≢ u = λ e. omega (arith, below, are.0, e) in
    (are.0, are.1, find_record-without_other u q.ticket records other ∙ are.2, are.3, are.4, finished-next u rs records (ticket + 1) (block + 1) (number + 1) (omega (arith, below)) are.5)

-- a claim of each of them
run-claimed : {L : Type 0} (type : LegType L) (rs : List Record) (old : StripeState L) (ticket block number : ℕ)
    → Keeps type old → AreFinished ticket block number rs old.records → RunDone type old (claim_each old rs) (replies_of ticket number (length rs))
run-claimed type [] old ticket block number k are = record { keeps = k; acts = acts-none type.model old k.numbers.most }
run-claimed type (r ∷ rs) old ticket block number k are =
    let keeps = claim-keeps type old r.ticket r are.2 are.3 k in
    let rest = run-claimed type rs (after_claim old r.ticket) (ticket + 1) (block + 1) (number + 1) keeps (finished-next r.ticket rs old.records (ticket + 1) (block + 1) (number + 1) (omega (arith, are.0)) are.5) in
    let first : Acts type.model old (after_claim old r.ticket) (RepliesWrite ticket number ∷ []) =
    subst (λ (t : ℕ). Acts type.model old (after_claim old r.ticket) (RepliesWrite t number ∷ [])) are.0 (claim-acts type old r.ticket r are.2 are.3 k number are.4) in
    record {
      keeps = rest.keeps;
      acts = acts-append type.model old (after_claim old r.ticket) (claim_each old (r ∷ rs)) (RepliesWrite ticket number ∷ []) (replies_of (ticket + 1) (number + 1) (length rs)) first rest.acts;
    }

marks-replies : (ticket number count : ℕ) → marks_of (replies_of ticket number count) ≡ replies_of ticket number count
marks-replies ticket number zero = refl
marks-replies ticket number (suc count) = ap (λ (es : List Event). RepliesWrite ticket number ∷ es) (marks-replies (ticket + 1) (number + 1) count)

module _ {L : Type 0} (type : LegType L) (old new : StripeState L) (ticket : ℕ) (answer : EntryNames) (k : Keeps type old) (c : ClaimsRun old new ticket answer) where
  abbrev all : List Record
  all = of_run ticket old.records

  claimed : RunDone type old new (replies_of ticket answer.number answer.count)
  claimed =
      subst (λ (n : ℕ). RunDone type old new (replies_of ticket answer.number n)) (sym c.count)
      (subst (λ (s : StripeState L). RunDone type old s (replies_of ticket answer.number (length all))) (each-claimed all old ∙ sym c.after)
      (run-claimed type all old ticket answer.block answer.number k c.are))

  -- a claim of a run keeps what every stripe keeps
  pub claims_run-keeps : Keeps type new
  claims_run-keeps = claimed.keeps

  pub claims_run-explained : IsExplainedStep type.model (replies_of ticket answer.number answer.count) old new
  claims_run-explained = record { events = replies_of ticket answer.number answer.count; marked = marks-replies ticket answer.number answer.count; acts = claimed.acts }
