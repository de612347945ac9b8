use Rattle.std.proofs.Common.{◌≡◌, [], length, All}
use Rattle.crossbeam_channel.specs.Ends.{sends_on, receives_on}
use Rattle.nm_mailbox.specs.Ends.{pieces_by, outcomes_by}
use Rattle.nm_mailbox.proofs.opening.mailbox.Given as goal

abbrev pub invariant-loop : goal.invariant-loop
invariant-loop g l = (receives_on l.receiver ≡ sends_on l.pieces.sender) × (pieces_by l.pieces ≡ [])
    × All (λ end. receives_on l.receiver ≡ sends_on end.sender) l.outcomes.items
    × All (λ end. outcomes_by end ≡ []) l.outcomes.items × (length l.outcomes.items ≡ l.counter)
