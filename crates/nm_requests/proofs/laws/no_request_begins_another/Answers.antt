-- The headers are equal, and so is the payloads' length.
use Rattle.nm_requests.proofs.Messages.{one_message}
use Rattle.nm_requests.proofs.laws.no_request_begins_another.Goals as goal

pub returns : goal.returns
returns c = one_message
