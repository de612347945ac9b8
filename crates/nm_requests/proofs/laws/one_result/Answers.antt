-- A known type has a row among the last, and an unknown one the second.
use Rattle.nm_requests.proofs.Rows.{table_has_one_result}
use Rattle.nm_requests.proofs.laws.one_result.Goals as goal

pub returns : goal.returns
returns c = table_has_one_result
