use Rattle.nm_haggle.proofs.Existence.{some_response, some_answer}
use Rattle.nm_haggle.proofs.laws.some_answer.Goals as goal

pub returns-clause-in_each_state : goal.returns-clause-in_each_state
returns-clause-in_each_state c = some_response

pub returns-clause-of_a_whole_text : goal.returns-clause-of_a_whole_text
returns-clause-of_a_whole_text c = some_answer
