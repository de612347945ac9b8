use Rattle.nm_haggle.proofs.States.{one_response, one_answer}
use Rattle.nm_haggle.proofs.laws.one_answer.Goals as goal

pub returns-clause-in_each_state : goal.returns-clause-in_each_state
returns-clause-in_each_state c = one_response

pub returns-clause-of_a_whole_text : goal.returns-clause-of_a_whole_text
returns-clause-of_a_whole_text c = one_answer
