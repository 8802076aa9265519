use Rattle.pw_law_select_frames.proofs.Calls.{named_called, valued_called, function_returns}
use Rattle.pw_law_select_frames.proofs.turns_call_and_return.Goals as goal

pub returns-clause-named : goal.returns-clause-named
returns-clause-named c = named_called

pub returns-clause-valued : goal.returns-clause-valued
returns-clause-valued c = λ p w scratch. valued_called p w scratch c.words_are_made.ensures.quiet

pub returns-clause-returned : goal.returns-clause-returned
returns-clause-returned c = function_returns
