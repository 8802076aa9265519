use Rattle.std.proofs.Common.{[], lit≤}
use Rattle.pw_tests_clauses.specs.Images.{changing_words}
use Rattle.pw_tests_clauses.proofs.Registers.{changed}
use Rattle.pw_tests_clauses.proofs.a_register_that_changes_is_refused.Goals as goal

pub returns : goal.returns
returns c = changed (λ i low fits. c.text_words.ensures changing_words [] i (lit≤ tt) low fits)
