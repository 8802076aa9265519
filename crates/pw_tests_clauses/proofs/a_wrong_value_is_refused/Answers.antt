use Rattle.std.proofs.Common.{lit≤}
use Rattle.pw_tests_clauses.specs.Images.{wrong_words}
use Rattle.pw_tests_clauses.proofs.Values.{data_items, wrong_place}
use Rattle.pw_tests_clauses.proofs.a_wrong_value_is_refused.Goals as goal

pub returns : goal.returns
returns c = wrong_place (λ i low fits. c.text_words.ensures wrong_words data_items i (lit≤ tt) low fits) c.data_bytes.ensures.item
