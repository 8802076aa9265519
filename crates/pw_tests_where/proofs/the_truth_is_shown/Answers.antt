use Rattle.std.specs.Fmt.{digits}
use Rattle.pw_tests_where.specs.Images.{right_value}
use Rattle.pw_tests_where.proofs.Lines.{tells}
use Rattle.pw_tests_where.proofs.Meaning.{comes, defined}
use Rattle.pw_tests_where.proofs.Running.{holds, shows}
use Rattle.pw_tests_where.proofs.the_truth_is_shown.Goals as goal

pub returns-clause-defined : goal.returns-clause-defined
returns-clause-defined c = defined

pub returns-clause-comes : goal.returns-clause-comes
returns-clause-comes c = comes

pub returns-clause-shows : goal.returns-clause-shows
unfolding digits
returns-clause-shows c = shows right_value (holds c.text_words.ensures c.data_bytes.ensures.item right_value)

pub returns-clause-truth : goal.returns-clause-truth
returns-clause-truth c = tells
