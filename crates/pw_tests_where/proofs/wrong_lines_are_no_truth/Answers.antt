use Rattle.std.specs.Prelude.{[], Some}
use Rattle.std.specs.Fmt.{digits}
use Rattle.pw_value.specs.ProgramNames.{main_name}
use Rattle.pw_tests_where.specs.Images.{things, wrong_lines, wrong_value}
use Rattle.pw_tests_where.proofs.Lines.{tells_nothing_wrong}
use Rattle.pw_tests_where.proofs.Meaning.{comes}
use Rattle.pw_tests_where.proofs.Running.{holds, shows}
use Rattle.pw_tests_where.proofs.wrong_lines_are_no_truth.Goals as goal

pub returns : goal.returns
unfolding digits
returns c = λ truth. tells_nothing_wrong wrong_value (truth.lines wrong_lines (Some []) main_name things (shows wrong_value (holds c.text_words.ensures c.data_bytes.ensures.item wrong_value)) comes)
