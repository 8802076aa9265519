use Rattle.std.specs.Prelude.{[], Some}
use Rattle.pw_tests_where.specs.Images.{right_value}
use Rattle.pw_tests_where.proofs.Running.{holds, shows_lost}
use Rattle.pw_tests_where.proofs.lost_walks_are_no_truth.Goals as goal

pub returns : goal.returns
returns c = λ truth. truth.walks 4104 (Some []) (shows_lost right_value (holds c.text_words.ensures c.data_bytes.ensures.item right_value))
