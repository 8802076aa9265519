use Rattle.std.specs.Prelude.{length}
use Rattle.pw_tree.specs.Spelling.{symbols}
use Rattle.pw_law_valid.proofs.Words.{all_words}
use Rattle.pw_law_valid.proofs.accepted_objects_are_numbered.Goals as goal

pub returns : goal.returns
returns g = λ text tokens tree m lexed of checks. all_words (length (symbols tree)) m (g.trees_have_few_tokens.ensures text tokens tree lexed of) (g.accepted_objects_are_few.ensures tree m checks)
