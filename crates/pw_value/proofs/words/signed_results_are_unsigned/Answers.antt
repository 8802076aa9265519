use Rattle.pw_value.proofs.WordLaws.{product_is}
use Rattle.pw_value.proofs.words.signed_results_are_unsigned.Goals as goal

pub returns-clause-product : goal.returns-clause-product
returns-clause-product c a b s small little e = product_is a b s small little e
