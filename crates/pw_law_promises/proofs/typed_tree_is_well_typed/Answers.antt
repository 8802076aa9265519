use Rattle.pw_tree.specs.Views.{view_module}
use Rattle.pw_typed.specs.Views as typed
use Rattle.pw_law_promises.proofs.typed_tree_is_well_typed.Goals as goal

pub returns : goal.returns
returns c = λ text checks short. c.accepted_is_well_typed.ensures (view_module c.args.tree.now) (typed.view_module c.args.made.now) text checks c.numbers_are_words.ensures short
