use Rattle.std.proofs.Common.{[], ◌∷◌, refl}
use Rattle.pw_check_rules.specs.Statements.{names_of_labels}
use Rattle.pw_tree.specs.Views.{view_label, view_labels}
use Rattle.pw_check_labels.proofs.LabelNames.{labels_on, names_end}
use Rattle.pw_check_labels.proofs.names.add_names.Goals as goal

pub returns : goal.returns
returns c =
    names_end (λ ls. names_of_labels (view_labels ls)) (λ l. names_of_labels (view_label l ∷ [])) labels_on c.args.labels.now c.loop-label.label-index _ _
    c.loop-label-test.false refl c.loop-label.invariant
