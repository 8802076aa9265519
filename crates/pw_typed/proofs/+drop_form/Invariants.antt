use Rattle.std.proofs.Common.{◌≤◌}
use Rattle.pw_typed.specs.declared.tree.TForm.{size-TForm}
use Rattle.pw_typed.proofs.+drop_form.Given as goal

-- what is left is a part of what there was
abbrev pub invariant-tree::TForm::drop-loop-self : goal.invariant-tree::TForm::drop-loop-self
invariant-tree::TForm::drop-loop-self l = size-TForm l.self ≤ size-TForm l.initial.self
