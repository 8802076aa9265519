use Rattle.std.proofs.Common.{sym, ◌∙◌, arith}
use Rattle.std.proofs.lemmas.List.{at_drop_all}
use Rattle.pw_check_rules.specs.Declarations.{declares_something}
use Rattle.pw_tree.specs.Views.{view_specifiers}
use Rattle.pw_check_decl.proofs.bare.declares_something.Goals as goal

pub returns : goal.returns
unfolding declares_something
returns c =
    sym (c.loop-specifier.invariant ∙ at_drop_all (λ xs. declares_something (view_specifiers xs)) c.args.specifiers.now c.loop-specifier.specifier-index (omega arith))
