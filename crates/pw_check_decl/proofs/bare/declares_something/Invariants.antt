use Rattle.std.proofs.Common.{◌≡◌, drop}
use Rattle.pw_check_rules.specs.Declarations.{declares_something}
use Rattle.pw_tree.specs.Views.{view_specifiers}
use Rattle.pw_check_decl.proofs.bare.declares_something.Given as goal

-- what declares something is among the specifiers that are left
abbrev pub invariant-loop-specifier : goal.invariant-loop-specifier
invariant-loop-specifier l =
    declares_something (view_specifiers l.specifiers) ≡ declares_something (view_specifiers (drop l.specifier-index l.specifiers))
