-- What stands behind a statement of an `if`, as the values of its rules show it.
use Rattle.pw_tree.specs.Trees.{Alternative}
use Rattle.pw_tree.specs.Views.{view_else_ifs, view_otherwise}
use Rattle.pw_parse_control.specs.declared.choice.ElseParts.{ElseParts}
use Rattle.pw_parse_control.specs.declared.choice.Branch.{Branch}
use Rattle.pw_parse_control.specs.declared.choice.Branch.TheVariants as branch
use Rattle.pw_parse_grammar.specs.Input.{Turn, More, Last}
use Rattle.pw_parse_control.specs.Views.{else_if_first}

abbrev pub branch_turn : Branch → Turn Alternative
branch_turn (branch.ElseIf e) = More (else_if_first e)
branch_turn (branch.Last s) = Last (view_otherwise s)

abbrev pub view_alternatives : ElseParts → Alternative
view_alternatives a = view_else_ifs a.else_ifs.items (view_otherwise a.otherwise)
