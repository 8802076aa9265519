-- What the values of the rules of specifiers show. `.._first` is an item before the rest of its list.
use Rattle.std.specs.Prelude.{ℕ, Vec, Option, Some, None}
use Rattle.std.specs.declared.alloc.Global.{Global}
use Rattle.pw_tree.specs.Trees as tree
use Rattle.pw_tree.specs.Views.{view_specifier, view_specifiers, view_expr, view_member_declarators, view_members, view_enumerators}
use Rattle.pw_tree.specs.declared.expr.Enumerator.{Enumerator}
use Rattle.pw_tree.specs.declared.expr.Expr.{Expr}
use Rattle.pw_tree.specs.declared.expr.Member.{Member}
use Rattle.pw_tree.specs.declared.expr.MemberDeclarator.{MemberDeclarator}
use Rattle.pw_tree.specs.declared.expr.Specifier.{Specifier}

abbrev pub view_width : ℕ × Expr → ℕ × tree.Expr
view_width w = (w.0, view_expr w.1)

abbrev pub view_member_declarator_list : Vec MemberDeclarator Global → tree.MemberDeclarators
view_member_declarator_list xs = view_member_declarators xs.items

abbrev pub member_first : Member → tree.Members → tree.Members
member_first m more = tree.Member (view_specifiers m.specifiers.items) (view_member_declarators m.declarators.items) more

abbrev pub view_member_list : Vec Member Global → tree.Members
view_member_list xs = view_members xs.items

abbrev pub view_enumerator_list : Vec Enumerator Global → tree.Enumerators
view_enumerator_list xs = view_enumerators xs.items

abbrev pub before_specifier : Option Specifier → Option (tree.Specifiers → tree.Specifiers)
before_specifier None = None
before_specifier (Some x) = Some (view_specifier x)
