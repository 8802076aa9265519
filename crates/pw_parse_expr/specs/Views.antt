-- What the values of the rules of expressions show. `.._first` is an item before the rest of its list.
use Rattle.std.specs.Prelude.{List, ◌∷◌, Vec, Option, Some, None}
use Rattle.std.specs.declared.alloc.Global.{Global}
use Rattle.std.specs.declared.boxed.Box.{Box}
use Rattle.pw_tree.specs.Trees as tree
use Rattle.pw_tree.specs.Views.{view_declarator, view_words, view_specifiers, view_postfix, view_postfixes, view_expr, view_operations, view_arguments}
use Rattle.pw_tree.specs.declared.expr.Expr.{Expr}
use Rattle.pw_tree.specs.declared.expr.Operation.{Operation}
use Rattle.pw_tree.specs.declared.expr.PostfixOperation.{PostfixOperation}
use Rattle.pw_tree.specs.declared.expr.TypeName.{TypeName}
use Rattle.pw_tree.specs.declared.expr.Word.{Word}
use Rattle.pw_parse_cursor.specs.PartViews.{word_first}

abbrev pub view_word_list : Vec Word Global → List tree.Word
view_word_list ws = view_words ws.items

abbrev pub view_argument_list : Vec Expr Global → tree.Arguments
view_argument_list es = view_arguments es.items

abbrev pub view_postfix_list : Vec PostfixOperation Global → tree.Postfixes
view_postfix_list ps = view_postfixes ps.items

abbrev pub view_operation_list : Vec Operation Global → tree.Operations
view_operation_list os = view_operations os.items

abbrev pub view_type_name : Box TypeName Global → tree.Specifiers × tree.Declarator
view_type_name t = (view_specifiers t.value.specifiers.items, view_declarator t.value.declarator)

abbrev pub before_word : Option Word → Option (List tree.Word → List tree.Word)
before_word None = None
before_word (Some w) = Some (word_first w)

abbrev pub before_postfix : Option PostfixOperation → Option (tree.Postfixes → tree.Postfixes)
before_postfix None = None
before_postfix (Some p) = Some (view_postfix p)

abbrev pub operation_first : Operation → tree.Operations → tree.Operations
operation_first o more = tree.Operation o.token o.operator (view_expr o.operand) more

abbrev pub before_operation : Option Operation → Option (tree.Operations → tree.Operations)
before_operation None = None
before_operation (Some o) = Some (operation_first o)

abbrev pub argument_first : Expr → tree.Arguments → tree.Arguments
argument_first e more = tree.Argument (view_expr e) more
