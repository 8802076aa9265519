-- What nodes with lists in them show before the rest of their own list, and what lists show.
use Rattle.std.proofs.Common.{◌≡◌, ℕ, List, [], ◌∷◌, refl, ap}
use Rattle.std.specs.declared.alloc.Global.{Global}
use Rattle.std.specs.declared.vec.Vec.{Vec}
use Rattle.pw_tree.specs.Trees as tree
use Rattle.pw_tree.specs.Views.{view_word, view_words, view_postfix, view_postfixes, view_operations, view_arguments}
use Rattle.pw_tree.specs.declared.expr.Expr.{Expr}
use Rattle.pw_tree.specs.declared.expr.Operation.{Operation}
use Rattle.pw_tree.specs.declared.expr.PostfixOperation.{PostfixOperation}
use Rattle.pw_tree.specs.declared.expr.PostfixOperation as postfix
use Rattle.pw_tree.specs.declared.expr.Word.{Word}
use Rattle.pw_parse_expr.specs.Views.{operation_first, argument_first}
use Rattle.pw_parse_cursor.proofs.Loops.{prepend}

pub call_shown : ((t : ℕ) (es : Vec Expr Global) (rest : tree.Postfixes) → view_postfix (postfix.Call t es) rest ≡ tree.Call t (view_arguments es.items) rest)
    → (t : ℕ) (es : Vec Expr Global) → view_postfix (postfix.Call t es) ≡ tree.Call t (view_arguments es.items)
call_shown law t es = λ j rest. law t es rest j

pub postfixes_shown : (ps : List PostfixOperation) → prepend view_postfix ps tree.NoPostfix ≡ view_postfixes ps
postfixes_shown [] = refl
postfixes_shown (p ∷ ps) = ap (view_postfix p) (postfixes_shown ps)

pub operations_shown : (os : List Operation) → prepend operation_first os tree.NoOperation ≡ view_operations os
operations_shown [] = refl
operations_shown (o ∷ os) = ap (operation_first o) (operations_shown os)

pub arguments_shown : (es : List Expr) → prepend argument_first es tree.NoArgument ≡ view_arguments es
arguments_shown [] = refl
arguments_shown (e ∷ es) = ap (argument_first e) (arguments_shown es)
