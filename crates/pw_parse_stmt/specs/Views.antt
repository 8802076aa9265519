-- What the values of the rules of statements show. `.._first` is an item before the rest of its list.
use Rattle.std.specs.Prelude.{List, ◌∷◌, Vec, Option, Some, None}
use Rattle.std.specs.declared.alloc.Global.{Global}
use Rattle.pw_tree.specs.Trees as tree
use Rattle.pw_tree.specs.Views.{view_label, view_labels, view_stmt, view_stmts}
use Rattle.pw_tree.specs.declared.stmt.Label.{Label}
use Rattle.pw_tree.specs.declared.stmt.Stmt.{Stmt}

abbrev pub label_first : Label → List tree.Label → List tree.Label
label_first x more = view_label x ∷ more

abbrev pub before_label : Option Label → Option (List tree.Label → List tree.Label)
before_label None = None
before_label (Some x) = Some (label_first x)

abbrev pub view_label_list : Vec Label Global → List tree.Label
view_label_list xs = view_labels xs.items

abbrev pub stmt_first : Stmt → tree.Stmts → tree.Stmts
stmt_first s more = tree.Next (view_stmt s) more

abbrev pub before_stmt : Option Stmt → Option (tree.Stmts → tree.Stmts)
before_stmt None = None
before_stmt (Some x) = Some (stmt_first x)

abbrev pub view_stmt_list : Vec Stmt Global → tree.Stmts
view_stmt_list xs = view_stmts xs.items
