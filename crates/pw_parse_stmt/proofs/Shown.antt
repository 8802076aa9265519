-- What the lists of statements show.
use Rattle.std.proofs.Common.{◌≡◌, List, [], ◌∷◌, refl, ap}
use Rattle.pw_tree.specs.Trees as tree
use Rattle.pw_tree.specs.Views.{view_label, view_labels, view_stmts}
use Rattle.pw_tree.specs.declared.stmt.Label.{Label}
use Rattle.pw_tree.specs.declared.stmt.Stmt.{Stmt}
use Rattle.pw_parse_stmt.specs.Views.{label_first, stmt_first}
use Rattle.pw_parse_cursor.proofs.Loops.{prepend}
use Rattle.pw_parse_cursor.proofs.Shown.{mapped}

pub labels_shown : (ls : List Label) → prepend label_first ls [] ≡ view_labels ls
labels_shown = mapped view_label

pub stmts_shown : (ss : List Stmt) → prepend stmt_first ss tree.NoStmt ≡ view_stmts ss
stmts_shown [] = refl
stmts_shown (s ∷ ss) = ap (stmt_first s) (stmts_shown ss)
