-- What the list of alternatives shows.
use Rattle.std.proofs.Common.{◌≡◌, List, [], ◌∷◌, refl, ap}
use Rattle.pw_tree.specs.Trees as tree
use Rattle.pw_tree.specs.Views.{view_else_ifs}
use Rattle.pw_tree.specs.declared.stmt.ElseIf.{ElseIf}
use Rattle.pw_parse_control.specs.Views.{else_if_first}
use Rattle.pw_parse_cursor.proofs.Loops.{prepend}

pub else_ifs_shown : (es : List ElseIf) (last : tree.Alternative) → prepend else_if_first es last ≡ view_else_ifs es last
else_ifs_shown [] last = refl
else_ifs_shown (e ∷ es) last = ap (else_if_first e) (else_ifs_shown es last)
