-- What the lists of declarations show.
use Rattle.std.proofs.Common.{◌≡◌, Bool, List, [], ◌∷◌, refl, ap}
use Rattle.pw_tree.specs.Trees as tree
use Rattle.pw_tree.specs.Views.{view_init_declarator, view_init_declarators, view_inits, view_decl, view_decls}
use Rattle.pw_tree.specs.declared.decl.Decl.{Decl}
use Rattle.pw_tree.specs.declared.decl.Init.{Init}
use Rattle.pw_tree.specs.declared.decl.InitDeclarator.{InitDeclarator}
use Rattle.pw_parse_decl.specs.Views.{init_first, init_declarator_first, decl_first}
use Rattle.pw_parse_cursor.proofs.Loops.{prepend}
use Rattle.pw_parse_cursor.proofs.Shown.{mapped}

pub init_declarators_shown : (ds : List InitDeclarator) → prepend init_declarator_first ds [] ≡ view_init_declarators ds
init_declarators_shown = mapped view_init_declarator

pub decls_shown : (ds : List Decl) → prepend decl_first ds [] ≡ view_decls ds
decls_shown = mapped view_decl

pub inits_shown : (is : List Init) (trailing : Bool) → prepend init_first is (tree.NoInit, trailing) ≡ (view_inits is, trailing)
inits_shown [] trailing = refl
inits_shown (i ∷ is) trailing = ap (init_first i) (inits_shown is trailing)
