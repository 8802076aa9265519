-- What the values of the rules of declarations show. `.._first` is an item before the rest of its list.
use Rattle.std.specs.Prelude.{Bool, List, ◌∷◌, Vec, Option, Some, None}
use Rattle.std.specs.declared.alloc.Global.{Global}
use Rattle.pw_tree.specs.Trees as tree
use Rattle.pw_tree.specs.Views.{view_init, view_inits, view_init_declarator, view_init_declarators, view_decl}
use Rattle.pw_tree.specs.declared.decl.Decl.{Decl}
use Rattle.pw_tree.specs.declared.decl.Init.{Init}
use Rattle.pw_tree.specs.declared.decl.InitDeclarator.{InitDeclarator}

abbrev pub init_first : Init → tree.Inits × Bool → tree.Inits × Bool
init_first x more = (tree.Listed (view_init x) more.0, more.1)

abbrev pub view_inits_end : Vec Init Global × Bool → tree.Inits × Bool
view_inits_end xs = (view_inits xs.0.items, xs.1)

abbrev pub inits_last : Option Bool → Option (tree.Inits × Bool)
inits_last None = None
inits_last (Some trailing) = Some (tree.NoInit, trailing)

abbrev pub init_declarator_first : InitDeclarator → List tree.InitDeclarator → List tree.InitDeclarator
init_declarator_first x more = view_init_declarator x ∷ more

abbrev pub before_init_declarator : Option InitDeclarator → Option (List tree.InitDeclarator → List tree.InitDeclarator)
before_init_declarator None = None
before_init_declarator (Some x) = Some (init_declarator_first x)

abbrev pub view_init_declarator_list : Vec InitDeclarator Global → List tree.InitDeclarator
view_init_declarator_list xs = view_init_declarators xs.items

abbrev pub decl_first : Decl → List tree.Decl → List tree.Decl
decl_first x more = view_decl x ∷ more

abbrev pub before_decl : Option Decl → Option (List tree.Decl → List tree.Decl)
before_decl None = None
before_decl (Some x) = Some (decl_first x)
