-- What the values of the rules of modules show.
use Rattle.std.specs.Prelude.{List, ◌∷◌, Vec}
use Rattle.std.specs.declared.alloc.Global.{Global}
use Rattle.pw_tree.specs.Trees as tree
use Rattle.pw_tree.specs.Views.{view_external, view_externals}
use Rattle.pw_tree.specs.declared.module.External.{External}

abbrev pub external_first : External → List tree.External → List tree.External
external_first x more = view_external x ∷ more

abbrev pub view_external_list : Vec External Global → List tree.External
view_external_list xs = view_externals xs.items
