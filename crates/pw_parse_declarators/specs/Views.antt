-- What the values of the rules of declarators show. `.._first` is an item before the rest of its list.
use Rattle.std.specs.Prelude.{Bool, List, ◌∷◌, Vec, Option, Some, None}
use Rattle.std.specs.declared.alloc.Global.{Global}
use Rattle.pw_tree.specs.Trees as tree
use Rattle.pw_tree.specs.Views.{view_declarator, view_pointer, view_pointers, view_specifiers, view_parameters}
use Rattle.pw_tree.specs.declared.expr.Parameter.{Parameter}
use Rattle.pw_tree.specs.declared.expr.Pointer.{Pointer}
use Rattle.pw_tree.specs.declared.expr.Qualifier.{Qualifier}

abbrev pub qualifier_first : Qualifier → List Qualifier → List Qualifier
qualifier_first x more = x ∷ more

abbrev pub before_qualifier : Option Qualifier → Option (List Qualifier → List Qualifier)
before_qualifier None = None
before_qualifier (Some x) = Some (qualifier_first x)

abbrev pub view_qualifier_list : Vec Qualifier Global → List Qualifier
view_qualifier_list qs = qs.items

abbrev pub pointer_first : Pointer → List tree.Pointer → List tree.Pointer
pointer_first x more = view_pointer x ∷ more

abbrev pub before_pointer : Option Pointer → Option (List tree.Pointer → List tree.Pointer)
before_pointer None = None
before_pointer (Some x) = Some (pointer_first x)

abbrev pub view_pointer_list : Vec Pointer Global → List tree.Pointer
view_pointer_list xs = view_pointers xs.items

abbrev pub parameter_first : Parameter → tree.Parameters × Bool → tree.Parameters × Bool
parameter_first p more = (tree.Parameter (view_specifiers p.specifiers.items) (view_declarator p.declarator) more.0, more.1)

abbrev pub view_parameters_end : Vec Parameter Global × Bool → tree.Parameters × Bool
view_parameters_end ps = (view_parameters ps.0.items, ps.1)
