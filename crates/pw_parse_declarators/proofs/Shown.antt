-- What nodes with lists in them show before the rest of their own list, and what lists show.
use Rattle.std.proofs.Common.{◌≡◌, ℕ, Bool, List, [], ◌∷◌, refl, ap}
use Rattle.std.specs.declared.alloc.Global.{Global}
use Rattle.std.specs.declared.vec.Vec.{Vec}
use Rattle.pw_tree.specs.Trees as tree
use Rattle.pw_tree.specs.Views.{view_pointer, view_pointers, view_suffix, view_suffixes, view_parameters}
use Rattle.pw_tree.specs.declared.expr.Parameter.{Parameter}
use Rattle.pw_tree.specs.declared.expr.Pointer.{Pointer}
use Rattle.pw_tree.specs.declared.expr.Qualifier.{Qualifier}
use Rattle.pw_tree.specs.declared.expr.Suffix.{Suffix}
use Rattle.pw_tree.specs.declared.expr.Suffix as suffix
use Rattle.pw_parse_declarators.specs.Views.{qualifier_first, pointer_first, parameter_first}
use Rattle.pw_parse_cursor.proofs.Loops.{prepend}
use Rattle.pw_parse_cursor.proofs.Shown.{mapped}

pub prototype_shown : ((t : ℕ) (ps : Vec Parameter Global) (rest : tree.Suffixes) → view_suffix (suffix.Parameters t ps) rest ≡ tree.Prototype t (view_parameters ps.items) rest)
    → (t : ℕ) (ps : Vec Parameter Global) → view_suffix (suffix.Parameters t ps) ≡ tree.Prototype t (view_parameters ps.items)
prototype_shown law t ps = λ j rest. law t ps rest j

pub variadic_shown : ((t : ℕ) (ps : Vec Parameter Global) (rest : tree.Suffixes) → view_suffix (suffix.Variadic t ps) rest ≡ tree.Variadic t (view_parameters ps.items) rest)
    → (t : ℕ) (ps : Vec Parameter Global) → view_suffix (suffix.Variadic t ps) ≡ tree.Variadic t (view_parameters ps.items)
variadic_shown law t ps = λ j rest. law t ps rest j

pub pointers_shown : (ps : List Pointer) → prepend pointer_first ps [] ≡ view_pointers ps
pointers_shown = mapped view_pointer

pub qualifiers_shown : (qs : List Qualifier) → prepend qualifier_first qs [] ≡ qs
qualifiers_shown [] = refl
qualifiers_shown (q ∷ qs) = ap (λ more. q ∷ more) (qualifiers_shown qs)

pub suffixes_shown : (fs : List Suffix) → prepend view_suffix fs tree.NoSuffix ≡ view_suffixes fs
suffixes_shown [] = refl
suffixes_shown (f ∷ fs) = ap (view_suffix f) (suffixes_shown fs)

pub parameters_shown : (ps : List Parameter) (variadic : Bool) → prepend parameter_first ps (tree.NoParameter, variadic) ≡ (view_parameters ps, variadic)
parameters_shown [] variadic = refl
parameters_shown (p ∷ ps) variadic = ap (parameter_first p) (parameters_shown ps variadic)
