-- The difference of two pointers to arrays of no elements, which are typed but which no text gives: its code is that of
-- `(p - q) / 0`, so in C's meaning it is an undefined operation as well. By computing the definitions.
use Rattle.std.proofs.Common.{ℕ, ◌≡◌, refl, false, List, [], ◌∷◌, Some, None}
use Rattle.std.specs.Prelude.{codes}
use Rattle.pw_value.specs.declared.value.Value.{Value}
use Rattle.pw_value.specs.declared.value.Value.TheVariants as V
use Rattle.pw_value.specs.declared.value.Pointer.TheVariants as P
use Rattle.pw_types.specs.TypeTrees.{CType, Int, Pointer, Array, Qualified}
use Rattle.pw_types.specs.declared.kind.IntKind.TheVariants as K
use Rattle.pw_types.specs.declared.tree.BinaryOperator.TheVariants as O
use Rattle.pw_flow.specs.declared.flow.Op.TheVariants as op
use Rattle.pw_flow.specs.declared.flow.BinKind.TheVariants.{Sub, DivS}
use Rattle.pw_lower.specs.Operators.{combined}
use Rattle.pw_lower.specs.Modules.{start_code}
use Rattle.pw_cmean.specs.declared.undefined.Undef.TheVariants as U
use Rattle.pw_cmean.specs.Acts.{Site, Undefined, Ends, give, stop, go_on, ◌>>=◌, look, need, undefined, told, judge}
use Rattle.pw_cmean.specs.Access.{objects_now}
use Rattle.pw_cmean.specs.Operators.{binary, on_pointers, difference}
use Rattle.pw_run_languages.specs.Values as flow
use Rattle.pw_tests_refine.proofs.Examples.{bump, n_is}
use Rattle.pw_tests_refine.proofs.ExampleStates.{state}

abbrev to_none : CType
to_none = Pointer (Qualified (Array (Qualified (Int K.Char) false false) (Some 0)) false false)

abbrev at : Site
at = record { home = codes "a"; token = 3 }

abbrev p : Value
p = V.At (P.Object 0 0)

is_undefined : binary at [] O.Subtract to_none to_none p p (state 0) ≡ Ends (Undefined U.PointerDifference (codes "a") 3) (state 0)
unfolding give stop go_on ◌>>=◌ look need undefined told judge objects_now binary on_pointers difference
is_undefined = refl

code_is : (combined [] O.Subtract to_none to_none 0 1 (start_code bump 2)).code.ops ≡ op.Bin Sub 2 0 1 ∷ op.Const 3 0 ∷ op.Bin DivS 4 2 3 ∷ []
code_is = refl

goes_astray : flow.binary (n_is 0) DivS (V.Num 0) (V.Num 0) ≡ None
goes_astray = refl
