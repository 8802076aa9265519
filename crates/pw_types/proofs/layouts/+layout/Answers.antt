use Rattle.std.proofs.Common.{◌≡◌, ◌*◌, ◌-◌, ◌^◌, min, arith}
use Rattle.std.proofs.lemmas.Grind.{common_steps}
use Rattle.pw_types.proofs.SizeLemmas.{layout_of-array, layout_of-exact, layout_of-lawful}
use Rattle.pw_types.specs.Layouts.{layout_of}
use Rattle.pw_types.specs.Views.{view_type}
use Rattle.pw_types.proofs.layouts.+layout.Goals as goal

pub returns-in_ok-element-in-Array-default-Some-clause-value :
    goal.returns-in_ok-element-in-Array-default-Some-clause-value
unfolding view_type
returns-in_ok-element-in-Array-default-Some-clause-value t c =
    let product : c.saturating_mul.result ≡ min (c.in_ok-element-in-Array-default-Some.element.size * c.in-Array-default-Some.count) (2 ^ 32 - 1) =
    cc (c.saturating_mul.ensures, c.in-Array-default-Some.count-is) in
    let e =
    layout_of-array
    c.args.types.now (view_type c.deref.result.now.ty) c.in-Array-default-Some.count c.saturating_mul.result
    c.in_ok-element-in-Array-default-Some.element
    c.in_ok-element-in-Array-default-Some.ensures.value
    product in
    grind (arith, common_steps, e)

pub returns-in_ok-element-in-Array-default-Some-clause-lawful :
    goal.returns-in_ok-element-in-Array-default-Some-clause-lawful
returns-in_ok-element-in-Array-default-Some-clause-lawful t c = λ none.
    layout_of-lawful
    c.args.types.now (view_type c.args.ty.now)
    _
    (returns-in_ok-element-in-Array-default-Some-clause-value t c)
    none

pub returns-in_ok-element-in-Array-default-Some-clause-exact :
    goal.returns-in_ok-element-in-Array-default-Some-clause-exact
returns-in_ok-element-in-Array-default-Some-clause-exact t c =
    layout_of-exact
    (layout_of c.args.types.now (view_type c.args.ty.now))
    _
    (returns-in_ok-element-in-Array-default-Some-clause-value t c)
