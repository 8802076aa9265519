use Rattle.std.proofs.Common.{◌≡◌, ◌*◌, ◌-◌, ◌^◌, min, arith}
use Rattle.std.proofs.lemmas.Grind.{common_steps}
use Rattle.pw_types.proofs.SizeLemmas.{size_of-array}
use Rattle.pw_types.specs.Views.{view_type}
use Rattle.pw_types.proofs.layouts.+size.Goals as goal

pub returns-in_ok-element-in-Array-default-Some : goal.returns-in_ok-element-in-Array-default-Some
unfolding view_type
returns-in_ok-element-in-Array-default-Some t c =
    let product : c.saturating_mul.result ≡ min (c.in_ok-element-in-Array-default-Some.element * c.in-Array-default-Some.count) (2 ^ 64 - 1) =
    cc (c.saturating_mul.ensures, c.from.ensures, c.in-Array-default-Some.count-is) in
    let e =
    size_of-array
    c.args.types.now (view_type c.deref.result.now.ty) c.in-Array-default-Some.count c.saturating_mul.result
    c.in_ok-element-in-Array-default-Some.element
    c.in_ok-element-in-Array-default-Some.ensures
    product in
    grind (arith, common_steps, e)
