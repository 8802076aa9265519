use Rattle.std.proofs.Common.{◌≡◌, ◌+◌, ◌-◌, Some, None, refl, sym, ap, ◌∙◌, arith, rules}
use Rattle.std.proofs.lemmas.Grind.{common_steps}
use Rattle.pw_interp_calls.specs.Views.{view_env}
use Rattle.pw_interp_functions.specs.Locals.{made_one}
use Rattle.pw_interp_functions.proofs.Making.{made_on, made_off, made_all}
use Rattle.pw_interp_functions.proofs.locals.make_locals.Goals as goal

pub returns-then-not-made : goal.returns-then-not-made
returns-then-not-made c =
    let i = c.loop-i.i in
    let e = view_env c.loop-i.inner in
    let os = c.loop-i.objects in
    let is : made_one i e os ≡ None = first_of (cc, grind (arith, common_steps)) in
    let off = made_off (c.args.count - i) (c.args.count - (i + 1)) i e os (omega arith) is in
    let stay : c.make_local.new.objects ≡ os = c.in_ok-made.ensures.unmade (search rules) in
    sym c.loop-i.invariant ∙ off ∙ ap (λ o. (None, o)) (sym stay)

pub loop-i-preserved : goal.loop-i-preserved
loop-i-preserved c =
    let i = c.loop-i.i in
    let e = view_env c.loop-i.inner in
    let os = c.loop-i.objects in
    let is : made_one i e os ≡ Some (view_env c.make_local.new.env, c.make_local.new.objects) = first_of (cc, grind (arith, common_steps)) in
    let on = made_on (c.args.count - i) (c.args.count - (i + 1)) i (i + 1) e (view_env c.make_local.new.env) os c.make_local.new.objects (omega arith) refl is in
    sym on ∙ c.loop-i.invariant

pub returns : goal.returns
returns c =
    let i = c.loop-i.i in
    sym c.loop-i.invariant ∙ made_all (c.args.count - i) i (view_env c.loop-i.inner) c.loop-i.objects (omega arith)
