use Rattle.std.proofs.Common.{ℕ, ◌≡◌, sym, ap, ◌∙◌, List, [], ◌∷◌, ◌++◌, map, take}
use Rattle.pw_interp_world.specs.Names.{number_among}
use Rattle.pw_interp_world.specs.Views.{view_callables}
use Rattle.pw_interp_world.proofs.NumberLemmas.{numbers_more}
use Rattle.pw_interp_world.proofs.numbers.function_numbers.Goals as goal

pub loop-callable-preserved : goal.loop-callable-preserved
loop-callable-preserved c =
    let number : c.in_ok-number.number ≡ number_among (view_callables c.args.callables.now) c.callable-item.result.name =
    c.in_ok-number.ensures ∙ ap (number_among (view_callables c.args.callables.now)) c.as_bytes.ensures.bytes in
    c.in_ok-push.ensures.items
    ∙ (ap (λ (ns : List ℕ). ns ++ c.in_ok-number.number ∷ []) c.loop-callable.invariant
    ∙ (ap (λ (n : ℕ). map (λ f. number_among (view_callables c.args.callables.now) f.name) (view_callables (take c.loop-callable.callable-index c.args.callables.now)) ++ n ∷ []) number
    ∙ sym (numbers_more (view_callables c.args.callables.now) c.args.callables.now c.loop-callable.callable-index c.callable-item.result c.loop-callable-test.true c.callable-item.is)))
