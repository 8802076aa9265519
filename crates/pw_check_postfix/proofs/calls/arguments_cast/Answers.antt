use Rattle.std.proofs.Common.{◌≡◌, ◌∙◌, sym, ap, rules, length, map}
use Rattle.std.specs.Vec.Iter.{into_iter_items}
use Rattle.pw_check_rules.specs.Operators.{arguments_cast}
use Rattle.pw_typed.specs.Views.{view_expr}
use Rattle.pw_types.specs.Views.{view_types}
use Rattle.pw_check_postfix.proofs.CallLemmas.{put_before, cast_surplus, cast_end, length_behind, nothing_in}
use Rattle.pw_check_postfix.proofs.calls.arguments_cast.Goals as goal

pub loop-e-preserved : goal.loop-e-preserved
loop-e-preserved c =
    let none : length c.loop-e.left.now ≡ 0 = search rules in
    record {
      told = ap (λ made. put_before made (arguments_cast (view_types c.loop-e.left.now) (map view_expr (into_iter_items c.next.new.self))))
          c.in_ok-push-in-None-split_first.ensures.items
          ∙ cast_surplus c.loop-e.made.items c.loop-e.left.now c.in-Some.e (into_iter_items c.next.new.self) (into_iter_items c.loop-e.e-iterator)
          (nothing_in c.loop-e.left.now none) c.in-Some.ensures.steps.0
          ∙ c.loop-e.invariant.told;
      count = length_behind (into_iter_items c.loop-e.e-iterator) c.in-Some.e (into_iter_items c.next.new.self) c.in-Some.ensures.steps.0 c.in-Some.ensures.steps.1 c.loop-e.invariant.count;
    }

pub returns : goal.returns
returns c =
    let none : length (into_iter_items c.loop-e.e-iterator) ≡ 0 = sym c.loop-e.invariant.count ∙ c.in-None.ensures.steps.0 in
    sym (cast_end c.loop-e.made.items c.loop-e.left.now (into_iter_items c.loop-e.e-iterator) (nothing_in _ none)) ∙ c.loop-e.invariant.told
