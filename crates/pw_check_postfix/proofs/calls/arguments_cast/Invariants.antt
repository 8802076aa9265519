use Rattle.std.proofs.Common.{◌≡◌, length, map}
use Rattle.std.specs.Vec.Iter.{into_iter_items, into_iter_len}
use Rattle.pw_typed.specs.Views.{view_expr}
use Rattle.pw_types.specs.Views.{view_types}
use Rattle.pw_check_rules.specs.Operators.{arguments_cast}
use Rattle.pw_check_postfix.proofs.CallLemmas.{put_before}
use Rattle.pw_check_postfix.proofs.calls.arguments_cast.Given as goal

-- what was made, and what is left, come to all
abbrev pub invariant-loop-e : goal.invariant-loop-e
invariant-loop-e l =
    record {
      told : put_before l.made.items (arguments_cast (view_types l.left) (map view_expr (into_iter_items l.e-iterator)))
          ≡ arguments_cast (view_types l.parameters) (map view_expr l.fn.args.items);
      count : into_iter_len l.e-iterator ≡ length (into_iter_items l.e-iterator);
    }
