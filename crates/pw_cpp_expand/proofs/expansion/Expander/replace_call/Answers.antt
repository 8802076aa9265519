use Rattle.std.proofs.Common.{◌≡◌, ◌+◌, arith, length, ap, subst, sym, ◌∙◌, List, map}
use Rattle.std.specs.List.{All}
use Rattle.pw_cpp_expand.specs.Left.{left}
use Rattle.pw_cpp_expand.proofs.Falling.{if-most, result-left}
use Rattle.pw_cpp_expand.proofs.Results.{made-as}
use Rattle.pw_cpp_expand.proofs.Whole.{replaced-whole}
use Rattle.pw_cpp_expand.proofs.expansion.Expander.replace_call.Goals as goal

pub result_of-requires-clause-hidden : goal.result_of-requires-clause-hidden
result_of-requires-clause-hidden c = c.requires.call.0

pub put_result-requires : goal.put_result-requires
put_result-requires c = c.requires.ready.limits.0

pub returns-clause-comes : goal.returns-clause-comes
returns-clause-comes c =
    replaced-whole c.args.ground.source.now c.args.ground.text.now c.args.ground.macros.now c.args.ground.mode c.args.sets.now _ c.in_ok-made.ensures.0 c.args.self.now c.args.call c.in_ok-made.made
    c.args.progress.now c.requires.ready c.requires.call c.in_ok-made.ensures.1
    (made-as c.args.ground.source.now c.args.sets.now _ _ _ _ _ _ _ c.in_ok-made.ensures.2 c.as_slice-arguments.ensures c.as_slice-replacement.ensures)
    _ _ c.put_result.result c.put_result.ensures

pub returns-clause-left : goal.returns-clause-left
returns-clause-left c =
    if-most c.put_result.result _ (left (length c.args.ground.text.now) (record c.args.self.now { pending = c.args.call.behind; out = c.args.call.before }) c.args.progress.now)
    (left (length c.args.ground.text.now) c.args.self.now c.args.progress.now + length c.args.call.behind) (omega arith)
    (result-left (length c.args.ground.text.now) (record c.args.self.now { pending = c.args.call.behind; out = c.args.call.before }) c.args.progress.now c.in_ok-made.made c.args.call.replaced.place c.put_result.new.self c.put_result.new.progress c.put_result.result c.put_result.ensures)
