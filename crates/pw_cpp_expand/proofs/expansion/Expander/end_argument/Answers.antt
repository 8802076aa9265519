use Rattle.std.proofs.Common.{◌+◌, arith, length, refl, sym, ◌∙◌}
use Rattle.pw_cpp_expand.specs.Left.{left, left_of_call}
use Rattle.pw_cpp_expand.proofs.Falling.{if-less, next-left}
use Rattle.pw_cpp_expand.proofs.Whole.{last-argument, next-argument}
use Rattle.pw_cpp_expand.proofs.expansion.Expander.end_argument.Goals as goal

pub returns-in_default-clause-comes : goal.returns-in_default-clause-comes
returns-in_default-clause-comes c =
    last-argument c.args.ground.source.now c.args.ground.text.now c.args.ground.macros.now c.args.ground.mode c.args.sets.now c.args.self.now c.args.call c.args.progress.now c.requires.pending c.push.new.self
    c.replace-tokens.result c.replace-tokens.ensures.value c.in_ok-push.ensures c.in_default.ensures.0 c.replace-tokens.new.dest c.pop.new.self c.replace_call.new.sets c.replace_call.new.self c.replace_call.new.progress
    c.replace_call.result c.replace_call.ensures.comes

pub returns-clause-comes : goal.returns-clause-comes
returns-clause-comes c =
    next-argument c.args.ground.source.now c.args.ground.text.now c.args.ground.macros.now c.args.ground.mode c.args.sets.now c.args.self.now c.args.call c.args.progress.now c.requires.pending c.push.new.self
    c.replace-tokens.result c.replace-tokens.ensures.value c.in_ok-push.ensures c.pop.new.self c.in-Some.next c.in-Some.ensures c.replace-tokens.new.dest (c.replace-tokens.ensures.after ∙ c.new.ensures) c.requires.ready
    c.requires.call c.begin_argument.new.self c.in_ok-begin_argument.ensures

pub returns-in_default-clause-left : goal.returns-in_default-clause-left
returns-in_default-clause-left c =
    if-less c.replace_call.result _ (left (length c.args.ground.text.now) (record c.args.self.now { out = c.replace-tokens.new.dest }) c.args.progress.now + length c.args.call.behind)
    (left (length c.args.ground.text.now) c.args.self.now c.args.progress.now + left_of_call c.args.call) (omega arith) c.replace_call.ensures.left

pub returns-clause-left : goal.returns-clause-left
returns-clause-left c =
    next-left (length c.args.ground.text.now) (record c.args.self.now { out = c.replace-tokens.new.dest }) c.args.progress.now c.args.call
    (record c.args.call { expanded = c.push.new.self; parameter = c.in-Some.next.parameter; waiting = c.pop.new.self }) c.in-Some.next c.begin_argument.new.self c.in-Some.ensures refl
    c.in_ok-begin_argument.ensures
