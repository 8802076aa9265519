use Rattle.std.proofs.Common.{◌≡◌, Err, rules}
use Rattle.pw_cpp_expand.specs.AtHand.{AnswersExpansion}
use Rattle.pw_cpp_expand.specs.Numbered.{at_hand}
use Rattle.pw_cpp_expand.proofs.Turning.{fault-on}
use Rattle.pw_cpp_expand.proofs.Whole.{expanded-fault, expanded-whole}
use Rattle.pw_cpp_expand.proofs.expansion.expanded.Goals as goal

pub returns-in_err-run : goal.returns-in_err-run
returns-in_err-run c =
    fault-on (AnswersExpansion c.args.ground.source.now c.args.ground.text.now c.args.ground.macros.now c.args.ground.mode c.args.sets.now (at_hand c.args.sets.now c.args.pending) c.args.progress.now c.run.new.sets c.run.new.progress) c.in_err-run.field-0.0 c.from_residual.result
    (let e : c.from_residual.result ≡ Err c.in_err-run.field-0.0 = first_of (search (rules, c.from_residual.ensures), cc (c.from_residual.ensures)) in e)
    (expanded-fault c.args.ground.source.now c.args.ground.text.now c.args.ground.macros.now c.args.ground.mode c.args.sets.now (record { pending = c.args.pending; out = c.new-out.result; calls = c.new-calls.result }) c.args.progress.now c.new-out.ensures c.new-calls.ensures _ c.in_err-run.ensures.comes)

pub returns : goal.returns
returns c =
    expanded-whole c.args.ground.source.now c.args.ground.text.now c.args.ground.macros.now c.args.ground.mode c.args.sets.now (record { pending = c.args.pending; out = c.new-out.result; calls = c.new-calls.result }) c.args.progress.now c.new-out.ensures c.new-calls.ensures c.run.new.sets c.run.new.self c.run.new.progress
    c.in_ok-run.ensures.comes c.in_ok-run.ensures.done.0 c.in_ok-run.ensures.done.1
