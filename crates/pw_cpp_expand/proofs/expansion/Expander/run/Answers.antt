use Rattle.std.proofs.Common.{◌≡◌, Bool, Err, Ok, rules}
use Rattle.pw_cpp_expand.specs.AtHand.{ComesTo}
use Rattle.pw_cpp_expand.proofs.Whole.{keeps-same, step-failed, step-on}
use Rattle.pw_cpp_expand.proofs.expansion.Expander.run.Goals as goal

pub loop-more-init : goal.loop-more-init
loop-more-init c = (keeps-same c.args.sets.now, c.requires, λ outcome h. h)

pub turn-requires : goal.turn-requires
turn-requires c = c.loop-more.invariant.1

pub returns-in_err-more-clause-comes : goal.returns-in_err-more-clause-comes
returns-in_err-more-clause-comes c =
    step-failed c.args.ground.source.now c.args.ground.text.now c.args.ground.macros.now c.args.ground.mode c.args.sets.now _ _ _ _ c.in_err-more.field-0.0 c.from_residual.result
    (let e : c.from_residual.result ≡ Err c.in_err-more.field-0.0 = first_of (search (rules, c.from_residual.ensures), cc (c.from_residual.ensures)) in e)
    (step-on c.args.ground.source.now c.args.ground.text.now c.args.ground.macros.now c.args.ground.mode {A = Bool} c.args.sets.now c.loop-more.sets c.turn.new.sets c.loop-more.invariant.0 (λ outcome. ComesTo c.args.ground.source.now c.args.ground.text.now c.args.ground.macros.now c.args.ground.mode c.loop-more.sets c.loop-more.self c.loop-more.progress outcome)
    (λ outcome. ComesTo c.args.ground.source.now c.args.ground.text.now c.args.ground.macros.now c.args.ground.mode c.args.sets.now c.args.self.now c.args.progress.now outcome) c.loop-more.invariant.2 c.turn.new.self c.turn.new.progress (Err c.in_err-more.field-0.0) c.in_err-more.ensures.comes)

pub returns-then-not-more-clause-done : goal.returns-then-not-more-clause-done
returns-then-not-more-clause-done c = c.in_ok-more.ensures.done c.if-not-more.true

pub returns-then-not-more-clause-comes : goal.returns-then-not-more-clause-comes
returns-then-not-more-clause-comes c =
    step-on c.args.ground.source.now c.args.ground.text.now c.args.ground.macros.now c.args.ground.mode {A = Bool} c.args.sets.now c.loop-more.sets c.turn.new.sets c.loop-more.invariant.0 (λ outcome. ComesTo c.args.ground.source.now c.args.ground.text.now c.args.ground.macros.now c.args.ground.mode c.loop-more.sets c.loop-more.self c.loop-more.progress outcome)
    (λ outcome. ComesTo c.args.ground.source.now c.args.ground.text.now c.args.ground.macros.now c.args.ground.mode c.args.sets.now c.args.self.now c.args.progress.now outcome) c.loop-more.invariant.2 c.turn.new.self c.turn.new.progress (Ok c.in_ok-more.more) c.in_ok-more.ensures.comes

pub loop-more-preserved : goal.loop-more-preserved
loop-more-preserved c =
    step-on c.args.ground.source.now c.args.ground.text.now c.args.ground.macros.now c.args.ground.mode {A = Bool} c.args.sets.now c.loop-more.sets c.turn.new.sets c.loop-more.invariant.0 (λ outcome. ComesTo c.args.ground.source.now c.args.ground.text.now c.args.ground.macros.now c.args.ground.mode c.loop-more.sets c.loop-more.self c.loop-more.progress outcome)
    (λ outcome. ComesTo c.args.ground.source.now c.args.ground.text.now c.args.ground.macros.now c.args.ground.mode c.args.sets.now c.args.self.now c.args.progress.now outcome) c.loop-more.invariant.2 c.turn.new.self c.turn.new.progress (Ok c.in_ok-more.more) c.in_ok-more.ensures.comes

pub loop-more-smaller : goal.loop-more-smaller
loop-more-smaller c = c.in_ok-more.ensures.left c.if-not-more.false
