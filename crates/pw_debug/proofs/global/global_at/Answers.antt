use Rattle.std.proofs.Common.{◌∙◌, sym, subst, Ok, Err}
use Rattle.pw_debug.specs.Walk.{seen, WalksTo, found_at, lost_at, goes_on}
use Rattle.pw_debug.proofs.global.global_at.Goals as goal

-- src/global.rt:55:5
pub loop-value-init : goal.loop-value-init
loop-value-init c = λ end walks. subst (λ at. WalksTo (seen c.args.machine.now.core.memory c.args.functions.now c.args.frames.now c.args.object.now c.args.kind) at end) c.start_of-at.ensures walks

-- src/global.rt:57:38
pub returns-in-Found : goal.returns-in-Found
returns-in-Found c = c.loop-value.invariant (Ok c.in-Found.value) (found_at c.loop-value.at c.in-Found.value (sym c.turn.ensures.value ∙ c.in-Found.is))

-- src/global.rt:58:33
pub returns-in-Nothing : goal.returns-in-Nothing
returns-in-Nothing c = c.loop-value.invariant (Err c.loop-value.at.link) (lost_at c.loop-value.at (sym c.turn.ensures.value ∙ c.in-Nothing.is))

-- src/global.rt:55:5
pub loop-value-preserved : goal.loop-value-preserved
loop-value-preserved c = λ end walks. c.loop-value.invariant end (goes_on c.loop-value.at c.in-On.next end (sym c.turn.ensures.value ∙ c.in-On.is) walks)
