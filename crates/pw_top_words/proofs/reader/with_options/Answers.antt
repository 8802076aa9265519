use Rattle.pw_top_words.proofs.Asked.{option_next}
use Rattle.pw_top_words.proofs.reader.with_options.Goals as goal

pub loop-option-preserved : goal.loop-option-preserved
loop-option-preserved c = option_next _ _ c.args.options.now c.loop-option.option-index _ c.loop-option-test.true c.loop-option.invariant c.in_ok-command.ensures
