use Rattle.pw_top_switch.proofs.Switches.{but_one}
use Rattle.pw_top_switch.proofs.switch.words_but.Goals as goal

pub returns : goal.returns
returns c = but_one c.args.words.now c.in_ok-line.line.items _ c.words_before.result.now c.words_from.result.now c.args.at c.words_before.ensures c.words_from.ensures c.in_ok-line.ensures c.in_ok-push_copies.ensures
