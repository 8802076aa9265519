use Rattle.std.proofs.Common.{◌∙◌, map, string_bytes, ap}
use Rattle.pw_top_switch.specs.Switch.{Text}
use Rattle.std.specs.Prelude.{◌++◌, ◌∷◌, []}
use Rattle.pw_top_switch.proofs.Switches.{one_pushed}
use Rattle.pw_top_switch.proofs.switch.push_copies.Goals as goal

pub loop-word-preserved : goal.loop-word-preserved
loop-word-preserved c =
    one_pushed c.args.words.now c.loop-word.word-index c.word-item.result (map string_bytes c.args.line.now.items) (map string_bytes c.loop-word.line.items) _
    c.loop-word-test.true c.word-item.is c.loop-word.invariant
    (c.in_ok-push_copy.ensures ∙ ap (λ (w : Text). map string_bytes c.loop-word.line.items ++ w ∷ []) c.as_str.ensures.value)
