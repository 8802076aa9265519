use Rattle.std.proofs.Common.{◌∙◌, ◌+◌, ◌-◌, ◌/◌, ◌++◌, reverse, ap, sym, arith}
use Rattle.std.proofs.lemmas.Grind.{common_steps}
use Rattle.std.proofs.lemmas.List.{append-nil}
use Rattle.pw_check_rules.specs.Initialisers.{word_bytes}
use Rattle.pw_check_init_parts.proofs.ByteLemmas.{byte_off, bytes_off, minus_none}
use Rattle.pw_check_init_parts.proofs.items.word_bytes.Goals as goal

pub loop-place-init : goal.loop-place-init
loop-place-init c =
    ap (λ bs. word_bytes (c.args.size - 0) c.args.word ++ reverse bs) c.new-bytes.ensures.items
    ∙ append-nil (word_bytes (c.args.size - 0) c.args.word)
    ∙ ap (λ k. word_bytes k c.args.word) (minus_none c.args.size)

pub loop-place-preserved : goal.loop-place-preserved
loop-place-preserved c =
    ap (λ bs. word_bytes (c.args.size - (c.loop-place._place + 1)) (c.loop-place.rest / 256) ++ reverse bs) c.in_ok-push.ensures.items
    ∙ sym (byte_off (c.args.size - c.loop-place._place) (c.args.size - (c.loop-place._place + 1)) c.loop-place.rest c.loop-place.bytes.items (omega arith))
    ∙ c.loop-place.invariant

pub returns : goal.returns
returns c =
    let b = bytes_off (c.args.size - c.loop-place._place) c.loop-place.rest c.loop-place.bytes.items (omega arith) in
    grind (arith, common_steps)
