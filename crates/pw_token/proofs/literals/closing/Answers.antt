use Rattle.std.proofs.Common.{◌≡◌, ◌+◌, true, false, length, sym, ap, ◌∙◌, length-drop, arith}
use Rattle.pw_token.proofs.Closing.{closing-splice, closing-open}
use Rattle.pw_token.specs.Scanning.{closing, is_splice, is_closed, is_broken}
use Rattle.pw_token.proofs.literals.closing.Goals as goal

pub loop-rest-preserved-then-is_splice : goal.loop-rest-preserved-then-is_splice
loop-rest-preserved-then-is_splice c =
    let splice : is_splice c.loop-rest.rest.now ≡ true = cc in
    let e = closing-splice c.args.quote c.loop-rest.mode c.loop-rest.count c.loop-rest.rest.now splice in (
      ap (closing c.args.quote c.loop-rest.mode (c.loop-rest.count + 2)) c.text_from-rest.ensures ∙ sym e ∙ c.loop-rest.invariant.0,
      omega (arith, length-drop 2 c.loop-rest.rest.now, ap length c.text_from-rest.ensures, c.is_splice.ensures.within c.if-is_splice.true),
    )

pub loop-rest-preserved : goal.loop-rest-preserved
loop-rest-preserved c =
    let plain : is_splice c.loop-rest.rest.now ≡ false = cc in
    let unclosed : is_closed c.next_mode-mode.result ≡ false = cc in
    let whole : is_broken c.next_mode-mode.result ≡ false = cc in (
      closing-open c.args.quote c.loop-rest.mode c.loop-rest.count c.loop-rest.rest.now _ _ plain (omega arith) c.next_mode-mode.ensures c.text_from-rest-else-is_splice.ensures unclosed whole ∙ c.loop-rest.invariant.0,
      omega (arith, length-drop 1 c.loop-rest.rest.now, ap length c.text_from-rest-else-is_splice.ensures),
    )
