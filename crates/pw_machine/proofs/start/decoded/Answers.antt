use Rattle.std.proofs.Common.{◌+◌, ℕ, List, Option, take, get_or, subst, sym, ◌∙◌, arith}
use Rattle.std.proofs.lemmas.List.{take_all}
use Rattle.pw_inst.specs.declared.Inst.{Inst}
use Rattle.pw_machine.specs.Decoded.{AreDecoded}
use Rattle.pw_machine.proofs.Text.{decoded_more, decoded_length, in_range}
use Rattle.pw_machine.proofs.start.decoded.Goals as goal

pub loop-word-preserved : goal.loop-word-preserved
loop-word-preserved c =
    let i = c.loop-word.word-index in
    let words = c.args.words.now in
    subst (λ (code : List (Option Inst)). AreDecoded (take (i + 1) words) code) (sym c.in_ok-push.ensures.items)
    (decoded_more words c.loop-word.code.items i c.decode.result c.loop-word-test.true c.loop-word.invariant (c.decode.ensures.table, in_range (get_or words i 0) c.decode.result c.decode.ensures.found))

pub returns-clause-count : goal.returns-clause-count
returns-clause-count c =
    let code = c.loop-word.code in
    let whole = take_all c.loop-word.word-index c.args.words.now (omega (arith, c.loop-word-test.false)) in
    code.ok.0 ∙ decoded_length c.args.words.now code.items (subst (λ (words : List ℕ). AreDecoded words code.items) whole c.loop-word.invariant)
