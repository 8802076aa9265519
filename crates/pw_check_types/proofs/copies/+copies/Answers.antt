use Rattle.std.proofs.Common.{arith, ap, sym, ◌∙◌}
use Rattle.std.proofs.lemmas.Grind.{common_steps}
use Rattle.pw_types.specs.TypeTrees as tree
use Rattle.pw_types.specs.Views.{view_qtype, view_types}
use Rattle.pw_types.specs.declared.ctype.Signature.{out-Signature, out-roll-Signature}
use Rattle.pw_types.proofs.ViewLemmas.{signature_view}
use Rattle.pw_check_types.proofs.TypeLists.{view_more}
use Rattle.pw_check_types.proofs.copies.+copies.Goals as goal

pub copy_qtypes-loop-q-preserved : goal.copy_qtypes-loop-q-preserved
copy_qtypes-loop-q-preserved t c = grind (arith, common_steps, view_more, c.loop-q.invariant)

pub copy_signature-returns : goal.copy_signature-returns
copy_signature-returns t c =
    signature_view c.in_ok-new.field-0.value
    ∙ (rw (c.in_ok-new.ensures.ok, out-roll-Signature)
    (ap (λ q. tree.Function q (view_types c.in_ok-params.params.items)) c.in_ok-result.ensures
    ∙ ap (tree.Function (view_qtype (out-Signature c.args.signature.now).result)) (c.in_ok-params.ensures ∙ ap view_types c.deref.ensures.value)))
    ∙ sym (signature_view c.args.signature.now)
