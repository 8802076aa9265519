use Rattle.std.proofs.Common.{◌≡◌, arith, ap, sym, ◌∙◌}
use Rattle.std.proofs.lemmas.Grind.{common_steps}
use Rattle.pw_types.specs.TypeTrees as tree
use Rattle.pw_types.specs.Views.{view_qtype, view_types}
use Rattle.pw_types.specs.declared.ctype.Signature.{out-Signature, out-roll-Signature}
use Rattle.pw_types.proofs.ViewLemmas.{signature_view}
use Rattle.pw_check_rules.specs.Compatible.{composite, composite_parameters}
use Rattle.pw_check_types.proofs.PairLemmas.{composite_behind, composite_signatures, composite_pair, composite_none}
use Rattle.pw_check_types.proofs.TypeLists.{with_none, more_behind}
use Rattle.pw_check_types.proofs.composites.+composite.Goals as goal

pub composite_parameters-loop-q-preserved : goal.composite_parameters-loop-q-preserved
composite_parameters-loop-q-preserved t c =
    grind (arith, common_steps, composite_pair, composite_behind, more_behind, c.loop-q.invariant)

pub composite_parameters-returns : goal.composite_parameters-returns
composite_parameters-returns t c = grind (arith, common_steps, composite_none, with_none, c.loop-q.invariant)

pub composite_signature-returns : goal.composite_signature-returns
composite_signature-returns t c =
    signature_view c.in_ok-new.field-0.value
    ∙ (rw (c.in_ok-new.ensures.ok, out-roll-Signature)
    (ap (λ q. tree.Function q (view_types c.in_ok-params.params.items)) c.in_ok-result.ensures
    ∙ ap (tree.Function (composite (view_qtype (out-Signature c.args.a.now).result) (view_qtype (out-Signature c.args.b.now).result)))
    (c.in_ok-params.ensures
    ∙ ap (λ ps. composite_parameters (view_types ps) (view_types c.deref-2.result.now)) c.deref.ensures.value
    ∙ ap (λ ps. composite_parameters (view_types (out-Signature c.args.a.now).params.items) (view_types ps)) c.deref-2.ensures.value)))
    ∙ sym (composite_signatures c.args.a.now c.args.b.now)
