use Rattle.std.proofs.Common.{◌≡◌, refl, ap, sym, ◌∙◌}
use Rattle.pw_check_state.specs.PhraseViews.{view_derivation}
use Rattle.pw_types.specs.TypeTrees as tree
use Rattle.pw_types.specs.Views.{view_type, view_signature, view_qtype, view_types}
use Rattle.pw_types.specs.declared.ctype.Signature.{out-roll-Signature}
use Rattle.pw_types.proofs.ViewLemmas.{signature_view}
use Rattle.pw_check_rules.specs.Derivations.{step_type}
use Rattle.pw_check_rules.specs.Kinds.{plain}
use Rattle.pw_check_limits.proofs.derivations.step_type.Goals as goal

pub returns-in_ok-new-in-ToFunction : goal.returns-in_ok-new-in-ToFunction
unfolding view_type
returns-in_ok-new-in-ToFunction c =
    let shown : view_signature c.in_ok-new-in-ToFunction.field-0.value ≡ tree.Function (view_qtype c.args.q) (view_types c.in-ToFunction.params.items) =
    signature_view c.in_ok-new-in-ToFunction.field-0.value ∙ rw (c.in_ok-new-in-ToFunction.ensures.ok, out-roll-Signature) refl in
    let wanted : step_type (view_derivation c.args.step) (view_qtype c.args.q) ≡ plain (tree.Function (view_qtype c.args.q) (view_types c.in-ToFunction.params.items)) =
    rw c.in-ToFunction.is refl in
    c.plain-in-ToFunction.ensures ∙ ap plain shown ∙ sym wanted
