use Rattle.std.proofs.Common.{◌≡◌, [], ◌∷◌, ap, ◌∙◌}
use Rattle.pw_check_state.specs.StateViews.{view_state}
use Rattle.pw_check_walk.specs.Found.{found, found_behind}
use Rattle.pw_check_rules.specs.Limits.{name_within, type_within}
use Rattle.pw_check_rules.specs.Linkage.{is_internal_by, linkage_point, undefined_yet}
use Rattle.pw_check_rules.specs.States.{records_in}
use Rattle.pw_check_linkage.specs.Views.{view_asking}
use Rattle.pw_tree.specs.Views.{view_decls}
use Rattle.pw_check_heads.specs.Parts.{definition_asking, head_asks}
use Rattle.pw_check_heads.specs.Views.{view_head}
use Rattle.pw_check_heads.proofs.PointLaws.{found_chain}
use Rattle.pw_check_heads.proofs.heads.head_point.Goals as goal

pub returns : goal.returns
returns c =
    let s = view_state c.args.state.now in
    let h = view_head c.args.head.now in
    let internal : c.is_internal_by-internal.result ≡ is_internal_by s h.word.text (definition_asking h.storage) =
    c.is_internal_by-internal.ensures
    ∙ ap (λ text. is_internal_by s text (view_asking c.definition_asking-asking.result)) c.deref.ensures.value
    ∙ ap (λ a. is_internal_by s h.word.text a) c.definition_asking-asking.ensures in
    found_chain
    (linkage_point s h.word.text h.word.token (is_internal_by s h.word.text (definition_asking h.storage)) h.ty)
    (undefined_yet s h.word.text h.word.token) (head_asks h (view_decls c.args.declarations.now)) (name_within h.word.token h.word.text)
    (type_within (records_in s) h.word.token h.ty)
    c.linkage_point-linked.result.least c.undefined_yet-undefined.result.least c.head_asks-asked.result.least c.name_within-named.result.least
    c.in_ok-limits.limits.least _
    (c.linkage_point-linked.ensures
    ∙ ap (λ text. found (linkage_point s text h.word.token c.is_internal_by-internal.result h.ty)) c.deref-2.ensures.value
    ∙ ap (λ b. found (linkage_point s h.word.text h.word.token b h.ty)) internal)
    (c.undefined_yet-undefined.ensures
    ∙ ap (λ text. found_behind c.linkage_point-linked.result.least (undefined_yet s text h.word.token ∷ [])) c.deref-3.ensures.value)
    c.head_asks-asked.ensures
    (c.name_within-named.ensures
    ∙ ap (λ text. found_behind c.head_asks-asked.result.least (name_within h.word.token text ∷ [])) c.deref-4.ensures.value)
    (c.in_ok-limits.ensures ∙ ap (λ r. found (type_within r h.word.token h.ty)) c.records.ensures)
    c.and.ensures
