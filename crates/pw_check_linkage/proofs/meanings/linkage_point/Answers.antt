use Rattle.std.proofs.Common.{true, ap, ◌∙◌}
use Rattle.std.specs.Option.{option_map_or}
use Rattle.pw_types.specs.Views.{view_qtype}
use Rattle.pw_check_rules.specs.Compatible.{compatible}
use Rattle.pw_check_rules.specs.Linkage.{same_linkage}
use Rattle.pw_check_linkage.proofs.CauseLemmas.{three_needed}
use Rattle.pw_check_linkage.proofs.meanings.linkage_point.Goals as goal

pub returns : goal.returns
returns c =
    three_needed _ _ _ _ _ _ _ _ _ _ _ c.none.ensures c.needs.ensures c.needs-2.ensures c.needs-3.ensures
    c.is_linked_here-one_meaning.ensures
    (c.keeps_linkage-one_linkage.ensures ∙ ap (λ o. option_map_or (same_linkage c.args.internal) o true) c.linked_before-before.ensures)
    (c.keeps_type-one_type.ensures
    ∙ ap (λ o. option_map_or (λ l. compatible l.ty (view_qtype c.args.ty.now)) o true) c.linked_before-before.ensures)
