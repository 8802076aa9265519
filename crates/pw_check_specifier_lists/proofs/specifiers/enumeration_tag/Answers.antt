use Rattle.std.proofs.Common.{None, refl, rules}
use Rattle.pw_check_state.specs.PhraseViews.{view_gathered}
use Rattle.pw_check_state.specs.StateViews.{view_state}
use Rattle.pw_types.specs.Views.{view_qtype}
use Rattle.pw_check_walk.specs.Walks.{outcome}
use Rattle.pw_check_walk.proofs.CallLaws.{step_ok, step_err}
use Rattle.pw_check_rules.specs.SpecifierLists.{gather_type}
use Rattle.pw_check_specifier_lists.specs.Specifying.{enumeration_tag_rule}
use Rattle.pw_check_specifier_lists.proofs.ToldLaws.{told_err, told_ok}
use Rattle.pw_check_specifier_lists.proofs.specifiers.enumeration_tag.Goals as goal

pub returns-in_err-ty-clause-follows : goal.returns-in_err-ty-clause-follows
unfolding enumeration_tag_rule
returns-in_err-ty-clause-follows c = step_err _ c.enumeration_rule.ensures.follows c.in_err-ty.was (search rules)

pub returns-in_err-ty-clause-told : goal.returns-in_err-ty-clause-told
unfolding enumeration_tag_rule
returns-in_err-ty-clause-told c =
    told_err _ c.enumeration_rule.ensures.follows c.enumeration_rule.ensures.no_memory c.in_err-ty.was (search rules)

pub returns-clause-follows : goal.returns-clause-follows
unfolding enumeration_tag_rule
returns-clause-follows c = step_ok _ c.enumeration_rule.ensures.follows c.in_ok-ty.was c.type_gathered.ensures

pub returns-clause-told : goal.returns-clause-told
unfolding enumeration_tag_rule outcome
returns-clause-told c =
    told_ok _ _ (gather_type (view_qtype c.in_ok-ty.ty) None (view_gathered c.args.gathered), view_state c.args.state.now)
    c.enumeration_rule.ensures.follows c.in_ok-ty.was refl
