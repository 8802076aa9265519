use Rattle.std.proofs.Common.{rules, refl, sym, ap}
use Rattle.pw_check_state.specs.StateViews.{view_state}
use Rattle.pw_tree.specs.Views.{view_specifiers, view_word}
use Rattle.pw_check_walk.proofs.CallLaws.{step_ok, step_err}
use Rattle.pw_check_init_parts.proofs.WalkLemmas.{same_walk, done_with}
use Rattle.pw_typed.specs.Views.{view_initialisers}
use Rattle.pw_check_rules.specs.Leaves.{alone_rule}
use Rattle.pw_check_decl.proofs.BareLemmas.{bare_tag, bare_is_others}
use Rattle.pw_check_decl.proofs.bare.bare_rule.Goals as goal

pub returns-in_err-alone_rule-in-Some : goal.returns-in_err-alone_rule-in-Some
returns-in_err-alone_rule-in-Some g c = same_walk (bare_tag (view_specifiers c.args.specifiers.now) c.in-Some.kind (view_word c.in-Some.word.now) (view_state c.args.state.now) (sym c.in-Some.ensures)) (step_err _ (same_walk (ap (λ k. alone_rule k (view_word c.in-Some.word.now) (view_state c.args.state.now)) (sym c.record_kind.ensures)) c.alone_rule.ensures) c.in_err-alone_rule-in-Some.was (search rules))

pub returns-in_ok-alone_rule-in-Some : goal.returns-in_ok-alone_rule-in-Some
returns-in_ok-alone_rule-in-Some g c = same_walk (bare_tag (view_specifiers c.args.specifiers.now) c.in-Some.kind (view_word c.in-Some.word.now) (view_state c.args.state.now) (sym c.in-Some.ensures)) (step_ok _ (same_walk (ap (λ k. alone_rule k (view_word c.in-Some.word.now) (view_state c.args.state.now)) (sym c.record_kind.ensures)) c.alone_rule.ensures) c.in_ok-alone_rule-in-Some.was (done_with refl (ap view_initialisers c.new.ensures.items) refl))

pub returns-in-None : goal.returns-in-None
returns-in-None g c = same_walk (bare_is_others (view_specifiers c.args.specifiers.now) (view_state c.args.state.now) (sym c.in-None.ensures)) c.bare_others.ensures
