use Rattle.std.proofs.Common.{rules, refl, sym, ap, ◌∙◌}
use Rattle.pw_check_state.specs.StateViews.{view_state}
use Rattle.pw_check_init_parts.specs.PlaceViews.{view_cursor, view_target}
use Rattle.pw_tree.specs.Views.{view_inits, view_words}
use Rattle.pw_check_walk.proofs.CallLaws.{step_ok, step_err}
use Rattle.pw_check_init_parts.specs.FilledViews.{view_context}
use Rattle.pw_check_init.specs.Views.{view_reading}
use Rattle.pw_check_init_parts.proofs.WalkLemmas.{same_walk, done_with}
use Rattle.pw_check_rules.specs.Initialisers.{braced_string, braced_target, fills_characters, words_in}
use Rattle.pw_types.specs.TypeTrees.{type_of}
use Rattle.pw_check_init.proofs.ReadingLemmas.{braces_joined, entered_string, entered_list}
use Rattle.pw_check_init.proofs.readings.braces_turn.Goals as goal

pub returns-in_err-target-clause-turn : goal.returns-in_err-target-clause-turn
returns-in_err-target-clause-turn c = same_walk (braces_joined (view_context c.args.cx.now) (view_reading c.args.x) (view_inits c.args.items.now) (view_inits c.args.rest.now) (view_state c.args.state.now)) (step_err _ (same_walk (ap (λ k. braced_target (view_context c.args.cx.now) (view_cursor k) (view_state c.args.state.now)) (sym c.deref.ensures.value)) c.braced_target.ensures) c.in_err-target.was (search rules))

pub returns-in-Some-clause-turn : goal.returns-in-Some-clause-turn
returns-in-Some-clause-turn c =
    same_walk (braces_joined (view_context c.args.cx.now) (view_reading c.args.x) (view_inits c.args.items.now) (view_inits c.args.rest.now) (view_state c.args.state.now)) (step_ok _ (same_walk (ap (λ k. braced_target (view_context c.args.cx.now) (view_cursor k) (view_state c.args.state.now)) (sym c.deref.ensures.value)) c.braced_target.ensures) c.in_ok-target.was
    (same_walk (entered_string (view_context c.args.cx.now) (view_reading c.args.x) (view_inits c.args.items.now) (view_inits c.args.rest.now) (view_target c.in_ok-target.target) (view_words c.in-Some.words.now) (fills_characters (type_of (view_target c.in_ok-target.target).ty) (braced_string (view_inits c.args.items.now))) (view_state c.args.state.now)
    (ap (fills_characters (type_of (view_target c.in_ok-target.target).ty)) (sym c.braced_string.ensures) ∙ c.in-Some.ensures.filled)
    (ap words_in (sym c.braced_string.ensures) ∙ c.in-Some.ensures.words))
    c.string_turn.ensures.turn))

pub returns-clause-turn : goal.returns-clause-turn
returns-clause-turn c =
    same_walk (braces_joined (view_context c.args.cx.now) (view_reading c.args.x) (view_inits c.args.items.now) (view_inits c.args.rest.now) (view_state c.args.state.now)) (step_ok _ (same_walk (ap (λ k. braced_target (view_context c.args.cx.now) (view_cursor k) (view_state c.args.state.now)) (sym c.deref.ensures.value)) c.braced_target.ensures) c.in_ok-target.was
    (same_walk (entered_list (view_context c.args.cx.now) (view_reading c.args.x) (view_inits c.args.items.now) (view_inits c.args.rest.now) (view_target c.in_ok-target.target) (fills_characters (type_of (view_target c.in_ok-target.target).ty) (braced_string (view_inits c.args.items.now))) (view_state c.args.state.now)
    (ap (fills_characters (type_of (view_target c.in_ok-target.target).ty)) (sym c.braced_string.ensures) ∙ c.in-None.ensures.other))
    (done_with refl c.in_ok-inward-in-None.ensures refl)))
