use Rattle.std.proofs.Common.{refl, sym, subst, ap, ◌∙◌, ◌<◌, arith}
use Rattle.pw_check_state.specs.StateViews.{view_state}
use Rattle.pw_tree.specs.Views.{view_inits}
use Rattle.pw_check_init_parts.specs.FilledViews.{view_context}
use Rattle.pw_check_init.specs.Views.{view_reading}
use Rattle.pw_check_init_parts.proofs.WalkLemmas.{same_walk, done_with, ok_then}
use Rattle.pw_check_init.specs.Readings.{braces_turn, count_of_inits, left_of, outward}
use Rattle.pw_check_init.proofs.ReadingLemmas.{end_turn, first_value, first_braces, count_value, count_braces, count_none, shorter_outward}
use Rattle.pw_check_init.proofs.readings.turn.Goals as goal

pub returns-in-Value-clause-turn : goal.returns-in-Value-clause-turn
returns-in-Value-clause-turn g c =
    same_walk (first_value (view_context c.args.cx.now) (view_reading c.args.x) c.args.x.items.now (view_state c.args.state.now) c.in-Some.first.now c.in-Some.rest.now c.in-Value.e c.in-Some.ensures.cases.0 c.in-Value.is) c.value_turn.ensures.turn

pub returns-in-Value-clause-shorter : goal.returns-in-Value-clause-shorter
returns-in-Value-clause-shorter g c =
    ok_then c.value_turn.result c.value_turn.ensures.left
    (λ after left more. omega (arith, count_value c.args.x.items.now c.in-Some.first.now c.in-Some.rest.now c.in-Value.e c.in-Some.ensures.cases.0 c.in-Value.is))

pub returns-in-List-clause-turn : goal.returns-in-List-clause-turn
returns-in-List-clause-turn g c =
    same_walk (first_braces (view_context c.args.cx.now) (view_reading c.args.x) c.args.x.items.now (view_state c.args.state.now) c.in-Some.first.now c.in-Some.rest.now c.in-List.token c.in-List.items c.in-List.trailing_comma c.in-Some.ensures.cases.0 c.in-List.is
    (c.statements_show_their_lists.ensures.braces c.in-List.token c.in-List.items c.in-List.trailing_comma)
    ∙ ap (λ ws. braces_turn (view_context c.args.cx.now) (view_reading c.args.x) (view_inits ws) (view_inits c.in-Some.rest.now) (view_state c.args.state.now)) (sym c.deref.ensures.value))
    c.braces_turn.ensures.turn

pub returns-in-List-clause-shorter : goal.returns-in-List-clause-shorter
returns-in-List-clause-shorter g c =
    let inside = ap (λ ws. count_of_inits (view_inits ws)) c.deref.ensures.value in
    let all = count_braces c.args.x.items.now c.in-Some.first.now c.in-Some.rest.now c.in-List.token c.in-List.items c.in-List.trailing_comma c.in-Some.ensures.cases.0 c.in-List.is
    (c.statements_show_their_lists.ensures.braces c.in-List.token c.in-List.items c.in-List.trailing_comma) in
    ok_then c.braces_turn.result c.braces_turn.ensures.left (λ after left more. omega (arith, inside, all))

pub returns-in_ok-outward-in-None-clause-turn : goal.returns-in_ok-outward-in-None-clause-turn
returns-in_ok-outward-in-None-clause-turn g c =
    same_walk (end_turn (view_context c.args.cx.now) (view_reading c.args.x) c.args.x.items.now (view_state c.args.state.now) c.in-None.ensures.cases)
    (done_with refl (c.in_ok-outward-in-None.ensures ∙ ap (λ rs. outward rs (view_reading c.args.x)) c.records.ensures) refl)

pub returns-in_ok-outward-in-None-clause-shorter : goal.returns-in_ok-outward-in-None-clause-shorter
returns-in_ok-outward-in-None-clause-shorter g c = λ more.
    subst (λ y. left_of y < left_of (view_reading c.args.x)) (sym c.in_ok-outward-in-None.ensures)
    (shorter_outward c.records.result.now (view_reading c.args.x) more (count_none c.args.x.items.now c.in-None.ensures.cases))
