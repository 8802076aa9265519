use Rattle.std.proofs.Common.{◌≡◌, ◌∙◌, ◌∷◌, ◌||◌, [], false, is_some, ap, sym, arith}
use Rattle.std.proofs.lemmas.Grind.{common_steps}
use Rattle.pw_check_rules.specs.Initialisers.{next_part, passed}
use Rattle.pw_check_rules.specs.Leaves.{is_nil}
use Rattle.pw_check_init_parts.specs.PlaceViews.{view_cursor, view_frame}
use Rattle.pw_check_init_parts.proofs.CursorLemmas.{cursor_push, if_left, passed_stays, passed_leaves, nothing_passed}
use Rattle.pw_check_init_parts.proofs.cursor.passed.Goals as goal

pub loop-frame-preserved : goal.loop-frame-preserved
loop-frame-preserved c =
    let leaves : (is_some (next_part c.args.types.now (view_frame c.in_ok-after.after)) || is_nil (view_cursor c.deref.result.now)) ≡ false =
    if_left c.staying.result _ c.staying.ensures.leaves c.in_default-staying.not-Some in
    sym (passed_leaves c.args.types.now c.pop.new.self.items c.in-Some.frame (view_frame c.in_ok-after.after) c.in_ok-after.ensures
    (ap (λ xs. is_some (next_part c.args.types.now (view_frame c.in_ok-after.after)) || is_nil (view_cursor xs)) (sym c.deref.ensures.value) ∙ leaves))
    ∙ ap (λ xs. passed c.args.types.now (view_cursor xs)) (sym c.in-Some.ensures.items)
    ∙ c.loop-frame.invariant

pub returns-in-Some-staying : goal.returns-in-Some-staying
returns-in-Some-staying c =
    ap view_cursor c.in_ok-push.ensures.items
    ∙ cursor_push c.pop.new.self.items c.in-Some-staying.after
    ∙ ap (λ f. f ∷ view_cursor c.pop.new.self.items) c.in-Some-staying.ensures.same
    ∙ sym (passed_stays c.args.types.now c.pop.new.self.items c.in-Some.frame (view_frame c.in_ok-after.after) c.in_ok-after.ensures
    (ap (λ xs. is_some (next_part c.args.types.now (view_frame c.in_ok-after.after)) || is_nil (view_cursor xs)) (sym c.deref.ensures.value) ∙ c.in-Some-staying.ensures.stays))
    ∙ ap (λ xs. passed c.args.types.now (view_cursor xs)) (sym c.in-Some.ensures.items)
    ∙ c.loop-frame.invariant

pub returns : goal.returns
returns c =
    let after : c.pop.new.self.items ≡ [] = grind (arith, common_steps) in
    let before : c.loop-frame.cursor.items ≡ [] = grind (arith, common_steps) in
    ap view_cursor after
    ∙ sym (nothing_passed c.args.types.now)
    ∙ ap (λ xs. passed c.args.types.now (view_cursor xs)) (sym before)
    ∙ c.loop-frame.invariant
