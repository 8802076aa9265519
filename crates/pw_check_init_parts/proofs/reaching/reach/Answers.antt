use Rattle.std.proofs.Common.{◌≡◌, ◌∙◌, ◌+◌, ◌-◌, ◌∷◌, ◌++◌, ap, sym, arith}
use Rattle.pw_value.specs.Limits.{depth_limit}
use Rattle.pw_check_rules.specs.Initialisers.{frame_of, next_target, reached}
use Rattle.pw_check_init_parts.specs.PlaceViews.{view_cursor, view_takes, view_target}
use Rattle.pw_check_init_parts.proofs.CursorLemmas.{cursor_push}
use Rattle.pw_check_init_parts.proofs.ReachLemmas.{no_part, arrived, deeper, too_deep}
use Rattle.pw_check_init_parts.proofs.reaching.reach.Goals as goal

pub returns-in_default : goal.returns-in_default
returns-in_default c =
    sym (no_part c.args.types.now (view_takes c.args.takes) (depth_limit + 1 - c.loop-level._level) (view_cursor c.loop-level.within.items ++ view_cursor c.args.cursor.now) c.in_ok-part.part (c.in_ok-part.ensures ∙ ap (λ ws. next_target c.args.types.now (view_cursor ws ++ view_cursor c.args.cursor.now)) c.deref.ensures.value) c.in_default.not-Some)
    ∙ c.loop-level.invariant

pub returns-then-ends_at : goal.returns-then-ends_at
returns-then-ends_at c =
    sym (arrived c.args.types.now (view_takes c.args.takes) (depth_limit + 1 - c.loop-level._level) (view_cursor c.loop-level.within.items ++ view_cursor c.args.cursor.now) c.in_ok-part.part c.in-Some.target
    (omega arith) (c.in_ok-part.ensures ∙ ap (λ ws. next_target c.args.types.now (view_cursor ws ++ view_cursor c.args.cursor.now)) c.deref.ensures.value) c.in-Some.is (sym c.ends_at.ensures ∙ c.if-ends_at.true))
    ∙ c.loop-level.invariant

pub loop-level-preserved : goal.loop-level-preserved
loop-level-preserved c =
    let d = deeper c.args.types.now (view_takes c.args.takes) (depth_limit + 1 - c.loop-level._level) (view_cursor c.loop-level.within.items ++ view_cursor c.args.cursor.now) c.in_ok-part.part c.in-Some.target
    (depth_limit + 1 - (c.loop-level._level + 1)) (omega arith) (c.in_ok-part.ensures ∙ ap (λ ws. next_target c.args.types.now (view_cursor ws ++ view_cursor c.args.cursor.now)) c.deref.ensures.value) c.in-Some.is (sym c.ends_at.ensures ∙ c.if-ends_at.false) in
    let pushed : view_cursor c.push.new.self.items ≡ frame_of (view_target c.in-Some.target) ∷ view_cursor c.loop-level.within.items =
    ap view_cursor c.in_ok-push.ensures.items ∙ cursor_push c.loop-level.within.items c.frame_of.result ∙ ap (λ f. f ∷ view_cursor c.loop-level.within.items) c.frame_of.ensures in
    ap (λ w. reached (depth_limit + 1 - (c.loop-level._level + 1)) c.args.types.now (view_takes c.args.takes) (w ++ view_cursor c.args.cursor.now)) pushed
    ∙ sym d ∙ c.loop-level.invariant

pub returns : goal.returns
returns c =
    sym (too_deep c.args.types.now (view_takes c.args.takes) (depth_limit + 1 - c.loop-level._level) (view_cursor c.loop-level.within.items ++ view_cursor c.args.cursor.now) (omega arith))
    ∙ c.loop-level.invariant
