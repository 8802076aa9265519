use Rattle.std.proofs.Common.{sym}
use Rattle.pw_check_init_parts.specs.PlaceViews.{view_cursor, view_frame}
use Rattle.pw_check_init_parts.proofs.ReachLemmas.{next_inner, next_outer}
use Rattle.pw_check_init_parts.proofs.reaching.next_within.Goals as goal

pub returns-in-Some : goal.returns-in-Some
returns-in-Some c =
    rw (next_inner c.args.types.now (view_cursor c.args.within.now) (view_cursor c.args.cursor.now) (view_frame c.in-Some.frame.now) (sym c.in-Some.ensures)) c.next_part.ensures

pub returns-in-None : goal.returns-in-None
returns-in-None c =
    rw (next_outer c.args.types.now (view_cursor c.args.within.now) (view_cursor c.args.cursor.now) (sym c.in-None.ensures)) c.next_target.ensures
