-- Room on the stack.
use Rattle.std.proofs.Common.{ℕ, ◌+◌, ◌≡◌, refl, sym, ap, ◌∙◌, Bool, true, false, Ok, Err, List}
use Rattle.std.specs.Prelude.{not, nat_lt}
use Rattle.pw_cmean.specs.Worlds.{World}
use Rattle.pw_cmean.specs.Acts.{StackFull}
use Rattle.pw_cmean.specs.Evaluation.{take_room}
use Rattle.pw_interp_state.specs.Shown.{Shown}
use Rattle.pw_interp_state.specs.Runs.{Runs}
use Rattle.pw_interp_state.proofs.RunLaws.{room_shows, full_shows}

room_test : (b : Bool) → not b ≡ true → b ≡ false
room_test true e = cc e
room_test false e = refl

full_test : (b : Bool) → not b ≡ false → b ≡ true
full_test true e = refl
full_test false e = cc e

pub room_there : (world : World) (name : List ℕ) (frame : ℕ) (w : Shown) → frame ≡ world.frame_of name → not (nat_lt world.stack (frame + w.used)) ≡ true
    → Runs world (take_room world name) w (Ok tt) w
room_there world name frame w is test = room_shows world name w (ap (λ f. nat_lt world.stack (f + w.used)) (sym is) ∙ room_test _ test)

pub stack_full : (world : World) (name : List ℕ) (frame : ℕ) (w : Shown) → frame ≡ world.frame_of name → not (nat_lt world.stack (frame + w.used)) ≡ false
    → Runs world (take_room world name) w (Err StackFull) w
stack_full world name frame w is test = full_shows world name w (ap (λ f. nat_lt world.stack (f + w.used)) (sym is) ∙ full_test _ test)
