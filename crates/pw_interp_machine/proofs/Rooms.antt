-- Room on the stack.
use Rattle.std.proofs.Common.{ℕ, ◌+◌, ◌≡◌, ◌≤◌, Bool, true, false, refl, arith}
use Rattle.std.specs.Prelude.{nat_lt, not}
use Rattle.std.proofs.lemmas.Bool.Decides.{nat_tests}

pub room_test : (b : Bool) → not b ≡ true → b ≡ false
room_test true e = cc e
room_test false e = refl

pub full_test : (b : Bool) → not b ≡ false → b ≡ true
full_test true e = refl
full_test false e = cc e

pub room_fits : (stack frame used : ℕ) → not (nat_lt stack (frame + used)) ≡ true → frame + used ≤ stack
room_fits stack frame used test = let no : nat_lt stack (frame + used) ≡ false = room_test _ test in grind (arith, nat_tests)
