-- What linking wants of words that move into slots.
use Rattle.std.specs.Prelude.{ℕ, ◌≡◌, ◌==◌, true, false, [], ◌∷◌}
use Rattle.pw_inst.specs.Computing.{target_registers}
use Rattle.pw_delay.specs.declared.items.Word.{Word}
use Rattle.pw_delay.specs.declared.items.Turn.{Turn}
use Rattle.pw_delay.specs.Filling.{may_move, branch, moves}
use Rattle.pw_run_languages.specs.Addresses.{Addresses}
use Rattle.pw_run_languages.specs.Acts.{Core, Acts, Full, register, acts, settled}

-- they never stop the run
abbrev pub MovedNeverStop : Type 0
MovedNeverStop = (w : Addresses) (word : Word) (c : Core) → may_move word.inst ≡ true → c.skip ≡ false → acts w (settled w word) c ≡ Full → ⊥

-- nor pass over the next word
abbrev pub MovedPassNothing : Type 0
MovedPassNothing = (w : Addresses) (word : Word) (c d : Core) → may_move word.inst ≡ true → c.skip ≡ false → acts w (settled w word) c ≡ Acts d → d.skip ≡ false

-- and they leave the register in which the branch of their turn puts a return address
abbrev pub MovedLeaveLinks : Type 0
MovedLeaveLinks =
    (w : Addresses) (word : Word) (turn : Turn) (r : ℕ) (c d : Core) → moves word.inst turn ≡ true → target_registers (branch turn) ≡ r ∷ [] → (r == 0) ≡ false → c.skip ≡ false
    → acts w (settled w word) c ≡ Acts d → register d r ≡ register c r
