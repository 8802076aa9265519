-- Words of temporaries in their places, and operands that come to registers.
use Rattle.std.specs.Prelude.{ℕ, false, ◌≡◌, ◌≢◌}
use Rattle.pw_alloc.specs.declared.located.Place.{Place}
use Rattle.pw_alloc.specs.declared.located.Place.TheVariants.{Slot, Reg}
use Rattle.pw_law_select_memory.specs.FromRunLanguages.Addresses.{Addresses}
use Rattle.pw_law_select_memory.specs.FromRunLanguages.Acts.{Core, register, number_at}
use Rattle.pw_law_select_memory.specs.FromRunLanguages.LineRun.{LineProgram}
use Rattle.pw_select_lines.specs.Registers.{operand_register, operand_lines, loaded}
use Rattle.pw_law_select_rows.specs.Straight.{words_of}
use Rattle.pw_law_select_rows.specs.Frames.{frame_word, IsFrameWord, LoadsWord}

-- the word that stands in a place
abbrev pub place_word : Core → Place → ℕ
place_word c (Reg r) = register c r
place_word c (Slot offset) = number_at 4 c.memory (frame_word c offset)

-- a place in the frame is one that may be loaded and stored
abbrev pub IsInReach : LineProgram → Addresses → Core → Place → Type 0
IsInReach p w c (Reg r) = Unit {0}
IsInReach p w c (Slot offset) = IsFrameWord p w (frame_word c offset)

-- an operand is in its own register, or comes to the one that is given for it
abbrev pub OperandsAreLoaded : Type 0
OperandsAreLoaded =
    (p : LineProgram) (w : Addresses) (a : Place) (other : ℕ) (c : Core) → other ≢ 0 → c.skip ≡ false → IsInReach p w c a
    → LoadsWord p w (words_of (operand_lines a other)) (operand_register a other) (place_word c a) c

-- a temporary's word comes to a register, from another or from the frame
abbrev pub TemporariesAreLoaded : Type 0
TemporariesAreLoaded =
    (p : LineProgram) (w : Addresses) (a : Place) (d : ℕ) (c : Core) → d ≢ 0 → c.skip ≡ false → IsInReach p w c a
    → LoadsWord p w (words_of (loaded a d)) d (place_word c a) c
