-- Words of the stack, and places of temporaries by the end of their frame.
use Rattle.std.specs.Prelude.{ℕ, ℤ, ◌≡◌, ◌+◌, ◌-◌, ◌%◌, ◌≤◌}
use Rattle.pw_alloc.specs.declared.located.Place.{Place}
use Rattle.pw_alloc.specs.declared.located.Place.TheVariants.{Slot, Reg}
use Rattle.pw_alloc.specs.Frames.{below}
use Rattle.pw_run_languages.specs.Addresses.{Addresses, AreLawful}
use Rattle.pw_run_languages.specs.LineRun.{LineProgram}
use Rattle.pw_run_languages.specs.Serving.{IsTempRegister}
use Rattle.pw_law_select_rows.specs.Frames.{IsFrameWord}

-- a word from 64 bytes before the stack up to its end
pub record IsStackWord (w : Addresses) (a : ℕ) : Type 0 where
  pub aligned : a % 4 ≡ 0
  pub low : w.base ≤ a + 64
  pub high : a + 4 ≤ w.limit

-- the end of a frame, below which so many bytes are of the stack
pub record IsTop (w : Addresses) (top size : ℕ) : Type 0 where
  pub aligned : top % 4 ≡ 0
  pub low : w.base + size ≤ top
  pub high : top ≤ w.limit

-- a word of the stack that stands at least so far below the end of a frame, and no farther than so
pub record IsWordBelow (w : Addresses) (top least most : ℕ) (offset : ℤ) : Type 0 where
  pub far : ℕ
  pub is : offset ≡ below far
  pub low : least + 4 ≤ far
  pub high : far ≤ most
  pub inside : far ≤ top
  pub word : IsStackWord w (top - far)

-- the place of a temporary is such a word, or a register for temporaries
abbrev pub IsPlaceBelow : Addresses → ℕ → ℕ → ℕ → Place → Type 0
IsPlaceBelow w top least most (Reg r) = IsTempRegister r
IsPlaceBelow w top least most (Slot offset) = IsWordBelow w top least most offset

-- words of the stack may be loaded and stored, and stand above all globals
abbrev pub StackWordsAreFrameWords : Type 0
StackWordsAreFrameWords = (p : LineProgram) (w : Addresses) (a : ℕ) → AreLawful p.flow w → IsStackWord w a → IsFrameWord p w a
