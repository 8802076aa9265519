-- The text of a memory, decoded once.
use Rattle.std.specs.Prelude.{ℕ, ◌≡◌, ◌+◌, ◌*◌, ◌<◌, List, Option, None, IfSome, length, get_or}
use Rattle.std.specs.List.{AllZip}
use Rattle.pw_value.specs.Limits.{text_start}
use Rattle.pw_inst.specs.declared.Inst.{Inst}
use Rattle.pw_inst.specs.InstructionTable.{IsInRange, decoded}
use Rattle.pw_machine.specs.Core.{word_at}

-- what stands for a word of the text: its instruction, whose fields are in range, or none
abbrev pub StandsFor : ℕ → Option Inst → Type 0
StandsFor word entry = (entry ≡ decoded word) × IfSome entry IsInRange

-- what stands for words, one after another
abbrev pub AreDecoded : List ℕ → List (Option Inst) → Type 0
AreDecoded words code = AllZip StandsFor words code

-- what stands for the words of a memory from the start of the text on
unfoldable pub IsTextOf : List ℕ → List (Option Inst) → Type 0
IsTextOf memory code = (i : ℕ) → i < length code → StandsFor (word_at memory (text_start + 4 * i)) (get_or code i None)
