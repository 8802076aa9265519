-- What the linker answers on a program that is too large, or not.
use Rattle.std.specs.Prelude.{◌≡◌, ◌⊎◌, ℕ, ◌+◌, List, length, Option, Some, None, Result, Ok, Err}
use Rattle.pw_value.specs.declared.fault.LinkFault.{LinkFault}
use Rattle.pw_value.specs.declared.fault.LinkFault.TheVariants.{NoMemory}
use Rattle.std.specs.List.{sum_by}
use Rattle.pw_value.specs.Limits.{text_start}
use Rattle.pw_flow.specs.declared.flow.FlowGlobal.{FlowGlobal}
use Rattle.pw_image.specs.Image.{data_start}
use Rattle.pw_image.specs.declared.image.Image.{Image}
use Rattle.pw_link.specs.declared.layout.Sizes.{Sizes}
use Rattle.pw_link.specs.Layout.{Piece, placed_from, standing_from, end_behind}
use Rattle.pw_flow.specs.ValidFlow.{global_room}
use Rattle.pw_link.specs.Linking.{image_by, fault_by}

-- the sizes of a program of so many words and so many bytes of data, or the first that is too large
abbrev pub AreSizes : ℕ → ℕ → ℕ → Result Sizes LinkFault → Type 0
AreSizes words size stack (Ok s) =
    (fault_by words (end_behind (data_start words) size stack) ≡ None)
    × (s ≡ record { data_begin = data_start words; data_size = size; stack = stack; stack_end = end_behind (data_start words) size stack })
AreSizes words size stack (Err e) = fault_by words (end_behind (data_start words) size stack) ≡ Some e

-- a program is refused where it is too large, and only there
abbrev pub AnswersSizes : Result Image LinkFault → Option LinkFault → Type 0
AnswersSizes (Ok image) fault = fault ≡ None
AnswersSizes (Err e) fault = (e ≡ NoMemory) ⊎ (fault ≡ Some e)

-- ---- pieces and global objects in the order of linking

abbrev pub words_of_parts : List Piece → ℕ
words_of_parts ps = sum_by (λ p. length p.words) ps + 1

abbrev pub end_of_parts : List Piece → List FlowGlobal → ℕ → ℕ
end_of_parts ps gs stack = end_behind (data_start (words_of_parts ps)) (sum_by global_room gs) stack

abbrev pub image_of_parts : List Piece → List FlowGlobal → ℕ → Image
image_of_parts ps gs stack = image_by (placed_from text_start ps) (standing_from 0 gs) (data_start (words_of_parts ps)) (sum_by global_room gs) stack (end_of_parts ps gs stack)

abbrev pub fault_of_parts : List Piece → List FlowGlobal → ℕ → Option LinkFault
fault_of_parts ps gs stack = fault_by (words_of_parts ps) (end_of_parts ps gs stack)
