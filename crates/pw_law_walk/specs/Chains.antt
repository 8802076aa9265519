-- Functions that are active, one behind another, as a walk over their frames meets them.
use Rattle.std.specs.Prelude.{ℕ, ◌≡◌, ◌≤◌, pos, ◌+◌, ◌%◌, ◌+ℤ◌, true, false, Option, Some, None, List, [], ◌∷◌, bytes_eq}
use Rattle.pw_value.specs.Limits.{memory_size}
use Rattle.pw_value.specs.ProgramNames.{start_name}
use Rattle.pw_value.specs.declared.value.Kind.{Kind}
use Rattle.pw_alloc.specs.Frames.{below, link_place}
use Rattle.pw_alloc.specs.ValidPlaces.{IsLocated}
use Rattle.pw_debug.specs.declared.turning.At.{At}
use Rattle.pw_debug.specs.Holding.{frame_at}
use Rattle.pw_debug.specs.Walk.{Seen, given_back, of_kind, word_in}
use Rattle.pw_debug_frames.specs.Frames.{frame_info, save_places}
use Rattle.pw_run_languages.specs.Standing.{Active}

-- From where a walk stands, these functions are active, the latest first: the address to which a call returns lies in the words
-- of the first; its frame ends at the stack pointer; its saved registers stand in words of memory, and so does its own return
-- address, below the stack pointer at its call. The last is `$start`.
pub data Chain (s : Seen) : At → List Active → Type 0 where
  starts : (at : At) (a : Active) → IsLocated a.function → frame_at s.functions s.frames at.link ≡ Some (frame_info a.function) → bytes_eq a.function.body.name start_name ≡ true → Chain s at (a ∷ [])
  calls : (at : At) (a : Active) (callers : List Active) (registers : List ℕ) (link : ℕ)
      → IsLocated a.function → frame_at s.functions s.frames at.link ≡ Some (frame_info a.function) → bytes_eq a.function.body.name start_name ≡ false
      → at.stack ≡ a.stack + a.function.frame
      → given_back s.memory at.stack (save_places a.function) at.registers ≡ Some registers
      → word_in s.memory (pos a.stack +ℤ below link_place) ≡ Some link
      → Chain s (record { stack = a.stack; link = link; registers = registers }) callers → Chain s at (a ∷ callers)

-- The same of functions whose words need not stand in memory, by the stack pointer and the address to which a call returns: but
-- where a function's own return address does, it is this one.
pub data Callers (s : Seen) : ℕ → ℕ → List Active → Type 0 where
  outermost : (stack link : ℕ) (a : Active) → IsLocated a.function → frame_at s.functions s.frames link ≡ Some (frame_info a.function) → bytes_eq a.function.body.name start_name ≡ true → Callers s stack link (a ∷ [])
  called : (stack link next : ℕ) (a : Active) (callers : List Active)
      → IsLocated a.function → frame_at s.functions s.frames link ≡ Some (frame_info a.function) → bytes_eq a.function.body.name start_name ≡ false
      → stack ≡ a.stack + a.function.frame
      → ((word : ℕ) → word_in s.memory (pos a.stack +ℤ below link_place) ≡ Some word → word ≡ next)
      → Callers s a.stack next callers → Callers s stack link (a ∷ callers)

-- The frame of an active function stands in the memory, at multiples of 8, behind room for a return address.
pub record StandsInMemory (a : Active) : Type 0 where
  pub low : link_place ≤ a.stack
  pub aligned : a.stack % 8 ≡ 0
  pub high : a.stack + a.function.frame ≤ memory_size

-- what is found where a global stands: in a word, as its kind has it; or else what memory holds
abbrev pub found : Kind → ℕ → Option ℕ → ℕ
found kind in_memory (Some word) = of_kind kind word
found kind in_memory None = in_memory
