-- The walk over the frames of the functions that are active, from the latest one to `$start`: what the value of a global
-- is, and where it stands.
use Rattle.std.specs.Prelude.{ℕ, ◌≡◌, ℤ, pos, negsuc, ◌+◌, ◌-◌, ◌/◌, ◌%◌, ◌^◌, ◌+ℤ◌, ◌==◌, ◌&&◌, ◌<◌, nat_le, if◌then◌else◌, Bool, true, false, Option, Some, None, option_and_then, option_map, Result, Ok, Err, List, [], ◌∷◌, map, bytes_eq, slice_index, slice_set}
use Rattle.std.specs.List.{range_with_len}
use Rattle.pw_value.specs.Limits.{memory_size}
use Rattle.pw_value.specs.ProgramNames.{start_name}
use Rattle.pw_value.specs.Values.{extended}
use Rattle.pw_value.specs.declared.value.Kind.{Kind}
use Rattle.pw_value.specs.declared.value.Kind.TheVariants.{S8, S16}
use Rattle.pw_flow.specs.ValidFlow.{kind_size}
use Rattle.pw_webflow.specs.Direction.{register_of}
use Rattle.pw_alloc.specs.Frames.{below, link_place}
use Rattle.pw_inst.specs.Registers.{return_address, stack_pointer}
use Rattle.pw_image.specs.declared.image.Function.{Function}
use Rattle.pw_image.specs.declared.image.GlobalObject.{GlobalObject}
use Rattle.pw_machine.specs.Core.{Core, register, word_at}
use Rattle.pw_debug.specs.declared.info.FrameInfo.{FrameInfo}
use Rattle.pw_debug.specs.declared.info.Lost.{Lost}
use Rattle.pw_debug.specs.declared.turning.At.{At}
use Rattle.pw_debug.specs.declared.turning.Finding.{Finding}
use Rattle.pw_debug.specs.declared.turning.Finding.TheVariants.{Found, Nothing, On}
use Rattle.pw_debug.specs.Holding.{frame_at}

-- ---- words and values

-- the word at an address, if a whole one stands there
abbrev pub word_in : List ℕ → ℤ → Option ℕ
word_in memory (pos a) = if (a % 4 == 0) && nat_le (a + 4) memory_size then Some (word_at memory a) else None
word_in memory (negsuc n) = None

abbrev pub is_signed : Kind → Bool
is_signed S8 = true
is_signed S16 = true
is_signed _ = false

-- the value of a kind in the low bytes of a word, as a word
abbrev pub of_kind : Kind → ℕ → ℕ
of_kind k word = extended (kind_size k) (is_signed k) (word % 256 ^ kind_size k)

-- bytes that end so far into a word, as its low bytes
abbrev pub cut : ℕ → ℕ → ℕ
cut end word = word / 256 ^ (4 - end)

-- what memory holds at an address by a kind: the bytes stand in one word, the first being worth most
abbrev pub in_memory : List ℕ → Kind → ℕ → Option ℕ
in_memory memory k a =
    if nat_le (a % 4 + kind_size k) 4 then option_map (λ word. of_kind k (cut (a % 4 + kind_size k) word)) (word_in memory (pos (a - a % 4))) else None

-- ---- one function after another

-- the registers when a function has given back what it saved: each has the word at its offset from the stack pointer
abbrev pub given_back : List ℕ → ℕ → List (ℕ × ℤ) → List ℕ → Option (List ℕ)
given_back memory stack [] registers = Some registers
given_back memory stack (s ∷ rest) registers =
    option_and_then (λ word. given_back memory stack rest (slice_set registers s.0 word)) (word_in memory (pos stack +ℤ s.1))

-- the call behind a frame, with the address that stands in it
abbrev pub behind : ℕ → List ℕ → Option ℕ → Option At
behind stack registers None = None
behind stack registers (Some link) = Some (record { stack = stack; link = link; registers = registers })

-- the call of the function that called, if its frame is there and no word of it is missing
abbrev pub outward : List ℕ → FrameInfo → At → Option At
outward memory i at =
    if nat_le i.frame at.stack
    then option_and_then (λ registers. behind (at.stack - i.frame) registers (word_in memory (pos (at.stack - i.frame) +ℤ below link_place))) (given_back memory at.stack i.saved at.registers)
    else None

-- what a walk looks at: the map's functions, what is known of functions, the memory; and the global that is asked for,
-- by its name, its kind and where it stands in memory
pub record Seen : Type 0 where
  pub functions : List Function
  pub frames : List FrameInfo
  pub memory : List ℕ
  pub global : List ℕ
  pub kind : Kind
  pub address : ℕ

abbrev pub seen : List ℕ → List Function → List FrameInfo → GlobalObject → Kind → Seen
seen memory functions frames object kind = record { functions = functions; frames = frames; memory = memory; global = object.name; kind = kind; address = object.address }

-- where it goes on, the stack pointer is lower
abbrev pub GoesLower : At → Finding → Type 0
GoesLower at (On next) = next.stack < at.stack
GoesLower at (Found value) = Unit {0}
GoesLower at Nothing = Unit {0}

abbrev pub found_or_nothing : Option ℕ → Finding
found_or_nothing (Some value) = Found value
found_or_nothing None = Nothing

abbrev pub on_or_nothing : Option At → Finding
on_or_nothing (Some at) = On at
on_or_nothing None = Nothing

-- a function that has no web of the global: `$start` leaves it in memory
abbrev pub turn_in_memory : List ℕ → Kind → ℕ → At → FrameInfo → Finding
turn_in_memory memory kind address at i =
    if bytes_eq i.function start_name then found_or_nothing (in_memory memory kind address) else on_or_nothing (outward memory i at)

-- a function that has a web of the global keeps the value in the web's register
abbrev pub turn_by_web : Seen → At → FrameInfo → Option ℕ → Finding
turn_by_web seen at i (Some r) = Found (of_kind seen.kind (slice_index at.registers r))
turn_by_web seen at i None = turn_in_memory seen.memory seen.kind seen.address at i

-- the function that called, where it is known
abbrev pub turn_at : Seen → At → Option FrameInfo → Finding
turn_at seen at None = Nothing
turn_at seen at (Some i) = turn_by_web seen at i (register_of i.webs seen.global)

abbrev pub turn : Seen → At → Finding
turn seen at = turn_at seen at (frame_at seen.functions seen.frames at.link)

-- A walk comes to what its turns come to: the value, or the address that it is lost at.
pub data WalksTo (seen : Seen) : At → Result ℕ ℕ → Type 0 where
  found_at : (at : At) (value : ℕ) → turn seen at ≡ Found value → WalksTo seen at (Ok value)
  lost_at : (at : At) → turn seen at ≡ Nothing → WalksTo seen at (Err at.link)
  goes_on : (at next : At) (end : Result ℕ ℕ) → turn seen at ≡ On next → WalksTo seen next end → WalksTo seen at end

-- the general registers
abbrev pub registers_of : Core → List ℕ
registers_of core = map (register core) (range_with_len 0 32)

-- where the walk of a machine starts
abbrev pub start_of : Core → At
start_of core = record { stack = register core stack_pointer; link = register core return_address; registers = registers_of core }

-- the answer as a result of numbers
abbrev pub told : Result ℕ Lost → Result ℕ ℕ
told (Ok value) = Ok value
told (Err lost) = Err lost.0
