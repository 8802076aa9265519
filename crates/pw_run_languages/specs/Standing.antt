-- Where the global objects stand in words: in memory, in a register, or in the word of a frame in which the register
-- was saved; and what words stand for values.
use Rattle.std.specs.Prelude.{ℕ, suc, ◌≡◌, ◌+◌, ◌-◌, ◌*◌, ◌/◌, ◌%◌, ◌^◌, Option, Some, None, option_map, unwrap_or, List, [], ◌∷◌, map}
use Rattle.std.specs.Option.{option_or}
use Rattle.pw_value.specs.declared.value.Value.{Value}
use Rattle.pw_value.specs.declared.value.Value.TheVariants.{Undefined, Num, Null, At, Piece}
use Rattle.pw_value.specs.declared.value.Byte.{Byte}
use Rattle.pw_value.specs.declared.value.Byte.TheVariants as B
use Rattle.pw_value.specs.declared.value.Pointer.{Pointer}
use Rattle.pw_value.specs.declared.value.Pointer.TheVariants as P
use Rattle.pw_flow.specs.declared.flow.FlowGlobal.{FlowGlobal}
use Rattle.pw_alloc.specs.declared.located.Located.{Located}
use Rattle.pw_alloc.specs.Frames.{head_size}
use Rattle.pw_run_languages.specs.Traces.{Standing, InMemory, InPlace, Event, EventAlike}
use Rattle.pw_run_languages.specs.Programs.{Program, globals_of, function_at}
use Rattle.pw_run_languages.specs.PlacedRun.{web_of}
use Rattle.pw_run_languages.specs.Acts.{put, number_at, bytes_at}

-- ---- places

-- a function that is active: the stack pointer and the kept registers at its call
pub record Active : Type 0 where
  pub function : Located
  pub stack : ℕ
  pub before : List ℕ

-- registers as they are when a function has given back what it saved: the i-th saved register stands so far below
-- the end of its frame
abbrev pub given_back : (ℕ → ℕ) → ℕ → ℕ → List ℕ → (ℕ → ℕ) → ℕ → ℕ
given_back memory top i [] registers = registers
given_back memory top i (r ∷ rest) registers =
    given_back memory top (suc i) rest (put r (number_at 4 memory (top - 4 * (i + 1))) registers)

abbrev pub without : Active → (ℕ → ℕ) → (ℕ → ℕ) → ℕ → ℕ
without a memory registers =
    given_back memory (a.stack + a.function.frame - head_size a.function.body) 0 a.function.saved registers

-- The latest active function that is in a web of the global finds it in the web's register, as that is when all
-- functions called after it have given back what they saved. A global of which no active function is in a web
-- stands in memory.
abbrev pub held : List ℕ → (ℕ → ℕ) → (ℕ → ℕ) → List Active → Option ℕ
held g memory registers [] = None
held g memory registers (a ∷ callers) =
    option_or (option_map registers (web_of a.function.body.directives.webs g)) (held g memory (without a memory registers) callers)

abbrev pub standing : Option ℕ → List ℕ → Standing ℕ ℕ
standing (Some word) bytes = InPlace word
standing None bytes = InMemory bytes

abbrev pub global_now : (List ℕ → ℕ) → (ℕ → ℕ) → (ℕ → ℕ) → List Active → FlowGlobal → Standing ℕ ℕ
global_now named memory registers active g =
    standing (held g.name memory registers active) (bytes_at g.size memory (named g.name))

abbrev pub globals_now : Program → (List ℕ → ℕ) → (ℕ → ℕ) → (ℕ → ℕ) → List Active → List (Standing ℕ ℕ)
globals_now p named memory registers active = map (global_now named memory registers active) (globals_of p)

-- ---- values in words

-- Where each object stands, by its number. A function stands where its name does.
abbrev pub pointer_address : Program → (List ℕ → ℕ) → (ℕ → ℕ) → Pointer → ℕ
pointer_address p named objects (P.Object o i) = (objects o + i) % 2 ^ 32
pointer_address p named objects (P.Function f) = unwrap_or (option_map named (function_at p f)) 0

-- byte i of a word, from the left
abbrev pub byte_of : ℕ → ℕ → ℕ
byte_of word i = word / 256 ^ (3 - i) % 256

-- A byte that is a number stands as that, a piece of a pointer as that byte of the pointer's address, and an undefined
-- one as any.
abbrev pub ByteStands : (Pointer → ℕ) → Byte → ℕ → Type 0
ByteStands address B.Undefined n = Unit {0}
ByteStands address (B.Num b) n = n ≡ b
ByteStands address (B.Piece q i) n = n ≡ byte_of (address q) i

-- so do values; a word that holds a piece of a pointer has it in its low 8 bits
abbrev pub ValueStands : (Pointer → ℕ) → Value → ℕ → Type 0
ValueStands address Undefined n = Unit {0}
ValueStands address (Num v) n = n ≡ v
ValueStands address Null n = n ≡ 0
ValueStands address (At q) n = n ≡ address q
ValueStands address (Piece q i) n = n % 256 ≡ byte_of (address q) i

-- the global objects stand where their names do
abbrev pub GlobalsAreNamed : (List ℕ → ℕ) → (ℕ → ℕ) → ℕ → List FlowGlobal → Type 0
GlobalsAreNamed named objects n [] = Unit {0}
GlobalsAreNamed named objects n (g ∷ gs) = (objects n ≡ named g.name) × GlobalsAreNamed named objects (suc n) gs

-- an event of a placed run and one in words: for some choice of where the objects stand, each value stands in its
-- place
pub record EventInWords (p : Program) (named : List ℕ → ℕ) (e : Event Byte Value) (f : Event ℕ ℕ) : Type 0 where
  pub objects : ℕ → ℕ
  pub globals : GlobalsAreNamed named objects 0 (globals_of p)
  pub alike : EventAlike (ByteStands (pointer_address p named objects)) (ValueStands (pointer_address p named objects)) e f
