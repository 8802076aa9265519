-- What a step of a run does: an act gives a value and goes on with the state behind it, or it ends the run.
use Rattle.std.specs.Prelude.{ℕ, ◌+◌, Bool, true, false, Option, Some, None, List, [], ◌∷◌, ◌++◌, length, replicate}
use Rattle.pw_value.specs.declared.value.Byte.{Byte}
use Rattle.pw_value.specs.declared.value.Byte.TheVariants as B
use Rattle.pw_value.specs.Words.{end_of_input}
use Rattle.pw_value.specs.Objects.{Object, written, ended}
use Rattle.pw_value.specs.Objects as objects
use Rattle.pw_cmean.specs.declared.undefined.Undef.{Undef}
use Rattle.pw_cmean.specs.Undefined.{Finding, least}

-- How a run ends: at an undefined operation, by the module and the token of the node that met it; because
-- the stack is full; with a status; or not within the bound. Wrong is where a typed tree of no accepted
-- program would lead.
pub data Ending : Type 0 where
  Undefined : Undef → List ℕ → ℕ → Ending
  StackFull : Ending
  Exit : ℕ → Ending
  Bound : Ending
  Wrong : Ending

-- a call of a function by its full name, or the return from it, and the objects then
pub data Moment : Type 0 where
  Called : List ℕ → List Object → Moment
  Returned : List ℕ → List Object → Moment

-- The objects by their numbers; the full names of the active functions, the newest first; what is left of
-- the input, and how many bytes were read; the output; the calls and returns so far, the newest first.
pub record State : Type 0 where
  pub objects : List Object
  pub active : List (List ℕ)
  pub rest : List ℕ
  pub read : ℕ
  pub out : List ℕ
  pub moments : List Moment

pub data Outcome (A : Type 0) : Type 0 where
  Gives : A → State → Outcome A
  Ends : Ending → State → Outcome A

abbrev pub Act : Type 0 → Type 0
Act A = State → Outcome A

-- ---- acts in order

unfoldable pub give : {A : Type 0} → A → Act A
give a s = Gives a s

unfoldable pub stop : {A : Type 0} → Ending → Act A
stop ending s = Ends ending s

-- go on with what was given
unfoldable pub go_on : {A B : Type 0} → Outcome A → (A → Act B) → Outcome B
go_on (Gives a s) next = next a s
go_on (Ends ending s) next = Ends ending s

infixl 10 ◌>>=◌
unfoldable pub ◌>>=◌ : {A B : Type 0} → Act A → (A → Act B) → Act B
(first >>= next) s = go_on (first s) next

infixl 10 ◌>>◌
abbrev pub ◌>>◌ : {A B : Type 0} → Act A → Act B → Act B
first >> next = first >>= λ _. next

unfoldable pub branch : {A : Type 0} → Bool → Act A → Act A → Act A
branch true yes_part no_part = yes_part
branch false yes_part no_part = no_part

-- what no accepted program does
unfoldable pub wrong : {A : Type 0} → Act A
wrong = stop Wrong

-- ---- the state

-- what the state says
unfoldable pub look : {A : Type 0} → (State → A) → Act A
look read s = Gives (read s) s

-- a new object of so many undefined bytes: its number
unfoldable pub make : ℕ → Bool → Act ℕ
make size writable s =
    let new : Object = record { bytes = replicate size B.Undefined; live = true; writable = writable } in
    Gives (length s.objects) (record s { objects = objects.with_object new s.objects })

-- an object ends, and keeps its number (6.1.2.4)
unfoldable pub end_object : ℕ → Act (Unit {0})
end_object number s = Gives tt (record s { objects = ended number s.objects })

-- new bytes of an object from an offset on
unfoldable pub write : ℕ → ℕ → List Byte → Act (Unit {0})
write number offset bytes s = Gives tt (record s { objects = written number offset bytes s.objects })

-- the next byte of the input, or -1 at its end (7.9.7.6)
unfoldable pub next_byte : List ℕ → State → Outcome ℕ
next_byte [] s = Gives end_of_input s
next_byte (byte ∷ rest) s = Gives byte (record s { rest = rest; read = s.read + 1 })

unfoldable pub get_char : Act ℕ
get_char s = next_byte s.rest s

-- a byte of the output (7.9.7.9)
unfoldable pub put_char : ℕ → Act (Unit {0})
put_char byte s = Gives tt (record s { out = s.out ++ byte ∷ [] })

-- an act while a function is active, with the moments of its call and its return
unfoldable pub called : List ℕ → State → State
called name s = record s { active = name ∷ s.active; moments = Called name s.objects ∷ s.moments }

unfoldable pub returned : {A : Type 0} → List ℕ → List (List ℕ) → Outcome A → Outcome A
returned name active (Gives a s) = Gives a (record s { active = active; moments = Returned name s.objects ∷ s.moments })
returned name active (Ends ending s) = Ends ending s

unfoldable pub during : {A : Type 0} → List ℕ → Act A → Act A
during name act s = returned name s.active (act (called name s))

-- ---- more acts

-- an act that has an object of its own, which ends behind it
unfoldable pub with_object : {A : Type 0} → ℕ → Bool → (ℕ → Act A) → Act A
with_object size writable act = do
  number ← make size writable
  a ← act number
  end_object number
  give a

-- the value that must be there
unfoldable pub need : {A : Type 0} → Option A → Act A
need (Some a) = give a
need None = wrong

-- the node of an expression or statement: the name of its module, and its token
pub record Site : Type 0 where
  pub home : List ℕ
  pub token : ℕ

unfoldable pub undefined : {A : Type 0} → Site → Undef → Act A
undefined site operation = stop (Undefined operation site.home site.token)

-- the run goes on only where the step is none of these operations
unfoldable pub told : Site → Option Undef → Act (Unit {0})
told site None = give tt
told site (Some operation) = undefined site operation

unfoldable pub judge : Site → List Finding → Act (Unit {0})
judge site findings = told site (least findings)
