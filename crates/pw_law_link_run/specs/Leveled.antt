-- Where the stack pointer is, item by item: what holds of each state of the run of lines, if it holds of the items of
-- each function by itself.
use Rattle.std.specs.Prelude.{ℕ, ◌≡◌, ◌≢◌, ◌+◌, ◌*◌, ◌<◌, ◌≤◌, ◌⊎◌, ◌^◌, false, Option, Some, None, List, [], ◌∷◌, ◌++◌, length, Contains, ◌%◌, Bool, true, if◌then◌else◌}
use Rattle.std.specs.List.{AllByRecursion}
use Rattle.pw_alloc.specs.Frames.{head_size}
use Rattle.pw_delay.specs.declared.items.Word.{Word}
use Rattle.pw_delay.specs.declared.items.Turn.{Turn}
use Rattle.pw_delay.specs.declared.items.Turn.TheVariants.{Goto, Leave}
use Rattle.pw_delay.specs.declared.items.Item.{Item}
use Rattle.pw_delay.specs.declared.items.Item.TheVariants.{Plain, Turns, Mark}
use Rattle.pw_run_languages.specs.Programs.{globals_of}
use Rattle.pw_run_languages.specs.Acts as lines
use Rattle.pw_run_languages.specs.Acts.{Acts, acts, settled}
use Rattle.pw_run_languages.specs.LineRun.{LineFn, Frame, Machine, Step, On, Stopped, Astray, back_over, IsCalling}
use Rattle.pw_run_languages.specs.MachineRun.{function_at}
use Rattle.pw_law_link_run.specs.Steps.{Setting, map_in}
use Rattle.pw_law_link_run.specs.Placing.{own_address, words_of, Parts}
use Rattle.pw_law_link_run.specs.Meeting.{Meets, IsTurning}
use Rattle.pw_law_link_run.specs.Simulating.{IsCaller}

-- the stack pointer at a call is above the data, and so far below the greatest word that a frame fits above it
pub record IsStack (x : Setting) (f : LineFn) (stack : ℕ) : Type 0 where
  pub low : x.addresses.data_start ≤ stack
  pub high : stack + f.located.frame < 2 ^ 32

-- the stack pointer is at the end of the frame
pub record IsRaised (x : Setting) (f : LineFn) (stack : ℕ) (c : lines.Core) : Type 0 where
  pub bounds : IsStack x f stack
  pub pointer : lines.register c 30 ≡ stack + f.located.frame

-- ---- levels

-- What is known at a place: where the pointer is, at the end of the frame or as at the call; whether the stack is known to
-- be one; whether the next word is not passed over; and what register 1 holds: a number, above the stack pointer at the
-- call or by itself.
pub record Level : Type 0 where
  pub raised : Option Bool
  pub bounded : Bool
  pub clear : Bool
  pub help : Option (Bool × ℕ)

abbrev pub HelpIs : Option (Bool × ℕ) → ℕ → lines.Core → Type 0
HelpIs None stack c = Unit {0}
HelpIs (Some h) stack c = lines.register c 1 ≡ ((if h.0 then stack else 0) + h.1) % 2 ^ 32

abbrev pub PointerIs : Option Bool → LineFn → ℕ → lines.Core → Type 0
PointerIs None f stack c = Unit {0}
PointerIs (Some raised) f stack c = lines.register c 30 ≡ (if raised then stack + f.located.frame else stack)

pub record HoldsAt (x : Setting) (f : LineFn) (l : Level) (stack : ℕ) (c : lines.Core) : Type 0 where
  pub small : stack < 2 ^ 32
  pub pointer : PointerIs l.raised f stack c
  pub bounds : l.bounded ≡ true → IsStack x f stack
  pub clear : l.clear ≡ true → c.skip ≡ false
  pub help : HelpIs l.help stack c

-- no call of the function leads back to where so many words stand before
abbrev pub IsCold : Setting → LineFn → ℕ → Type 0
IsCold x f words =
    (before rest : List Item) (item : Item) → f.items ≡ before ++ item ∷ rest → IsCalling item → words ≢ words_of x f (before ++ item ∷ [])

-- the pointer is above the one at the call, or no call leads back to where so many words stand before
abbrev pub IsApart : Setting → LineFn → ℕ → ℕ → lines.Core → Type 0
IsApart x f words stack c = (stack < lines.register c 30) ⊎ IsCold x f words

-- What holds at each place of a function's items, by the stack pointer at its call: from one place to the next by each
-- word; at the beginning of a block and at each turn but a return, and behind its slot, the pointer is at the end of the
-- frame, and behind these nothing else need hold; a return is not where a call leads back to.
pub record IsLeveled (x : Setting) (f : LineFn) : Type 0 where
  pub at : List Item → Level
  pub entry : (stack : ℕ) (c : lines.Core) → stack < 2 ^ 32 → lines.register c 30 ≡ stack → c.skip ≡ false → HoldsAt x f (at f.items) stack c
  pub word : (before rest : List Item) (w : Word) (stack : ℕ) (c d : lines.Core) → Parts f before (Plain w ∷ rest) → HoldsAt x f (at (Plain w ∷ rest)) stack c
      → acts x.addresses (settled x.addresses w) c ≡ Acts d → HoldsAt x f (at rest) stack d
  pub block : (before rest : List Item) (b stack : ℕ) (c : lines.Core) → Parts f before (Mark b ∷ rest) → HoldsAt x f (at (Mark b ∷ rest)) stack c → IsRaised x f stack c
  pub turn : (before rest : List Item) (item : Item) (stack : ℕ) (c : lines.Core) → Parts f before (item ∷ rest) → IsTurning item → HoldsAt x f (at (item ∷ rest)) stack c
      → IsRaised x f stack c
  pub behind_block : (before rest : List Item) (b stack : ℕ) (c : lines.Core) → Parts f before (Mark b ∷ rest) → IsRaised x f stack c → HoldsAt x f (at rest) stack c
  pub behind_turn : (before rest : List Item) (item : Item) (stack : ℕ) (c : lines.Core) → Parts f before (item ∷ rest) → IsTurning item → IsRaised x f stack c
      → HoldsAt x f (at rest) stack c
  pub loop : (before rest from : List Item) (item : Item) (n stack : ℕ) (c : lines.Core) → Parts f before (item ∷ rest) → IsTurning item
      → back_over n (item ∷ rest) f.items ≡ Some from → IsRaised x f stack c → HoldsAt x f (at from) stack c
  pub slot : (before rest : List Item) (turn : Turn) (w : Word) (stack : ℕ) (c d : lines.Core) → Parts f before (Turns turn (Some w) ∷ rest) → IsTurning (Turns turn (Some w))
      → IsRaised x f stack c → c.skip ≡ false → acts x.addresses (settled x.addresses w) c ≡ Acts d → lines.register d 30 ≡ lines.register c 30
  pub leave : (before rest : List Item) (slot : Option Word) (stack : ℕ) (c : lines.Core) → Parts f before (Turns Leave slot ∷ rest)
      → HoldsAt x f (at (Turns Leave slot ∷ rest)) stack c → IsApart x f (words_of x f before + 1) stack c
  pub quiet : (before left : List Item) (stack : ℕ) (c : lines.Core) → Parts f before left → HoldsAt x f (at left) stack c
      → IsApart x f (words_of x f before) stack c

-- what does not lead away for good: words, blocks, and turns but jumps and returns
abbrev pub IsPassing : Item → Type 0
IsPassing (Turns (Goto b) slot) = ⊥
IsPassing (Turns Leave slot) = ⊥
IsPassing _ = Unit {0}

-- what a function's items have, and how it lies in the text
pub record IsFramed (x : Setting) (f : LineFn) : Type 0 where
  pub leveled : IsLeveled x f
  pub frame : 4 * length f.located.saved + head_size f.located.body ≤ f.located.frame
  -- words stand before every place but the first, and behind what does not lead away
  pub first : (before left : List Item) → Parts f before left → before ≢ [] → 1 ≤ words_of x f before
  pub goes : (before rest : List Item) (item : Item) → Parts f before (item ∷ rest) → IsPassing item → 1 ≤ words_of x f rest
  -- a loop does not begin where the function does, and no other function begins inside
  pub loops : (before rest from : List Item) (item : Item) (n : ℕ) → Parts f before (item ∷ rest) → IsTurning item
      → back_over n (item ∷ rest) f.items ≡ Some from → from ≢ f.items × (1 ≤ words_of x f from)
  pub entries : (n : ℕ) → 1 ≤ n → n < words_of x f f.items → function_at (map_in x) (own_address x f + 4 * n) ≡ None

-- ---- the program

pub record AreFramed (x : Setting) : Type 0 where
  pub framed : (f : LineFn) → Contains x.program.functions f → IsFramed x f
  -- no two functions share a word of the text
  pub apart : (f g : LineFn) → Contains x.program.functions f → Contains x.program.functions g
      → (f ≡ g) ⊎ ((own_address x f + 4 * words_of x f f.items ≤ own_address x g) ⊎ (own_address x g + 4 * words_of x g g.items ≤ own_address x f))
  pub globals : AllByRecursion (λ v. x.addresses.data_start ≤ x.addresses.named v.name) (globals_of x.program.flow)

-- ---- states

-- a caller whose stack pointer is one
pub record IsBehind (x : Setting) (g : Frame) : Type 0 where
  pub caller : IsCaller x g
  pub stack : IsStack x g.function g.stack

-- each call's stack pointer is at the end of its caller's frame
abbrev pub ChainFrom : Setting → ℕ → List Frame → Type 0
ChainFrom x stack [] = Unit {0}
ChainFrom x stack (g ∷ gs) = IsBehind x g × (stack ≡ g.stack + g.function.located.frame) × ChainFrom x g.stack gs

pub record IsInLevel (x : Setting) (a : AreFramed x) (m : Machine) : Type 0 where
  pub there : Contains x.program.functions m.frame.function
  pub before : List Item
  pub parts : Parts m.frame.function before m.frame.left
  pub holds : HoldsAt x m.frame.function ((a.framed m.frame.function there).leveled.at m.frame.left) m.frame.stack m.core
  pub chain : ChainFrom x m.frame.stack m.callers

-- what a step comes to is in level
abbrev pub StepLevel : (x : Setting) → AreFramed x → Step → Type 0
StepLevel x fr (On t) = IsInLevel x fr t
StepLevel x fr (Stopped end t) = Unit {0}
StepLevel x fr Astray = Unit {0}

-- what the machine comes to where the lines have taken some steps, and that the lines are in level there
pub record IsMet (x : Setting) (a : AreFramed x) (s : Step) : Type 0 where
  pub comes : Meets x s
  pub level : StepLevel x a s
