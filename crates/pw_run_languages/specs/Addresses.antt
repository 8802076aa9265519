-- Where the functions and the global objects of a program stand, as the lines of its functions see it: an argument,
-- for which every lawful choice will do.
use Rattle.std.specs.Prelude.{ℕ, ◌≡◌, ◌≢◌, ◌+◌, ◌%◌, ◌^◌, ◌<◌, ◌≤◌, ◌⊎◌, List, Contains}
use Rattle.pw_value.specs.Limits.{memory_size, text_start}
use Rattle.pw_flow.specs.declared.flow.FlowGlobal.{FlowGlobal}
use Rattle.pw_flow.specs.ValidFlow.{global_room}
use Rattle.pw_run_languages.specs.Programs.{Program, globals_of, names_of}

pub record Addresses : Type 0 where
  -- of functions and global objects, by their names; of routines, by their places
  pub named : List ℕ → ℕ
  pub routine : ℕ → ℕ
  -- the return address of a call in a function, by how many turns are left behind it
  pub behind : List ℕ → ℕ → ℕ
  -- below this nothing is loaded or stored; where the stack begins, and where it ends
  pub data_start : ℕ
  pub base : ℕ
  pub limit : ℕ

-- Global objects have multiples of 8 and bytes of their own, below the stack; functions have multiples of 4 of their
-- own, below the data. Return addresses are words. The stack has its size, and 64 bytes before it that are above the
-- beginning of the data.
pub record AreLawful (p : Program) (w : Addresses) : Type 0 where
  pub aligned : (g : FlowGlobal) → Contains (globals_of p) g → w.named g.name % 8 ≡ 0
  pub above : (g : FlowGlobal) → Contains (globals_of p) g → w.data_start ≤ w.named g.name
  pub below : (g : FlowGlobal) → Contains (globals_of p) g → w.named g.name + global_room g + 64 ≤ w.base
  pub apart : (g h : FlowGlobal) → Contains (globals_of p) g → Contains (globals_of p) h → g.name ≢ h.name
      → (w.named g.name + global_room g ≤ w.named h.name) ⊎ (w.named h.name + global_room h ≤ w.named g.name)
  pub function_aligned : (f : List ℕ) → Contains (names_of p) f → w.named f % 4 ≡ 0
  pub function_above : (f : List ℕ) → Contains (names_of p) f → text_start ≤ w.named f
  pub function_below : (f : List ℕ) → Contains (names_of p) f → w.named f < w.data_start
  pub function_own : (f g : List ℕ) → Contains (names_of p) f → Contains (names_of p) g → w.named f ≡ w.named g → f ≡ g
  pub behind_word : (f : List ℕ) (n : ℕ) → w.behind f n < 2 ^ 32
  pub data_above : text_start ≤ w.data_start
  pub base_aligned : w.base % 64 ≡ 0
  pub stack_above : w.data_start + 64 ≤ w.base
  pub stack : w.limit ≡ w.base + p.stack
  pub memory : w.limit ≤ memory_size
