-- What stands in the text behind all functions: the library and the routines.
use Rattle.std.specs.Prelude.{ℕ, ◌≡◌, ◌+◌, ◌*◌, ◌<◌, ◌≤◌, Some, None, List, length, Contains}
use Rattle.pw_value.specs.ProgramNames.{exit_name, getchar_name, putchar_name}
use Rattle.pw_milli.specs.Words.{exit_words, getchar_words, putchar_words, divs_words, divu_words, mul_words, rems_words, remu_words}
use Rattle.pw_milli.specs.Calls.{StandsAt}
use Rattle.pw_run_languages.specs.LineRun.{LineFn}
use Rattle.pw_run_languages.specs.MachineRun.{function_at}
use Rattle.pw_law_link_run.specs.Steps.{Setting, map_in}
use Rattle.pw_law_link_run.specs.Placing.{own_address, words_of}

-- Words stand from an address on, behind all functions, and no function begins behind the first of them.
pub record StandBehind (x : Setting) (words : List ℕ) (address : ℕ) : Type 0 where
  pub stands : StandsAt words address x.start.core
  pub functions : (g : LineFn) → Contains x.program.functions g → own_address x g + 4 * words_of x g g.items ≤ address
  pub inside : (a : ℕ) → address < a → a < address + 4 * length words → function_at (map_in x) a ≡ None

-- a function of the library stands where its name does
pub record StandsNamed (x : Setting) (words f : List ℕ) : Type 0 where
  pub behind : StandBehind x words (x.addresses.named f)
  pub entry : function_at (map_in x) (x.addresses.named f) ≡ Some f

-- a routine of a number is no function
pub record StandsNumbered (x : Setting) (words : List ℕ) (j : ℕ) : Type 0 where
  pub behind : StandBehind x words (x.addresses.routine j)
  pub entry : function_at (map_in x) (x.addresses.routine j) ≡ None

-- all eight
pub record AllStand (x : Setting) : Type 0 where
  pub getchar : StandsNamed x getchar_words getchar_name
  pub putchar : StandsNamed x putchar_words putchar_name
  pub exit : StandsNamed x exit_words exit_name
  pub divs : StandsNumbered x divs_words 0
  pub divu : StandsNumbered x divu_words 1
  pub mul : StandsNumbered x mul_words 2
  pub rems : StandsNumbered x rems_words 3
  pub remu : StandsNumbered x remu_words 4
