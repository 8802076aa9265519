-- The parameters of a function as values of its temporaries: with the arguments' words in their places the state of the placed run
-- that has its parameters stands.
use Rattle.std.specs.Prelude.{ℕ, ◌≡◌, ◌+◌, ◌-◌, ◌<◌, ◌≤◌, ◌^◌, Some, List, [], length, slice_get}
use Rattle.pw_value.specs.declared.value.Value.{Value}
use Rattle.pw_inst.specs.Registers.{stack_pointer}
use Rattle.pw_select.specs.Selection.{parameters_in}
use Rattle.pw_run_languages.specs.Addresses.{Addresses, AreLawful}
use Rattle.pw_run_languages.specs.Acts.{Core, register}
use Rattle.pw_run_languages.specs.Standing.{ValueStands}
use Rattle.pw_run_languages.specs.LineRun.{LineProgram}
use Rattle.pw_run_languages.specs.PlacedRun.{Machine, with_parameters}
use Rattle.pw_run_languages.specs.Serving.{Serves}
use Rattle.pw_law_select_rows.specs.Straight.{words_of}
use Rattle.pw_law_select_states.specs.Laid.{address}
use Rattle.pw_law_select_states.specs.Passes.{Leaves}
use Rattle.pw_law_select_states.specs.States.{Stands}
use Rattle.pw_law_select_frames.specs.Going.{Goes}
use Rattle.pw_law_select_frames.specs.Arguments.{argument_word, arguments_size}

-- a function may take arguments, whose words stand for their values where the caller has put them
pub record MayTake (lines : LineProgram) (w : Addresses) (site : ℕ → ℕ) (args : List Value) (m : Machine) (c : Core) : Type 0 where
  pub lawful : AreLawful lines.flow w
  pub stands : Stands lines.flow w site m c
  pub serves : Serves m.frame.function.body m.frame.function
  pub room : length m.frame.temps ≡ m.frame.function.body.temps
  pub count : length args ≡ m.frame.function.body.params
  pub few : m.frame.function.body.params ≤ m.frame.function.body.temps
  pub words : (k : ℕ) (v : Value) → slice_get args k ≡ Some v
      → ValueStands (address lines.flow w site) v (argument_word c (register c stack_pointer - m.frame.function.frame) k)
      × (argument_word c (register c stack_pointer - m.frame.function.frame) k < 2 ^ 32)
  pub stacked : 4 < length args → w.base + m.frame.function.frame + arguments_size (length args) ≤ register c stack_pointer

-- it takes them, and changes its own temporaries and registers alone
pub record Takes (lines : LineProgram) (w : Addresses) (site : ℕ → ℕ) (args : List Value) (m : Machine) (c : Core) : Type 0 where
  pub core : Core
  pub goes : Goes lines w (words_of (parameters_in m.frame.function.frame m.frame.function.places 0 (length args))) [] c core
  pub stands : Stands lines.flow w site (with_parameters 0 args m) core
  pub leaves : Leaves site m c core

abbrev pub ParametersAreTaken : Type 0
ParametersAreTaken =
    (lines : LineProgram) (w : Addresses) (site : ℕ → ℕ) (args : List Value) (m : Machine) (c : Core) → MayTake lines w site args m c → Takes lines w site args m c
