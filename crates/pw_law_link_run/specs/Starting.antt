-- The start of the machine, as the lines see it.
use Rattle.std.specs.Prelude.{ℕ, ◌≡◌, ◌+◌, ◌<◌, ◌%◌, ◌^◌, Some, None, List, [], ◌≤◌}
use Rattle.pw_value.specs.ProgramNames.{start_name}
use Rattle.pw_image.specs.declared.image.Memory.{Memory}
use Rattle.pw_machine.specs.Core.{byte_at}
use Rattle.pw_machine.specs.Start.{data_start_of, start_memory}
use Rattle.pw_run_languages.specs.LineRun.{LineFn, function_named, start_core}
use Rattle.pw_law_link_run.specs.Showing.{Shows}
use Rattle.pw_law_link_run.specs.Steps.{Setting}
use Rattle.pw_law_link_run.specs.Placing.{own_address}

-- It stands at the first word of `$start`, over the whole input, with the core that the lines start with.
pub record IsStart (x : Setting) (f : LineFn) (input : List ℕ) : Type 0 where
  pub named : function_named x.program start_name ≡ Some f
  pub base : x.addresses.base < 2 ^ 32
  pub shows : Shows (start_core x.program x.addresses) x.start.core
  pub front : x.start.core.front ≡ own_address x f
  pub back : x.start.core.back ≡ (own_address x f + 4) % 2 ^ 32
  pub stopped : x.start.core.stopped ≡ None
  pub rest : x.start.rest ≡ input
  pub output : x.start.output ≡ []

-- the memory of an image has from the start of the data on what the lines have
abbrev pub HasData : Setting → Memory → Type 0
HasData x m =
    (a : ℕ) → data_start_of m.words ≤ a → (start_core x.program x.addresses).memory a ≡ byte_at (start_memory m.words m.items) a
