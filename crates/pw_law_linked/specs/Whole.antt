-- What is asked of a linked program, so that it runs as its lines do.
use Rattle.std.specs.Prelude.{ℕ, ◌≡◌, ◌<◌, ◌≤◌, ◌^◌, Some, List, map}
use Rattle.std.specs.List.{AllByRecursion}
use Rattle.pw_value.specs.ProgramNames.{start_name}
use Rattle.pw_flow.specs.ValidFlow.{AreDistinct}
use Rattle.pw_object.specs.declared.object.Object.{Object}
use Rattle.pw_alloc.specs.declared.located.Located.{Located}
use Rattle.pw_link.specs.Layout.{Sites, data_begin}
use Rattle.pw_link.specs.Linking.{linked}
use Rattle.pw_machine.specs.Start.{stack_start_of}
use Rattle.pw_select.specs.Selection.{selected}
use Rattle.pw_run_languages.specs.Programs.{Program, globals_of}
use Rattle.pw_run_languages.specs.Addresses.{AreLawful}
use Rattle.pw_run_languages.specs.LineRun.{LineFn, function_named}
use Rattle.pw_run_languages.specs.CodeStands.{AreReady}
use Rattle.pw_run_languages.specs.LinkingLaws.{address_of}
use Rattle.pw_law_code.specs.Lawful.{IsLawful}
use Rattle.pw_law_link_run.specs.Placing.{own_address}
use Rattle.pw_law_link_run.specs.Behind.{AllStand}
use Rattle.pw_law_link_run.specs.Starting.{HasData}
use Rattle.pw_law_levels.specs.Sparing.{IsSparing}
use Rattle.pw_law_linked.specs.Settings.{linked_setting}
use Rattle.pw_law_linked.specs.Standing.{CodeAt, ItsAddressIsItsOwn, HasFrame}

-- The functions have names, frames and addresses of their own, and their code stands there; the library and the routines
-- stand behind them; the machine starts at `$start` with its stack, and with the data that the lines have.
pub record IsInPlace (p : Program) (functions : List Located) (objects : List Object) (input : List ℕ) : Type 0 where
  pub distinct : AreDistinct (map (λ l. l.body.name) functions)
  pub ready : AllByRecursion (λ l. AreReady (selected l)) functions
  pub sparing : AllByRecursion IsSparing functions
  pub frames : AllByRecursion HasFrame functions
  pub sites : Sites
  pub code : AllByRecursion (CodeAt p functions objects input sites) functions
  pub own : AllByRecursion (ItsAddressIsItsOwn p objects) functions
  pub behind : AllStand (linked_setting p functions objects input)
  pub addresses : AreLawful p (linked_setting p functions objects input).addresses
  pub globals : AllByRecursion (λ v. data_begin objects ≤ address_of (linked objects p.stack) v.name) (globals_of p)
  pub lawful : IsLawful (linked_setting p functions objects input).start
  pub starts : (linked_setting p functions objects input).start.core.data_start ≡ data_begin objects
  pub first : LineFn
  pub named : function_named (linked_setting p functions objects input).program start_name ≡ Some first
  pub entry : (linked objects p.stack).memory.entry ≡ own_address (linked_setting p functions objects input) first
  pub base : (linked_setting p functions objects input).addresses.base ≡ stack_start_of (linked objects p.stack).memory.words (linked objects p.stack).memory.data_size
  pub small : (linked_setting p functions objects input).addresses.base < 2 ^ 32
  pub memory : HasData (linked_setting p functions objects input) (linked objects p.stack).memory
