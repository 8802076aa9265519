-- A linked program as a setting: its lines at the addresses of the map, and the machine that starts it.
use Rattle.std.specs.Prelude.{ℕ, ◌+◌, ◌*◌, ◌==◌, Bool, false, if◌then◌else◌, Option, Some, None, List, [], ◌∷◌, find}
use Rattle.std.specs.Str.{bytes_eq}
use Rattle.pw_object.specs.declared.object.Object.{Object}
use Rattle.pw_link.specs.Linking.{linked}
use Rattle.pw_machine.specs.Start.{image_start}
use Rattle.pw_alloc.specs.declared.located.Located.{Located}
use Rattle.pw_select.specs.Selection.{selected}
use Rattle.pw_delay.specs.declared.items.Item.{Item}
use Rattle.pw_delay.specs.declared.items.Item.TheVariants.{Turns}
use Rattle.pw_delay.specs.Placement.{size, mark_at}
use Rattle.pw_run_languages.specs.Programs.{Program}
use Rattle.pw_run_languages.specs.LineRun.{turns}
use Rattle.pw_run_languages.specs.CodeStands.{is_long}
use Rattle.pw_run_languages.specs.LinkingLaws.{address_of}
use Rattle.pw_run_languages.specs.SelectionLaws.{arranged, placed_program}
use Rattle.pw_run_languages.specs.MachineRun.{start_state}
use Rattle.pw_law_code.specs.LinkedAddresses.{linked_addresses}
use Rattle.pw_law_link_run.specs.Steps.{Setting}

-- the address behind the turn with its slot of two words behind which so many turns are left, where the items begin at
-- an address
abbrev pub behind_in : Bool → ℕ → List Item → ℕ → ℕ
behind_in long at [] n = 0
behind_in long at (Turns turn slot ∷ rest) n = if turns rest == n then at + 8 else behind_in long (at + 4 * size long (Turns turn slot)) rest n
behind_in long at (item ∷ rest) n = behind_in long (at + 4 * size long item) rest n

-- by the function of a name; where there is none, nothing is asked of it
abbrev pub of_function : List Located → List ℕ → ℕ → (Located → ℕ) → ℕ
of_function functions name other f = by (find (λ l. bytes_eq l.body.name name) functions)
  where
    by : Option Located → ℕ
    by None = other
    by (Some l) = f l

abbrev pub behind_of : List Located → List Object → ℕ → List ℕ → ℕ → ℕ
behind_of functions objects stack name n =
    of_function functions name 0 (λ l. behind_in (is_long (selected l)) (address_of (linked objects stack) name) (arranged (selected l)) n)

abbrev pub mark_of : List Located → List Object → ℕ → List ℕ → ℕ → ℕ
mark_of functions objects stack name b =
    of_function functions name 0 (λ l. address_of (linked objects stack) name + 4 * mark_at (is_long (selected l)) 0 (arranged (selected l)) b)

abbrev pub long_of : List Located → List ℕ → Bool
long_of functions name = by (find (λ l. bytes_eq l.body.name name) functions)
  where
    by : Option Located → Bool
    by None = false
    by (Some l) = is_long (selected l)

abbrev pub linked_setting : Program → List Located → List Object → List ℕ → Setting
linked_setting p functions objects input = record {
  program = placed_program p functions;
  addresses = linked_addresses objects p.stack (behind_of functions objects p.stack);
  start = start_state (image_start (linked objects p.stack).memory) input;
  mark = mark_of functions objects p.stack;
  long = long_of functions;
}
