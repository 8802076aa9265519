-- The image runs as the lines do, at the addresses of its map.
use Rattle.std.specs.Prelude.{ℕ, List}
use Rattle.std.proofs.Common.{subst, refl}
use Rattle.pw_object.specs.declared.object.Object.{Object}
use Rattle.pw_alloc.specs.declared.located.Located.{Located}
use Rattle.pw_link.specs.Linking.{linked}
use Rattle.pw_machine.specs.Start.{image_start}
use Rattle.pw_run.specs.Runs.{Refines, Same}
use Rattle.pw_run_languages.specs.Programs.{Program}
use Rattle.pw_run_languages.specs.LawfulPrograms.{eligible_names}
use Rattle.pw_run_languages.specs.Addresses.{AreLawful}
use Rattle.pw_run_languages.specs.LineRun.{line_run}
use Rattle.pw_run_languages.specs.MachineRun.{traced_run}
use Rattle.pw_run_languages.specs.SelectionLaws.{placed_program}
use Rattle.pw_run_languages.specs.LinkingLaws.{address_of, LinkKeeps}
use Rattle.pw_law_link_run.specs.Steps.{map_in}
use Rattle.pw_law_linked.specs.Settings.{linked_setting}
use Rattle.pw_law_linked.proofs.Linked.{located_is}

pub keeps : (p : Program) (functions : List Located) (objects : List Object) (input : List ℕ) → AreLawful p (linked_setting p functions objects input).addresses
    → (scratch : ℕ → (ℕ → ℕ) → ℕ → ℕ)
    → Refines Same (line_run (placed_program p functions) (linked_setting p functions objects input).addresses scratch input)
    (traced_run (map_in (linked_setting p functions objects input)) (image_start (linked objects p.stack).memory) input)
    → LinkKeeps p functions (linked objects p.stack) input
keeps p functions objects input lawful scratch runs = record {
  addresses = (linked_setting p functions objects input).addresses;
  lawful = lawful;
  named = refl;
  scratch = scratch;
  runs = subst (λ (fs : List Located). Refines Same (line_run (placed_program p functions) (linked_setting p functions objects input).addresses scratch input)
      (traced_run (record { flow = p; functions = fs; eligible = eligible_names p; named = address_of (linked objects p.stack) }) (image_start (linked objects p.stack).memory) input))
      (located_is functions) runs;
}
