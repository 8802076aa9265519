-- What the law of linking is given is in memory as it should be.
use Rattle.std.specs.Prelude.{ℕ, ◌+◌, ◌^◌, ◌<◌, ◌≤◌, List}
use Rattle.std.specs.List.{AllByRecursion}
use Rattle.std.proofs.Common.{arith, subst, sym, ◌∙◌}
use Rattle.pw_value.specs.Limits.{memory_size}
use Rattle.pw_flow.specs.declared.flow.FlowGlobal.{FlowGlobal}
use Rattle.pw_flow.specs.ValidFlow.{IsGlobal}
use Rattle.pw_db.specs.declared.database.Directives.{Directives}
use Rattle.pw_object.specs.declared.object.Object.{Object}
use Rattle.pw_alloc.specs.declared.located.Located.{Located}
use Rattle.pw_image.specs.Image.{IsMemory}
use Rattle.pw_link.specs.Layout.{data_begin, data_size, stack_end}
use Rattle.pw_link.specs.Linking.{linked}
use Rattle.pw_law_link.specs.Parts.{AreLawfulParts}
use Rattle.pw_run_languages.specs.Programs.{Program, AreBytes}
use Rattle.pw_law_linked.specs.Given.{IsGiven}
use Rattle.pw_law_linked.specs.InMemory.{IsInMemory}
use Rattle.pw_law_linked.proofs.Text.{OrderStays}
use Rattle.pw_law_linked.proofs.Spans.{names_served, GivesLawfulAddresses, addresses_lawful}
use Rattle.pw_law_linked.proofs.Globals.{globals_are, globals_addressed}
use Rattle.pw_law_linked.proofs.Held.{StartsLawfully}
use Rattle.pw_law_linked.proofs.KnownFixes.{fixes_known}
use Rattle.pw_law_linked.proofs.Data.{OtherwiseZero, has_data, data_are_bytes}

abbrev pub HasParts : Type 0
HasParts = (p : Program) (d : List (List ℕ × Directives)) (functions : List Located) (objects : List Object) → IsGiven p d functions objects → AreLawfulParts objects p.stack

abbrev pub PartsGiveMemory : Type 0
PartsGiveMemory = (objects : List Object) (stack : ℕ) → AreLawfulParts objects stack → IsMemory (linked objects stack).memory

pub in_memory : OrderStays → GivesLawfulAddresses → HasParts → PartsGiveMemory → OtherwiseZero → StartsLawfully → (p : Program) (d : List (List ℕ × Directives)) (functions : List Located) (objects : List Object) (input : List ℕ)
    → IsGiven p d functions objects → AreBytes input → IsInMemory p functions objects input
in_memory stays addresses parts memory otherwise starts p d functions objects input given read =
    let own = parts p d functions objects given in
    let image = memory objects p.stack own in
    let lawful = addresses_lawful stays addresses p d functions objects input given in
    let end : stack_end objects p.stack ≤ memory_size = lawful.memory in
    let small : data_begin objects + data_size objects < 2 ^ 32 = omega (arith, end) in
    let globals = globals_are stays p functions objects given.program given.made in
    let all : AllByRecursion IsGlobal _ = subst (λ (gs : List FlowGlobal). AllByRecursion IsGlobal gs) (given.made.globals ∙ sym globals) own.globals in
    record {
      image = image;
      bytes = data_are_bytes stays p functions objects given.program given.made;
      read = read;
      fixes = fixes_known p d functions objects input given.program given.serve given.fits lawful;
      memory = has_data otherwise starts p functions objects input image globals
          (globals_addressed stays p functions objects given.program given.made given.apart (names_served p d functions objects given) small) all (omega (arith, small));
    }
