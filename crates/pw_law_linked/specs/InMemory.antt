-- What is asked of the memory of a linked program, and of the relocations of its code.
use Rattle.std.specs.Prelude.{ℕ, List, Contains}
use Rattle.std.specs.List.{AllByRecursion}
use Rattle.pw_inst.specs.declared.relocation.Fix.{Fix}
use Rattle.pw_object.specs.declared.object.Object.{Object}
use Rattle.pw_image.specs.Image.{IsMemory}
use Rattle.pw_alloc.specs.declared.located.Located.{Located}
use Rattle.pw_link.specs.Linking.{linked}
use Rattle.pw_law_link.specs.Standing.{sites}
use Rattle.pw_select.specs.Selection.{selected}
use Rattle.pw_delay.specs.Placement.{placed}
use Rattle.pw_run_languages.specs.Programs.{Program}
use Rattle.pw_run_languages.specs.CodeStands.{IsKnown}
use Rattle.pw_run_languages.specs.SelectionLaws.{with_items}
use Rattle.pw_run_languages.specs.LinkingLaws.{address_of}
use Rattle.pw_run_languages.specs.Programs as programs
use Rattle.pw_law_code.specs.Lawful.{AreBytes}
use Rattle.pw_law_link_run.specs.Placing.{text_of}
use Rattle.pw_law_link_run.specs.Starting.{HasData}
use Rattle.pw_law_linked.specs.Settings.{linked_setting}

-- what each relocation of a function's code is of has its address, in the linked program and in the run of lines
abbrev pub HasKnownFixes : Program → List Located → List Object → List ℕ → Located → Type 0
HasKnownFixes p functions objects input l =
    (f : Fix) → Contains (placed (selected l)).fixes f
    → IsKnown (sites objects p.stack) (text_of (linked_setting p functions objects input) (with_items l)) (address_of (linked objects p.stack) l.body.name) f f.symbol

-- The image is lawful, and its data are of bytes, as is the input; what the relocations are of is known; and the data of the
-- image are those that the lines have.
pub record IsInMemory (p : Program) (functions : List Located) (objects : List Object) (input : List ℕ) : Type 0 where
  pub image : IsMemory (linked objects p.stack).memory
  pub bytes : AllByRecursion (λ i. AreBytes i.bytes) (linked objects p.stack).memory.items
  pub read : programs.AreBytes input
  pub fixes : AllByRecursion (HasKnownFixes p functions objects input) functions
  pub memory : HasData (linked_setting p functions objects input) (linked objects p.stack).memory
