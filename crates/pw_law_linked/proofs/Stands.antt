-- A function of a linked program stands at its address, as items.
use Rattle.std.specs.Prelude.{ℕ, List}
use Rattle.std.proofs.Common.{arith, ap}
use Rattle.pw_inst.specs.InstructionTable.{decoded}
use Rattle.pw_object.specs.declared.object.Object.{Object}
use Rattle.pw_alloc.specs.declared.located.Located.{Located}
use Rattle.pw_link.specs.Layout.{Sites}
use Rattle.pw_link.specs.Linking.{linked}
use Rattle.pw_select.specs.Selection.{selected}
use Rattle.pw_delay.specs.Placement.{sizes}
use Rattle.pw_run_languages.specs.Programs.{Program}
use Rattle.pw_run_languages.specs.CodeStands.{is_long, AreReady, StandAt, PlacedCodeStands}
use Rattle.pw_run_languages.specs.SelectionLaws.{arranged, with_items}
use Rattle.pw_run_languages.specs.LinkingLaws.{address_of}
use Rattle.pw_law_link_run.specs.Placing.{text_of, Stands}
use Rattle.pw_law_linked.specs.Settings.{linked_setting}
use Rattle.pw_law_linked.specs.Standing.{IsFoundAmong, CodeAt}
use Rattle.pw_law_linked.proofs.Known.{long_is, mark_is, returns_behind}
use Rattle.pw_law_linked.proofs.Sizes.{placed_length}

pub function_stands : PlacedCodeStands → (p : Program) (functions : List Located) (objects : List Object) (input : List ℕ) (sites : Sites) (l : Located)
    → IsFoundAmong functions l → AreReady (selected l) → CodeAt p functions objects input sites l → Stands (linked_setting p functions objects input) (with_items l)
function_stands stands p functions objects input sites l found ready h =
    let x = linked_setting p functions objects input in
    let f = with_items l in
    let own = address_of (linked objects p.stack) l.body.name in
    let long = is_long (selected l) in
    let count = placed_length (selected l) in
    let at : StandAt (text_of x f) sites own (selected l) = record {
      aligned = h.aligned;
      above = h.above;
      below = omega (arith, h.below, h.few);
      words = λ i lt. ap decoded (h.words i lt);
      symbols = h.symbols;
      long = long_is functions l found;
      marks = λ b. mark_is functions objects p.stack l b found;
      behind = λ before rest item calling parts. returns_behind functions objects p.stack l before rest item found calling parts;
    } in
    let size = ap (λ b. sizes b (arranged (selected l))) (long_is functions l found) in
    record {
      items = stands (selected l) (text_of x f) sites own ready at;
      aligned = h.aligned;
      above = h.above;
      below = omega (arith, h.below, count, size);
    }
