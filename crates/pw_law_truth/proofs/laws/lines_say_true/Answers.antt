use Rattle.std.specs.Prelude.{ℕ, ◌≡◌, ◌++◌, [], List, map}
use Rattle.std.specs.List.{AllByRecursion}
use Rattle.std.specs.List.Sorted.{IsPermutation}
use Rattle.std.proofs.Common.{arith, subst, sym, ap, refl, ◌∙◌}
use Rattle.pw_flow.specs.declared.flow.FlowGlobal.{FlowGlobal}
use Rattle.pw_link.specs.Linking.{linked}
use Rattle.pw_run_languages.specs.Programs.{globals_of, names_of}
use Rattle.pw_law_linked.specs.Given.{IsGiven}
use Rattle.pw_law_linked.proofs.Own.{right_distinct}
use Rattle.pw_law_linked.proofs.Spans.{names_served}
use Rattle.pw_debug_frames.specs.Frames.{frame_info}
use Rattle.pw_where.specs.declared.shown.Shown.{Shown}
use Rattle.pw_where.specs.Calls.{of_modules}
use Rattle.pw_where.specs.Shown.{call_line, shown_of}
use Rattle.pw_where.specs.Looks.{AreShown, entries_in, name_at}
use Rattle.pw_law_truth.proofs.Bytes.{bytes_at_pause}
use Rattle.pw_law_truth.proofs.Places.{IsKnown, all_known, all_placed, known_there}
use Rattle.pw_law_truth.proofs.Called.{entry_there, name_is}
use Rattle.pw_law_truth.proofs.Lines.{all_ordered, all_true, has_lines, has_text, lost_text, not_lost}
use Rattle.pw_law_truth.proofs.laws.lines_say_true.Goals as goal

pub returns : goal.returns
returns c = λ p q d functions objects input k budget built located bytes direction places free_direction free_places globals defined.
    let image = linked objects q.stack in
    let program = built.implements.program in
    let given : IsGiven q d functions objects = record { program = program; apart = built.names; directives = built.database.directives; serve = built.serve; made = built.made; fits = built.fits } in
    let named = names_served q d functions objects given in
    let mapped = c.maps_name_the_program.ensures.functions q d functions objects program built.serve built.made in
    let objects_named = c.maps_name_the_program.ensures.globals q functions objects program built.made in
    let placed = all_placed q functions image built.names named mapped objects_named in
    let known = all_known q image [] (globals_of q) image.globals refl objects_named placed.globals in
    let ordered : (shown : List Shown) → AreShown image objects shown → AllByRecursion (IsKnown q image) shown =
    λ shown are. all_ordered (IsKnown q image) (shown_of (globals_of q) image.globals) shown (subst (λ (gs : List FlowGlobal). IsPermutation (shown_of gs image.globals) shown) built.made.globals are.same) known in
    let lawful = c.linked_addresses_are_lawful.ensures q d functions objects (λ g n. 0) program built.names built.serve built.made built.fits (λ g n. omega arith) in
    record {
      comes = λ lines rest shows. c.programs_come_to_their_calls.ensures p q d functions objects input k shows.step shows.state built bytes direction places defined shows.call;
      lines = λ lines rest f things shows pause.
          let have = bytes_at_pause c.globals_have_their_bytes.ensures p q input k f things program (built.implements.progress input bytes) pause in
          let core = shows.state.core in
          let own = c.calls_are_those_of_the_program.ensures p q d functions objects input k shows.step shows.state f things built bytes direction places free_direction free_places defined shows.call pause in
          let name : name_at (of_modules objects image.functions) core.front ≡ f =
          name_is q functions objects core.front own.call.function built.made named lawful mapped placed.functions (entry_there (entries_in image objects) core shows.call.at) own.call.at_address ∙ own.function in
          let shown = shows.shows in
          let same : AreShown image objects shown.ordered = shown.shown in
          let all : AllByRecursion (IsKnown q image) shown.ordered = ordered shown.ordered same in
          let t = has_text (call_line k (name_at (of_modules objects image.functions) core.front)) lines shown.values shown.lines_are in
          let l = has_lines image.functions (map frame_info functions) core shown.ordered shown.values t.text shown.walks t.values_are in
          record {
            values = l.values;
            shown = subst (λ (gs : List Shown). AreShown image objects gs) (sym l.of) same;
            are = t.is ∙ (ap (λ (g : List ℕ). call_line k g ++ t.text) name ∙ ap (λ (text : List ℕ). call_line k f ++ text) l.is);
            say = all_true p q image (map frame_info functions) core things globals (right_distinct (names_of q) (map (λ (g : FlowGlobal). g.name) (globals_of q)) program.names) have
                (λ number g kind object value w told long small scalar walk.
                c.values_are_those_of_the_program.ensures p q d functions objects input k shows.step shows.state f things number g kind object value w built located bytes direction places defined shows.call own told long small scalar walk)
                l.values (subst (λ (gs : List Shown). AllByRecursion (IsKnown q image) gs) (sym l.of) all) l.walks;
          };
      walks = λ address rest shows.
          let core = shows.state.core in
          let shown = shows.shows in
          let none = lost_text (call_line k (name_at (of_modules objects image.functions) core.front)) shown.values address shown.lines_are in
          not_lost (IsKnown q image) image.functions (map frame_info functions) core address
          (λ g is walk. c.walks_are_not_lost.ensures p q d functions objects input k shows.step shows.state is.global g.number.kind g.object address built located bytes direction places defined shows.call
          (known_there q is.before is.global is.after is.is) is.place walk)
          shown.ordered shown.values (ordered shown.ordered shown.shown) shown.walks none;
    }
