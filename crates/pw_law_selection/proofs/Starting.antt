-- The start is followed.
use Rattle.std.proofs.Common.{◌≡◌, ℕ, ◌+◌, ◌-◌, ◌*◌, ◌<◌, Option, Some, None, List, [], ◌∷◌, ◌++◌, length, slice_get, refl, ap, sym, subst, ◌∙◌, arith}
use Rattle.std.specs.Prelude.{Contains}
use Rattle.std.specs.List.{AllByRecursion}
use Rattle.std.proofs.lemmas.Option.{slice_get_within}
use Rattle.pw_value.specs.ProgramNames.{start_name}
use Rattle.pw_value.specs.declared.value.Byte.{Byte}
use Rattle.pw_value.specs.declared.value.Value.{Value}
use Rattle.pw_files.proofs.Standing.{contains_by}
use Rattle.pw_db.specs.declared.database.Directives.{Directives}
use Rattle.pw_flow.specs.declared.flow.FlowFn.{FlowFn}
use Rattle.pw_webflow.specs.Direction.{directed}
use Rattle.pw_webflow.specs.declared.web.WebBlock.{WebBlock}
use Rattle.pw_webflow.specs.declared.web.WebFn.{WebFn}
use Rattle.pw_alloc.specs.declared.located.Located.{Located}
use Rattle.pw_alloc.specs.Frames.{head_size}
use Rattle.pw_delay.specs.declared.items.Item.{Item}
use Rattle.pw_delay.specs.Items.{slotted}
use Rattle.pw_run.specs.Runs as ending
use Rattle.pw_run_languages.specs.Traces.{Event, KeepRegisters}
use Rattle.pw_run_languages.specs.Programs.{Program, functions_of}
use Rattle.pw_run_languages.specs.LawfulPrograms.{graph_of}
use Rattle.pw_run_languages.specs.Addresses.{Addresses}
use Rattle.pw_run_languages.specs.Acts.{register, number_at}
use Rattle.pw_run_languages.specs.Standing.{EventInWords}
use Rattle.pw_run_languages.specs.LineRun as run
use Rattle.pw_run_languages.specs.Links.{LinksStand, HasLinks}
use Rattle.pw_run_languages.specs.PlacedRun as placed
use Rattle.pw_run_languages.specs.PlacedRun.{PlacedProgram, entered_webs, enters_webs, first_block}
use Rattle.pw_run_languages.specs.Direction.{directives_of, with_functions}
use Rattle.pw_run_languages.specs.SelectionLaws.{line_program}
use Rattle.pw_law_select_states.specs.Passes.{IsNoneOf, further}
use Rattle.pw_law_select_known.specs.Laws.{IsAccess, WebsNeverStop}
use Rattle.pw_law_select_frames.specs.Arriving.{lines_behind_entry}
use Rattle.pw_law_select_frames.specs.Blocks.{items_from}
use Rattle.pw_law_select_frames.specs.Framing.{PlacesAreBelow, FramesAreSized}
use Rattle.pw_law_select_kept.specs.Keeping.{CallEachOther, saved_word}
use Rattle.pw_law_select_calls.specs.GoingIn.{GoesIn, FunctionsGoIn}
use Rattle.pw_law_select_start.specs.Starting.{Starts, RunsStart}
use Rattle.pw_law_select_start.proofs.Starting.{found_has, found_name, started, started_at}
use Rattle.pw_law_selection.specs.Following.{IsGiven, AreKept, Comes, Follow, goes, strays, StartsAreFollowed}
use Rattle.pw_law_selection.proofs.Given.{IsFine, functions_fine, serves_itself}
use Rattle.pw_law_selection.proofs.Coming.{begins_links, joined, end_links, comes_through}
use Rattle.pw_law_selection.proofs.Saved.{leaves_stay}
use Rattle.pw_law_selection.proofs.Keeping.{keep_too, quiet_lines}
use Rattle.pw_law_selection.proofs.Calling.{CallLaws, left_when_called}
use Rattle.pw_law_selection.proofs.Reaching.{webs_go}

-- what is taken from the crates below
pub record StartLaws : Type 0 where
  pub start : RunsStart
  pub go_in : FunctionsGoIn
  pub never : WebsNeverStop
  pub places : PlacesAreBelow
  pub sizes : FramesAreSized
  pub call : CallLaws

own_params : (f : FlowFn) (x : Directives) → (directed f x).params ≡ f.params
unfolding directed
own_params f x = refl

module _ (laws : StartLaws) (p : Program) (d : List (List ℕ × Directives)) (functions : List Located) (w : Addresses) (scratch : ℕ → (ℕ → ℕ) → ℕ → ℕ) (input : List ℕ) (given : IsGiven p d functions w input) where
  abbrev lines : run.LineProgram
  lines = line_program p functions

  abbrev full : PlacedProgram
  full = with_functions p functions

  abbrev begin : run.Step
  begin = run.start lines w input

  module _ (f : Located) (b : WebBlock) (named : placed.function_named full start_name ≡ Some f) (block : first_block f ≡ Some b) where
    there : Contains functions f
    there = contains_by f functions (found_has functions start_name f named)

    fine : IsFine p d f
    fine = functions_fine p given.program d given.directives functions given.serve given.frames f there

    takes_nothing : f.body.params ≡ 0
    takes_nothing =
        ap (λ (x : WebFn). x.params) fine.serves.body
        ∙ (own_params fine.flow (directives_of d fine.flow.name)
        ∙ given.program.start_takes_nothing fine.flow (contains_by fine.flow (functions_of p) fine.there) (sym fine.name ∙ found_name functions start_name f named))

    s : Starts p functions w scratch input f b
    s = laws.start p functions w scratch input f b (record {
      program = given.program;
      lawful = given.lawful;
      bytes = given.bytes;
      named = named;
      block = block;
      serves = serves_itself p d f fine;
      directives = fine.lawful.directives;
      frame = given.frames.defined f there;
      fits = given.fits;
    })

    abbrev first : run.Machine
    first = s.first

    located_is : first.frame.function.located ≡ f
    located_is = ap (λ (x : run.LineFn). x.located) s.begins.active.function ∙ s.function.0

    links_first : HasLinks w first
    links_first = begins_links w first s.at_items (subst (LinksStand w first.core) (sym s.alone.1) tt)

    abbrev behind : List Item
    behind = slotted (lines_behind_entry f)

    abbrev l1 : run.Machine
    l1 = further behind s.core s.passes.more [] first

    one : Comes p functions w scratch (run.On first) (run.On l1)
    one = comes_through p functions w scratch first behind s.core [] links_first s.passes

    module _ (n : placed.Machine) (webs : enters_webs full (entered_webs f) s.begun ≡ placed.On n) where
      g : GoesIn p functions w scratch s.site f b [] s.begun n l1
      g = laws.go_in p functions w scratch s.site f b [] s.begun n l1 (record {
        program = given.program;
        lawful = given.lawful;
        function = s.function.0;
        amid = s.begins;
        known = s.known;
        body = fine.lawful;
        count = sym takes_nothing;
        words = λ k v e. absurd cc;
        stacked = λ many. absurd (omega (arith, many));
        clear = λ many. absurd (omega (arith, many));
        block = block;
        at = s.function.1;
        ops = s.function.2;
        end = s.function.3;
      }) webs

      abbrev items : List Item
      items = items_from f 0 b.ops b.end

      abbrev l2 : run.Machine
      l2 = further items g.core g.passes.more g.log l1

      two : Comes p functions w scratch (run.On l1) (run.On l2)
      two = comes_through p functions w scratch l1 items g.core g.log (end_links p functions w scratch (run.On first) l1 one) g.passes

      quiet : AllByRecursion (λ e. IsAccess e) g.log
      quiet =
          quiet_lines p w.named g.own s.begun.trace g.log l1.trace g.quiet s.show.log
          (subst (λ (x : List (Event Byte Value)). ending.AreAlike (EventInWords p w.named) x (g.log ++ l1.trace)) g.noted (g.logs s.show.log))

      words_there : (i r : ℕ) → slice_get f.saved i ≡ Some r → saved_word l2.frame l2.core.memory i ≡ register first.core r
      words_there i r e =
          let less : i < length first.frame.function.located.saved = slice_get_within first.frame.function.located.saved i r (subst (λ (x : Located). slice_get x.saved i ≡ Some r) (sym located_is) e) in
          (leaves_stay laws.places laws.sizes p w s.site (lines_behind_entry f) s.begun l1 given.lawful s.begins g.core g.leaves).0 i less
          ∙ (ap (λ (x : Located). number_at 4 s.core.memory (first.frame.stack + x.frame - head_size x.body - 4 * (i + 1))) located_is ∙ s.words i r e)

      none_of : (r : ℕ) → IsNoneOf f r → register l2.core r ≡ register first.core r
      none_of r apart =
          let low = apart.low in
          let high = apart.high in
          g.leaves.registers r (subst (λ (x : Located). IsNoneOf x r) (sym s.function.0) apart)
          ∙ s.registers r (λ z. omega (arith, low, high, z)) (λ z. omega (arith, low, high, z)) (λ z. omega (arith, low, high, z))

      kept_at_start : AreKept p d l2
      kept_at_start = record {
        noted = keep_too d g.log l1.trace quiet (subst (λ (x : List (Event ℕ ℕ)). KeepRegisters d x) (sym s.trace) (tt, tt));
        calls = subst (λ (ls : List run.Frame). CallEachOther (graph_of p) (l2.frame ∷ ls)) (sym s.alone.1) tt;
        left = left_when_called laws.call p d f fine first.core l2 [] located_is s.alone.1 s.before tt words_there none_of tt;
      }

      starts_go : Follow p d functions w scratch (run.On first) (placed.On n)
      starts_go =
          let events = s.show.events in
          let same = g.shown.3 in
          goes n l2 (joined p functions w scratch (run.On first) (run.On l1) (run.On l2) one two) (record {
            site = s.site;
            stand = g.stands;
            show = record {
              rest = s.show.rest ∙ sym g.shown.0;
              read = s.show.read ∙ sym g.shown.1;
              out = s.show.out ∙ sym g.shown.2;
              events = omega (arith, events, same);
              log = g.logs s.show.log;
            };
            kept = λ calls. kept_at_start;
          })

    by_webs : (x : placed.Step) → enters_webs full (entered_webs f) s.begun ≡ x → Follow p d functions w scratch (run.On first) x
    by_webs (placed.On n) e = starts_go n e
    by_webs (placed.Stopped end n) e = absurd (webs_go laws.never p functions end n (entered_webs f) s.begun e)
    by_webs placed.Astray e = strays

    begun_follows : Follow p d functions w scratch begin (placed.start full input)
    begun_follows =
        subst (λ (x : run.Step). Follow p d functions w scratch x (placed.start full input)) (sym s.lines_start)
        (subst (λ (x : placed.Step). Follow p d functions w scratch (run.On first) x) (sym s.placed_start) (by_webs (enters_webs full (entered_webs f) s.begun) refl))

  -- ---- whichever

  by_block : (f : Located) → placed.function_named full start_name ≡ Some f → (o : Option WebBlock) → first_block f ≡ o → Follow p d functions w scratch begin (placed.start full input)
  by_block f named (Some b) e = begun_follows f b named e
  by_block f named None e =
      let astray : placed.start full input ≡ placed.Astray = ap (started full input) named ∙ ap (started_at full input f) e in
      subst (λ (x : placed.Step). Follow p d functions w scratch begin x) (sym astray) strays

  by_name : (o : Option Located) → placed.function_named full start_name ≡ o → Follow p d functions w scratch begin (placed.start full input)
  by_name (Some f) e = by_block f e (first_block f) refl
  by_name None e =
      let astray : placed.start full input ≡ placed.Astray = ap (started full input) e in
      subst (λ (x : placed.Step). Follow p d functions w scratch begin x) (sym astray) strays

  pub start_follows : Follow p d functions w scratch begin (placed.start full input)
  start_follows = by_name (placed.function_named full start_name) refl

pub starts_are_followed : StartLaws → StartsAreFollowed
starts_are_followed laws p d functions w scratch input given = start_follows laws p d functions w scratch input given
