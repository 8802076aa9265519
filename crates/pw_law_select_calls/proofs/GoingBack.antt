-- From the end of a function that returns to where its saved registers come back.
use Rattle.std.proofs.Common.{ℕ, ◌≡◌, arith, refl, ap, sym, subst, ◌∙◌, Option, Some, None, List, [], ◌∷◌, ◌++◌, map, append_assoc}
use Rattle.std.specs.List.{AllByRecursion, flat_map}
use Rattle.pw_flow.specs.declared.flow.End.{End}
use Rattle.pw_flow.specs.declared.flow.End.TheVariants.{Return}
use Rattle.pw_flow.specs.ValidFlow.{IsResult}
use Rattle.pw_inst.specs.Registers.{answer, stack_pointer}
use Rattle.pw_inst.specs.declared.line.Line.{Line}
use Rattle.pw_inst.specs.declared.line.Line.TheVariants.{Leave}
use Rattle.pw_webflow.specs.declared.web.WebOp.{WebOp}
use Rattle.pw_alloc.specs.declared.located.Place.{Place}
use Rattle.pw_alloc.specs.declared.located.Place.TheVariants.{Slot, Reg}
use Rattle.pw_alloc.specs.declared.located.Located.{Located}
use Rattle.pw_delay.specs.declared.items.Item.TheVariants.{Plain}
use Rattle.pw_delay.specs.Items.{slotted}
use Rattle.pw_select_lines.specs.Registers.{loaded, place_of}
use Rattle.pw_select.specs.Selection.{epilogue, end_lines, stored_back, webs_stored}
use Rattle.pw_run.specs.Runs.{AreAlike}
use Rattle.pw_run_languages.specs.Traces.{Event}
use Rattle.pw_run_languages.specs.Programs.{Program}
use Rattle.pw_run_languages.specs.Addresses.{Addresses}
use Rattle.pw_run_languages.specs.Acts.{Core, register}
use Rattle.pw_run_languages.specs.Standing.{ValueStands, EventInWords}
use Rattle.pw_run_languages.specs.LineRun as run
use Rattle.pw_run_languages.specs.LineRun.{LineProgram}
use Rattle.pw_run_languages.specs.PlacedRun as placed
use Rattle.pw_run_languages.specs.PlacedRun.{entered_webs, leaves_webs}
use Rattle.pw_run_languages.specs.Direction.{with_functions}
use Rattle.pw_run_languages.specs.Serving.{IsTempRegister}
use Rattle.pw_run_languages.specs.SelectionLaws.{line_program}
use Rattle.pw_law_select_rows.specs.Straight.{words_of, StraightLinesAreWords}
use Rattle.pw_law_select_rows.specs.Places.{IsInReach, TemporariesAreLoaded}
use Rattle.pw_law_select_rows.specs.Results.{IsPlace}
use Rattle.pw_law_select_places.specs.Places.{TemporariesHavePlaces}
use Rattle.pw_law_select_places.specs.Rows.{StraightWordsPass}
use Rattle.pw_law_select_states.specs.Laid.{address}
use Rattle.pw_law_select_states.specs.Passes.{Passes, Leaves, further}
use Rattle.pw_law_select_frames.specs.Blocks.{blocks_behind}
use Rattle.pw_law_select_frames.specs.Amid.{BothAmid, StatesStandOver, WholeStatesAreAmid, left_of}
use Rattle.pw_law_select_frames.specs.Leaving.{leaving}
use Rattle.pw_law_select_frames.specs.Shape.{EpiloguesAreShaped, LoadedRowsAreStraight}
use Rattle.pw_law_select_frames.specs.Webs.{WebsAreStoredInOrder}
use Rattle.pw_law_select_calls.specs.Webs.{IsWebOf, AtWebs, WebsGo}
use Rattle.pw_law_select_calls.specs.GoingBack.{answer_of, MayGoBack, GoesBack}
use Rattle.pw_law_select_calls.proofs.Walking.{WalkLaws, behind_head, stays_here, stays_whole, webs_left}
use Rattle.pw_law_select_calls.proofs.Webs.{entered_are_own, none_of_webs}

-- the laws that this rests on
pub record EndLaws : Type 0 where
  pub walk : WalkLaws
  pub lines : StraightLinesAreWords
  pub loads : TemporariesAreLoaded
  pub places : TemporariesHavePlaces
  pub words : StraightWordsPass
  pub over : StatesStandOver
  pub whole : WholeStatesAreAmid
  pub epilogue : EpiloguesAreShaped
  pub straight : LoadedRowsAreStraight
  pub order : WebsAreStoredInOrder

module _ (laws : EndLaws) (p : Program) (functions : List Located) (w : Addresses) (scratch : ℕ → (ℕ → ℕ) → ℕ → ℕ) (site : ℕ → ℕ) (t : Option ℕ) (m n : placed.Machine) (l : run.Machine) (may : MayGoBack p w site t m l)
    (goes : leaves_webs (with_functions p functions) (entered_webs m.frame.function) m ≡ placed.On n) where
  abbrev lp : LineProgram
  lp = line_program p functions

  abbrev f : Located
  f = m.frame.function

  -- what is left behind the webs
  abbrev rest : List Line
  rest = leaving f ++ Leave ∷ blocks_behind f m.frame.block

  abbrev webs : List Line
  webs = flat_map stored_back (entered_webs f)

  -- the row of the answer
  abbrev answer_row : Option ℕ → List Line
  answer_row None = []
  answer_row (Some a) = loaded (place_of f.places a) answer

  ended : (o : Option ℕ) → end_lines f (Return o) ≡ answer_row o ++ epilogue f
  ended None = refl
  ended (Some a) = refl

  split : left_of m.frame ≡ answer_row t ++ (webs ++ rest)
  split =
      let row = answer_row t in
      let behind = blocks_behind f m.frame.block in
      let stored = webs_stored f.body.directives.webs in
      let shape : epilogue f ≡ webs ++ (leaving f ++ Leave ∷ []) =
      laws.epilogue f ∙ ap (λ (ls : List Line). ls ++ (leaving f ++ Leave ∷ [])) (laws.order f may.stand.active.directives) in
      let all : epilogue f ++ behind ≡ webs ++ rest =
      ap (λ (ls : List Line). ls ++ behind) shape ∙ (append_assoc webs (leaving f ++ Leave ∷ []) behind ∙ ap (λ (ls : List Line). webs ++ ls) (append_assoc (leaving f) (Leave ∷ []) behind)) in
      ap (λ (os : List WebOp). left_of (record m.frame { ops = os })) may.ops
      ∙ (ap (λ (e : End). left_of (record m.frame { ops = []; end = e })) may.end
      ∙ (ap (λ (ls : List Line). ls ++ behind) (ended t) ∙ (append_assoc row (epilogue f) behind ∙ ap (λ (ls : List Line). row ++ ls) all)))

  amid : BothAmid p w site (answer_row t ++ (webs ++ rest)) m l
  amid = subst (λ (ls : List Line). BothAmid p w site ls m l) split (laws.whole p w site m l may.stand)

  -- ---- the answer comes to its register

  record HasAnswer (o : Option ℕ) : Type 0 where
    pub core : Core
    pub passes : Passes lp w scratch l (slotted (webs ++ rest)) core []
    pub leaves : Leaves site m l.core core
    pub amid : BothAmid p w site (webs ++ rest) m (further (slotted (webs ++ rest)) core passes.more [] l)
    pub value : ValueStands (address p w site) (answer_of o m) (register core answer)

  in_reach : (c : Core) (a : Place) → IsPlace lp w c a → IsInReach lp w c a
  in_reach c (Reg r) is = tt
  in_reach c (Slot offset) is = is

  has_answer : (o : Option ℕ) → IsResult f.body.temps o → BothAmid p w site (answer_row o ++ (webs ++ rest)) m l → HasAnswer o
  has_answer None less here =
      let leaves : Leaves site m l.core l.core = record { top = refl; memory = λ a out. refl; registers = λ r none. refl } in
      let passes = stays_here lp w scratch l (slotted (webs ++ rest)) here.left in
      record {
        core = l.core;
        passes = passes;
        leaves = leaves;
        amid = laws.walk.lines p w site [] (webs ++ rest) m m l l.core passes.more [] may.lawful here may.known (stays_whole site m) here.stands (behind_head site m l.core l.core leaves);
        value = tt;
      }
  has_answer (Some a) less here =
      let place = place_of f.places a in
      let row = loaded place answer in
      let s = here.stands in
      let has = laws.places lp w site m l.core a (record { lawful = may.lawful; serves = here.active.serves; room = here.active.room }) s less in
      let load = laws.loads lp w place answer l.core (λ e. omega (arith, e)) s.goes (in_reach l.core place has.place) in
      let left : l.frame.left ≡ map Plain (words_of row) ++ slotted (webs ++ rest) = here.left ∙ laws.lines row (webs ++ rest) (laws.straight place answer) in
      let passes = laws.words lp w scratch (words_of row) here.inside.0 (slotted (webs ++ rest)) load.core [] l left here.inside.1 (record { acts = load.acts; notes = load.quiet }) in
      let temps : (r : ℕ) → IsTempRegister r → register load.core r ≡ register l.core r =
      λ r is.
      let low = is.low in
      let high = is.high in
      load.others r (λ e. omega (arith, e, high)) (λ e. omega (arith, e, low)) in
      let top = load.others stack_pointer (λ e. omega (arith, e)) (λ e. omega (arith, e)) in
      let leaves : Leaves site m l.core load.core =
      record {
        top = top;
        memory = λ b out. ap (λ (g : ℕ → ℕ). g b) load.memory;
        registers = λ r none.
            let low = none.low in
            let high = none.high in
            load.others r (λ e. omega (arith, e, high)) (λ e. omega (arith, e, low));
      } in
      let stands = laws.over p w site m l.core load.core s temps top load.memory load.skip in
      record {
        core = load.core;
        passes = passes;
        leaves = leaves;
        amid = laws.walk.lines p w site row (webs ++ rest) m m l load.core passes.more [] may.lawful here may.known (stays_whole site m) stands (behind_head site m l.core load.core leaves);
        value = subst (ValueStands (address p w site) (answer_of (Some a) m)) (sym load.value) has.stands;
      }

  -- ---- the webs go back

  own : AllByRecursion (IsWebOf f) (entered_webs f)
  own = entered_are_own f may.stand.active.directives

  pub function_goes_back : GoesBack p functions w scratch site t m n l
  function_goes_back =
      let one = has_answer t may.result amid in
      let behind = further (slotted (webs ++ rest)) one.core one.passes.more [] l in
      let at : AtWebs p w site stored_back (entered_webs f) rest m behind = record { program = may.program; lawful = may.lawful; amid = one.amid; known = may.known; own = own } in
      let two : WebsGo p functions w scratch site (entered_webs f) rest m n behind = webs_left laws.walk p functions w scratch site (entered_webs f) rest m n behind at goes in
      let all = laws.walk.passes lp w scratch l (slotted (webs ++ rest)) (slotted rest) one.core two.core [] two.log one.passes two.passes in
      let b = two.amid in
      let kept : register two.core answer ≡ register one.core answer = two.registers answer (λ e. omega (arith, e)) (none_of_webs f answer (entered_webs f) (omega arith) own) in
      record {
        core = two.core;
        log = two.log ++ [];
        passes = all;
        frame = two.frame;
        same = two.same;
        leaves = laws.walk.compose site m m l.core one.core two.core (stays_whole site m) one.leaves two.leaves;
        amid = record { stands = b.stands; active = b.active; top = b.top; old = b.old; later = b.later; left = b.left; inside = b.inside; callers = b.callers };
        value = subst (ValueStands (address p w site) (answer_of t m)) (sym kept) one.value;
        shown = two.shown;
        logs = λ alike. subst (λ (ys : List (Event ℕ ℕ)). AreAlike (EventInWords p w.named) n.trace ys) (sym (append_assoc two.log [] l.trace)) (two.logs alike);
        own = two.own;
        quiet = two.quiet;
        noted = two.noted;
      }
