-- Each step is followed.
use Rattle.std.proofs.Common.{◌≡◌, ◌⊎◌, ℕ, ◌≤◌, Bool, true, false, true≢false, if◌then◌else◌, Option, Some, None, List, [], ◌∷◌, map, length, refl, sym, subst, inl, inr}
use Rattle.std.specs.List.{AllByRecursion}
use Rattle.pw_value.specs.declared.value.Value.{Value}
use Rattle.pw_db.specs.declared.database.Directives.{Directives}
use Rattle.pw_flow.specs.declared.flow.End.{End}
use Rattle.pw_flow.specs.declared.flow.End.TheVariants.{Jump, Branch, Return}
use Rattle.pw_flow.specs.declared.flow.Op.{Op}
use Rattle.pw_webflow.specs.declared.web.WebOp.{WebOp}
use Rattle.pw_webflow.specs.declared.web.WebOp.TheVariants.{Flow, Read, Write}
use Rattle.pw_webflow.specs.WebOutline.{calls}
use Rattle.pw_alloc.specs.declared.located.Located.{Located}
use Rattle.pw_run.specs.Runs.{StackFull}
use Rattle.pw_run_languages.specs.Traces.{Refused}
use Rattle.pw_run_languages.specs.Programs.{Program, Library, library_at, globals_of}
use Rattle.pw_run_languages.specs.Addresses.{Addresses}
use Rattle.pw_run_languages.specs.Commands.{Command, Enter, Fail, command}
use Rattle.pw_run_languages.specs.LineRun as run
use Rattle.pw_run_languages.specs.PlacedRun as placed
use Rattle.pw_run_languages.specs.PlacedRun.{PlacedProgram, value_in, exceeds, calls_library, calls_defined, noted, obeys}
use Rattle.pw_run_languages.specs.Direction.{with_functions}
use Rattle.pw_run_languages.specs.SelectionLaws.{line_program}
use Rattle.pw_law_operations.proofs.Asking.{commands_rest_on_uses}
use Rattle.pw_law_select_states.specs.Pointers.{AreKnown}
use Rattle.pw_law_select_known.specs.Laws.{IsOfProgram, ResultsFit, FunctionsStandInBlocks, SlotsAreBehindGlobals}
use Rattle.pw_law_select_frames.specs.Answering.{AnswersAreTaken}
use Rattle.pw_law_select_frames.specs.Library.{LibraryDoesAlike}
use Rattle.pw_law_select_frames.specs.Turning.{StaysInFunction}
use Rattle.pw_law_selection.specs.Following.{IsGiven, AreAlike, Follow, strays, StepsAreFollowed}
use Rattle.pw_law_selection.specs.Words.{RegistersHoldWords}
use Rattle.pw_law_selection.proofs.Given.{IsFine, functions_fine, op_lawful}
use Rattle.pw_law_selection.proofs.Operating.{StepLaws, operation_follows, block_end_follows}
use Rattle.pw_law_selection.proofs.Returning.{ReturnLaws, return_follows}
use Rattle.pw_law_selection.proofs.Reaching.{value_same, Enters, call_enters}
use Rattle.pw_law_selection.proofs.Entering.{CallingLaws, AtCall, defined_follows}
use Rattle.pw_law_selection.proofs.Library.{library_call_follows}

-- what is taken from the crates below
pub record AllLaws : Type 0 where
  pub step : StepLaws
  pub back : ReturnLaws
  pub calling : CallingLaws
  pub library : LibraryDoesAlike
  pub answers : AnswersAreTaken
  pub words : RegistersHoldWords
  pub stand : FunctionsStandInBlocks
  pub slots : SlotsAreBehindGlobals

module _ (laws : AllLaws) (p : Program) (d : List (List ℕ × Directives)) (functions : List Located) (w : Addresses) (scratch : ℕ → (ℕ → ℕ) → ℕ → ℕ) (input : List ℕ) (index : ℕ)
    (m : placed.Machine) (l : run.Machine) (given : IsGiven p d functions w input) (steps : placed.steps (with_functions p functions) index (placed.start (with_functions p functions) input) ≡ placed.On m)
    (reached : (k : ℕ) × (run.steps (line_program p functions) w scratch k (run.start (line_program p functions) w input) ≡ run.On l)) (known : AreKnown p m) (alike : AreAlike p d w m l) where
  abbrev full : PlacedProgram
  full = with_functions p functions

  stand : IsOfProgram functions m.frame × (AllByRecursion (IsOfProgram functions) m.callers × ResultsFit m.frame.result m.callers)
  stand = laws.stand p functions input index m (λ x there. (functions_fine p given.program d given.directives functions given.serve given.frames x there).lawful) steps

  fine : IsFine p d m.frame.function
  fine = functions_fine p given.program d given.directives functions given.serve given.frames m.frame.function stand.0.there

  base : length (globals_of p) ≤ m.frame.base
  base = laws.slots p d functions input given.program given.serve index m steps

  -- ---- calls

  module _ (o : Op) (ops : List WebOp) (is : m.frame.ops ≡ Flow o ∷ ops) (call : calls (Flow o) ≡ true) where
    abbrev next : placed.Machine
    next = record m { frame = record m.frame { ops = ops } }

    at : AtCall p d functions w input m l o ops
    at = record { given = given; index = index; steps = steps; known = known; here = stand.0; callers = stand.1.0; alike = alike; next = is; calls = call }

    abbrev calls_by : Option ℕ → List ℕ → List Value → Option Library → Option Located → placed.Step
    calls_by t f args (Some g) defined = if exceeds full f (next.frame ∷ next.callers) then placed.Stopped StackFull (noted (Refused f) next) else calls_library full g t args next
    calls_by t f args None (Some h) = calls_defined full h t args next
    calls_by t f args None None = placed.Astray

    module _ (e : Enters m.frame.function.body.temps (value_in m.frame m.registers) (command p m.frame.base o (value_in m.frame m.registers))) where
      by_function : (g : Option Library) → library_at e.name ≡ g → (h : Option Located) → placed.function_named full e.name ≡ h
          → Follow p d functions w scratch (run.On l) (calls_by e.result e.name (map (value_in m.frame m.registers) e.from) g h)
      by_function (Some g) named h found =
          library_call_follows laws.calling laws.library laws.answers laws.words p d functions w scratch input m l reached o ops at e.result e.name e.from e.is e.fits g named
      by_function None named (Some h) found = defined_follows laws.calling p d functions w scratch input m l o ops at e.result e.name e.from e.is h named found
      by_function None named None found = strays

      enter_follows : Follow p d functions w scratch (run.On l) (obeys full (Enter e.result e.name (map (value_in m.frame m.registers) e.from)) next)
      enter_follows = by_function (library_at e.name) refl (placed.function_named full e.name) refl

    by_command : Enters m.frame.function.body.temps (value_in m.frame m.registers) (command p m.frame.base o (value_in m.frame m.registers)) ⊎ (command p m.frame.base o (value_in m.frame m.registers) ≡ Fail)
        → Follow p d functions w scratch (run.On l) (obeys full (command p m.frame.base o (value_in m.frame m.registers)) next)
    by_command (inl e) = subst (λ (c : Command). Follow p d functions w scratch (run.On l) (obeys full c next)) (sym e.is) (enter_follows e)
    by_command (inr none) = subst (λ (c : Command). Follow p d functions w scratch (run.On l) (obeys full c next)) (sym none) strays

    call_follows : Follow p d functions w scratch (run.On l) (placed.does full (Flow o) next)
    call_follows =
        let inside = subst (λ (xs : List WebOp). IsOfProgram functions (record m.frame { ops = xs })) is stand.0 in
        let valid = op_lawful p d functions m.frame.function fine m.frame.block (Flow o) ops m.frame.end inside in
        let same : command p m.frame.base o (value_in next.frame next.registers) ≡ command p m.frame.base o (value_in m.frame m.registers) =
        commands_rest_on_uses p m.frame.base o (value_in next.frame next.registers) (value_in m.frame m.registers) (λ t used. value_same m.frame ops m.registers t) in
        subst (λ (c : Command). Follow p d functions w scratch (run.On l) (obeys full c next)) (sym same)
        (by_command (call_enters p m.frame.base m.frame.function.body.temps (length m.frame.function.body.slots) o (value_in m.frame m.registers) call valid))

  -- ---- operations

  by_call : (o : WebOp) (ops : List WebOp) → m.frame.ops ≡ o ∷ ops → (b : Bool) → calls o ≡ b → Follow p d functions w scratch (run.On l) (placed.does full o (record m { frame = record m.frame { ops = ops } }))
  by_call o ops is false e = operation_follows laws.step p d functions w scratch input given m l known stand.0 alike o ops is e
  by_call (Flow o) ops is true e = call_follows o ops is e
  by_call (Read t r) ops is true e = absurd (true≢false (sym e))
  by_call (Write r a) ops is true e = absurd (true≢false (sym e))

  -- ---- ends

  by_end : (x : End) → m.frame.end ≡ x → m.frame.ops ≡ [] → Follow p d functions w scratch (run.On l) (placed.ends full x m)
  by_end (Jump b) e is = stays (Jump b) e is tt
    where
      stays : (x : End) → m.frame.end ≡ x → m.frame.ops ≡ [] → StaysInFunction x → Follow p d functions w scratch (run.On l) (placed.ends full x m)
      stays x e is h =
          subst (λ (y : End). Follow p d functions w scratch (run.On l) (placed.ends full y m)) e
          (block_end_follows laws.step p d functions w scratch input given m l known stand.0 alike is (subst StaysInFunction (sym e) h))
  by_end (Branch a b c) e is = stays (Branch a b c) e is tt
    where
      stays : (x : End) → m.frame.end ≡ x → m.frame.ops ≡ [] → StaysInFunction x → Follow p d functions w scratch (run.On l) (placed.ends full x m)
      stays x e is h =
          subst (λ (y : End). Follow p d functions w scratch (run.On l) (placed.ends full y m)) e
          (block_end_follows laws.step p d functions w scratch input given m l known stand.0 alike is (subst StaysInFunction (sym e) h))
  by_end (Return t) e is = return_follows laws.back p d functions w scratch input given m l reached known stand base alike t is e

  abbrev next_by : List WebOp → placed.Step
  next_by [] = placed.ends full m.frame.end m
  next_by (o ∷ ops) = placed.does full o (record m { frame = record m.frame { ops = ops } })

  by_ops : (xs : List WebOp) → m.frame.ops ≡ xs → Follow p d functions w scratch (run.On l) (next_by xs)
  by_ops [] e = by_end m.frame.end refl e
  by_ops (o ∷ ops) e = by_call o ops e (calls o) refl

  pub step_follows : Follow p d functions w scratch (run.On l) (placed.step full m)
  unfolding placed.step
  step_follows = by_ops m.frame.ops refl

pub steps_are_followed : AllLaws → StepsAreFollowed
steps_are_followed laws p d functions w scratch input n m l given steps reached known alike = step_follows laws p d functions w scratch input n m l given steps reached known alike
