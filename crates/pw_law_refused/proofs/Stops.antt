-- Where the placed run stops for want of stack.
use Rattle.std.proofs.Common.{◌≡◌, ◌⊎◌, ℕ, ◌+◌, ◌%◌, ◌<◌, ◌==◌, Bool, true, false, true≢false, if◌then◌else◌, Option, Some, None, List, [], ◌∷◌, map, length, refl, ap, sym, subst, arith, inl, inr}
use Rattle.std.specs.Prelude.{Contains, bytes_eq}
use Rattle.std.specs.List.{sum_by}
use Rattle.std.proofs.lemmas.Bool.{ltb-true}
use Rattle.std.proofs.lemmas.Slice.Eq.{bytes_eq-Decides}
use Rattle.pw_value.specs.declared.value.Value.{Value}
use Rattle.pw_value.specs.declared.value.Value.TheVariants.{Num}
use Rattle.pw_value.specs.ProgramNames.{exit_name, getchar_name, putchar_name, library_functions}
use Rattle.pw_db.specs.declared.database.Directives.{Directives}
use Rattle.pw_flow.specs.declared.flow.Op.{Op}
use Rattle.pw_webflow.specs.declared.web.WebOp.{WebOp}
use Rattle.pw_webflow.specs.declared.web.WebOp.TheVariants.{Flow, Read, Write}
use Rattle.pw_webflow.specs.declared.web.WebBlock.{WebBlock}
use Rattle.pw_webflow.specs.WebOutline.{calls}
use Rattle.pw_alloc.specs.declared.located.Located.{Located}
use Rattle.pw_run.specs.Runs.{Ended, StackFull}
use Rattle.pw_run.specs.Runs as ending
use Rattle.pw_run_languages.specs.Traces.{Called, Refused}
use Rattle.pw_run_languages.specs.Programs.{Program, Library, GetChar, PutChar, Exit, NoneForLibrary, library_at}
use Rattle.pw_run_languages.specs.Addresses.{Addresses}
use Rattle.pw_run_languages.specs.Commands.{Command, Fail, command}
use Rattle.pw_run_languages.specs.PlacedRun.{PlacedProgram, Machine, Step, On, Stopped, Astray, and_then, begins, calls_library, counted, depth, does, entered, entered_webs, enters_webs, exceeds, first_block, function_named, globals_now, kept, name_of, noted, obeys, step, value_in, with_parameters}
use Rattle.pw_run_languages.specs.Direction.{with_functions}
use Rattle.pw_law_operations.proofs.Asking.{commands_rest_on_uses}
use Rattle.pw_law_select_known.specs.Laws.{IsOfProgram, OperationsNeverStop, WebsNeverStop, EndsNeverStop}
use Rattle.pw_law_selection.specs.Following.{IsGiven}
use Rattle.pw_law_selection.proofs.Given.{functions_fine, op_lawful}
use Rattle.pw_law_selection.proofs.Reaching.{value_same, Enters, call_enters, webs_go}
use Rattle.pw_law_room.specs.Room.{HadRoom, names_active}
use Rattle.pw_law_select_known.proofs.Parts.{calls_by, next_by, reads_by}
use Rattle.pw_law_room.proofs.Running.{depth_is}
use Rattle.pw_law_refused.specs.Refused.{IsRefused, behind}

-- ---- the library

library_name : (f : List ℕ) (g : Library) → library_at f ≡ Some g → Contains library_functions f
library_name f g e = by (bytes_eq f getchar_name) (bytes_eq f putchar_name) (bytes_eq f exit_name) refl refl refl e
  where
    here : (name : List ℕ) → bytes_eq f name ≡ true → Contains library_functions name → Contains library_functions f
    here name same there = subst (λ (n : List ℕ). Contains library_functions n) (sym ((bytes_eq-Decides f name).0 same)) there

    by : (a b c : Bool) → bytes_eq f getchar_name ≡ a → bytes_eq f putchar_name ≡ b → bytes_eq f exit_name ≡ c → (if a then Some GetChar else if b then Some PutChar else if c then Some Exit else None) ≡ Some g → Contains library_functions f
    by true b c x y z e = here getchar_name x (1, omega arith, refl)
    by false true c x y z e = here putchar_name y (2, omega arith, refl)
    by false false true x y z e = here exit_name z (0, omega arith, refl)
    by false false false x y z e = absurd cc

-- what stops is none that goes on, or astray
on_stops : (m u : Machine) (end : ending.End) → On m ≡ Stopped end u → ⊥
on_stops m u end e = cc

astray_stops : (u : Machine) (end : ending.End) → Astray ≡ Stopped end u → ⊥
astray_stops u end e = cc

ended_stops : (m u : Machine) (status : ℕ) → Stopped (Ended status) m ≡ Stopped StackFull u → ⊥
ended_stops m u status e = cc

same_end : (m u : Machine) (a b : ending.End) → Stopped a m ≡ Stopped b u → (a ≡ b) × (m ≡ u)
same_end m u a b e = (cc, cc)

module _ (p : Program) (functions : List Located) (u : Machine) where
  abbrev full : PlacedProgram
  full = with_functions p functions

  reads_never : (t : Option ℕ) (x : Machine) (rest : List ℕ) → reads_by full t x rest ≡ Stopped StackFull u → ⊥
  reads_never t x [] e = on_stops _ u StackFull e
  reads_never t x (byte ∷ rest) e = on_stops _ u StackFull e

  library_never : (g : Library) (t : Option ℕ) (args : List Value) (x : Machine) → calls_library full g t args x ≡ Stopped StackFull u → ⊥
  library_never GetChar t [] x e = reads_never t x x.rest e
  library_never PutChar t (Num n ∷ []) x e = on_stops _ u StackFull e
  library_never Exit t (Num n ∷ []) x e = ended_stops _ u (n % 256) e
  library_never _ t _ x e = astray_stops u StackFull e

  -- ---- a function that is entered

  goes_never : (args : List Value) (s : Step) → (s ≡ Stopped StackFull u → ⊥) → and_then s (λ n. On (with_parameters 0 args n)) ≡ Stopped StackFull u → ⊥
  goes_never args (On n) never e = on_stops _ u StackFull e
  goes_never args (Stopped end n) never e = never e
  goes_never args Astray never e = astray_stops u StackFull e

  either_never : (b : Bool) (s : Step) → (s ≡ Stopped StackFull u → ⊥) → (if b then s else Astray) ≡ Stopped StackFull u → ⊥
  either_never true s never e = never e
  either_never false s never e = astray_stops u StackFull e

  begins_never : WebsNeverStop → (h : Located) (b : Option WebBlock) (t : Option ℕ) (args : List Value) (x : Machine) → begins full h b t args x ≡ Stopped StackFull u → ⊥
  begins_never webs h None t args x e = astray_stops u StackFull e
  begins_never webs h (Some b) t args x e =
      either_never (length args == h.body.params) (and_then (enters_webs full (entered_webs h) (entered h b t x)) (λ n. On (with_parameters 0 args n)))
      (goes_never args (enters_webs full (entered_webs h) (entered h b t x)) (webs_go webs p functions StackFull u (entered_webs h) (entered h b t x))) e

  -- ---- a call

  module _ (webs : WebsNeverStop) (m : Machine) (none : NoneForLibrary p.frame_of) (named : names_active m.trace ≡ map name_of (m.frame ∷ m.callers)) (had : HadRoom p u.trace)
      (o : Op) (ops : List WebOp) (next_is : m.frame.ops ≡ Flow o ∷ ops) (called : calls (Flow o) ≡ true) where
    abbrev next : Machine
    next = behind ops m

    -- the library takes no room
    library_fits : (f : List ℕ) (g : Library) → library_at f ≡ Some g → exceeds full f (next.frame ∷ next.callers) ≡ true → noted (Refused f) next ≡ u → ⊥
    library_fits f g is over same =
        let before : HadRoom p (Refused f ∷ m.trace) = subst (λ (x : Machine). HadRoom p x.trace) (sym same) had in
        let no_frame = none f (library_name f g is) in
        let deep = depth_is p functions none (m.frame ∷ m.callers) in
        let known : sum_by p.frame_of (names_active m.trace) ≡ sum_by p.frame_of (map name_of (m.frame ∷ m.callers)) = ap (sum_by p.frame_of) named in
        let room = before.0 in
        let more : p.stack < p.frame_of f + depth full (m.frame ∷ m.callers) = ltb-true p.stack (p.frame_of f + depth full (m.frame ∷ m.callers)) over in
        omega (arith, no_frame, deep, known, room, more)

    refused_or : (b : Bool) (f : List ℕ) (rest : Step) → (rest ≡ Stopped StackFull u → ⊥) → (if b then Stopped StackFull (noted (Refused f) next) else rest) ≡ Stopped StackFull u → (b ≡ true) × (noted (Refused f) next ≡ u)
    refused_or true f rest never e = (refl, (same_end (noted (Refused f) next) u StackFull StackFull e).1)
    refused_or false f rest never e = absurd (never e)

    module _ (e : Enters m.frame.function.body.temps (value_in m.frame m.registers) (command p m.frame.base o (value_in m.frame m.registers))) where
      abbrev args : List Value
      args = map (value_in m.frame m.registers) e.from

      by_function : (g : Option Library) → library_at e.name ≡ g → (h : Option Located) → function_named full e.name ≡ h → calls_by full e.result e.name args next g h ≡ Stopped StackFull u → IsRefused p functions m u
      by_function (Some g) is h found stops =
          let r = refused_or (exceeds full e.name (next.frame ∷ next.callers)) e.name (calls_library full g e.result args next) (library_never g e.result args next) stops in
          absurd (library_fits e.name g is r.0 r.1)
      by_function None is (Some h) found stops =
          let gs = globals_now full next.registers (next.frame ∷ next.callers) next.objects in
          let entering : Machine = counted (noted (Called h.body.name gs (kept next.registers)) next) in
          let r = refused_or (exceeds full h.body.name (next.frame ∷ next.callers)) h.body.name (begins full h (first_block h) e.result args entering) (begins_never webs h (first_block h) e.result args entering) stops in
          record {
            op = o;
            ops = ops;
            next = next_is;
            calls = called;
            result = e.result;
            name = e.name;
            from = e.from;
            enters = e.is;
            of_module = is;
            function = h;
            found = found;
            full = r.0;
            stops = sym r.1;
          }
      by_function None is None found stops = absurd (astray_stops u StackFull stops)

    by_command : Enters m.frame.function.body.temps (value_in m.frame m.registers) (command p m.frame.base o (value_in m.frame m.registers)) ⊎ (command p m.frame.base o (value_in m.frame m.registers) ≡ Fail)
        → obeys full (command p m.frame.base o (value_in m.frame m.registers)) next ≡ Stopped StackFull u → IsRefused p functions m u
    by_command (inl e) stops = by_function e (library_at e.name) refl (function_named full e.name) refl (subst (λ (c : Command). obeys full c next ≡ Stopped StackFull u) e.is stops)
    by_command (inr fails) stops = absurd (astray_stops u StackFull (subst (λ (c : Command). obeys full c next ≡ Stopped StackFull u) fails stops))

  -- ---- a step

  module _ (operations : OperationsNeverStop) (webs : WebsNeverStop) (ends_never : EndsNeverStop) (d : List (List ℕ × Directives)) (w : Addresses) (input : List ℕ) (given : IsGiven p d functions w input) (m : Machine)
      (none : NoneForLibrary p.frame_of) (named : names_active m.trace ≡ map name_of (m.frame ∷ m.callers)) (had : HadRoom p u.trace) (here : IsOfProgram functions m.frame) where
    by_call : (o : WebOp) (ops : List WebOp) → m.frame.ops ≡ o ∷ ops → (b : Bool) → calls o ≡ b → does full o (behind ops m) ≡ Stopped StackFull u → IsRefused p functions m u
    by_call o ops is false quiet stops = absurd (operations p functions o (behind ops m) u StackFull quiet stops)
    by_call (Flow o) ops is true called stops =
        let fine = functions_fine p given.program d given.directives functions given.serve given.frames m.frame.function here.there in
        let inside = subst (λ (xs : List WebOp). IsOfProgram functions (record m.frame { ops = xs })) is here in
        let valid = op_lawful p d functions m.frame.function fine m.frame.block (Flow o) ops m.frame.end inside in
        let next = behind ops m in
        let same : command p m.frame.base o (value_in next.frame next.registers) ≡ command p m.frame.base o (value_in m.frame m.registers) =
        commands_rest_on_uses p m.frame.base o (value_in next.frame next.registers) (value_in m.frame m.registers) (λ t used. value_same m.frame ops m.registers t) in
        by_command webs m none named had o ops is called
        (call_enters p m.frame.base m.frame.function.body.temps (length m.frame.function.body.slots) o (value_in m.frame m.registers) called valid)
        (subst (λ (c : Command). obeys full c next ≡ Stopped StackFull u) same stops)
    by_call (Read t r) ops is true called stops = absurd (true≢false (sym called))
    by_call (Write r a) ops is true called stops = absurd (true≢false (sym called))

    by_ops : (xs : List WebOp) → m.frame.ops ≡ xs → next_by full m xs ≡ Stopped StackFull u → IsRefused p functions m u
    by_ops [] is stops = absurd (ends_never p functions m.frame.end m u StackFull stops)
    by_ops (o ∷ ops) is stops = by_call o ops is (calls o) refl stops

    pub step_stops : step full m ≡ Stopped StackFull u → IsRefused p functions m u
    unfolding step
    step_stops stops = by_ops m.frame.ops refl stops
