-- The placed run of the same functions where they take no room on the stack: it goes as the placed run does, for as long as that
-- goes, and where that is refused a call it enters the function.
use Rattle.std.proofs.Common.{◌≡◌, ℕ, zero, suc, ◌+◌, ◌==◌, ◌||◌, Bool, true, false, if◌then◌else◌, Option, Some, None, List, [], ◌∷◌, map, length, refl, ap, sym, subst, ◌∙◌, arith}
use Rattle.std.proofs.lemmas.Bool.{ltb-true}
use Rattle.std.proofs.lemmas.List.Sums.{sum_by-cons}
use Rattle.pw_value.specs.ProgramNames.{start_name}
use Rattle.pw_value.specs.declared.value.Value.{Value}
use Rattle.pw_value.specs.declared.value.Value.TheVariants.{Undefined, Num, Null, At, Piece}
use Rattle.pw_value.specs.declared.value.Pointer.TheVariants as P
use Rattle.pw_db.specs.declared.database.Web.{Web}
use Rattle.pw_flow.specs.declared.flow.Op.{Op}
use Rattle.pw_flow.specs.declared.flow.Op.TheVariants as op
use Rattle.pw_flow.specs.declared.flow.End.{End}
use Rattle.pw_flow.specs.declared.flow.End.TheVariants.{Jump, Branch, Return}
use Rattle.pw_webflow.specs.declared.web.WebOp.{WebOp}
use Rattle.pw_webflow.specs.declared.web.WebOp.TheVariants.{Flow, Read, Write}
use Rattle.pw_webflow.specs.declared.web.WebBlock.{WebBlock}
use Rattle.pw_alloc.specs.declared.located.Located.{Located}
use Rattle.pw_run.specs.Runs.{StackFull}
use Rattle.pw_run_languages.specs.Traces.{Called, Refused}
use Rattle.pw_run_languages.specs.Memory.{look, poke, copy}
use Rattle.pw_run_languages.specs.Programs.{Program, Library, GetChar, PutChar, Exit, library_at}
use Rattle.pw_run_languages.specs.Commands.{Command, Give, Combine, Look, Poke, Copied, GetGlobal, PutGlobal, Enter, Fail, command}
use Rattle.pw_run_languages.specs.PlacedRun.{PlacedProgram, Frame, Machine, Step, On, Stopped, Astray, and_then, begins, calls_library, changes, counted, depth, does, ends, enters_webs, entered, entered_webs, exceeds, first_block, function_named, gives, globals_now, is_reserved, kept, leaves_webs, name_of, noted, obeys, start, step, steps, value_in, with_parameters}
use Rattle.pw_run_languages.specs.Direction.{with_functions}
use Rattle.pw_law_operations.proofs.Asking.{commands_rest_on_uses}
use Rattle.pw_law_selection.proofs.Reaching.{value_same}
use Rattle.pw_law_select_known.proofs.Parts.{begun_at, calls_by, next_by, reads_by, result_by, returns_by, starts_at_by, starts_by}
use Rattle.pw_law_layers.specs.Whole.{roomless}
use Rattle.pw_law_refused.specs.Refused.{IsRefused, behind}
use Rattle.pw_law_refused.proofs.Stages.{comes_from, steps_last}

and_same : (s : Step) (f g : Machine → Step) → ((m : Machine) → f m ≡ g m) → and_then s f ≡ and_then s g
and_same (On m) f g same = same m
and_same (Stopped end m) f g same = refl
and_same Astray f g same = refl

stopped_on : (m u : Machine) → Stopped StackFull m ≡ On u → ⊥
stopped_on m u e = cc

module _ (p : Program) (functions : List Located) where
  abbrev full : PlacedProgram
  full = with_functions p functions

  abbrev free : PlacedProgram
  free = with_functions (roomless p) functions

  -- ---- the stack

  no_depth : (frames : List Frame) → depth free frames ≡ 0
  no_depth [] = refl
  no_depth (f ∷ frames) =
      let deep : depth free (f ∷ frames) ≡ 0 + depth free frames = sum_by-cons (λ (g : Frame). free.flow.frame_of (name_of g)) f frames in
      let rest = no_depth frames in
      omega (arith, deep, rest)

  never_exceeds : (f : List ℕ) (frames : List Frame) → exceeds free f frames ≡ false
  never_exceeds f frames = by (exceeds free f frames) refl
    where
      by : (b : Bool) → exceeds free f frames ≡ b → b ≡ false
      by true e =
          let more = ltb-true 0 (0 + depth free frames) e in
          let none = no_depth frames in
          absurd (omega (arith, more, none))
      by false e = refl

  -- ---- what does not look at the stack

  enters_same : (ws : List Web) (m : Machine) → enters_webs full ws m ≡ enters_webs free ws m
  enters_same [] m = refl
  enters_same (w ∷ ws) m = and_same _ (enters_webs full ws) (enters_webs free ws) (enters_same ws)

  leaves_same : (ws : List Web) (m : Machine) → leaves_webs full ws m ≡ leaves_webs free ws m
  leaves_same [] m = refl
  leaves_same (w ∷ ws) m = and_same _ (leaves_webs full ws) (leaves_webs free ws) (leaves_same ws)

  reads_same : (t : Option ℕ) (m : Machine) (rest : List ℕ) → reads_by full t m rest ≡ reads_by free t m rest
  reads_same t m [] = refl
  reads_same t m (byte ∷ rest) = refl

  library_same : (g : Library) (t : Option ℕ) (args : List Value) (m : Machine) → calls_library full g t args m ≡ calls_library free g t args m
  library_same GetChar t [] m = reads_same t m m.rest
  library_same PutChar t (Num n ∷ []) m = refl
  library_same Exit t (Num n ∷ []) m = refl
  library_same _ t _ m = refl

  begins_same : (h : Located) (b : Option WebBlock) (t : Option ℕ) (args : List Value) (x : Machine) → begins full h b t args x ≡ begins free h b t args x
  begins_same h None t args x = refl
  begins_same h (Some b) t args x =
      ap (λ (s : Step). if length args == h.body.params then and_then s (λ n. On (with_parameters 0 args n)) else Astray) (enters_same (entered_webs h) (entered h b t x))

  back_same : (v : Value) (frames : List Frame) (m : Machine) → returns_by full v frames m ≡ returns_by free v frames m
  back_same v [] m = refl
  back_same v (caller ∷ callers) m = refl

  ends_same : (x : End) (m : Machine) → ends full x m ≡ ends free x m
  ends_same (Jump b) m = refl
  ends_same (Branch a b c) m = refl
  ends_same (Return t) m =
      ap (λ (s : Step). and_then s (returns_by full (result_by m t) m.callers)) (leaves_same (entered_webs m.frame.function) m)
      ∙ and_same (leaves_webs free (entered_webs m.frame.function) m) (returns_by full (result_by m t) m.callers) (returns_by free (result_by m t) m.callers) (back_same (result_by m t) m.callers)

  reserved_same : (a : Value) → is_reserved full a ≡ is_reserved free a
  reserved_same (At (P.Object o i)) = refl
  reserved_same (At (P.Function f)) = refl
  reserved_same Undefined = refl
  reserved_same (Num n) = refl
  reserved_same Null = refl
  reserved_same (Piece x i) = refl

  commands_same : (base : ℕ) (o : Op) (value : ℕ → Value) → command p base o value ≡ command (roomless p) base o value
  unfolding command
  commands_same base (op.Call t f args) value = refl
  commands_same base _ value = refl

  -- ---- a step that goes on

  unless_full : (f : List ℕ) (m u : Machine) (b : Bool) (s t : Step) → s ≡ t → (if b then Stopped StackFull (noted (Refused f) m) else s) ≡ On u
      → (if exceeds free f (m.frame ∷ m.callers) then Stopped StackFull (noted (Refused f) m) else t) ≡ On u
  unless_full f m u true s t same e = absurd (stopped_on (noted (Refused f) m) u e)
  unless_full f m u false s t same e =
      ap (λ (c : Bool). if c then Stopped StackFull (noted (Refused f) m) else t) (never_exceeds f (m.frame ∷ m.callers)) ∙ (sym same ∙ e)

  abbrev pub entering : PlacedProgram → Located → Machine → Machine
  entering q h m = counted (noted (Called h.body.name (globals_now q m.registers (m.frame ∷ m.callers) m.objects) (kept m.registers)) m)

  calls_on : (f : List ℕ) (t : Option ℕ) (args : List Value) (m u : Machine) (g : Option Library) (h : Option Located) → calls_by full t f args m g h ≡ On u → calls_by free t f args m g h ≡ On u
  calls_on f t args m u (Some g) h e = unless_full f m u (exceeds full f (m.frame ∷ m.callers)) (calls_library full g t args m) (calls_library free g t args m) (library_same g t args m) e
  calls_on f t args m u None (Some h) e =
      unless_full h.body.name m u (exceeds full h.body.name (m.frame ∷ m.callers)) (begins full h (first_block h) t args (entering full h m)) (begins free h (first_block h) t args (entering free h m))
      (begins_same h (first_block h) t args (entering full h m)) e
  calls_on f t args m u None None e = e

  obeys_on : (c : Command) (m u : Machine) → obeys full c m ≡ On u → obeys free c m ≡ On u
  obeys_on (Give t v) m u e = e
  obeys_on (Combine k t v w) m u e = e
  obeys_on (Look k t a) m u e = sym (ap (λ (b : Bool). if b then Astray else gives t (look k a m.objects) m) (reserved_same a)) ∙ e
  obeys_on (Poke k a v) m u e = sym (ap (λ (b : Bool). if b then Astray else changes (poke k a v m.objects) m) (reserved_same a)) ∙ e
  obeys_on (Copied to from size unit) m u e =
      sym (ap (λ (b : Bool). if b || is_reserved free from then Astray else changes (copy to from size unit m.objects) m) (reserved_same to))
      ∙ (sym (ap (λ (b : Bool). if is_reserved full to || b then Astray else changes (copy to from size unit m.objects) m) (reserved_same from)) ∙ e)
  obeys_on (GetGlobal t g k) m u e = e
  obeys_on (PutGlobal g k v) m u e = e
  obeys_on (Enter t f args) m u e = calls_on f t args m u (library_at f) (function_named full f) e
  obeys_on Fail m u e = e

  does_on : (o : WebOp) (m u : Machine) → does full o m ≡ On u → does free o m ≡ On u
  does_on (Flow o) m u e =
      obeys_on (command (roomless p) m.frame.base o (value_in m.frame m.registers)) m u
      (subst (λ (c : Command). obeys full c m ≡ On u) (commands_same m.frame.base o (value_in m.frame m.registers)) e)
  does_on (Read t r) m u e = e
  does_on (Write r a) m u e = e

  next_on : (m u : Machine) (ops : List WebOp) → next_by full m ops ≡ On u → next_by free m ops ≡ On u
  next_on m u [] e = sym (ends_same m.frame.end m) ∙ e
  next_on m u (o ∷ ops) e = does_on o (record m { frame = record m.frame { ops = ops } }) u e

  pub step_on : (m u : Machine) → step full m ≡ On u → step free m ≡ On u
  unfolding step
  step_on m u e = next_on m u m.frame.ops e

  -- ---- a run

  starts_at_same : (input : List ℕ) (l : Located) (b : Option WebBlock) → starts_at_by full input l b ≡ starts_at_by free input l b
  starts_at_same input l None = refl
  starts_at_same input l (Some b) = enters_same (entered_webs l) (begun_at full input l b)

  starts_same : (input : List ℕ) (l : Option Located) → starts_by full input l ≡ starts_by free input l
  starts_same input None = refl
  starts_same input (Some l) = starts_at_same input l (first_block l)

  start_same : (input : List ℕ) → start full input ≡ start free input
  start_same input = starts_same input (function_named full start_name)

  pub steps_on : (input : List ℕ) (n : ℕ) (m : Machine) → steps full n (start full input) ≡ On m → steps free n (start free input) ≡ On m
  unfolding steps
  steps_on input zero m e = sym (start_same input) ∙ e
  steps_on input (suc n) m e =
      let k = comes_from full (steps full n (start full input)) m (sym (steps_last full n (start full input)) ∙ e) in
      steps_last free n (start free input) ∙ (ap (λ (s : Step). and_then s (step free)) (steps_on input n k.before k.is) ∙ step_on k.before m k.goes)

  -- ---- a call that is refused

  pub enters_refused : (m u : Machine) → (r : IsRefused p functions m u)
      → step free m ≡ begins free r.function (first_block r.function) r.result (map (value_in m.frame m.registers) r.from) (entering free r.function (behind r.ops m))
  unfolding step
  enters_refused m u r =
      let next = behind r.ops m in
      let args = map (value_in m.frame m.registers) r.from in
      let commanded : command (roomless p) next.frame.base r.op (value_in next.frame next.registers) ≡ Enter r.result r.name args =
      sym (commands_same m.frame.base r.op (value_in next.frame next.registers))
      ∙ (commands_rest_on_uses p m.frame.base r.op (value_in next.frame next.registers) (value_in m.frame m.registers) (λ t used. value_same m.frame r.ops m.registers t) ∙ r.enters) in
      ap (λ (ops : List WebOp). next_by free m ops) r.next
      ∙ (ap (λ (c : Command). obeys free c next) commanded
      ∙ (ap (λ (g : Option Library). calls_by free r.result r.name args next g (function_named free r.name)) r.of_module
      ∙ (ap (λ (h : Option Located). calls_by free r.result r.name args next None h) r.found
      ∙ ap (λ (b : Bool). if b then Stopped StackFull (noted (Refused r.function.body.name) next) else begins free r.function (first_block r.function) r.result args (entering free r.function next))
      (never_exceeds r.function.body.name (next.frame ∷ next.callers)))))
