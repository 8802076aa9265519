-- A return: webs are stored back, the caller goes on, and takes the answer.
use Rattle.std.proofs.Common.{◌≡◌, ℕ, zero, suc, false, Contains, ◌+◌, ◌-◌, ◌≤◌, Option, Some, None, List, [], ◌∷◌, ◌++◌, length, slice_set, refl, ap, sym, subst, ◌∙◌, arith, append_assoc}
use Rattle.std.specs.List.{AllByRecursion}
use Rattle.std.proofs.lemmas.List.{length-set}
use Rattle.pw_value.specs.declared.value.Byte.{Byte}
use Rattle.pw_value.specs.declared.value.Value.{Value}
use Rattle.pw_value.specs.declared.value.Value.TheVariants.{Undefined}
use Rattle.pw_value.specs.Objects.{Object, object_at, ended}
use Rattle.pw_db.specs.declared.database.Directives.{Directives}
use Rattle.pw_inst.specs.Registers.{answer}
use Rattle.pw_inst.specs.declared.line.Line.{Line}
use Rattle.pw_inst.specs.declared.line.Line.TheVariants.{Leave}
use Rattle.pw_flow.specs.ValidFlow.{IsResult, IsEnd}
use Rattle.pw_flow.specs.declared.flow.End.TheVariants.{Return}
use Rattle.pw_alloc.specs.declared.located.Located.{Located}
use Rattle.pw_delay.specs.Items.{slotted}
use Rattle.pw_select_lines.specs.Operations.{call_result}
use Rattle.pw_run.specs.Runs as ending
use Rattle.pw_run_languages.specs.Traces.{Event}
use Rattle.pw_run_languages.specs.Calls.{FollowsCalls}
use Rattle.pw_run_languages.specs.Programs.{Program, globals_of}
use Rattle.pw_run_languages.specs.LawfulPrograms.{graph_of}
use Rattle.pw_run_languages.specs.Addresses.{Addresses}
use Rattle.pw_run_languages.specs.Acts.{register}
use Rattle.pw_run_languages.specs.Standing.{ValueStands, EventInWords}
use Rattle.pw_run_languages.specs.LineRun as run
use Rattle.pw_run_languages.specs.Links.{HasLinks}
use Rattle.pw_run_languages.specs.FlowRun.{end_from}
use Rattle.pw_run_languages.specs.PlacedRun as placed
use Rattle.pw_run_languages.specs.PlacedRun.{value_in, PlacedProgram, register_at, with_register, takes_result, entered_webs, leaves_webs}
use Rattle.pw_run_languages.specs.Direction.{with_functions}
use Rattle.pw_run_languages.specs.SelectionLaws.{line_program}
use Rattle.pw_law_select_states.specs.Laid.{address}
use Rattle.pw_law_select_states.specs.Passes.{further}
use Rattle.pw_law_select_states.specs.Pointers.{FrameIsKnown, AreKnown}
use Rattle.pw_law_select_known.specs.Laws.{IsAccess, IsOfProgram, ResultsFit, EndsNeverStop}
use Rattle.pw_law_select_frames.specs.Amid.{BothAmid, WholeStatesAreAmid, left_of}
use Rattle.pw_law_select_frames.specs.Answering.{AnswersAreTaken}
use Rattle.pw_law_select_frames.specs.Blocks.{items_from, blocks_behind}
use Rattle.pw_law_select_frames.specs.Chain.{AllWait}
use Rattle.pw_law_select_frames.specs.Extending.{FramesAreKnown}
use Rattle.pw_law_select_frames.specs.Framing.{PlacesAreBelow, FramesAreSized}
use Rattle.pw_law_select_frames.specs.Leaving.{leaving}
use Rattle.pw_law_select_frames.specs.Returning.{BothTake, Returns, FunctionsComeBack, LinksStandThen, back_with}
use Rattle.pw_law_select_calls.specs.GoingBack.{GoesBack, ReturnsAreReached, answer_of}
use Rattle.pw_law_selection.specs.Following.{IsGiven, AreKept, AreAlike, Comes, Follow, goes, strays}
use Rattle.pw_law_selection.specs.Linking.{StatesHaveLinks}
use Rattle.pw_law_selection.specs.Words.{RegistersHoldWords}
use Rattle.pw_law_selection.proofs.Given.{IsFine, functions_fine, end_lawful}
use Rattle.pw_law_selection.proofs.Linking.{same_machine}
use Rattle.pw_law_selection.proofs.Coming.{behind_links, steps_add, joined, end_links, comes_by, comes_through}
use Rattle.pw_law_selection.proofs.Saved.{leaves_stay}
use Rattle.pw_law_selection.proofs.Keeping.{calls_without, quiet_lines, kept_on}
use Rattle.pw_law_selection.proofs.Calling.{CallLaws, waiting_there, kept_when_returned}
use Rattle.pw_law_selection.proofs.Operating.{frames_known}

-- what is taken from the crates below
pub record ReturnLaws : Type 0 where
  pub reach : ReturnsAreReached
  pub back : FunctionsComeBack
  pub goes_behind : LinksStandThen
  pub answers : AnswersAreTaken
  pub links : StatesHaveLinks
  pub whole : WholeStatesAreAmid
  pub never : EndsNeverStop
  pub places : PlacesAreBelow
  pub sizes : FramesAreSized
  pub call : CallLaws
  pub words : RegistersHoldWords

-- ---- a result that is taken

abbrev put_by : ℕ → Value → placed.Machine → Option ℕ → placed.Machine
put_by t v m (Some r) = record m { registers = with_register r v m.registers }
put_by t v m None = record m { frame = record m.frame { temps = slice_set m.frame.temps t v } }

-- it changes nothing of what is shown
pub record ShowsSame (m n : placed.Machine) : Type 0 where
  pub rest : n.rest ≡ m.rest
  pub read : n.read ≡ m.read
  pub out : n.out ≡ m.out
  pub events : n.events ≡ m.events
  pub trace : n.trace ≡ m.trace

put_shows : (t : ℕ) (v : Value) (m : placed.Machine) (r : Option ℕ) → ShowsSame m (put_by t v m r)
put_shows t v m (Some r) = record { rest = refl; read = refl; out = refl; events = refl; trace = refl }
put_shows t v m None = record { rest = refl; read = refl; out = refl; events = refl; trace = refl }

pub takes_shows : (t : Option ℕ) (v : Value) (m : placed.Machine) → ShowsSame m (takes_result t v m)
takes_shows (Some t) v m = put_shows t v m (register_at m.frame.function.places t)
takes_shows None v m = record { rest = refl; read = refl; out = refl; events = refl; trace = refl }

-- objects that end keep their numbers
ended_length : (more o : ℕ) (objects : List Object) → length (end_from more o objects) ≡ length objects
ended_length zero o objects = refl
ended_length (suc more) o objects = ended_length more (suc o) (ended o objects) ∙ length-set objects o (record (object_at objects o) { live = false })

-- behind a call both runs are amid the caller
pub take_is_amid : (p : Program) (w : Addresses) (site : ℕ → ℕ) (t : Option ℕ) (m : placed.Machine) (l : run.Machine) → BothTake p w site t m l
    → BothAmid p w site (call_result m.frame.function.places t ++ left_of m.frame) m l
take_is_amid p w site t m l h = record {
  stands = h.stands;
  active = h.active;
  top = h.top;
  old = h.old;
  later = h.later;
  left = h.left;
  inside = (h.behind.before ++ (h.behind.item ∷ []), h.behind.items ∙ sym (append_assoc h.behind.before (h.behind.item ∷ []) l.frame.left));
  callers = h.callers;
}

abbrev result_by : placed.Machine → Option ℕ → Value
result_by m (Some t) = value_in m.frame m.registers t
result_by m None = Undefined

abbrev returned_by : PlacedProgram → Value → List placed.Frame → placed.Machine → placed.Step
returned_by q v [] left = placed.Astray
returned_by q v (caller ∷ callers) left = placed.given_back q v caller callers left

module _ (laws : ReturnLaws) (p : Program) (d : List (List ℕ × Directives)) (functions : List Located) (w : Addresses) (scratch : ℕ → (ℕ → ℕ) → ℕ → ℕ) (input : List ℕ) (given : IsGiven p d functions w input)
    (m : placed.Machine) (l : run.Machine) (reached : (k : ℕ) × (run.steps (line_program p functions) w scratch k (run.start (line_program p functions) w input) ≡ run.On l)) (known : AreKnown p m)
    (stand : IsOfProgram functions m.frame × (AllByRecursion (IsOfProgram functions) m.callers × ResultsFit m.frame.result m.callers)) (base : length (globals_of p) ≤ m.frame.base)
    (alike : AreAlike p d w m l) (t : Option ℕ) (is : m.frame.ops ≡ []) (end : m.frame.end ≡ Return t) where
  abbrev full : PlacedProgram
  full = with_functions p functions

  abbrev f : Located
  f = m.frame.function

  abbrev v : Value
  v = result_by m t

  same_value : (o : Option ℕ) → answer_of o m ≡ result_by m o
  same_value (Some o) = refl
  same_value None = refl

  fine : IsFine p d f
  fine = functions_fine p given.program d given.directives functions given.serve given.frames f stand.0.there

  located_is : l.frame.function.located ≡ f
  located_is = ap (λ (x : run.LineFn). x.located) alike.stand.active.function

  here : HasLinks w l
  here = laws.links p w alike.site m l alike.stand

  result_there : IsResult f.body.temps t
  result_there = subst (IsEnd f.body.temps (length f.body.blocks)) end (end_lawful p d functions f fine m.frame.block m.frame.ops m.frame.end stand.0)

  abbrev behind : List Line
  behind = leaving f ++ Leave ∷ blocks_behind f m.frame.block

  module _ (n : placed.Machine) (goes_back : GoesBack p functions w scratch alike.site t m n l) where
    abbrev g : GoesBack p functions w scratch alike.site t m n l
    g = goes_back

    abbrev l1 : run.Machine
    l1 = further (slotted behind) g.core g.passes.more g.log l

    one : Comes p functions w scratch (run.On l) (run.On l1)
    one = comes_through p functions w scratch l (slotted behind) g.core g.log here g.passes

    log_quiet : AllByRecursion (λ e. IsAccess e) g.log
    log_quiet =
        quiet_lines p w.named g.own m.trace g.log l.trace g.quiet alike.show.log
        (subst (λ (x : List (Event Byte Value)). ending.AreAlike (EventInWords p w.named) x (g.log ++ l.trace)) g.noted (g.logs alike.show.log))

    kept_one : AreKept p d l → AreKept p d l1
    kept_one h =
        kept_on laws.call.kept p d f l (slotted behind) g.core g.passes.more g.log fine located_is
        (leaves_stay laws.places laws.sizes p w alike.site (left_of m.frame) m l given.lawful (laws.whole p w alike.site m l alike.stand) g.core g.leaves) g.leaves.registers log_quiet h

    same_base : n.frame.base ≡ m.frame.base
    same_base = ap (λ (x : placed.Frame). x.base) g.frame

    module _ (caller : placed.Frame) (callers : List placed.Frame) (below : m.callers ≡ caller ∷ callers) (waiting : run.Frame) (waits : List run.Frame) (lines_below : l.callers ≡ waiting ∷ waits)
        (wait : AllWait p w alike.site n.objects g.core.memory n.frame l.frame.stack (caller ∷ callers) (waiting ∷ waits)) where
      abbrev back : placed.Machine
      back = back_with p functions caller callers n

      callers_known : AllByRecursion (FrameIsKnown p (length n.objects)) (caller ∷ callers)
      callers_known =
          subst (λ (cs : List placed.Frame). AllByRecursion (FrameIsKnown p (length n.objects)) cs) below
          (subst (λ c. AllByRecursion (FrameIsKnown p c) m.callers) (sym g.same.count) known.callers)

      returning : Returns p w functions scratch alike.site n l1 caller callers
      returning = laws.back p w functions scratch alike.site n l1 caller callers waiting waits (blocks_behind f m.frame.block) (record {
        lawful = given.lawful;
        stands = g.amid.stands;
        active = g.amid.active;
        top = g.amid.top;
        left = ap (λ (x : placed.Frame). slotted (leaving x.function ++ Leave ∷ blocks_behind f m.frame.block)) (sym g.frame);
        inside = g.amid.inside;
        below = lines_below;
        wait = wait;
        known = callers_known;
        base = (let slots = known.frame.slots in let count = g.same.count in omega (arith, slots, count, same_base));
        globals = λ o less. (omega (arith, less, base, same_base));
        log = g.logs alike.show.log;
      })

      abbrev last : run.Machine
      last = returning.last

      two : Comes p functions w scratch (run.On l1) (run.On last)
      two = comes_by p functions w scratch l1 (run.On last) returning.count (end_links p functions w scratch (run.On l) l1 one) returning.steps returning.amid
          (λ o e. subst (HasLinks w) (same_machine last o e) (behind_links w last (laws.goes_behind p w alike.site n.frame.result back last returning.takes)))

      there : Comes p functions w scratch (run.On l) (run.On last)
      there = joined p functions w scratch (run.On l) (run.On l1) (run.On last) one two

      callers_there : AllByRecursion (λ (x : run.Frame). Contains functions x.function.located) l1.callers
      callers_there = waiting_there p w alike.site functions m l.core.memory m.frame l.frame.stack m.callers l.callers alike.stand.callers stand.1.0

      kept_two : AreKept p d l1 → AreKept p d last
      kept_two h =
          kept_when_returned laws.call p d functions w input given n.frame.function l1 last (located_is ∙ sym (ap (λ (x : placed.Frame). x.function) g.frame)) callers_there returning.frames returning.given returning.memory
          (run.globals_in (line_program p functions) w last.core l1.callers) returning.noted h

      -- ---- the answer

      objects_same : length back.objects ≡ length n.objects
      objects_same = ended_length (length n.objects - n.frame.base) n.frame.base n.objects

      back_known : FramesAreKnown p back
      back_known =
          let all = subst (λ c. AllByRecursion (FrameIsKnown p c) (caller ∷ callers)) (sym objects_same) callers_known in
          record { frame = all.0; callers = all.1 }

      answer_stands : ValueStands (address p w alike.site) v (register last.core answer)
      answer_stands = subst (ValueStands (address p w alike.site) v) (sym returning.value) (subst (λ (x : Value). ValueStands (address p w alike.site) x (register g.core answer)) (same_value t) g.value)

      last_reached : run.steps (line_program p functions) w scratch (reached.0 + there.count) (run.start (line_program p functions) w input) ≡ run.On last
      last_reached =
          steps_add p functions w scratch reached.0 there.count (run.start (line_program p functions) w input)
          ∙ (ap (run.steps (line_program p functions) w scratch there.count) reached.1 ∙ there.steps)

      results_fit : ResultsFit m.frame.result (caller ∷ callers)
      results_fit = subst (λ (cs : List placed.Frame). ResultsFit m.frame.result cs) below stand.1.1

      caller_there : Contains functions caller.function
      caller_there = (subst (λ (cs : List placed.Frame). AllByRecursion (IsOfProgram functions) cs) below stand.1.0).0.there

      pub return_goes : Follow p d functions w scratch (run.On l) (placed.given_back full v caller callers n)
      return_goes =
          let items = items_from caller.function caller.block caller.ops caller.end in
          let a = laws.answers p w functions scratch alike.site n.frame.result v back last (record {
            lawful = given.lawful;
            takes = returning.takes;
            known = back_known;
            temp = λ k e. results_fit.0 k (sym (ap (λ (x : placed.Frame). x.result) g.frame) ∙ e);
            value = λ k e. answer_stands;
            word = λ k e. laws.words p d functions w scratch input given (reached.0 + there.count) last last_reached answer;
          }) in
          let end = further items a.core a.passes.more [] last in
          let three = comes_through p functions w scratch last items a.core [] (end_links p functions w scratch (run.On l) last there) a.passes in
          let taken = takes_shows n.frame.result v back in
          let before = alike.show.events in
          let webs = g.shown.3 in
          let more = returning.show.3 in
          let same = taken.events in
          let called = returning.takes.active.function in
          goes (takes_result n.frame.result v back) end (joined p functions w scratch (run.On l) (run.On last) (run.On end) there three) (record {
            site = alike.site;
            stand = a.stands;
            show = record {
              rest = returning.show.0 ∙ (alike.show.rest ∙ (sym g.shown.0 ∙ sym taken.rest));
              read = returning.show.1 ∙ (alike.show.read ∙ (sym g.shown.1 ∙ sym taken.read));
              out = returning.show.2 ∙ (alike.show.out ∙ (sym g.shown.2 ∙ sym taken.out));
              events = omega (arith, before, webs, more, same);
              log = subst (λ (x : List (Event Byte Value)). ending.AreAlike (EventInWords p w.named) x last.trace) (sym taken.trace) returning.log;
            };
            kept = λ calls.
                let own = subst (λ (x : List (Event Byte Value)). FollowsCalls (graph_of p) x) taken.trace calls in
                let webs_too = subst (λ (x : List (Event Byte Value)). FollowsCalls (graph_of p) x) g.noted own in
                let kept = alike.kept (calls_without (graph_of p) g.own m.trace g.quiet webs_too) in
                kept_on laws.call.kept p d caller.function last items a.core a.passes.more [] (functions_fine p given.program d given.directives functions given.serve given.frames caller.function caller_there)
                (ap (λ (x : run.LineFn). x.located) called)
                (leaves_stay laws.places laws.sizes p w alike.site (call_result caller.function.places n.frame.result ++ left_of caller) back last given.lawful
                (take_is_amid p w alike.site n.frame.result back last returning.takes) a.core a.leaves) a.leaves.registers tt
                (kept_two (kept_one kept));
          })

    -- ---- whoever called

    abbrev returns_by : List placed.Frame → placed.Step
    returns_by [] = placed.Astray
    returns_by (caller ∷ callers) = placed.given_back full v caller callers n

    by_lines : (caller : placed.Frame) (callers : List placed.Frame) → m.callers ≡ caller ∷ callers → (ls : List run.Frame) → l.callers ≡ ls
        → AllWait p w alike.site n.objects g.core.memory n.frame l.frame.stack (caller ∷ callers) ls → Follow p d functions w scratch (run.On l) (placed.given_back full v caller callers n)
    by_lines caller callers below [] e h = absurd h
    by_lines caller callers below (waiting ∷ waits) e h = return_goes caller callers below waiting waits e h

    by_callers : (cs : List placed.Frame) → m.callers ≡ cs → Follow p d functions w scratch (run.On l) (returns_by cs)
    by_callers [] e = strays
    by_callers (caller ∷ callers) e =
        by_lines caller callers e l.callers refl (subst (λ (cs : List placed.Frame). AllWait p w alike.site n.objects g.core.memory n.frame l.frame.stack cs l.callers) (g.same.callers ∙ e) g.amid.callers)

    pub webs_gone : Follow p d functions w scratch (run.On l) (returns_by m.callers)
    webs_gone = by_callers m.callers refl

  -- ---- whether webs are stored back

  gone : (n : placed.Machine) (cs : List placed.Frame) → (g : GoesBack p functions w scratch alike.site t m n l) → Follow p d functions w scratch (run.On l) (returns_by n g cs) → Follow p d functions w scratch (run.On l) (returned_by full v cs n)
  gone n [] g h = h
  gone n (caller ∷ callers) g h = h

  by_webs : (s : placed.Step) → leaves_webs full (entered_webs f) m ≡ s → Follow p d functions w scratch (run.On l) (placed.and_then s (returned_by full v m.callers))
  by_webs (placed.On n) e =
      let g = laws.reach p functions w scratch alike.site t m n l (record {
        program = given.program;
        lawful = given.lawful;
        stand = alike.stand;
        known = frames_known p m known;
        ops = is;
        end = end;
        result = result_there;
      }) e in
      gone n m.callers g (webs_gone n g)
  by_webs (placed.Stopped last n) e = absurd (laws.never p functions (Return t) m n last (stops last n e))
    where
      stops : (last : ending.End) (n : placed.Machine) → leaves_webs full (entered_webs f) m ≡ placed.Stopped last n → placed.ends full (Return t) m ≡ placed.Stopped last n
      stops last n e = ap (λ (s : placed.Step). placed.and_then s (returned_by full v m.callers)) e
  by_webs placed.Astray e = strays

  pub return_follows : Follow p d functions w scratch (run.On l) (placed.ends full (Return t) m)
  return_follows = by_webs (leaves_webs full (entered_webs f) m) refl
