-- A call of a function that a module defines, by name or through a value: it is entered, or refused.
use Rattle.std.proofs.Common.{◌≡◌, ℕ, ◌+◌, ◌-◌, ◌*◌, ◌^◌, ◌<◌, ◌≤◌, ◌==◌, nat_lt, Bool, true, false, if◌then◌else◌, Option, Some, None, List, [], ◌∷◌, ◌++◌, map, length, slice_get, refl, ap, sym, subst, ◌∙◌, arith, inl, inr}
use Rattle.std.specs.Prelude.{Contains}
use Rattle.std.specs.List.{AllByRecursion}
use Rattle.std.proofs.lemmas.Option.{slice_get_within}
use Rattle.std.proofs.lemmas.Bool.{ltb-true, ltb-false, eqb-true}
use Rattle.pw_value.specs.declared.value.Byte.{Byte}
use Rattle.pw_value.specs.declared.value.Value.{Value}
use Rattle.pw_files.proofs.Standing.{contains_by}
use Rattle.pw_db.specs.declared.database.Directives.{Directives}
use Rattle.pw_db_sound.specs.CallGraphs.{Graph, Calls}
use Rattle.pw_flow.specs.Uses.{op_calls}
use Rattle.pw_flow.specs.declared.flow.Op.{Op}
use Rattle.pw_inst.specs.Registers.{stack_pointer, argument_register}
use Rattle.pw_webflow.specs.declared.web.WebOp.{WebOp}
use Rattle.pw_webflow.specs.declared.web.WebOp.TheVariants.{Flow}
use Rattle.pw_webflow.specs.declared.web.WebBlock.{WebBlock}
use Rattle.pw_webflow.specs.ValidWebs.{IsWebOp}
use Rattle.pw_alloc.specs.declared.located.Located.{Located}
use Rattle.pw_alloc.specs.Frames.{first_stacked}
use Rattle.pw_delay.specs.declared.items.Item.{Item}
use Rattle.pw_delay.specs.Items.{slotted}
use Rattle.pw_run.specs.Runs as ending
use Rattle.pw_run.specs.Runs.{StackFull}
use Rattle.pw_run_languages.specs.Traces.{Event, Called, Refused, KeepRegisters, with_refusal}
use Rattle.pw_run_languages.specs.Traffic.{Open}
use Rattle.pw_run_languages.specs.Traffic as traffic
use Rattle.pw_run_languages.specs.Calls.{IsCalledBy, FollowsCalls}
use Rattle.pw_run_languages.specs.Programs.{Program, library_at, functions_of}
use Rattle.pw_run_languages.specs.LawfulPrograms.{graph_of}
use Rattle.pw_run_languages.specs.Addresses.{Addresses}
use Rattle.pw_run_languages.specs.Acts.{register, number_at}
use Rattle.pw_run_languages.specs.Commands.{Enter, command}
use Rattle.pw_run_languages.specs.Standing.{ValueStands, EventInWords}
use Rattle.pw_run_languages.specs.LineRun as run
use Rattle.pw_run_languages.specs.Links.{HasLinks}
use Rattle.pw_run_languages.specs.PlacedRun as placed
use Rattle.pw_run_languages.specs.PlacedRun.{PlacedProgram, value_in, globals_now, counted, noted, exceeds, entered, entered_webs, enters_webs, with_parameters, first_block, begins, calls_defined, name_of}
use Rattle.pw_run_languages.specs.Direction.{with_functions}
use Rattle.pw_run_languages.specs.SelectionLaws.{with_lines, line_program}
use Rattle.pw_law_select_states.specs.Laid.{address}
use Rattle.pw_law_select_states.specs.Passes.{IsNoneOf, further}
use Rattle.pw_law_select_states.specs.Pointers.{AreKnown}
use Rattle.pw_law_select_known.specs.Laws.{IsAccess, IsOfProgram, ActiveCallsAreNoted, WebsNeverStop, EnteredFramesAreKnown}
use Rattle.pw_law_select_frames.specs.Amid.{WholeStatesAreAmid, left_of}
use Rattle.pw_law_select_frames.specs.Arguments.{argument_word}
use Rattle.pw_law_select_frames.specs.Arriving.{IsEntered, FunctionsAreEntered, called_in, lines_behind_entry}
use Rattle.pw_law_select_frames.specs.Blocks.{items_from}
use Rattle.pw_law_select_frames.specs.Chain.{frame_top}
use Rattle.pw_law_select_frames.specs.Extending.{FramesAreKnown, ValuesGoOn, IsFree}
use Rattle.pw_law_select_frames.specs.Framing.{PlacesAreBelow, FramesAreSized}
use Rattle.pw_law_select_frames.specs.Library.{ShowAlike, MayCall}
use Rattle.pw_law_select_frames.specs.Reaching.{Reaches, CallsAreReached}
use Rattle.pw_law_select_frames.specs.Refusing.{FullCallsAreRefused}
use Rattle.pw_law_select_frames.specs.Returning.{LinksStandThen}
use Rattle.pw_law_select_frames.specs.Stepping.{FramesAreStacked}
use Rattle.pw_law_select_frames.proofs.Stepping.{waiting_are_active}
use Rattle.pw_law_select_kept.specs.Keeping.{AllSavedStay, AllLeaveAsFound, CallEachOther, saved_word}
use Rattle.pw_law_select_calls.specs.GoingIn.{GoesIn, FunctionsGoIn, ArgumentsStandClear}
use Rattle.pw_law_select_start.proofs.Starting.{lines_named, found_has, found_name}
use Rattle.pw_law_selection.specs.Following.{IsGiven, AreKept, AreAlike, Comes, Follow, goes, ends, strays}
use Rattle.pw_law_selection.specs.Linking.{StatesHaveLinks}
use Rattle.pw_law_selection.proofs.Given.{IsFine, functions_fine, op_lawful, serves_itself}
use Rattle.pw_law_selection.proofs.Coming.{begins_links, joined, end_links, comes_by, comes_through, comes_one}
use Rattle.pw_law_selection.proofs.Saved.{same_number, waiting_stay, words_stay, below_elsewhere, leaves_stay}
use Rattle.pw_law_selection.proofs.Keeping.{some_register, calls_without, quiet_lines}
use Rattle.pw_law_selection.proofs.Calling.{CallLaws, kept_when_called}
use Rattle.pw_law_selection.proofs.Operating.{popped_known}
use Rattle.pw_law_selection.proofs.Linking.{same_machine}
use Rattle.pw_law_selection.proofs.Reaching.{each_known, op_of_function, names_same, frame_small, webs_go}

-- what is taken from the crates below
pub record CallingLaws : Type 0 where
  pub reach : CallsAreReached
  pub enter : FunctionsAreEntered
  pub go_in : FunctionsGoIn
  pub clear : ArgumentsStandClear
  pub refused : FullCallsAreRefused
  pub stacked : FramesAreStacked
  pub values : ValuesGoOn
  pub goes_behind : LinksStandThen
  pub links : StatesHaveLinks
  pub whole : WholeStatesAreAmid
  pub places : PlacesAreBelow
  pub sizes : FramesAreSized
  pub entered : EnteredFramesAreKnown
  pub noted : ActiveCallsAreNoted
  pub never : WebsNeverStop
  pub call : CallLaws

-- ---- the call that is active

edge_from : {B V : Type 0} (g : Graph) (f name : List ℕ) (names : List (List ℕ)) (cs : List (Open B V)) → map (λ (c : Open B V). c.function) cs ≡ name ∷ names → IsCalledBy g f cs → Calls g name f
edge_from {B} {V} g f name names [] e h = absurd cc
edge_from {B} {V} g f name names (c ∷ cs) e h = let same : c.function ≡ name = cc in subst (λ (n : List ℕ). Calls g n f) same h

-- an operation that calls, at which both runs stand
pub record AtCall (p : Program) (d : List (List ℕ × Directives)) (functions : List Located) (w : Addresses) (input : List ℕ) (m : placed.Machine) (l : run.Machine) (o : Op) (ops : List WebOp) : Type 0 where
  pub given : IsGiven p d functions w input
  pub index : ℕ
  pub steps : placed.steps (with_functions p functions) index (placed.start (with_functions p functions) input) ≡ placed.On m
  pub known : AreKnown p m
  pub here : IsOfProgram functions m.frame
  pub callers : AllByRecursion (IsOfProgram functions) m.callers
  pub alike : AreAlike p d w m l
  pub next : m.frame.ops ≡ Flow o ∷ ops
  pub calls : op_calls o ≡ true

module _ (laws : CallingLaws) (p : Program) (d : List (List ℕ × Directives)) (functions : List Located) (w : Addresses) (scratch : ℕ → (ℕ → ℕ) → ℕ → ℕ) (input : List ℕ)
    (m : placed.Machine) (l : run.Machine) (o : Op) (ops : List WebOp) (at : AtCall p d functions w input m l o ops)
    (t : Option ℕ) (f : List ℕ) (from : List ℕ) (is : command p m.frame.base o (value_in m.frame m.registers) ≡ Enter t f (map (value_in m.frame m.registers) from)) where
  abbrev full : PlacedProgram
  full = with_functions p functions

  abbrev given : IsGiven p d functions w input
  given = at.given

  abbrev alike : AreAlike p d w m l
  alike = at.alike

  abbrev site : ℕ → ℕ
  site = at.alike.site

  abbrev args : List Value
  args = map (value_in m.frame m.registers) from

  abbrev next : placed.Machine
  next = record m { frame = record m.frame { ops = ops } }

  pub fine : IsFine p d m.frame.function
  fine = functions_fine p given.program d given.directives functions given.serve given.frames m.frame.function at.here.there

  located_is : l.frame.function.located ≡ m.frame.function
  located_is = ap (λ (x : run.LineFn). x.located) alike.stand.active.function

  here : HasLinks w l
  here = laws.links p w site m l alike.stand

  inside : IsOfProgram functions (record m.frame { ops = Flow o ∷ ops })
  inside = subst (λ (xs : List WebOp). IsOfProgram functions (record m.frame { ops = xs })) at.next at.here

  pub valid : IsWebOp m.frame.function.body (Flow o)
  valid = op_lawful p d functions m.frame.function fine m.frame.block (Flow o) ops m.frame.end inside

  next_known : AreKnown p next
  next_known = popped_known p m ops at.known

  pub turn : Reaches p functions w scratch site ops t f args m l
  turn = laws.reach p functions w scratch site o ops t f args m l (record {
    lawful = given.lawful;
    names = names_same d (functions_of p) functions given.serve;
    stand = alike.stand;
    known = at.known;
    show = alike.show;
    next = at.next;
    there = op_of_function p d functions m.frame.function fine m.frame.block (Flow o) ops m.frame.end inside;
    valid = valid;
    call = at.calls;
    calls = is;
  })

  abbrev called : run.Machine
  called = turn.called

  abbrev l1 : run.Machine
  l1 = further turn.items turn.core turn.passes.more [] l

  pub one : Comes p functions w scratch (run.On l) (run.On l1)
  one = comes_through p functions w scratch l turn.items turn.core [] here turn.passes

  abbrev sp : ℕ
  sp = register called.core stack_pointer

  top_is : sp ≡ frame_top m.frame l.frame
  top_is = turn.pointer ∙ alike.stand.top

  -- ---- kept registers at the turn

  at_turn : AllSavedStay l.core.memory called.core.memory (l.frame ∷ l.callers)
  at_turn =
      let size = laws.sizes m.frame.function alike.stand.active.serves in
      let words = size.words in
      let whole = size.frame in
      let top = alike.stand.top in
      words_stay laws.places laws.sizes p w site (left_of m.frame) m l given.lawful (laws.whole p w site m l alike.stand) called.core.memory
      (λ b least less free. turn.memory b (inl less)) (λ b less free. turn.memory b (inl (omega (arith, less, words, whole, top))))

  pub kept_called : AreKept p d l → AreKept p d called
  kept_called h = record {
    noted = subst (λ (x : List (Event ℕ ℕ)). KeepRegisters d x) (sym turn.trace) h.noted;
    calls = frames_alike (λ (x : run.Frame) (xs : List run.Frame). CallEachOther (graph_of p) (x ∷ xs)) (calls_kept l.callers h.calls);
    left = frames_alike (λ (x : run.Frame) (xs : List run.Frame). AllLeaveAsFound d called.core.memory called.core.registers (x ∷ xs)) left_kept;
  }
    where
      frames_alike : (P : run.Frame → List run.Frame → Type 0) → P (record l.frame { left = called.frame.left }) l.callers → P called.frame called.callers
      frames_alike P q = subst (λ (x : run.Frame). P x called.callers) (sym turn.frames.0) (subst (λ (xs : List run.Frame). P (record l.frame { left = called.frame.left }) xs) (sym turn.frames.1) q)

      calls_kept : (ls : List run.Frame) → CallEachOther (graph_of p) (l.frame ∷ ls) → CallEachOther (graph_of p) (record l.frame { left = called.frame.left } ∷ ls)
      calls_kept [] h = tt
      calls_kept (caller ∷ callers) h = h

      left_kept : AllLeaveAsFound d called.core.memory called.core.registers (record l.frame { left = called.frame.left } ∷ l.callers)
      left_kept =
          let all = laws.call.kept.leave d l.core.memory called.core.memory l.core.registers called.core.registers l.frame l.callers at_turn
          (λ r kept may. inr (
          let low = kept.low in
          let high = kept.high in
          sym (some_register called.core r (λ e. omega (arith, low, e)))
          ∙ (turn.registers r (record { low = low; high = omega (arith, high) }) ∙ some_register l.core r (λ e. omega (arith, low, e)))
          )) h.left in
          (record { whole = all.0.whole; same = all.0.same }, all.1)

  -- ---- what both runs show there

  pub next_shows : ShowAlike p w next called
  next_shows = record { rest = turn.show.rest; read = turn.show.read; out = turn.show.out; events = turn.show.events; log = turn.show.log }

  pub may_call : MayCall p w site args next called
  may_call = record {
    stands = turn.takes.stands;
    active = (turn.takes.active, waiting_are_active p w site m.objects called.core.memory next.frame called.frame.stack m.callers called.callers turn.takes.callers);
    arguments = λ k v e. (turn.arguments k v e).0;
    show = next_shows;
  }

  -- ---- the stack

  abbrev depth : ℕ
  depth = placed.depth full (m.frame ∷ m.callers)

  sized_frames : (fs : List placed.Frame) → AllByRecursion (IsOfProgram functions) fs → AllByRecursion (λ (x : placed.Frame). p.frame_of x.function.body.name ≡ x.function.frame) fs
  sized_frames [] h = tt
  sized_frames (x ∷ fs) h = (given.frames.defined x.function h.0.there, sized_frames fs h.1)

  pub depth_is : sp ≡ w.base + depth
  depth_is = top_is ∙ laws.stacked p w site m l alike.stand (given.frames.defined m.frame.function at.here.there, sized_frames m.callers at.callers)

  -- ---- a function of a module

  module _ (h : Located) (none : library_at f ≡ None) (found : placed.function_named full f ≡ Some h) where
    there : Contains functions h
    there = contains_by h functions (found_has functions f h found)

    fine_h : IsFine p d h
    fine_h = functions_fine p given.program d given.directives functions given.serve given.frames h there

    name_is : h.body.name ≡ f
    name_is = found_name functions f h found

    frame_is : p.frame_of h.body.name ≡ h.frame
    frame_is = given.frames.defined h there

    abbrev E : run.Machine
    E = run.enters (line_program p functions) w (with_lines h) called

    links_E : HasLinks w E
    links_E = begins_links w E refl (laws.goes_behind p w site t next called turn.takes)

    two : Comes p functions w scratch (run.On l1) (run.On E)
    two =
        comes_one p functions w scratch l1 (run.On E) (end_links p functions w scratch (run.On l) l1 one)
        (turn.calls.defined (with_lines h) none (lines_named functions f h found)) (λ x e. subst (HasLinks w) (same_machine E x e) links_E)

    abbrev to_E : Comes p functions w scratch (run.On l) (run.On E)
    to_E = joined p functions w scratch (run.On l) (run.On l1) (run.On E) one two

    -- ---- refused

    pub refused : exceeds full h.body.name (next.frame ∷ next.callers) ≡ true → Follow p d functions w scratch (run.On l) (placed.Stopped StackFull (noted (Refused h.body.name) next))
    refused full_stack =
        let over = ltb-true p.stack (p.frame_of h.body.name + depth) full_stack in
        let limit = given.lawful.stack in
        let memory = given.lawful.memory in
        let high = turn.takes.stands.frame.high in
        let at_top = depth_is in
        let small = frame_small p d h fine_h in
        let size = frame_is in
        let r = laws.refused p w functions scratch site h args next called given.lawful may_call (omega (arith, over, limit, at_top, size)) (omega (arith, high, limit, memory, small)) in
        let three : Comes p functions w scratch (run.On E) (run.Stopped StackFull r.last) =
        comes_by p functions w scratch E (run.Stopped StackFull r.last) r.count links_E r.steps (λ k n some less e. r.amid k n some (omega (arith, less)) e) (λ x e. absurd cc) in
        ends StackFull (noted (Refused h.body.name) next) r.last (joined p functions w scratch (run.On l) (run.On E) (run.Stopped StackFull r.last) to_E three) (record {
          same = record { output = sym r.show.1; read = sym r.show.0; log = r.log };
          counted = r.show.2;
          kept = λ calls. subst (λ (x : List (Event ℕ ℕ)). KeepRegisters d (with_refusal x)) (sym r.trace) (tt, (kept_called (alike.kept calls.1)).noted);
        })

    -- ---- entered

    module _ (b : WebBlock) (block : first_block h ≡ Some b) (count : length args ≡ h.body.params) (fits : exceeds full h.body.name (next.frame ∷ next.callers) ≡ false) where
      abbrev n0 : placed.Machine
      n0 = called_in p functions h b t next

      room : sp + h.frame ≤ w.limit
      room =
          let under = ltb-false p.stack (p.frame_of h.body.name + depth) fits in
          let limit = given.lawful.stack in
          let at_top = depth_is in
          let size = frame_is in
          omega (arith, under, limit, at_top, size)

      in_frame : IsEntered p w functions scratch site h b t next called
      in_frame = laws.enter p w functions scratch site h b t next called (record {
        lawful = given.lawful;
        takes = turn.takes;
        known = next_known;
        serves = serves_itself p d h fine_h;
        directives = fine_h.lawful.directives;
        link = turn.link;
        fits = room;
        log = turn.show.log;
      })

      abbrev behind : List Item
      behind = slotted (lines_behind_entry h)

      abbrev l2 : run.Machine
      l2 = further behind in_frame.core in_frame.passes.more [] E

      three : Comes p functions w scratch (run.On E) (run.On l2)
      three = comes_through p functions w scratch E behind in_frame.core [] links_E in_frame.passes

      to_l2 : Comes p functions w scratch (run.On l) (run.On l2)
      to_l2 = joined p functions w scratch (run.On l) (run.On E) (run.On l2) to_E three

      -- the stack pointer is at the end of the new frame
      pointer : register in_frame.core stack_pointer ≡ sp + h.frame
      pointer = in_frame.begins.top

      -- arguments stand where they stood
      argument_same : (k : ℕ) → k < length args → argument_word in_frame.core sp k ≡ argument_word called.core sp k
      argument_same k less = by_place (nat_lt k 4) refl
        where
          by_place : (b : Bool) → nat_lt k 4 ≡ b
              → (if b then register in_frame.core (argument_register k) else number_at 4 in_frame.core.memory (sp - (first_stacked + 4 * (k - 4))))
              ≡ (if b then register called.core (argument_register k) else number_at 4 called.core.memory (sp - (first_stacked + 4 * (k - 4))))
          by_place true e =
              let low = ltb-true k 4 e in
              in_frame.registers (argument_register k) (λ z. omega (arith, z, low)) (λ z. omega (arith, z, low)) (λ z. omega (arith, z, low))
          by_place false e =
              let least = turn.room in
              let high = ltb-false k 4 e in
              same_number 4 (sp - (first_stacked + 4 * (k - 4))) called.core.memory in_frame.core.memory (λ a from to. in_frame.memory a (omega (arith, least, less, high, from, to)))

      -- and stand for the same values
      argument_there : (k : ℕ) (v : Value) → slice_get args k ≡ Some v
          → ValueStands (address p w in_frame.after) v (argument_word in_frame.core (register in_frame.core stack_pointer - h.frame) k)
          × (argument_word in_frame.core (register in_frame.core stack_pointer - h.frame) k < 2 ^ 32)
      argument_there k v e =
          let stands = turn.arguments k v e in
          let less = slice_get_within args k v e in
          let at_pointer : register in_frame.core stack_pointer - h.frame ≡ sp = (let end = pointer in omega (arith, end)) in
          let same : argument_word called.core sp k ≡ argument_word in_frame.core (register in_frame.core stack_pointer - h.frame) k =
          sym (ap (λ a. argument_word in_frame.core a k) at_pointer ∙ argument_same k less) in
          let value = laws.values p w site in_frame.after (length m.objects) v (argument_word called.core sp k) in_frame.keeps.sites (each_known p m from at.known k v e) stands.0 in
          (subst (ValueStands (address p w in_frame.after) v) same value, subst (λ n. n < 2 ^ 32) same stands.1)

      frames_there : FramesAreKnown p n0
      frames_there =
          let all = laws.entered p h b t (counted (noted (Called h.body.name (globals_now full next.registers (next.frame ∷ next.callers) next.objects) (placed.kept next.registers)) next))
          (record { frame = next_known.frame; callers = next_known.callers; registers = next_known.registers; bytes = next_known.bytes }) in
          record { frame = all.0; callers = all.1 }

      go_in : (n1 : placed.Machine) → enters_webs full (entered_webs h) n0 ≡ placed.On n1 → GoesIn p functions w scratch in_frame.after h b args n0 n1 l2
      go_in n1 e = laws.go_in p functions w scratch in_frame.after h b args n0 n1 l2 (record {
        program = given.program;
        lawful = given.lawful;
        function = refl;
        amid = in_frame.begins;
        known = frames_there;
        body = fine_h.lawful;
        count = count;
        words = argument_there;
        stacked = λ many. let least = turn.room in let end = pointer in omega (arith, least, end);
        clear = λ many. laws.clear p w in_frame.after (lines_behind_entry h) n0 l2 next.frame next.callers (length args) in_frame.begins refl turn.head;
        block = block;
        at = refl;
        ops = refl;
        end = refl;
      }) e

      module _ (n1 : placed.Machine) (webs : enters_webs full (entered_webs h) n0 ≡ placed.On n1) where
        abbrev g : GoesIn p functions w scratch in_frame.after h b args n0 n1 l2
        g = go_in n1 webs

        abbrev items : List Item
        items = items_from h 0 b.ops b.end

        abbrev l3 : run.Machine
        l3 = further items g.core g.passes.more g.log l2

        four : Comes p functions w scratch (run.On l2) (run.On l3)
        four = comes_through p functions w scratch l2 items g.core g.log (end_links p functions w scratch (run.On l) l2 to_l2) g.passes

        quiet : AllByRecursion (λ e. IsAccess e) g.log
        quiet =
            quiet_lines p w.named g.own n0.trace g.log l2.trace g.quiet in_frame.log
            (subst (λ (x : List (Event Byte Value)). ending.AreAlike (EventInWords p w.named) x (g.log ++ l2.trace)) g.noted (g.logs in_frame.log))

        -- memory below the caller's end stays but for objects
        below_stays : (a : ℕ) → a + 48 < l2.frame.stack → IsFree in_frame.after n0.objects a → l3.core.memory a ≡ called.core.memory a
        below_stays a less free =
            g.leaves.memory a (below_elsewhere laws.places laws.sizes p w in_frame.after (lines_behind_entry h) n0 l2 given.lawful in_frame.begins a less free)
            ∙ in_frame.memory a (omega (arith, less))

        callers_stay : AllSavedStay called.core.memory l3.core.memory (called.frame ∷ called.callers)
        callers_stay =
            waiting_stay laws.places laws.sizes p w in_frame.after n0.objects in_frame.core.memory called.core.memory l3.core.memory l2.frame.stack n0.frame l2.frame.stack (next.frame ∷ next.callers) (called.frame ∷ called.callers)
            (omega arith) below_stays in_frame.begins.callers

        words_there : (i r : ℕ) → slice_get h.saved i ≡ Some r → saved_word l3.frame l3.core.memory i ≡ register called.core r
        words_there i r e =
            (leaves_stay laws.places laws.sizes p w in_frame.after (lines_behind_entry h) n0 l2 given.lawful in_frame.begins g.core g.leaves).0 i (slice_get_within h.saved i r e)
            ∙ in_frame.words i r e

        none_of : (r : ℕ) → IsNoneOf h r → register l3.core r ≡ register called.core r
        none_of r apart =
            let low = apart.low in
            let high = apart.high in
            g.leaves.registers r apart
            ∙ in_frame.registers r (λ z. omega (arith, low, high, z)) (λ z. omega (arith, low, high, z)) (λ z. omega (arith, low, high, z))

        -- the call is one of the graph
        edge : IsCalledBy (graph_of p) h.body.name (traffic.active m.trace) → Calls (graph_of p) (run.name_of called.frame) h.body.name
        edge calling =
            let active = edge_from (graph_of p) h.body.name (name_of m.frame) (map name_of m.callers) (traffic.active m.trace) (laws.noted p functions input at.index m at.steps) calling in
            let named : run.name_of called.frame ≡ name_of m.frame = ap run.name_of turn.frames.0 ∙ ap (λ (x : Located). x.body.name) located_is in
            subst (λ (n : List ℕ). Calls (graph_of p) n h.body.name) (sym named) active

        pub entered_goes : Follow p d functions w scratch (run.On l) (placed.On (with_parameters 0 args n1))
        entered_goes =
            let events = turn.show.events in
            let same = g.shown.3 in
            goes (with_parameters 0 args n1) l3 (joined p functions w scratch (run.On l) (run.On l2) (run.On l3) to_l2 four) (record {
              site = in_frame.after;
              stand = g.stands;
              show = record {
                rest = turn.show.rest ∙ sym g.shown.0;
                read = turn.show.read ∙ sym g.shown.1;
                out = turn.show.out ∙ sym g.shown.2;
                events = omega (arith, events, same);
                log = g.logs in_frame.log;
              };
              kept = λ calls.
                  let all = calls_without (graph_of p) g.own n0.trace g.quiet (subst (λ (x : List (Event Byte Value)). FollowsCalls (graph_of p) x) g.noted calls) in
                  kept_when_called laws.call p d h fine_h called.core l3 (called.frame ∷ called.callers) refl refl refl callers_stay words_there none_of
                  called g.log (run.globals_in (line_program p functions) w called.core (called.frame ∷ called.callers)) (run.kept called.core) refl refl quiet refl (edge all.0) (kept_called (alike.kept all.1));
            })

      by_webs : (s : placed.Step) → enters_webs full (entered_webs h) n0 ≡ s → Follow p d functions w scratch (run.On l) (placed.and_then s (λ (n : placed.Machine). placed.On (with_parameters 0 args n)))
      by_webs (placed.On n1) e = entered_goes n1 e
      by_webs (placed.Stopped end n1) e = absurd (webs_go laws.never p functions end n1 (entered_webs h) n0 e)
      by_webs placed.Astray e = strays

      pub webs_follow : Follow p d functions w scratch (run.On l) (placed.and_then (enters_webs full (entered_webs h) n0) (λ (n : placed.Machine). placed.On (with_parameters 0 args n)))
      webs_follow = by_webs (enters_webs full (entered_webs h) n0) refl

    -- ---- whichever

    abbrev stepped : placed.Machine
    stepped = counted (noted (Called h.body.name (globals_now full next.registers (next.frame ∷ next.callers) next.objects) (placed.kept next.registers)) next)

    by_block : (fits : exceeds full h.body.name (next.frame ∷ next.callers) ≡ false) (o : Option WebBlock) → first_block h ≡ o → Follow p d functions w scratch (run.On l) (begins full h o t args stepped)
    by_block fits None e = strays
    by_block fits (Some b) e = by_count (length args == h.body.params) refl
      where
        by_count : (x : Bool) → (length args == h.body.params) ≡ x
            → Follow p d functions w scratch (run.On l) (if x then placed.and_then (enters_webs full (entered_webs h) (entered h b t stepped)) (λ (n : placed.Machine). placed.On (with_parameters 0 args n)) else placed.Astray)
        by_count true is = webs_follow b e (eqb-true (length args) h.body.params is) fits
        by_count false is = strays

    by_stack : (x : Bool) → exceeds full h.body.name (next.frame ∷ next.callers) ≡ x
        → Follow p d functions w scratch (run.On l) (if x then placed.Stopped StackFull (noted (Refused h.body.name) next) else begins full h (first_block h) t args stepped)
    by_stack true e = refused e
    by_stack false e = by_block e (first_block h) refl

    pub defined_follows : Follow p d functions w scratch (run.On l) (calls_defined full h t args next)
    defined_follows = by_stack (exceeds full h.body.name (next.frame ∷ next.callers)) refl
