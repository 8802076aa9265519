-- A call of the library: both runs do it alike, and go on or end.
use Rattle.std.proofs.Common.{◌≡◌, ℕ, zero, suc, ◌+◌, ◌-◌, ◌%◌, ◌^◌, ◌<◌, ◌≤◌, Bool, true, false, if◌then◌else◌, Option, Some, None, List, [], ◌∷◌, ◌++◌, map, length, slice_get, refl, ap, ap₂, sym, subst, ◌∙◌, arith, inl, inr}
use Rattle.std.specs.Prelude.{Contains}
use Rattle.std.specs.List.{AllByRecursion, range_with_len}
use Rattle.std.specs.Str.{bytes_eq}
use Rattle.std.proofs.lemmas.Bool.{ltb-true}
use Rattle.std.proofs.lemmas.Slice.Eq.{bytes_eq-Decides}
use Rattle.pw_value.specs.ProgramNames.{getchar_name, putchar_name, exit_name, library_functions}
use Rattle.pw_value.specs.declared.value.Byte.{Byte}
use Rattle.pw_value.specs.declared.value.Value.{Value}
use Rattle.pw_value.specs.declared.value.Value.TheVariants.{Num}
use Rattle.pw_value.specs.Objects.{Object}
use Rattle.pw_files.proofs.Standing.{Has, contains_by, each_by}
use Rattle.pw_db.specs.Limits.{first_register, register_count, kept_registers}
use Rattle.pw_db.specs.declared.database.Directives.{Directives}
use Rattle.pw_db_sound.specs.CallGraphs.{Graph}
use Rattle.pw_flow.specs.declared.flow.Op.{Op}
use Rattle.pw_flow.specs.ValidFlow.{IsResult}
use Rattle.pw_inst.specs.Registers.{answer, stack_pointer}
use Rattle.pw_webflow.specs.declared.web.WebOp.{WebOp}
use Rattle.pw_alloc.specs.declared.located.Located.{Located}
use Rattle.pw_delay.specs.Items.{slotted}
use Rattle.pw_run.specs.Runs as ending
use Rattle.pw_run.specs.Runs.{End, Ended, StackFull}
use Rattle.pw_run_languages.specs.Traces.{Standing, Event, Called, Returned, Refused, KeepRegisters}
use Rattle.pw_run_languages.specs.Calls.{FollowsCalls}
use Rattle.pw_run_languages.specs.Programs.{Program, Library, GetChar, PutChar, Exit, library_at}
use Rattle.pw_run_languages.specs.LawfulPrograms.{graph_of}
use Rattle.pw_run_languages.specs.Addresses.{Addresses}
use Rattle.pw_run_languages.specs.Acts.{Core, register, with_register}
use Rattle.pw_run_languages.specs.Commands.{Enter, command}
use Rattle.pw_run_languages.specs.Standing.{EventInWords}
use Rattle.pw_run_languages.specs.LineRun as run
use Rattle.pw_run_languages.specs.Links.{GoesOn, HasLinks}
use Rattle.pw_run_languages.specs.PlacedRun as placed
use Rattle.pw_run_languages.specs.PlacedRun.{PlacedProgram, value_in, takes_result, exceeds, calls_library, library_call, library_return, gives_back, noted}
use Rattle.pw_run_languages.specs.Direction.{with_functions}
use Rattle.pw_run_languages.specs.SelectionLaws.{line_program}
use Rattle.pw_law_select_states.specs.Laid.{address, Lives, size_of}
use Rattle.pw_law_select_states.specs.Passes.{further}
use Rattle.pw_law_select_states.specs.Pointers.{FrameIsKnown}
use Rattle.pw_law_select_frames.specs.Amid.{left_of}
use Rattle.pw_law_select_frames.specs.Answering.{AnswersAreTaken}
use Rattle.pw_law_select_frames.specs.Blocks.{lines_from, items_from}
use Rattle.pw_law_select_frames.specs.Chain.{IsActive, AllWait, frame_top}
use Rattle.pw_law_select_frames.specs.Extending.{FramesAreKnown}
use Rattle.pw_law_select_frames.specs.Reaching.{Reaches}
use Rattle.pw_law_select_frames.specs.Library.{ShowAlike, Answers, Does, answers, ends, strays, LibraryDoesAlike}
use Rattle.pw_law_select_frames.specs.Returning.{BothTake}
use Rattle.pw_law_select_kept.specs.Keeping.{IsKept, AllLeaveAsFound, CallEachOther}
use Rattle.pw_select_lines.specs.Operations.{call_result}
use Rattle.pw_law_selection.specs.Following.{IsGiven, AreKept, AreAlike, Comes, Follow, last_log}
use Rattle.pw_law_selection.specs.Following as following
use Rattle.pw_law_selection.specs.Words.{RegistersHoldWords}
use Rattle.pw_law_selection.proofs.Given.{IsFine}
use Rattle.pw_law_selection.proofs.Coming.{behind_links, steps_add, joined, end_links, comes_through, comes_one}
use Rattle.pw_law_selection.proofs.Saved.{leaves_stay}
use Rattle.pw_law_selection.proofs.Keeping.{some_register, kept_on}
use Rattle.pw_law_selection.proofs.Calling.{itself_stays}
use Rattle.pw_law_selection.proofs.Linking.{same_machine}
use Rattle.pw_law_selection.proofs.Operating.{frames_known, popped_known}
use Rattle.pw_law_selection.proofs.Reaching.{fits_inside}
use Rattle.pw_law_selection.proofs.Returning.{takes_shows, take_is_amid}
use Rattle.pw_law_selection.proofs.Entering.{CallingLaws, AtCall, fine, turn, one, kept_called, may_call, depth_is}

-- ---- what is noted

-- in the lines: a call and a return that keeps registers
record Notes (l o : run.Machine) : Type 0 where
  name : List ℕ
  globals : List (Standing ℕ ℕ)
  rs : List ℕ
  later : List (Standing ℕ ℕ)
  noted : o.trace ≡ Returned name 0 later (run.kept l.core) (run.kept o.core) ∷ Called name globals rs ∷ l.trace

abbrev reads_by : run.LineProgram → Addresses → run.Machine → List ℕ → run.Step
reads_by p w m [] = run.answers p w getchar_name (2 ^ 32 - 1) (run.notes_call p w getchar_name m)
reads_by p w m (byte ∷ rest) = run.answers p w getchar_name byte (record (run.notes_call p w getchar_name m) { rest = rest; read = m.read + 1 })

answers_note : (p : run.LineProgram) (w : Addresses) (f : List ℕ) (n : ℕ) (l b o : run.Machine) (globals : List (Standing ℕ ℕ)) (rs : List ℕ) → b.core ≡ l.core → b.trace ≡ Called f globals rs ∷ l.trace
    → run.answers p w f n b ≡ run.On o → Notes l o
answers_note p w f n l b o globals rs core trace e =
    let c = with_register 28 n b.core in
    let x : run.Machine = record (run.counted b) { core = c; trace = Returned f 0 (run.globals_in p w c (b.frame ∷ b.callers)) (run.kept b.core) (run.kept c) ∷ b.trace } in
    subst (Notes l) (same_machine x o e) (record {
      name = f;
      globals = globals;
      rs = rs;
      later = run.globals_in p w c (b.frame ∷ b.callers);
      noted = ap₂ (λ (k : Core) (t : List (Event ℕ ℕ)). Returned f 0 (run.globals_in p w c (b.frame ∷ b.callers)) (run.kept k) (run.kept c) ∷ t) core trace;
    })

reads_note : (p : run.LineProgram) (w : Addresses) (l o : run.Machine) (rest : List ℕ) → reads_by p w l rest ≡ run.On o → Notes l o
reads_note p w l o [] e = answers_note p w getchar_name (2 ^ 32 - 1) l (run.notes_call p w getchar_name l) o _ _ refl refl e
reads_note p w l o (byte ∷ rest) e = answers_note p w getchar_name byte l (record (run.notes_call p w getchar_name l) { rest = rest; read = l.read + 1 }) o _ _ refl refl e

library_notes : (p : run.LineProgram) (w : Addresses) (g : Library) (l o : run.Machine) → run.library p w g l ≡ run.On o → Notes l o
library_notes p w GetChar l o e = reads_note p w l o l.rest e
library_notes p w PutChar l o e =
    let byte = register l.core 26 % 256 in
    answers_note p w putchar_name byte l (record (run.notes_call p w putchar_name l) { out = l.out ++ byte ∷ [] }) o _ _ refl refl e
library_notes p w Exit l o e = absurd cc

-- at an end: a call, and the run has ended by itself
record NotesLast (end : End) (l o : run.Machine) : Type 0 where
  name : List ℕ
  globals : List (Standing ℕ ℕ)
  rs : List ℕ
  noted : last_log end o.trace ≡ Called name globals rs ∷ l.trace
  shown : last_log end o.trace ≡ o.trace

answers_go : (p : run.LineProgram) (w : Addresses) (f : List ℕ) (n : ℕ) (b o : run.Machine) (end : End) → run.answers p w f n b ≡ run.Stopped end o → ⊥
answers_go p w f n b o end e = cc

reads_go : (p : run.LineProgram) (w : Addresses) (l o : run.Machine) (end : End) (rest : List ℕ) → reads_by p w l rest ≡ run.Stopped end o → ⊥
reads_go p w l o end [] e = cc
reads_go p w l o end (byte ∷ rest) e = cc

exit_notes : (p : run.LineProgram) (w : Addresses) (status : ℕ) (l x o : run.Machine) (end : End) (globals : List (Standing ℕ ℕ)) (rs : List ℕ) → x.trace ≡ Called exit_name globals rs ∷ l.trace
    → run.Stopped (Ended status) x ≡ run.Stopped end o → NotesLast end l o
exit_notes p w status l x o end globals rs trace e =
    let one : Ended status ≡ end = cc in
    let two : x ≡ o = cc in
    subst (λ (y : End). NotesLast y l o) one
    (subst (NotesLast (Ended status) l) two (record { name = exit_name; globals = globals; rs = rs; noted = trace; shown = refl }))

library_ends : (p : run.LineProgram) (w : Addresses) (g : Library) (l o : run.Machine) (end : End) → run.library p w g l ≡ run.Stopped end o → NotesLast end l o
library_ends p w GetChar l o end e = absurd (reads_go p w l o end l.rest e)
library_ends p w PutChar l o end e = absurd cc
library_ends p w Exit l o end e = exit_notes p w (register l.core 26 % 256) l (run.notes_call p w exit_name l) o end _ _ refl e

-- in the placed run: calls of the graph before are so still
module _ (q : PlacedProgram) (gr : Graph) where
  abbrev FollowedBefore : placed.Machine → placed.Step → Type 0
  FollowedBefore m (placed.On x) = FollowsCalls gr x.trace → FollowsCalls gr m.trace
  FollowedBefore m (placed.Stopped end x) = FollowsCalls gr x.trace → FollowsCalls gr m.trace
  FollowedBefore m placed.Astray = Unit {0}

  back_before : (f : List ℕ) (t : Option ℕ) (v : Value) (m x : placed.Machine) → x.trace ≡ (library_call q f m).trace → FollowedBefore m (gives_back q f t v x)
  back_before f t v m x same calls =
      let y : placed.Machine = library_return q f (record (placed.counted x) { registers = placed.without_scratch x.registers }) in
      let all = subst (λ (l : List (Event Byte Value)). FollowsCalls gr l) (takes_shows t v y).trace calls in
      (subst (λ (l : List (Event Byte Value)). FollowsCalls gr l) same all).1

  abbrev placed_reads : Option ℕ → placed.Machine → List ℕ → placed.Step
  placed_reads t m [] = gives_back q getchar_name t (Num (2 ^ 32 - 1)) (library_call q getchar_name m)
  placed_reads t m (byte ∷ rest) = gives_back q getchar_name t (Num byte) (record (library_call q getchar_name m) { rest = rest; read = m.read + 1 })

  reads_before : (t : Option ℕ) (m : placed.Machine) (rest : List ℕ) → FollowedBefore m (placed_reads t m rest)
  reads_before t m [] = back_before getchar_name t (Num (2 ^ 32 - 1)) m (library_call q getchar_name m) refl
  reads_before t m (byte ∷ rest) = back_before getchar_name t (Num byte) m (record (library_call q getchar_name m) { rest = rest; read = m.read + 1 }) refl

  library_before : (g : Library) (t : Option ℕ) (args : List Value) (m : placed.Machine) → FollowedBefore m (calls_library q g t args m)
  library_before GetChar t [] m = reads_before t m m.rest
  library_before PutChar t (Num n ∷ []) m = back_before putchar_name t (Num (n % 256)) m (record (library_call q putchar_name m) { out = m.out ++ n % 256 ∷ [] }) refl
  library_before Exit t (Num n ∷ []) m = λ calls. calls.1
  library_before _ t _ m = tt

-- ---- names of the library

library_name : (f : List ℕ) (g : Library) → library_at f ≡ Some g → Contains library_functions f
library_name f g e = by_first (bytes_eq f getchar_name) refl e
  where
    third : (x : Bool) → bytes_eq f exit_name ≡ x → (if x then Some Exit else None) ≡ Some g → Contains library_functions f
    third true is e = contains_by f library_functions (inl (sym ((bytes_eq-Decides f exit_name).0 is)))
    third false is e = absurd cc

    second : (x : Bool) → bytes_eq f putchar_name ≡ x → (if x then Some PutChar else if bytes_eq f exit_name then Some Exit else None) ≡ Some g → Contains library_functions f
    second true is e = contains_by f library_functions (inr (inr (inl (sym ((bytes_eq-Decides f putchar_name).0 is)))))
    second false is e = third (bytes_eq f exit_name) refl e

    by_first : (x : Bool) → bytes_eq f getchar_name ≡ x → (if x then Some GetChar else if bytes_eq f putchar_name then Some PutChar else if bytes_eq f exit_name then Some Exit else None) ≡ Some g
        → Contains library_functions f
    by_first true is e = contains_by f library_functions (inr (inl (sym ((bytes_eq-Decides f getchar_name).0 is))))
    by_first false is e = second (bytes_eq f putchar_name) refl e

-- ---- registers

map_on : (f g : ℕ → ℕ) (rs : List ℕ) → AllByRecursion (λ r. f r ≡ g r) rs → map f rs ≡ map g rs
map_on f g [] all = refl
map_on f g (r ∷ rs) all = ap₂ (λ (x : ℕ) (xs : List ℕ). x ∷ xs) all.0 (map_on f g rs all.1)

kept_between : (r : ℕ) → Has r kept_registers → IsKept r
kept_between r has = between first_register register_count (omega arith) (omega arith) has
  where
    between : (first more : ℕ) → 3 ≤ first → first + more ≤ 19 → Has r (range_with_len first more) → IsKept r
    between first zero low high h = absurd h
    between first (suc more) low high (inl e) = record { low = omega (arith, low, e); high = omega (arith, high, e) }
    between first (suc more) low high (inr h) = between (first + 1) more (omega (arith, low)) (omega (arith, high)) h

-- a state behind a call, where nothing but values is new
module _ (p : Program) (w : Addresses) (site : ℕ → ℕ) (t : Option ℕ) (v : Value) (m n : placed.Machine) (l o : run.Machine) (a : Answers p w site m l v n o) where
  over : (P : placed.Frame → List placed.Frame → List Object → run.Frame → List run.Frame → (ℕ → ℕ) → Type 0) → P m.frame m.callers m.objects l.frame l.callers l.core.memory
      → P n.frame n.callers n.objects o.frame o.callers o.core.memory
  over P h =
      subst (λ (x : placed.Frame). P x n.callers n.objects o.frame o.callers o.core.memory) (sym a.frames.0)
      (subst (λ (x : List placed.Frame). P m.frame x n.objects o.frame o.callers o.core.memory) (sym a.frames.1)
      (subst (λ (x : List Object). P m.frame m.callers x o.frame o.callers o.core.memory) (sym a.frames.2)
      (subst (λ (x : run.Frame). P m.frame m.callers m.objects x o.callers o.core.memory) (sym a.lines.0)
      (subst (λ (x : List run.Frame). P m.frame m.callers m.objects l.frame x o.core.memory) (sym a.lines.1)
      (subst (λ (x : ℕ → ℕ). P m.frame m.callers m.objects l.frame l.callers x) (sym a.lines.2) h)))))

  take_over : BothTake p w site t m l → BothTake p w site t n o
  take_over h = record {
    stands = a.stands;
    active = over (λ f cs os lf ls memory. IsActive (address p w site) memory f lf) h.active;
    top = a.registers stack_pointer (λ e. omega (arith, e)) ∙ over (λ f cs os lf ls memory. register l.core stack_pointer ≡ frame_top f lf) h.top;
    old = over (λ f cs os lf ls memory. (x : ℕ) → x < f.base → Lives os x → site x + size_of os x < lf.stack) h.old;
    later = over (λ f cs os lf ls memory. (x : ℕ) → Lives os x → x < f.base + length f.function.body.slots) h.later;
    left = over (λ f cs os lf ls memory. lf.left ≡ slotted (call_result f.function.places t ++ lines_from f.function f.block f.ops f.end)) h.left;
    behind = over (λ f cs os lf ls memory. GoesOn lf) h.behind;
    callers = over (λ f cs os lf ls memory. AllWait p w site os memory f lf.stack cs ls) h.callers;
  }

module _ (laws : CallingLaws) (does_alike : LibraryDoesAlike) (answers_taken : AnswersAreTaken) (words : RegistersHoldWords)
    (p : Program) (d : List (List ℕ × Directives)) (functions : List Located) (w : Addresses) (scratch : ℕ → (ℕ → ℕ) → ℕ → ℕ) (input : List ℕ)
    (m : placed.Machine) (l : run.Machine) (reached : (k : ℕ) × (run.steps (line_program p functions) w scratch k (run.start (line_program p functions) w input) ≡ run.On l))
    (o : Op) (ops : List WebOp) (at : AtCall p d functions w input m l o ops)
    (t : Option ℕ) (f : List ℕ) (from : List ℕ) (is : command p m.frame.base o (value_in m.frame m.registers) ≡ Enter t f (map (value_in m.frame m.registers) from))
    (fits : IsResult m.frame.function.body.temps t) (g : Library) (named : library_at f ≡ Some g) where
  abbrev lines : run.LineProgram
  lines = line_program p functions

  abbrev full : PlacedProgram
  full = with_functions p functions

  abbrev site : ℕ → ℕ
  site = at.alike.site

  abbrev args : List Value
  args = map (value_in m.frame m.registers) from

  abbrev next : placed.Machine
  next = record m { frame = record m.frame { ops = ops } }

  abbrev reaches : Reaches p functions w scratch site ops t f args m l
  reaches = turn laws p d functions w scratch input m l o ops at t f from is

  abbrev called : run.Machine
  called = reaches.called

  abbrev l1 : run.Machine
  l1 = further reaches.items reaches.core reaches.passes.more [] l

  to_turn : Comes p functions w scratch (run.On l) (run.On l1)
  to_turn = one laws p d functions w scratch input m l o ops at t f from is

  step_is : run.step lines w scratch l1 ≡ run.library lines w g called
  step_is = reaches.calls.library g named

  kept_there : AreKept p d l → AreKept p d called
  kept_there = kept_called laws p d functions w scratch input m l o ops at t f from is

  -- ---- it answers

  module _ (v : Value) (n : placed.Machine) (back : run.Machine) (a : Answers p w site next called v n back)
      (placed_is : calls_library full g t args next ≡ placed.On (takes_result t v n)) (lines_are : run.library lines w g called ≡ run.On back) where
    takes : BothTake p w site t n back
    takes = take_over p w site t v next n called back a reaches.takes

    two : Comes p functions w scratch (run.On l1) (run.On back)
    two =
        comes_one p functions w scratch l1 (run.On back) (end_links p functions w scratch (run.On l) l1 to_turn) (step_is ∙ lines_are)
        (λ x e. subst (HasLinks w) (same_machine back x e) (behind_links w back (laws.goes_behind p w site t n back takes)))

    there : Comes p functions w scratch (run.On l) (run.On back)
    there = joined p functions w scratch (run.On l) (run.On l1) (run.On back) to_turn two

    back_reached : run.steps lines w scratch (reached.0 + there.count) (run.start lines w input) ≡ run.On back
    back_reached = steps_add p functions w scratch reached.0 there.count (run.start lines w input) ∙ (ap (run.steps lines w scratch there.count) reached.1 ∙ there.steps)

    note : Notes called back
    note = library_notes lines w g called back lines_are

    kept_same : run.kept called.core ≡ run.kept back.core
    kept_same =
        map_on called.core.registers back.core.registers kept_registers
        (each_by (λ r. called.core.registers r ≡ back.core.registers r) kept_registers (λ r has.
        let between = kept_between r has in
        let low = between.low in
        let high = between.high in
        sym (some_register called.core r (λ e. omega (arith, low, e))) ∙ (sym (a.registers r (λ e. omega (arith, high, e))) ∙ some_register back.core r (λ e. omega (arith, low, e)))))

    kept_back : AreKept p d called → AreKept p d back
    kept_back h = record {
      noted = subst (λ (x : List (Event ℕ ℕ)). KeepRegisters d x) (sym note.noted) (
        (λ r low high may. ap (λ (xs : List ℕ). slice_get xs (r - first_register)) (sym kept_same)),
        (tt, h.noted),
      );
      calls = over p w site t v next n called back a (λ x cs os lf ls memory. CallEachOther (graph_of p) (lf ∷ ls)) h.calls;
      left = over p w site t v next n called back a (λ x cs os lf ls memory. AllLeaveAsFound d memory back.core.registers (lf ∷ ls))
          (laws.call.kept.leave d called.core.memory called.core.memory called.core.registers back.core.registers called.frame called.callers (itself_stays called.core.memory (called.frame ∷ called.callers))
          (λ r kept may. inr (
          let low = kept.low in
          let high = kept.high in
          sym (some_register back.core r (λ e. omega (arith, low, e))) ∙ (a.registers r (λ e. omega (arith, high, e)) ∙ some_register called.core r (λ e. omega (arith, low, e)))
          )) h.left);
    }

    before : FollowsCalls (graph_of p) (takes_result t v n).trace → FollowsCalls (graph_of p) m.trace
    before = subst (FollowedBefore full (graph_of p) next) placed_is (library_before full (graph_of p) g t args next)

    known : FramesAreKnown p n
    known =
        let at_next = frames_known p next (popped_known p m ops at.known) in
        let both = over p w site t v next n called back a (λ x cs os lf ls memory. FrameIsKnown p (length os) x × AllByRecursion (FrameIsKnown p (length os)) cs) (at_next.frame, at_next.callers) in
        record { frame = both.0; callers = both.1 }

    pub answer_goes : Follow p d functions w scratch (run.On l) (placed.On (takes_result t v n))
    answer_goes =
        let items = items_from n.frame.function n.frame.block n.frame.ops n.frame.end in
        let took = answers_taken p w functions scratch site t v n back (record {
          lawful = at.given.lawful;
          takes = takes;
          known = known;
          temp = λ k e. subst (λ (x : placed.Frame). k < x.function.body.temps) (sym a.frames.0) (fits_inside m.frame.function.body.temps t fits k e);
          value = λ k e. a.value;
          word = λ k e. words p d functions w scratch input at.given (reached.0 + there.count) back back_reached answer;
        }) in
        let end = further items took.core took.passes.more [] back in
        let three = comes_through p functions w scratch back items took.core [] (end_links p functions w scratch (run.On l) back there) took.passes in
        let taken = takes_shows t v n in
        let events = a.show.events in
        let same = taken.events in
        following.goes (takes_result t v n) end (joined p functions w scratch (run.On l) (run.On back) (run.On end) there three) (record {
          site = site;
          stand = took.stands;
          show = record {
            rest = a.show.rest ∙ sym taken.rest;
            read = a.show.read ∙ sym taken.read;
            out = a.show.out ∙ sym taken.out;
            events = omega (arith, events, same);
            log = subst (λ (x : List (Event Byte Value)). ending.AreAlike (EventInWords p w.named) x back.trace) (sym taken.trace) a.show.log;
          };
          kept = λ calls.
              let function : n.frame.function ≡ m.frame.function = ap (λ (x : placed.Frame). x.function) a.frames.0 in
              kept_on laws.call.kept p d n.frame.function back items took.core took.passes.more []
              (subst (IsFine p d) (sym function) (fine laws p d functions w scratch input m l o ops at t f from is)) (ap (λ (x : run.LineFn). x.located) takes.active.function)
              (leaves_stay laws.places laws.sizes p w site (call_result n.frame.function.places t ++ left_of n.frame) n back at.given.lawful (take_is_amid p w site t n back takes) took.core took.leaves) took.leaves.registers tt
              (kept_back (kept_there (at.alike.kept (before calls))));
        })

  -- ---- it ends

  pub end_goes : (end : End) (n : placed.Machine) (last : run.Machine) → ShowAlike p w n last → calls_library full g t args next ≡ placed.Stopped end n → run.library lines w g called ≡ run.Stopped end last
      → Follow p d functions w scratch (run.On l) (placed.Stopped end n)
  end_goes end n last show placed_is lines_are =
      let note = library_ends lines w g called last end lines_are in
      let two : Comes p functions w scratch (run.On l1) (run.Stopped end last) =
      comes_one p functions w scratch l1 (run.Stopped end last) (end_links p functions w scratch (run.On l) l1 to_turn) (step_is ∙ lines_are) (λ x e. absurd cc) in
      let before = subst (FollowedBefore full (graph_of p) next) placed_is (library_before full (graph_of p) g t args next) in
      following.ends end n last (joined p functions w scratch (run.On l) (run.On l1) (run.Stopped end last) to_turn two) (record {
        same = record { output = sym show.out; read = sym show.read; log = subst (λ (x : List (Event ℕ ℕ)). ending.AreAlike (EventInWords p w.named) n.trace x) (sym note.shown) show.log };
        counted = show.events;
        kept = λ calls. subst (λ (x : List (Event ℕ ℕ)). KeepRegisters d x) (sym note.noted) (tt, (kept_there (at.alike.kept (before calls))).noted);
      })

  by_does : (s : placed.Step) (z : run.Step) → Does p w site t next called s z → calls_library full g t args next ≡ s → run.library lines w g called ≡ z → Follow p d functions w scratch (run.On l) s
  by_does s z (answers v n back a) e x = answer_goes v n back a e x
  by_does s z (ends end n last show) e x = end_goes end n last show e x
  by_does s z (strays other) e x = following.strays

  library_follows : Follow p d functions w scratch (run.On l) (calls_library full g t args next)
  library_follows =
      by_does (calls_library full g t args next) (run.library lines w g called)
      (does_alike p w functions site g t args next called (may_call laws p d functions w scratch input m l o ops at t f from is)) refl refl

  -- the library needs no stack
  never_full : exceeds full f (next.frame ∷ next.callers) ≡ true → ⊥
  never_full full_stack =
      let frame : p.frame_of f ≡ 0 = at.given.frames.library f (library_name f g named) in
      let over = ltb-true p.stack (p.frame_of f + placed.depth full (m.frame ∷ m.callers)) full_stack in
      let limit = at.given.lawful.stack in
      let high = reaches.takes.stands.frame.high in
      let top = depth_is laws p d functions w scratch input m l o ops at t f from is in
      omega (arith, frame, over, limit, high, top)

  by_stack : (x : Bool) → exceeds full f (next.frame ∷ next.callers) ≡ x
      → Follow p d functions w scratch (run.On l) (if x then placed.Stopped StackFull (noted (Refused f) next) else calls_library full g t args next)
  by_stack true e = absurd (never_full e)
  by_stack false e = library_follows

  pub library_call_follows : Follow p d functions w scratch (run.On l) (if exceeds full f (next.frame ∷ next.callers) then placed.Stopped StackFull (noted (Refused f) next) else calls_library full g t args next)
  library_call_follows = by_stack (exceeds full f (next.frame ∷ next.callers)) refl
