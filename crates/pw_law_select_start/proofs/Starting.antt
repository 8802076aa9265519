-- Both runs at the start of `$start`.
use Rattle.std.proofs.Common.{◌≡◌, ℕ, ℤ, suc, ◌+◌, ◌-◌, ◌≤◌, ◌==◌, nat_lt, Bool, true, false, cond, if◌then◌else◌, Option, Some, None, List, [], ◌∷◌, ◌++◌, length, map, find, replicate, refl, sym, ap, ◌∙◌, arith, inl, inr, append_assoc}
use Rattle.std.specs.List.{AllByRecursion}
use Rattle.std.specs.Str.{bytes_eq}
use Rattle.std.proofs.lemmas.Bool.{ne_eqb}
use Rattle.std.proofs.lemmas.List.{length-append, length-replicate}
use Rattle.std.proofs.lemmas.Slice.Eq.{bytes_eq-Decides}
use Rattle.pw_value.specs.ProgramNames.{start_name}
use Rattle.pw_value.specs.declared.value.Value.{Value}
use Rattle.pw_value.specs.declared.value.Value.TheVariants.{Undefined}
use Rattle.pw_value.specs.declared.value.Byte.TheVariants as B
use Rattle.pw_value.specs.declared.value.Pointer.{Pointer}
use Rattle.pw_value.specs.Objects.{Object, with_object}
use Rattle.pw_files.proofs.Standing.{Has}
use Rattle.pw_inst.specs.Limits.{near_limit}
use Rattle.pw_inst.specs.declared.Inst.TheVariants as i
use Rattle.pw_inst.specs.declared.line.Line.{Line}
use Rattle.pw_inst.specs.declared.line.Line.TheVariants as line
use Rattle.pw_db.specs.Database.{empty as empty_directives}
use Rattle.pw_flow.specs.declared.flow.End.TheVariants.{Return}
use Rattle.pw_webflow.specs.declared.web.WebBlock.{WebBlock}
use Rattle.pw_alloc.specs.declared.located.Located.{Located}
use Rattle.pw_alloc.specs.Frames.{head_size, saved_offset, below}
use Rattle.pw_delay.specs.declared.items.Item.{Item}
use Rattle.pw_delay.specs.declared.items.Item.TheVariants.{Plain}
use Rattle.pw_delay.specs.Items.{slotted}
use Rattle.pw_select_lines.specs.Registers.{is_near, copied, store_to}
use Rattle.pw_select.specs.Selection.{frame_end, slot_offsets, saved_lines, webs_loaded, parameters_in, entry_lines, blocks_lines, selected}
use Rattle.pw_run.specs.Runs.{AreAlike}
use Rattle.pw_run_languages.specs.Traces.{EventAlike, Called}
use Rattle.pw_run_languages.specs.Programs.{Program, start_objects}
use Rattle.pw_run_languages.specs.Addresses.{Addresses}
use Rattle.pw_run_languages.specs.Acts.{Core, register, put}
use Rattle.pw_run_languages.specs.LineRun as run
use Rattle.pw_run_languages.specs.LineRun.{LineFn, LineProgram, start_core, with_globals}
use Rattle.pw_run_languages.specs.FlowRun.{with_slots}
use Rattle.pw_run_languages.specs.PlacedRun as placed
use Rattle.pw_run_languages.specs.PlacedRun.{PlacedProgram, entered_webs, enters_webs, entered, first_block, globals_now, kept}
use Rattle.pw_run_languages.specs.Direction.{with_functions}
use Rattle.pw_run_languages.specs.Serving.{IsTempRegister}
use Rattle.pw_run_languages.specs.SelectionLaws.{line_program, with_lines}
use Rattle.pw_law_select_memory.specs.Stand.{NewBytesStand, OldBytesStand}
use Rattle.pw_law_select_rows.specs.Straight.{words_of, IsStraight, StraightLinesAreWords}
use Rattle.pw_law_select_places.specs.Rows.{StraightWordsPass}
use Rattle.pw_law_select_states.specs.Laid.{address}
use Rattle.pw_law_select_states.specs.Passes.{Passes}
use Rattle.pw_law_select_states.specs.Pointers.{AreKnown}
use Rattle.pw_law_select_states.specs.States.{Stands}
use Rattle.pw_law_select_known.specs.Laws.{EnteredFramesAreKnown, StartBytesAreKnown}
use Rattle.pw_law_select_frames.specs.Chain.{SavedStand, GlobalsAreAlike}
use Rattle.pw_law_select_frames.specs.Beginning.{Begins, FunctionsBegin}
use Rattle.pw_law_select_frames.specs.Arriving.{lines_behind_entry}
use Rattle.pw_law_select_frames.proofs.Blocks.{reach_by}
use Rattle.pw_law_select_frames.proofs.Entering.{joined_straight, end_straight}
use Rattle.pw_law_select_frames.proofs.Beginning.{lives_inside}
use Rattle.pw_law_select_start.specs.Starting.{MayStart, Starts, RunsStart}
use Rattle.pw_law_select_start.proofs.Globals.{global_site, memory_held, start_laid, start_below, start_bytes}

-- ---- lines

abbrev first_lines : Located → List Line
first_lines f = entry_lines f.frame ++ saved_lines store_to (head_size f.body) 0 f.saved

stored_straight : (near : Bool) (offset : ℤ) (r : ℕ) → AllByRecursion IsStraight ((reach_by near offset).before ++ line.Plain (i.Stw r (reach_by near offset).displacement (reach_by near offset).base) ∷ [])
stored_straight true offset r = (tt, tt)
stored_straight false offset r = (tt, (tt, (tt, (tt, tt))))

saved_straight : (head k : ℕ) (saved : List ℕ) → AllByRecursion IsStraight (saved_lines store_to head k saved)
saved_straight head k [] = tt
saved_straight head k (r ∷ rest) =
    joined_straight (store_to (saved_offset head k) r) (saved_lines store_to head (k + 1) rest) (stored_straight (is_near (saved_offset head k)) (saved_offset head k) r) (saved_straight head (k + 1) rest)

first_straight : (f : Located) → AllByRecursion IsStraight (first_lines f)
first_straight f =
    joined_straight (entry_lines f.frame) (saved_lines store_to (head_size f.body) 0 f.saved) (
      tt,
      (
        tt,
        joined_straight (frame_end f.frame) (line.Plain (i.Comclr 5 false 1 21 0) ∷ line.Plain (i.Break 0 4) ∷ line.Plain (i.Stw 2 (below 20) 30) ∷ copied 1 30)
            (end_straight f.frame (nat_lt near_limit f.frame)) (tt, (tt, (tt, (tt, tt)))),
      ),
    )
    (saved_straight (head_size f.body) 0 f.saved)

selected_split : (f : Located) → selected f ≡ first_lines f ++ lines_behind_entry f
unfolding selected
selected_split f =
    let webs = webs_loaded f.body.directives.webs in
    let params = parameters_in f.frame f.places 0 f.body.params in
    let blocks = blocks_lines f (slot_offsets f) 0 f.body.blocks in
    append_assoc (first_lines f ++ webs) params blocks ∙ (append_assoc (first_lines f) webs (params ++ blocks)
    ∙ ap (λ (ls : List Line). first_lines f ++ ls) (sym (append_assoc webs params blocks)))

-- ---- functions by their names

-- a function of a name, with its lines
pub lines_named : (fs : List Located) (name : List ℕ) (f : Located) → find (λ g. bytes_eq g.body.name name) fs ≡ Some f
    → find (λ g. bytes_eq g.located.body.name name) (map with_lines fs) ≡ Some (with_lines f)
lines_named [] name f e = absurd cc
lines_named (g ∷ fs) name f e = by_test (bytes_eq g.body.name name) (lines_named fs name f) e
  where
    by_test : (t : Bool) → (find (λ g. bytes_eq g.body.name name) fs ≡ Some f → find (λ g. bytes_eq g.located.body.name name) (map with_lines fs) ≡ Some (with_lines f))
        → cond t (Some g) (find (λ g. bytes_eq g.body.name name) fs) ≡ Some f
        → cond t (Some (with_lines g)) (find (λ g. bytes_eq g.located.body.name name) (map with_lines fs)) ≡ Some (with_lines f)
    by_test true later e = let same : g ≡ f = cc in ap (λ (x : Located). Some (with_lines x)) same
    by_test false later e = later e

-- what is found has the name
pub found_name : (fs : List Located) (name : List ℕ) (f : Located) → find (λ g. bytes_eq g.body.name name) fs ≡ Some f → f.body.name ≡ name
found_name [] name f e = absurd cc
found_name (g ∷ fs) name f e = by_test (bytes_eq g.body.name name) refl (found_name fs name f) e
  where
    by_test : (t : Bool) → bytes_eq g.body.name name ≡ t → (find (λ g. bytes_eq g.body.name name) fs ≡ Some f → f.body.name ≡ name)
        → cond t (Some g) (find (λ g. bytes_eq g.body.name name) fs) ≡ Some f → f.body.name ≡ name
    by_test true is later e = let same : g ≡ f = cc in ap (λ (x : Located). x.body.name) (sym same) ∙ (bytes_eq-Decides g.body.name name).0 is
    by_test false is later e = later e

-- what is found is there
pub found_has : (fs : List Located) (name : List ℕ) (f : Located) → find (λ g. bytes_eq g.body.name name) fs ≡ Some f → Has f fs
found_has [] name f e = absurd cc
found_has (g ∷ fs) name f e = by_test (bytes_eq g.body.name name) (found_has fs name f) e
  where
    by_test : (t : Bool) → (find (λ g. bytes_eq g.body.name name) fs ≡ Some f → Has f fs) → cond t (Some g) (find (λ g. bytes_eq g.body.name name) fs) ≡ Some f → Has f (g ∷ fs)
    by_test true later e = inl (let same : g ≡ f = cc in same)
    by_test false later e = inr (later e)

-- ---- objects

slots_count : (slots : List ℕ) (objects : List Object) → length (with_slots slots objects) ≡ length objects + length slots
slots_count [] objects = omega arith
slots_count (size ∷ rest) objects =
    let new : Object = record { bytes = replicate size B.Undefined; live = true; writable = true } in
    omega (arith, slots_count rest (with_object new objects), length-append objects (new ∷ []))

-- registers without values stand in any words
nothing_stands : (address : Pointer → ℕ) (memory : ℕ → ℕ) (top i : ℕ) (saved : List ℕ) → SavedStand address memory top i (map (λ r. (r, Undefined)) saved)
nothing_stands address memory top i [] = tt
nothing_stands address memory top i (r ∷ rest) = (tt, nothing_stands address memory top (suc i) rest)

nothing_named : (saved : List ℕ) → map (λ (s : ℕ × Value). s.0) (map (λ r. (r, Undefined)) saved) ≡ saved
nothing_named [] = refl
nothing_named (r ∷ rest) = ap (λ (l : List ℕ). r ∷ l) (nothing_named rest)

-- ---- the states

-- a function without a frame, as if it were there before `$start`
abbrev nobody : Located
nobody = record {
  body = record { name = []; shape = []; params = 0; temps = 0; slots = []; blocks = []; directives = empty_directives };
  places = [];
  saved = [];
  frame = 0;
}

abbrev empty_frame : placed.Frame
empty_frame = record { function = nobody; block = 0; ops = []; end = Return None; temps = []; base = 0; result = None; saved = []; before = [] }

abbrev pub nothing : ℕ → Value
nothing r = Undefined

abbrev before_all : Program → List ℕ → placed.Machine
before_all p input = record {
  frame = empty_frame;
  callers = [];
  registers = nothing;
  objects = start_objects p;
  rest = input;
  read = 0;
  out = [];
  events = 0;
  trace = [];
}

abbrev pub begun_at : PlacedProgram → List ℕ → Located → WebBlock → placed.Machine
begun_at q input f b = record {
  frame = record {
    function = f;
    block = 0;
    ops = b.ops;
    end = b.end;
    temps = replicate f.body.temps Undefined;
    base = length (start_objects q.flow);
    result = None;
    saved = map (λ r. (r, Undefined)) f.saved;
    before = kept nothing;
  };
  callers = [];
  registers = nothing;
  objects = with_slots f.body.slots (start_objects q.flow);
  rest = input;
  read = 0;
  out = [];
  events = 0;
  trace = Called start_name (globals_now q nothing [] (start_objects q.flow)) (kept nothing) ∷ [];
}

abbrev pub started_at : PlacedProgram → List ℕ → Located → Option WebBlock → placed.Step
started_at q input f None = placed.Astray
started_at q input f (Some b) = enters_webs q (entered_webs f) (begun_at q input f b)

abbrev pub started : PlacedProgram → List ℕ → Option Located → placed.Step
started q input (Some f) = started_at q input f (first_block f)
started q input None = placed.Astray

placed_starts : (q : PlacedProgram) (input : List ℕ) (f : Located) (b : WebBlock) → placed.function_named q start_name ≡ Some f → first_block f ≡ Some b
    → placed.start q input ≡ enters_webs q (entered_webs f) (begun_at q input f b)
placed_starts q input f b named block =
    let same : placed.start q input ≡ started q input (placed.function_named q start_name) = refl in
    same ∙ (ap (started q input) named ∙ ap (started_at q input f) block)

abbrev lines_begun : LineProgram → Addresses → List ℕ → LineFn → run.Machine
lines_begun q w input f = record {
  core = start_core q w;
  frame = record { function = f; left = f.items; stack = w.base; before = run.kept (start_core q w) };
  callers = [];
  rest = input;
  read = 0;
  out = [];
  events = 0;
  trace = Called start_name (run.globals_in q w (start_core q w) []) (run.kept (start_core q w)) ∷ [];
}

abbrev lines_started : LineProgram → Addresses → List ℕ → Option LineFn → run.Step
lines_started q w input None = run.Astray
lines_started q w input (Some f) = run.On (lines_begun q w input f)

lines_start : (q : LineProgram) (w : Addresses) (input : List ℕ) (f : LineFn) → run.function_named q start_name ≡ Some f → run.start q w input ≡ run.On (lines_begun q w input f)
lines_start q w input f named =
    let same : run.start q w input ≡ lines_started q w input (run.function_named q start_name) = refl in
    same ∙ ap (lines_started q w input) named

-- what is taken from the crates below
pub record Laws : Type 0 where
  pub begins : FunctionsBegin
  pub alike : GlobalsAreAlike
  pub straight : StraightLinesAreWords
  pub pass : StraightWordsPass
  pub new : NewBytesStand
  pub old : OldBytesStand
  pub known : StartBytesAreKnown
  pub frames : EnteredFramesAreKnown

module _ (laws : Laws) (p : Program) (functions : List Located) (w : Addresses) (scratch : ℕ → (ℕ → ℕ) → ℕ → ℕ) (input : List ℕ) (f : Located) (b : WebBlock) (may : MayStart p functions w input f b) where
  abbrev q : LineProgram
  q = line_program p functions

  abbrev full : PlacedProgram
  full = with_functions p functions

  abbrev c : Core
  c = start_core q w

  abbrev site : ℕ → ℕ
  site = global_site p w

  abbrev empty : placed.Machine
  empty = before_all p input

  abbrev begun : placed.Machine
  begun = begun_at full input f b

  abbrev first : run.Machine
  first = lines_begun q w input (with_lines f)

  name_is : f.body.name ≡ start_name
  name_is = found_name functions start_name f may.named

  fits : w.base + f.frame ≤ w.limit
  fits =
      let all = may.fits in
      let frame : p.frame_of start_name ≡ f.frame = ap p.frame_of (sym name_is) ∙ may.frame in
      let limit = may.lawful.stack in
      omega (arith, all, frame, limit)

  -- registers of temporaries and webs are 0
  register_zero : (r : ℕ) → IsTempRegister r → register c r ≡ 0
  register_zero r is =
      let high = is.high in
      let other : put 30 w.base (λ x. 0) r ≡ 0 = ap (λ (t : Bool). if t then w.base else 0) (ne_eqb r 30 (λ e. omega (arith, high, e))) in
      both (r == 0) other
    where
      both : (t : Bool) → put 30 w.base (λ x. 0) r ≡ 0 → (if t then 0 else put 30 w.base (λ x. 0) r) ≡ 0
      both true e = refl
      both false e = e

  empty_known : AreKnown p empty
  empty_known = record {
    frame = record { temps = λ t. tt; saved = tt; slots = omega arith };
    callers = tt;
    registers = λ r. tt;
    bytes = laws.known p may.program;
  }

  empty_stands : Stands p w site empty c
  empty_stands =
      let align = may.lawful.base_aligned in
      let limit = may.lawful.stack in
      record {
        words = record {
          registers = λ r is. let e = register_zero r is in omega (arith, e);
          memory = memory_held p w may.program;
        };
        laid = start_laid p w may.program may.lawful;
        bytes = start_bytes p w may.program may.lawful laws.new laws.old;
        registers = λ r is. tt;
        frame = record {
          low = omega arith;
          high = omega (arith, limit);
          aligned = omega (arith, align);
          clear = λ o lives. inl (let least = start_below p w may.program may.lawful o lives in omega (arith, least));
        };
        holds = record {
          temps = λ t offset e. absurd cc;
          slots = λ s offset e. absurd cc;
        };
        goes = refl;
      }

  begins : Begins q w site empty f b None c
  begins = laws.begins q w site empty f b None c (record {
    lawful = may.lawful;
    stands = empty_stands;
    known = empty_known;
    below = λ o lives. (let least = start_below p w may.program may.lawful o lives in omega (arith, least));
    serves = may.serves;
    directives = may.directives;
    link = omega arith;
    fits = fits;
  })

  abbrev behind : List Item
  behind = slotted (lines_behind_entry f)

  items_split : first.frame.left ≡ map Plain (words_of (first_lines f)) ++ behind
  items_split = ap slotted (selected_split f) ∙ laws.straight (first_lines f) (lines_behind_entry f) (first_straight f)

  passes : Passes q w scratch first behind begins.core []
  passes =
      laws.pass q w scratch (words_of (first_lines f)) [] behind begins.core [] first items_split refl
      (record { acts = begins.goes.acts; notes = begins.goes.notes })

  begun_stands : Stands p w begins.after begun begins.core
  begun_stands = record {
    words = begins.stands.words;
    laid = begins.stands.laid;
    bytes = begins.stands.bytes;
    registers = λ r is. tt;
    frame = begins.stands.frame;
    holds = begins.stands.holds;
    goes = begins.stands.goes;
  }

  pub runs_start : Starts p functions w scratch input f b
  runs_start = record {
    begun = begun;
    placed_start = placed_starts full input f b may.named may.block;
    first = first;
    lines_start = lines_start q w input (with_lines f) (lines_named functions start_name f may.named);
    at_items = refl;
    alone = (refl, refl);
    function = (refl, refl, refl, refl);
    before = refl;
    trace = refl;
    site = begins.after;
    core = begins.core;
    passes = passes;
    begins = record {
      stands = begun_stands;
      active = record {
        function = refl;
        serves = may.serves;
        directives = may.directives;
        room = length-replicate f.body.temps Undefined;
        saved = nothing_named f.saved;
        words = nothing_stands (address p w begins.after) begins.core.memory (w.base + f.frame - head_size f.body) 0 f.saved;
      };
      top = begins.pointer;
      old = λ o early lives.
          let at = begins.keeps.sites o early in
          let size = begins.keeps.sizes o early in
          let less = start_below p w may.program may.lawful o (begins.keeps.lives o early lives) in
          omega (arith, at, size, less);
      later = λ o lives. (
          let less = lives_inside (with_slots f.body.slots (start_objects p)) o lives in
          let count = slots_count f.body.slots (start_objects p) in
          omega (arith, less, count)
          );
      left = refl;
      inside = (map Plain (words_of (first_lines f)), items_split);
      callers = refl;
    };
    known = record { frame = (laws.frames p f b None empty empty_known).0; callers = tt };
    show = record {
      rest = refl;
      read = refl;
      out = refl;
      events = omega arith;
      log = AreAlike.also (Called start_name (globals_now full nothing [] (start_objects p)) (kept nothing))
          (Called start_name (run.globals_in q w c []) (run.kept c)) [] []
          (record {
            objects = site;
            globals = empty_stands.laid.named;
            alike = EventAlike.called start_name (globals_now full nothing [] (start_objects p)) (run.globals_in q w c []) (kept nothing) (run.kept c)
                (laws.alike p w functions site nothing (start_objects p) c [] [] empty_stands.registers tt empty_stands.laid empty_stands.bytes);
          }) AreAlike.none;
    };
    registers = begins.registers;
    words = begins.words;
  }

pub starts_of_runs : Laws → RunsStart
starts_of_runs laws p functions w scratch input f b may = runs_start laws p functions w scratch input f b may
