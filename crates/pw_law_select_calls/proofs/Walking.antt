-- Rows of webs, one after the other.
use Rattle.std.proofs.Common.{ℕ, ◌≡◌, ◌+◌, arith, refl, ap, ap₂, sym, subst, ◌∙◌, Bool, true, false, if◌then◌else◌, Option, Some, None, List, [], ◌∷◌, ◌++◌, length, append_assoc, inl, inr}
use Rattle.std.specs.List.{AllByRecursion, flat_map}
use Rattle.pw_value.specs.declared.value.Byte.{Byte}
use Rattle.pw_value.specs.declared.value.Value.{Value}
use Rattle.pw_value.specs.Objects.{Object}
use Rattle.pw_inst.specs.declared.line.Line.{Line}
use Rattle.pw_db.specs.declared.database.Web.{Web}
use Rattle.pw_alloc.specs.declared.located.Located.{Located}
use Rattle.pw_delay.specs.declared.items.Item.{Item}
use Rattle.pw_delay.specs.Items.{slotted}
use Rattle.pw_select.specs.Selection.{loaded_web, stored_back}
use Rattle.pw_run.specs.Runs.{AreAlike}
use Rattle.pw_run_languages.specs.Traces.{Event, Loaded, Stored}
use Rattle.pw_run_languages.specs.Programs.{Program}
use Rattle.pw_run_languages.specs.LawfulPrograms.{IsProgram}
use Rattle.pw_run_languages.specs.Addresses.{Addresses, AreLawful}
use Rattle.pw_run_languages.specs.Acts.{Core}
use Rattle.pw_run_languages.specs.Standing.{EventInWords}
use Rattle.pw_run_languages.specs.LineRun as run
use Rattle.pw_run_languages.specs.LineRun.{LineProgram}
use Rattle.pw_run_languages.specs.FlowRun.{get_global, put_global}
use Rattle.pw_run_languages.specs.PlacedRun as placed
use Rattle.pw_run_languages.specs.PlacedRun.{PlacedProgram, noted_if, is_eligible, with_register, enters_webs, leaves_webs}
use Rattle.pw_run_languages.specs.Direction.{with_functions}
use Rattle.pw_run_languages.specs.SelectionLaws.{line_program}
use Rattle.pw_law_select_places.specs.Rows.{PassesCompose}
use Rattle.pw_law_select_states.specs.Passes.{Passes, Leaves, further}
use Rattle.pw_law_select_states.specs.Pointers.{FrameIsKnown}
use Rattle.pw_law_select_known.specs.Laws.{IsAccess, KeepsShape, WebsKeepShape}
use Rattle.pw_law_select_ops.specs.Webs.{StandAtWeb, WebFollows, WebLoadsFollow, WebStoresFollow}
use Rattle.pw_law_select_frames.specs.Extending.{FramesAreKnown}
use Rattle.pw_law_select_frames.specs.Amid.{BothAmid, StaysInFrame, LeavesBehind, LeavesCompose, LinesGoOn}
use Rattle.pw_law_select_calls.specs.Webs.{IsWebOf, AtWebs, WebsGo}

-- the laws that this rests on
pub record WalkLaws : Type 0 where
  pub loads : WebLoadsFollow
  pub stores : WebStoresFollow
  pub shape : WebsKeepShape
  pub lines : LinesGoOn
  pub compose : LeavesCompose
  pub passes : PassesCompose

-- ---- the placed run

pub same_machine : (m n : placed.Machine) → placed.On m ≡ placed.On n → m ≡ n
same_machine m n e = cc

-- webs, one after the other
abbrev walk : (Web → placed.Machine → placed.Step) → List Web → placed.Machine → placed.Step
walk go [] m = placed.On m
walk go (x ∷ rest) m = placed.and_then (go x m) (walk go rest)

entering_walks : (q : PlacedProgram) (xs : List Web) (m : placed.Machine) → enters_webs q xs m ≡ walk (placed.enters q) xs m
entering_walks q [] m = refl
entering_walks q (x ∷ xs) m = by_step (placed.enters q x m) (entering_walks q xs)
  where
    by_step : (s : placed.Step) → ((a : placed.Machine) → enters_webs q xs a ≡ walk (placed.enters q) xs a) → placed.and_then s (enters_webs q xs) ≡ placed.and_then s (walk (placed.enters q) xs)
    by_step (placed.On a) h = h a
    by_step (placed.Stopped end a) h = refl
    by_step placed.Astray h = refl

leaving_walks : (q : PlacedProgram) (xs : List Web) (m : placed.Machine) → leaves_webs q xs m ≡ walk (placed.leaves q) xs m
leaving_walks q [] m = refl
leaving_walks q (x ∷ xs) m = by_step (placed.leaves q x m) (leaving_walks q xs)
  where
    by_step : (s : placed.Step) → ((a : placed.Machine) → leaves_webs q xs a ≡ walk (placed.leaves q) xs a) → placed.and_then s (leaves_webs q xs) ≡ placed.and_then s (walk (placed.leaves q) xs)
    by_step (placed.On a) h = h a
    by_step (placed.Stopped end a) h = refl
    by_step placed.Astray h = refl

-- the frame stays
noted_frame : (b : Bool) (e : Event Byte Value) (m : placed.Machine) → (noted_if b e m).frame ≡ m.frame
noted_frame true e m = refl
noted_frame false e m = refl

abbrev entered_by : PlacedProgram → Web → placed.Machine → Option Value → placed.Step
entered_by q x m (Some z) = placed.On (noted_if (is_eligible q x.global) (Loaded x.global) (record m { registers = with_register x.reg z m.registers }))
entered_by q x m None = placed.Astray

entered_frame : (q : PlacedProgram) (x : Web) (m n : placed.Machine) → placed.enters q x m ≡ placed.On n → n.frame ≡ m.frame
entered_frame q x m n e = by_value (get_global q.flow x.global x.kind m.objects) e
  where
    by_value : (o : Option Value) → entered_by q x m o ≡ placed.On n → n.frame ≡ m.frame
    by_value None e = absurd cc
    by_value (Some z) e =
        let reached = record m { registers = with_register x.reg z m.registers } in
        ap (λ (y : placed.Machine). y.frame) (sym (same_machine (noted_if (is_eligible q x.global) (Loaded x.global) reached) n e)) ∙ noted_frame (is_eligible q x.global) (Loaded x.global) reached

abbrev stored_by : PlacedProgram → Web → placed.Machine → Option (List Object) → placed.Step
stored_by q x m (Some objects) = placed.On (noted_if (is_eligible q x.global) (Stored x.global) (record m { objects = objects }))
stored_by q x m None = placed.Astray

left_frame : (q : PlacedProgram) (x : Web) (m n : placed.Machine) → placed.leaves q x m ≡ placed.On n → n.frame ≡ m.frame
left_frame q x m n e = by_writes x.writes e
  where
    by_put : (o : Option (List Object)) → stored_by q x m o ≡ placed.On n → n.frame ≡ m.frame
    by_put None e = absurd cc
    by_put (Some objects) e =
        let reached = record m { objects = objects } in
        ap (λ (y : placed.Machine). y.frame) (sym (same_machine (noted_if (is_eligible q x.global) (Stored x.global) reached) n e)) ∙ noted_frame (is_eligible q x.global) (Stored x.global) reached

    by_writes : (t : Bool) → (if t then placed.stores_global q x.global x.kind (m.registers x.reg) m else placed.On m) ≡ placed.On n → n.frame ≡ m.frame
    by_writes true e = by_put (put_global q.flow x.global x.kind (m.registers x.reg) m.objects) e
    by_writes false e = ap (λ (y : placed.Machine). y.frame) (sym (same_machine m n e))

-- ---- what stays

pub stays_whole : (site : ℕ → ℕ) (m : placed.Machine) → StaysInFrame site m m
stays_whole site m =
    record { frame = refl; room = refl; callers = refl; objects = record { sites = λ o less. refl; lives = λ o less h. h; sizes = λ o less. refl }; count = refl }

-- a frame that is the same but for its temporaries, where it is the same
same_but_temps : (m n : placed.Machine) → n.frame ≡ m.frame → n.frame ≡ record m.frame { temps = n.frame.temps }
same_but_temps m n same = same ∙ sym (ap (λ (f : placed.Frame). record m.frame { temps = f.temps }) same)

stays_by : (site : ℕ → ℕ) (m n : placed.Machine) → n.frame ≡ m.frame → n.callers ≡ m.callers → KeepsShape m n → StaysInFrame site m n
stays_by site m n same callers shape = record {
  frame = same_but_temps m n same;
  room = shape.temps;
  callers = callers;
  objects = record { sites = λ o less. refl; lives = λ o less h. sym (shape.lives o) ∙ h; sizes = λ o less. shape.sizes o };
  count = shape.count;
}

stays_then : (site : ℕ → ℕ) (m a n : placed.Machine) → n.frame ≡ m.frame → StaysInFrame site m a → StaysInFrame site a n → StaysInFrame site m n
stays_then site m a n same one two = record {
  frame = same_but_temps m n same;
  room = two.room ∙ one.room;
  callers = two.callers ∙ one.callers;
  objects = record {
    sites = λ o less. refl;
    lives = λ o less h. one.objects.lives o less (two.objects.lives o (let count = one.count in omega (arith, less, count)) h);
    sizes = λ o less. two.objects.sizes o (let count = one.count in omega (arith, less, count)) ∙ one.objects.sizes o less;
  };
  count = two.count ∙ one.count;
}

pub known_after : (p : Program) (m n : placed.Machine) → n.frame ≡ m.frame → n.callers ≡ m.callers → length n.objects ≡ length m.objects → FramesAreKnown p m → FramesAreKnown p n
known_after p m n same callers count known = record {
  frame = subst (λ (f : placed.Frame). FrameIsKnown p (length n.objects) f) (sym same) (subst (λ k. FrameIsKnown p k m.frame) (sym count) known.frame);
  callers = subst (λ (fs : List placed.Frame). AllByRecursion (FrameIsKnown p (length n.objects)) fs) (sym callers) (subst (λ k. AllByRecursion (FrameIsKnown p k) m.callers) (sym count) known.callers);
}

pub behind_head : (site : ℕ → ℕ) (m : placed.Machine) (c d : Core) → Leaves site m c d → LeavesBehind site m c d
behind_head site m c d leaves = record { top = leaves.top; memory = λ a low out. leaves.memory a out }

-- ---- no lines at all

no_steps : (p : LineProgram) (w : Addresses) (scratch : ℕ → (ℕ → ℕ) → ℕ → ℕ) (s : run.Step) → run.steps p w scratch 0 s ≡ s
unfolding run.steps
no_steps p w scratch s = refl

pub stays_here : (p : LineProgram) (w : Addresses) (scratch : ℕ → (ℕ → ℕ) → ℕ → ℕ) (l : run.Machine) (rest : List Item) → l.frame.left ≡ rest → Passes p w scratch l rest l.core []
stays_here p w scratch l rest left = record {
  count = 0;
  more = 0;
  steps = no_steps p w scratch (run.On l)
      ∙ ap₂ (λ (is : List Item) (n : ℕ). run.On (record l { frame = record l.frame { left = is }; events = n })) left (let none : l.events ≡ l.events + 0 = omega arith in none);
  amid = λ k n some few goes. absurd (omega (arith, some, few));
}

-- ---- the walk

all_accesses : (xs ys : List (Event Byte Value)) → AllByRecursion (λ e. IsAccess e) xs → AllByRecursion (λ e. IsAccess e) ys → AllByRecursion (λ e. IsAccess e) (xs ++ ys)
all_accesses [] ys h k = k
all_accesses (x ∷ xs) ys h k = (h.0, all_accesses xs ys h.1 k)

module _ (laws : WalkLaws) (p : Program) (functions : List Located) (w : Addresses) (scratch : ℕ → (ℕ → ℕ) → ℕ → ℕ) (site : ℕ → ℕ) (program : IsProgram p) (lawful : AreLawful p w) (row : Web → List Line)
    (go : Web → placed.Machine → placed.Step)
    (follows : (m n : placed.Machine) (l : run.Machine) (before : List Item) (more : List Line) (x : Web) → StandAtWeb p functions w site (row x) x m l before more → go x m ≡ placed.On n
    → WebFollows p (line_program p functions) w scratch site x m n l (slotted more))
    (shape : (x : Web) (m n : placed.Machine) → go x m ≡ placed.On n → KeepsShape m n) (framed : (x : Web) (m n : placed.Machine) → go x m ≡ placed.On n → n.frame ≡ m.frame) where
  abbrev lp : LineProgram
  lp = line_program p functions

  none_go : (more : List Line) (m : placed.Machine) (l : run.Machine) → BothAmid p w site more m l → FramesAreKnown p m → WebsGo p functions w scratch site [] more m m l
  none_go more m l amid known =
      let leaves : Leaves site m l.core l.core = record { top = refl; memory = λ a out. refl; registers = λ r none. refl } in
      let passes = stays_here lp w scratch l (slotted more) amid.left in
      record {
        core = l.core;
        log = [];
        passes = passes;
        frame = refl;
        same = stays_whole site m;
        leaves = leaves;
        registers = λ r ne others. refl;
        amid = laws.lines p w site [] more m m l l.core passes.more [] lawful amid known (stays_whole site m) amid.stands (behind_head site m l.core l.core leaves);
        shown = (refl, refl, refl, refl);
        logs = λ alike. alike;
        own = [];
        quiet = tt;
        noted = refl;
      }

  one_goes : (x : Web) (more : List Line) (m n : placed.Machine) (l : run.Machine) → BothAmid p w site (row x ++ more) m l → FramesAreKnown p m → IsWebOf m.frame.function x → go x m ≡ placed.On n
      → WebsGo p functions w scratch site (x ∷ []) more m n l
  one_goes x more m n l amid known web goes =
      let f =
      follows m n l amid.inside.0 more x
      (record {
        program = program;
        served = record { lawful = lawful; serves = amid.active.serves; room = amid.active.room };
        temp = web.temp;
        has = web.has;
        stands = amid.stands;
        left = amid.left;
        items = amid.inside.1;
      }) goes in
      let v = f.follows.values in
      let s = shape x m n goes in
      let same = framed x m n goes in
      let stays = stays_by site m n same v.callers s in
      record {
        core = f.follows.core;
        log = f.follows.log;
        passes = f.follows.passes;
        frame = same;
        same = stays;
        leaves = f.follows.leaves;
        registers = λ r ne others. f.registers r ne others.0;
        amid = laws.lines p w site (row x) more m n l f.follows.core f.follows.passes.more f.follows.log lawful amid known stays f.follows.stands
            (behind_head site m l.core f.follows.core f.follows.leaves);
        shown = (v.rest, v.read, v.out, v.events);
        logs = f.follows.logs;
        own = s.log;
        quiet = s.quiet;
        noted = s.noted;
      }

  joined : (x : Web) (xs : List Web) (rest more : List Line) (m a n : placed.Machine) (l : run.Machine) (one : WebsGo p functions w scratch site (x ∷ []) rest m a l)
      → WebsGo p functions w scratch site xs more a n (further (slotted rest) one.core one.passes.more one.log l) → WebsGo p functions w scratch site (x ∷ xs) more m n l
  joined x xs rest more m a n l one two =
      let all = laws.passes lp w scratch l (slotted rest) (slotted more) one.core two.core one.log two.log one.passes two.passes in
      let b = two.amid in
      record {
        core = two.core;
        log = two.log ++ one.log;
        passes = all;
        frame = two.frame ∙ one.frame;
        same = stays_then site m a n (two.frame ∙ one.frame) one.same two.same;
        leaves = laws.compose site m a l.core one.core two.core one.same one.leaves two.leaves;
        registers = λ r ne others. two.registers r ne others.1 ∙ one.registers r ne (others.0, tt);
        amid = record { stands = b.stands; active = b.active; top = b.top; old = b.old; later = b.later; left = b.left; inside = b.inside; callers = b.callers };
        shown = (two.shown.0 ∙ one.shown.0, two.shown.1 ∙ one.shown.1, two.shown.2 ∙ one.shown.2, two.shown.3 ∙ one.shown.3);
        logs = λ alike. subst (λ (ys : List (Event ℕ ℕ)). AreAlike (EventInWords p w.named) n.trace ys) (sym (append_assoc two.log one.log l.trace)) (two.logs (one.logs alike));
        own = two.own ++ one.own;
        quiet = all_accesses two.own one.own two.quiet one.quiet;
        noted = two.noted ∙ (ap (λ (ys : List (Event Byte Value)). two.own ++ ys) one.noted ∙ sym (append_assoc two.own one.own m.trace));
      }

  walks : (xs : List Web) (more : List Line) (m n : placed.Machine) (l : run.Machine) → BothAmid p w site (flat_map row xs ++ more) m l → FramesAreKnown p m → AllByRecursion (IsWebOf m.frame.function) xs
      → walk go xs m ≡ placed.On n → WebsGo p functions w scratch site xs more m n l
  walks [] more m n l amid known webs goes =
      subst (λ (y : placed.Machine). WebsGo p functions w scratch site [] more m y l) (same_machine m n goes) (none_go more m l amid known)
  walks (x ∷ xs) more m n l amid known webs goes = by_step (λ (a : placed.Machine) (k : run.Machine). walks xs more a n k) (go x m) refl goes
    where
      rest : List Line
      rest = flat_map row xs ++ more

      here : BothAmid p w site (row x ++ rest) m l
      here = subst (λ (ls : List Line). BothAmid p w site ls m l) (append_assoc (row x) (flat_map row xs) more) amid

      by_step : ((a : placed.Machine) (k : run.Machine) → BothAmid p w site (flat_map row xs ++ more) a k → FramesAreKnown p a → AllByRecursion (IsWebOf a.frame.function) xs
          → walk go xs a ≡ placed.On n → WebsGo p functions w scratch site xs more a n k)
          → (s : placed.Step) → go x m ≡ s → placed.and_then s (walk go xs) ≡ placed.On n → WebsGo p functions w scratch site (x ∷ xs) more m n l
      by_step later (placed.On a) is goes =
          let one = one_goes x rest m a l here known webs.0 is in
          let known_there = known_after p m a one.frame one.same.callers one.same.count known in
          let own : AllByRecursion (IsWebOf a.frame.function) xs = subst (λ (f : placed.Frame). AllByRecursion (IsWebOf f.function) xs) (sym one.frame) webs.1 in
          joined x xs rest more m a n l one (later a (further (slotted rest) one.core one.passes.more one.log l) one.amid known_there own goes)
      by_step later (placed.Stopped end a) is goes = absurd cc
      by_step later placed.Astray is goes = absurd cc

pub webs_entered : WalkLaws → (p : Program) (functions : List Located) (w : Addresses) (scratch : ℕ → (ℕ → ℕ) → ℕ → ℕ) (site : ℕ → ℕ) (webs : List Web) (more : List Line) (m n : placed.Machine) (l : run.Machine)
    → AtWebs p w site loaded_web webs more m l → enters_webs (with_functions p functions) webs m ≡ placed.On n → WebsGo p functions w scratch site webs more m n l
webs_entered laws p functions w scratch site webs more m n l at goes =
    let q = with_functions p functions in
    walks laws p functions w scratch site at.program at.lawful loaded_web (placed.enters q) (λ m n l before more x. laws.loads p functions w scratch site m n l before more x)
    (λ x m n e. laws.shape p functions x m n (inl e)) (entered_frame q) webs more m n l at.amid at.known at.own (sym (entering_walks q webs m) ∙ goes)

pub webs_left : WalkLaws → (p : Program) (functions : List Located) (w : Addresses) (scratch : ℕ → (ℕ → ℕ) → ℕ → ℕ) (site : ℕ → ℕ) (webs : List Web) (more : List Line) (m n : placed.Machine) (l : run.Machine)
    → AtWebs p w site stored_back webs more m l → leaves_webs (with_functions p functions) webs m ≡ placed.On n → WebsGo p functions w scratch site webs more m n l
webs_left laws p functions w scratch site webs more m n l at goes =
    let q = with_functions p functions in
    walks laws p functions w scratch site at.program at.lawful stored_back (placed.leaves q) (λ m n l before more x. laws.stores p functions w scratch site m n l before more x)
    (λ x m n e. laws.shape p functions x m n (inr e)) (left_frame q) webs more m n l at.amid at.known at.own (sym (leaving_walks q webs m) ∙ goes)
