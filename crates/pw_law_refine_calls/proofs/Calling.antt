-- Calls keep their promise: of the library at each bound, of a module's functions at a bound where functions keep theirs at
-- the bound below.
use Rattle.std.proofs.Common.{◌≡◌, ℕ, suc, ◌+◌, ◌<◌, ◌≤◌, ◌==◌, Bool, true, false, nat_lt, if◌then◌else◌, Option, Some, None, List, [], ◌∷◌, length, slice_get, inl, inr, refl, ap, sym, ◌∙◌, subst, arith, eq-eqb}
use Rattle.std.specs.Str.{bytes_eq}
use Rattle.pw_value.specs.declared.value.Value.{Value}
use Rattle.pw_types.specs.TypedTrees.{FunctionValue}
use Rattle.pw_flow.specs.declared.flow.Op.{Op}
use Rattle.pw_flow.specs.declared.flow.Block.{Block}
use Rattle.pw_flow.specs.declared.flow.FlowFn.{FlowFn}
use Rattle.pw_flow.specs.declared.flow.FlowModule.{FlowModule}
use Rattle.pw_flow.specs.ValidFlow.{IsValid, IsFunction}
use Rattle.pw_lower.specs.Modules.{lowered_function}
use Rattle.pw_cmean.specs.Worlds.{ProgramModule, World, Callable, library_callable, full_name, function_named, depth}
use Rattle.pw_cmean.specs.Acts as source
use Rattle.pw_cmean.specs.Acts.{State, Act, Outcome, Gives, Ends, give, stop, branch, look, go_on, ◌>>=◌, called, returned, during}
use Rattle.pw_cmean.specs.Evaluation.{bounded_call, take_room, library_call, call_body, call}
use Rattle.pw_cmean.specs.SourceRun as meaning
use Rattle.pw_cmean.specs.SourceRun.{run_body, callee}
use Rattle.pw_run.specs.Runs as run
use Rattle.pw_run_languages.specs.Programs as flows
use Rattle.pw_run_languages.specs.Programs.{Library, library_at, block_at}
use Rattle.pw_run_languages.specs.FlowRun as flow
use Rattle.pw_run_languages.specs.FlowRun.{Machine, Step, On, Stopped, Astray, counted, entered, calls_library, calls_defined, step, steps}
use Rattle.pw_files.proofs.Standing.{has_each, has_flat_back}
use Rattle.pw_law_refine.specs.Lowerable.{IsLowerableWorld}
use Rattle.pw_law_refine.specs.Standing.{Spot}
use Rattle.pw_law_refine.specs.Activations.{Activation, graphs, graph_of}
use Rattle.pw_law_refine.specs.Matching.{Matches}
use Rattle.pw_law_refine.specs.Meeting.{Stops, Meets}
use Rattle.pw_law_refine.specs.Calls.{FitShape, EachStands, HasReturned, CallsKeep, HasRun, runs_body, FunctionsKeep}
use Rattle.pw_law_refine_start.specs.Named.{IsOfLibrary, IsDefinedAs, IsFoundAs, flow_library}
use Rattle.pw_law_refine_calls.proofs.Finding.{found, named-so}
use Rattle.pw_law_refine_calls.proofs.Rooms.{room-same}
use Rattle.pw_law_refine_calls.proofs.Counting.{parameters-counted}
use Rattle.pw_law_refine_calls.proofs.Entering.{same-count, activated, entering, graph-named, graph-takes, enters-related, enters-with, enters-at}
use Rattle.pw_law_refine_calls.proofs.Returning.{back_in, returned_value, comes-back, has-returned}
use Rattle.pw_law_refine_calls.proofs.Library.{library-is, library-meets}

-- what the laws below say of names, and of steps
pub record CallLaws : Type 0 where
  pub found : (world : World) (name : List ℕ) (f : Callable) → IsLowerableWorld world → function_named world.program name ≡ Some f → IsFoundAs world name f
  pub more : (p : flows.Program) (a b : ℕ) (s : Step) → steps p (a + b) s ≡ steps p b (steps p a s)

-- ---- room on the stack

-- behind the test of it: the stack is full, or what comes behind is met
roomy : {A : Type 0} (world : World) (n : ℕ) (m : Machine) (b : Bool) (act : Unit {0} → Act A) (s : State) (Q : A → State → Machine → Type 0)
    → (b ≡ true → Stops world run.StackFull m s) → (b ≡ false → Meets world n m (act tt s) Q)
    → Meets world n m (go_on (branch b (stop source.StackFull) (give tt) s) act) Q
unfolding branch stop give go_on
roomy world n m true act s Q f g = f refl
roomy world n m false act s Q f g = g refl

-- ---- steps that call

abbrev calls_by : flows.Program → Option ℕ → List ℕ → List Value → Machine → Option Library → Option FlowFn → Step
calls_by p t f args m (Some g) defined =
    if nat_lt p.stack (p.frame_of f + flow.depth p m) then Stopped run.StackFull m else calls_library g t args m
calls_by p t f args m None (Some defined) = calls_defined p defined t args m
calls_by p t f args m None None = Astray

calls-is : (p : flows.Program) (t : Option ℕ) (f : List ℕ) (args : List Value) (m : Machine) (l : Option Library) (d : Option FlowFn)
    → library_at f ≡ l → flows.function_named p f ≡ d → flow.calls p t f args m ≡ calls_by p t f args m l d
calls-is p t f args m l d e g =
    ap (λ (l : Option Library). calls_by p t f args m l (flows.function_named p f)) e ∙ ap (λ (d : Option FlowFn). calls_by p t f args m l d) g

abbrev begins_by : FlowFn → Option ℕ → List Value → Machine → Option Block → Step
begins_by f t args m (Some b) = if length args == f.params then On (counted (entered f b t args m)) else Astray
begins_by f t args m None = Astray

defined-full : (p : flows.Program) (f : FlowFn) (t : Option ℕ) (args : List Value) (m : Machine) → nat_lt p.stack (p.frame_of f.name + flow.depth p m) ≡ true
    → calls_defined p f t args m ≡ Stopped run.StackFull m
defined-full p f t args m full = ap (λ (c : Bool). if c then Stopped run.StackFull m else begins_by f t args m (block_at f 0)) full

defined-enters : (p : flows.Program) (f : FlowFn) (t : Option ℕ) (args : List Value) (m : Machine) (b : Block)
    → nat_lt p.stack (p.frame_of f.name + flow.depth p m) ≡ false → block_at f 0 ≡ Some b → length args ≡ f.params
    → calls_defined p f t args m ≡ On (counted (entered f b t args m))
defined-enters p f t args m b room there count =
    ap (λ (c : Bool). if c then Stopped run.StackFull m else begins_by f t args m (block_at f 0)) room
    ∙ ap (λ (o : Option Block). begins_by f t args m o) there
    ∙ ap (λ (c : Bool). if c then On (counted (entered f b t args m)) else Astray) (eq-eqb (length args) f.params count)

-- ---- the library

library-keeps :
    (n : ℕ) (world : World) (spots : List Spot) (name : List ℕ) (f : Callable) (vs ws : List Value) (r : Option ℕ) (rest : List Op) (s : State) (m : Machine)
    → function_named world.program name ≡ Some f → IsOfLibrary name f → EachStands spots vs ws → Matches world spots s m
    → step (graphs world) m ≡ flow.calls (graphs world) r name ws (record m { frame = record m.frame { ops = rest } })
    → Meets world n m (call world (meaning.calls world n) f vs s) (HasReturned world spots r rest s m)
unfolding take_room look ◌>>=◌ go_on steps
library-keeps n world spots name f vs ws r rest s m is o stand h e =
    let g = library_callable o.function in
    let before : Machine = record m { frame = record m.frame { ops = rest } } in
    let named : g.name ≡ name = ap (λ (c : Callable). c.name) (sym o.is) ∙ named-so world.program name f is in
    let goes = e ∙ calls-is (graphs world) r name ws before (Some (flow_library o.function)) (flows.function_named (graphs world) name) o.there refl in
    let room : depth world (g.name ∷ s.active) ≡ world.frame_of name + flow.depth (graphs world) before =
    ap (λ (k : List ℕ). depth world (k ∷ s.active)) named ∙ room-same world spots s m name h in
    subst (λ (c : Callable). Meets world n m (call world (meaning.calls world n) c vs s) (HasReturned world spots r rest s m)) (sym o.is)
    (subst (λ (a : Outcome (Option Value)). Meets world n m a (HasReturned world spots r rest s m)) (sym (library-is world (meaning.calls world n) o.function vs s))
    (roomy world n m (nat_lt world.stack (depth world (g.name ∷ s.active))) (λ (done : Unit {0}). library_call o.function vs) s (HasReturned world spots r rest s m)
    (λ full. record {
      count = 1;
      machine = before;
      comes = goes ∙ ap (λ (c : Bool). if c then Stopped run.StackFull before else calls_library (flow_library o.function) r ws before) (ap (λ (k : ℕ). nat_lt world.stack k) (sym room) ∙ full);
      shows = record { output = h.shows.output; read = h.shows.read; log = h.shows.log };
    })
    (λ enough. library-meets world spots r rest s m h n o.function vs ws stand
    (goes ∙ ap (λ (c : Bool). if c then Stopped run.StackFull before else calls_library (flow_library o.function) r ws before) (ap (λ (k : ℕ). nat_lt world.stack k) (sym room) ∙ enough)))))

-- ---- functions of modules

-- the flow graphs of a program are lawful
lawful : (world : World) (name : List ℕ) (g : FlowFn) → IsLowerableWorld world → flows.function_named (graphs world) name ≡ Some g → IsFunction g
lawful world name g l e =
    let there = (found (λ (f : FlowFn). bytes_eq f.name name) (flows.functions_of (graphs world)) g e).0 in
    let m = has_flat_back (λ (m : FlowModule). m.functions) g (graphs world).modules there in
    let valid = has_each IsValid (graphs world).modules m.0 l.program.accepted.program.modules m.1 in
    has_each IsFunction m.0.functions g valid.parts.functions m.2

first-block : (g : FlowFn) → 0 < length g.blocks → (b : Block) × (block_at g 0 ≡ Some b)
first-block g some = by_blocks g.blocks some
  where
    by_blocks : (bs : List Block) → 0 < length bs → (b : Block) × (slice_get bs 0 ≡ Some b)
    by_blocks [] some = absurd (omega (arith, some))
    by_blocks (b ∷ bs) some = (b, refl)

module _
    (laws : CallLaws) (n : ℕ) (world : World) (home : ProgramModule) (f : FunctionValue) (spots : List Spot) (b : Block) (r : Option ℕ) (rest : List Op) (ws : List Value) (s : State) (m : Machine)
    (h : Matches world spots s m) (enters : step (graphs world) m ≡ On (entering (activated world home f r rest m) b r rest ws m))
  where
    abbrev x : Activation
    x = activated world home f r rest m

    abbrev name : List ℕ
    name = full_name home.name f.name

    abbrev first : Machine
    first = entering x b r rest ws m

    -- what the function comes to, the call comes to with one event more
    comes-so : (k : ℕ) (a : Step) → steps (graphs world) k (On first) ≡ a → steps (graphs world) (suc k) (On m) ≡ a
    unfolding steps
    comes-so k a e = ap (λ (z : Step). steps (graphs world) k z) enters ∙ e

    stops-so : (end : run.End) (t : State) → Stops world end first t → Stops world end m t
    stops-so end t q = record { count = suc q.count; machine = q.machine; comes = comes-so q.count _ q.comes; shows = q.shows }

    pub wrapped : (o : Outcome (Option Value)) → Meets world n first o (HasRun x spots (called name s) first) → Meets world (suc n) m (returned name s.active o) (HasReturned world spots r rest s m)
    unfolding returned steps
    wrapped (Gives result t) q =
        let back = back_in (record m.frame { ops = rest }) m.callers r (length m.objects) (graph_of x).name (returned_value q.holds.returning.temp q.machine) q.machine in
        record {
          count = suc (q.count + 1);
          machine = back;
          comes = comes-so (q.count + 1) (On back)
              (laws.more (graphs world) q.count 1 (On first) ∙ ap (λ (z : Step). steps (graphs world) 1 z) q.comes
              ∙ comes-back world home f spots b r rest ws s m h result t q.machine q.holds);
          holds = has-returned world home f spots b r rest ws s m h result t q.machine q.holds;
        }
    wrapped (Ends source.Bound t) q = record {
      count = suc q.count;
      machine = q.machine;
      comes = comes-so q.count _ q.comes;
      counted = omega (arith, q.counted);
      shows = q.shows;
    }
    wrapped (Ends source.StackFull t) q = stops-so run.StackFull t q
    wrapped (Ends (source.Exit status) t) q = stops-so (run.Ended status) t q
    wrapped (Ends (source.Undefined operation at token) t) q = record { count = suc q.count; machine = q.machine; comes = comes-so q.count _ q.comes; holds = q.holds }
    wrapped (Ends source.Wrong t) q = tt

defined-keeps :
    (laws : CallLaws) (n : ℕ) (world : World) (spots : List Spot) (called_by : List ℕ) (f : Callable) (vs ws : List Value) (r : Option ℕ) (rest : List Op) (s : State) (m : Machine)
    → FunctionsKeep n → IsLowerableWorld world → IsDefinedAs world called_by f → FitShape f.shape vs → EachStands spots vs ws → Matches world spots s m
    → step (graphs world) m ≡ flow.calls (graphs world) r called_by ws (record m { frame = record m.frame { ops = rest } })
    → Meets world (suc n) m (call world (meaning.calls world (suc n)) f vs s) (HasReturned world spots r rest s m)
unfolding call call_body bounded_call meaning.calls callee run_body take_room look during ◌>>=◌ go_on steps
defined-keeps laws n world spots called_by f vs ws r rest s m keep l d fit stand h e =
    let before : Machine = record m { frame = record m.frame { ops = rest } } in
    let x : Activation = activated world d.home d.function r rest m in
    let g : FlowFn = lowered_function d.home.name d.home.tree.records d.function in
    let own : List ℕ = full_name d.home.name d.function.name in
    let valid = lawful world called_by g l d.graph in
    let block = first-block g valid.few.start in
    let count : length ws ≡ g.params = same-count spots vs ws stand ∙ parameters-counted world called_by f vs l d fit ∙ sym (graph-takes d.home d.function) in
    let few : length ws ≤ g.temps = omega (arith, count, valid.few.params) in
    let goes : step (graphs world) m ≡ calls_defined (graphs world) g r ws before = e ∙ calls-is (graphs world) r called_by ws before None (Some g) d.no_library d.graph in
    let room : depth world (own ∷ s.active) ≡ world.frame_of g.name + flow.depth (graphs world) before =
    room-same world spots s m own h ∙ ap (λ (k : List ℕ). world.frame_of k + flow.depth (graphs world) before) (sym (graph-named d.home d.function)) in
    subst (λ (c : Callable). Meets world (suc n) m (call world (meaning.calls world (suc n)) c vs s) (HasReturned world spots r rest s m)) (sym d.is)
    (roomy world (suc n) m (nat_lt world.stack (depth world (own ∷ s.active))) (λ (done : Unit {0}). during own (runs_body x n vs)) s (HasReturned world spots r rest s m)
    (λ full. record {
      count = 1;
      machine = before;
      comes = goes ∙ defined-full (graphs world) g r ws before (ap (λ (k : ℕ). nat_lt world.stack k) (sym room) ∙ full);
      shows = record { output = h.shows.output; read = h.shows.read; log = h.shows.log };
    })
    (λ enough.
    wrapped laws n world d.home d.function spots block.0 r rest ws s m h
    (goes ∙ defined-enters (graphs world) g r ws before block.0 (ap (λ (k : ℕ). nat_lt world.stack k) (sym room) ∙ enough) block.1 count)
    (runs_body x n vs (called own s))
    (keep x spots vs (called own s) (entering x block.0 r rest ws m)
    (record { world = l; home = d.stands; function = d.there })
    (subst (λ (shape : List ℕ). FitShape shape vs) (sym d.shape) fit)
    (enters-with world d.home d.function spots block.0 r rest vs ws s m h stand)
    (enters-related world d.home d.function spots block.0 r rest vs ws s m h few)
    (enters-at world d.home d.function spots block.0 r rest vs ws s m h block.1))))

-- ---- at each bound

-- no call of a module's function is within the bound 0
bound-none : (world : World) (spots : List Spot) (called_by : List ℕ) (f : Callable) (vs : List Value) (r : Option ℕ) (rest : List Op) (s : State) (m : Machine)
    → IsDefinedAs world called_by f → Matches world spots s m → Meets world 0 m (call world (meaning.calls world 0) f vs s) (HasReturned world spots r rest s m)
unfolding call call_body bounded_call meaning.calls stop steps
bound-none world spots called_by f vs r rest s m d h =
    subst (λ (c : Callable). Meets world 0 m (call world (meaning.calls world 0) c vs s) (HasReturned world spots r rest s m)) (sym d.is) (record {
      count = 0;
      machine = m;
      comes = refl;
      counted = omega arith;
      shows = h.shows;
    })

pub calls-keep-none : CallLaws → CallsKeep 0
calls-keep-none laws world spots name f vs ws r rest s m l is fit stand h e = elim (laws.found world name f l is) [
  | inl o ↦ library-keeps 0 world spots name f vs ws r rest s m is o stand h e
  | inr d ↦ bound-none world spots name f vs r rest s m d h
]

pub calls-keep-next : CallLaws → (n : ℕ) → FunctionsKeep n → CallsKeep (suc n)
calls-keep-next laws n keep world spots name f vs ws r rest s m l is fit stand h e = elim (laws.found world name f l is) [
  | inl o ↦ library-keeps (suc n) world spots name f vs ws r rest s m is o stand h e
  | inr d ↦ defined-keeps laws n world spots name f vs ws r rest s m keep l d fit stand h e
]
