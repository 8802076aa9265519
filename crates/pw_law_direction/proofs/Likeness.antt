-- States of a run without directives are those of the flow run, with what a frame and the machine have besides.
use Rattle.std.proofs.Common.{◌≡◌, ℕ, zero, suc, ◌+◌, ◌-◌, ◌≤◌, Bool, true, false, cond, List, [], ◌∷◌, ◌++◌, length, map, replicate, refl, sym, ap, ◌∙◌, arith, append_assoc, length-append}
use Rattle.std.specs.Prelude.{Option, Some, None, option_map, find, slice_set, sum_by}
use Rattle.std.specs.Str.{bytes_eq}
use Rattle.std.proofs.lemmas.List.Sums.{sum_by-cons}
use Rattle.pw_value.specs.declared.value.Byte.{Byte}
use Rattle.pw_value.specs.declared.value.Value.{Value}
use Rattle.pw_value.specs.declared.value.Value.TheVariants.{Undefined}
use Rattle.pw_value.specs.Objects.{Object, object_at}
use Rattle.pw_flow.specs.declared.flow.FlowGlobal.{FlowGlobal}
use Rattle.pw_flow.specs.declared.flow.FlowFn.{FlowFn}
use Rattle.pw_flow.specs.declared.flow.Op.{Op}
use Rattle.pw_flow.specs.declared.flow.Op.TheVariants as op
use Rattle.pw_run.specs.Runs.{AreAlike}
use Rattle.pw_run_languages.specs.Traces.{Event, calls_alone}
use Rattle.pw_webflow.specs.declared.web.WebOp.TheVariants.{Flow}
use Rattle.pw_webflow.specs.Direction.{directed, directed_op, directed_block}
use Rattle.pw_alloc.specs.declared.located.Located.{Located}
use Rattle.pw_run_languages.specs.Programs.{Program, functions_of, globals_of, function_named as flow_named}
use Rattle.pw_run_languages.specs.FlowRun as flow
use Rattle.pw_run_languages.specs.Direction.{directed_by, unplaced, directed_functions, with_functions, StandsFor, AllStand, MomentAlike}
use Rattle.pw_run_languages.specs.PlacedRun.{PlacedProgram, Frame, Machine, name_of, function_named, entered_webs, held, standing, standings, globals_now, with_registers, with_parameters, depth}

abbrev pub run_of : Program → PlacedProgram
run_of p = with_functions p (map unplaced (directed_functions p []))

abbrev pub web_fn : FlowFn → Located
web_fn f = unplaced (directed_by [] f)

-- ---- states

-- what a frame saved and found in the registers
pub record Extra : Type 0 where
  pub saved : List (ℕ × Value)
  pub before : List Value

pub record Beside : Type 0 where
  pub own : Extra
  pub others : List Extra
  pub registers : ℕ → Value
  pub trace : List (Event Byte Value)

abbrev pub web_frame : flow.Frame → Extra → Frame
web_frame f e = record {
  function = web_fn f.function;
  block = f.block;
  ops = map (directed_op []) f.ops;
  end = f.end;
  temps = f.temps;
  base = f.base;
  result = f.result;
  saved = e.saved;
  before = e.before;
}

abbrev pub web_frames : List flow.Frame → List Extra → List Frame
web_frames [] es = []
web_frames (f ∷ fs) [] = web_frame f (record { saved = []; before = [] }) ∷ web_frames fs []
web_frames (f ∷ fs) (e ∷ es) = web_frame f e ∷ web_frames fs es

abbrev pub web_of : flow.Machine → Beside → Machine
web_of m x = record {
  frame = web_frame m.frame x.own;
  callers = web_frames m.callers x.others;
  registers = x.registers;
  objects = m.objects;
  rest = m.rest;
  read = m.read;
  out = m.out;
  events = m.events;
  trace = x.trace;
}

-- the logs are alike
abbrev pub Alike : Program → List flow.Moment → List (Event Byte Value) → Type 0
Alike p moments trace = AreAlike (MomentAlike p) moments (calls_alone trace)

-- a step of the flow run, and one of the run without directives
pub record SameEnd (p : Program) (end : flow.Machine) (n : Machine) : Type 0 where
  pub out : n.out ≡ end.out
  pub read : n.read ≡ end.read
  pub events : n.events ≡ end.events
  pub log : Alike p end.moments n.trace

-- ---- functions without directives

pub name_is : (f : FlowFn) → (web_fn f).body.name ≡ f.name
unfolding directed
name_is f = refl

pub params_is : (f : FlowFn) → (web_fn f).body.params ≡ f.params
unfolding directed
params_is f = refl

pub temps_is : (f : FlowFn) → (web_fn f).body.temps ≡ f.temps
unfolding directed
temps_is f = refl

pub slots_is : (f : FlowFn) → (web_fn f).body.slots ≡ f.slots
unfolding directed
slots_is f = refl

pub blocks_is : (f : FlowFn) → (web_fn f).body.blocks ≡ map (directed_block []) f.blocks
unfolding directed
blocks_is f = refl

pub none_entered : (f : FlowFn) → entered_webs (web_fn f) ≡ []
unfolding directed
none_entered f = refl

pub op_is : (o : Op) → directed_op [] o ≡ Flow o
op_is (op.LoadG t g k) = refl
op_is _ = refl

-- ---- functions by their names

named_by : (b : Bool) (f : FlowFn) (rest : Option FlowFn) → cond b (Some (web_fn f)) (option_map web_fn rest) ≡ option_map web_fn (cond b (Some f) rest)
named_by true f rest = refl
named_by false f rest = refl

found_like : (fs : List FlowFn) (name : List ℕ) → find (λ g. bytes_eq g.body.name name) (map unplaced (map (directed_by []) fs)) ≡ option_map web_fn (find (λ g. bytes_eq g.name name) fs)
found_like [] name = refl
found_like (f ∷ fs) name =
    ap (λ (n : List ℕ). cond (bytes_eq n name) (Some (web_fn f)) (find (λ (g : Located). bytes_eq g.body.name name) (map unplaced (map (directed_by []) fs)))) (name_is f)
    ∙ ap (λ (rest : Option Located). cond (bytes_eq f.name name) (Some (web_fn f)) rest) (found_like fs name)
    ∙ named_by (bytes_eq f.name name) f (find (λ (g : FlowFn). bytes_eq g.name name) fs)

pub named_like : (p : Program) (name : List ℕ) → function_named (run_of p) name ≡ option_map web_fn (flow_named p name)
named_like p name = found_like (functions_of p) name

-- ---- the depth of the stack

depth_of : (p : Program) (fs : List flow.Frame) (es : List Extra) → depth (run_of p) (web_frames fs es) ≡ sum_by (λ f. p.frame_of f.function.name) fs
depth_of p [] es = refl
depth_of p (f ∷ fs) [] =
    sum_by-cons (λ (g : Frame). p.frame_of (name_of g)) (web_frame f (record { saved = []; before = [] })) (web_frames fs [])
    ∙ ap (λ (n : List ℕ). p.frame_of n + depth (run_of p) (web_frames fs [])) (name_is f.function)
    ∙ ap (λ (n : ℕ). p.frame_of f.function.name + n) (depth_of p fs [])
    ∙ sym (sum_by-cons (λ (g : flow.Frame). p.frame_of g.function.name) f fs)
depth_of p (f ∷ fs) (e ∷ es) =
    sum_by-cons (λ (g : Frame). p.frame_of (name_of g)) (web_frame f e) (web_frames fs es)
    ∙ ap (λ (n : List ℕ). p.frame_of n + depth (run_of p) (web_frames fs es)) (name_is f.function)
    ∙ ap (λ (n : ℕ). p.frame_of f.function.name + n) (depth_of p fs es)
    ∙ sym (sum_by-cons (λ (g : flow.Frame). p.frame_of g.function.name) f fs)

pub depth_like : (p : Program) (m : flow.Machine) (x : Beside) → depth (run_of p) (web_frame m.frame x.own ∷ web_frames m.callers x.others) ≡ flow.depth p m
depth_like p m x =
    sum_by-cons (λ (g : Frame). p.frame_of (name_of g)) (web_frame m.frame x.own) (web_frames m.callers x.others)
    ∙ ap (λ (n : List ℕ). p.frame_of n + depth (run_of p) (web_frames m.callers x.others)) (name_is m.frame.function)
    ∙ ap (λ (n : ℕ). p.frame_of m.frame.function.name + n) (depth_of p m.callers x.others)

-- ---- every global stands in memory

none_held : (fs : List flow.Frame) (es : List Extra) (g : List ℕ) (registers : ℕ → Value) → held g registers (web_frames fs es) ≡ None
unfolding directed
none_held [] es g registers = refl
none_held (f ∷ fs) [] g registers = none_held fs [] g (with_registers [] registers)
none_held (f ∷ fs) (e ∷ es) g registers = none_held fs es g (with_registers e.saved registers)

all_stand : (gs : List FlowGlobal) (n : ℕ) (registers : ℕ → Value) (fs : List flow.Frame) (es : List Extra) (objects : List Object)
    → AllStand gs n objects (standings (map (λ g. g.name) gs) n registers (web_frames fs es) objects)
all_stand [] n registers fs es objects = tt
all_stand (g ∷ gs) n registers fs es objects = (stands (held g.name registers (web_frames fs es)) (none_held fs es g.name registers), all_stand gs (suc n) registers fs es objects) where
  stands : (h : Option Value) → h ≡ None → StandsFor g (object_at objects n) (standing h (object_at objects n))
  stands None e = refl
  stands (Some v) e = absurd cc

pub globals_stand : (p : Program) (registers : ℕ → Value) (fs : List flow.Frame) (es : List Extra) (objects : List Object)
    → AllStand (globals_of p) 0 objects (globals_now (run_of p) registers (web_frames fs es) objects)
globals_stand p registers fs es objects = all_stand (globals_of p) 0 registers fs es objects

-- ---- parameters

put_behind : (pre : List Value) (u v : Value) (rest : List Value) → slice_set (pre ++ u ∷ rest) (length pre) v ≡ pre ++ v ∷ rest
put_behind [] u v rest = refl
put_behind (x ∷ pre) u v rest = ap (λ (ts : List Value). x ∷ ts) (put_behind pre u v rest)

abbrev pub set_temps : List Value → flow.Machine → flow.Machine
set_temps ts m = record m { frame = record m.frame { temps = ts } }

pub params_at : (vs pre : List Value) (k : ℕ) (m : flow.Machine) (x : Beside) → length vs ≤ k
    → with_parameters (length pre) vs (web_of (set_temps (pre ++ replicate k Undefined) m) x) ≡ web_of (set_temps (pre ++ (vs ++ replicate (k - length vs) Undefined)) m) x
params_at [] pre k m x le = let e : k ≡ k - 0 = omega arith in ap (λ (n : ℕ). web_of (set_temps (pre ++ replicate n Undefined) m) x) e
params_at (v ∷ vs) pre zero m x le = absurd (omega (arith, le))
params_at (v ∷ vs) pre (suc k) m x le =
    let put : slice_set (pre ++ Undefined ∷ replicate k Undefined) (length pre) v ≡ (pre ++ v ∷ []) ++ replicate k Undefined = put_behind pre Undefined v (replicate k Undefined) ∙ sym (append_assoc pre (v ∷ []) (replicate k Undefined)) in
    let count : suc (length pre) ≡ length (pre ++ v ∷ []) = omega (arith, length-append pre (v ∷ [])) in
    let less : k - length vs ≡ suc k - suc (length vs) = omega arith in
    ap (λ (ts : List Value). with_parameters (suc (length pre)) vs (web_of (set_temps ts m) x)) put
    ∙ ap (λ (n : ℕ). with_parameters n vs (web_of (set_temps ((pre ++ v ∷ []) ++ replicate k Undefined) m) x)) count
    ∙ params_at vs (pre ++ v ∷ []) k m x (omega (arith, le))
    ∙ ap (λ (ts : List Value). web_of (set_temps ts m) x) (append_assoc pre (v ∷ []) (vs ++ replicate (k - length vs) Undefined) ∙ ap (λ (n : ℕ). pre ++ v ∷ (vs ++ replicate n Undefined)) less)
