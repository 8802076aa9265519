-- A function that becomes active: its slots are new objects, its arguments stand in its first temporaries, and no local is
-- in scope.
use Rattle.std.proofs.Common.{◌≡◌, ℕ, zero, suc, ◌+◌, ◌-◌, ◌<◌, ◌≤◌, true, false, true≢false, Option, Some, None, List, [], ◌∷◌, ◌++◌, length, replicate, slice_index_or, inl, inr, refl, ap, ap₂, sym, ◌∙◌, subst, arith, length-append}
use Rattle.std.proofs.lemmas.Bool.{cases_lt}
use Rattle.std.proofs.lemmas.List.{get_or_append_left, get_or-append-add, get_or_past, length-replicate}
use Rattle.pw_value.specs.declared.value.Value.{Value}
use Rattle.pw_value.specs.declared.value.Value.TheVariants as V
use Rattle.pw_value.specs.declared.value.Byte.TheVariants as B
use Rattle.pw_value.specs.Objects.{Object, no_object, object_at}
use Rattle.pw_types.specs.TypedTrees.{FunctionValue}
use Rattle.pw_flow.specs.declared.flow.Op.{Op}
use Rattle.pw_flow.specs.declared.flow.Block.{Block}
use Rattle.pw_lower.specs.Modules.{lowered_function}
use Rattle.pw_cmean.specs.Worlds.{ProgramModule, World, full_name}
use Rattle.pw_cmean.specs.Acts.{State, called}
use Rattle.pw_run.specs.Runs.{also}
use Rattle.pw_run_languages.specs.Programs.{block_at}
use Rattle.pw_run_languages.specs.FlowRun.{Machine, value_in, with_slots, counted, entered}
use Rattle.pw_law_refine.specs.Standing.{Spot, Stands, Holds, MemoryStands}
use Rattle.pw_law_refine.specs.Activations.{Activation, number_of, graph_of}
use Rattle.pw_law_refine.specs.Matching.{Matches, IsFrameOf, IsSlotAt, Related}
use Rattle.pw_law_refine.specs.Containing.{IsAt}
use Rattle.pw_law_refine.specs.Calls.{EachStands, FirstStand, none_in_scope}
use Rattle.pw_law_refine_calls.proofs.Moments.{moment-keeps}

-- ---- objects

-- one that lives is there
pub is-there : (objects : List Object) (o : ℕ) → (object_at objects o).live ≡ true → o < length objects
is-there objects o live = elim (cases_lt o (length objects)) [
  | inl less ↦ less
  | inr more ↦ absurd (true≢false (sym live ∙ ap (λ (x : Object). x.live) (get_or_past objects o no_object more)))
]

pub not-past : (objects : List Object) (o : ℕ) → length objects ≤ o → (object_at objects o).live ≡ false
not-past objects o more = ap (λ (x : Object). x.live) (get_or_past objects o no_object more)

-- a new slot of a size
abbrev slot : ℕ → Object
slot size = record { bytes = replicate size B.Undefined; live = true; writable = true }

pub slots-count : (sizes : List ℕ) (objects : List Object) → length (with_slots sizes objects) ≡ length objects + length sizes
slots-count [] objects = let e : length objects ≡ length objects + 0 = omega arith in e
slots-count (size ∷ sizes) objects =
    let more : length (objects ++ slot size ∷ []) ≡ length objects + 1 = length-append objects (slot size ∷ []) in
    let rest = slots-count sizes (objects ++ slot size ∷ []) in
    let e : length (with_slots sizes (objects ++ slot size ∷ [])) ≡ length objects + suc (length sizes) = omega (arith, more, rest) in e

pub slots-leave : (sizes : List ℕ) (objects : List Object) (f : ℕ) → f < length objects → object_at (with_slots sizes objects) f ≡ object_at objects f
slots-leave [] objects f h = refl
slots-leave (size ∷ sizes) objects f h =
    slots-leave sizes (objects ++ slot size ∷ []) f (omega (arith, h, length-append objects (slot size ∷ [])))
    ∙ get_or_append_left objects (slot size ∷ []) no_object f h

slots-there : (sizes : List ℕ) (objects : List Object) (n : ℕ) → n < length sizes → object_at (with_slots sizes objects) (length objects + n) ≡ slot (slice_index_or sizes n 0)
slots-there [] objects n h = absurd (omega (arith, h))
slots-there (size ∷ sizes) objects zero h =
    slots-leave sizes (objects ++ slot size ∷ []) (length objects + 0) (omega (arith, length-append objects (slot size ∷ [])))
    ∙ get_or-append-add objects (slot size ∷ []) 0 no_object
slots-there (size ∷ sizes) objects (suc n) h =
    let next : length objects + suc n ≡ length (objects ++ slot size ∷ []) + n = omega (arith, length-append objects (slot size ∷ [])) in
    ap (λ (k : ℕ). object_at (with_slots sizes (objects ++ slot size ∷ [])) k) next
    ∙ slots-there sizes (objects ++ slot size ∷ []) n (omega (arith, h))

pub memory-entered : (spots : List Spot) (objects kept : List Object) (sizes : List ℕ) → MemoryStands spots objects kept → MemoryStands spots objects (with_slots sizes kept)
memory-entered spots objects kept sizes m = record {
  count = m.count;
  holds = λ o f size live there.
      let h = m.holds o f size live there in
      subst (λ (y : Object). Holds spots size (object_at objects o) y) (sym (slots-leave sizes kept f (is-there kept f h.live))) h;
  apart = m.apart;
}

-- ---- arguments

pub same-count : (spots : List Spot) (vs ws : List Value) → EachStands spots vs ws → length ws ≡ length vs
same-count spots [] [] h = refl
same-count spots [] (w ∷ ws) h = absurd h
same-count spots (v ∷ vs) [] h = absurd h
same-count spots (v ∷ vs) (w ∷ ws) h = ap (λ (n : ℕ). suc n) (same-count spots vs ws h.1)

first-stand :
    (spots : List Spot) (t : ℕ) (vs ws : List Value) (m : Machine) → EachStands spots vs ws
    → ((i : ℕ) → i < length ws → value_in m.frame (t + i) ≡ slice_index_or ws i V.Undefined) → FirstStand spots t vs m
first-stand spots t [] [] m h same = tt
first-stand spots t [] (w ∷ ws) m h same = absurd h
first-stand spots t (v ∷ vs) [] m h same = absurd h
first-stand spots t (v ∷ vs) (w ∷ ws) m h same =
    let here : t ≡ t + 0 = omega arith in (
      subst (λ (u : Value). Stands spots v u) (sym (ap (λ (k : ℕ). value_in m.frame k) here ∙ same 0 (omega arith))) h.0,
      first-stand spots (suc t) vs ws m h.1 (λ i lt.
          (let next : suc t + i ≡ t + suc i = omega arith in
          ap (λ (k : ℕ). value_in m.frame k) next ∙ same (suc i) (omega (arith, lt)))),
    )

-- ---- locals

none-there : (count k o : ℕ) → number_of (replicate count None) k ≡ Some o → ⊥
none-there zero k o e = absurd (cc)
none-there (suc count) zero o e = absurd (cc)
none-there (suc count) (suc k) o e = none-there count k o e

pub none-scoped : (x : Activation) (k o : ℕ) → number_of (none_in_scope x) k ≡ Some o → ⊥
none-scoped x k o e = none-there (length x.function.locals) k o e

-- ---- the activation

-- the function of a module that is called from a machine with what is left of its block, for a result
abbrev pub activated : World → ProgramModule → FunctionValue → Option ℕ → List Op → Machine → Activation
activated world home f r rest m = record {
  world = world;
  home = home;
  function = f;
  base = length m.objects;
  result = r;
  callers = record m.frame { ops = rest } ∷ m.callers;
}

-- the machine at its beginning
abbrev pub entering : Activation → Block → Option ℕ → List Op → List Value → Machine → Machine
entering x b r rest ws m = counted (entered (graph_of x) b r ws (record m { frame = record m.frame { ops = rest } }))

pub graph-named : (home : ProgramModule) (f : FunctionValue) → (lowered_function home.name home.tree.records f).name ≡ full_name home.name f.name
unfolding lowered_function
graph-named home f = refl

pub graph-takes : (home : ProgramModule) (f : FunctionValue) → (lowered_function home.name home.tree.records f).params ≡ f.params
unfolding lowered_function
graph-takes home f = refl

module _ (world : World) (home : ProgramModule) (f : FunctionValue) (spots : List Spot) (b : Block) (r : Option ℕ) (rest : List Op) (vs ws : List Value) (s : State) (m : Machine) (h : Matches world spots s m) where
  abbrev x : Activation
  x = activated world home f r rest m

  abbrev n : Machine
  n = entering x b r rest ws m

  abbrev t : State
  t = called (full_name home.name f.name) s

  matches : Matches world spots t n
  unfolding called
  matches = record {
    memory = memory-entered spots s.objects m.objects (graph_of x).slots h.memory;
    globals = h.globals;
    input = h.input;
    shows = record {
      output = h.shows.output;
      read = h.shows.read;
      log = also _ _ _ _ (graph-named home f, moment-keeps world spots s m h) h.shows.log;
    };
    active = ap₂ (λ (name : List ℕ) (names : List (List ℕ)). name ∷ names) (sym (graph-named home f)) h.active;
    bytes = record { objects = h.bytes.objects; input = h.bytes.input };
    small = h.small;
  }

  slot-at : (k : ℕ) → k < length (graph_of x).slots → IsSlotAt x n k
  slot-at k lt =
      let there = slots-there (graph_of x).slots m.objects k lt in
      record {
        live = ap (λ (y : Object). y.live) there;
        size = ap (λ (y : Object). length y.bytes) there ∙ length-replicate (slice_index_or (graph_of x).slots k 0) B.Undefined;
      }

  frame : length ws ≤ (graph_of x).temps → IsFrameOf x (none_in_scope x) spots t n
  unfolding called
  frame few = record {
    function = refl;
    base = refl;
    result = refl;
    callers = refl;
    temps = length-append ws (replicate ((graph_of x).temps - length ws) V.Undefined)
        ∙ (let rest = length-replicate ((graph_of x).temps - length ws) V.Undefined in
        let e : length ws + length (replicate ((graph_of x).temps - length ws) V.Undefined) ≡ (graph_of x).temps = omega (arith, few, rest) in e);
    scope = length-replicate (length f.locals) None;
    locals = λ k o e. absurd (none-scoped x k o e);
    apart = λ j k o e g. absurd (none-scoped x j o e);
    slots = slot-at;
    owned = λ o k size live there less.
        let held = h.memory.holds o (length m.objects + k) size live there in
        absurd (true≢false (sym held.live ∙ not-past m.objects (length m.objects + k) (omega arith)));
  }

  pub enters-related : length ws ≤ (graph_of x).temps → Related x (none_in_scope x) spots t n
  enters-related few = record { matches = matches; frame = frame few }

  pub enters-with : EachStands spots vs ws → FirstStand spots 0 vs n
  enters-with stand = first-stand spots 0 vs ws n stand (λ i lt.
      (let at : 0 + i ≡ i = omega arith in
      ap (λ (k : ℕ). value_in n.frame k) at ∙ get_or_append_left ws (replicate ((graph_of x).temps - length ws) V.Undefined) V.Undefined i lt))

  pub enters-at : block_at (graph_of x) 0 ≡ Some b → IsAt (graph_of x) 0 [] n
  enters-at there = record { block = b; there = there; here = refl; ops = refl; end = refl }
