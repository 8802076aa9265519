-- When the run of functions with other blocks follows the run of the functions.
use Rattle.std.specs.Prelude.{ℕ, ◌≡◌, ◌≤◌, true, false, Option, Some, List, [], ◌∷◌, length, slice_get, slice_set}
use Rattle.std.specs.List.{flat_map}
use Rattle.pw_value.specs.declared.value.Value.{Value}
use Rattle.pw_value.specs.Objects.{Object}
use Rattle.pw_flow.specs.declared.flow.Op.{Op}
use Rattle.pw_flow.specs.declared.flow.End.{End}
use Rattle.pw_flow.specs.declared.flow.Block.{Block}
use Rattle.pw_flow.specs.declared.flow.FlowFn.{FlowFn}
use Rattle.pw_flow.specs.declared.flow.FlowModule.{FlowModule}
use Rattle.pw_flow.specs.Uses.{op_calls, op_defines}
use Rattle.pw_run.specs.Runs as run
use Rattle.pw_run_languages.specs.Programs.{Program, functions_of, globals_of}
use Rattle.pw_run_languages.specs.Commands.{command}
use Rattle.pw_run_languages.specs.FlowRun.{Step, On, Stopped, Astray, start_temps, step}
use Rattle.pw_opt_rules.specs.Rewriting.{with_blocks}
use Rattle.pw_law_opt.specs.Deeds.{Deed, Gets, deed, value, got, Way, To, way}
use Rattle.pw_law_opt.specs.Sides.{Left, left, Active, Twin, first_side, second_side, getting}

-- A pass: which blocks a function may have in the second program, and how what is left in one run stands to what is left in
-- the other.
pub record Pass : Type 1 where
  pub pairs : FlowFn → List Block → Type 0
  pub at : FlowFn → List Block → Left → Left → Type 0

-- ---- what a pass owes

-- What an operation of the first run does, which leaves these operations: it was taken out of the second run, or another one
-- does the same there.
pub data Meets (p : Program) (base : ℕ) (objects : List Object) (at : Left → Left → Type 0) (ops : List Op) (end : End) (ts : List Value) (d : Deed) (y : Left) : Type 0 where
  taken_out : (t : ℕ) (v : Value) → d ≡ Gets t v → at (left ops end (slice_set ts t v)) y → Meets p base objects at ops end ts d y
  done_too : (o : Op) (rest : List Op) → y.ops ≡ o ∷ rest → op_calls o ≡ false → deed p objects (command p base o (value y.temps)) ≡ Some d
      → at (left ops end (got d ts)) (left rest y.end (got d y.temps)) → Meets p base objects at ops end ts d y

-- a call of the first run is one of the second
pub record CallsToo (p : Program) (base : ℕ) (at : Left → Left → Type 0) (o : Op) (ops : List Op) (end : End) (ts : List Value) (y : Left) : Type 0 where
  pub op : Op
  pub rest : List Op
  pub is : y.ops ≡ op ∷ rest
  pub asks : command p base op (value y.temps) ≡ command p base o (value ts)
  pub behind : (v : Value) → at (getting (op_defines o) v (left ops end ts)) (getting (op_defines o) v (left rest y.end y.temps))

-- the first run enters a block, and the second the one of this number
pub record EntersToo (at : Left → Left → Type 0) (ts us : List Value) (block : Block) (other : Option Block) : Type 0 where
  pub entered : Block
  pub is : other ≡ Some entered
  pub at_front : at (left block.ops block.end ts) (left entered.ops entered.end us)

pub record IsSound (w : Pass) : Type 0 where
  pub params : (f : FlowFn) (bs : List Block) → w.pairs f bs → f.params ≤ f.temps
  pub ops : (p : Program) (base : ℕ) (objects : List Object) (f : FlowFn) (bs : List Block) (o : Op) (ops : List Op) (end : End) (ts : List Value) (y : Left) (d : Deed)
      → w.at f bs (left (o ∷ ops) end ts) y → op_calls o ≡ false → deed p objects (command p base o (value ts)) ≡ Some d → Meets p base objects (w.at f bs) ops end ts d y
  pub calls : (p : Program) (base : ℕ) (f : FlowFn) (bs : List Block) (o : Op) (ops : List Op) (end : End) (ts : List Value) (y : Left)
      → w.at f bs (left (o ∷ ops) end ts) y → op_calls o ≡ true → CallsToo p base (w.at f bs) o ops end ts y
  pub ends : (objects : List Object) (f : FlowFn) (bs : List Block) (end : End) (ts : List Value) (y : Left) (k : Way)
      → w.at f bs (left [] end ts) y → way objects end (value ts) ≡ Some k → (y.ops ≡ []) × (way objects y.end (value y.temps) ≡ Some k)
  pub onward : (objects : List Object) (f : FlowFn) (bs : List Block) (end : End) (ts : List Value) (y : Left) (b : ℕ) (block : Block)
      → w.at f bs (left [] end ts) y → way objects end (value ts) ≡ Some (To b) → slice_get f.blocks b ≡ Some block → EntersToo (w.at f bs) ts y.temps block (slice_get bs b)
  pub start : (f : FlowFn) (bs : List Block) (args : List Value) (block : Block)
      → w.pairs f bs → length args ≤ f.temps → slice_get f.blocks 0 ≡ Some block → EntersToo (w.at f bs) (start_temps f args) (start_temps f args) block (slice_get bs 0)

-- ---- programs

pub data ArePaired (w : Pass) : List FlowFn → List FlowFn → Type 0 where
  none : ArePaired w [] []
  also : (f : FlowFn) (bs : List Block) (fs gs : List FlowFn) → w.pairs f bs → ArePaired w fs gs → ArePaired w (f ∷ fs) (with_blocks f bs ∷ gs)

pub record Follows (w : Pass) (p : Program) (ms : List FlowModule) : Type 0 where
  pub globals : flat_map (λ m. m.globals) ms ≡ globals_of p
  pub functions : ArePaired w (functions_of p) (flat_map (λ m. m.functions) ms)

-- ---- states

pub record Runs (w : Pass) (a : Active) : Type 0 where
  pub pair : w.pairs a.function a.blocks
  pub at : w.at a.function a.blocks a.first a.second

-- one that waits for a result, whatever that is
pub record Waits (w : Pass) (t : Option ℕ) (a : Active) : Type 0 where
  pub pair : w.pairs a.function a.blocks
  pub at : (v : Value) → w.at a.function a.blocks (getting t v a.first) (getting t v a.second)

abbrev pub AllWait : Pass → Option ℕ → List Active → Type 0
AllWait w t [] = Unit {0}
AllWait w t (a ∷ callers) = Waits w t a × AllWait w a.result callers

pub record IsAlike (w : Pass) (x : Twin) : Type 0 where
  pub frame : Runs w x.frame
  pub callers : AllWait w x.frame.result x.callers

pub record IsReady (w : Pass) (t : Option ℕ) (x : Twin) : Type 0 where
  pub frame : Waits w t x.frame
  pub callers : AllWait w x.frame.result x.callers

-- ---- steps

-- Both go on to states that are alike, or stop alike; or the first goes astray.
pub data Both (w : Pass) (s t : Step) : Type 0 where
  goes : (x : Twin) → s ≡ On (first_side x) → t ≡ On (second_side x) → IsAlike w x → Both w s t
  stops : (e : run.End) (x : Twin) → s ≡ Stopped e (first_side x) → t ≡ Stopped e (second_side x) → Both w s t
  strays : s ≡ Astray → Both w s t

-- The first run makes a step: the second makes one too, or stays.
pub data Steps (w : Pass) (q : Program) (x : Twin) (s : Step) : Type 0 where
  together : Both w s (step q (second_side x)) → Steps w q x s
  alone : (y : Twin) → s ≡ On (first_side y) → second_side y ≡ second_side x → IsAlike w y → Steps w q x s
