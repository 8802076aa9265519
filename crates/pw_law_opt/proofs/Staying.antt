-- A sound pass that may leave functions as they are is sound.
use Rattle.std.specs.Prelude.{ℕ, ◌≡◌, ◌≤◌, ◌⊎◌, true, false, Option, Some, List, [], ◌∷◌, length, slice_get}
use Rattle.std.proofs.Common.{refl, sym, ap, subst, ◌∙◌, inl, inr}
use Rattle.pw_value.specs.declared.value.Value.{Value}
use Rattle.pw_value.specs.Objects.{Object}
use Rattle.pw_flow.specs.declared.flow.Op.{Op}
use Rattle.pw_flow.specs.declared.flow.End.{End}
use Rattle.pw_flow.specs.declared.flow.Block.{Block}
use Rattle.pw_flow.specs.declared.flow.FlowFn.{FlowFn}
use Rattle.pw_flow.specs.Uses.{op_calls, op_defines}
use Rattle.pw_run_languages.specs.Programs.{Program}
use Rattle.pw_run_languages.specs.Commands.{command}
use Rattle.pw_run_languages.specs.FlowRun.{start_temps}
use Rattle.pw_law_opt.specs.Deeds.{Deed, deed, value, got, with_result, Way, To, way}
use Rattle.pw_law_opt.specs.Sides.{Left, left}
use Rattle.pw_law_opt.specs.Passes.{Pass, Meets, taken_out, done_too, CallsToo, EntersToo, IsSound}

abbrev pub Stays : FlowFn → List Block → Type 0
Stays f bs = (bs ≡ f.blocks) × (f.params ≤ f.temps)

abbrev pub StaysAt : FlowFn → List Block → Left → Left → Type 0
StaysAt f bs x y = (bs ≡ f.blocks) × (y ≡ x)

abbrev pub or_stays : Pass → Pass
or_stays w = record { pairs = λ f bs. w.pairs f bs ⊎ Stays f bs; at = λ f bs x y. w.at f bs x y ⊎ StaysAt f bs x y }

module _ (w : Pass) (s : IsSound w) where
  abbrev At : FlowFn → List Block → Left → Left → Type 0
  At f bs x y = w.at f bs x y ⊎ StaysAt f bs x y

  params_fit : (f : FlowFn) (bs : List Block) → w.pairs f bs ⊎ Stays f bs → f.params ≤ f.temps
  params_fit f bs (inl pair) = s.params f bs pair
  params_fit f bs (inr stays) = stays.1

  meets_either : (p : Program) (base : ℕ) (objects : List Object) (f : FlowFn) (bs : List Block) (ops : List Op) (end : End) (ts : List Value) (d : Deed) (y : Left)
      → Meets p base objects (w.at f bs) ops end ts d y → Meets p base objects (At f bs) ops end ts d y
  meets_either p base objects f bs ops end ts d y (taken_out t v e a) = taken_out t v e (inl a)
  meets_either p base objects f bs ops end ts d y (done_too o rest e c does a) = done_too o rest e c does (inl a)

  ops_meet : (p : Program) (base : ℕ) (objects : List Object) (f : FlowFn) (bs : List Block) (o : Op) (ops : List Op) (end : End) (ts : List Value) (y : Left) (d : Deed)
      → At f bs (left (o ∷ ops) end ts) y → op_calls o ≡ false → deed p objects (command p base o (value ts)) ≡ Some d → Meets p base objects (At f bs) ops end ts d y
  ops_meet p base objects f bs o ops end ts y d (inl a) c does = meets_either p base objects f bs ops end ts d y (s.ops p base objects f bs o ops end ts y d a c does)
  ops_meet p base objects f bs o ops end ts y d (inr a) c does =
      done_too o ops (ap (λ (l : Left). l.ops) a.1) c (subst (λ (l : Left). deed p objects (command p base o (value l.temps)) ≡ Some d) (sym a.1) does)
      (inr (a.0, ap (λ (l : Left). left ops l.end (got d l.temps)) a.1))

  calls_meet : (p : Program) (base : ℕ) (f : FlowFn) (bs : List Block) (o : Op) (ops : List Op) (end : End) (ts : List Value) (y : Left)
      → At f bs (left (o ∷ ops) end ts) y → op_calls o ≡ true → CallsToo p base (At f bs) o ops end ts y
  calls_meet p base f bs o ops end ts y (inl a) c =
      let k = s.calls p base f bs o ops end ts y a c in
      record { op = k.op; rest = k.rest; is = k.is; asks = k.asks; behind = λ v. inl (k.behind v) }
  calls_meet p base f bs o ops end ts y (inr a) c = record {
    op = o;
    rest = ops;
    is = ap (λ (l : Left). l.ops) a.1;
    asks = ap (λ (l : Left). command p base o (value l.temps)) a.1;
    behind = λ v. inr (a.0, ap (λ (l : Left). left ops l.end (with_result (op_defines o) v l.temps)) a.1);
  }

  ends_meet : (objects : List Object) (f : FlowFn) (bs : List Block) (end : End) (ts : List Value) (y : Left) (k : Way)
      → At f bs (left [] end ts) y → way objects end (value ts) ≡ Some k → (y.ops ≡ []) × (way objects y.end (value y.temps) ≡ Some k)
  ends_meet objects f bs end ts y k (inl a) is = s.ends objects f bs end ts y k a is
  ends_meet objects f bs end ts y k (inr a) is = (ap (λ (l : Left). l.ops) a.1, ap (λ (l : Left). way objects l.end (value l.temps)) a.1 ∙ is)

  enters_either : (f : FlowFn) (bs : List Block) (ts us : List Value) (block : Block) (other : Option Block) → EntersToo (w.at f bs) ts us block other → EntersToo (At f bs) ts us block other
  enters_either f bs ts us block other k = record { entered = k.entered; is = k.is; at_front = inl k.at_front }

  onward_meet : (objects : List Object) (f : FlowFn) (bs : List Block) (end : End) (ts : List Value) (y : Left) (b : ℕ) (block : Block)
      → At f bs (left [] end ts) y → way objects end (value ts) ≡ Some (To b) → slice_get f.blocks b ≡ Some block → EntersToo (At f bs) ts y.temps block (slice_get bs b)
  onward_meet objects f bs end ts y b block (inl a) is there = enters_either f bs ts y.temps block (slice_get bs b) (s.onward objects f bs end ts y b block a is there)
  onward_meet objects f bs end ts y b block (inr a) is there = record {
    entered = block;
    is = ap (λ (l : List Block). slice_get l b) a.0 ∙ there;
    at_front = inr (a.0, ap (λ (l : Left). left block.ops block.end l.temps) a.1);
  }

  start_meets : (f : FlowFn) (bs : List Block) (args : List Value) (block : Block)
      → w.pairs f bs ⊎ Stays f bs → length args ≤ f.temps → slice_get f.blocks 0 ≡ Some block → EntersToo (At f bs) (start_temps f args) (start_temps f args) block (slice_get bs 0)
  start_meets f bs args block (inl pair) fits there = enters_either f bs (start_temps f args) (start_temps f args) block (slice_get bs 0) (s.start f bs args block pair fits there)
  start_meets f bs args block (inr stays) fits there = record {
    entered = block;
    is = ap (λ (l : List Block). slice_get l 0) stays.0 ∙ there;
    at_front = inr (stays.0, refl);
  }

  pub stays_sound : IsSound (or_stays w)
  stays_sound = record {
    params = params_fit;
    ops = ops_meet;
    calls = calls_meet;
    ends = ends_meet;
    onward = onward_meet;
    start = start_meets;
  }
