-- The outline of a lawful flow graph is lawful.
use Rattle.std.proofs.Common.{ℕ, ◌<◌, List, [], ◌∷◌, length, map, sym, subst}
use Rattle.std.specs.Prelude.{None, Some, IfSome}
use Rattle.std.specs.List.{AllByRecursion}
use Rattle.std.proofs.lemmas.List.{length-map}
use Rattle.pw_flow.specs.declared.flow.Op.{Op}
use Rattle.pw_flow.specs.declared.flow.Op.TheVariants as op
use Rattle.pw_flow.specs.declared.flow.End.{End}
use Rattle.pw_flow.specs.declared.flow.End.TheVariants.{Jump, Branch, Return}
use Rattle.pw_flow.specs.declared.flow.Block.{Block}
use Rattle.pw_flow.specs.declared.flow.FlowFn.{FlowFn}
use Rattle.pw_flow.specs.Uses.{op_uses, op_defines, end_uses, successors}
use Rattle.pw_flow.specs.Outline.{act_of, stretch_of, outline_of}
use Rattle.pw_flow.specs.ValidFlow.{IsOp, IsEnd, IsBlock, IsFunction}
use Rattle.pw_live_fronts.specs.Blocks.{IsAct, IsStretch, IsOutline}

abbrev pub Below : ℕ → List ℕ → Type 0
Below temps ts = AllByRecursion (λ t. t < temps) ts

pub op_reads : (temps slots : ℕ) (o : Op) → IsOp temps slots o → Below temps (op_uses o)
op_reads temps slots (op.Const t n) is = tt
op_reads temps slots (op.Bin k t a b) is = (is.1, (is.2, tt))
op_reads temps slots (op.AddrGlobal t g n) is = tt
op_reads temps slots (op.AddrSlot t s) is = tt
op_reads temps slots (op.AddrFn t f) is = tt
op_reads temps slots (op.LoadG t g k) is = tt
op_reads temps slots (op.StoreG g a k) is = (is, tt)
op_reads temps slots (op.Store k a b) is = (is.0, (is.1, tt))
op_reads temps slots (op.Move a b size unit) is = (is.0, (is.1, tt))
op_reads temps slots (op.Call t f args) is = is.1.below
op_reads temps slots (op.CallInd t a shape args) is = (is.1, is.2.below)
op_reads temps slots _ is = (is.1, tt)

pub op_writes : (temps slots : ℕ) (o : Op) → IsOp temps slots o → IfSome (op_defines o) (λ t. t < temps)
op_writes temps slots (op.AddrFn t f) is = is
op_writes temps slots (op.LoadG t g k) is = is
op_writes temps slots (op.StoreG g a k) is = tt
op_writes temps slots (op.Store k a b) is = tt
op_writes temps slots (op.Move a b size unit) is = tt
op_writes temps slots _ is = is.0

acts_are : (temps slots : ℕ) (ops : List Op) → AllByRecursion (IsOp temps slots) ops → AllByRecursion (IsAct temps) (map act_of ops)
acts_are temps slots [] all = tt
acts_are temps slots (o ∷ ops) all = (record { defines = op_writes temps slots o all.0; uses = op_reads temps slots o all.0 }, acts_are temps slots ops all.1)

pub end_reads : (temps blocks : ℕ) (e : End) → IsEnd temps blocks e → Below temps (end_uses e)
end_reads temps blocks (Jump b) is = tt
end_reads temps blocks (Branch a b c) is = (is.0, tt)
end_reads temps blocks (Return None) is = tt
end_reads temps blocks (Return (Some a)) is = (is, tt)

pub end_goes : (temps blocks : ℕ) (e : End) → IsEnd temps blocks e → AllByRecursion (λ b. b < blocks) (successors e)
end_goes temps blocks (Jump b) is = (is, tt)
end_goes temps blocks (Branch a b c) is = (is.1, (is.2, tt))
end_goes temps blocks (Return t) is = tt

stretches_are : (temps slots count : ℕ) (blocks : List Block) → AllByRecursion (IsBlock temps slots count) blocks → AllByRecursion (IsStretch temps count) (map stretch_of blocks)
stretches_are temps slots count [] all = tt
stretches_are temps slots count (b ∷ blocks) all =
    let one = all.0 in (
      record { acts = acts_are temps slots b.ops one.ops; uses = end_reads temps count b.end one.end; next = end_goes temps count b.end one.end },
      stretches_are temps slots count blocks all.1,
    )

pub outline_is : (f : FlowFn) → IsFunction f → IsOutline (outline_of f)
outline_is f is = record {
  params = is.few.params;
  blocks = subst (λ (n : ℕ). AllByRecursion (IsStretch f.temps n) (map stretch_of f.blocks)) (sym (length-map f.blocks stretch_of)) (stretches_are f.temps (length f.slots) (length f.blocks) f.blocks is.blocks);
}
