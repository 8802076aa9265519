-- What holds of all operations of a module's functions holds of those of its optimised form, where it holds of every constant
-- and says nothing of operands.
use Rattle.std.specs.Prelude.{ℕ, Bool, true, false, if◌then◌else◌, List, [], ◌∷◌, map}
use Rattle.std.specs.List.{AllByRecursion}
use Rattle.std.proofs.Common.{sym, subst}
use Rattle.pw_flow.specs.declared.flow.Op.{Op}
use Rattle.pw_flow.specs.declared.flow.Op.TheVariants as op
use Rattle.pw_flow.specs.declared.flow.Block.{Block}
use Rattle.pw_flow.specs.declared.flow.FlowFn.{FlowFn}
use Rattle.pw_flow.specs.declared.flow.FlowModule.{FlowModule}
use Rattle.pw_flow.specs.Outline.{Outline, outline_of}
use Rattle.pw_opt_rules.specs.declared.flat.Flat.{Flat}
use Rattle.pw_opt_rules.specs.Rewriting.{Rewriting, rewritten_ops, rewritten_blocks, IsRewritten}
use Rattle.pw_opt_rules.specs.Constants.{constant_op, constants}
use Rattle.pw_opt_rules.specs.Copies.{original, with_operands, copies}
use Rattle.pw_opt_rules.specs.Dead.{is_dead, live_ops, live_block}
use Rattle.pw_opt_rules.specs.Optimised.{IsOptimised, stays, steps, AreOptimised, none, also}
use Rattle.pw_opt_rules.proofs.Folding.{folded_holds}

pub record SaysNothingOfOperands (R : Op → Type 0) : Type 0 where
  pub constants : (t n : ℕ) → R (op.Const t n)
  pub operands : (h : ℕ → ℕ) (o : Op) → R o → R (with_operands h o)

-- it holds of all operations of a block, and of a function
abbrev pub AllOps : (Op → Type 0) → Block → Type 0
AllOps R b = AllByRecursion R b.ops

abbrev pub AllBlocks : (Op → Type 0) → FlowFn → Type 0
AllBlocks R f = AllByRecursion (AllOps R) f.blocks

module _ (R : Op → Type 0) (k : SaysNothingOfOperands R) where
  -- ---- rewritings

  module _ (w : Rewriting) (keeps : (row : List Flat) (o : Op) → R o → R (w.op row o)) where
    ops_hold : (row : List Flat) (ops : List Op) → AllByRecursion R ops → AllByRecursion R (rewritten_ops w row ops)
    ops_hold row [] all = tt
    ops_hold row (o ∷ ops) all = (keeps row o all.0, ops_hold (w.transfer row o) ops all.1)

    blocks_hold : (rows : List (List Flat)) (bs : List Block) → AllByRecursion (AllOps R) bs → AllByRecursion (AllOps R) (rewritten_blocks w rows bs)
    blocks_hold rows [] all = tt
    blocks_hold [] (b ∷ bs) all = (ops_hold [] b.ops all.0, blocks_hold [] bs all.1)
    blocks_hold (row ∷ rows) (b ∷ bs) all = (ops_hold row b.ops all.0, blocks_hold rows bs all.1)

    rewritten_hold : (f g : FlowFn) → IsRewritten w f g → AllBlocks R f → AllBlocks R g
    rewritten_hold f g r all = subst (AllBlocks R) (sym r.is) (blocks_hold r.rows f.blocks all)

  constant_holds : (row : List Flat) (o : Op) → R o → R (constant_op row o)
  constant_holds row o h = folded_holds R row o h (λ t n defines calls. k.constants t n)

  -- ---- dead operations

  live_hold : (m : FlowModule) (f : Outline) (b : Block) (ops : List Op) → AllByRecursion R ops → AllByRecursion R (live_ops m f b ops)
  live_hold m f b [] all = tt
  live_hold m f b (o ∷ ops) all = by_test (is_dead m f b o ops) (live_hold m f b ops all.1) where
    by_test : (c : Bool) → AllByRecursion R (live_ops m f b ops) → AllByRecursion R (if c then live_ops m f b ops else o ∷ live_ops m f b ops)
    by_test true rest = rest
    by_test false rest = (all.0, rest)

  live_blocks_hold : (m : FlowModule) (f : Outline) (bs : List Block) → AllByRecursion (AllOps R) bs → AllByRecursion (AllOps R) (map (live_block m f) bs)
  live_blocks_hold m f [] all = tt
  live_blocks_hold m f (b ∷ bs) all = (live_hold m f b b.ops all.0, live_blocks_hold m f bs all.1)

  -- ---- functions

  pub function_holds : (m : FlowModule) (f g : FlowFn) → IsOptimised m f g → AllBlocks R f → AllBlocks R g
  function_holds m f g (stays large) all = all
  function_holds m f g (steps h i small r s) all =
      live_blocks_hold m (outline_of i) i.blocks
      (rewritten_hold copies (λ row o holds. k.operands (original row) o holds) h i s (rewritten_hold constants constant_holds f h r all))

  pub functions_hold : (m : FlowModule) (fs gs : List FlowFn) → AreOptimised m fs gs → AllByRecursion (AllBlocks R) fs → AllByRecursion (AllBlocks R) gs
  functions_hold m fs gs none all = tt
  functions_hold m fs gs (also f g more others o rest) all = (function_holds m f g o all.0, functions_hold m more others rest all.1)
