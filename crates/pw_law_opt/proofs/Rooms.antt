-- Optimisation keeps the bound on a function's frame: temporaries, slots, and the arguments of each call stay.
use Rattle.std.specs.Prelude.{ℕ, ◌≡◌, ◌&&◌, max, Bool, true, false, not, if◌then◌else◌, List, [], ◌∷◌, ◌++◌, map}
use Rattle.std.specs.List.{flat_map}
use Rattle.std.proofs.Common.{refl, sym, ap, ap₂, ◌∙◌, arith}
use Rattle.std.proofs.lemmas.List.{length-map}
use Rattle.std.proofs.lemmas.List.Concat.{flat_map-cons}
use Rattle.pw_flow.specs.declared.flow.Op.{Op}
use Rattle.pw_flow.specs.declared.flow.Op.TheVariants as op
use Rattle.pw_flow.specs.declared.flow.Block.{Block}
use Rattle.pw_flow.specs.declared.flow.FlowFn.{FlowFn}
use Rattle.pw_flow.specs.declared.flow.FlowModule.{FlowModule}
use Rattle.pw_flow.specs.FrameRooms.{argument_count, most_arguments, frame_room, flow_room}
use Rattle.pw_flow.specs.Uses.{op_defines, op_calls}
use Rattle.pw_flow.specs.Outline.{Outline, outline_of}
use Rattle.pw_opt_rules.specs.declared.flat.Flat.{Flat}
use Rattle.pw_opt_rules.specs.Rewriting.{Rewriting, rewritten_ops, rewritten_block, rewritten_blocks, IsRewritten}
use Rattle.pw_opt_rules.specs.Constants.{constant_op, constants}
use Rattle.pw_opt_rules.specs.Copies.{original, with_operands, copies}
use Rattle.pw_opt_rules.specs.Dead.{only_defines, is_needed, is_dead, live_ops, live_block, without_dead}
use Rattle.pw_opt_rules.specs.Optimised.{stays, steps}
use Rattle.pw_opt_rules.proofs.Folding.{folded_holds}
use Rattle.pw_law_opt.specs.Laws.{OptimisationKeepsRooms}

abbrev ops_of : List Block → List Op
ops_of bs = flat_map (λ (b : Block). b.ops) bs

most_both : (xs ys : List Op) → most_arguments (xs ++ ys) ≡ max (most_arguments xs) (most_arguments ys)
most_both [] ys = omega arith
most_both (x ∷ xs) ys = let e = most_both xs ys in omega (arith, e)

most_block : (b : Block) (bs : List Block) → most_arguments (ops_of (b ∷ bs)) ≡ max (most_arguments b.ops) (most_arguments (ops_of bs))
most_block b bs = ap most_arguments (flat_map-cons (λ (b : Block). b.ops) b bs) ∙ most_both b.ops (ops_of bs)

by_blocks : (b c : Block) (bs cs : List Block) → most_arguments c.ops ≡ most_arguments b.ops → most_arguments (ops_of cs) ≡ most_arguments (ops_of bs)
    → most_arguments (ops_of (c ∷ cs)) ≡ most_arguments (ops_of (b ∷ bs))
by_blocks b c bs cs e f = most_block c cs ∙ ap₂ (λ (m n : ℕ). max m n) e f ∙ sym (most_block b bs)

-- ---- rewritings

module _ (w : Rewriting) (counts : (row : List Flat) (o : Op) → argument_count (w.op row o) ≡ argument_count o) where
  rewritten_most : (row : List Flat) (ops : List Op) → most_arguments (rewritten_ops w row ops) ≡ most_arguments ops
  rewritten_most row [] = refl
  rewritten_most row (o ∷ ops) = ap₂ (λ (m n : ℕ). max m n) (counts row o) (rewritten_most (w.transfer row o) ops)

  blocks_most : (rows : List (List Flat)) (blocks : List Block) → most_arguments (ops_of (rewritten_blocks w rows blocks)) ≡ most_arguments (ops_of blocks)
  blocks_most rows [] = refl
  blocks_most [] (b ∷ blocks) = by_blocks b (rewritten_block w [] b) blocks (rewritten_blocks w [] blocks) (rewritten_most [] b.ops) (blocks_most [] blocks)
  blocks_most (row ∷ rows) (b ∷ blocks) = by_blocks b (rewritten_block w row b) blocks (rewritten_blocks w rows blocks) (rewritten_most row b.ops) (blocks_most rows blocks)

  rewritten_room : (f g : FlowFn) → IsRewritten w f g → flow_room g ≡ flow_room f
  rewritten_room f g r = ap flow_room r.is ∙ ap (λ (n : ℕ). frame_room f.temps n f.slots) (blocks_most r.rows f.blocks)

none_called : (o : Op) → op_calls o ≡ false → argument_count o ≡ 0
none_called (op.Call t f args) e = absurd cc
none_called (op.CallInd t a shape args) e = absurd cc
none_called o e = refl

constant_counts : (row : List Flat) (o : Op) → argument_count (constant_op row o) ≡ argument_count o
constant_counts row o = folded_holds (λ (x : Op). argument_count x ≡ argument_count o) row o refl (λ t n defines calls. sym (none_called o calls))

operand_counts : (h : ℕ → ℕ) (o : Op) → argument_count (with_operands h o) ≡ argument_count o
operand_counts h (op.Call t f args) = length-map args h
operand_counts h (op.CallInd t a shape args) = length-map args h
operand_counts h o = refl

-- ---- dead operations

none_taken : (m : FlowModule) (o : Op) → only_defines m o ≡ true → argument_count o ≡ 0
none_taken m (op.Call t f args) e = absurd cc
none_taken m (op.CallInd t a shape args) e = absurd cc
none_taken m o e = refl

defines_alone : (x y : Bool) → (x && y) ≡ true → x ≡ true
defines_alone true y e = refl
defines_alone false y e = absurd cc

live_most : (m : FlowModule) (f : Outline) (b : Block) (ops : List Op) → most_arguments (live_ops m f b ops) ≡ most_arguments ops
live_most m f b [] = refl
live_most m f b (o ∷ ops) = by_test (is_dead m f b o ops) refl (live_most m f b ops) where
  by_test : (c : Bool) → is_dead m f b o ops ≡ c → most_arguments (live_ops m f b ops) ≡ most_arguments ops
      → most_arguments (if c then live_ops m f b ops else o ∷ live_ops m f b ops) ≡ max (argument_count o) (most_arguments ops)
  by_test true e rest = let none = none_taken m o (defines_alone (only_defines m o) (not (is_needed f b (op_defines o) ops)) e) in omega (arith, rest, none)
  by_test false e rest = ap (λ (n : ℕ). max (argument_count o) n) rest

all_live : (m : FlowModule) (f : Outline) (bs : List Block) → most_arguments (ops_of (map (live_block m f) bs)) ≡ most_arguments (ops_of bs)
all_live m f [] = refl
all_live m f (b ∷ bs) = by_blocks b (live_block m f b) bs (map (live_block m f) bs) (live_most m f b b.ops) (all_live m f bs)

live_room : (m : FlowModule) (f : FlowFn) → flow_room (without_dead m f) ≡ flow_room f
live_room m f = ap (λ (n : ℕ). frame_room f.temps n f.slots) (all_live m (outline_of f) f.blocks)

pub rooms_stay : OptimisationKeepsRooms
rooms_stay m f g (stays large) = refl
rooms_stay m f g (steps h k small r s) = live_room m k ∙ rewritten_room copies (λ row o. operand_counts (original row) o) h k s ∙ rewritten_room constants constant_counts f h r
