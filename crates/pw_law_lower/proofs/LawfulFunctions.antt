-- A flow graph that stays in range and within bounds is lawful.
use Rattle.std.proofs.Common.{◌≡◌, ℕ, ◌+◌, ◌*◌, ◌≤◌, List, [], ◌∷◌, length, arith}
use Rattle.std.proofs.lemmas.List.Sums.{sum_by-cons}
use Rattle.std.specs.Prelude.{sum_by}
use Rattle.std.specs.List.{AllByRecursion}
use Rattle.pw_value.specs.Limits.{room_limit}
use Rattle.pw_flow.specs.declared.flow.Op.{Op}
use Rattle.pw_flow.specs.declared.flow.Op.TheVariants.{Const, Bin, AddrGlobal, AddrSlot, AddrFn, LoadG, StoreG, Store, Move, Call, CallInd}
use Rattle.pw_flow.specs.declared.flow.Block.{Block}
use Rattle.pw_flow.specs.declared.flow.FlowFn.{FlowFn}
use Rattle.pw_flow.specs.FrameRooms.{flow_room}
use Rattle.pw_value.specs.Rounding.{slot_room}
use Rattle.pw_flow.specs.ValidFlow.{IsOp, IsBlock, IsFunction, rooms}
use Rattle.pw_law_lower.specs.Bounds.{IsBounded, IsBlockBounded, IsFunctionBounded}
use Rattle.pw_law_lower.specs.Ranges.{IsInRange, IsBlockInRange, IsFunctionInRange}

both : {X : Type 0} (P Q R : X → Type 0) (xs : List X) → ((x : X) → P x → Q x → R x) → AllByRecursion P xs → AllByRecursion Q xs → AllByRecursion R xs
both P Q R [] f h i = tt
both P Q R (x ∷ xs) f h i = (f x h.0 i.0, both P Q R xs f h.1 i.1)

lawful_op : (temps slots : ℕ) (o : Op) → IsInRange temps slots o → IsBounded o → IsOp temps slots o
lawful_op temps slots (Const t n) h i = (h.1, i)
lawful_op temps slots (Bin k t a b) h i = (h.1, h.0.0, h.0.1.0)
lawful_op temps slots (AddrGlobal t g n) h i = (h.1, i)
lawful_op temps slots (AddrSlot t s) h i = (h.1, h.2.0)
lawful_op temps slots (AddrFn t f) h i = h.1
lawful_op temps slots (LoadG t g k) h i = h.1
lawful_op temps slots (StoreG g a k) h i = h.0.0
lawful_op temps slots (Store k a b) h i = (h.0.0, h.0.1.0)
lawful_op temps slots (Move a b size unit) h i = (h.0.0, h.0.1.0, i)
lawful_op temps slots (Call t f args) h i = (h.1, record { few = i; below = h.0 })
lawful_op temps slots (CallInd t a shape args) h i = (h.1, h.0.0, record { few = i; below = h.0.1 })
lawful_op temps slots o h i = (h.1, h.0.0)

lawful_block : (temps slots blocks : ℕ) (b : Block) → IsBlockInRange temps slots blocks b → IsBlockBounded b → IsBlock temps slots blocks b
lawful_block temps slots blocks b h i = record {
  depth = i.depth;
  ops = both (IsInRange temps slots) IsBounded (IsOp temps slots) b.ops (lawful_op temps slots) h.ops i.ops;
  end = h.end;
}

-- the frame without the arguments
rooms_sum : (room : ℕ) (slots : List ℕ) → rooms room slots ≡ room + sum_by slot_room slots
rooms_sum room [] = omega arith
rooms_sum room (size ∷ rest) = omega (arith, rooms_sum (room + slot_room size) rest, sum_by-cons slot_room size rest)

pub lawful_function : (f : FlowFn) → IsFunctionInRange f → IsFunctionBounded f → flow_room f ≤ room_limit → IsFunction f
lawful_function f h i r = record {
  few = record { few_params = i.params; params = h.params; room = omega (arith, r, rooms_sum (4 * f.temps) f.slots); start = h.start };
  blocks = both (IsBlockInRange f.temps (length f.slots) (length f.blocks)) IsBlockBounded (IsBlock f.temps (length f.slots) (length f.blocks)) f.blocks
      (lawful_block f.temps (length f.slots) (length f.blocks)) h.blocks i.blocks;
}
