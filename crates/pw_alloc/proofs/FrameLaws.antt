-- Laws of frames.
use Rattle.std.proofs.Common.{◌≡◌, ℕ, ◌+◌, ◌*◌, ◌≤◌, ◌<◌, ◌^◌, max, List, [], ◌∷◌, ◌++◌, length, ap, ◌∙◌, arith}
use Rattle.std.specs.Prelude.{slice_index_or}
use Rattle.std.specs.List.{flat_map, AllByRecursion}
use Rattle.pw_value.specs.Limits.{parameter_limit}
use Rattle.pw_db.specs.Limits.{register_count}
use Rattle.pw_flow.specs.ValidFlow.{rooms}
use Rattle.pw_flow.proofs.Rooms.{grows}
use Rattle.pw_flow.specs.declared.flow.Op.TheVariants as op
use Rattle.pw_webflow.specs.declared.web.WebOp.TheVariants.{Flow}
use Rattle.pw_webflow.specs.declared.web.WebFn.{WebFn}
use Rattle.pw_webflow.specs.ValidWebs.{IsWebOp, IsWebBlock, IsWebFn}
use Rattle.pw_webflow.specs.declared.web.WebOp.{WebOp}
use Rattle.pw_webflow.specs.declared.web.WebBlock.{WebBlock}
use Rattle.pw_alloc.specs.Frames.{argument_count, most_arguments, ops_of, head_size, slots_begin, last_reach}
use Rattle.pw_value.specs.Rounding.{slot_room}

pub most_arguments-append : (xs ys : List WebOp) → most_arguments (xs ++ ys) ≡ max (most_arguments xs) (most_arguments ys)
most_arguments-append [] ys = omega arith
most_arguments-append (x ∷ xs) ys = let e = most_arguments-append xs ys in omega arith

-- the calls of a block and those of the blocks behind it
pub block_more : (least most : ℕ) (b : WebBlock) (rest : List WebBlock) → most ≡ max least (most_arguments b.ops) → max most (most_arguments (flat_map (λ b. b.ops) rest)) ≡ max least (most_arguments (flat_map (λ b. b.ops) (b ∷ rest)))
block_more least most b rest h = let e = most_arguments-append b.ops (flat_map (λ b. b.ops) rest) in omega arith

pub last_reach_above : (at : ℕ) (slots : List ℕ) → at ≤ last_reach at slots
last_reach_above at [] = omega arith
last_reach_above at (size ∷ slots) = let h = last_reach_above (at + slot_room size) slots in omega arith

pub next_fits : (at : ℕ) (slots : List ℕ) → 0 < length slots → last_reach at slots < 2 ^ 31 → at + slot_room (slice_index_or slots 0 0) < 2 ^ 31
next_fits at [] h k = absurd (omega arith)
next_fits at (size ∷ slots) h k = let a = last_reach_above (at + slot_room size) slots in omega arith

-- slots reach as far as their room is
pub reach_of_rooms : (at room : ℕ) (slots : List ℕ) → last_reach at slots + room ≡ rooms room slots + at
reach_of_rooms at room [] = omega arith
reach_of_rooms at room (size ∷ slots) =
    let h = reach_of_rooms (at + slot_room size) (room + slot_room size) slots in omega arith

-- ---- the calls of a lawful function have few arguments

few_of_op : (f : WebFn) (o : WebOp) → IsWebOp f o → argument_count o ≤ parameter_limit
few_of_op f (Flow (op.Call t g args)) h = h.1.few
few_of_op f (Flow (op.CallInd t a shape args)) h = h.2.few
few_of_op f _ h = omega arith

few_of_ops : (f : WebFn) (ops : List WebOp) → AllByRecursion (IsWebOp f) ops → most_arguments ops ≤ parameter_limit
few_of_ops f [] h = omega arith
few_of_ops f (o ∷ rest) h =
    let here = few_of_op f o h.0 in let there = few_of_ops f rest h.1 in omega arith

few_of_blocks : (f : WebFn) (blocks : List WebBlock) → AllByRecursion (IsWebBlock f) blocks → most_arguments (flat_map (λ b. b.ops) blocks) ≤ parameter_limit
few_of_blocks f [] h = omega arith
few_of_blocks f (b ∷ rest) h =
    let here = few_of_ops f b.ops h.0.ops in let there = few_of_blocks f rest h.1 in
    let e = most_arguments-append b.ops (flat_map (λ b. b.ops) rest) in omega arith

pub few_arguments : (f : WebFn) → IsWebFn f → most_arguments (ops_of f) ≤ parameter_limit
few_arguments f h = few_of_blocks f f.blocks h.blocks

-- ---- frames fit

pub record Fits (f : WebFn) (saved temps : ℕ) : Type 0 where
  pub words : head_size f + 4 * saved + 4 * temps < 2 ^ 21
  pub reach : last_reach (slots_begin (head_size f) saved temps) f.slots < 2 ^ 21

pub frame_fits : (f : WebFn) (saved temps : ℕ) → IsWebFn f → saved ≤ register_count → temps ≤ f.temps → Fits f saved temps
frame_fits f saved temps h few below =
    let args = few_arguments f h in
    let room = grows (4 * f.temps) f.slots in
    let all = h.room in
    let e = reach_of_rooms (slots_begin (head_size f) saved temps) (4 * f.temps) f.slots in
    record { words = omega arith; reach = omega arith }

pub frame_reach : (f : WebFn) (begin head saved temps : ℕ) (slots : List ℕ) → IsWebFn f → begin ≡ slots_begin head saved temps → head ≡ head_size f → saved ≤ register_count → temps ≤ f.temps → slots ≡ f.slots
    → last_reach begin slots < 2 ^ 31
frame_reach f begin head saved temps slots h b e few below s =
    let fits = frame_fits f saved temps h few below in
    let start : begin ≡ slots_begin (head_size f) saved temps = b ∙ ap (λ n. slots_begin n saved temps) e in
    let same : last_reach begin slots ≡ last_reach (slots_begin (head_size f) saved temps) f.slots = λ i. last_reach (start i) (s i) in
    omega arith
