-- The room of a function's frame.
use Rattle.std.specs.Prelude.{ℕ, ◌+◌, ◌*◌, max, List, [], ◌∷◌, length, sum_by}
use Rattle.std.specs.List.{flat_map}
use Rattle.pw_flow.specs.declared.flow.Op.{Op}
use Rattle.pw_flow.specs.declared.flow.Op.TheVariants.{Call, CallInd}
use Rattle.pw_flow.specs.declared.flow.FlowFn.{FlowFn}
use Rattle.pw_value.specs.Rounding.{slot_room}

-- What a frame has at most: 128 bytes, 4 for each temporary and for each argument of the call that has most, and
-- the slots.
abbrev pub frame_room : ℕ → ℕ → List ℕ → ℕ
frame_room temps arguments slots = 128 + 4 * temps + 4 * arguments + sum_by slot_room slots

-- the arguments of a call
abbrev pub argument_count : Op → ℕ
argument_count (Call t f args) = length args
argument_count (CallInd t a shape args) = length args
argument_count _ = 0

abbrev pub most_arguments : List Op → ℕ
most_arguments [] = 0
most_arguments (o ∷ rest) = max (argument_count o) (most_arguments rest)

abbrev pub flow_room : FlowFn → ℕ
flow_room f = frame_room f.temps (most_arguments (flat_map (λ b. b.ops) f.blocks)) f.slots
