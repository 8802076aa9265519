-- The frame of a function, below the stack pointer: its head, with the arguments of its calls behind the fourth; the
-- saved registers; the temporaries that stand in the frame; the slots.
use Rattle.std.specs.Prelude.{ℕ, ℤ, pos, neg_ℤ, ◌+◌, ◌-◌, ◌*◌, ◌/◌, max, List, [], ◌∷◌, length}
use Rattle.std.specs.List.{flat_map}
use Rattle.pw_value.specs.Rounding.{round8, slot_room}
use Rattle.pw_flow.specs.declared.flow.Op.TheVariants.{Call, CallInd}
use Rattle.pw_webflow.specs.declared.web.WebOp.{WebOp}
use Rattle.pw_webflow.specs.declared.web.WebOp.TheVariants.{Flow}
use Rattle.pw_webflow.specs.declared.web.WebFn.{WebFn}

-- the bytes of every frame that stand nearest to the stack pointer, without the arguments of calls behind the fourth
abbrev pub head_bytes : ℕ
head_bytes = 48

-- how far below the stack pointer of the caller the fifth argument of a call stands
abbrev pub first_stacked : ℕ
first_stacked = 52

-- how far below the stack pointer of the caller a function keeps the address that it returns to
abbrev pub link_place : ℕ
link_place = 20

abbrev pub argument_count : WebOp → ℕ
argument_count (Flow (Call t f args)) = length args
argument_count (Flow (CallInd t a shape args)) = length args
argument_count _ = 0

abbrev pub most_arguments : List WebOp → ℕ
most_arguments [] = 0
most_arguments (o ∷ rest) = max (argument_count o) (most_arguments rest)

abbrev pub ops_of : WebFn → List WebOp
ops_of f = flat_map (λ b. b.ops) f.blocks

-- what stands nearest to the stack pointer: the callee's, and the arguments of calls behind the fourth
abbrev pub head_size : WebFn → ℕ
head_size f = head_bytes + 4 * (most_arguments (ops_of f) - 4)

-- the offset of the word that ends so many bytes below the stack pointer
abbrev pub below : ℕ → ℤ
below n = neg_ℤ (pos n)

-- the offset of the saved register, and of the temporary in the frame, of a number
abbrev pub saved_offset : ℕ → ℕ → ℤ
saved_offset head i = below (head + 4 * (i + 1))

abbrev pub temp_offset : ℕ → ℕ → ℕ → ℤ
temp_offset head saved i = below (head + 4 * saved + 4 * (i + 1))

-- how far the slots reach
abbrev pub reaches_from : ℕ → List ℕ → List ℕ
reaches_from at [] = []
reaches_from at (size ∷ rest) = (at + slot_room size) ∷ reaches_from (at + slot_room size) rest

abbrev pub last_reach : ℕ → List ℕ → ℕ
last_reach at [] = at
last_reach at (size ∷ rest) = last_reach (at + slot_room size) rest

-- where the slots begin, with so many saved registers and so many temporaries in the frame
abbrev pub slots_begin : ℕ → ℕ → ℕ → ℕ
slots_begin head saved temps = round8 (head + 4 * saved + 4 * temps)
