-- Uses and definitions: which temporaries an operation and the end of a block read, which one an operation writes,
-- and where a block goes on. What is said of liveness, of calls and of ranges is said in these words.
use Rattle.std.specs.Prelude.{ℕ, Bool, true, false, Option, Some, None, List, [], ◌∷◌}
use Rattle.pw_flow.specs.declared.flow.Op.{Op}
use Rattle.pw_flow.specs.declared.flow.Op.TheVariants as op
use Rattle.pw_flow.specs.declared.flow.End.{End}
use Rattle.pw_flow.specs.declared.flow.End.TheVariants.{Jump, Branch, Return}

-- the temporaries that an operation reads, each operand by itself
abbrev pub op_uses : Op → List ℕ
op_uses (op.Const t n) = []
op_uses (op.Copy t a) = a ∷ []
op_uses (op.Un k t a) = a ∷ []
op_uses (op.Bin k t a b) = a ∷ b ∷ []
op_uses (op.Ext k t a) = a ∷ []
op_uses (op.AddrGlobal t g n) = []
op_uses (op.AddrSlot t s) = []
op_uses (op.AddrFn t f) = []
op_uses (op.LoadG t g k) = []
op_uses (op.StoreG g a k) = a ∷ []
op_uses (op.Load k t a) = a ∷ []
op_uses (op.Store k a b) = a ∷ b ∷ []
op_uses (op.Move a b size unit) = a ∷ b ∷ []
op_uses (op.Call t f args) = args
op_uses (op.CallInd t a shape args) = a ∷ args

-- the temporary that it writes
abbrev pub op_defines : Op → Option ℕ
op_defines (op.Const t n) = Some t
op_defines (op.Copy t a) = Some t
op_defines (op.Un k t a) = Some t
op_defines (op.Bin k t a b) = Some t
op_defines (op.Ext k t a) = Some t
op_defines (op.AddrGlobal t g n) = Some t
op_defines (op.AddrSlot t s) = Some t
op_defines (op.AddrFn t f) = Some t
op_defines (op.LoadG t g k) = Some t
op_defines (op.StoreG g a k) = None
op_defines (op.Load k t a) = Some t
op_defines (op.Store k a b) = None
op_defines (op.Move a b size unit) = None
op_defines (op.Call t f args) = t
op_defines (op.CallInd t a shape args) = t

-- the slots whose address it takes
abbrev pub op_slots : Op → List ℕ
op_slots (op.AddrSlot t s) = s ∷ []
op_slots _ = []

-- whether it calls a function, by its name or through a value
abbrev pub op_calls : Op → Bool
op_calls (op.Call t f args) = true
op_calls (op.CallInd t a shape args) = true
op_calls _ = false

-- the temporaries that the end of a block reads
abbrev pub end_uses : End → List ℕ
end_uses (Jump b) = []
end_uses (Branch a b c) = a ∷ []
end_uses (Return None) = []
end_uses (Return (Some a)) = a ∷ []

-- the blocks at which it may go on
abbrev pub successors : End → List ℕ
successors (Jump b) = b ∷ []
successors (Branch a b c) = b ∷ c ∷ []
successors (Return t) = []
