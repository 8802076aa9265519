-- Where temporaries are at home: in a block that has them for itself and defines them before it reads them, or everywhere.
use Rattle.std.specs.Prelude.{ℕ, suc, ◌==◌, if◌then◌else◌, Option, None, Some, List, [], ◌∷◌, replicate, slice_set, slice_index_or}
use Rattle.pw_flow.specs.declared.flow.Op.{Op}
use Rattle.pw_flow.specs.declared.flow.Block.{Block}
use Rattle.pw_flow.specs.declared.flow.FlowFn.{FlowFn}
use Rattle.pw_flow.specs.Uses.{op_uses, op_defines, end_uses}
use Rattle.pw_opt_places.specs.declared.homes.Home.{Home}
use Rattle.pw_opt_places.specs.declared.homes.Home.TheVariants.{Nowhere, At, Everywhere}

abbrev pub home_of : List Home → ℕ → Home
home_of homes t = slice_index_or homes t Nowhere

-- a block reads it
abbrev pub home_read : ℕ → Home → Home
home_read b (At c) = if c == b then At c else Everywhere
home_read b Nowhere = Everywhere
home_read b Everywhere = Everywhere

-- a block defines it
abbrev pub home_defined : ℕ → Home → Home
home_defined b Nowhere = At b
home_defined b (At c) = if c == b then At c else Everywhere
home_defined b Everywhere = Everywhere

abbrev pub with_read : ℕ → List Home → ℕ → List Home
with_read b homes t = slice_set homes t (home_read b (home_of homes t))

abbrev pub with_reads : ℕ → List Home → List ℕ → List Home
with_reads b homes [] = homes
with_reads b homes (t ∷ ts) = with_reads b (with_read b homes t) ts

abbrev pub with_defined : ℕ → List Home → Option ℕ → List Home
with_defined b homes None = homes
with_defined b homes (Some t) = slice_set homes t (home_defined b (home_of homes t))

abbrev pub with_op : ℕ → List Home → Op → List Home
with_op b homes o = with_defined b (with_reads b homes (op_uses o)) (op_defines o)

abbrev pub with_ops : ℕ → List Home → List Op → List Home
with_ops b homes [] = homes
with_ops b homes (o ∷ ops) = with_ops b (with_op b homes o) ops

abbrev pub with_block : ℕ → List Home → Block → List Home
with_block b homes block = with_reads b (with_ops b homes block.ops) (end_uses block.end)

-- blocks, of which the first has this number
abbrev pub with_blocks : ℕ → List Home → List Block → List Home
with_blocks b homes [] = homes
with_blocks b homes (block ∷ blocks) = with_blocks (suc b) (with_block b homes block) blocks

-- those of the temporaries of a function
abbrev pub homes_of : FlowFn → List Home
homes_of f = with_blocks 0 (replicate f.temps Nowhere) f.blocks
