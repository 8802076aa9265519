use Rattle.std.proofs.Common.{◌≡◌, ◌+◌, drop}
use Rattle.pw_lower.specs.Codes.{numbered}
use Rattle.pw_lower.proofs.code.Code.name_blocks.Given as goal

-- what is left is still to be named
abbrev pub invariant-loop-label : goal.invariant-loop-label
invariant-loop-label l =
    (numbered l.block (drop l.label-index l.labels) l.blocks.items ≡ numbered l.first l.labels l.initial.blocks.items)
    × (l.block ≡ l.first + l.label-index)
