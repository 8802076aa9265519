use Rattle.std.proofs.Common.{◌≡◌, take}
use Rattle.pw_types.specs.Views.{view_types}
use Rattle.pw_check_types.proofs.copies.+copies.Given as goal

-- the types so far are copied
abbrev pub invariant-copy_qtypes-loop-q : goal.invariant-copy_qtypes-loop-q
invariant-copy_qtypes-loop-q l = view_types l.copies.items ≡ view_types (take l.q-index l.all)
