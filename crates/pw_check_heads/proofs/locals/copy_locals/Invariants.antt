use Rattle.std.proofs.Common.{◌≡◌, take}
use Rattle.pw_typed.specs.Views.{view_locals}
use Rattle.pw_check_heads.proofs.locals.copy_locals.Given as goal

-- those so far
abbrev pub invariant-loop-local : goal.invariant-loop-local
invariant-loop-local l = view_locals l.copies.items ≡ view_locals (take l.local-index l.locals)
