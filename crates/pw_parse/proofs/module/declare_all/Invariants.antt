use Rattle.std.proofs.Common.{◌≡◌, ◌++◌, map, take}
use Rattle.pw_parse_cursor.specs.CursorViews.{view_binding}
use Rattle.pw_parse.proofs.module.declare_all.Given as goal

abbrev pub invariant-loop-binding : goal.invariant-loop-binding
invariant-loop-binding l = l.tokens ≡ record l.fn.tokens { names = l.fn.tokens.names ++ map view_binding (take l.binding-index l.bindings) }
