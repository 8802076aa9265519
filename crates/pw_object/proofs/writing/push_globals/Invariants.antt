use Rattle.std.proofs.Common.{◌≡◌, ◌++◌, ◌<◌, ℕ, get_or, take}
use Rattle.std.specs.List.{flat_map}
use Rattle.pw_flow.specs.declared.flow.FlowGlobal.{FlowGlobal}
use Rattle.pw_flowfile.specs.FlowFile.{global, FitsGlobal}
use Rattle.pw_object.proofs.writing.push_globals.Given as goal

abbrev pub invariant-loop-global : goal.invariant-loop-global
invariant-loop-global l = record {
  written : l.out.items ≡ l.fn.out.items ++ flat_map (global l.names) (take l.global-index l.globals);
  fits : (k : ℕ) → k < l.global-index → (d : FlowGlobal) → FitsGlobal (get_or l.globals k d);
}
