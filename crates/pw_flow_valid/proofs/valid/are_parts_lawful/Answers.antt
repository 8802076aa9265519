use Rattle.std.specs.List.{flat_map}
use Rattle.pw_flow.specs.FlowGraph.{names_in_global, names_in_function}
use Rattle.pw_value.specs.ProgramNames.{IsOrdinary}
use Rattle.pw_flow.specs.ValidFlow.{IsGlobal, IsFunction}
use Rattle.pw_flow.proofs.Lists.{lawful, all_append, all_left, all_right}
use Rattle.pw_flow_valid.proofs.valid.are_parts_lawful.Goals as goal

pub returns-then-are_globals : goal.returns-then-are_globals
returns-then-are_globals c =
    let m = c.args.flow.now in
    let one = lawful IsGlobal names_in_global IsOrdinary m.globals in
    let two = lawful IsFunction names_in_function IsOrdinary m.functions in
    let globals = rw c.as_slice.ensures at c.are_globals.ensures in
    let functions = rw c.as_slice-then-are_globals.ensures at c.are_functions.ensures in
    let gs = flat_map names_in_global m.globals in
    let fs = flat_map names_in_function m.functions in (
      λ b.
          let g = one.0 (globals.0 c.if-are_globals.true) in
          let f = two.0 (functions.0 b) in
          record { globals = g.0; functions = f.0; ordinary = all_append IsOrdinary gs fs g.1 f.1 },
      λ h. functions.1 (two.1 (h.functions, all_right IsOrdinary gs fs h.ordinary)),
    )

pub returns-else-are_globals : goal.returns-else-are_globals
returns-else-are_globals c =
    let m = c.args.flow.now in
    let one = lawful IsGlobal names_in_global IsOrdinary m.globals in
    let globals = rw c.as_slice.ensures at c.are_globals.ensures in
    let gs = flat_map names_in_global m.globals in
    let fs = flat_map names_in_function m.functions in
    (λ b. absurd cc, λ h. globals.1 (one.1 (h.globals, all_left IsOrdinary gs fs h.ordinary)))
