use Rattle.std.proofs.Common.{◌++◌}
use Rattle.std.specs.Prelude.{Contains}
use Rattle.std.specs.List.{flat_map}
use Rattle.pw_flow.specs.FlowGraph.{declared_names}
use Rattle.pw_flow.proofs.Lists.{all_left, all_right, unmapped}
use Rattle.pw_flowfile.specs.FlowFile.{all_in_global, all_in_function}
use Rattle.pw_flowfile.proofs.writing.push_module.Goals as goal

pub push_globals-requires-clause-stand : goal.push_globals-requires-clause-stand
push_globals-requires-clause-stand c =
    let m = c.args.flow.now in
    rw c.as_slice.ensures (all_left (Contains c.args.names.now) (flat_map all_in_global m.globals) (declared_names m ++ flat_map all_in_function m.functions) c.requires.stand.1)

pub push_shaped_list-requires-clause-stand : goal.push_shaped_list-requires-clause-stand
push_shaped_list-requires-clause-stand c =
    let m = c.args.flow.now in
    let behind = all_right (Contains c.args.names.now) (flat_map all_in_global m.globals) (declared_names m ++ flat_map all_in_function m.functions) c.requires.stand.1 in
    rw c.as_slice-2.ensures (unmapped (λ d. d.0) (Contains c.args.names.now) m.declared (all_left (Contains c.args.names.now) (declared_names m) (flat_map all_in_function m.functions) behind))

pub push_functions-requires-clause-stand : goal.push_functions-requires-clause-stand
push_functions-requires-clause-stand c =
    let m = c.args.flow.now in
    let behind = all_right (Contains c.args.names.now) (flat_map all_in_global m.globals) (declared_names m ++ flat_map all_in_function m.functions) c.requires.stand.1 in
    rw c.as_slice-3.ensures (all_right (Contains c.args.names.now) (declared_names m) (flat_map all_in_function m.functions) behind)
