use Rattle.std.proofs.Common.{◌≡◌, List, map, sym, ap, ◌∙◌}
use Rattle.pw_object.specs.declared.functions.ObjectFn.{ObjectFn}
use Rattle.pw_debug.specs.declared.info.FrameInfo.{FrameInfo}
use Rattle.pw_debug_frames.specs.Frames.{known_as, made_as}
use Rattle.pw_debug_frames.proofs.MadeLaws.{made_frames, named_alike}
use Rattle.pw_debug_frames.proofs.laws.made_objects_have_their_frames.Goals as goal

pub returns-clause-frames : goal.returns-clause-frames
returns-clause-frames c = made_frames c.flow_graphs_and_files_are_one_to_one.ensures.one_module c.databases_and_payloads_are_one_to_one.ensures.one_database c.directives_are_one.ensures

pub returns-clause-named : goal.returns-clause-named
returns-clause-named c = λ flow directives o frames of_module is known.
    let same = made_frames c.flow_graphs_and_files_are_one_to_one.ensures.one_module c.databases_and_payloads_are_one_to_one.ensures.one_database c.directives_are_one.ensures flow directives o frames of_module is known in
    ap (λ (fs : List FrameInfo). map known_as fs) same ∙ named_alike flow.functions directives ∙ ap (λ (fs : List ObjectFn). map made_as fs) (sym is.functions)
