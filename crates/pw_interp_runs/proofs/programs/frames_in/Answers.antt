use Rattle.std.proofs.Common.{◌∙◌}
use Rattle.std.proofs.lemmas.Result.{IfOk-weaker}
use Rattle.pw_image.specs.Loading.{map_of}
use Rattle.pw_interp_runs.proofs.FrameLemmas.{frames_found, no_fault}
use Rattle.pw_interp_runs.proofs.programs.frames_in.Goals as goal

pub returns-in-Ok : goal.returns-in-Ok
returns-in-Ok c = IfOk-weaker c.frames_of_map.result _ _ (λ frames is k held. is ∙ frames_found c.args.image.now c.in-Ok.found c.in-Ok.ensures.only k held) c.frames_of_map.ensures

pub unreachable-requires : goal.unreachable-requires
unreachable-requires c =
    let held = c.requires in
    absurd (no_fault c.in-Err-LoadFault.field-0 c.in-Err-LoadFault.field-0-0 (map_of held.0.value) c.in-Err-LoadFault.field-0-is (c.in-Err-LoadFault.ensures.only held.0 held.1))
