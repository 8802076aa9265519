use Rattle.pw_build_files.specs.FromBuild.Full.{built_anew}
use Rattle.pw_commands_interp.proofs.BuildLemmas.{over_anew}
use Rattle.pw_commands_interp.proofs.laws.genuine_objects_run_as_the_full_build.Goals as goal

pub returns : goal.returns
returns c = λ files opts input effect keeps d.
    let p = d.1 in
    let full = c.genuine_objects_give_the_full_build.ensures p.0 opts.build p.2.0 (c.genuine_objects_are_seen.ensures files p.0 p.1 keeps) p.2.1 in
    (d.0, (p.0, p.1, built_anew p.2.0, full, over_anew p.0 opts input p.2.0 d.0 p.2.2), d.2)
