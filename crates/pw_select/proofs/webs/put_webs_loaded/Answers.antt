use Rattle.std.proofs.Common.{◌++◌, rules, arith}
use Rattle.std.proofs.lemmas.Grind.{common_steps}
use Rattle.pw_db.specs.Limits.{first_register, register_count}
use Rattle.pw_select.specs.Selection.{entered_lines, loaded_web}
use Rattle.pw_select.proofs.Steps.{lines_more, lines_end}
use Rattle.pw_select.proofs.webs.put_webs_loaded.Goals as goal

pub loop-r-preserved : goal.loop-r-preserved
loop-r-preserved c =
    let step = lines_more loaded_web c.args.webs.now c.loop-r.r (omega arith) in
    grind (rules, arith, common_steps, step)

pub returns : goal.returns
returns c =
    lines_end loaded_web c.args.webs.now c.loop-r.r c.loop-r.out (c.args.out.now ++ entered_lines loaded_web c.args.webs.now first_register register_count) (omega arith) c.loop-r.invariant
