-- Each turn sets one more file.
use Rattle.std.proofs.Common.{◌<◌, length, take, arith}
use Rattle.std.proofs.lemmas.List.{take_more}
use Rattle.pw_io.proofs.KeptFiles.{files_of-more}
use Rattle.pw_io.proofs.kept.kept_files.Goals as goal

pub loop-name-preserved : goal.loop-name-preserved
loop-name-preserved c =
    let within : c.loop-name.name-index < length c.args.files.now = omega arith in
    let more = take_more c.args.files.now c.loop-name.name-index c.loop-name-item.result within in
    let all = files_of-more (take c.loop-name.name-index c.args.files.now) c.loop-name-item.result in
    let item = c.loop-name-item.is in
    let set = c.in_ok-set_file.ensures.ok in
    let name = c.as_str.ensures.value in
    let bytes = c.as_slice.ensures.value in
    let inv = c.loop-name.invariant in
    cc
