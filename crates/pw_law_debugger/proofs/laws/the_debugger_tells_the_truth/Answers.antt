use Rattle.std.specs.Prelude.{Ok}
use Rattle.std.proofs.Common.{subst}
use Rattle.pw_io.specs.Files.{Files}
use Rattle.pw_store_modules.specs.Modules.{module_map}
use Rattle.pw_build_files.specs.Building.{BuildOutcome}
use Rattle.pw_law_debugger.proofs.Answered.{truth}
use Rattle.pw_law_debugger.proofs.laws.the_debugger_tells_the_truth.Goals as goal

pub returns : goal.returns
returns c = λ files shown opts k input effect p are genuine bytes seen of where_is done.
    let plain = c.modules_of_files_have_plain_names.ensures shown in
    let kept = c.genuine_objects_are_seen.ensures files shown seen genuine in
    let same = c.files_are_seen_in_one_way.ensures files where_is.1.0 shown where_is.1.1 seen in
    truth shown opts k input effect
    (λ parts builds. c.genuine_objects_give_the_full_build.ensures shown opts.build (Ok parts) kept builds)
    (λ outcome build. c.genuine_objects_give_the_full_image.ensures shown opts.build (Ok outcome) kept build)
    c.images_and_files_are_one_to_one.ensures.one_image p
    (λ parts frames build frames_are defined.
    c.full_builds_tell_the_truth.ensures (module_map shown) opts.build parts p frames k opts.budget input build of plain are frames_are bytes defined)
    done where_is.0 (subst (λ (fs : Files). BuildOutcome fs opts.build where_is.0) same where_is.1.2) where_is.2
