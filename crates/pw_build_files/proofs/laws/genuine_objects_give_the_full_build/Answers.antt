use Rattle.pw_store_modules.specs.Modules.{modules_of, names_of_modules}
use Rattle.pw_build_files.specs.Building.{kept_objects}
use Rattle.pw_build_files.proofs.GenuineLemmas.{kept_genuine}
use Rattle.pw_build_files.proofs.NameLemmas.{names_are}
use Rattle.pw_build_files.proofs.laws.genuine_objects_give_the_full_build.Goals as goal

pub returns : goal.returns
returns c = λ files opts a keeps builds.
    c.genuine_objects_give_the_full_build.ensures (modules_of files) (kept_objects files) opts a (kept_genuine files (names_of_modules files) (names_are (record { keys = c.names.ensures.exact; modules = c.modules_are_exact.ensures.exact }) files) keeps) builds
