use Rattle.std.specs.Prelude.{map, string_bytes}
use Rattle.pw_client.proofs.Saying.{says_hi}
use Rattle.pw_client.proofs.go_hello.Goals as goal

pub returns : goal.returns
returns g c =
    says_hi c.hello_says_hi.ensures c.full_builds_have_a_program.ensures.one c.images_and_files_are_one_to_one.ensures.one_image c.phase_one_is_exact.ensures
    c.hello_is_a_module.ensures.tree c.hello_is_a_module.ensures.typed c.commands_are_within.ensures
    (map string_bytes c.args.words.now) _ _ _ _ _ _ c.pawc_top.result c.pawc_top.ensures.streams_left c.pawc_top.ensures.does
