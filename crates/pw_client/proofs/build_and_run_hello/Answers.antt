use Rattle.std.specs.Prelude.{map, string_bytes}
use Rattle.pw_client.proofs.Running.{says_hi_behind}
use Rattle.pw_client.proofs.build_and_run_hello.Goals as goal

pub returns : goal.returns
returns g c =
    says_hi_behind c.hello_says_hi.ensures c.full_builds_have_a_program.ensures.one c.images_and_files_are_one_to_one.ensures.one_image c.phase_one_is_exact.ensures
    c.hello_is_a_module.ensures.tree c.hello_is_a_module.ensures.typed c.a_run_behind_a_build_is_go.ensures.go c.commands_are_within.ensures
    (map string_bytes c.args.build.now) (map string_bytes c.args.run.now) _ _ _ _ _ _ _ _ _ _ c.pawc_top-built.result c.pawc_top-ran.result
    c.pawc_top-built.ensures.builds c.pawc_top-built.ensures.does c.pawc_top-ran.ensures.does c.pawc_top-ran.ensures.store_after c.pawc_top-ran.ensures.streams_left
