use Rattle.std.proofs.Common.{sym, ap, ◌∙◌, Some, option_map}
use Rattle.pw_interp_calls.specs.Functions.{callable_of}
use Rattle.pw_interp_calls.specs.WorldViews.{view_world}
use Rattle.pw_interp.proofs.RunLaws.{no_library_main}
use Rattle.pw_interp.proofs.run.main_of.Goals as goal

pub returns-in-Library : goal.returns-in-Library
returns-in-Library c =
    no_library_main (view_world c.args.world.now).program _ (sym (ap (option_map callable_of) (c.in_ok-body.was ∙ ap Some c.in-Library.is)) ∙ c.function_named.ensures)
