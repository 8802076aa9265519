use Rattle.std.proofs.Common.{◌∙◌}
use Rattle.pw_interp_world.specs.Views.{view_program}
use Rattle.pw_interp_world.proofs.LookupLemmas.{numbered_from}
use Rattle.pw_interp_world.proofs.world.World.place_numbered.Goals as goal

pub returns : goal.returns
returns c = numbered_from (view_program c.args.self.now.parts.now) c.args.number _ c.place_of_number.result (c.deref.ensures.value ∙ c.args.self.now.numbered) c.place_of_number.ensures
