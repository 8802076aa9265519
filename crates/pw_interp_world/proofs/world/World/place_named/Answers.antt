use Rattle.pw_interp_world.specs.Views.{view_program}
use Rattle.pw_interp_world.proofs.LookupLemmas.{named_from}
use Rattle.pw_interp_world.proofs.world.World.place_named.Goals as goal

pub returns : goal.returns
returns c = named_from (view_program c.args.self.now.parts.now) c.args.name.now c.args.self.now.functions c.position.result c.args.self.now.named c.position.ensures
