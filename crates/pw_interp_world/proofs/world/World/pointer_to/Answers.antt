use Rattle.std.proofs.Common.{◌∙◌}
use Rattle.pw_interp_world.specs.Views.{view_program}
use Rattle.pw_interp_world.proofs.LookupLemmas.{denoted_from}
use Rattle.pw_interp_world.proofs.world.World.pointer_to.Goals as goal

pub returns : goal.returns
returns c = denoted_from (view_program c.args.self.now.parts.now) c.args.name.now c.args.offset c.args.self.now.globals c.args.self.now.functions _ _ c.args.self.now.objects c.args.self.now.named (c.deref.ensures.value ∙ c.args.self.now.numbered) c.denoted.ensures
