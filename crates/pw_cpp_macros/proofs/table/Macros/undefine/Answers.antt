use Rattle.std.proofs.Common.{ap, map, ◌∙◌}
use Rattle.pw_cpp_macros.specs.Macros.{without}
use Rattle.pw_cpp_macros.proofs.TableLaws.{said, without-said}
use Rattle.pw_cpp_macros.proofs.table.Macros.undefine.Goals as goal

pub returns : goal.returns
returns c = ap (map said) c.shift_remove.ensures.entries ∙ without-said c.self.inside.table.entries c.args.name ∙ ap (λ macros. without macros c.args.name.now) c.self.view_is
