use Rattle.std.proofs.Common.{ap, ◌∙◌}
use Rattle.pw_cpp_macros.specs.Macros.{find}
use Rattle.pw_cpp_macros.proofs.TableLaws.{find-said}
use Rattle.pw_cpp_macros.proofs.table.Macros.find.Goals as goal

pub returns : goal.returns
returns c = c.get.ensures.value ∙ find-said c.self.inside.table.entries c.args.name ∙ ap (λ macros. find macros c.args.name.now) c.self.view_is
