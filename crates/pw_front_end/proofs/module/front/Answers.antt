use Rattle.std.proofs.Common.{sym, ◌∙◌}
use Rattle.pw_tree.specs.Views.{view_module}
use Rattle.pw_front_end.proofs.FrontLaws.{front-only, fronts-as, only-answer}
use Rattle.pw_front_end.proofs.module.front.Goals as goal

pub returns-clause-fronts : goal.returns-clause-fronts
returns-clause-fronts c = fronts-as c.reading_is_exact.ensures view_module c.args.text.now c.fronted.result c.fronted.ensures

pub returns-clause-only : goal.returns-clause-only
returns-clause-only c = only-answer c.reading_is_exact.ensures view_module c.args.text.now c.fronted.result c.fronted.ensures

pub returns-clause-one : goal.returns-clause-one
returns-clause-one c = λ answer other h k. front-only c.reading_is_exact.ensures c.args.text.now answer h ∙ sym (front-only c.reading_is_exact.ensures c.args.text.now other k)
