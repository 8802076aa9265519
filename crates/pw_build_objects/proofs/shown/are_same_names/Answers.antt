use Rattle.std.proofs.Common.{sym, ◌∙◌}
use Rattle.pw_build_objects.proofs.ShownLaws.{same_views}
use Rattle.pw_build_objects.proofs.shown.are_same_names.Goals as goal

pub returns : goal.returns
returns c = λ t. same_views (λ name. name.now) c.args.names.now c.args.others.now (sym c.eq.ensures ∙ t)
