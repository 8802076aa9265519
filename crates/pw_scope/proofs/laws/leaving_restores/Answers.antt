use Rattle.std.proofs.Common.{ap}
use Rattle.std.proofs.Math.Seq.{take-append_seam}
use Rattle.pw_scope.specs.Visible.{visible}
use Rattle.pw_scope.proofs.laws.leaving_restores.Goals as goal

pub returns : goal.returns
returns g c = λ outer inner name. ap (λ scope. visible scope name) (take-append_seam outer inner)
