use Rattle.std.proofs.Common.{◌≡◌, length, sym, arith}
use Rattle.std.specs.List.{All}
use Rattle.pw_cpp_expand.proofs.Results.{waits-none, waits-some}
use Rattle.pw_cpp_expand.proofs.expansion.waiting_of.Goals as goal

pub returns-then-len-parameters-clause-waits : goal.returns-then-len-parameters-clause-waits
returns-then-len-parameters-clause-waits c = λ known.
    waits-none c.args.source.now known c.args.parameters.now c.args.replacement.now c.args.arguments c.given-arguments.result (c.given-arguments.ensures.named known) (omega arith)

pub used_of-requires : goal.used_of-requires
used_of-requires c = omega arith

pub returns-clause-waits : goal.returns-clause-waits
returns-clause-waits c = λ known.
    waits-some c.args.source.now known c.args.parameters.now c.args.replacement.now c.args.arguments c.given-arguments.result c.in_ok-used.used (c.given-arguments.ensures.named known) (omega arith)
    (c.in_ok-used.ensures.waits known)

pub returns-clause-known : goal.returns-clause-known
returns-clause-known c = λ known h. c.in_ok-used.ensures.known known (c.given-arguments.ensures.known known h)
