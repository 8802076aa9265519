use Rattle.std.proofs.Common.{take}
use Rattle.std.specs.List.{flat_map}
use Rattle.pw_cpp_expand.specs.Numbered.{IsMade}
use Rattle.pw_cpp_expand.proofs.Results.{becomes}
use Rattle.pw_cpp_expand.proofs.result.result_of.Given as goal

-- so many tokens of the replacement are in their places
abbrev pub invariant-loop-token : goal.invariant-loop-token
invariant-loop-token l =
    IsMade l.initial.sets l.sets l.made (flat_map (becomes l.source l.initial.sets l.replaced.hidden l.replaced.place l.arguments) (take l.token-index l.replacement))
