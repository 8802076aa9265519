use Rattle.std.proofs.Common.{◌≡◌, drop, map}
use Rattle.pw_cpp_expand.specs.AtHand.{argument_named}
use Rattle.pw_cpp_expand.specs.Expansion.{argument_of}
use Rattle.pw_cpp_expand.proofs.result.argument_of.Given as goal
use Rattle.pw_cpp_sets.specs.Sets.{Known}

-- what is left gives the answer
abbrev pub invariant-loop-argument : goal.invariant-loop-argument
invariant-loop-argument l = (known : Known) →
    argument_of (map (argument_named l.source known) (drop l.argument-index l.arguments)) l.name ≡ argument_of (map (argument_named l.source known) l.arguments) l.name
