use Rattle.std.proofs.Common.{◌≡◌, ◌+◌, drop, is_some}
use Rattle.std.specs.List.{position_from}
use Rattle.pw_token.specs.Features.{feature_of}
use Rattle.pw_token.proofs.features.unsupported.Given as goal

-- what is left gives the answer
abbrev pub invariant-loop-index : goal.invariant-loop-index
invariant-loop-index l =
    position_from (λ token. is_some (feature_of l.text token)) (l.index + 1) (drop l.index l.tokens) ≡ position_from (λ token. is_some (feature_of l.text token)) 1 l.tokens
