use Rattle.std.proofs.Common.{◌≡◌, ℕ, ◌+◌, ◌-◌, ◌<◌, List, length, Some, slice_get, get_or, option_and_then, ap, ◌∙◌, sym, arith}
use Rattle.std.proofs.lemmas.Option.{slice_get-get_or}
use Rattle.pw_token.proofs.TokenBounds.{tokens_within}
use Rattle.pw_token.specs.Features.{feature_of}
use Rattle.pw_token.specs.declared.token.Token.{Token}
use Rattle.pw_token.specs.declared.token.Feature.{Feature}
use Rattle.pw_token.proofs.features.unsupported.Goals as goal

pub feature_of-requires : goal.feature_of-requires
feature_of-requires c = tokens_within c.args.text.now c.args.tokens.now c.requires c.loop-index.index _ c.loop-index-test.true

-- the token behind a number
feature-there : (text : List ℕ) (tokens : List Token) (k : ℕ) (d : Token) (f : Feature) → k < length tokens → feature_of text (get_or tokens k d) ≡ Some f
    → option_and_then (feature_of text) (slice_get tokens (k + 1 - 1)) ≡ Some f
feature-there text tokens k d f l e =
    let same : k + 1 - 1 ≡ k = omega arith in
    ap (λ n. option_and_then (feature_of text) (slice_get tokens n)) same ∙ ap (option_and_then (feature_of text)) (slice_get-get_or tokens k d l) ∙ e

pub returns-in-Some-clause-feature : goal.returns-in-Some-clause-feature
returns-in-Some-clause-feature c =
    feature-there c.args.text.now c.args.tokens.now c.loop-index.index _ c.in-Some.feature c.loop-index-test.true (sym c.feature_of.ensures ∙ c.in-Some.is)
