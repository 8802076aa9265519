-- A text's tree has as many tokens as the text.
use Rattle.std.specs.Prelude.{ℕ, ◌≡◌, ◌≤◌, List, length, map}
use Rattle.std.proofs.Common.{arith, ap}
use Rattle.std.proofs.lemmas.List.{length-map}
use Rattle.pw_token.specs.Limits.{token_limit}
use Rattle.pw_token.specs.Tokenization.{IsLexed}
use Rattle.pw_token.specs.declared.token.Token.{Token}
use Rattle.pw_tree.specs.Grammar.{spelled_all, IsTreeOf}
use Rattle.pw_tree.specs.Lexemes.{spelled_in}
use Rattle.pw_tree.specs.Spelling.{symbols}
use Rattle.pw_tree.specs.Symbols.{Spelled, spelled}
use Rattle.pw_tree.specs.Trees.{Module}

pub few_tokens : (text : List ℕ) (tokens : List Token) (tree : Module) → IsLexed text tokens → IsTreeOf (spelled_all text tokens) tree → length (symbols tree) ≤ token_limit
few_tokens text tokens tree lexed of =
    let own : length (map spelled (symbols tree)) ≡ length (symbols tree) = length-map (symbols tree) spelled in
    let read : length (map (spelled_in text) tokens) ≡ length tokens = length-map tokens (spelled_in text) in
    let same : length (map spelled (symbols tree)) ≡ length (map (spelled_in text) tokens) = ap (λ (ys : List Spelled). length ys) of.spells in
    let few : length tokens ≤ token_limit = lexed.2 in
    omega (arith, own, read, same, few)
