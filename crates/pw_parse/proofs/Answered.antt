-- What a text's tokens are, by what the reader of their symbols gives.
use Rattle.std.proofs.Common.{◌≡◌, ◌≢◌, ℕ, ◌+◌, List, length, map, Option, None, Ok, Err, sym, ap, ◌∙◌}
use Rattle.std.specs.List.{position_from}
use Rattle.std.specs.Prelude.{nat_lt}
use Rattle.std.proofs.lemmas.List.{length-map}
use Rattle.pw_token.specs.Limits.{nest_limit}
use Rattle.pw_token.specs.Nesting.{nests_of}
use Rattle.pw_token.specs.declared.token.Token.{Token}
use Rattle.pw_tree.specs.Symbols.{Symbol}
use Rattle.pw_tree.specs.Trees.{External, Module}
use Rattle.pw_parse_cursor.specs.declared.stop.Stop.{Stop}
use Rattle.pw_parse_cursor.specs.declared.stop.Stop.TheVariants as stop
use Rattle.pw_parse_grammar.specs.Input.{Input, Outcome, and_then}
use Rattle.pw_parse_grammar.specs.Modules.{externals, read, start}
use Rattle.pw_parse.specs.Parsing.{answer_of, fault_gives, parsed, symbol_in, unless_too_deep}
use Rattle.pw_parse.specs.declared.parser.ParseFault.{ParseFault}
use Rattle.pw_parse.specs.declared.parser.ParseFault.TheVariants.{Syntax, NoMemory}

abbrev module_of : List External → Input → Outcome Module
module_of es i = Ok (record { externals = es }, i)

module _ (text : List ℕ) (tokens : List Token) (symbols : List (Option Symbol)) (shown : symbols ≡ map (symbol_in text) tokens)
    (flat : None ≡ position_from (λ nest. nat_lt nest_limit nest) 1 (nests_of text tokens)) where
  answered : parsed text tokens ≡ answer_of (and_then (externals (length tokens + 1) (start symbols)) module_of)
  unfolding parsed read
  answered =
      ap (λ p. unless_too_deep p (read (map (symbol_in text) tokens))) (sym flat)
      ∙ ap (λ ss. answer_of (read ss)) (sym shown)
      ∙ ap (λ n. answer_of (and_then (externals (n + 1) (start symbols)) module_of)) (ap length shown ∙ length-map tokens (symbol_in text))

  pub tree_answered : (es : List External) (i : Input) → externals (length tokens + 1) (start symbols) ≡ Ok (es, i) → parsed text tokens ≡ Ok (record { externals = es })
  tree_answered es i e = answered ∙ ap (λ o. answer_of (and_then o module_of)) e

  pub fault_answered : (i : Input) → externals (length tokens + 1) (start symbols) ≡ Err i → parsed text tokens ≡ Err (Syntax i.next)
  fault_answered i e = answered ∙ ap (λ o. answer_of (and_then o module_of)) e

-- a fault that is not want of memory is one of the text
pub told : (s : Stop) (token : ℕ) (fault : ParseFault) → fault_gives s token fault → fault ≢ NoMemory → (s ≢ stop.NoMemory) × (fault ≡ Syntax token)
told stop.Fault token fault e some = (λ (same : stop.Fault ≡ stop.NoMemory). (cc), e)
told stop.NoMemory token fault e some = absurd (some e)
