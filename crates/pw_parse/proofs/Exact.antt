-- The answer of the parser on lists is the one that the grammar gives.
use Rattle.std.proofs.Common.{◌≡◌, ◌≢◌, ℕ, List, [], ◌∷◌, map, Option, Some, None, Result, Ok, Err, refl, sym, ap, ◌∙◌, subst}
use Rattle.std.specs.Prelude.{◌↔◌}
use Rattle.pw_token.specs.declared.token.Token.{Token}
use Rattle.pw_tree.specs.Grammar.{spelled_all}
use Rattle.pw_tree.specs.Symbols.{Spelled, symbol_of}
use Rattle.pw_tree.specs.Trees.{Module}
use Rattle.pw_parse_grammar.specs.Answers.{IsAnswer, answer_in}
use Rattle.pw_parse_grammar.specs.Input.{Outcome}
use Rattle.pw_parse_grammar.specs.Modules.{read}
use Rattle.pw_parse.specs.declared.parser.ParseFault.{ParseFault}
use Rattle.pw_parse.specs.declared.parser.ParseFault.TheVariants.{TooDeep, Syntax, NoMemory}
use Rattle.pw_parse.specs.Parsing.{symbol_in, answer_of, unless_too_deep, first_too_deep, read_in, parsed, Parses, ParsesAs, Answers}

abbrev as_answer : Result Module ℕ → Result Module ParseFault
as_answer (Ok tree) = Ok tree
as_answer (Err token) = Err (Syntax token)

told : (o : Outcome Module) → answer_of o ≡ as_answer (answer_in o)
told (Ok p) = refl
told (Err i) = refl

-- a token of a text, as the parser and as the grammar know it
pub same_symbols : (text : List ℕ) (tokens : List Token) → map (symbol_in text) tokens ≡ map symbol_of (spelled_all text tokens)
same_symbols text [] = refl
same_symbols text (t ∷ ts) = ap (λ xs. symbol_in text t ∷ xs) (same_symbols text ts)

-- what is read from the tokens' symbols
same_reading : (text : List ℕ) (tokens : List Token) → read_in text tokens ≡ read (map symbol_of (spelled_all text tokens))
same_reading text tokens = ap read (same_symbols text tokens)

-- where nothing is nested too deep
shallow : (text : List ℕ) (tokens : List Token) → first_too_deep text tokens ≡ None → parsed text tokens ≡ as_answer (answer_in (read (map symbol_of (spelled_all text tokens))))
unfolding parsed
shallow text tokens e = ap (λ first. unless_too_deep first (read_in text tokens)) e ∙ told (read_in text tokens) ∙ ap (λ o. as_answer (answer_in o)) (same_reading text tokens)

module _ (one_answer : (tokens : List Spelled) (answer : Result Module ℕ) → IsAnswer tokens answer ↔ (answer ≡ answer_in (read (map symbol_of tokens)))) where
  only : (text : List ℕ) (tokens : List Token) (answer : Result Module ParseFault) → Parses text tokens answer → answer ≡ parsed text tokens
  unfolding parsed
  only text tokens (Ok tree) h = ap as_answer ((one_answer (spelled_all text tokens) (Ok tree)).0 h.1) ∙ sym (shallow text tokens h.0)
  only text tokens (Err (TooDeep token)) h = sym (ap (λ first. unless_too_deep first (read_in text tokens)) h)
  only text tokens (Err (Syntax token)) h = ap as_answer ((one_answer (spelled_all text tokens) (Err token)).0 h.1) ∙ sym (shallow text tokens h.0)
  only text tokens (Err NoMemory) h = absurd h

  reads_as : (text : List ℕ) (tokens : List Token) → first_too_deep text tokens ≡ None → (o : Outcome Module) → read (map symbol_of (spelled_all text tokens)) ≡ o → Parses text tokens (answer_of o)
  reads_as text tokens e (Ok p) h = (e, (one_answer (spelled_all text tokens) (Ok p.0)).1 (sym (ap answer_in h)))
  reads_as text tokens e (Err i) h = (e, (one_answer (spelled_all text tokens) (Err i.next)).1 (sym (ap answer_in h)))

  is_one : (text : List ℕ) (tokens : List Token) (first : Option ℕ) → first_too_deep text tokens ≡ first → Parses text tokens (unless_too_deep first (read_in text tokens))
  is_one text tokens (Some token) e = e
  is_one text tokens None e = reads_as text tokens e (read_in text tokens) (sym (same_reading text tokens))

  pub exact : (text : List ℕ) (tokens : List Token) (answer : Result Module ParseFault) → Parses text tokens answer ↔ (answer ≡ parsed text tokens)
  unfolding parsed
  exact text tokens answer = (only text tokens answer, λ e. subst (Parses text tokens) (sym e) (is_one text tokens (first_too_deep text tokens) refl))

  -- what a call gave
  pub parses_as : {V : Type 0} (view : V → Module) (text : List ℕ) (tokens : List Token) (r : Result V ParseFault) → Answers view (parsed text tokens) r → ParsesAs view text tokens r
  parses_as view text tokens (Ok v) h = (exact text tokens (Ok (view v))).1 (sym h)
  parses_as view text tokens (Err fault) h = λ some. (exact text tokens (Err fault)).1 (sym (h some))

  pub only_answer : {V : Type 0} (view : V → Module) (text : List ℕ) (tokens : List Token) (r : Result V ParseFault) → Answers view (parsed text tokens) r → (answer : Result Module ParseFault) → Parses text tokens answer → Answers view answer r
  only_answer view text tokens r h answer k = subst (λ a. Answers view a r) (sym ((exact text tokens answer).0 k)) h
