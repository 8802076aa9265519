-- The front end's function gives the one answer of each text.
use Rattle.std.proofs.Common.{◌≡◌, ℕ, ◌-◌, true, List, [], ◌∷◌, map, Option, Some, None, Result, Ok, Err, refl, sym, ap, ◌∙◌, subst, is_some, slice_get, option_and_then}
use Rattle.std.specs.Prelude.{◌↔◌}
use Rattle.std.specs.Option.{option_map}
use Rattle.std.specs.List.{position_from}
use Rattle.pw_token.specs.Features.{feature_of}
use Rattle.pw_token.specs.Nesting.{nests_of}
use Rattle.pw_token.specs.Tokenization.{IsLexed, Lexes}
use Rattle.pw_token.specs.declared.token.Feature.{Feature}
use Rattle.pw_token.specs.declared.token.LexFault.TheVariants as lex
use Rattle.pw_token.specs.declared.token.Token.{Token}
use Rattle.pw_tree.specs.Grammar.{spelled_all}
use Rattle.pw_tree.specs.Symbols.{Spelled, symbol_of}
use Rattle.pw_tree.specs.Trees.{Module}
use Rattle.pw_parse_grammar.specs.Answers.{IsAnswer, answer_in}
use Rattle.pw_parse_grammar.specs.Input.{Outcome}
use Rattle.pw_parse_grammar.specs.Modules.{read}
use Rattle.pw_parse.specs.Parsing.{answer_of, parsed, symbol_in, unless_too_deep}
use Rattle.pw_parse.specs.declared.parser.ParseFault.TheVariants.{TooDeep, Syntax, NoMemory}
use Rattle.pw_front_end.specs.First.{IsFirst}
use Rattle.pw_front_end.specs.Lexed.{LexAnswer, lexed}
use Rattle.pw_front_end.specs.Fronts.{FrontEnd, FrontEndAnswers, HoldsNoWant, IsSupported, IsShallow, IsUnsupportedAt, IsTooDeepAt, has_feature, is_deep, with_feature, first_feature, by_parsing, by_feature, by_lexing, front_end_of}
use Rattle.pw_front_end.specs.AnswersTree.{FrontEndAnswersAs, AnswersTree}
use Rattle.pw_front_end.specs.declared.refusal.FrontEndFault.{FrontEndFault}
use Rattle.pw_front_end.specs.declared.refusal.FrontEndFault.TheVariants.{Refused}
use Rattle.pw_front_end.specs.declared.refusal.FrontEndFault.TheVariants as error
use Rattle.pw_front_end.specs.declared.refusal.Refusal.{Refusal}
use Rattle.pw_front_end.specs.declared.refusal.Refusal.TheVariants.{Lex, Unsupported, Parse, Check}
use Rattle.pw_front_end.proofs.FirstLaws.{none-passes, none-found, first-passes, first-found, first-there}
use Rattle.pw_front_end.proofs.LexedLaws.{lexed-lexes, lexed-only}

-- ---- what the parser reads from a text's tokens

-- a token of a text, as the parser and as the grammar know it
same-symbols : (text : List ℕ) (tokens : List Token) → map (symbol_in text) tokens ≡ map symbol_of (spelled_all text tokens)
same-symbols text [] = refl
same-symbols text (t ∷ ts) = ap (λ xs. symbol_in text t ∷ xs) (same-symbols text ts)

-- the tokens' one answer in the grammar, as the front end tells it
abbrev by_answer : Result Module ℕ → FrontEnd
by_answer (Ok tree) = Ok tree
by_answer (Err n) = Err (Parse (Syntax n))

told : (o : Outcome Module) → by_parsing (answer_of o) ≡ by_answer (answer_in o)
told (Ok p) = refl
told (Err at) = refl

shallow-parsed : (text : List ℕ) (tokens : List Token) → position_from is_deep 1 (nests_of text tokens) ≡ None
    → by_parsing (parsed text tokens) ≡ by_answer (answer_in (read (map symbol_of (spelled_all text tokens))))
unfolding parsed
shallow-parsed text tokens e =
    ap (λ o. by_parsing (unless_too_deep o (read (map (symbol_in text) tokens)))) e
    ∙ ap (λ xs. by_parsing (answer_of (read xs))) (same-symbols text tokens)
    ∙ told (read (map symbol_of (spelled_all text tokens)))

deep-parsed : (text : List ℕ) (tokens : List Token) (n : ℕ) → position_from is_deep 1 (nests_of text tokens) ≡ Some n → by_parsing (parsed text tokens) ≡ Err (Parse (TooDeep n))
unfolding parsed
deep-parsed text tokens n e = ap (λ o. by_parsing (unless_too_deep o (read (map (symbol_in text) tokens)))) e

-- ---- what the function gives is the answer

-- what is read from tokens is their one answer
abbrev pub OneAnswer : Type 0
OneAnswer = (tokens : List Spelled) (answer : Result Module ℕ) → IsAnswer tokens answer ↔ (answer ≡ answer_in (read (map symbol_of tokens)))

-- no text is refused for want of memory
pub no-want : (text : List ℕ) (refusal : Refusal) → FrontEndAnswers text (Err refusal) → HoldsNoWant refusal
no-want text (Lex lex.NoMemory) h = absurd h
no-want text (Parse NoMemory) h = absurd h
no-want text (Check fault) h = absurd h
no-want text _ h = tt

module _ (exact : OneAnswer) where
  answer-fronts : (text : List ℕ) (tokens : List Token) (answer : Result Module ℕ) → IsShallow text tokens → IsAnswer (spelled_all text tokens) answer → FrontEndAnswers text (by_answer answer)
  answer-fronts text tokens (Ok tree) h k = record { tokens = tokens; shallow = h; reads = k }
  answer-fronts text tokens (Err n) h k = record { tokens = tokens; shallow = h; fault = k }

  parsed-fronts : (text : List ℕ) (tokens : List Token) → IsSupported text tokens → (o : Option ℕ) → position_from is_deep 1 (nests_of text tokens) ≡ o → FrontEndAnswers text (by_parsing (parsed text tokens))
  parsed-fronts text tokens h (Some n) e =
      let first = first-passes is_deep n (nests_of text tokens) e in
      let deep : IsTooDeepAt text n = record { tokens = tokens; nest = first.0; supported = h; first = first.1 } in
      subst (FrontEndAnswers text) (sym (deep-parsed text tokens n e)) deep
  parsed-fronts text tokens h None e =
      let answer : Result Module ℕ = answer_in (read (map symbol_of (spelled_all text tokens))) in
      let shallow : IsShallow text tokens = record { supported = h; shallow = none-passes is_deep 1 (nests_of text tokens) e } in
      subst (FrontEndAnswers text) (sym (shallow-parsed text tokens e)) (answer-fronts text tokens answer shallow ((exact (spelled_all text tokens) answer).1 refl))

  feature-there : (o : Option Feature) → is_some o ≡ true → (feature : Feature) × (o ≡ Some feature)
  feature-there None e = cc
  feature-there (Some feature) e = (feature, refl)

  -- the first token with a feature, with this number
  with-first : (text : List ℕ) (tokens : List Token) (n : ℕ) (token : Token) (feature : Feature) → IsFirst (has_feature text) tokens n token → feature_of text token ≡ Some feature
      → with_feature text tokens (Some n) ≡ Some (n, feature)
  with-first text tokens n token feature h e =
      let found : option_and_then (feature_of text) (slice_get tokens (n - 1)) ≡ Some feature = ap (option_and_then (feature_of text)) (first-there (has_feature text) n tokens token h) ∙ e in
      ap (option_map (λ x. (n, x))) found

  feature-fronts : (text : List ℕ) (tokens : List Token) → IsLexed text tokens → (o : Option ℕ) → position_from (has_feature text) 1 tokens ≡ o
      → FrontEndAnswers text (by_feature (with_feature text tokens o) (by_parsing (parsed text tokens)))
  feature-fronts text tokens h None e =
      parsed-fronts text tokens (record { lexed = h; supported = none-passes (has_feature text) 1 tokens e }) (position_from is_deep 1 (nests_of text tokens)) refl
  feature-fronts text tokens h (Some n) e =
      let f = first-passes (has_feature text) n tokens e in
      let g = feature-there (feature_of text f.0) f.1.passes in
      let P : Option (ℕ × Feature) → Type 0 = λ o. FrontEndAnswers text (by_feature o (by_parsing (parsed text tokens))) in
      let unsupported : IsUnsupportedAt text n g.0 = record { tokens = tokens; token = f.0; lexed = h; first = f.1; has = g.1 } in
      subst P (sym (with-first text tokens n f.0 g.0 f.1 g.1)) unsupported

  lexing-fronts : (text : List ℕ) (answer : LexAnswer) → Lexes text answer → FrontEndAnswers text (by_lexing text answer)
  lexing-fronts text (Err fault) h = h
  lexing-fronts text (Ok tokens) h = feature-fronts text tokens h (position_from (has_feature text) 1 tokens) refl

  pub front-fronts : (text : List ℕ) → FrontEndAnswers text (front_end_of text)
  unfolding front_end_of
  front-fronts text = lexing-fronts text (lexed text) (lexed-lexes text)

  -- ---- and no other is

  by-tokens : (text : List ℕ) (tokens : List Token) (answer : FrontEnd) → IsLexed text tokens → answer ≡ by_lexing text (Ok tokens) → answer ≡ front_end_of text
  unfolding front_end_of
  by-tokens text tokens answer h e = e ∙ ap (by_lexing text) (lexed-only text (Ok tokens) h)

  by-fault : (text : List ℕ) (answer : LexAnswer) → Lexes text answer → by_lexing text answer ≡ front_end_of text
  unfolding front_end_of
  by-fault text answer h = ap (by_lexing text) (lexed-only text answer h)

  -- where all tokens are supported the parser decides
  by-supported : (text : List ℕ) (tokens : List Token) → IsSupported text tokens → by_parsing (parsed text tokens) ≡ by_lexing text (Ok tokens)
  by-supported text tokens h =
      sym (ap (λ o. by_feature (with_feature text tokens o) (by_parsing (parsed text tokens))) (none-found (has_feature text) 1 tokens h.supported))

  by-deep : (text : List ℕ) (n : ℕ) (h : IsTooDeepAt text n) → Err (Parse (TooDeep n)) ≡ by_lexing text (Ok h.tokens)
  by-deep text n h = sym (deep-parsed text h.tokens n (first-found is_deep n (nests_of text h.tokens) h.nest h.first)) ∙ by-supported text h.tokens h.supported

  by-shallow : (text : List ℕ) (tokens : List Token) (answer : Result Module ℕ) → IsShallow text tokens → IsAnswer (spelled_all text tokens) answer → by_answer answer ≡ by_lexing text (Ok tokens)
  by-shallow text tokens answer h k =
      ap by_answer ((exact (spelled_all text tokens) answer).0 k) ∙ sym (shallow-parsed text tokens (none-found is_deep 1 (nests_of text tokens) h.shallow)) ∙ by-supported text tokens h.supported

  by-unsupported : (text : List ℕ) (n : ℕ) (feature : Feature) (h : IsUnsupportedAt text n feature) → Err (Unsupported n feature) ≡ by_lexing text (Ok h.tokens)
  by-unsupported text n feature h =
      let found : first_feature text h.tokens ≡ Some (n, feature) =
      ap (with_feature text h.tokens) (first-found (has_feature text) n h.tokens h.token h.first) ∙ with-first text h.tokens n h.token feature h.first h.has in
      sym (ap (λ o. by_feature o (by_parsing (parsed text h.tokens))) found)

  pub front-only : (text : List ℕ) (answer : FrontEnd) → FrontEndAnswers text answer → answer ≡ front_end_of text
  front-only text (Err (Lex fault)) h = by-fault text (Err fault) h
  front-only text (Err (Unsupported n feature)) h = by-tokens text h.tokens (Err (Unsupported n feature)) h.lexed (by-unsupported text n feature h)
  front-only text (Err (Parse (TooDeep n))) h = by-tokens text h.tokens (Err (Parse (TooDeep n))) h.supported.lexed (by-deep text n h)
  front-only text (Err (Parse (Syntax n))) h =
      by-tokens text h.tokens (Err (Parse (Syntax n))) h.shallow.supported.lexed (by-shallow text h.tokens (Err n) h.shallow h.fault)
  front-only text (Err (Parse NoMemory)) h = absurd h
  front-only text (Err (Check fault)) h = absurd h
  front-only text (Ok tree) h = by-tokens text h.tokens (Ok tree) h.shallow.supported.lexed (by-shallow text h.tokens (Ok tree) h.shallow h.reads)

  -- ---- what a call gives

  pub fronts-as : {V : Type 0} (view : V → Module) (text : List ℕ) (result : Result V FrontEndFault) → AnswersTree view (front_end_of text) result → FrontEndAnswersAs view text result
  fronts-as view text (Ok v) e = subst (FrontEndAnswers text) e (front-fronts text)
  fronts-as view text (Err (Refused refusal)) e = subst (FrontEndAnswers text) e (front-fronts text)
  fronts-as view text (Err error.NoMemory) e = tt

  pub only-answer : {V : Type 0} (view : V → Module) (text : List ℕ) (result : Result V FrontEndFault) → AnswersTree view (front_end_of text) result
      → (answer : FrontEnd) → FrontEndAnswers text answer → AnswersTree view answer result
  only-answer view text (Ok v) e answer h = front-only text answer h ∙ e
  only-answer view text (Err (Refused refusal)) e answer h = front-only text answer h ∙ e
  only-answer view text (Err error.NoMemory) e answer h = tt
