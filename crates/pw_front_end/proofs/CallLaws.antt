-- What the lexer's answer makes of the front end's and of places.
use Rattle.std.proofs.Common.{◌≡◌, ◌≢◌, ◌⊎◌, ℕ, List, None, Result, Ok, Err, refl, sym, ap, ⊎_elim, subst, Vec, Global, IfOk}
use Rattle.std.specs.List.{position_from}
use Rattle.pw_token.specs.Tokenization.{Answers, Lexes}
use Rattle.pw_token.specs.declared.token.LexFault.{LexFault}
use Rattle.pw_token.specs.declared.token.LexFault.TheVariants.{Bad, TooLong, TooMany, NoMemory}
use Rattle.pw_token.specs.declared.token.Token.{Token}
use Rattle.pw_parse.specs.Parsing.{parsed}
use Rattle.pw_parse.specs.declared.parser.ParseFault.{ParseFault}
use Rattle.pw_parse.specs.declared.parser.ParseFault.TheVariants as parse
use Rattle.pw_tree.specs.Trees.{Module}
use Rattle.pw_front_end.specs.Lexed.{LexAnswer, lexed}
use Rattle.pw_front_end.specs.Fronts.{by_lexing, front_end_of, has_feature}
use Rattle.pw_front_end.specs.AnswersTree.{AnswersTree, error_of, parse_error_of}
use Rattle.pw_front_end.specs.declared.refusal.FrontEndFault.{FrontEndFault}
use Rattle.pw_front_end.proofs.LexedLaws.{lexed-lexes}

-- what the lexer's clause says of the function's answer
abbrev pub TellsLexed : List ℕ → Result (Vec Token Global) LexFault → Type 0
TellsLexed text result = (answer : LexAnswer) → Lexes text answer → Answers (λ (tokens : Vec Token Global). tokens.items) result answer

pub lexed-ok : (text : List ℕ) (tokens : Vec Token Global) → TellsLexed text (Ok tokens) → lexed text ≡ Ok tokens.items
lexed-ok text tokens only = only (lexed text) (lexed-lexes text)

pub lexed-err : (text : List ℕ) (fault : LexFault) → TellsLexed text (Err fault) → (fault ≡ NoMemory) ⊎ (lexed text ≡ Err fault)
lexed-err text fault only = only (lexed text) (lexed-lexes text)

-- ---- the front end

pub gives-tokens : {V : Type 0} (view : V → Module) (text : List ℕ) (tokens : List Token) (r : Result V FrontEndFault) → lexed text ≡ Ok tokens → AnswersTree view (by_lexing text (Ok tokens)) r
    → AnswersTree view (front_end_of text) r
unfolding front_end_of
gives-tokens view text tokens r e h = subst (λ answer. AnswersTree view (by_lexing text answer) r) (sym e) h

pub gives-fault : {V : Type 0} (view : V → Module) (text : List ℕ) (fault : LexFault) → (fault ≡ NoMemory) ⊎ (lexed text ≡ Err fault) → AnswersTree view (front_end_of text) (Err (error_of fault))
unfolding front_end_of
gives-fault view text NoMemory h = tt
gives-fault view text TooLong h = ap (by_lexing text) (⊎_elim (λ e. cc) (λ e. e) h)
gives-fault view text (Bad at) h = ap (by_lexing text) (⊎_elim (λ e. cc) (λ e. e) h)
gives-fault view text (TooMany at) h = ap (by_lexing text) (⊎_elim (λ e. cc) (λ e. e) h)

-- a tree, where no token is left out
pub gives-tree : (text : List ℕ) (tokens : List Token) (tree : Module) → None ≡ position_from (has_feature text) 1 tokens → parsed text tokens ≡ Ok tree
    → by_lexing text (Ok tokens) ≡ Ok tree
gives-tree text tokens tree e f = rw (← e, f) refl

pub gives-parse_fault : {V : Type 0} (view : V → Module) (text : List ℕ) (tokens : List Token) (fault : ParseFault) → None ≡ position_from (has_feature text) 1 tokens
    → (fault ≢ parse.NoMemory → parsed text tokens ≡ Err fault) → AnswersTree view (by_lexing text (Ok tokens)) (Err (parse_error_of fault))
gives-parse_fault view text tokens parse.NoMemory e h = tt
gives-parse_fault view text tokens (parse.TooDeep n) e h = let f = h (λ e. cc) in rw (← e, f) refl
gives-parse_fault view text tokens (parse.Syntax n) e h = let f = h (λ e. cc) in rw (← e, f) refl

-- ---- what is made of a text's tokens

pub some-tokens : (f : LexAnswer → List Token) (text : List ℕ) (tokens : List Token) → lexed text ≡ Ok tokens → f (Ok tokens) ≡ f (lexed text)
some-tokens f text tokens e = ap f (sym e)

pub no-tokens : {E : Type 0} (f : LexAnswer → List Token) (text : List ℕ) (fault : LexFault) (r : Result (Vec Token Global) E) → (fault ≡ NoMemory) ⊎ (lexed text ≡ Err fault)
    → IfOk r (λ tokens. tokens.items ≡ f (Err fault)) → IfOk r (λ tokens. fault ≢ NoMemory) → IfOk r (λ tokens. tokens.items ≡ f (lexed text))
no-tokens f text fault (Err e) h none some = tt
no-tokens f text fault (Ok tokens) h none some = ⊎_elim (λ e. absurd (some e)) (λ e. rw e none) h
