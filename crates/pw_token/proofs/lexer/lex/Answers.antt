use Rattle.std.proofs.Common.{ℕ, refl, inl, inr, List, Result, Ok, Err, Vec, Global}
use Rattle.pw_token.specs.Tokenization.{Answers, AnswersLexing, Lexes}
use Rattle.pw_token.specs.declared.token.LexFault.{LexFault}
use Rattle.pw_token.specs.declared.token.LexFault.TheVariants.{Bad, TooLong, TooMany, NoMemory}
use Rattle.pw_token.specs.declared.token.Token.{Token}
use Rattle.pw_token.proofs.LexLaws.{one-answer}
use Rattle.pw_token.proofs.lexer.lex.Goals as goal

answered : {V : Type 0} (view : V → List Token) (text : List ℕ) (r : Result V LexFault) → AnswersLexing text view r → (answer : Result (List Token) LexFault) → Lexes text answer → Answers view r answer
answered view text (Ok v) h answer k = one-answer text answer (Ok (view v)) k h
answered view text (Err NoMemory) h answer k = inl refl
answered view text (Err TooLong) h answer k = inr (one-answer text answer (Err TooLong) k h)
answered view text (Err (Bad at)) h answer k = inr (one-answer text answer (Err (Bad at)) k h)
answered view text (Err (TooMany at)) h answer k = inr (one-answer text answer (Err (TooMany at)) k h)

pub returns-clause-only : goal.returns-clause-only
returns-clause-only c = answered (λ (tokens : Vec Token Global). tokens.items) c.args.text.now c.cut.result c.cut.ensures
