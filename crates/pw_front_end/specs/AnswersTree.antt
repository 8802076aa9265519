-- What a call of the front end gives.
use Rattle.std.specs.Prelude.{◌≡◌, ℕ, List, Result, Ok, Err}
use Rattle.pw_parse.specs.declared.parser.ParseFault.{ParseFault}
use Rattle.pw_parse.specs.declared.parser.ParseFault.TheVariants as parse
use Rattle.pw_token.specs.declared.token.LexFault.{LexFault}
use Rattle.pw_token.specs.declared.token.LexFault.TheVariants as lex
use Rattle.pw_tree.specs.Trees.{Module}
use Rattle.pw_front_end.specs.Fronts.{FrontEnd, FrontEndAnswers}
use Rattle.pw_front_end.specs.declared.refusal.FrontEndFault.{FrontEndFault}
use Rattle.pw_front_end.specs.declared.refusal.FrontEndFault.TheVariants.{Refused, NoMemory}
use Rattle.pw_front_end.specs.declared.refusal.Refusal.TheVariants.{Lex, Parse}

-- a fault of lexing as the front end tells it
abbrev pub error_of : LexFault → FrontEndFault
error_of lex.NoMemory = NoMemory
error_of lex.TooLong = Refused (Lex lex.TooLong)
error_of (lex.Bad at) = Refused (Lex (lex.Bad at))
error_of (lex.TooMany at) = Refused (Lex (lex.TooMany at))

-- a fault of parsing as the front end tells it
abbrev pub parse_error_of : ParseFault → FrontEndFault
parse_error_of parse.NoMemory = NoMemory
parse_error_of (parse.TooDeep n) = Refused (Parse (parse.TooDeep n))
parse_error_of (parse.Syntax n) = Refused (Parse (parse.Syntax n))

-- a call gave, seen by view, this answer, or memory ran out
abbrev pub AnswersTree : {V : Type 0} → (V → Module) → FrontEnd → Result V FrontEndFault → Type 0
AnswersTree view answer (Ok v) = answer ≡ Ok (view v)
AnswersTree view answer (Err (Refused refusal)) = answer ≡ Err refusal
AnswersTree view answer (Err NoMemory) = Unit {0}

-- what a call gave, seen by view, is the text's answer, or memory ran out
abbrev pub FrontEndAnswersAs : {V : Type 0} → (V → Module) → List ℕ → Result V FrontEndFault → Type 0
FrontEndAnswersAs view text (Ok v) = FrontEndAnswers text (Ok (view v))
FrontEndAnswersAs view text (Err (Refused refusal)) = FrontEndAnswers text (Err refusal)
FrontEndAnswersAs view text (Err NoMemory) = Unit {0}
