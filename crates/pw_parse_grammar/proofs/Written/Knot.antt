-- The parts of a depth read what has fewer tokens: the knot.
use Rattle.std.proofs.Common.{ℕ, zero, suc}
use Rattle.pw_parse_grammar.specs.Declarations.{parts}
use Rattle.pw_parse_grammar.proofs.Trees.Base.{no_turns}
use Rattle.pw_parse_grammar.proofs.Written.Declarators.{declarator_of-read}
use Rattle.pw_parse_grammar.proofs.Written.Knows.{Knows}
use Rattle.pw_parse_grammar.proofs.Written.Levels.{expr_of-read}
use Rattle.pw_parse_grammar.proofs.Written.Specifiers.{specifiers_of-read}

pub parts-know : (depth : ℕ) → Knows depth (parts depth)
unfolding parts
parts-know zero = record {
  expr = λ k two env e z n i w num l follow short at_n. no_turns short;
  specifiers = λ storage env ss z n i w may num ends short at_n. no_turns short;
  declarator = λ place typed env x z n i w num follow short at_n. no_turns short;
}
parts-know (suc depth) = record {
  expr = expr_of-read depth (parts depth) (parts-know depth);
  specifiers = specifiers_of-read depth (parts depth) (parts-know depth);
  declarator = declarator_of-read depth (parts depth) (parts-know depth);
}
