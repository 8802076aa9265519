-- What the parts of a depth read is a tree: the knot.
use Rattle.std.proofs.Common.{ℕ, zero, suc}
use Rattle.pw_parse_grammar.specs.Declarations.{parts}
use Rattle.pw_parse_grammar.proofs.Sound.Declarators.{declarator_of-sound}
use Rattle.pw_parse_grammar.proofs.Sound.Levels.{expr_of-sound}
use Rattle.pw_parse_grammar.proofs.Sound.Parts.{Sound}
use Rattle.pw_parse_grammar.proofs.Sound.Specifiers.{specifiers_of-sound}

pub parts-sound : (depth : ℕ) → Sound (parts depth)
unfolding parts
parts-sound zero = record {
  expr = λ k two env i names. tt;
  specifiers = λ storage env i names. tt;
  declarator = λ place typed env i names. tt;
}
parts-sound (suc depth) = record {
  expr = expr_of-sound (parts depth) (parts-sound depth);
  specifiers = specifiers_of-sound (parts depth) (parts-sound depth);
  declarator = declarator_of-sound (parts depth) (parts-sound depth);
}
