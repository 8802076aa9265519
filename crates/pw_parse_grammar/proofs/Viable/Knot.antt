-- The tokens before a fault in the parts of a depth begin a tree: the knot.
use Rattle.std.proofs.Common.{ℕ, zero, suc}
use Rattle.pw_parse_grammar.specs.Declarations.{parts}
use Rattle.pw_parse_grammar.proofs.Trees.Base.{no_turns}
use Rattle.pw_parse_grammar.proofs.Sound.Knot.{parts-sound}
use Rattle.pw_parse_grammar.proofs.Viable.Declarators.{declarator_of-fails}
use Rattle.pw_parse_grammar.proofs.Viable.Levels.{expr_of-fails}
use Rattle.pw_parse_grammar.proofs.Viable.Parts.{ViableParts}
use Rattle.pw_parse_grammar.proofs.Viable.Specifiers.{specifiers_of-fails}

pub parts-viable : (depth : ℕ) → ViableParts depth (parts depth)
unfolding parts
parts-viable zero = record {
  expr = λ k two env i names below. no_turns below;
  specifiers = λ storage env i names below. no_turns below;
  declarator = λ place typed env i names below. no_turns below;
}
parts-viable (suc depth) = record {
  expr = expr_of-fails (parts depth) (parts-sound depth) depth (parts-viable depth);
  specifiers = specifiers_of-fails (parts depth) (parts-sound depth) depth (parts-viable depth);
  declarator = declarator_of-fails (parts depth) (parts-sound depth) depth (parts-viable depth);
}
