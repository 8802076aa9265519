-- The parts of a depth, initializers and declarations do not go back (6.5, 6.5.7).
use Rattle.std.proofs.Common.{ℕ, zero, suc, Bool, []}
use Rattle.pw_tree.specs.Trees.{Specifiers, Init, InitDeclarator, Listed}
use Rattle.pw_parse_grammar.specs.Declarations.{parts, inits_end, inits, braced, init_of, init, initializer, initialized, init_declarator, other_declarator, init_declarators, declaration_with, declaration, declaration_next, declarations}
use Rattle.pw_parse_grammar.specs.Input.{Parser, ◌<$>◌}
use Rattle.pw_parse_grammar.specs.Parts.{Declared}
use Rattle.pw_parse_grammar.proofs.Progress.Base.{Forward, ForwardParts, forward-rules, while-left, one_or_more-left}
use Rattle.pw_parse_grammar.proofs.Progress.Expressions.{some_specifiers-left, expr_of-left}
use Rattle.pw_parse_grammar.proofs.Progress.Specifiers.{specifiers_of-left}
use Rattle.pw_parse_grammar.proofs.Progress.Declarators.{declare_name-left, declarator_of-left}

pub parts-left : (depth : ℕ) → ForwardParts (parts depth)
unfolding parts
parts-left zero = record { expr = λ k n i h. search forward-rules; specifiers = λ storage n i h. search forward-rules; declarator = λ place typed n i h. search forward-rules }
parts-left (suc depth) = record { expr = expr_of-left (parts depth) (parts-left depth); specifiers = specifiers_of-left (parts depth) (parts-left depth); declarator = declarator_of-left (parts depth) (parts-left depth) }

pub inits_end-left : Forward inits_end
unfolding inits_end
inits_end-left n i h = search forward-rules

pub inits-left : (init : Parser Init) → Forward init → Forward (inits init)
unfolding inits
inits-left init g = one_or_more-left ((λ x more. (Listed x more.0, more.1)) <$> init) inits_end (λ n i h. search (forward-rules, g)) inits_end-left

pub braced-left : (init : Parser Init) → Forward init → Forward (braced init)
unfolding braced
braced-left init g n i h = search (forward-rules, inits-left init g)

module _ (limit : ℕ) where
  expr-left : (k : ℕ) → Forward ((parts limit).expr k)
  expr-left = (parts-left limit).expr

  declarator-left : (place : _) (typed : Bool) → Forward ((parts limit).declarator place typed)
  declarator-left = (parts-left limit).declarator

  pub init_of-left : (init : Parser Init) → Forward init → Forward (init_of limit init)
  unfolding init_of
  init_of-left init g n i h = search (forward-rules, braced-left init g, expr-left)

  pub init-left : (depth : ℕ) → Forward (init limit depth)
  unfolding init
  init-left zero n i h = search forward-rules
  init-left (suc depth) n i h = init_of-left (init limit depth) (init-left depth) n i h

  pub initializer-left : Forward (initializer limit)
  unfolding initializer
  initializer-left n i h = search (forward-rules, init-left)

  pub initialized-left : (is_typedef : Bool) (d : Declared) → Forward (initialized limit is_typedef d)
  unfolding initialized
  initialized-left is_typedef d n i h = search (forward-rules, declare_name-left, initializer-left)

  pub init_declarator-left : (typed is_typedef : Bool) → Forward (init_declarator limit typed is_typedef)
  unfolding init_declarator
  init_declarator-left typed is_typedef n i h = search (forward-rules, declarator-left, initialized-left)

  pub other_declarator-left : (typed is_typedef : Bool) → Forward (other_declarator limit typed is_typedef)
  unfolding other_declarator
  other_declarator-left typed is_typedef n i h = search (forward-rules, init_declarator-left)

  pub init_declarators-left : (typed is_typedef : Bool) (first : InitDeclarator) → Forward (init_declarators limit typed is_typedef first)
  unfolding init_declarators
  init_declarators-left typed is_typedef first n i h = search (forward-rules, while-left, other_declarator-left)

  pub declaration_with-left : (ss : Specifiers) (d : Declared) → Forward (declaration_with limit ss d)
  unfolding declaration_with
  declaration_with-left ss d n i h = search (forward-rules, initialized-left, init_declarators-left)

  pub declaration-left : Forward (declaration limit)
  unfolding declaration
  declaration-left n i h = search (forward-rules, some_specifiers-left (parts limit) (parts-left limit), declarator-left, declaration_with-left) depth 8 fits 3000

  pub declaration_next-left : (labels : Bool) → Forward (declaration_next limit labels)
  unfolding declaration_next
  declaration_next-left labels n i h = search (forward-rules, declaration-left)

  pub declarations-left : (labels : Bool) → Forward (declarations limit labels)
  unfolding declarations
  declarations-left labels = while-left [] (declaration_next limit labels) (declaration_next-left labels)
