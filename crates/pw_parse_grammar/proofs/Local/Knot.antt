-- The parts of a depth make the same of two texts that are one up to a place.
use Rattle.std.proofs.Common.{◌≡◌, ℕ, zero, suc, ◌≤◌, Bool, true, List, ◌∷◌, length, Option, Some, arith}
use Rattle.pw_tree.specs.Symbols.{Symbol, Identifier}
use Rattle.pw_parse_grammar.specs.declared.place.Place.{Place}
use Rattle.pw_parse_grammar.specs.Declarations.{parts}
use Rattle.pw_parse_grammar.specs.Input.{Binding, Parser, is_typedef_name}
use Rattle.pw_parse_grammar.proofs.Trees.Base.{no_turns}
use Rattle.pw_parse_grammar.proofs.Progress.Base.{Left, Forward}
use Rattle.pw_parse_grammar.proofs.Progress.Declarations.{parts-left}
use Rattle.pw_parse_grammar.proofs.Local.Base.{input, gone, more, passed, Local}
use Rattle.pw_parse_grammar.proofs.Local.Parts.{Opens, LocalParts, narrow}
use Rattle.pw_parse_grammar.proofs.Local.Opens.{expr_of-paren, expr_of-name, specifiers_of-typed}
use Rattle.pw_parse_grammar.proofs.Local.Levels.{expr_of-local}
use Rattle.pw_parse_grammar.proofs.Local.Specifiers.{specifiers_of-local}
use Rattle.pw_parse_grammar.proofs.Local.Declarators.{declarator_of-local}

-- at the place itself nothing is owed
pub at-place : (r w : List (Option Symbol)) {A : Type 0} (k : ℕ) (p p' : Parser A) → Forward p → k ≤ 0 → Local r w k (λ _. k) p p'
at-place r w k p p' left c names n t t' gone = passed (left (length r) (input names r n) (omega arith))
at-place r w k p p' left c names n t t' (more s h) = no_turns c

pub parts-open : (depth : ℕ) → 1 ≤ depth → Opens (parts depth)
unfolding parts
parts-open zero h = no_turns h
parts-open (suc depth) h = record { paren = expr_of-paren (parts depth) (parts-left depth); name = expr_of-name (parts depth) (parts-left depth) }

-- specifiers read a typedef name that stands at their beginning
pub parts-typed : (depth : ℕ) → 1 ≤ depth → (storage : Bool) (names : List Binding) (n : ℕ) (x : List ℕ) (t : List (Option Symbol)) → is_typedef_name (input names t n) x ≡ true → Left (length t) ((parts depth).specifiers storage (input names (Some (Identifier x) ∷ t) n))
unfolding parts
parts-typed zero h storage names n x t e = no_turns h
parts-typed (suc depth) h storage names n x t e = specifiers_of-typed (parts depth) (parts-left depth) storage names n x t e

module _ (r w : List (Option Symbol)) (m depth depth' : ℕ) (smaller : LocalParts r w m (parts depth) (parts depth')) where
  by-expr : (k : ℕ) → k ≤ suc m → (level : ℕ) → Local r w k (λ _. k) ((parts (suc depth)).expr level) ((parts (suc depth')).expr level)
  unfolding parts
  by-expr zero c level = at-place r w 0 ((parts (suc depth)).expr level) ((parts (suc depth')).expr level) ((parts-left (suc depth)).expr level) (omega arith)
  by-expr (suc k) c level = expr_of-local r w k (parts depth) (parts depth') (narrow k (omega (arith, c)) smaller) level

  by-specifiers : (k : ℕ) → k ≤ suc m → (storage : Bool) → Local r w k (λ _. k) ((parts (suc depth)).specifiers storage) ((parts (suc depth')).specifiers storage)
  unfolding parts
  by-specifiers zero c storage = at-place r w 0 ((parts (suc depth)).specifiers storage) ((parts (suc depth')).specifiers storage) ((parts-left (suc depth)).specifiers storage) (omega arith)
  by-specifiers (suc k) c storage = specifiers_of-local r w k (parts depth) (parts depth') (narrow k (omega (arith, c)) smaller) storage

  by-declarator : (k : ℕ) → k ≤ suc m → (place : Place) (typed : Bool) → Local r w k (λ _. k) ((parts (suc depth)).declarator place typed) ((parts (suc depth')).declarator place typed)
  unfolding parts
  by-declarator zero c place typed = at-place r w 0 ((parts (suc depth)).declarator place typed) ((parts (suc depth')).declarator place typed) ((parts-left (suc depth)).declarator place typed) (omega arith)
  by-declarator (suc k) c place typed = declarator_of-local r w k (parts depth) (parts depth') (narrow k (omega (arith, c)) smaller) place typed

  larger : LocalParts r w (suc m) (parts (suc depth)) (parts (suc depth'))
  larger = record { left = parts-left (suc depth); opens = λ h. parts-open (suc depth) (omega arith); expr = by-expr; specifiers = by-specifiers; declarator = by-declarator }

pub parts-local : (r w : List (Option Symbol)) (m depth depth' : ℕ) → m ≤ depth → m ≤ depth' → LocalParts r w m (parts depth) (parts depth')
parts-local r w zero depth depth' e e' = record {
  left = parts-left depth;
  opens = λ h. no_turns h;
  expr = λ k c level. at-place r w k ((parts depth).expr level) ((parts depth').expr level) ((parts-left depth).expr level) c;
  specifiers = λ k c storage. at-place r w k ((parts depth).specifiers storage) ((parts depth').specifiers storage) ((parts-left depth).specifiers storage) c;
  declarator = λ k c place typed. at-place r w k ((parts depth).declarator place typed) ((parts depth').declarator place typed) ((parts-left depth).declarator place typed) c;
}
parts-local r w (suc m) zero depth' e e' = no_turns e
parts-local r w (suc m) (suc depth) zero e e' = no_turns e'
parts-local r w (suc m) (suc depth) (suc depth') e e' = larger r w m depth depth' (parts-local r w m depth depth' (omega (arith, e)) (omega (arith, e')))
