-- The parts that hold one another, in two texts that are one up to a place.
use Rattle.std.proofs.Common.{◌≡◌, ℕ, ◌≤◌, Bool, false, List, ◌∷◌, length, Option, Some, arith}
use Rattle.pw_tree.specs.Symbols.{Symbol, Sign, Identifier}
use Rattle.pw_token.specs.declared.symbol.Mark.TheVariants as marks
use Rattle.pw_parse_grammar.specs.declared.place.Place.{Place}
use Rattle.pw_parse_grammar.specs.Input.{Binding, is_typedef_name}
use Rattle.pw_parse_grammar.specs.Parts.{Parts}
use Rattle.pw_parse_grammar.proofs.Progress.Base.{Left, ForwardParts}
use Rattle.pw_parse_grammar.proofs.Local.Base.{input, Local}

-- An expression reads a `(` and an ordinary name that stand at its beginning, whether or not it comes to an end.
pub record Opens (parts : Parts) : Type 0 where
  pub paren : (level : ℕ) (names : List Binding) (n : ℕ) (t : List (Option Symbol)) → Left (length t) (parts.expr level (input names (Some (Sign marks.OpenParen) ∷ t) n))
  pub name : (level : ℕ) (names : List Binding) (n : ℕ) (x : List ℕ) (t : List (Option Symbol)) → is_typedef_name (input names t n) x ≡ false → Left (length t) (parts.expr level (input names (Some (Identifier x) ∷ t) n))

-- Up to m tokens from a place on the parts make the same of both texts.
pub record LocalParts (r w : List (Option Symbol)) (m : ℕ) (parts parts' : Parts) : Type 0 where
  pub left : ForwardParts parts
  pub opens : 1 ≤ m → Opens parts
  pub expr : (k : ℕ) → k ≤ m → (level : ℕ) → Local r w k (λ _. k) (parts.expr level) (parts'.expr level)
  pub specifiers : (k : ℕ) → k ≤ m → (storage : Bool) → Local r w k (λ _. k) (parts.specifiers storage) (parts'.specifiers storage)
  pub declarator : (k : ℕ) → k ≤ m → (place : Place) (typed : Bool) → Local r w k (λ _. k) (parts.declarator place typed) (parts'.declarator place typed)

pub narrow : {r w : List (Option Symbol)} {m : ℕ} {parts parts' : Parts} (k : ℕ) → k ≤ m → LocalParts r w m parts parts' → LocalParts r w k parts parts'
narrow k c g = record {
  left = g.left;
  opens = λ h. g.opens (omega (arith, h, c));
  expr = λ j h. g.expr j (omega (arith, h, c));
  specifiers = λ j h. g.specifiers j (omega (arith, h, c));
  declarator = λ j h. g.declarator j (omega (arith, h, c));
}

module _ {r w : List (Option Symbol)} {m : ℕ} {parts parts' : Parts} (g : LocalParts r w m parts parts') where
  pub expr-at : (level : ℕ) → Local r w m (λ _. m) (parts.expr level) (parts'.expr level)
  expr-at level = g.expr m (omega arith) level

  pub specifiers-at : (storage : Bool) → Local r w m (λ _. m) (parts.specifiers storage) (parts'.specifiers storage)
  specifiers-at storage = g.specifiers m (omega arith) storage

  pub declarator-at : (place : Place) (typed : Bool) → Local r w m (λ _. m) (parts.declarator place typed) (parts'.declarator place typed)
  declarator-at place typed = g.declarator m (omega arith) place typed

  pub paren-at : 1 ≤ m → (level : ℕ) (names : List Binding) (n : ℕ) (t : List (Option Symbol)) → Left (length t) (parts.expr level (input names (Some (Sign marks.OpenParen) ∷ t) n))
  paren-at pos = (g.opens pos).paren

  pub name-at : 1 ≤ m → (level : ℕ) (names : List Binding) (n : ℕ) (x : List ℕ) (t : List (Option Symbol)) → is_typedef_name (input names t n) x ≡ false → Left (length t) (parts.expr level (input names (Some (Identifier x) ∷ t) n))
  name-at pos = (g.opens pos).name
