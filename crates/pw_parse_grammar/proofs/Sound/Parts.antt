-- What the parts that hold one another read is a tree.
use Rattle.std.proofs.Common.{◌≡◌, ℕ, ◌≤◌, Bool, false}
use Rattle.pw_tree.specs.Levels.{level}
use Rattle.pw_tree.specs.Numbering.{Numbered, NumberedSpecifiers, NumberedDeclarator}
use Rattle.pw_tree.specs.Scopes.{Env, after_expr, after_specifiers, after_declarator}
use Rattle.pw_tree.specs.Spelling.{spell_expr, spell_specifiers, spell_declarator}
use Rattle.pw_tree.specs.Trees.{Expr, Specifiers}
use Rattle.pw_tree.specs.WellFormed.{WellFormed, WellFormedSpecifiers, WellFormedDeclarator}
use Rattle.pw_parse_grammar.specs.declared.place.Place.{Place}
use Rattle.pw_parse_grammar.specs.Input.{Input, Parser}
use Rattle.pw_parse_grammar.specs.Parts.{Parts, Declared}
use Rattle.pw_parse_grammar.proofs.Trees.Base.{names_of}
use Rattle.pw_parse_grammar.proofs.Written.Knows.{MayHold, place_of, declared}
use Rattle.pw_parse_grammar.proofs.Sound.Base.{Post, Reads}

-- from i, where env is visible, to j stands an expression of level k or below
pub record IsExpr (k : ℕ) (env : Env) (i : Input) (e : Expr) (j : Input) : Type 0 where
  pub reads : Reads i j (after_expr env e) (spell_expr e)
  pub holds : WellFormed env e
  pub low : level e ≤ k
  pub numbered : Numbered i.next e

pub record IsSpecifiers (storage : Bool) (env : Env) (i : Input) (ss : Specifiers) (j : Input) : Type 0 where
  pub reads : Reads i j (after_specifiers env ss) (spell_specifiers ss)
  pub holds : WellFormedSpecifiers env false ss
  pub may : MayHold storage ss
  pub numbered : NumberedSpecifiers i.next ss

pub record IsDeclarator (place : Place) (typed : Bool) (env : Env) (i : Input) (x : Declared) (j : Input) : Type 0 where
  pub reads : Reads i j (after_declarator env x.tree) (spell_declarator x.tree)
  pub holds : WellFormedDeclarator env typed (place_of place) x.tree
  pub numbered : NumberedDeclarator i.next x.tree
  pub same : x ≡ declared x.tree

abbrev pub SoundExpr : ℕ → Parser Expr → Type 0
SoundExpr k p = (env : Env) (i : Input) → i.names ≡ names_of env → Post (IsExpr k env i) (p i)

abbrev pub SoundSpecifiers : Bool → Parser Specifiers → Type 0
SoundSpecifiers storage p = (env : Env) (i : Input) → i.names ≡ names_of env → Post (IsSpecifiers storage env i) (p i)

abbrev pub SoundDeclarator : Place → Bool → Parser Declared → Type 0
SoundDeclarator place typed p = (env : Env) (i : Input) → i.names ≡ names_of env → Post (IsDeclarator place typed env i) (p i)

-- what the parts read are trees
pub record Sound (parts : Parts) : Type 0 where
  pub expr : (k : ℕ) → 2 ≤ k → SoundExpr k (parts.expr k)
  pub specifiers : (storage : Bool) → SoundSpecifiers storage (parts.specifiers storage)
  pub declarator : (place : Place) (typed : Bool) → SoundDeclarator place typed (parts.declarator place typed)
