-- The tree of a list of tokens, and where a list of tokens leaves the grammar.
use Rattle.std.specs.Prelude.{◌≡◌, ℕ, ◌+◌, List, [], ◌∷◌, ◌++◌, length, map}
use Rattle.pw_token.specs.declared.token.Token.{Token}
use Rattle.pw_tree.specs.Lexemes.{spelled_in}
use Rattle.pw_tree.specs.Numbering.{NumberedModule}
use Rattle.pw_tree.specs.Spelling.{spelling}
use Rattle.pw_tree.specs.Symbols.{Spelled}
use Rattle.pw_tree.specs.Trees.{Module}
use Rattle.pw_tree.specs.WellFormed.{WellFormedModule}

-- the tokens of a text, with their bytes
abbrev pub spelled_all : List ℕ → List Token → List Spelled
spelled_all text tokens = map (spelled_in text) tokens

-- The tree is one of C90's grammar, its nodes have their tokens' numbers, and it is spelled so.
pub record IsTreeOf (tokens : List Spelled) (tree : Module) : Type 0 where
  pub well_formed : WellFormedModule tree
  pub numbered : NumberedModule tree
  pub spells : spelling tree ≡ tokens

-- The tokens begin the spelling of some well-formed tree.
pub record BeginsTree (tokens : List Spelled) : Type 0 where
  pub tree : Module
  pub rest : List Spelled
  pub well_formed : WellFormedModule tree
  pub begins : spelling tree ≡ tokens ++ rest

-- The token of this number, counted from 1, is the first whose prefix begins no spelling, or it is one more than the count.
pub record IsSyntaxFault (tokens : List Spelled) (number : ℕ) : Type 0 where
  pub front : List Spelled
  pub rest : List Spelled
  pub cut : tokens ≡ front ++ rest
  pub place : number ≡ length front + 1
  pub begins : BeginsTree front
  pub leaves : (token : Spelled) (more : List Spelled) → rest ≡ token ∷ more → BeginsTree (front ++ token ∷ []) → ⊥
  pub no_tree : (tree : Module) → WellFormedModule tree → spelling tree ≡ tokens → ⊥
