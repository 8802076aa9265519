-- What writing a tree's tokens does to the tokens that stand already.
use Rattle.std.specs.Prelude.{◌≡◌, false, List, ◌++◌, map}
use Rattle.pw_tree.specs.Symbols as symbol
use Rattle.pw_tree.specs.Symbols.{Symbol, spelled}
use Rattle.pw_tree.specs.Trees.{Expr, Unary, Chain, Conditional, Assign}
use Rattle.pw_tree_spell.specs.declared.spelled.Spelled.{Spelled}
use Rattle.pw_tree_spell.specs.declared.spelled.Writer.{Writer}

abbrev pub view_spelled : Spelled → symbol.Spelled
view_spelled t = record { kind = t.kind; text = t.text.items }

-- the tokens that stand, and behind them these symbols
unfoldable pub followed : List Spelled → List Symbol → List symbol.Spelled
followed tokens z = map view_spelled tokens ++ map spelled z

-- Unless the writer is full, the new tokens are the old ones with what `spell` puts before whatever follows.
abbrev pub Writes : (List Symbol → List Symbol) → Writer → Writer → Type 0
Writes spell old new = new.full ≡ false → (old.full ≡ false) × ((z : List Symbol) → followed new.tokens.items z ≡ followed old.tokens.items (spell z))

-- Unless it is full, the new tokens with what is still to come are the old ones with all of it.
abbrev pub Goes : (List Symbol → List Symbol) → (List Symbol → List Symbol) → Writer → Writer → Type 0
Goes rest whole old new = new.full ≡ false → (old.full ≡ false) × ((z : List Symbol) → followed new.tokens.items (rest z) ≡ followed old.tokens.items (whole z))

-- The same for whatever rest of a list is still to come.
abbrev pub GoesBefore : {A : Type 0} → (A → List Symbol → List Symbol) → (A → List Symbol → List Symbol) → Writer → Writer → Type 0
GoesBefore {A = A} rest whole old new = new.full ≡ false → (old.full ≡ false) × ((more : A) (z : List Symbol) → followed new.tokens.items (rest more z) ≡ followed old.tokens.items (whole more z))

-- the expression's operands have operators before or between them
abbrev pub HasOperators : Expr → Type 0
HasOperators (Unary n op e) = Unit {0}
HasOperators (Chain e ops) = Unit {0}
HasOperators (Conditional n c a b) = Unit {0}
HasOperators (Assign n op l r) = Unit {0}
HasOperators _ = ⊥
