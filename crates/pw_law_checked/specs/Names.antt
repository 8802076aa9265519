-- What is asked of texts beside their grammar: the string literals of a tree are no longer than an object can be, all together. And the
-- numbers of hidden objects have 32 bits, as in each module that the code makes.
use Rattle.std.specs.Prelude.{ℕ, ◌+◌, ◌<◌, ◌≤◌, ◌^◌, List, [], ◌∷◌, length, All}
use Rattle.pw_value.specs.Limits.{size_limit}
use Rattle.pw_tree.specs.Spelling.{symbols}
use Rattle.pw_tree.specs.Symbols as symbol
use Rattle.pw_tree.specs.Trees.{Module}
use Rattle.pw_types.specs.TypedTrees.{Symbol, External, Internal, Hidden, ModuleValue}

-- bytes of a string literal, its quotes included
abbrev pub text_length : symbol.Symbol → ℕ
text_length (symbol.Text text) = length text
text_length _ = 0

abbrev pub texts_length : List symbol.Symbol → ℕ
texts_length [] = 0
texts_length (x ∷ xs) = text_length x + texts_length xs

abbrev pub HasShortStrings : Module → Type 0
HasShortStrings tree = texts_length (symbols tree) ≤ size_limit

abbrev pub HasWord : Symbol → Type 0
HasWord (External name) = Unit {0}
HasWord (Internal name) = Unit {0}
HasWord (Hidden k) = k < 2 ^ 32

abbrev pub AreNumbered : ModuleValue → Type 0
AreNumbered m = All (λ g. HasWord g.name) m.globals
