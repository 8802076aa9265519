-- The keywords and the marks of C90, each with its spelling.
use Rattle.std.specs.Prelude.{ℕ, Bool, if◌then◌else◌, List, [], ◌∷◌, ◌++◌, map, codes, bytes_eq, Option, Some, None, slice_index, ◌==◌}
use Rattle.std.specs.List.{list_any, filter}
use Rattle.pw_token.specs.declared.symbol.Keyword.{Keyword}
use Rattle.pw_token.specs.declared.symbol.Keyword.TheVariants as k
use Rattle.pw_token.specs.declared.symbol.Mark.{Mark}
use Rattle.pw_token.specs.declared.symbol.Mark.TheVariants as m

-- 6.1.1
abbrev pub keyword_text : Keyword → List ℕ
keyword_text k.Auto = codes "auto"
keyword_text k.Break = codes "break"
keyword_text k.Case = codes "case"
keyword_text k.Char = codes "char"
keyword_text k.Const = codes "const"
keyword_text k.Continue = codes "continue"
keyword_text k.Default = codes "default"
keyword_text k.Do = codes "do"
keyword_text k.Double = codes "double"
keyword_text k.Else = codes "else"
keyword_text k.Enum = codes "enum"
keyword_text k.Extern = codes "extern"
keyword_text k.Float = codes "float"
keyword_text k.For = codes "for"
keyword_text k.Goto = codes "goto"
keyword_text k.If = codes "if"
keyword_text k.Int = codes "int"
keyword_text k.Long = codes "long"
keyword_text k.Register = codes "register"
keyword_text k.Return = codes "return"
keyword_text k.Short = codes "short"
keyword_text k.Signed = codes "signed"
keyword_text k.Sizeof = codes "sizeof"
keyword_text k.Static = codes "static"
keyword_text k.Struct = codes "struct"
keyword_text k.Switch = codes "switch"
keyword_text k.Typedef = codes "typedef"
keyword_text k.Union = codes "union"
keyword_text k.Unsigned = codes "unsigned"
keyword_text k.Void = codes "void"
keyword_text k.Volatile = codes "volatile"
keyword_text k.While = codes "while"

-- 6.1.5, 6.1.6
abbrev pub mark_text : Mark → List ℕ
mark_text m.OpenBracket = codes "["
mark_text m.CloseBracket = codes "]"
mark_text m.OpenParen = codes "("
mark_text m.CloseParen = codes ")"
mark_text m.Dot = codes "."
mark_text m.Arrow = codes "->"
mark_text m.Increment = codes "++"
mark_text m.Decrement = codes "--"
mark_text m.Ampersand = codes "&"
mark_text m.Star = codes "*"
mark_text m.Plus = codes "+"
mark_text m.Minus = codes "-"
mark_text m.Tilde = codes "~"
mark_text m.Exclamation = codes "!"
mark_text m.Slash = codes "/"
mark_text m.Percent = codes "%"
mark_text m.LeftShift = codes "<<"
mark_text m.RightShift = codes ">>"
mark_text m.Less = codes "<"
mark_text m.Greater = codes ">"
mark_text m.LessEqual = codes "<="
mark_text m.GreaterEqual = codes ">="
mark_text m.EqualEqual = codes "=="
mark_text m.NotEqual = codes "!="
mark_text m.Caret = codes "^"
mark_text m.Bar = codes "|"
mark_text m.AndAnd = codes "&&"
mark_text m.BarBar = codes "||"
mark_text m.Question = codes "?"
mark_text m.Colon = codes ":"
mark_text m.Equal = codes "="
mark_text m.StarEqual = codes "*="
mark_text m.SlashEqual = codes "/="
mark_text m.PercentEqual = codes "%="
mark_text m.PlusEqual = codes "+="
mark_text m.MinusEqual = codes "-="
mark_text m.LeftShiftEqual = codes "<<="
mark_text m.RightShiftEqual = codes ">>="
mark_text m.AmpersandEqual = codes "&="
mark_text m.CaretEqual = codes "^="
mark_text m.BarEqual = codes "|="
mark_text m.Comma = codes ","
mark_text m.OpenBrace = codes "{"
mark_text m.CloseBrace = codes "}"
mark_text m.Semicolon = codes ";"
mark_text m.Ellipsis = codes "..."

abbrev pub all_keywords : List Keyword
all_keywords =
    k.Auto ∷ k.Break ∷ k.Case ∷ k.Char ∷ k.Const ∷ k.Continue ∷ k.Default ∷ k.Do ∷ k.Double ∷ k.Else ∷ k.Enum ∷
    k.Extern ∷ k.Float ∷ k.For ∷ k.Goto ∷ k.If ∷ k.Int ∷ k.Long ∷ k.Register ∷ k.Return ∷ k.Short ∷ k.Signed ∷
    k.Sizeof ∷ k.Static ∷ k.Struct ∷ k.Switch ∷ k.Typedef ∷ k.Union ∷ k.Unsigned ∷ k.Void ∷ k.Volatile ∷ k.While ∷ []

abbrev pub all_marks : List Mark
all_marks =
    m.OpenBracket ∷ m.CloseBracket ∷ m.OpenParen ∷ m.CloseParen ∷ m.Dot ∷ m.Arrow ∷ m.Increment ∷ m.Decrement ∷
    m.Ampersand ∷ m.Star ∷ m.Plus ∷ m.Minus ∷ m.Tilde ∷ m.Exclamation ∷ m.Slash ∷ m.Percent ∷ m.LeftShift ∷
    m.RightShift ∷ m.Less ∷ m.Greater ∷ m.LessEqual ∷ m.GreaterEqual ∷ m.EqualEqual ∷ m.NotEqual ∷ m.Caret ∷ m.Bar ∷
    m.AndAnd ∷ m.BarBar ∷ m.Question ∷ m.Colon ∷ m.Equal ∷ m.StarEqual ∷ m.SlashEqual ∷ m.PercentEqual ∷ m.PlusEqual ∷
    m.MinusEqual ∷ m.LeftShiftEqual ∷ m.RightShiftEqual ∷ m.AmpersandEqual ∷ m.CaretEqual ∷ m.BarEqual ∷ m.Comma ∷
    m.OpenBrace ∷ m.CloseBrace ∷ m.Semicolon ∷ m.Ellipsis ∷ []

-- the first of a list with these bytes
abbrev pub with_text : {A : Type 0} → (A → List ℕ) → List A → List ℕ → Option A
with_text text [] s = None
with_text text (a ∷ rest) s = if bytes_eq s (text a) then Some a else with_text text rest s

-- those of a list whose bytes begin with a byte
abbrev pub starting_with : {A : Type 0} → (A → List ℕ) → ℕ → List A → List A
starting_with text first = filter (λ a. first == slice_index (text a) 0)

unfoldable pub keyword_of : List ℕ → Option Keyword
keyword_of = with_text keyword_text all_keywords

unfoldable pub mark_of : List ℕ → Option Mark
mark_of = with_text mark_text all_marks

abbrev pub keywords : List (List ℕ)
keywords = map keyword_text all_keywords

-- the marks of the grammar, and `#` and `##`, which stand in directives alone
abbrev pub marks : List (List ℕ)
marks = map mark_text all_marks ++ codes "#" ∷ codes "##" ∷ []

unfoldable pub is_keyword : List ℕ → Bool
is_keyword s = list_any (bytes_eq s) keywords

unfoldable pub is_mark : List ℕ → Bool
is_mark s = list_any (bytes_eq s) marks
