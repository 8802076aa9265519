-- A symbol has one spelling, and what is spelled is one symbol.
use Rattle.std.proofs.Common.{◌≡◌, ℕ, Bool, true, false, List, [], ◌∷◌, bytes_eq, Option, Some, None, option_map, refl, ap, sym, ◌∙◌, if◌then◌else◌}
use Rattle.std.proofs.lemmas.Slice.Eq.{bytes_eq-Decides}
use Rattle.pw_token.specs.Words.{with_text, keyword_of, keyword_text, all_keywords, mark_of, mark_text, all_marks}
use Rattle.pw_token.specs.declared.token.TokenKind.{TokenKind}
use Rattle.pw_token.specs.declared.token.TokenKind.TheVariants as kind
use Rattle.pw_tree.specs.Symbols.{Symbol, Reserved, Sign, Identifier, Number, Floating, Character, Wide, Text, Spelled, spelled, symbol_of, symbol_with}
use Rattle.pw_token.specs.declared.symbol.Keyword.{Keyword}
use Rattle.pw_token.specs.declared.symbol.Keyword.TheVariants as k
use Rattle.pw_token.specs.declared.symbol.Mark.{Mark}
use Rattle.pw_token.specs.declared.symbol.Mark.TheVariants as m

some_injective : {A : Type 0} (a b : A) → Some a ≡ Some b → a ≡ b
some_injective a b e = cc

by_test : {A : Type 0} (text : A → List ℕ) (x a : A) (s : List ℕ) (rest : Option A) (same : Bool) → bytes_eq s (text x) ≡ same →
    (rest ≡ Some a → text a ≡ s) → (if same then Some x else rest) ≡ Some a → text a ≡ s
by_test text x a s rest true e behind h = ap text (sym (some_injective x a h)) ∙ sym ((bytes_eq-Decides s (text x)).0 e)
by_test text x a s rest false e behind h = behind h

-- what is found has these bytes
pub found_text : {A : Type 0} (text : A → List ℕ) (xs : List A) (s : List ℕ) (a : A) → with_text text xs s ≡ Some a → text a ≡ s
found_text text [] s a h = cc
found_text text (x ∷ xs) s a h = by_test text x a s (with_text text xs s) (bytes_eq s (text x)) refl (found_text text xs s a) h

pub keyword_of_text : (w : Keyword) → keyword_of (keyword_text w) ≡ Some w
unfolding keyword_of
keyword_of_text k.Auto = refl
keyword_of_text _ = refl

pub mark_of_text : (s : Mark) → mark_of (mark_text s) ≡ Some s
unfolding mark_of
mark_of_text m.OpenBracket = refl
mark_of_text m.CloseBracket = refl
mark_of_text m.OpenParen = refl
mark_of_text m.CloseParen = refl
mark_of_text m.Dot = refl
mark_of_text m.Arrow = refl
mark_of_text m.Increment = refl
mark_of_text m.Decrement = refl
mark_of_text m.Ampersand = refl
mark_of_text m.Star = refl
mark_of_text m.Plus = refl
mark_of_text m.Minus = refl
mark_of_text m.Tilde = refl
mark_of_text m.Exclamation = refl
mark_of_text m.Slash = refl
mark_of_text m.Percent = refl
mark_of_text m.LeftShift = refl
mark_of_text m.RightShift = refl
mark_of_text m.Less = refl
mark_of_text m.Greater = refl
mark_of_text m.LessEqual = refl
mark_of_text m.GreaterEqual = refl
mark_of_text m.EqualEqual = refl
mark_of_text m.NotEqual = refl
mark_of_text m.Caret = refl
mark_of_text m.Bar = refl
mark_of_text m.AndAnd = refl
mark_of_text m.BarBar = refl
mark_of_text m.Question = refl
mark_of_text m.Colon = refl
mark_of_text m.Equal = refl
mark_of_text m.StarEqual = refl
mark_of_text m.SlashEqual = refl
mark_of_text m.PercentEqual = refl
mark_of_text m.PlusEqual = refl
mark_of_text m.MinusEqual = refl
mark_of_text m.LeftShiftEqual = refl
mark_of_text m.RightShiftEqual = refl
mark_of_text m.AmpersandEqual = refl
mark_of_text m.CaretEqual = refl
mark_of_text m.BarEqual = refl
mark_of_text m.Comma = refl
mark_of_text m.OpenBrace = refl
mark_of_text m.CloseBrace = refl
mark_of_text m.Semicolon = refl
mark_of_text m.Ellipsis = refl

-- each symbol is that of its spelling
pub symbol_of_spelled : (s : Symbol) → symbol_of (spelled s) ≡ Some s
symbol_of_spelled (Reserved w) = ap (option_map Reserved) (keyword_of_text w)
symbol_of_spelled (Sign s) = ap (option_map Sign) (mark_of_text s)
symbol_of_spelled (Identifier s) = refl
symbol_of_spelled (Number s) = refl
symbol_of_spelled (Floating s) = refl
symbol_of_spelled (Character s) = refl
symbol_of_spelled (Wide s) = refl
symbol_of_spelled (Text s) = refl

-- no two symbols are spelled the same
pub one_symbol : (a b : Symbol) → spelled a ≡ spelled b → a ≡ b
one_symbol a b e = some_injective a b (sym (symbol_of_spelled a) ∙ ap symbol_of e ∙ symbol_of_spelled b)

of_keyword : (x : List ℕ) (s : Symbol) (o : Option Keyword) → keyword_of x ≡ o → option_map Reserved o ≡ Some s → spelled s ≡ record { kind = kind.Keyword; text = x }
unfolding keyword_of
of_keyword x s None e h = cc
of_keyword x s (Some w) e h =
    ap spelled (sym (some_injective (Reserved w) s h)) ∙ ap (λ y. record { kind = kind.Keyword; text = y }) (found_text keyword_text all_keywords x w e)

of_mark : (x : List ℕ) (s : Symbol) (o : Option Mark) → mark_of x ≡ o → option_map Sign o ≡ Some s → spelled s ≡ record { kind = kind.Mark; text = x }
unfolding mark_of
of_mark x s None e h = cc
of_mark x s (Some w) e h =
    ap spelled (sym (some_injective (Sign w) s h)) ∙ ap (λ y. record { kind = kind.Mark; text = y }) (found_text mark_text all_marks x w e)

of_kind : (t : TokenKind) (x : List ℕ) (s : Symbol) → symbol_with t x ≡ Some s → spelled s ≡ record { kind = t; text = x }
of_kind kind.Keyword x s h = of_keyword x s (keyword_of x) refl h
of_kind kind.Mark x s h = of_mark x s (mark_of x) refl h
of_kind kind.Identifier x s h = ap spelled (sym (some_injective (Identifier x) s h))
of_kind kind.Number x s h = ap spelled (sym (some_injective (Number x) s h))
of_kind kind.Floating x s h = ap spelled (sym (some_injective (Floating x) s h))
of_kind kind.Character x s h = ap spelled (sym (some_injective (Character x) s h))
of_kind kind.Wide x s h = ap spelled (sym (some_injective (Wide x) s h))
of_kind kind.Text x s h = ap spelled (sym (some_injective (Text x) s h))
of_kind kind.Directive x s h = cc

-- the symbol of a spelling is spelled so
pub spelled_symbol_of : (t : Spelled) (s : Symbol) → symbol_of t ≡ Some s → spelled s ≡ t
spelled_symbol_of t s h = of_kind t.kind t.text s h
