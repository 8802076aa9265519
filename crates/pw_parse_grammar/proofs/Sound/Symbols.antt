-- The spelling of each symbol that a token shows.
use Rattle.std.proofs.Common.{◌≡◌, ℕ, Bool, true, false, if◌then◌else◌, List, [], ◌∷◌, map, Option, Some, None, option_map, refl, sym, ap, ◌∙◌}
use Rattle.std.specs.Str.{bytes_eq}
use Rattle.std.proofs.lemmas.Slice.Eq.{bytes_eq-Decides}
use Rattle.pw_token.specs.Words.{with_text, keyword_of, keyword_text, all_keywords, mark_of, mark_text, all_marks}
use Rattle.pw_token.specs.declared.token.TokenKind.{TokenKind}
use Rattle.pw_token.specs.declared.token.TokenKind.TheVariants as kind
use Rattle.pw_tree.specs.Symbols.{Symbol, Reserved, Sign, Spelled, spelled, symbol_of, symbol_with}
use Rattle.pw_token.specs.declared.symbol.Keyword.{Keyword}
use Rattle.pw_token.specs.declared.symbol.Mark.{Mark}
use Rattle.pw_parse_grammar.proofs.Sound.Levels.{no_some}

abbrev text_in : {A : Type 0} → (A → List ℕ) → List ℕ → Option A → List ℕ
text_in text s None = s
text_in text s (Some a) = text a

-- what is found has the text
text_found : {A : Type 0} (text : A → List ℕ) (all : List A) (s : List ℕ) → text_in text s (with_text text all s) ≡ s
text_found text [] s = refl
text_found text (a ∷ rest) s = by (bytes_eq s (text a)) refl (text_found text rest s)
  where
    by : (b : Bool) → bytes_eq s (text a) ≡ b → text_in text s (with_text text rest s) ≡ s → text_in text s (if b then Some a else with_text text rest s) ≡ s
    by true e h = sym ((bytes_eq-Decides s (text a)).0 e)
    by false e h = h

abbrev spelled_or : Option Symbol → Spelled
spelled_or None = record { kind = kind.Directive; text = [] }
spelled_or (Some s) = spelled s

keyword-spelled : (text : List ℕ) (s : Symbol) (o : Option Keyword) → text_in keyword_text text o ≡ text → option_map Reserved o ≡ Some s → spelled s ≡ record { kind = kind.Keyword; text = text }
keyword-spelled text s None e h = absurd (no_some s h)
keyword-spelled text s (Some w) e h = sym (ap spelled_or h) ∙ ap (λ v. record { kind = kind.Keyword; text = v }) e

mark-spelled : (text : List ℕ) (s : Symbol) (o : Option Mark) → text_in mark_text text o ≡ text → option_map Sign o ≡ Some s → spelled s ≡ record { kind = kind.Mark; text = text }
mark-spelled text s None e h = absurd (no_some s h)
mark-spelled text s (Some w) e h = sym (ap spelled_or h) ∙ ap (λ v. record { kind = kind.Mark; text = v }) e

kind-spelled : (which : TokenKind) (text : List ℕ) (s : Symbol) → symbol_with which text ≡ Some s → spelled s ≡ record { kind = which; text = text }
unfolding keyword_of mark_of
kind-spelled kind.Keyword text s h = keyword-spelled text s (with_text keyword_text all_keywords text) (text_found keyword_text all_keywords text) h
kind-spelled kind.Mark text s h = mark-spelled text s (with_text mark_text all_marks text) (text_found mark_text all_marks text) h
kind-spelled kind.Identifier text s h = sym (ap spelled_or h)
kind-spelled kind.Number text s h = sym (ap spelled_or h)
kind-spelled kind.Floating text s h = sym (ap spelled_or h)
kind-spelled kind.Character text s h = sym (ap spelled_or h)
kind-spelled kind.Wide text s h = sym (ap spelled_or h)
kind-spelled kind.Text text s h = sym (ap spelled_or h)
kind-spelled kind.Directive text s h = absurd (no_some s h)

-- the spelling of a token's symbol is the token
pub spelled_of_symbol : (t : Spelled) (s : Symbol) → symbol_of t ≡ Some s → spelled s ≡ t
spelled_of_symbol t s h = kind-spelled t.kind t.text s h

abbrev first : List (Option Symbol) → Option Symbol
first [] = None
first (s ∷ rest) = s

abbrev others : List (Option Symbol) → List (Option Symbol)
others [] = []
others (s ∷ rest) = rest

no_more : (s : Option Symbol) (rest : List (Option Symbol)) → [] ≡ s ∷ rest → ⊥
no_more s rest h = cc

pub spelled_of_symbols : (tokens : List Spelled) (symbols : List Symbol) → map symbol_of tokens ≡ map Some symbols → map spelled symbols ≡ tokens
spelled_of_symbols [] [] h = refl
spelled_of_symbols [] (s ∷ symbols) h = absurd (no_more (Some s) (map Some symbols) h)
spelled_of_symbols (t ∷ tokens) [] h = absurd (no_more (symbol_of t) (map symbol_of tokens) (sym h))
spelled_of_symbols (t ∷ tokens) (s ∷ symbols) h =
    ap (λ v. v ∷ map spelled symbols) (spelled_of_symbol t s (ap first h)) ∙ ap (λ v. t ∷ v) (spelled_of_symbols tokens symbols (ap others h))
