-- The symbols of symbols' spellings.
use Rattle.std.proofs.Common.{◌≡◌, List, [], ◌∷◌, map, Some, refl, ap, ◌∙◌}
use Rattle.pw_tree.specs.Symbols.{Symbol, spelled, symbol_of}

-- each symbol is that of its spelling
abbrev pub OneSymbol : Type 0
OneSymbol = (symbol : Symbol) → symbol_of (spelled symbol) ≡ Some symbol

pub symbols_of_spelled : OneSymbol → (tokens : List Symbol) → map symbol_of (map spelled tokens) ≡ map Some tokens
symbols_of_spelled one [] = refl
symbols_of_spelled one (s ∷ tokens) =
    ap (λ v. v ∷ map symbol_of (map spelled tokens)) (one s) ∙ ap (λ v. Some s ∷ v) (symbols_of_spelled one tokens)
