-- The one name behind a directive's word.
use Rattle.std.proofs.Common.{◌≡◌, ℕ, true, false, List, [], ◌∷◌, length, get_or, Option, Some, None, refl, sym, arith}
use Rattle.pw_token.specs.Roles.{spelling}
use Rattle.pw_token.specs.declared.token.Token.{Token}
use Rattle.pw_cpp_directives.specs.Directives.{one_name}
use Rattle.pw_cpp_macros.specs.Definitions.{is_word}

pub one_name_other : (source : List ℕ) (tokens : List Token) → (length tokens ≡ 1 → ⊥) → one_name source tokens ≡ None
one_name_other source [] h = refl
one_name_other source (token ∷ []) h = absurd (h refl)
one_name_other source (token ∷ other ∷ tokens) h = refl

pub one_name_word : (source : List ℕ) (tokens : List Token) (token : Token) → length tokens ≡ 1 → token ≡ get_or tokens 0 token → is_word token ≡ true → one_name source tokens ≡ Some (spelling source token)
one_name_word source [] token l e w = absurd (omega (arith, l))
one_name_word source (first ∷ []) token l e w = rw (sym e, w) refl
one_name_word source (first ∷ second ∷ tokens) token l e w = absurd (omega (arith, l))

pub one_name_none : (source : List ℕ) (tokens : List Token) (token : Token) → length tokens ≡ 1 → token ≡ get_or tokens 0 token → is_word token ≡ false → one_name source tokens ≡ None
one_name_none source [] token l e w = absurd (omega (arith, l))
one_name_none source (first ∷ []) token l e w = rw (sym e, w) refl
one_name_none source (first ∷ second ∷ tokens) token l e w = absurd (omega (arith, l))
