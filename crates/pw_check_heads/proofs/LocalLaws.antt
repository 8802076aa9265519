-- Lists of locals and of numbers.
use Rattle.std.proofs.Common.{◌≡◌, ℕ, ◌+◌, ◌<◌, ◌≤◌, Bool, true, false, ◌&&◌, is_some, List, [], ◌∷◌, ◌++◌, length, get_or, drop, add-one, ap, sym, ◌∙◌}
use Rattle.std.proofs.lemmas.List.{at_drop_more, at_drop_all}
use Rattle.std.specs.List.{list_all}
use Rattle.pw_check_state.specs.PhraseViews.{view_parameter, view_parameters}
use Rattle.pw_check_state.specs.declared.phrase.Parameter.{Parameter}
use Rattle.pw_check_rules.specs.Functions.{numbers_below}

pub numbers_more : (n : ℕ) → numbers_below (n + 1) ≡ numbers_below n ++ n ∷ []
numbers_more n = ap numbers_below (add-one n)

-- ---- whether parameters have names

abbrev pub all_named : List Parameter → Bool
all_named ps = list_all (λ p. is_some p.name) (view_parameters ps)

named_first : (p : Parameter) (rest : List Parameter) → is_some (view_parameter p).name ≡ true → all_named (p ∷ rest) ≡ all_named rest
named_first p rest e = ap (λ b. b && all_named rest) e

unnamed_first : (p : Parameter) (rest : List Parameter) → is_some (view_parameter p).name ≡ false → all_named (p ∷ rest) ≡ false
unnamed_first p rest e = ap (λ b. b && all_named rest) e

pub named_more : (all : List Parameter) (n : ℕ) (p : Parameter) → n < length all → p ≡ get_or all n p → is_some (view_parameter p).name ≡ true
    → all_named (drop n all) ≡ all_named (drop (n + 1) all)
named_more all n p less is e =
    at_drop_more all_named all n p less ∙ ap (λ x. all_named (x ∷ drop (n + 1) all)) (sym is) ∙ named_first p (drop (n + 1) all) e

pub unnamed_there : (all : List Parameter) (n : ℕ) (p : Parameter) → n < length all → p ≡ get_or all n p → is_some (view_parameter p).name ≡ false
    → all_named (drop n all) ≡ false
unnamed_there all n p less is e =
    at_drop_more all_named all n p less ∙ ap (λ x. all_named (x ∷ drop (n + 1) all)) (sym is) ∙ unnamed_first p (drop (n + 1) all) e

pub named_end : (all : List Parameter) (n : ℕ) → length all ≤ n → all_named (drop n all) ≡ true
named_end all n end = at_drop_all all_named all n end
