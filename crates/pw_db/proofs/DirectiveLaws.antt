-- A database gives each function one list of directives.
use Rattle.std.proofs.Common.{◌≡◌, ◌≢◌, ⊎_elim, ℕ, List, [], ◌∷◌, map, All, None, refl, sym, ap, subst, ◌∙◌, inl, inr}
use Rattle.std.proofs.lemmas.List.Elements.{recursion_from_All}
use Rattle.std.specs.List.{AllByRecursion}
use Rattle.pw_files.proofs.Standing.{Has, contains_by, has_by, has_each, stands_or_not}
use Rattle.pw_db.specs.declared.database.Directives.{Directives}
use Rattle.pw_db.specs.Database.{EachTwo, IsDatabase, HasDirectives}
use Rattle.pw_db.proofs.StoringLaws.{rising_differ}

-- no two functions of one name
one_of_two : (fs : List (List ℕ × Directives)) → EachTwo (λ f g. f.0 ≢ g.0) fs → (f g : List ℕ × Directives) → Has f fs → Has g fs → f.0 ≡ g.0 → f ≡ g
one_of_two [] two f g h k e = absurd h
one_of_two (x ∷ xs) two f g (inl a) (inl b) e = sym a ∙ b
one_of_two (x ∷ xs) two f g (inl a) (inr k) e = absurd (has_each (λ y. x.0 ≢ y.0) xs g two.0 k (ap (λ (y : List ℕ × Directives). y.0) a ∙ e))
one_of_two (x ∷ xs) two f g (inr h) (inl b) e = absurd (has_each (λ y. x.0 ≢ y.0) xs f two.0 h (ap (λ (y : List ℕ × Directives). y.0) b ∙ sym e))
one_of_two (x ∷ xs) two f g (inr h) (inr k) e = one_of_two xs two.1 f g h k e

both_same : (f g : List ℕ × Directives) → f.0 ≡ g.0 → f.1 ≡ g.1 → f ≡ g
both_same f g e d = ap (λ (n : List ℕ). (n, f.1)) e ∙ ap (λ (k : Directives). (g.0, k)) d

one_given : (fs : List (List ℕ × Directives)) → IsDatabase fs → (f g : List ℕ × Directives) → HasDirectives fs f → HasDirectives fs g → f.0 ≡ g.0 → f ≡ g
one_given fs is f g one two e =
    let names : List (List ℕ) = map (λ k. k.0) fs in
    ⊎_elim {C = f ≡ g}
    (λ there. one_of_two fs (rising_differ None fs is.functions) f g (has_by f fs (one.found (contains_by f.0 names there)))
    (has_by g fs (two.found (contains_by g.0 names (subst (λ (n : List ℕ). Has n names) e there)))) e)
    (λ lacks. both_same f g e (one.lacks (λ h. lacks (has_by f.0 names h)) ∙ sym (two.lacks (λ h. lacks (subst (λ (n : List ℕ). Has n names) (sym e) (has_by g.0 names h))))))
    (stands_or_not f.0 names)

one_list : (fs : List (List ℕ × Directives)) → IsDatabase fs → (gs hs : List (List ℕ × Directives)) → AllByRecursion (HasDirectives fs) gs → AllByRecursion (HasDirectives fs) hs → map (λ f. f.0) gs ≡ map (λ f. f.0) hs → gs ≡ hs
one_list fs is [] [] one two e = refl
one_list fs is [] (h ∷ hs) one two e = cc
one_list fs is (g ∷ gs) [] one two e = cc
one_list fs is (g ∷ gs) (h ∷ hs) one two e =
    let first : g ≡ h = one_given fs is g h one.0 two.0 (cons_first g.0 h.0 (map (λ f. f.0) gs) (map (λ f. f.0) hs) e) in
    let rest : gs ≡ hs = one_list fs is gs hs one.1 two.1 (cons_rest g.0 h.0 (map (λ f. f.0) gs) (map (λ f. f.0) hs) e) in
    ap (λ (k : List ℕ × Directives). k ∷ gs) first ∙ ap (λ (ks : List (List ℕ × Directives)). h ∷ ks) rest
  where
    cons_first : (n m : List ℕ) (ns ms : List (List ℕ)) → n ∷ ns ≡ m ∷ ms → n ≡ m
    cons_first n m ns ms e = cc

    cons_rest : (n m : List ℕ) (ns ms : List (List ℕ)) → n ∷ ns ≡ m ∷ ms → ns ≡ ms
    cons_rest n m ns ms e = cc

pub directives_are_one : (fs : List (List ℕ × Directives)) → IsDatabase fs → (gs hs : List (List ℕ × Directives)) → All (HasDirectives fs) gs → All (HasDirectives fs) hs → map (λ f. f.0) gs ≡ map (λ f. f.0) hs → gs ≡ hs
directives_are_one fs is gs hs one two e = one_list fs is gs hs (recursion_from_All (HasDirectives fs) gs one) (recursion_from_All (HasDirectives fs) hs two) e
