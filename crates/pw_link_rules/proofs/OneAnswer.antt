-- A list of modules has one answer.
use Rattle.std.proofs.Common.{◌≡◌, ◌≢◌, ℕ, zero, suc, List, [], ◌∷◌, refl, sym, ap, subst, ◌∙◌, arith, inl, inr}
use Rattle.std.specs.Ordering.{nat_cmp, ordering_reverse, ordering_then}
use Rattle.std.specs.Cmp.Lexicographic.{slice_cmp}
use Rattle.std.specs.declared.cmp.Ordering.{Ordering}
use Rattle.std.specs.declared.cmp.Ordering.TheVariants.{Less, Equal, Greater}
use Rattle.std.proofs.lemmas.Bool.{cases_lt}
use Rattle.std.proofs.lemmas.Cmp.{nat_list_cmp_total, lists_total}
use Rattle.std.proofs.lemmas.Map.Lookups.{exact_bytes}
use Rattle.pw_value.specs.declared.fault.LinkFault.{LinkFault}
use Rattle.pw_link_rules.specs.declared.interface.Interface.{Interface}
use Rattle.pw_link_rules.specs.Linking.{Test, few_functions, few_globals, all_defined, defined_once, all_agree, has_main, rank, Passes, Fails, Links, Refusal, IsLeastName, IsLeastPair}

-- ---- a test does not pass and fail

fails_not : (test : Test) (modules : List Interface) (fault : LinkFault) → Fails test modules fault → Passes test modules → ⊥
fails_not few_functions modules fault h passes = omega (arith, h.0, passes)
fails_not few_globals modules fault h passes = omega (arith, h.0, passes)
fails_not all_defined modules fault h passes = passes h.0 h.1.is
fails_not defined_once modules fault h passes = passes h.0 h.1 h.2 h.3.is
fails_not all_agree modules fault h passes = passes h.0 h.1 h.2 h.3.is
fails_not has_main modules fault h passes = h.0 passes

-- ---- what is least is one

level : (one other : Ordering) → one ≡ ordering_reverse other → one ≢ Less → other ≢ Less → one ≡ Equal
level Less other e a b = absurd (a refl)
level Equal other e a b = refl
level Greater Less e a b = absurd (b refl)
level Greater Equal e a b = absurd cc
level Greater Greater e a b = absurd cc

both_level : (one other : Ordering) → ordering_then one other ≡ Equal → (one ≡ Equal) × (other ≡ Equal)
both_level Less other e = absurd cc
both_level Equal other e = (refl, e)
both_level Greater other e = absurd cc

abbrev order : List ℕ → List ℕ → Ordering
order = slice_cmp nat_cmp

pub one_name : (Is : List ℕ → Type 0) (name other : List ℕ) → IsLeastName Is name → IsLeastName Is other → name ≡ other
one_name Is name other a b = exact_bytes name other (level (order name other) (order other name) (nat_list_cmp_total.antisymm name other) (b.least name a.is) (a.least other b.is))

one_triple : (n a b m c d : List ℕ) → slice_cmp order (n ∷ a ∷ b ∷ []) (m ∷ c ∷ d ∷ []) ≡ Equal → (n ≡ m) × (a ≡ c) × (b ≡ d)
one_triple n a b m c d e =
    let p = both_level (order n m) (ordering_then (order a c) (ordering_then (order b d) Equal)) e in
    let q = both_level (order a c) (ordering_then (order b d) Equal) p.1 in
    let r = both_level (order b d) Equal q.1 in
    (exact_bytes n m p.0, exact_bytes a c q.0, exact_bytes b d r.0)

pub one_pair : (Is : List ℕ → List ℕ → List ℕ → Type 0) (n a b m c d : List ℕ) → IsLeastPair Is n a b → IsLeastPair Is m c d → (n ≡ m) × (a ≡ c) × (b ≡ d)
one_pair Is n a b m c d h k =
    one_triple n a b m c d
    (level (slice_cmp order (n ∷ a ∷ b ∷ []) (m ∷ c ∷ d ∷ [])) (slice_cmp order (m ∷ c ∷ d ∷ []) (n ∷ a ∷ b ∷ []))
    ((lists_total nat_list_cmp_total).antisymm (n ∷ a ∷ b ∷ []) (m ∷ c ∷ d ∷ [])) (k.least n a b h.is) (h.least m c d k.is))

-- ---- a test tells one fault

one_told : (test : Test) (modules : List Interface) (fault other : LinkFault) → Fails test modules fault → Fails test modules other → fault ≡ other
one_told few_functions modules fault other h k = h.1 ∙ sym k.1
one_told few_globals modules fault other h k = h.1 ∙ sym k.1
one_told all_defined modules fault other h k = let e = one_name _ h.0 k.0 h.1 k.1 in cc (e, h.2, k.2)
one_told defined_once modules fault other h k = let e = one_pair _ h.0 h.1 h.2 k.0 k.1 k.2 h.3 k.3 in cc (e.0, e.1, e.2, h.4, k.4)
one_told all_agree modules fault other h k = let e = one_pair _ h.0 h.1 h.2 k.0 k.1 k.2 h.3 k.3 in cc (e.0, e.1, e.2, h.4, k.4)
one_told has_main modules fault other h k = h.1 ∙ sym k.1

-- ---- the first test that fails is one

test_at : ℕ → Test
test_at zero = few_functions
test_at (suc zero) = few_globals
test_at (suc (suc zero)) = all_defined
test_at (suc (suc (suc zero))) = defined_once
test_at (suc (suc (suc (suc zero)))) = all_agree
test_at (suc (suc (suc (suc (suc n))))) = has_main

at_rank : (test : Test) → test_at (rank test) ≡ test
unfolding test_at
at_rank few_functions = refl
at_rank few_globals = refl
at_rank all_defined = refl
at_rank defined_once = refl
at_rank all_agree = refl
at_rank has_main = refl

pub one_test : (one other : Test) → rank one ≡ rank other → one ≡ other
one_test one other e = sym (at_rank one) ∙ ap test_at e ∙ at_rank other

pub not_both : (modules : List Interface) (fault : LinkFault) → Links modules → Refusal modules fault → ⊥
not_both modules fault links refused = fails_not refused.failed modules fault refused.fails (links refused.failed)

pub one_fault : (modules : List Interface) (fault other : LinkFault) → Refusal modules fault → Refusal modules other → fault ≡ other
one_fault modules fault other a b =
    elim (cases_lt (rank a.failed) (rank b.failed)) [
      | inl low ↦ absurd (fails_not a.failed modules fault a.fails (b.earlier a.failed low))
      | inr high ↦ elim (cases_lt (rank b.failed) (rank a.failed)) [
        | inl less ↦ absurd (fails_not b.failed modules other b.fails (a.earlier b.failed less))
        | inr more ↦ let e : rank a.failed ≡ rank b.failed = omega (arith, high, more) in
            one_told b.failed modules fault other (subst (λ (t : Test). Fails t modules fault) (one_test a.failed b.failed e) a.fails) b.fails
      ]
    ]
