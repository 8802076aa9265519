-- The first register that a temporary may have and that is not taken, by sets of registers.
use Rattle.std.proofs.Common.{◌≡◌, ◌⊎◌, ℕ, suc, ◌+◌, ◌-◌, ◌<◌, ◌≤◌, ◌&&◌, ◌||◌, not, Bool, true, false, cond, List, [], ◌∷◌, ◌++◌, refl, sym, ap, ◌∙◌, arith, inl, inr}
use Rattle.std.specs.Prelude.{Option, None, Some, filter, ◌↔◌}
use Rattle.std.specs.Cmp.{both_ways}
use Rattle.std.specs.Option.{option_or}
use Rattle.std.specs.Int.{bit_at}
use Rattle.std.specs.List.{find, range_with_len}
use Rattle.std.proofs.lemmas.Bool.{eqb-true, eq-eqb, or_cases, or_left, or_right}
use Rattle.std.proofs.lemmas.List.Folds.{find-append}
use Rattle.pw_alloc_masks.specs.Masks.{in_mask, HasRegister}

pub in_joined : (webs taken away r : ℕ) (barred full : Bool) → in_mask webs r ≡ barred → (HasRegister taken r ↔ (full ≡ true))
    → (HasRegister away r ↔ (HasRegister webs r ⊎ HasRegister taken r)) → in_mask away r ≡ (barred || full)
in_joined webs taken away r barred full is takes joined = both_ways (in_mask away r) (barred || full)
    (λ e. elim (joined.0 (eqb-true (bit_at away r) 1 e)) [
      | inl w ↦ or_left barred full (sym is ∙ eq-eqb (bit_at webs r) 1 w)
      | inr k ↦ or_right barred full (takes.0 k)
    ])
    (λ e. eq-eqb (bit_at away r) 1 (joined.1 (elim (or_cases barred full e) [
      | inl w ↦ inl (eqb-true (bit_at webs r) 1 (is ∙ w))
      | inr k ↦ inr (takes.1 k)
    ])))

find_step : (taken : ℕ → Bool) (x : ℕ) (left : List ℕ) (o : Option ℕ) (a b t : Bool) → a ≡ (b || t) → taken x ≡ t → o ≡ find (λ r. not (taken r)) left
    → cond (not a) (Some x) o ≡ find (λ r. not (taken r)) (cond (not b) (x ∷ left) left)
find_step taken x left o a true t e is h = ap (λ (c : Bool). cond (not c) (Some x) o) e ∙ h
find_step taken x left o a false true e is h = ap (λ (c : Bool). cond (not c) (Some x) o) e ∙ h ∙ sym (ap (λ (c : Bool). cond (not c) (Some x) (find (λ r. not (taken r)) left)) is)
find_step taken x left o a false false e is h = ap (λ (c : Bool). cond (not c) (Some x) o) e ∙ sym (ap (λ (c : Bool). cond (not c) (Some x) (find (λ r. not (taken r)) left)) is)

-- what is not away is not barred and not taken
pub find_left : (away barred taken : ℕ → Bool) (xs : List ℕ) → ((r : ℕ) → away r ≡ (barred r || taken r)) → find (λ r. not (away r)) xs ≡ find (λ r. not (taken r)) (filter (λ r. not (barred r)) xs)
find_left away barred taken [] all = refl
find_left away barred taken (x ∷ xs) all =
    find_step taken x (filter (λ r. not (barred r)) xs) (find (λ r. not (away r)) xs) (away x) (barred x) (taken x) (all x) refl (find_left away barred taken xs all)

-- what is in one list and passes
among_step : (p : ℕ → Bool) (x : ℕ) (left : List ℕ) (o : Option ℕ) (a b : Bool) → a ≡ (b && p x) → o ≡ find p left → cond a (Some x) o ≡ find p (cond b (x ∷ left) left)
among_step p x left o a true e h = ap (λ (c : Bool). cond c (Some x) o) e ∙ ap (λ (k : Option ℕ). cond (p x) (Some x) k) h
among_step p x left o a false e h = ap (λ (c : Bool). cond c (Some x) o) e ∙ h

pub find_among : (test inside p : ℕ → Bool) (xs : List ℕ) → ((r : ℕ) → test r ≡ (inside r && p r)) → find test xs ≡ find p (filter inside xs)
find_among test inside p [] all = refl
find_among test inside p (x ∷ xs) all = among_step p x (filter inside xs) (find test xs) (test x) (inside x) (all x) (find_among test inside p xs all)

-- in neither of two sets, where one is told by a list
pub in_neither : (cluster away joined r : ℕ) (shared : Bool) → in_mask cluster r ≡ shared → (HasRegister joined r ↔ (HasRegister cluster r ⊎ HasRegister away r)) → in_mask joined r ≡ (shared || in_mask away r)
in_neither cluster away joined r shared is both = in_joined cluster away joined r shared (in_mask away r) is (λ h. eq-eqb (bit_at away r) 1 h, λ e. eqb-true (bit_at away r) 1 e) both

-- ---- registers one behind the other

pub find_here : (p : ℕ → Bool) (r to : ℕ) → r < to → p r ≡ true → find p (range_with_len r (to - r)) ≡ Some r
find_here p r to lt e =
    let more : to - r ≡ suc (to - (r + 1)) = omega (arith, lt) in
    ap (λ (n : ℕ). find p (range_with_len r n)) more ∙ ap (λ (b : Bool). cond b (Some r) (find p (range_with_len (r + 1) (to - (r + 1))))) e

pub find_next : (p : ℕ → Bool) (r to : ℕ) → r < to → p r ≡ false → find p (range_with_len r (to - r)) ≡ find p (range_with_len (r + 1) (to - (r + 1)))
find_next p r to lt e =
    let more : to - r ≡ suc (to - (r + 1)) = omega (arith, lt) in
    ap (λ (n : ℕ). find p (range_with_len r n)) more ∙ ap (λ (b : Bool). cond b (Some r) (find p (range_with_len (r + 1) (to - (r + 1))))) e

pub find_end : (p : ℕ → Bool) (r to : ℕ) → to ≤ r → find p (range_with_len r (to - r)) ≡ None
find_end p r to le = let none : to - r ≡ 0 = omega (arith, le) in ap (λ (n : ℕ). find p (range_with_len r n)) none

-- those of one list and then those of another
pub find_first : (p : ℕ → Bool) (xs ys : List ℕ) (r : ℕ) → find p xs ≡ Some r → find p (xs ++ ys) ≡ Some r
find_first p xs ys r e = find-append p xs ys ∙ ap (λ (o : Option ℕ). option_or o (find p ys)) e

pub find_second : (p : ℕ → Bool) (xs ys : List ℕ) → find p xs ≡ None → find p (xs ++ ys) ≡ find p ys
find_second p xs ys e = find-append p xs ys ∙ ap (λ (o : Option ℕ). option_or o (find p ys)) e
