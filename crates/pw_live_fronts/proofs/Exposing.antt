-- Numbers of temporaries, and marks.
use Rattle.std.proofs.Common.{◌≡◌, ◌≢◌, ◌⊎◌, ℕ, zero, suc, ◌+◌, ◌<◌, ◌≤◌, ◌&&◌, ◌||◌, not, Bool, true, false, List, [], ◌∷◌, ◌++◌, length, get_or, take, set, refl, sym, ap, subst, ◌∙◌, arith, inl, inr}
use Rattle.std.specs.Prelude.{Option, None, Some, slice_get, slice_index}
use Rattle.std.proofs.lemmas.Bool.{cases_eq, or_cases}
use Rattle.std.proofs.lemmas.Option.{same_Some, slice_get_within}
use Rattle.std.proofs.lemmas.List.{take_more, take_all, append-nil}
use Rattle.std.proofs.lemmas.List.Folds.{list_any_more}
use Rattle.pw_fix.proofs.Places.{slice_get-set_same, slice_get-set_other, set_cases}
use Rattle.pw_flow.specs.Outline.{Act}
use Rattle.pw_live.specs.Liveness.{has, is_that}
use Rattle.pw_live_fronts.specs.Blocks.{uses_first, defines_any}
use Rattle.pw_live.proofs.Paths.{and_both, not_none}

abbrev pub Named : List ℕ → List (Option ℕ) → Type 0
Named names numbers = (i : ℕ) → i < length names → slice_get numbers (slice_index names i) ≡ Some (Some i)

abbrev pub Numbered : List ℕ → List (Option ℕ) → Type 0
Numbered names numbers = (t i : ℕ) → slice_get numbers t ≡ Some (Some i) → slice_get names i ≡ Some t

-- ---- an element behind a list

before_last : {X : Type 0} (xs : List X) (x : X) (i : ℕ) → i < length xs → slice_get (xs ++ x ∷ []) i ≡ slice_get xs i
before_last [] x i lt = absurd (omega (arith, lt))
before_last (y ∷ ys) x zero lt = refl
before_last (y ∷ ys) x (suc i) lt = before_last ys x i (omega (arith, lt))

the_last : {X : Type 0} (xs : List X) (x : X) → slice_get (xs ++ x ∷ []) (length xs) ≡ Some x
the_last [] x = refl
the_last (y ∷ ys) x = the_last ys x

one_longer : {X : Type 0} (xs : List X) (x : X) → length (xs ++ x ∷ []) ≡ length xs + 1
one_longer [] x = refl
one_longer (y ∷ ys) x = let h = one_longer ys x in omega (arith, h)

index_before : (xs : List ℕ) (x i : ℕ) → i < length xs → slice_index (xs ++ x ∷ []) i ≡ slice_index xs i
index_before [] x i lt = absurd (omega (arith, lt))
index_before (y ∷ ys) x zero lt = refl
index_before (y ∷ ys) x (suc i) lt = index_before ys x i (omega (arith, lt))

index_last : (xs : List ℕ) (x : ℕ) → slice_index (xs ++ x ∷ []) (length xs) ≡ x
index_last [] x = refl
index_last (y ∷ ys) x = index_last ys x

-- ---- one more number

pub named_more : (names : List ℕ) (numbers : List (Option ℕ)) (t : ℕ) → slice_get numbers t ≡ Some None → Named names numbers → Named (names ++ t ∷ []) (set numbers t (Some (length names)))
named_more names numbers t free named i lt =
    let new = set numbers t (Some (length names)) in
    let within = slice_get_within numbers t None free in
    elim (cases_eq i (length names)) [
      | inl e ↦
          ap (λ (k : ℕ). slice_get new (slice_index (names ++ t ∷ []) k)) e ∙ ap (slice_get new) (index_last names t)
          ∙ slice_get-set_same numbers t (Some (length names)) within ∙ ap (λ (k : ℕ). Some (Some k)) (sym e)
      | inr other ↦
          let long = one_longer names t in
          let low : i < length names = omega (arith, lt, long, other) in
          let old = named i low in
          let apart : slice_index names i ≢ t = λ same. let clash : Some (Some i) ≡ Some None = sym old ∙ ap (slice_get numbers) same ∙ free in cc in
          ap (slice_get new) (index_before names t i low) ∙ slice_get-set_other numbers t (slice_index names i) (Some (length names)) apart ∙ old
    ]

pub numbered_more : (names : List ℕ) (numbers : List (Option ℕ)) (t : ℕ) → Numbered names numbers → Numbered (names ++ t ∷ []) (set numbers t (Some (length names)))
numbered_more names numbers t numbered u i e = elim (set_cases numbers t u (Some (length names)) (Some i) e) [
  | inl k ↦
      let same : i ≡ length names = same_Some i (length names) k.1 in
      ap (slice_get (names ++ t ∷ [])) same ∙ the_last names t ∙ ap Some (sym k.0)
  | inr k ↦
      let old = numbered u i k.1 in
      before_last names t i (slice_get_within names i u old) ∙ old
]

pub named_now : (names now : List ℕ) (numbers : List (Option ℕ)) (t n : ℕ) → n ≡ length names → now ≡ names ++ t ∷ [] → slice_get numbers t ≡ Some None → Named names numbers → Named now (set numbers t (Some n))
named_now names now numbers t n size is free named =
    subst (λ (k : ℕ). Named now (set numbers t (Some k))) (sym size) (subst (λ (ns : List ℕ). Named ns (set numbers t (Some (length names)))) (sym is) (named_more names numbers t free named))

pub numbered_now : (names now : List ℕ) (numbers : List (Option ℕ)) (t n : ℕ) → n ≡ length names → now ≡ names ++ t ∷ [] → Numbered names numbers → Numbered now (set numbers t (Some n))
numbered_now names now numbers t n size is numbered =
    subst (λ (k : ℕ). Numbered now (set numbers t (Some k))) (sym size) (subst (λ (ns : List ℕ). Numbered ns (set numbers t (Some (length names)))) (sym is) (numbered_more names numbers t numbered))

-- what has a number keeps it
pub number_kept : (numbers : List (Option ℕ)) (t n : ℕ) → slice_get numbers t ≡ Some None → (u i : ℕ) → slice_get numbers u ≡ Some (Some i) → slice_get (set numbers t (Some n)) u ≡ Some (Some i)
number_kept numbers t n free u i e = elim (cases_eq u t) [
  | inl same ↦ absurd (let clash : Some (Some i) ≡ Some None = sym e ∙ ap (slice_get numbers) same ∙ free in cc)
  | inr other ↦ slice_get-set_other numbers t u (Some n) other ∙ e
]

-- ---- operations one behind the other

pub defines_more : (acts : List Act) (t k : ℕ) (d : Act) → k < length acts → defines_any t (take (k + 1) acts) ≡ (defines_any t (take k acts) || is_that (get_or acts k d).defines t)
defines_more acts t k d lt = list_any_more (λ (a : Act). is_that a.defines t) acts k d lt

regroup : (a i u d h : Bool) → (a || (not i && (u || (not d && h)))) ≡ ((a || (not i && u)) || (not (i || d) && h))
regroup true i u d h = refl
regroup false true u d h = refl
regroup false false true d h = refl
regroup false false false d h = refl

pub uses_join : (t : ℕ) (xs ys : List Act) (us : List ℕ) → uses_first t (xs ++ ys) us ≡ (uses_first t xs [] || (not (defines_any t xs) && uses_first t ys us))
uses_join t [] ys us = refl
uses_join t (x ∷ xs) ys us =
    ap (λ (b : Bool). has t x.uses || (not (is_that x.defines t) && b)) (uses_join t xs ys us)
    ∙ regroup (has t x.uses) (is_that x.defines t) (uses_first t xs []) (defines_any t xs) (uses_first t ys us)

-- what is used first by the operations so far and one more
pub uses_more : (acts : List Act) (t k : ℕ) (d : Act) → k < length acts → uses_first t (take (k + 1) acts) [] ≡ true
    → (uses_first t (take k acts) [] ≡ true) ⊎ ((defines_any t (take k acts) ≡ false) × (has t (get_or acts k d).uses ≡ true))
uses_more acts t k d lt e =
    let x = get_or acts k d in
    elim (or_cases (uses_first t (take k acts) []) (not (defines_any t (take k acts)) && uses_first t (x ∷ []) []) (sym (uses_join t (take k acts) (x ∷ []) []) ∙ ap (λ (bs : List Act). uses_first t bs []) (sym (take_more acts k d lt)) ∙ e)) [
      | inl h ↦ inl h
      | inr h ↦
          let both = and_both (not (defines_any t (take k acts))) (uses_first t (x ∷ []) []) h in
          elim (or_cases (has t x.uses) (not (is_that x.defines t) && has t []) both.1) [
            | inl u ↦ inr (not_none (defines_any t (take k acts)) both.0, u)
            | inr u ↦ absurd (let none = (and_both (not (is_that x.defines t)) (has t []) u).1 in cc)
          ]
    ]

-- what a whole block uses first
pub uses_all : (acts : List Act) (us : List ℕ) (t k : ℕ) → length acts ≤ k → uses_first t acts us ≡ true
    → (uses_first t (take k acts) [] ≡ true) ⊎ ((defines_any t (take k acts) ≡ false) × (has t us ≡ true))
uses_all acts us t k le e =
    let whole : take k acts ≡ acts = take_all k acts le in
    let none : acts ++ [] ≡ acts = append-nil acts in
    elim (or_cases (uses_first t acts []) (not (defines_any t acts) && has t us) (sym (uses_join t acts [] us) ∙ ap (λ (bs : List Act). uses_first t bs us) none ∙ e)) [
      | inl h ↦ inl (ap (λ (bs : List Act). uses_first t bs []) whole ∙ h)
      | inr h ↦
          let both = and_both (not (defines_any t acts)) (has t us) h in
          inr (ap (defines_any t) whole ∙ not_none (defines_any t acts) both.0, both.1)
    ]
