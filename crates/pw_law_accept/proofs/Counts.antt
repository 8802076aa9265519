-- How often a name stands in a list, and lists in which each name stands once.
use Rattle.std.proofs.Common.{◌≡◌, ◌≢◌, ℕ, ◌+◌, ◌≤◌, Bool, true, false, cond, List, [], ◌∷◌, ◌++◌, refl, ap, subst, ◌∙◌, arith, inl, inr}
use Rattle.std.specs.List.{flat_map}
use Rattle.std.specs.Str.{bytes_eq}
use Rattle.std.proofs.lemmas.Slice.Eq.{bytes_eq-Decides}
use Rattle.std.proofs.lemmas.List.Sums.{sum_by-cons, sum_by-append}
use Rattle.std.proofs.lemmas.List.Concat.{flat_map-cons}
use Rattle.pw_value.specs.ProgramNames.{times}
use Rattle.pw_flow.specs.ValidFlow.{AreDistinct}
use Rattle.pw_files.proofs.Standing.{Has, each_by}
use Rattle.pw_law_shown.proofs.Twice.{Twice}

abbrev pub one : List ℕ → List ℕ → ℕ
one name other = cond (bytes_eq other name) 1 0

pub times_cons : (name first : List ℕ) (rest : List (List ℕ)) → times name (first ∷ rest) ≡ one name first + times name rest
times_cons name first rest = sum_by-cons (λ other. cond (bytes_eq other name) 1 0) first rest

pub times_append : (name : List ℕ) (xs ys : List (List ℕ)) → times name (xs ++ ys) ≡ times name xs + times name ys
times_append name xs ys = sum_by-append (λ other. cond (bytes_eq other name) 1 0) xs ys

one_same : (b : Bool) → b ≡ true → ◌≡◌ {A = ℕ} (cond b 1 0) 1
one_same true e = refl
one_same false e = absurd cc

pub one_self : (name : List ℕ) → one name name ≡ 1
one_self name = one_same (bytes_eq name name) ((bytes_eq-Decides name name).1 refl)

one_by : (b : Bool) → cond b 1 0 ≤ 1
one_by true = omega arith
one_by false = omega arith

pub one_least : (name other : List ℕ) → one name other ≤ 1
one_least name other = one_by (bytes_eq other name)

-- ---- a name that stands there is counted

pub counted : (name : List ℕ) (xs : List (List ℕ)) → Has name xs → 1 ≤ times name xs
counted name [] h = absurd h
counted name (x ∷ xs) (inl e) =
    let c = times_cons name x xs in
    let s : one name x ≡ 1 = ap (one name) e ∙ one_self name in
    omega (arith, c, s)
counted name (x ∷ xs) (inr h) =
    let c = times_cons name x xs in
    let k = counted name xs h in
    omega (arith, c, k)

there_by : (b : Bool) (name x : List ℕ) (xs : List (List ℕ)) → bytes_eq x name ≡ b → 1 ≤ cond b 1 0 + times name xs → (1 ≤ times name xs → Has name xs) → Has name (x ∷ xs)
there_by true name x xs e h later = inl ((bytes_eq-Decides x name).0 e)
there_by false name x xs e h later = inr (later (omega (arith, h)))

pub there : (name : List ℕ) (xs : List (List ℕ)) → 1 ≤ times name xs → Has name xs
there name [] h = absurd (omega (arith, h))
there name (x ∷ xs) h = there_by (bytes_eq x name) name x xs refl (let c = times_cons name x xs in omega (arith, c, h)) (there name xs)

-- ---- twice

twice_by : (b : Bool) (name x : List ℕ) (xs : List (List ℕ)) → bytes_eq x name ≡ b → 2 ≤ cond b 1 0 + times name xs → (2 ≤ times name xs → Twice name name xs) → Twice name name (x ∷ xs)
twice_by true name x xs e h later = inl ((bytes_eq-Decides x name).0 e, there name xs (omega (arith, h)))
twice_by false name x xs e h later = inr (inr (later (omega (arith, h))))

pub twice_counted : (name : List ℕ) (xs : List (List ℕ)) → 2 ≤ times name xs → Twice name name xs
twice_counted name [] h = absurd (omega (arith, h))
twice_counted name (x ∷ xs) h = twice_by (bytes_eq x name) name x xs refl (let c = times_cons name x xs in omega (arith, c, h)) (twice_counted name xs)

-- ---- once

pub distinct_counted : (xs : List (List ℕ)) → ((name : List ℕ) → times name xs ≤ 1) → AreDistinct xs
distinct_counted [] once = tt
distinct_counted (x ∷ xs) once = (
  each_by (λ (other : List ℕ). other ≢ x) xs (λ other h e.
      let c = times_cons x x xs in
      let s = one_self x in
      let k = counted x xs (subst (λ (n : List ℕ). Has n xs) e h) in
      let o = once x in
      omega (arith, c, s, k, o)),
  distinct_counted xs (λ name. let c = times_cons name x xs in let o = once name in omega (arith, c, o)),
)

-- ---- a list of lists

pub times_flat : {X : Type 0} (f g h : X → List (List ℕ)) (name : List ℕ) → ((x : X) → times name (f x) ≡ times name (g x) + times name (h x)) → (xs : List X) → times name (flat_map f xs) ≡ times name (flat_map g xs) + times name (flat_map h xs)
times_flat f g h name each [] = refl
times_flat f g h name each (x ∷ xs) =
    let a : times name (flat_map f (x ∷ xs)) ≡ times name (f x) + times name (flat_map f xs) = ap (times name) (flat_map-cons f x xs) ∙ times_append name (f x) (flat_map f xs) in
    let b : times name (flat_map g (x ∷ xs)) ≡ times name (g x) + times name (flat_map g xs) = ap (times name) (flat_map-cons g x xs) ∙ times_append name (g x) (flat_map g xs) in
    let c : times name (flat_map h (x ∷ xs)) ≡ times name (h x) + times name (flat_map h xs) = ap (times name) (flat_map-cons h x xs) ∙ times_append name (h x) (flat_map h xs) in
    let d = each x in
    let e = times_flat f g h name each xs in
    omega (arith, a, b, c, d, e)

pub times_less : {X : Type 0} (f g : X → List (List ℕ)) (name other : List ℕ) → (xs : List X) → ((x : X) → Has x xs → times name (f x) ≤ times other (g x)) → times name (flat_map f xs) ≤ times other (flat_map g xs)
times_less f g name other [] each = omega arith
times_less f g name other (x ∷ xs) each =
    let a : times name (flat_map f (x ∷ xs)) ≡ times name (f x) + times name (flat_map f xs) = ap (times name) (flat_map-cons f x xs) ∙ times_append name (f x) (flat_map f xs) in
    let b : times other (flat_map g (x ∷ xs)) ≡ times other (g x) + times other (flat_map g xs) = ap (times other) (flat_map-cons g x xs) ∙ times_append other (g x) (flat_map g xs) in
    let d = each x (inl refl) in
    let e = times_less f g name other xs (λ y k. each y (inr k)) in
    omega (arith, a, b, d, e)
