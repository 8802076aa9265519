-- The loop over functions and directives at once.
use Rattle.std.proofs.Common.{◌≡◌, ◌<◌, ◌+◌, ℕ, zero, suc, min, Option, Some, None, List, [], ◌∷◌, ◌++◌, length, get_or, drop, drop-cons, arith, refl, sym, ap, ◌∙◌, subst, append_assoc, append-nil, Bor}
use Rattle.std.specs.List.{AllByRecursion}
use Rattle.std.proofs.iter.Yields.{fronts}
use Rattle.std.proofs.lemmas.Iterator.{zips}
use Rattle.std.proofs.lemmas.Slice.Zip.{zip_turn, zip_end}
use Rattle.std.specs.Iterator.{Yields}
use Rattle.std.specs.declared.iter.Zip.{Zip}
use Rattle.std.specs.declared.slice.Iter.{Iter}
use Rattle.std.specs.Iterator.Adapters.{zip_first, zip_second}
use Rattle.std.specs.Slice.Iter.{iter_rest}
use Rattle.pw_flow.specs.declared.flow.FlowFn.{FlowFn}
use Rattle.pw_db.specs.declared.database.Directives.{Directives}
use Rattle.pw_object.specs.declared.functions.ObjectFn.{ObjectFn}
use Rattle.pw_phase_two.specs.Phases.{all_compiled, compiled}

-- ---- two slices at once

-- where this turn's pair is in the slices
pub pair_at :
    {A B : Type 0} (s t u : Zip (Iter A) (Iter B)) (r : Option (Bor A × Bor B)) (ks : List A) (vs : List B) (xs : List (Bor A × Bor B)) (p : Bor A × Bor B)
    → Yields (zips fronts fronts) s xs t → r ≡ Some p → zips fronts fronts t r u
    → iter_rest (zip_first s) ≡ ks → iter_rest (zip_second s) ≡ vs
    → (length xs < length ks) × (length xs < length vs) × (p.0.now ≡ get_or ks (length xs) p.0.now) × (p.1.now ≡ get_or vs (length xs) p.1.now)
pair_at s t u r ks vs xs p y is steps first second =
    let z = zip_turn ks vs xs s t u r first second y p is steps in
    (z.0, z.1, z.2 p.0.now, z.3 p.1.now)

-- how many turns there were
pub pairs_ended :
    {A B : Type 0} (s t u : Zip (Iter A) (Iter B)) (r : Option (Bor A × Bor B)) (ks : List A) (vs : List B) (xs : List (Bor A × Bor B))
    → Yields (zips fronts fronts) s xs t → r ≡ None → zips fronts fronts t r u
    → iter_rest (zip_first s) ≡ ks → iter_rest (zip_second s) ≡ vs
    → length xs ≡ min (length ks) (length vs)
pairs_ended s t u r ks vs xs y is steps first second = zip_end ks vs xs s t u r first second y is steps

-- ---- places of a list

pub each_at : {A : Type 0} (P : A → Type 0) (xs : List A) (i : ℕ) (x : A) → AllByRecursion P xs → i < length xs → x ≡ get_or xs i x → P x
each_at P [] i x all h e = absurd (omega (arith, h))
each_at P (y ∷ ys) zero x all h e = subst P (sym e) all.0
each_at P (y ∷ ys) (suc i) x all h e = each_at P ys i x all.1 (omega (arith, h)) e

next_at : {A : Type 0} (xs : List A) (i : ℕ) (x : A) → i < length xs → x ≡ get_or xs i x → drop i xs ≡ x ∷ drop (i + 1) xs
next_at xs i x h e =
    let more : suc i ≡ i + 1 = omega arith in
    drop-cons xs i x h ∙ ap (λ v. v ∷ drop (suc i) xs) (sym e) ∙ ap (λ k. x ∷ drop k xs) more

-- ---- functions and directives

-- one more function is compiled
pub compiled_turn : (fs : List FlowFn) (ds : List (List ℕ × Directives)) (i j : ℕ) (f : FlowFn) (d : List ℕ × Directives) (made more all : List ObjectFn) → j ≡ i + 1
    → i < length fs → i < length ds → f ≡ get_or fs i f → d ≡ get_or ds i d
    → made ++ all_compiled (drop i fs) (drop i ds) ≡ all → more ≡ made ++ compiled f d.1 ∷ [] → more ++ all_compiled (drop j fs) (drop j ds) ≡ all
compiled_turn fs ds i j f d made more all next lf ld ef ed so_far e =
    ap (λ (os : List ObjectFn). os ++ all_compiled (drop j fs) (drop j ds)) e
    ∙ append_assoc made (compiled f d.1 ∷ []) (all_compiled (drop j fs) (drop j ds))
    ∙ ap (λ (k : ℕ). made ++ compiled f d.1 ∷ all_compiled (drop k fs) (drop k ds)) next
    ∙ ap (λ (gs : List FlowFn). made ++ all_compiled gs (d ∷ drop (i + 1) ds)) (sym (next_at fs i f lf ef))
    ∙ ap (λ (gs : List (List ℕ × Directives)). made ++ all_compiled (drop i fs) gs) (sym (next_at ds i d ld ed))
    ∙ so_far

no_directives : (fs : List FlowFn) → all_compiled fs [] ≡ []
no_directives [] = refl
no_directives (f ∷ fs) = refl

-- behind the end of one list nothing is left to be compiled
none_left : (i : ℕ) (fs : List FlowFn) (ds : List (List ℕ × Directives)) → i ≡ min (length fs) (length ds) → all_compiled (drop i fs) (drop i ds) ≡ []
none_left zero [] ds h = refl
none_left zero (f ∷ fs) [] h = refl
none_left zero (f ∷ fs) (d ∷ ds) h = absurd (omega arith)
none_left (suc i) [] ds h = refl
none_left (suc i) (f ∷ fs) [] h = no_directives (drop i fs)
none_left (suc i) (f ∷ fs) (d ∷ ds) h = none_left i fs ds (omega arith)

-- all functions are compiled
pub compiled_end : (fs : List FlowFn) (ds : List (List ℕ × Directives)) (i : ℕ) (made all : List ObjectFn) → i ≡ min (length fs) (length ds)
    → made ++ all_compiled (drop i fs) (drop i ds) ≡ all → made ≡ all
compiled_end fs ds i made all e so_far =
    sym (append-nil made) ∙ ap (λ (os : List ObjectFn). made ++ os) (sym (none_left i fs ds e)) ∙ so_far
