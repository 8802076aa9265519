-- What is written before points: rows of points, and that it is a temporary of the function.
use Rattle.std.proofs.Common.{◌≡◌, ℕ, zero, suc, ◌+◌, ◌<◌, ◌≤◌, List, [], ◌∷◌, ◌++◌, All, length, map, set, sym, ap, subst, ◌∙◌, arith, inl, inr}
use Rattle.std.specs.Prelude.{Option, None, Some, IfSome, slice_get, Contains, ◌↔◌}
use Rattle.std.specs.List.{AllByRecursion, flat_map}
use Rattle.std.proofs.lemmas.Bool.{cases_eq}
use Rattle.std.proofs.lemmas.List.Concat.{flat_map-cons}
use Rattle.std.proofs.lemmas.List.Elements.{Contains-append_left, Contains-push, Contains-push_cases}
use Rattle.std.proofs.lemmas.Option.{same_Some, slice_get_within}
use Rattle.pw_fix.proofs.Places.{All-at, set_cases}
use Rattle.pw_flow.specs.Outline.{Act, Stretch, Outline}
use Rattle.pw_live.specs.Points.{Point, points_behind, points_in, points}
use Rattle.pw_live_fronts.specs.Blocks.{IsAct, IsStretch, IsOutline}
use Rattle.pw_live_held.specs.Makers.{maker}
use Rattle.pw_alloc_taken.specs.Makers.{AreBelow, AreDefinitions}

-- ---- points behind definitions

pub definitions_none : (makers : List (Option ℕ)) (rows : List (List ℕ)) → All (λ (row : List ℕ). row ≡ []) rows → AreDefinitions makers 0 rows
definitions_none makers rows none t q row at =
    let empty : row ≡ [] = All-at (λ (r : List ℕ). r ≡ []) rows t row none at in (
      λ c. absurd (let k = subst (λ (r : List ℕ). Contains r q) empty c in let lt : k.0 < 0 = k.1 in omega (arith, lt)),
      λ h. absurd (let lt = h.0 in omega (arith, lt)),
    )

-- a point behind an operation that writes nothing
pub definitions_other : (makers : List (Option ℕ)) (rows : List (List ℕ)) (p : ℕ) → slice_get makers p ≡ Some None → AreDefinitions makers p rows → AreDefinitions makers (p + 1) rows
definitions_other makers rows p none before t q row at = (
  λ c. let d = (before t q row at).0 c in (let lt = d.0 in omega (arith, lt), d.1),
  λ h. elim (cases_eq q p) [
    | inl same ↦ absurd (let clash : Some (Some t) ≡ Some None = sym h.1 ∙ ap (slice_get makers) same ∙ none in cc)
    | inr other ↦ let lt = h.0 in (before t q row at).1 (omega (arith, lt, other), h.1)
  ],
)

-- a point behind a definition
pub definitions_more : (makers : List (Option ℕ)) (rows new : List (List ℕ)) (p u : ℕ) (row after : List ℕ) → slice_get makers p ≡ Some (Some u) → slice_get rows u ≡ Some row → after ≡ row ++ p ∷ []
    → new ≡ set rows u after → AreDefinitions makers p rows → AreDefinitions makers (p + 1) new
definitions_more makers rows new p u row after written there more is before t q now at = elim (set_cases rows u t after now (ap (λ (rs : List (List ℕ)). slice_get rs t) (sym is) ∙ at)) [
  | inl h ↦
      let whole : now ≡ row ++ p ∷ [] = h.1 ∙ more in
      let old = before u q row there in (
        λ c. elim (Contains-push_cases row p q (subst (λ (r : List ℕ). Contains r q) whole c)) [
          | inl k ↦ let d = old.0 k in (let lt = d.0 in omega (arith, lt), d.1 ∙ ap (λ (n : ℕ). Some (Some n)) (sym h.0))
          | inr same ↦ (omega (arith, same), ap (slice_get makers) (sym same) ∙ written ∙ ap (λ (n : ℕ). Some (Some n)) (sym h.0))
        ],
        λ d. subst (λ (r : List ℕ). Contains r q) (sym whole) (elim (cases_eq q p) [
          | inl same ↦ subst (Contains (row ++ p ∷ [])) (sym same) (Contains-push row p)
          | inr other ↦ let lt = d.0 in Contains-append_left row (p ∷ []) q (old.1 (omega (arith, lt, other), d.1 ∙ ap (λ (n : ℕ). Some (Some n)) h.0))
        ]),
      )
  | inr h ↦
      let old = before t q now h.1 in (
        λ c. let d = old.0 c in (let lt = d.0 in omega (arith, lt), d.1),
        λ d. elim (cases_eq q p) [
          | inl same ↦ absurd (h.0 (same_Some t u (same_Some (Some t) (Some u) (sym d.1 ∙ ap (slice_get makers) same ∙ written))))
          | inr other ↦ let lt = d.0 in old.1 (omega (arith, lt, other), d.1)
        ],
      )
]

pub definitions_all : (makers : List (Option ℕ)) (rows : List (List ℕ)) (p : ℕ) → length makers ≤ p → AreDefinitions makers p rows
    → (t q : ℕ) (row : List ℕ) → slice_get rows t ≡ Some row → Contains row q ↔ (slice_get makers q ≡ Some (Some t))
definitions_all makers rows p le before t q row at = (
  λ c. ((before t q row at).0 c).1,
  λ e. (before t q row at).1 (let lt = slice_get_within makers q (Some t) e in omega (arith, lt, le), e),
)

-- ---- what is written is a temporary of the function

abbrev MakesBelow : ℕ → Point → Type 0
MakesBelow temps p = IfSome (maker p) (λ t. t < temps)

behind_below : (temps : ℕ) (s : Stretch) (acts : List Act) → AllByRecursion (IsAct temps) acts → AllByRecursion (MakesBelow temps) (points_behind s acts)
behind_below temps s [] all = tt
behind_below temps s (a ∷ acts) all = (all.0.defines, behind_below temps s acts all.1)

each_append : {X : Type 0} (P : X → Type 0) (xs ys : List X) → AllByRecursion P xs → AllByRecursion P ys → AllByRecursion P (xs ++ ys)
each_append P [] ys one two = two
each_append P (x ∷ xs) ys one two = (one.0, each_append P xs ys one.1 two)

blocks_below : (temps blocks : ℕ) (ss : List Stretch) → AllByRecursion (IsStretch temps blocks) ss → AllByRecursion (MakesBelow temps) (flat_map points_in ss)
blocks_below temps blocks [] all = tt
blocks_below temps blocks (s ∷ ss) all =
    subst (AllByRecursion (MakesBelow temps)) (sym (flat_map-cons points_in s ss))
    (each_append (MakesBelow temps) (points_in s) (flat_map points_in ss) (tt, behind_below temps s s.acts all.0.acts) (blocks_below temps blocks ss all.1))

some_below : (temps t : ℕ) (o : Option ℕ) → IfSome o (λ u. u < temps) → o ≡ Some t → t < temps
some_below temps t o holds e = subst (λ (p : Option ℕ). IfSome p (λ u. u < temps)) e holds

each_below : (temps : ℕ) (ps : List Point) → AllByRecursion (MakesBelow temps) ps → (q t : ℕ) → slice_get (map maker ps) q ≡ Some (Some t) → t < temps
each_below temps [] all q t e = absurd cc
each_below temps (p ∷ ps) all zero t e = some_below temps t (maker p) all.0 (same_Some (maker p) (Some t) e)
each_below temps (p ∷ ps) all (suc q) t e = each_below temps ps all.1 q t e

pub makers_below : (f : Outline) (makers : List (Option ℕ)) → IsOutline f → makers ≡ map maker (points f) → AreBelow f.temps makers
makers_below f makers lawful is q t e =
    each_below f.temps (points f) (blocks_below f.temps (length f.blocks) f.blocks lawful.blocks) q t (ap (λ (ms : List (Option ℕ)). slice_get ms q) (sym is) ∙ e)
