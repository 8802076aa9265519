-- What holds of each function that comes to call itself, and of each function if it holds of all that call it, holds of all.
use Rattle.std.proofs.Common.{◌≡◌, ◌⊎◌, ℕ, zero, suc, ◌+◌, ◌<◌, ◌≤◌, ◌||◌, Bool, true, false, List, [], ◌∷◌, length, refl, sym, subst, arith, inl, inr}
use Rattle.std.specs.List.{AllByRecursion, IsDistinct, list_any}
use Rattle.std.proofs.lemmas.Bool.{or_cases, or_right, eqb-true, false≢true}
use Rattle.std.proofs.lemmas.Map.Keys.{IsDistinct-cons}
use Rattle.std.proofs.lemmas.Map.Steps.{length-le_from_distinct_below}
use Rattle.std.proofs.lemmas.Option.{slice_get_within}
use Rattle.std.proofs.Math.Dec.{eqb}
use Rattle.pw_graph.specs.declared.graph.CallGraph.{CallGraph}
use Rattle.pw_graph.specs.CallGraph.{Calls, Path, call, on}

pub is_false : (b : Bool) → (b ≡ true → ⊥) → b ≡ false
is_false true others = absurd (others refl)
is_false false others = refl

pub all_other : (f : ℕ) (ts : List ℕ) → (list_any (eqb f) ts ≡ true → ⊥) → AllByRecursion (λ t. eqb f t ≡ false) ts
all_other f [] others = tt
all_other f (t ∷ ts) others = (
  is_false (eqb f t) (λ e. others (or_here (eqb f t) (list_any (eqb f) ts) e)),
  all_other f ts (λ h. others (or_right (eqb f t) (list_any (eqb f) ts) h)),
)
  where
    or_here : (x y : Bool) → x ≡ true → (x || y) ≡ true
    or_here true y e = refl
    or_here false y e = absurd (false≢true e)

pub none_distinct : IsDistinct eqb []
unfolding IsDistinct
none_distinct = tt

-- functions to which calls lead from f, no two of them the same
pub record Trail (g : CallGraph) (f : ℕ) (trail : List ℕ) : Type 0 where
  pub distinct : IsDistinct eqb trail
  pub each : (q : ℕ) → list_any (eqb q) trail ≡ true → (q < length g.functions) × Path g f q

-- what holds of each function or else the function does not come to call itself, and holds if it holds of all that call it
pub record IsCarried (g : CallGraph) (P : ℕ → Type 0) : Type 0 where
  pub once : (f : ℕ) → f < length g.functions → P f ⊎ (Path g f f → ⊥)
  pub from_callers : (f : ℕ) → f < length g.functions → ((c : ℕ) → Calls g c f → P c) → P f

-- where one can tell whether it holds
pub where_told : (g : CallGraph) (P : ℕ → Type 0) → ((f : ℕ) → P f ⊎ (P f → ⊥)) → ((f : ℕ) → f < length g.functions → Path g f f → P f) → (f : ℕ) → f < length g.functions → P f ⊎ (Path g f f → ⊥)
where_told g P told in_cycle f lt = elim (told f) [ inl p ↦ inl p | inr others ↦ inr (λ path. others (in_cycle f lt path)) ]

module _ (g : CallGraph) (rows : length g.calls ≡ length g.functions) where
  distinct_with : (f : ℕ) (trail : List ℕ) → Trail g f trail → (Path g f f → ⊥) → IsDistinct eqb (f ∷ trail)
  distinct_with f trail t once = IsDistinct-cons eqb f trail (all_other f trail (λ h. once ((t.each f h).1))) t.distinct

  within : (f : ℕ) (trail : List ℕ) → Trail g f trail → f < length g.functions → (q : ℕ) → list_any (eqb q) (f ∷ trail) ≡ true → q < length g.functions
  within f trail t lt q h = elim (or_cases (eqb q f) (list_any (eqb q) trail) h) [
    | inl e ↦ let same = eqb-true q f e in omega (arith, lt, same)
    | inr k ↦ (t.each q k).0
  ]

  leads : (c f : ℕ) (trail : List ℕ) → Trail g f trail → Calls g c f → (q : ℕ) → list_any (eqb q) (f ∷ trail) ≡ true → Path g c q
  leads c f trail t calls q h = elim (or_cases (eqb q f) (list_any (eqb q) trail) h) [
    | inl e ↦ subst (Path g c) (sym (eqb-true q f e)) (call c f calls)
    | inr k ↦ on c f q calls (t.each q k).1
  ]

  pub longer : (c f : ℕ) (trail : List ℕ) → Trail g f trail → (Path g f f → ⊥) → f < length g.functions → Calls g c f → Trail g c (f ∷ trail)
  longer c f trail t once lt calls = record {
    distinct = distinct_with f trail t once;
    each = λ q h. (within f trail t lt q h, leads c f trail t calls q h);
  }

  pub full : (f : ℕ) (trail : List ℕ) → Trail g f trail → (Path g f f → ⊥) → f < length g.functions → length g.functions ≤ length trail → ⊥
  full f trail t once lt long =
      let few : length (f ∷ trail) ≤ length g.functions = length-le_from_distinct_below (f ∷ trail) (length g.functions) (distinct_with f trail t once) (within f trail t lt) in
      omega (arith, few, long)

  pub caller_within : (c f : ℕ) → Calls g c f → c < length g.functions
  caller_within c f calls = let lt = slice_get_within g.calls c calls.row calls.at in omega (arith, lt, rows)

  climb : (P : ℕ → Type 0) → IsCarried g P → (more : ℕ) (f : ℕ) (trail : List ℕ) → Trail g f trail → f < length g.functions → length g.functions ≤ more + length trail → P f
  climb P k zero f trail t lt long = elim (k.once f lt) [
    | inl p ↦ p
    | inr others ↦ absurd (full f trail t others lt (omega (arith, long)))
  ]
  climb P k (suc more) f trail t lt long = elim (k.once f lt) [
    | inl p ↦ p
    | inr others ↦ k.from_callers f lt (λ c calls. climb P k more c (f ∷ trail) (longer c f trail t others lt calls) (caller_within c f calls) (omega (arith, long)))
  ]

  pub nothing : (f : ℕ) → Trail g f []
  nothing f = record { distinct = none_distinct; each = λ q h. absurd (false≢true h) }

  pub everywhere : (P : ℕ → Type 0) → IsCarried g P → (f : ℕ) → f < length g.functions → P f
  everywhere P k f lt = climb P k (length g.functions) f [] (nothing f) lt (omega arith)
