-- No two locals have one temporary.
use Rattle.std.proofs.Common.{◌≡◌, ℕ, zero, suc, ◌+◌, ◌<◌, ◌≤◌, ◌⊎◌, inl, inr, Bool, true, false, true≢false, nat_lt, ltb-true, if◌then◌else◌, Some, List, [], ◌∷◌, slice_get, get_or, ◌&&◌, not, refl, ap, sym, ◌∙◌, subst, arith}
use Rattle.std.proofs.lemmas.Bool.{and_parts}
use Rattle.std.proofs.lemmas.Option.{slice_get_within, unwrap_or-slice_get, same_Some}
use Rattle.pw_types.specs.TypeTrees.{CType, Void, Int, Pointer as PointerTo, Array, Function, Record, type_of, is_volatile}
use Rattle.pw_types.specs.WellTyped.{IsScalar}
use Rattle.pw_types.specs.TypedTrees.{LocalValue}
use Rattle.pw_lower.specs.declared.place.LocalPlace.{LocalPlace}
use Rattle.pw_lower.specs.declared.place.LocalPlace.TheVariants.{Temp, Slot}
use Rattle.pw_lower.specs.Places.{is_scalar, has, is_kept, places_from, places_of, addressed_in_statement}
use Rattle.pw_law_refine.specs.Activations.{Activation, place_in}

temp_at : LocalPlace → ℕ
temp_at (Temp t) = t
temp_at (Slot s) = 0

is_temp : LocalPlace → Bool
is_temp (Temp t) = true
is_temp (Slot s) = false

-- the places of a local and of those behind it, by where it stands
abbrev headed : Bool → Bool → ℕ → ℕ → ℕ → List LocalPlace → List LocalPlace → List LocalPlace → List LocalPlace
headed b p k temp slot xs ys zs = if b then (if p then Temp k ∷ xs else Temp temp ∷ ys) else Slot slot ∷ zs

-- a parameter has its own number, and another local one that was not given out
head-temp : (b p : Bool) (k params temp slot t : ℕ) (xs ys zs : List LocalPlace) → nat_lt k params ≡ p
    → get_or (headed b p k temp slot xs ys zs) 0 (Temp 0) ≡ Temp t → ((t ≡ k) × (k < params)) ⊎ (t ≡ temp)
unfolding temp_at is_temp
head-temp true true k params temp slot t xs ys zs n e = inl (sym (ap temp_at e), ltb-true k params n)
head-temp true false k params temp slot t xs ys zs n e = inr (sym (ap temp_at e))
head-temp false p k params temp slot t xs ys zs n e = absurd (true≢false (sym (ap is_temp e)))

-- of those behind it
tail-temp : (b p : Bool) (k temp slot t i : ℕ) (xs ys zs : List LocalPlace) (R : Type 0)
    → (b ≡ true → p ≡ true → get_or xs i (Temp 0) ≡ Temp t → R) → (b ≡ true → p ≡ false → get_or ys i (Temp 0) ≡ Temp t → R) → (b ≡ false → get_or zs i (Temp 0) ≡ Temp t → R)
    → get_or (headed b p k temp slot xs ys zs) (suc i) (Temp 0) ≡ Temp t → R
tail-temp true true k temp slot t i xs ys zs R f g h e = f refl refl e
tail-temp true false k temp slot t i xs ys zs R f g h e = g refl refl e
tail-temp false p k temp slot t i xs ys zs R f g h e = h refl e

-- a temporary of one of these locals is a parameter's or was not given out before
temp-from : (addressed : List ℕ) (params : ℕ) (locals : List LocalValue) (k temp slot i t : ℕ) (l : LocalValue) → slice_get locals i ≡ Some l
    → get_or (places_from addressed params k temp slot locals) i (Temp 0) ≡ Temp t → ((t ≡ k + i) × (t < params)) ⊎ (temp ≤ t)
temp-from addressed params [] k temp slot i t l there e = absurd (omega (arith, slice_get_within [] i l there))
temp-from addressed params (own ∷ rest) k temp slot zero t l there e =
    elim (head-temp (is_kept addressed k own) (nat_lt k params) k params temp slot t
    (places_from addressed params (k + 1) temp slot rest) (places_from addressed params (k + 1) (temp + 1) slot rest) (places_from addressed params (k + 1) temp (slot + 1) rest) refl e) [
      | inl h ↦ inl (omega (arith, h.0), omega (arith, h.0, h.1))
      | inr h ↦ inr (omega (arith, h))
    ]
temp-from addressed params (own ∷ rest) k temp slot (suc i) t l there e =
    tail-temp (is_kept addressed k own) (nat_lt k params) k temp slot t i
    (places_from addressed params (k + 1) temp slot rest) (places_from addressed params (k + 1) (temp + 1) slot rest) (places_from addressed params (k + 1) temp (slot + 1) rest)
    (((t ≡ k + suc i) × (t < params)) ⊎ (temp ≤ t))
    (λ b p d. later k temp temp i t params (omega arith) (temp-from addressed params rest (k + 1) temp slot i t l there d))
    (λ b p d. later k temp (temp + 1) i t params (omega arith) (temp-from addressed params rest (k + 1) (temp + 1) slot i t l there d))
    (λ b d. later k temp temp i t params (omega arith) (temp-from addressed params rest (k + 1) temp (slot + 1) i t l there d))
    e
  where
    later : (k temp more i t params : ℕ) → temp ≤ more → ((t ≡ k + 1 + i) × (t < params)) ⊎ (more ≤ t) → ((t ≡ k + suc i) × (t < params)) ⊎ (temp ≤ t)
    later k temp more i t params h (inl a) = inl (omega (arith, a.0), a.1)
    later k temp more i t params h (inr b) = inr (omega (arith, h, b))

-- the first has none of those behind it
head-apart : (b p : Bool) (addressed : List ℕ) (params : ℕ) (rest : List LocalValue) (k temp slot i t : ℕ) (l : LocalValue) → slice_get rest i ≡ Some l
    → params ≤ temp → nat_lt k params ≡ p
    → get_or (headed b p k temp slot (places_from addressed params (k + 1) temp slot rest) (places_from addressed params (k + 1) (temp + 1) slot rest) (places_from addressed params (k + 1) temp (slot + 1) rest)) 0 (Temp 0) ≡ Temp t
    → get_or (headed b p k temp slot (places_from addressed params (k + 1) temp slot rest) (places_from addressed params (k + 1) (temp + 1) slot rest) (places_from addressed params (k + 1) temp (slot + 1) rest)) (suc i) (Temp 0) ≡ Temp t
    → ⊥
unfolding temp_at is_temp
head-apart true true addressed params rest k temp slot i t l there h n d e =
    let is : k ≡ t = ap temp_at d in
    elim (temp-from addressed params rest (k + 1) temp slot i t l there e) [
      | inl a ↦ omega (arith, is, a.0)
      | inr b ↦ omega (arith, is, b, h, ltb-true k params n)
    ]
head-apart true false addressed params rest k temp slot i t l there h n d e =
    let is : temp ≡ t = ap temp_at d in
    elim (temp-from addressed params rest (k + 1) (temp + 1) slot i t l there e) [
      | inl a ↦ omega (arith, is, a.1, h)
      | inr b ↦ omega (arith, is, b)
    ]
head-apart false p addressed params rest k temp slot i t l there h n d e = absurd (true≢false (sym (ap is_temp d)))

tails-apart : (b p : Bool) (k temp slot t i j : ℕ) (xs ys zs : List LocalPlace)
    → (get_or xs i (Temp 0) ≡ Temp t → get_or xs j (Temp 0) ≡ Temp t → i ≡ j)
    → (get_or ys i (Temp 0) ≡ Temp t → get_or ys j (Temp 0) ≡ Temp t → i ≡ j)
    → (get_or zs i (Temp 0) ≡ Temp t → get_or zs j (Temp 0) ≡ Temp t → i ≡ j)
    → get_or (headed b p k temp slot xs ys zs) (suc i) (Temp 0) ≡ Temp t → get_or (headed b p k temp slot xs ys zs) (suc j) (Temp 0) ≡ Temp t → i ≡ j
tails-apart true true k temp slot t i j xs ys zs f g h d e = f d e
tails-apart true false k temp slot t i j xs ys zs f g h d e = g d e
tails-apart false p k temp slot t i j xs ys zs f g h d e = h d e

temps-apart : (addressed : List ℕ) (params : ℕ) (locals : List LocalValue) (k temp slot i j t : ℕ) (l r : LocalValue)
    → slice_get locals i ≡ Some l → slice_get locals j ≡ Some r → params ≤ temp
    → get_or (places_from addressed params k temp slot locals) i (Temp 0) ≡ Temp t → get_or (places_from addressed params k temp slot locals) j (Temp 0) ≡ Temp t → i ≡ j
temps-apart addressed params [] k temp slot i j t l r there here h d e = absurd (omega (arith, slice_get_within [] i l there))
temps-apart addressed params (own ∷ rest) k temp slot zero zero t l r there here h d e = refl
temps-apart addressed params (own ∷ rest) k temp slot zero (suc j) t l r there here h d e =
    absurd (head-apart (is_kept addressed k own) (nat_lt k params) addressed params rest k temp slot j t r here h refl d e)
temps-apart addressed params (own ∷ rest) k temp slot (suc i) zero t l r there here h d e =
    absurd (head-apart (is_kept addressed k own) (nat_lt k params) addressed params rest k temp slot i t l there h refl e d)
temps-apart addressed params (own ∷ rest) k temp slot (suc i) (suc j) t l r there here h d e =
    ap suc (tails-apart (is_kept addressed k own) (nat_lt k params) k temp slot t i j
    (places_from addressed params (k + 1) temp slot rest) (places_from addressed params (k + 1) (temp + 1) slot rest) (places_from addressed params (k + 1) temp (slot + 1) rest)
    (λ u v. temps-apart addressed params rest (k + 1) temp slot i j t l r there here h u v)
    (λ u v. temps-apart addressed params rest (k + 1) (temp + 1) slot i j t l r there here (omega (arith, h)) u v)
    (λ u v. temps-apart addressed params rest (k + 1) temp (slot + 1) i j t l r there here h u v) d e)

-- two locals of a function that have one temporary are one
pub places-apart : (x : Activation) (i j t : ℕ) (l r : LocalValue) → slice_get x.function.locals i ≡ Some l → slice_get x.function.locals j ≡ Some r
    → place_in x i ≡ Temp t → place_in x j ≡ Temp t → i ≡ j
places-apart x i j t l r there here d e =
    let f = x.function in
    temps-apart (addressed_in_statement f.body) f.params f.locals 0 f.params 0 i j t l r there here (omega arith)
    (sym (unwrap_or-slice_get (places_of f) i (Temp 0)) ∙ d) (sym (unwrap_or-slice_get (places_of f) j (Temp 0)) ∙ e)

-- ---- what is kept in a temporary is a scalar

head-kept : (b p : Bool) (k temp slot t : ℕ) (xs ys zs : List LocalPlace) → get_or (headed b p k temp slot xs ys zs) 0 (Temp 0) ≡ Temp t → b ≡ true
unfolding is_temp
head-kept true p k temp slot t xs ys zs e = refl
head-kept false p k temp slot t xs ys zs e = absurd (true≢false (sym (ap is_temp e)))

scalar-from : (ty : CType) → is_scalar ty ≡ true → IsScalar ty
scalar-from (Int kind) e = tt
scalar-from (PointerTo q) e = tt
scalar-from Void e = absurd (true≢false (sym e))
scalar-from (Array q n) e = absurd (true≢false (sym e))
scalar-from (Function q ps) e = absurd (true≢false (sym e))
scalar-from (Record n) e = absurd (true≢false (sym e))

kept-in : (addressed : List ℕ) (params : ℕ) (locals : List LocalValue) (k temp slot i t : ℕ) (l : LocalValue) → slice_get locals i ≡ Some l
    → get_or (places_from addressed params k temp slot locals) i (Temp 0) ≡ Temp t → IsScalar (type_of l.ty)
kept-in addressed params [] k temp slot i t l there e = absurd (omega (arith, slice_get_within [] i l there))
kept-in addressed params (own ∷ rest) k temp slot zero t l there e =
    let kept = head-kept (is_kept addressed k own) (nat_lt k params) k temp slot t
    (places_from addressed params (k + 1) temp slot rest) (places_from addressed params (k + 1) (temp + 1) slot rest) (places_from addressed params (k + 1) temp (slot + 1) rest) e in
    subst (λ (a : LocalValue). IsScalar (type_of a.ty)) (same_Some own l there)
    (scalar-from (type_of own.ty) (and_parts (is_scalar (type_of own.ty)) (not (is_volatile own.ty) && not (has k addressed)) kept).0)
kept-in addressed params (own ∷ rest) k temp slot (suc i) t l there e =
    tail-temp (is_kept addressed k own) (nat_lt k params) k temp slot t i
    (places_from addressed params (k + 1) temp slot rest) (places_from addressed params (k + 1) (temp + 1) slot rest) (places_from addressed params (k + 1) temp (slot + 1) rest)
    (IsScalar (type_of l.ty))
    (λ b p d. kept-in addressed params rest (k + 1) temp slot i t l there d)
    (λ b p d. kept-in addressed params rest (k + 1) (temp + 1) slot i t l there d)
    (λ b d. kept-in addressed params rest (k + 1) temp (slot + 1) i t l there d)
    e

pub kept-scalar : (x : Activation) (k t : ℕ) (l : LocalValue) → slice_get x.function.locals k ≡ Some l → place_in x k ≡ Temp t → IsScalar (type_of l.ty)
kept-scalar x k t l there e =
    let f = x.function in
    kept-in (addressed_in_statement f.body) f.params f.locals 0 f.params 0 k t l there (sym (unwrap_or-slice_get (places_of f) k (Temp 0)) ∙ e)
