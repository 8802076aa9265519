-- What is exposed, use by use, operation by operation and block by block.
use Rattle.std.proofs.Common.{◌≡◌, ◌≢◌, ◌⊎◌, ℕ, ◌+◌, ◌<◌, ◌≤◌, true, List, [], ◌∷◌, length, get_or, set, take, sym, ap, subst, ◌∙◌, arith, inl, inr}
use Rattle.std.specs.Prelude.{Some, slice_get, slice_index, Contains}
use Rattle.std.proofs.lemmas.Bool.{cases_eq, or_left, or_right, eq-eqb}
use Rattle.std.proofs.lemmas.List.{take_all, get_or-set_same, get_or-set_other}
use Rattle.std.proofs.lemmas.Option.{same_Some}
use Rattle.pw_flow.specs.Outline.{Act, Stretch}
use Rattle.pw_live.specs.Liveness.{has, is_that}
use Rattle.pw_live_fronts.specs.Blocks.{uses_first, defines_any}
use Rattle.pw_live.proofs.Paths.{has_there}
use Rattle.pw_live_fronts.proofs.Exposing.{defines_more, uses_more, uses_all}
use Rattle.pw_live_fronts.proofs.MarkSteps.{there_cases}

-- ---- uses

pub nothing_read : (uses : List ℕ) (u : ℕ) → ¬ Contains (take 0 uses) u
nothing_read [] u c = let lt : c.0 < 0 = c.1 in omega (arith, lt)
nothing_read (x ∷ xs) u c = let lt : c.0 < 0 = c.1 in omega (arith, lt)

pub expose_more : (uses marks : List ℕ) (k mark : ℕ) (Old New : ℕ → Type 0) → k < length uses → ((u : ℕ) → Old u → New u)
    → (slice_index marks (get_or uses k 0) ≢ mark → New (get_or uses k 0))
    → ((u : ℕ) → Contains (take k uses) u → slice_index marks u ≢ mark → Old u)
    → (u : ℕ) → Contains (take (k + 1) uses) u → slice_index marks u ≢ mark → New u
expose_more uses marks k mark Old New lt kept now before u there free = elim (there_cases uses k 0 u lt there) [
  | inl c ↦ kept u (before u c free)
  | inr e ↦ subst New e (now (λ m. free (subst (λ (t : ℕ). slice_index marks t ≡ mark) e m)))
]

pub expose_end : (uses marks : List ℕ) (k mark : ℕ) (Old : ℕ → Type 0) → length uses ≤ k
    → ((u : ℕ) → Contains (take k uses) u → slice_index marks u ≢ mark → Old u)
    → (u : ℕ) → Contains uses u → slice_index marks u ≢ mark → Old u
expose_end uses marks k mark Old le before u there free = before u (subst (λ (ts : List ℕ). Contains ts u) (sym (take_all k uses le)) there) free

-- ---- operations

pub marks_more : (acts : List Act) (a : Act) (k mark : ℕ) (old new : List ℕ) → k < length acts → get_or acts k a ≡ a
    → ((t : ℕ) → slice_index new t ≡ mark → (slice_index old t ≡ mark) ⊎ (is_that a.defines t ≡ true))
    → ((t : ℕ) → slice_index old t ≡ mark → defines_any t (take k acts) ≡ true)
    → (t : ℕ) → slice_index new t ≡ mark → defines_any t (take (k + 1) acts) ≡ true
marks_more acts a k mark old new lt is now before t e = elim (now t e) [
  | inl o ↦ defines_more acts t k a lt ∙ or_left (defines_any t (take k acts)) (is_that (get_or acts k a).defines t) (before t o)
  | inr d ↦ defines_more acts t k a lt ∙ or_right (defines_any t (take k acts)) (is_that (get_or acts k a).defines t) (ap (λ (x : Act). is_that x.defines t) is ∙ d)
]

pub acts_more : (acts : List Act) (a : Act) (k mark : ℕ) (marks : List ℕ) (Old New : ℕ → Type 0) → k < length acts → get_or acts k a ≡ a
    → ((t : ℕ) → Old t → New t)
    → ((t : ℕ) → Contains a.uses t → slice_index marks t ≢ mark → New t)
    → ((t : ℕ) → slice_index marks t ≡ mark → defines_any t (take k acts) ≡ true)
    → ((t : ℕ) → uses_first t (take k acts) [] ≡ true → Old t)
    → (t : ℕ) → uses_first t (take (k + 1) acts) [] ≡ true → New t
acts_more acts a k mark marks Old New lt is kept now marked before t e = elim (uses_more acts t k a lt e) [
  | inl o ↦ kept t (before t o)
  | inr n ↦ now t (has_there t a.uses (ap (λ (x : Act). has t x.uses) (sym is) ∙ n.1)) (λ same. let d = marked t same in let none = n.0 in absurd (cc))
]

pub acts_end : (acts : List Act) (uses : List ℕ) (k mark : ℕ) (marks : List ℕ) (Old New : ℕ → Type 0) → length acts ≤ k
    → ((t : ℕ) → Old t → New t)
    → ((t : ℕ) → Contains uses t → slice_index marks t ≢ mark → New t)
    → ((t : ℕ) → slice_index marks t ≡ mark → defines_any t (take k acts) ≡ true)
    → ((t : ℕ) → uses_first t (take k acts) [] ≡ true → Old t)
    → (t : ℕ) → uses_first t acts uses ≡ true → New t
acts_end acts uses k mark marks Old New le kept now marked before t e = elim (uses_all acts uses t k le e) [
  | inl o ↦ kept t (before t o)
  | inr n ↦ now t (has_there t uses n.1) (λ same. let d = marked t same in let none = n.0 in absurd (cc))
]

-- ---- marks

pub marked_set : (marks : List ℕ) (t mark u : ℕ) → slice_index (set marks t mark) u ≡ mark → (slice_index marks u ≡ mark) ⊎ (is_that (Some t) u ≡ true)
marked_set marks t mark u e = elim (cases_eq u t) [
  | inl same ↦ inr (eq-eqb t u (sym same))
  | inr other ↦ inl (sym (get_or-set_other marks t u mark 0 other) ∙ e)
]

pub low_set : (marks : List ℕ) (t mark : ℕ) → t < length marks → ((u : ℕ) → slice_index marks u ≤ mark) → (u : ℕ) → slice_index (set marks t mark) u ≤ mark
low_set marks t mark lt low u = elim (cases_eq u t) [
  | inl same ↦ let e : get_or (set marks t mark) u 0 ≡ mark = ap (λ (n : ℕ). get_or (set marks t mark) n 0) same ∙ get_or-set_same marks t mark 0 lt in omega (arith, e)
  | inr other ↦ let e : get_or (set marks t mark) u 0 ≡ get_or marks u 0 = get_or-set_other marks t u mark 0 other in let h = low u in omega (arith, e, h)
]

-- ---- blocks

pub block_more : (blocks : List Stretch) (place : ℕ) (s : Stretch) (Old New : ℕ → Type 0) → slice_get blocks place ≡ Some s
    → ((t : ℕ) → Old t → New t)
    → ((t : ℕ) → uses_first t s.acts s.uses ≡ true → New t)
    → ((b t : ℕ) (x : Stretch) → b < place → slice_get blocks b ≡ Some x → uses_first t x.acts x.uses ≡ true → Old t)
    → (b t : ℕ) (x : Stretch) → b < place + 1 → slice_get blocks b ≡ Some x → uses_first t x.acts x.uses ≡ true → New t
block_more blocks place s Old New is kept now before b t x lt at e = elim (cases_eq b place) [
  | inl same ↦
      let its : x ≡ s = same_Some x s (sym at ∙ ap (slice_get blocks) same ∙ is) in
      now t (subst (λ (y : Stretch). uses_first t y.acts y.uses ≡ true) its e)
  | inr other ↦ kept t (before b t x (omega (arith, lt, other)) at e)
]
