-- What is needed by paths through no more blocks than there are is what is needed by paths of any length.
use Rattle.std.proofs.Common.{◌≡◌, ◌≢◌, ◌⊎◌, ℕ, zero, suc, ◌<◌, ◌≤◌, ◌==◌, ◌||◌, ◌&&◌, not, Bool, true, false, List, [], ◌∷◌, length, get_or, refl, sym, ap, subst, ◌∙◌, arith, inl, inr}
use Rattle.std.specs.Prelude.{Option, None, Some, slice_get, Contains, ◌↔◌}
use Rattle.std.specs.List.{list_any}
use Rattle.std.proofs.lemmas.Bool.{cases_Bool, or_left, or_right, and_from, eqb-true, eq-eqb}
use Rattle.std.proofs.lemmas.Option.{slice_get_within, same_Some}
use Rattle.pw_flow.specs.Outline.{Act, Stretch, Outline}
use Rattle.pw_live.specs.Liveness.{Live, used, past, at_end, on, has, is_that, needs, needs_block, at_front, is_live_in, is_live}
use Rattle.pw_live.proofs.Levels.{last_level, levels_stay}

-- ---- tests

pub or_either : (x y : Bool) → (x || y) ≡ true → (x ≡ true) ⊎ (y ≡ true)
or_either true y e = inl refl
or_either false y e = inr e

pub and_both : (x y : Bool) → (x && y) ≡ true → (x ≡ true) × (y ≡ true)
and_both true y e = (refl, e)
and_both false y e = absurd cc

pub not_none : (x : Bool) → not x ≡ true → x ≡ false
not_none true e = absurd cc
not_none false e = refl

-- what a test of a list tells
pub any_some : {X : Type 0} (p : X → Bool) (xs : List X) → list_any p xs ≡ true → (x : X) × Contains xs x × (p x ≡ true)
any_some p [] e = absurd cc
any_some p (x ∷ xs) e = elim (or_either (p x) (list_any p xs) e) [
  | inl h ↦ (x, (0, omega arith, refl), h)
  | inr h ↦ let r = any_some p xs h in (r.0, (suc r.1.0, (let lt = r.1.1 in omega arith), r.1.2), r.2)
]

any_at : {X : Type 0} (p : X → Bool) (xs : List X) (x : X) (k : ℕ) → k < length xs → get_or xs k x ≡ x → p x ≡ true → list_any p xs ≡ true
any_at p [] x k lt is h = absurd (omega (arith, lt))
any_at p (y ∷ ys) x zero lt is h = or_left (p y) (list_any p ys) (ap p is ∙ h)
any_at p (y ∷ ys) x (suc k) lt is h = or_right (p y) (list_any p ys) (any_at p ys x k (omega arith) is h)

pub some_any : {X : Type 0} (p : X → Bool) (xs : List X) (x : X) → Contains xs x → p x ≡ true → list_any p xs ≡ true
some_any p xs x there h = any_at p xs x there.0 there.1 there.2 h

pub any_rises : {X : Type 0} (p q : X → Bool) (xs : List X) → ((x : X) → p x ≡ true → q x ≡ true) → list_any p xs ≡ true → list_any q xs ≡ true
any_rises p q xs up e = let r = any_some p xs e in some_any q xs r.0 r.1 (up r.0 r.2)

pub has_there : (t : ℕ) (ts : List ℕ) → has t ts ≡ true → Contains ts t
has_there t ts e = let r = any_some (λ u. u == t) ts e in subst (λ u. Contains ts u) (eqb-true r.0 t r.2) r.1

pub there_has : (t : ℕ) (ts : List ℕ) → Contains ts t → has t ts ≡ true
there_has t ts h = some_any (λ u. u == t) ts t h (eq-eqb t t refl)

pub that_is : (d : Option ℕ) (t : ℕ) → is_that d t ≡ true → d ≡ Some t
that_is None t e = absurd cc
that_is (Some d) t e = ap Some (eqb-true d t e)

pub is_that_one : (d : Option ℕ) (t : ℕ) → d ≡ Some t → is_that d t ≡ true
is_that_one d t e = ap (λ o. is_that o t) e ∙ eq-eqb t t refl

pub that_other : (d : Option ℕ) (t : ℕ) → is_that d t ≡ false → d ≢ Some t
that_other d t e same = absurd (let s = is_that_one d t same in cc)

pub other_that : (d : Option ℕ) (t : ℕ) → d ≢ Some t → is_that d t ≡ false
other_that d t other = elim (cases_Bool (is_that d t)) [ inl e ↦ absurd (other (that_is d t e)) | inr e ↦ e ]

-- ---- levels

needs_rises : (g h : ℕ → Bool) (t : ℕ) (acts : List Act) (uses next : List ℕ) → ((b : ℕ) → g b ≡ true → h b ≡ true) → needs g t acts uses next ≡ true → needs h t acts uses next ≡ true
needs_rises g h t [] uses next up e = elim (or_either (has t uses) (list_any g next) e) [
  | inl k ↦ or_left (has t uses) (list_any h next) k
  | inr k ↦ or_right (has t uses) (list_any h next) (any_rises g h next up k)
]
needs_rises g h t (a ∷ acts) uses next up e =
    elim (or_either (has t a.uses) (not (is_that a.defines t) && needs g t acts uses next) e) [
      | inl k ↦ or_left (has t a.uses) (not (is_that a.defines t) && needs h t acts uses next) k
      | inr k ↦
          let both = and_both (not (is_that a.defines t)) (needs g t acts uses next) k in
          or_right (has t a.uses) (not (is_that a.defines t) && needs h t acts uses next)
          (and_from (not (is_that a.defines t)) (needs h t acts uses next) both.0 (needs_rises g h t acts uses next up both.1))
    ]

block_rises : (g h : ℕ → Bool) (t : ℕ) (s : Option Stretch) → ((b : ℕ) → g b ≡ true → h b ≡ true) → needs_block g t s ≡ true → needs_block h t s ≡ true
block_rises g h t None up e = e
block_rises g h t (Some s) up e = needs_rises g h t s.acts s.uses s.next up e

block_there : (g : ℕ → Bool) (t b : ℕ) (blocks : List Stretch) (s : Option Stretch) → slice_get blocks b ≡ s → needs_block g t s ≡ true → (block : Stretch) × (slice_get blocks b ≡ Some block) × (needs g t block.acts block.uses block.next ≡ true)
block_there g t b blocks None is e = absurd cc
block_there g t b blocks (Some s) is e = (s, is, e)

module _ (f : Outline) (t : ℕ) where
  abbrev step : (ℕ → Bool) → ℕ → Bool
  step g b = needs_block g t (slice_get f.blocks b)

  rises : (g h : ℕ → Bool) → ((b : ℕ) → g b ≡ true → h b ≡ true) → (b : ℕ) → step g b ≡ true → step h b ≡ true
  rises g h up b e = block_rises g h t (slice_get f.blocks b) up e

  below : (g : ℕ → Bool) (b : ℕ) → step g b ≡ true → b < length f.blocks
  below g b e = let r = block_there g t b f.blocks (slice_get f.blocks b) refl e in slice_get_within f.blocks b r.0 r.1

  pub fronts_stay : (more b : ℕ) → length f.blocks ≤ more → at_front more f t b ≡ at_front (length f.blocks) f t b
  fronts_stay more b le = levels_stay step (length f.blocks) rises below (λ k b. at_front k f t b) (λ b. refl) (λ k b. refl) more b le

  last : (b : ℕ) → at_front (suc (length f.blocks)) f t b ≡ true → is_live_in f t b ≡ true
  last b e = last_level step (length f.blocks) rises below (λ k b. at_front k f t b) (λ b. refl) (λ k b. refl) b e

  -- ---- what is needed at a point

  abbrev LiveIn : ℕ → Type 0
  LiveIn b = (block : Stretch) × (slice_get f.blocks b ≡ Some block) × Live f t block.acts block.uses block.next

  needs_live : (g : ℕ → Bool) → ((b : ℕ) → g b ≡ true → LiveIn b) → (acts : List Act) (uses next : List ℕ) → needs g t acts uses next ≡ true → Live f t acts uses next
  needs_live g fronts [] uses next e = elim (or_either (has t uses) (list_any g next) e) [
    | inl k ↦ at_end uses next (has_there t uses k)
    | inr k ↦ let r = any_some g next k in let s = fronts r.0 r.2 in on uses next r.0 s.0 r.1 s.1 s.2
  ]
  needs_live g fronts (a ∷ acts) uses next e =
      elim (or_either (has t a.uses) (not (is_that a.defines t) && needs g t acts uses next) e) [
        | inl k ↦ used a acts uses next (has_there t a.uses k)
        | inr k ↦
            let both = and_both (not (is_that a.defines t)) (needs g t acts uses next) k in
            past a acts uses next (that_other a.defines t (not_none (is_that a.defines t) both.0)) (needs_live g fronts acts uses next both.1)
      ]

  front_live : (more b : ℕ) → at_front more f t b ≡ true → LiveIn b
  front_live zero b e = absurd cc
  front_live (suc more) b e =
      let r = block_there (at_front more f t) t b f.blocks (slice_get f.blocks b) refl e in
      (r.0, r.1, needs_live (at_front more f t) (front_live more) r.0.acts r.0.uses r.0.next r.2)

  live_needs : {acts : List Act} {uses next : List ℕ} → Live f t acts uses next → is_live f t acts uses next ≡ true
  live_needs (used a acts uses next h) = or_left (has t a.uses) (not (is_that a.defines t) && is_live f t acts uses next) (there_has t a.uses h)
  live_needs (past a acts uses next other rest) =
      or_right (has t a.uses) (not (is_that a.defines t) && is_live f t acts uses next)
      (and_from (not (is_that a.defines t)) (is_live f t acts uses next) (ap not (other_that a.defines t other)) (live_needs rest))
  live_needs (at_end uses next h) = or_left (has t uses) (list_any (is_live_in f t) next) (there_has t uses h)
  live_needs (on uses next b block there is rest) =
      let here = last b (ap (needs_block (is_live_in f t) t) is ∙ live_needs rest) in
      or_right (has t uses) (list_any (is_live_in f t) next) (some_any (is_live_in f t) next b there here)

  pub live_by_paths : (acts : List Act) (uses next : List ℕ) → (is_live f t acts uses next ≡ true) ↔ Live f t acts uses next
  live_by_paths acts uses next = (needs_live (is_live_in f t) (front_live (length f.blocks)) acts uses next, λ h. live_needs h)

  pub front_by_paths : (b : ℕ) (s : Stretch) → slice_get f.blocks b ≡ Some s → (is_live_in f t b ≡ true) ↔ Live f t s.acts s.uses s.next
  front_by_paths b s is = (
    λ e.
        let r = front_live (length f.blocks) b e in
        let same = same_Some r.0 s (sym r.1 ∙ is) in
        subst (λ (block : Stretch). Live f t block.acts block.uses block.next) same r.2,
    λ h. last b (ap (needs_block (is_live_in f t) t) is ∙ live_needs h),
  )

  -- the front of a block is the point before all that stands in it
  pub front_point : (b : ℕ) (s : Stretch) → slice_get f.blocks b ≡ Some s → is_live_in f t b ≡ is_live f t s.acts s.uses s.next
  front_point b s is = sym (fronts_stay (suc (length f.blocks)) b (omega arith)) ∙ ap (needs_block (is_live_in f t) t) is
