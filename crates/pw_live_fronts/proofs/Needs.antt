-- What is needed from a node on is what is live at the front of its block.
use Rattle.std.proofs.Common.{◌≡◌, ◌⊎◌, ℕ, ◌<◌, ◌&&◌, not, true, false, List, [], ◌∷◌, length, refl, sym, ap, subst, ◌∙◌, arith, inl, inr}
use Rattle.std.specs.Prelude.{Some, slice_get, Contains, ◌↔◌}
use Rattle.std.proofs.lemmas.Bool.{cases_Bool, or_left, or_right, or_parts, or_from, or_cases, and_from}
use Rattle.std.proofs.lemmas.Option.{slice_get_within}
use Rattle.pw_fix.specs.Solution.{HasEdge}
use Rattle.pw_fix.proofs.Places.{at_index}
use Rattle.pw_flow.specs.Outline.{Act, Stretch, Outline}
use Rattle.pw_live.specs.Liveness.{Live, used, past, at_end, on, has, is_that, is_live_in}
use Rattle.pw_live_fronts.specs.Blocks.{uses_first, defines_any}
use Rattle.pw_live_fronts.specs.Flowing.{Needed, itself, behind, node_of, IsEdge}
use Rattle.pw_live.proofs.Paths.{and_both, not_none, has_there, there_has, that_other, other_that, front_by_paths}

abbrev LiveAt : Outline → ℕ → ℕ → Type 0
LiveAt f t b = (block : Stretch) × (slice_get f.blocks b ≡ Some block) × Live f t block.acts block.uses block.next

-- ---- within a block

uses_live : (f : Outline) (t : ℕ) (acts : List Act) (uses next : List ℕ) → uses_first t acts uses ≡ true → Live f t acts uses next
uses_live f t [] uses next e = at_end uses next (has_there t uses e)
uses_live f t (a ∷ acts) uses next e = elim (or_cases (has t a.uses) (not (is_that a.defines t) && uses_first t acts uses) e) [
  | inl k ↦ used a acts uses next (has_there t a.uses k)
  | inr k ↦
      let both = and_both (not (is_that a.defines t)) (uses_first t acts uses) k in
      past a acts uses next (that_other a.defines t (not_none (is_that a.defines t) both.0)) (uses_live f t acts uses next both.1)
]

passes_live : (f : Outline) (t c : ℕ) (acts : List Act) (uses next : List ℕ) → defines_any t acts ≡ false → Contains next c → LiveAt f t c → Live f t acts uses next
passes_live f t c [] uses next e there lives = on uses next c lives.0 there lives.1 lives.2
passes_live f t c (a ∷ acts) uses next e there lives =
    let both = or_parts (is_that a.defines t) (defines_any t acts) e in
    past a acts uses next (that_other a.defines t both.0) (passes_live f t c acts uses next both.1 there lives)

-- ---- a use by some block

record IsUsed (f : Outline) (t : ℕ) : Type 0 where
  block : Stretch
  place : ℕ
  at : slice_get f.blocks place ≡ Some block
  first : uses_first t block.acts block.uses ≡ true

first_or_later : (f : Outline) (t : ℕ) {acts : List Act} {uses next : List ℕ} → Live f t acts uses next → (uses_first t acts uses ≡ true) ⊎ IsUsed f t
first_or_later f t (used a acts uses next h) = inl (or_left (has t a.uses) (not (is_that a.defines t) && uses_first t acts uses) (there_has t a.uses h))
first_or_later f t (past a acts uses next other rest) = elim (first_or_later f t rest) [
  | inl k ↦ inl (or_right (has t a.uses) (not (is_that a.defines t) && uses_first t acts uses) (and_from (not (is_that a.defines t)) (uses_first t acts uses) (ap not (other_that a.defines t other)) k))
  | inr k ↦ inr k
]
first_or_later f t (at_end uses next h) = inl (there_has t uses h)
first_or_later f t (on uses next b block there is rest) = elim (first_or_later f t rest) [
  | inl k ↦ inr (record { block = block; place = b; at = is; first = k })
  | inr k ↦ inr k
]

-- what is live at the front of a block is used first by some block
pub live_is_used : (f : Outline) (t b : ℕ) → b < length f.blocks → is_live_in f t b ≡ true → (s : Stretch) × (c : ℕ) × (slice_get f.blocks c ≡ Some s) × (uses_first t s.acts s.uses ≡ true)
live_is_used f t b lt e =
    let s = at_index f.blocks b lt in
    elim (first_or_later f t ((front_by_paths f t b s.0 s.1).0 e)) [
      | inl k ↦ (s.0, b, s.1, k)
      | inr k ↦ (k.block, k.place, k.at, k.first)
    ]

-- ---- along edges

module _ (f : Outline) (t v : ℕ) (edges : List (ℕ × ℕ)) (Gen Kill : ℕ → ℕ → Type 0)
    (gens : (b : ℕ) (s : Stretch) → slice_get f.blocks b ≡ Some s → Gen (node_of f b) v ↔ (uses_first t s.acts s.uses ≡ true))
    (kills : (b : ℕ) (s : Stretch) → slice_get f.blocks b ≡ Some s → Kill (node_of f b) v ↔ (defines_any t s.acts ≡ true))
    (edges_are : (m n : ℕ) → HasEdge edges m n ↔ IsEdge f m n)
    (lawful : (b c : ℕ) (s : Stretch) → slice_get f.blocks b ≡ Some s → Contains s.next c → c < length f.blocks) where
  abbrev Behind : List Act → List ℕ → List ℕ → Type 0
  Behind acts uses next = (uses_first t acts uses ≡ true) ⊎ ((defines_any t acts ≡ false) × (c : ℕ) × Contains next c × Needed edges Gen Kill v (node_of f c))

  in_block : (b : ℕ) (s : Stretch) → slice_get f.blocks b ≡ Some s → Behind s.acts s.uses s.next → Needed edges Gen Kill v (node_of f b)
  in_block b s is (inl k) = itself (node_of f b) ((gens b s is).1 k)
  in_block b s is (inr k) =
      let edge = (edges_are (node_of f k.1) (node_of f b)).1 (record { before = b; after = k.1; block = s; at = is; goes = k.2; from = refl; to = refl }) in
      behind (node_of f b) (node_of f k.1) edge (λ kill. let yes_it_does = (kills b s is).0 kill in let none = k.0 in cc) k.3

  from_live : {acts : List Act} {uses next : List ℕ} → Live f t acts uses next → Behind acts uses next
  from_live (used a acts uses next h) = inl (or_left (has t a.uses) (not (is_that a.defines t) && uses_first t acts uses) (there_has t a.uses h))
  from_live (past a acts uses next other rest) = elim (from_live rest) [
    | inl k ↦ inl (or_right (has t a.uses) (not (is_that a.defines t) && uses_first t acts uses) (and_from (not (is_that a.defines t)) (uses_first t acts uses) (ap not (other_that a.defines t other)) k))
    | inr k ↦ inr (or_from (is_that a.defines t) (defines_any t acts) (other_that a.defines t other) k.0, k.1, k.2, k.3)
  ]
  from_live (at_end uses next h) = inl (there_has t uses h)
  from_live (on uses next b block there is rest) = inr (refl, b, there, in_block b block is (from_live rest))

  one_node : (b c : ℕ) → b < length f.blocks → c < length f.blocks → node_of f b ≡ node_of f c → b ≡ c
  one_node b c low high e = omega (arith, low, high, e)

  to_live : {n : ℕ} → Needed edges Gen Kill v n → (b : ℕ) → b < length f.blocks → n ≡ node_of f b → LiveAt f t b
  to_live (itself n own) b lt e =
      let s = at_index f.blocks b lt in
      (s.0, s.1, uses_live f t s.0.acts s.0.uses s.0.next ((gens b s.0 s.1).0 (subst (λ (m : ℕ). Gen m v) e own)))
  to_live (behind n m edge stays needed) b lt e =
      let r = (edges_are m n).0 edge in
      let same = one_node r.before b (slice_get_within f.blocks r.before r.block r.at) lt (sym r.to ∙ e) in
      let at : slice_get f.blocks b ≡ Some r.block = ap (slice_get f.blocks) (sym same) ∙ r.at in
      let lives = to_live needed r.after (lawful r.before r.after r.block r.at r.goes) r.from in
      elim (cases_Bool (defines_any t r.block.acts)) [
        | inl d ↦ absurd (stays (subst (λ (k : ℕ). Kill k v) (sym e) ((kills b r.block at).1 d)))
        | inr d ↦ (r.block, at, passes_live f t r.after r.block.acts r.block.uses r.block.next d r.goes lives)
      ]

  pub needed_is_live : (b : ℕ) → b < length f.blocks → Needed edges Gen Kill v (node_of f b) ↔ (is_live_in f t b ≡ true)
  needed_is_live b lt =
      let s = at_index f.blocks b lt in (
        λ h.
            let r = to_live h b lt refl in
            (front_by_paths f t b r.0 r.1).1 r.2,
        λ e. in_block b s.0 s.1 (from_live ((front_by_paths f t b s.0 s.1).0 e)),
      )
