-- Marks of temporaries, one after the other.
use Rattle.std.proofs.Common.{◌≡◌, ◌≢◌, ◌↔◌, ◌∙◌, ◌||◌, ◌&&◌, ◌==◌, ℕ, ◌+◌, ◌<◌, ◌≤◌, Bool, true, false, not, List, All, length, get_or, set, take, drop, ◌++◌, replicate, refl, sym, ap, subst, arith, inl, inr}
use Rattle.std.specs.Prelude.{Some, Contains, vec_len}
use Rattle.std.specs.List.{list_any}
use Rattle.std.proofs.lemmas.Bool.{cases_Bool, cases_eq, cases_lt, eqb-true, eq-eqb}
use Rattle.std.proofs.lemmas.List.{get_or_past, get_or-set_same, get_or-set_other, get_or-replicate, length-replicate}
use Rattle.std.proofs.lemmas.List.Elements.{Contains-get_or}
use Rattle.std.proofs.lemmas.List.Folds.{list_any_more, Any-from_list_any, list_any-from_Any}
use Rattle.std.proofs.lemmas.Grind.{common_steps}
use Rattle.std.proofs.lemmas.Option.{slice_get_within}
use Rattle.pw_flow.specs.Outline.{Outline}
use Rattle.pw_live.specs.Liveness.{has, is_live_in}
use Rattle.pw_live_fronts.specs.declared.fronts.Fronts.{Fronts}
use Rattle.pw_live_fronts.specs.LiveFronts.{IsLiveAt, AreFronts}
use Rattle.pw_opt_dead.specs.Marks.{is_marked}

not_equal : (a b : ℕ) → b ≢ a → (a == b) ≡ false
not_equal a b other = elim (cases_Bool (a == b)) [ inl e ↦ absurd (other (sym (eqb-true a b e))) | inr e ↦ e ]

-- ---- one mark

pub marked_set : (live : List Bool) (x t : ℕ) → x < length live → is_marked (set live x true) t ≡ (x == t || is_marked live t)
marked_set live x t lt = elim (cases_eq t x) [
  | inl same ↦
      ap (is_marked (set live x true)) same ∙ get_or-set_same live x true false lt
      ∙ sym (ap (λ (b : Bool). b || is_marked live t) (eq-eqb x t (sym same)))
  | inr other ↦ get_or-set_other live x t true false other ∙ sym (ap (λ (b : Bool). b || is_marked live t) (not_equal x t other))
]

pub marked_unset : (live : List Bool) (x t : ℕ) → x < length live → is_marked (set live x false) t ≡ (not (x == t) && is_marked live t)
marked_unset live x t lt = elim (cases_eq t x) [
  | inl same ↦
      ap (is_marked (set live x false)) same ∙ get_or-set_same live x false false lt
      ∙ sym (ap (λ (b : Bool). not b && is_marked live t) (eq-eqb x t (sym same)))
  | inr other ↦ get_or-set_other live x t false false other ∙ sym (ap (λ (b : Bool). not b && is_marked live t) (not_equal x t other))
]

pub unmarked_past : (live : List Bool) (x t : ℕ) → length live ≤ x → is_marked live t ≡ (not (x == t) && is_marked live t)
unmarked_past live x t le = elim (cases_eq t x) [
  | inl same ↦ get_or_past live t false (omega (arith, same, le)) ∙ sym (ap (λ (b : Bool). not b && is_marked live t) (eq-eqb x t (sym same)))
  | inr other ↦ sym (ap (λ (b : Bool). not b && is_marked live t) (not_equal x t other))
]

or_turn : (a b c : Bool) → (a || (b || c)) ≡ ((b || a) || c)
or_turn true true c = refl
or_turn true false c = refl
or_turn false true c = refl
or_turn false false c = refl

-- one temporary more of a list
pub marked_more : (temps : List ℕ) (i : ℕ) (old now : List Bool) → i < length temps → get_or temps i 0 < length now → ((t : ℕ) → is_marked now t ≡ (has t (take i temps) || is_marked old t))
    → (t : ℕ) → is_marked (set now (get_or temps i 0) true) t ≡ (has t (take (i + 1) temps) || is_marked old t)
marked_more temps i old now lt low before t =
    let x = get_or temps i 0 in
    marked_set now x t low ∙ ap (λ (b : Bool). x == t || b) (before t) ∙ or_turn (x == t) (has t (take i temps)) (is_marked old t)
    ∙ sym (ap (λ (b : Bool). b || is_marked old t) (list_any_more (λ (u : ℕ). u == t) temps i 0 lt))

not_either : (x h o : Bool) → (not x && (not h && o)) ≡ (not (h || x) && o)
not_either true true o = refl
not_either true false o = refl
not_either false true o = refl
not_either false false o = refl

-- and one less
pub unmarked_more : (temps : List ℕ) (i : ℕ) (old now new : List Bool) → i < length temps → ((t : ℕ) → is_marked now t ≡ (not (has t (take i temps)) && is_marked old t))
    → ((t : ℕ) → is_marked new t ≡ (not (get_or temps i 0 == t) && is_marked now t)) → (t : ℕ) → is_marked new t ≡ (not (has t (take (i + 1) temps)) && is_marked old t)
unmarked_more temps i old now new lt before step t =
    step t ∙ ap (λ (b : Bool). not (get_or temps i 0 == t) && b) (before t) ∙ not_either (get_or temps i 0 == t) (has t (take i temps)) (is_marked old t)
    ∙ sym (ap (λ (b : Bool). not b && is_marked old t) (list_any_more (λ (u : ℕ). u == t) temps i 0 lt))

-- where just what is marked loses its mark, nothing is marked
pub none_left : (a b c : Bool) → b ≡ a → c ≡ (not a && b) → c ≡ false
none_left true b c e f = f
none_left false b c e f = f ∙ e

-- ---- what is live at the front of a block

same_bool : (a b : Bool) → (a ≡ true → b ≡ true) → (b ≡ true → a ≡ true) → a ≡ b
same_bool true b f g = sym (f refl)
same_bool false true f g = g refl
same_bool false false f g = refl

has_there : (t : ℕ) (ts : List ℕ) → has t ts ≡ true → Contains ts t
has_there t ts e = let r = Any-from_list_any (λ (u : ℕ). u == t) ts e in subst (Contains ts) (eqb-true r.1 t r.4) (r.0, r.2, r.3)

there_has : (t : ℕ) (ts : List ℕ) → Contains ts t → has t ts ≡ true
there_has t ts h = list_any-from_Any (λ (u : ℕ). u == t) ts (h.0, t, h.1, h.2, eq-eqb t t refl)

pub front_is : (f : Outline) (v : Fronts) (b : ℕ) (at : List ℕ) → AreFronts f v → b < vec_len v.rows → ((t : ℕ) → Contains at t ↔ IsLiveAt v b t) → (t : ℕ) → has t at ≡ is_live_in f t b
front_is f v b at are lt exact t =
    let size = are.blocks in
    let live = are.live b t (omega (arith, lt, size)) in
    same_bool (has t at) (is_live_in f t b) (λ e. live.0 ((exact t).0 (has_there t at e))) (λ e. there_has t at ((exact t).1 (live.1 e)))

pub front_within : (v : Fronts) (b n : ℕ) (at : List ℕ) → n ≡ vec_len v.exposed.numbers → ((t : ℕ) → Contains at t ↔ IsLiveAt v b t) → All (λ t. t < n) at
front_within v b n at size exact k d lt =
    let there = (exact (get_or at k d)).0 (Contains-get_or at k d lt) in
    let low = slice_get_within v.exposed.numbers.items (get_or at k d) (Some there.number) there.is in
    let ok = v.exposed.numbers.ok.0 in
    omega (arith, low, size, ok)

-- ---- blocks one after the other

pub any_more : (p : ℕ → Bool) (next : List ℕ) (i : ℕ) (b : Bool) → i < length next → b ≡ list_any p (take i next) → (p (get_or next i 0) || b) ≡ list_any p (take (i + 1) next)
any_more p next i b lt e = ap (λ (x : Bool). p (get_or next i 0) || x) e ∙ or_both (p (get_or next i 0)) (list_any p (take i next)) ∙ sym (list_any_more p next i 0 lt) where
  or_both : (x y : Bool) → (x || y) ≡ (y || x)
  or_both true true = refl
  or_both true false = refl
  or_both false true = refl
  or_both false false = refl

pub none_marked : (n t : ℕ) → is_marked (replicate n false) t ≡ false
none_marked n t = elim (cases_lt t n) [
  | inl lt ↦ get_or-replicate n t false false lt
  | inr ge ↦ let long : length (replicate n false) ≡ n = length-replicate n false in get_or_past (replicate n false) t false (omega (arith, ge, long))
]

-- what a loan of all of the marks leaves
pub all_written : (n : ℕ) (xs ys : List Bool) → length xs ≡ n → length ys ≡ n → take n (xs ++ drop (length xs) ys) ≡ xs
all_written n xs ys hx hy = grind (arith, common_steps)
