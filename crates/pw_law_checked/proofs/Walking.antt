-- What holds of all that a walk makes where every point of it is met.
use Rattle.std.specs.Prelude.{ℕ, ◌≡◌, Bool, true, false, not, Option, None, Some, List, [], ◌∷◌, ◌++◌, All, refl}
use Rattle.std.proofs.Common.{arith, subst}
use Rattle.std.proofs.lemmas.List.Elements.{All-head, All-tail}
use Rattle.pw_check_walk.specs.Causes.{Constraint, Cause, Point}
use Rattle.pw_check_walk.specs.Walks.{Walk, Done, Passing, Closed, bind, granted}
use Rattle.pw_check_walk.specs.Answers.{IsMet, Ends, by_points}

-- no constraint of the point is broken
abbrev pub AreMet : Point → Type 0
AreMet [] = Unit {0}
AreMet (c ∷ p) = (c.broken ≡ false) × AreMet p

abbrev pub Post : {A : Type 0} → Walk A → (A → Type 0) → Type 0
Post (Done a) P = P a
Post (Passing p rest) P = AreMet p → Post rest P
Post (Closed constraint token) P = Unit {0}

pub post_bind : {A B : Type 0} (w : Walk A) (next : A → Walk B) (Q : A → Type 0) (P : B → Type 0)
    → Post w Q → ((a : A) → Q a → Post (next a) P) → Post (bind w next) P
unfolding bind
post_bind (Done a) next Q P h then = then a h
post_bind (Passing p rest) next Q P h then = λ met. post_bind rest next Q P (h met) then
post_bind (Closed constraint token) next Q P h then = tt

pub post_weaken : {A : Type 0} (w : Walk A) (Q P : A → Type 0) → Post w Q → ((a : A) → Q a → P a) → Post w P
post_weaken (Done a) Q P h then = then a h
post_weaken (Passing p rest) Q P h then = λ met. post_weaken rest Q P (h met) then
post_weaken (Closed constraint token) Q P h then = tt

pub post_both : {A : Type 0} (w : Walk A) (P Q : A → Type 0) → Post w P → Post w Q → Post w (λ a. P a × Q a)
post_both (Done a) P Q h k = (h, k)
post_both (Passing p rest) P Q h k = λ met. post_both rest P Q (h met) (k met)
post_both (Closed constraint token) P Q h k = tt

are_met : (p : Point) → IsMet p → AreMet p
are_met [] met = tt
are_met (c ∷ p) met = (All-head (λ (d : Cause). d.broken ≡ false) c p met, are_met p (All-tail (λ (d : Cause). d.broken ≡ false) c p met))

by_points_post : {A : Type 0} (points : List Point) (a : A) (P : A → Type 0) → All IsMet points → Post (by_points points (Done a)) P → P a
by_points_post [] a P met h = h
by_points_post (p ∷ rest) a P met h =
    by_points_post rest a P (All-tail IsMet p rest met) (h (are_met p (All-head IsMet p rest met)))

pub post_end : {A : Type 0} (w : Walk A) (a : A) (P : A → Type 0) → Ends w a → Post w P → P a
post_end w a P ends h = by_points_post ends.points a P ends.met (subst (λ v. Post v P) ends.is h)

pub post_granted : {S A : Type 0} (constraint : Constraint) (token : ℕ) (p : Point) (o : Option A) (s : S) (P : A × S → Type 0)
    → ((a : A) → o ≡ Some a → AreMet p → P (a, s)) → Post (granted constraint token p o s) P
post_granted constraint token p None s P h = λ met. tt
post_granted constraint token p (Some a) s P h = λ met. h a refl met

pub truth : (b : Bool) → not b ≡ false → b ≡ true
truth true e = refl
truth false e = grind arith

pub met_left : (p q : Point) → AreMet (p ++ q) → AreMet p
met_left [] q met = tt
met_left (c ∷ p) q met = (met.0, met_left p q met.1)

pub met_right : (p q : Point) → AreMet (p ++ q) → AreMet q
met_right [] q met = met
met_right (c ∷ p) q met = met_right p q met.1

-- what holds of whatever a walk makes holds of all that it makes
pub post_any : {A : Type 0} (w : Walk A) (P : A → Type 0) → ((a : A) → P a) → Post w P
post_any (Done a) P h = h a
post_any (Passing p rest) P h = λ met. post_any rest P h
post_any (Closed constraint token) P h = tt

abbrev Whatever : {A : Type 0} → A → Type 0
Whatever a = Unit {0}

pub after_any : {A B : Type 0} (w : Walk A) (next : A → Walk B) (P : B → Type 0) → ((a : A) → Post (next a) P) → Post (bind w next) P
after_any w next P h = post_bind w next Whatever P (post_any w Whatever (λ a. tt)) (λ a k. h a)

-- what a walk makes under a premise
pub post_if : {A : Type 0} (C : Type 0) (w : Walk A) (P : A → Type 0) → (C → Post w P) → Post w (λ a. C → P a)
post_if C (Done a) P h = h
post_if C (Passing p rest) P h = λ met. post_if C rest P (λ c. h c met)
post_if C (Closed constraint token) P h = tt
