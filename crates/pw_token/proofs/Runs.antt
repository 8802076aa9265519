-- Runs of bytes of one class, and prefixes of a text.
use Rattle.std.proofs.Common.{◌≡◌, ℕ, suc, ◌<◌, ◌≤◌, ◌⊎◌, inl, inr, Bool, true, false, List, [], ◌∷◌, ◌++◌, length, take, drop, refl, ap, arith, sym, ◌∙◌}
use Rattle.std.proofs.lemmas.List.{drop_at, take_at}
use Rattle.pw_token.specs.Bytes.{is_in, AllIn, SomeIn}
use Rattle.pw_token.specs.Scanning.{run}
use Rattle.pw_token.specs.declared.bytes.Class.{Class}

pub either : (b : Bool) → (b ≡ true) ⊎ (b ≡ false)
either true = inl refl
either false = inr refl

-- a prefix of n bytes that P holds of
pub record Begins (P : List ℕ → Type 0) (n : ℕ) (t : List ℕ) : Type 0 where
  pub front : List ℕ
  pub rest : List ℕ
  pub split : t ≡ front ++ rest
  pub len : length front ≡ n
  pub holds : P front

pub begins-drop : {P : List ℕ → Type 0} {n : ℕ} {t : List ℕ} (b : Begins P n t) → drop n t ≡ b.rest
begins-drop {P} {n} {t} b = ap (drop n) b.split ∙ drop_at b.front b.rest n b.len

pub begins-take : {P : List ℕ → Type 0} {n : ℕ} {t : List ℕ} (b : Begins P n t) → take n t ≡ b.front
begins-take {P} {n} {t} b = ap (take n) b.split ∙ take_at b.front b.rest n b.len

pub run-in : (c : Class) (b : ℕ) (t : List ℕ) → is_in c b ≡ true → run c (b ∷ t) ≡ suc (run c t)
run-in c b t h = rw h (omega arith)

pub run-out : (c : Class) (b : ℕ) (t : List ℕ) → is_in c b ≡ false → run c (b ∷ t) ≡ 0
run-out c b t h = rw h refl

pub run-reaches : (c : Class) (a r : List ℕ) → AllIn c a → length a ≤ run c (a ++ r)
run-reaches c [] r h = omega arith
run-reaches c (b ∷ a) r h = omega (arith, run-in c b (a ++ r) h.0, run-reaches c a r h.1)

-- what does not go on in the class
abbrev pub Ends : Class → List ℕ → Type 0
Ends c [] = Unit {0}
Ends c (b ∷ t) = is_in c b ≡ false

pub run-stops : (c : Class) (a r : List ℕ) → AllIn c a → Ends c r → run c (a ++ r) ≡ length a
run-stops c [] [] h e = refl
run-stops c [] (b ∷ r) h e = run-out c b r e
run-stops c (b ∷ a) r h e = run-in c b (a ++ r) h.0 ∙ ap suc (run-stops c a r h.1 e)

pub record Run (c : Class) (t : List ℕ) : Type 0 where
  pub here : Begins (AllIn c) (run c t) t
  pub ends : Ends c here.rest

pub run-front : (c : Class) (t : List ℕ) → Run c t
run-front c [] = record { here = record { front = []; rest = []; split = refl; len = refl; holds = tt }; ends = tt }
run-front c (b ∷ t) =
    let more = run-front c t in
    elim (either (is_in c b)) [
      | inl h ↦ record { here = record { front = b ∷ more.here.front; rest = more.here.rest; split = ap (λ s. b ∷ s) more.here.split; len = ap suc more.here.len ∙ sym (run-in c b t h); holds = (h, more.here.holds) }; ends = more.ends }
      | inr h ↦ record { here = record { front = []; rest = b ∷ t; split = refl; len = sym (run-out c b t h); holds = tt }; ends = h }
    ]

pub all-some : (c : Class) (s : List ℕ) → SomeIn c s → AllIn c s
all-some c [] h = tt
all-some c (b ∷ s) h = h

pub some-all : (c : Class) (s : List ℕ) → AllIn c s → 0 < length s → SomeIn c s
some-all c [] h l = absurd (omega arith)
some-all c (b ∷ s) h l = h

pub some-long : (c : Class) (s : List ℕ) → SomeIn c s → 0 < length s
some-long c [] h = absurd h
some-long c (b ∷ s) h = omega arith
