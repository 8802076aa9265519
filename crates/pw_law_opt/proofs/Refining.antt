-- Runs that refine one another in a row, where moments are the same.
use Rattle.std.specs.Prelude.{ℕ, ◌≡◌, ◌≤◌, List, ◌∷◌}
use Rattle.std.proofs.Common.{refl, sym, ap₂, subst, ◌∙◌, arith}
use Rattle.pw_run.specs.Runs.{View, Stage, Going, Over, Wrong, AreAlike, none, also, SameIn, Met, Refines, Same}

all_same : {M : Type 0} (l m : List M) → AreAlike Same l m → l ≡ m
all_same l m none = refl
all_same l m (also x y xs ys e rest) = ap₂ (λ z zs. z ∷ zs) e (all_same xs ys rest)

same_through : {M : Type 0} (a b c : View M) → SameIn Same a b → SameIn Same b c → SameIn Same a c
same_through a b c x y = record {
  output = x.output ∙ y.output;
  read = x.read ∙ y.read;
  log = subst (λ l. AreAlike Same l c.log) (sym (all_same a.log b.log x.log)) y.log;
}

met_through : {M : Type 0} (s : Stage M) (b c : ℕ → Stage M) → Met Same s b → Refines Same b c → Met Same s c
met_through (Going v) b c g r =
    let k = subst (λ t. Met Same t c) g.is (r g.at) in
    let less : v.events ≤ g.view.events = g.counted in
    let more : g.view.events ≤ k.view.events = k.counted in
    record { at = k.at; view = k.view; is = k.is; same = same_through v g.view k.view g.same k.same; counted = omega (arith, less, more) }
met_through (Over end v) b c g r =
    let k = subst (λ t. Met Same t c) g.is (r g.at) in
    let less : v.events ≤ g.view.events = g.counted in
    let more : g.view.events ≤ k.view.events = k.counted in
    record { at = k.at; view = k.view; is = k.is; same = same_through v g.view k.view g.same k.same; counted = omega (arith, less, more) }
met_through Wrong b c g r = tt

pub refines_through : {M : Type 0} (a b c : ℕ → Stage M) → Refines Same a b → Refines Same b c → Refines Same a c
refines_through a b c f g n = met_through (a n) b c (f n) g
