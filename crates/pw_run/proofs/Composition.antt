-- Refinement composes: what each of two runs keeps of the one above it, the lower keeps of the upper.
use Rattle.std.specs.Prelude.{ℕ, ◌≤◌, List}
use Rattle.std.proofs.Common.{arith, subst, ◌∙◌}
use Rattle.pw_run.specs.Runs.{End, View, Stage, Going, Over, Wrong, AreAlike, none, also, SameIn, GoesOn, EndsSo, Met, Refines, Through}

pub alike_twice : {L M N : Type 0} {F : L → M → Type 0} {G : M → N → Type 0} (xs : List L) (ys : List M) (zs : List N)
    → AreAlike F xs ys → AreAlike G ys zs → AreAlike (Through F G) xs zs
alike_twice xs ys zs none none = none
alike_twice xs ys zs (also x y xs' ys' f fs) (also _ z _ zs' g gs) =
    also x z xs' zs' (record { between = y; first = f; second = g }) (alike_twice xs' ys' zs' fs gs)

pub same_twice : {L M N : Type 0} {F : L → M → Type 0} {G : M → N → Type 0} (x : View L) (y : View M) (z : View N)
    → SameIn F x y → SameIn G y z → SameIn (Through F G) x z
same_twice x y z p q = record {
  output = p.output ∙ q.output;
  read = p.read ∙ q.read;
  log = alike_twice x.log y.log z.log p.log q.log;
}

-- what the middle run meets at a stage where it goes on, or at its end, the lower meets too
goes_on_twice : {L M N : Type 0} {F : L → M → Type 0} {G : M → N → Type 0} (x : View L) (y : View M) (c : ℕ → Stage N)
    → SameIn F x y → x.events ≤ y.events → GoesOn G y c → GoesOn (Through F G) x c
goes_on_twice x y c p n q = record {
  at = q.at;
  view = q.view;
  is = q.is;
  same = same_twice x y q.view p q.same;
  counted = omega (arith, n, q.counted);
}

ends_twice : {L M N : Type 0} {F : L → M → Type 0} {G : M → N → Type 0} (end : End) (x : View L) (y : View M) (c : ℕ → Stage N)
    → SameIn F x y → x.events ≤ y.events → EndsSo G end y c → EndsSo (Through F G) end x c
ends_twice end x y c p n q = record {
  at = q.at;
  view = q.view;
  is = q.is;
  same = same_twice x y q.view p q.same;
  counted = omega (arith, n, q.counted);
}

met_twice : {L M N : Type 0} (F : L → M → Type 0) (G : M → N → Type 0) (s : Stage L) (b : ℕ → Stage M) (c : ℕ → Stage N)
    → Met F s b → Refines G b c → Met (Through F G) s c
met_twice F G (Going x) b c p q =
    goes_on_twice x p.view c p.same p.counted (subst (λ s. Met G s c) p.is (q p.at))
met_twice F G (Over end x) b c p q =
    ends_twice end x p.view c p.same p.counted (subst (λ s. Met G s c) p.is (q p.at))
met_twice F G Wrong b c p q = record {}

-- Refinement composes, through the moments of the middle run.
pub refines_twice : {L M N : Type 0} (F : L → M → Type 0) (G : M → N → Type 0) (a : ℕ → Stage L) (b : ℕ → Stage M) (c : ℕ → Stage N)
    → Refines F a b → Refines G b c → Refines (Through F G) a c
refines_twice F G a b c p q = λ n. met_twice F G (a n) b c (p n) q
