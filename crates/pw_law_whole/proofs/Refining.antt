-- A run that refines one which refines another, where the moments of the last two are the same.
use Rattle.std.specs.Prelude.{ℕ, ◌≡◌, ◌≤◌, List, ◌∷◌}
use Rattle.std.proofs.Common.{refl, sym, ap₂, subst, ◌∙◌, arith}
use Rattle.pw_run.specs.Runs.{End, View, Stage, Going, Over, Wrong, AreAlike, none, also, SameIn, GoesOn, EndsSo, Met, Refines, Same}
use Rattle.pw_cmean.specs.Acts as source
use Rattle.pw_run_languages.specs.Programs as flows
use Rattle.pw_run_languages.specs.Programs.{globals_of}
use Rattle.pw_flow.specs.declared.flow.FlowGlobal.{FlowGlobal}
use Rattle.pw_value.specs.Objects.{Object}
use Rattle.pw_run_languages.specs.FlowRun as flow
use Rattle.pw_law_source.specs.Lowering.{GlobalsKept, SameGlobals, MomentKept}

all_same : {N : Type 0} (l m : List N) → AreAlike Same l m → l ≡ m
all_same l m none = refl
all_same l m (also x y xs ys e rest) = ap₂ (λ z zs. z ∷ zs) e (all_same xs ys rest)

module _ {M N : Type 0} (F G : M → N → Type 0) (weaker : (m : M) (n : N) → F m n → G m n) where
  all_alike : (l : List M) (m : List N) → AreAlike F l m → AreAlike G l m
  all_alike l m none = none
  all_alike l m (also x y xs ys f rest) = also x y xs ys (weaker x y f) (all_alike xs ys rest)

  same_through : (a : View M) (b c : View N) → SameIn F a b → SameIn Same b c → SameIn G a c
  same_through a b c x y = record {
    output = x.output ∙ y.output;
    read = x.read ∙ y.read;
    log = subst (AreAlike G a.log) (all_same b.log c.log y.log) (all_alike a.log b.log x.log);
  }

  goes_on : (a : View M) (b : View N) (c : ℕ → Stage N) → SameIn F a b → a.events ≤ b.events → GoesOn Same b c → GoesOn G a c
  goes_on a b c p n q = record { at = q.at; view = q.view; is = q.is; same = same_through a b q.view p q.same; counted = omega (arith, n, q.counted) }

  ends_so : (end : End) (a : View M) (b : View N) (c : ℕ → Stage N) → SameIn F a b → a.events ≤ b.events → EndsSo Same end b c → EndsSo G end a c
  ends_so end a b c p n q = record { at = q.at; view = q.view; is = q.is; same = same_through a b q.view p q.same; counted = omega (arith, n, q.counted) }

  met_through : (s : Stage M) (b c : ℕ → Stage N) → Met F s b → Refines Same b c → Met G s c
  met_through (Going v) b c g r = goes_on v g.view c g.same g.counted (subst (λ (t : Stage N). Met Same t c) g.is (r g.at))
  met_through (Over end v) b c g r = ends_so end v g.view c g.same g.counted (subst (λ (t : Stage N). Met Same t c) g.is (r g.at))
  met_through Wrong b c g r = record {}

  pub refines_on : (a : ℕ → Stage M) (b c : ℕ → Stage N) → Refines F a b → Refines Same b c → Refines G a c
  refines_on a b c f g = λ n. met_through (a n) b c (f n) g

-- ---- moments of two programs with the same globals

kept_globals : (p q : flows.Program) → globals_of q ≡ globals_of p → (objects kept : List Object) → SameGlobals p objects kept → SameGlobals q objects kept
kept_globals p q same objects kept h = record { place = h.place; globals = subst (λ (gs : List FlowGlobal). GlobalsKept h.place gs 0 objects kept) (sym same) h.globals }

pub kept_moments : (p q : flows.Program) → globals_of q ≡ globals_of p → (m : source.Moment) (n : flow.Moment) → MomentKept p m n → MomentKept q m n
kept_moments p q same (source.Called f objects) (flow.Called g kept) h = (h.0, kept_globals p q same objects kept h.1)
kept_moments p q same (source.Called f objects) (flow.Returned g kept) h = absurd h
kept_moments p q same (source.Returned f objects) (flow.Called g kept) h = absurd h
kept_moments p q same (source.Returned f objects) (flow.Returned g kept) h = (h.0, kept_globals p q same objects kept h.1)
