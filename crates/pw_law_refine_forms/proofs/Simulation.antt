-- How promises are put together: what is met from a machine is met from each that comes to it.
use Rattle.std.proofs.Common.{◌≡◌, ℕ, ◌+◌, Option, Some, None, List, ap, ◌∙◌, refl, arith}
use Rattle.pw_cmean.specs.Undefined.{Finding, least}
use Rattle.pw_cmean.specs.declared.undefined.Undef.{Undef}
use Rattle.pw_cmean.specs.Worlds.{World}
use Rattle.pw_cmean.specs.Acts as source
use Rattle.pw_cmean.specs.Acts.{State, Site, Outcome, Gives, Ends, Act, go_on, ◌>>=◌, give, stop, undefined, told, judge}
use Rattle.pw_cmean.specs.Typed.{IfGives}
use Rattle.pw_run.specs.Runs.{End}
use Rattle.pw_run_languages.specs.FlowRun.{Machine, Step, On, steps}
use Rattle.pw_law_refine.specs.Activations.{graphs}
use Rattle.pw_law_refine.specs.Matching.{Shows}
use Rattle.pw_law_refine.specs.Meeting.{Reaches, Stops, Meets}
use Rattle.pw_law_refine_forms.proofs.Laws.{Laws}

-- the machine m comes to the machine t by k steps
abbrev Comes : World → ℕ → Machine → Machine → Type 0
Comes w k m t = steps (graphs w) k (On m) ≡ On t

comes-on : Laws → (w : World) (k j : ℕ) (m t : Machine) (s : Step) → Comes w k m t → steps (graphs w) j (On t) ≡ s → steps (graphs w) (k + j) (On m) ≡ s
comes-on laws w k j m t s c d = laws.more (graphs w) k j (On m) ∙ ap (λ (a : Step). steps (graphs w) j a) c ∙ d

stops-later : Laws → (w : World) (end : End) (m t : Machine) (s : State) (k : ℕ) → Comes w k m t → Stops w end t s → Stops w end m s
stops-later laws w end m t s k c r = record {
  count = k + r.count;
  machine = r.machine;
  comes = comes-on laws w k r.count m t _ c r.comes;
  shows = r.shows;
}

-- a machine that has shown what the state has, seen from one that comes before it
far-later : Laws → (w : World) (m t : Machine) (s : State) (k : ℕ) → Comes w k m t → Reaches (graphs w) t (Shows w s) → Reaches (graphs w) m (Shows w s)
far-later laws w m t s k c r = record { count = k + r.count; machine = r.machine; comes = comes-on laws w k r.count m t _ c r.comes; holds = r.holds }

-- a machine that comes to another meets what that one meets
pub meets-later : {A : Type 0} → Laws → (w : World) (n : ℕ) (m t : Machine) (k : ℕ) (o : Outcome A) (Q : A → State → Machine → Type 0)
    → Comes w k m t → Meets w n t o Q → Meets w n m o Q
meets-later laws w n m t k (Gives a s) Q c r = record {
  count = k + r.count;
  machine = r.machine;
  comes = comes-on laws w k r.count m t _ c r.comes;
  holds = r.holds;
}
meets-later laws w n m t k (Ends source.Bound s) Q c r = record {
  count = k + r.count;
  machine = r.machine;
  comes = comes-on laws w k r.count m t _ c r.comes;
  counted = omega (arith, laws.rise (graphs w) k m t c, r.counted);
  shows = r.shows;
}
meets-later laws w n m t k (Ends source.StackFull s) Q c r = stops-later laws w _ m t s k c r
meets-later laws w n m t k (Ends (source.Exit status) s) Q c r = stops-later laws w _ m t s k c r
meets-later laws w n m t k (Ends (source.Undefined o home token) s) Q c r = far-later laws w m t s k c r
meets-later laws w n m t k (Ends source.Wrong s) Q c r = tt

-- in order: what comes behind a value is met from where the machine has come with it
pub meets-then : {A B : Type 0} → Laws → (w : World) (n : ℕ) (m : Machine) (o : Outcome A) (next : A → Act B)
    (Q : A → State → Machine → Type 0) (R : B → State → Machine → Type 0)
    → Meets w n m o Q → ((a : A) (s : State) (t : Machine) → Q a s t → Meets w n t (next a s) R) → Meets w n m (go_on o next) R
unfolding go_on
meets-then laws w n m (Gives a s) next Q R r f = meets-later laws w n m r.machine r.count (next a s) R r.comes (f a s r.machine r.holds)
meets-then laws w n m (Ends source.Bound s) next Q R r f = r
meets-then laws w n m (Ends source.StackFull s) next Q R r f = r
meets-then laws w n m (Ends (source.Exit status) s) next Q R r f = r
meets-then laws w n m (Ends (source.Undefined o home token) s) next Q R r f = r
meets-then laws w n m (Ends source.Wrong s) next Q R r f = tt

-- what holds there may be less
pub meets-less : {A : Type 0} (w : World) (n : ℕ) (m : Machine) (o : Outcome A) (Q R : A → State → Machine → Type 0)
    → Meets w n m o Q → ((a : A) (s : State) (t : Machine) → Q a s t → R a s t) → Meets w n m o R
meets-less w n m (Gives a s) Q R r f = record { count = r.count; machine = r.machine; comes = r.comes; holds = f a s r.machine r.holds }
meets-less w n m (Ends source.Bound s) Q R r f = r
meets-less w n m (Ends source.StackFull s) Q R r f = r
meets-less w n m (Ends (source.Exit status) s) Q R r f = r
meets-less w n m (Ends (source.Undefined o home token) s) Q R r f = r
meets-less w n m (Ends source.Wrong s) Q R r f = tt

-- and the machine may go on from there
pub meets-on : {A : Type 0} → Laws → (w : World) (n : ℕ) (m : Machine) (o : Outcome A) (Q R : A → State → Machine → Type 0)
    → Meets w n m o Q → ((a : A) (s : State) (t : Machine) → Q a s t → Reaches (graphs w) t (R a s)) → Meets w n m o R
meets-on laws w n m (Gives a s) Q R r f =
    let g = f a s r.machine r.holds in
    record { count = r.count + g.count; machine = g.machine; comes = comes-on laws w r.count g.count m r.machine _ r.comes g.comes; holds = g.holds }
meets-on laws w n m (Ends source.Bound s) Q R r f = r
meets-on laws w n m (Ends source.StackFull s) Q R r f = r
meets-on laws w n m (Ends (source.Exit status) s) Q R r f = r
meets-on laws w n m (Ends (source.Undefined o home token) s) Q R r f = r
meets-on laws w n m (Ends source.Wrong s) Q R r f = tt

-- with what is known of what is given
pub meets-typed : {A : Type 0} (w : World) (n : ℕ) (m : Machine) (P : A → Type 0) (o : Outcome A) (Q : A → State → Machine → Type 0)
    → Meets w n m o Q → IfGives P o → Meets w n m o (λ a s t. Q a s t × P a)
meets-typed w n m P (Gives a s) Q r p = record { count = r.count; machine = r.machine; comes = r.comes; holds = (r.holds, p.0) }
meets-typed w n m P (Ends source.Bound s) Q r p = r
meets-typed w n m P (Ends source.StackFull s) Q r p = r
meets-typed w n m P (Ends (source.Exit status) s) Q r p = r
meets-typed w n m P (Ends (source.Undefined o home token) s) Q r p = r
meets-typed w n m P (Ends source.Wrong s) Q r p = tt

-- where the machine is already
pub meets-here : {A : Type 0} (w : World) (n : ℕ) (m : Machine) (a : A) (s : State) (Q : A → State → Machine → Type 0) → Q a s m → Meets w n m (Gives a s) Q
unfolding steps
meets-here w n m a s Q h = record { count = 0; machine = m; comes = refl; holds = h }

-- where an operation is undefined, the machine has shown what the state has
pub shown-here : (w : World) (m : Machine) (s : State) → Shows w s m → Reaches (graphs w) m (Shows w s)
unfolding steps
shown-here w m s h = record { count = 0; machine = m; comes = refl; holds = h }

-- behind a judgement the step is none of the operations without meaning
pub judged : {B : Type 0} (w : World) (n : ℕ) (m : Machine) (at : Site) (findings : List Finding) (next : Act B) (s : State) (R : B → State → Machine → Type 0)
    → Shows w s m → (least findings ≡ None → Meets w n m (next s) R) → Meets w n m ((judge at findings >>= λ done. next) s) R
unfolding judge told undefined give stop ◌>>=◌ go_on
judged {B} w n m at findings next s R shows f = by_test (least findings) refl
  where
    by_test : (r : Option Undef) → least findings ≡ r → Meets w n m ((told at r >>= λ done. next) s) R
    by_test None e = f e
    by_test (Some o) e = shown-here w m s shows

-- with what comes behind it
pub judged-then : {B C : Type 0} (w : World) (n : ℕ) (m : Machine) (at : Site) (findings : List Finding) (mid : Act B) (next : B → Act C) (s : State) (R : C → State → Machine → Type 0)
    → Shows w s m → (least findings ≡ None → Meets w n m ((mid >>= next) s) R) → Meets w n m (((judge at findings >>= λ done. mid) >>= next) s) R
unfolding judge told undefined give stop ◌>>=◌ go_on
judged-then {B} {C} w n m at findings mid next s R shows f = by_test (least findings) refl
  where
    by_test : (r : Option Undef) → least findings ≡ r → Meets w n m (((told at r >>= λ done. mid) >>= next) s) R
    by_test None e = f e
    by_test (Some o) e = shown-here w m s shows
