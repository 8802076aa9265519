-- How promises are put together: what is met from a machine is met from each that comes to it, and where an event was
-- counted on the way, at a bound that is one greater.
use Rattle.std.proofs.Common.{◌≡◌, ℕ, suc, ◌+◌, ◌<◌, ◌⊎◌, inl, inr, ap, ◌∙◌, refl, arith}
use Rattle.pw_cmean.specs.Worlds.{World}
use Rattle.pw_cmean.specs.Acts as source
use Rattle.pw_cmean.specs.Acts.{State, Outcome, Gives, Ends, Act, go_on}
use Rattle.pw_cmean.specs.Typed.{IfGives}
use Rattle.pw_run.specs.Runs.{End}
use Rattle.pw_run_languages.specs.FlowRun.{Machine, Step, On, steps}
use Rattle.pw_law_refine.specs.Activations.{graphs}
use Rattle.pw_law_refine.specs.Matching.{Shows}
use Rattle.pw_law_refine.specs.Meeting.{Reaches, Stops, Meets}
use Rattle.pw_law_refine_stmts.proofs.Laws.{Laws}

-- the machine m comes to the machine t by k steps
abbrev pub Comes : World → ℕ → Machine → Machine → Type 0
Comes w k m t = steps (graphs w) k (On m) ≡ On t

pub comes-on : Laws → (w : World) (k j : ℕ) (m t : Machine) (s : Step) → Comes w k m t → steps (graphs w) j (On t) ≡ s → steps (graphs w) (k + j) (On m) ≡ s
comes-on laws w k j m t s c d = laws.more (graphs w) k j (On m) ∙ ap (λ (a : Step). steps (graphs w) j a) c ∙ d

stops-later : Laws → (w : World) (end : End) (m t : Machine) (s : State) (k : ℕ) → Comes w k m t → Stops w end t s → Stops w end m s
stops-later laws w end m t s k c r = record {
  count = k + r.count;
  machine = r.machine;
  comes = comes-on laws w k r.count m t _ c r.comes;
  shows = r.shows;
}

-- a machine that has shown what the state has, seen from one that comes before it
far-later : Laws → (w : World) (m t : Machine) (s : State) (k : ℕ) → Comes w k m t → Reaches (graphs w) t (Shows w s) → Reaches (graphs w) m (Shows w s)
far-later laws w m t s k c r = record { count = k + r.count; machine = r.machine; comes = comes-on laws w k r.count m t _ c r.comes; holds = r.holds }

-- a machine that comes to another meets what that one meets
pub meets-later : {A : Type 0} → Laws → (w : World) (n : ℕ) (m t : Machine) (k : ℕ) (o : Outcome A) (Q : A → State → Machine → Type 0)
    → Comes w k m t → Meets w n t o Q → Meets w n m o Q
meets-later laws w n m t k (Gives a s) Q c r = record {
  count = k + r.count;
  machine = r.machine;
  comes = comes-on laws w k r.count m t _ c r.comes;
  holds = r.holds;
}
meets-later laws w n m t k (Ends source.Bound s) Q c r = record {
  count = k + r.count;
  machine = r.machine;
  comes = comes-on laws w k r.count m t _ c r.comes;
  counted = omega (arith, laws.rise (graphs w) k m t c, r.counted);
  shows = r.shows;
}
meets-later laws w n m t k (Ends source.StackFull s) Q c r = stops-later laws w _ m t s k c r
meets-later laws w n m t k (Ends (source.Exit status) s) Q c r = stops-later laws w _ m t s k c r
meets-later laws w n m t k (Ends (source.Undefined o home token) s) Q c r = far-later laws w m t s k c r
meets-later laws w n m t k (Ends source.Wrong s) Q c r = tt

-- where an event was counted on the way
pub meets-counted : {A : Type 0} → Laws → (w : World) (n : ℕ) (m t : Machine) (k : ℕ) (o : Outcome A) (Q : A → State → Machine → Type 0)
    → Comes w k m t → m.events < t.events → Meets w n t o Q → Meets w (suc n) m o Q
meets-counted laws w n m t k (Gives a s) Q c h r = record {
  count = k + r.count;
  machine = r.machine;
  comes = comes-on laws w k r.count m t _ c r.comes;
  holds = r.holds;
}
meets-counted laws w n m t k (Ends source.Bound s) Q c h r = record {
  count = k + r.count;
  machine = r.machine;
  comes = comes-on laws w k r.count m t _ c r.comes;
  counted = omega (arith, h, r.counted);
  shows = r.shows;
}
meets-counted laws w n m t k (Ends source.StackFull s) Q c h r = stops-later laws w _ m t s k c r
meets-counted laws w n m t k (Ends (source.Exit status) s) Q c h r = stops-later laws w _ m t s k c r
meets-counted laws w n m t k (Ends (source.Undefined o home token) s) Q c h r = far-later laws w m t s k c r
meets-counted laws w n m t k (Ends source.Wrong s) Q c h r = tt

-- in order: what comes behind a value is met from where the machine has come with it
pub meets-then : {A B : Type 0} → Laws → (w : World) (n : ℕ) (m : Machine) (o : Outcome A) (next : A → Act B)
    (Q : A → State → Machine → Type 0) (R : B → State → Machine → Type 0)
    → Meets w n m o Q → ((a : A) (s : State) (t : Machine) → Q a s t → Meets w n t (next a s) R) → Meets w n m (go_on o next) R
unfolding go_on
meets-then laws w n m (Gives a s) next Q R r f = meets-later laws w n m r.machine r.count (next a s) R r.comes (f a s r.machine r.holds)
meets-then laws w n m (Ends source.Bound s) next Q R r f = r
meets-then laws w n m (Ends source.StackFull s) next Q R r f = r
meets-then laws w n m (Ends (source.Exit status) s) next Q R r f = r
meets-then laws w n m (Ends (source.Undefined o home token) s) next Q R r f = r
meets-then laws w n m (Ends source.Wrong s) next Q R r f = tt

-- the same, where what comes behind may be met at a bound that is one less, if an event was counted before it
pub meets-then-less : {A B : Type 0} → Laws → (w : World) (n : ℕ) (m : Machine) (o : Outcome A) (next : A → Act B)
    (Q : A → State → Machine → Type 0) (R : B → State → Machine → Type 0)
    → Meets w (suc n) m o Q
    → ((a : A) (s : State) (t : Machine) → Q a s t → ((m.events < t.events) × Meets w n t (next a s) R) ⊎ Meets w (suc n) t (next a s) R)
    → Meets w (suc n) m (go_on o next) R
unfolding go_on
meets-then-less {A} {B} laws w n m (Gives a s) next Q R r f = by_case (f a s r.machine r.holds)
  where
    by_case : ((m.events < r.machine.events) × Meets w n r.machine (next a s) R) ⊎ Meets w (suc n) r.machine (next a s) R → Meets w (suc n) m (next a s) R
    by_case (inl h) = meets-counted laws w n m r.machine r.count (next a s) R r.comes h.0 h.1
    by_case (inr h) = meets-later laws w (suc n) m r.machine r.count (next a s) R r.comes h
meets-then-less laws w n m (Ends source.Bound s) next Q R r f = r
meets-then-less laws w n m (Ends source.StackFull s) next Q R r f = r
meets-then-less laws w n m (Ends (source.Exit status) s) next Q R r f = r
meets-then-less laws w n m (Ends (source.Undefined o home token) s) next Q R r f = r
meets-then-less laws w n m (Ends source.Wrong s) next Q R r f = tt

-- what holds there may be less
pub meets-less : {A : Type 0} (w : World) (n : ℕ) (m : Machine) (o : Outcome A) (Q R : A → State → Machine → Type 0)
    → Meets w n m o Q → ((a : A) (s : State) (t : Machine) → Q a s t → R a s t) → Meets w n m o R
meets-less w n m (Gives a s) Q R r f = record { count = r.count; machine = r.machine; comes = r.comes; holds = f a s r.machine r.holds }
meets-less w n m (Ends source.Bound s) Q R r f = r
meets-less w n m (Ends source.StackFull s) Q R r f = r
meets-less w n m (Ends (source.Exit status) s) Q R r f = r
meets-less w n m (Ends (source.Undefined o home token) s) Q R r f = r
meets-less w n m (Ends source.Wrong s) Q R r f = tt

-- and the machine may go on from there
pub meets-on : {A : Type 0} → Laws → (w : World) (n : ℕ) (m : Machine) (o : Outcome A) (Q R : A → State → Machine → Type 0)
    → Meets w n m o Q → ((a : A) (s : State) (t : Machine) → Q a s t → Reaches (graphs w) t (R a s)) → Meets w n m o R
meets-on laws w n m (Gives a s) Q R r f =
    let g = f a s r.machine r.holds in
    record { count = r.count + g.count; machine = g.machine; comes = comes-on laws w r.count g.count m r.machine _ r.comes g.comes; holds = g.holds }
meets-on laws w n m (Ends source.Bound s) Q R r f = r
meets-on laws w n m (Ends source.StackFull s) Q R r f = r
meets-on laws w n m (Ends (source.Exit status) s) Q R r f = r
meets-on laws w n m (Ends (source.Undefined o home token) s) Q R r f = r
meets-on laws w n m (Ends source.Wrong s) Q R r f = tt

-- a machine to which another comes
pub record ComesTo (w : World) (m t : Machine) : Type 0 where
  pub count : ℕ
  pub comes : Comes w count m t

-- with how the machine comes there
pub meets-path : {A : Type 0} (w : World) (n : ℕ) (m : Machine) (o : Outcome A) (Q : A → State → Machine → Type 0)
    → Meets w n m o Q → Meets w n m o (λ a s t. Q a s t × ComesTo w m t)
meets-path w n m (Gives a s) Q r = record { count = r.count; machine = r.machine; comes = r.comes; holds = (r.holds, record { count = r.count; comes = r.comes }) }
meets-path w n m (Ends source.Bound s) Q r = r
meets-path w n m (Ends source.StackFull s) Q r = r
meets-path w n m (Ends (source.Exit status) s) Q r = r
meets-path w n m (Ends (source.Undefined o home token) s) Q r = r
meets-path w n m (Ends source.Wrong s) Q r = tt

-- with what is known of what is given
pub meets-typed : {A : Type 0} (w : World) (n : ℕ) (m : Machine) (P : A → Type 0) (o : Outcome A) (Q : A → State → Machine → Type 0)
    → Meets w n m o Q → IfGives P o → Meets w n m o (λ a s t. Q a s t × P a)
meets-typed w n m P (Gives a s) Q r p = record { count = r.count; machine = r.machine; comes = r.comes; holds = (r.holds, p.0) }
meets-typed w n m P (Ends source.Bound s) Q r p = r
meets-typed w n m P (Ends source.StackFull s) Q r p = r
meets-typed w n m P (Ends (source.Exit status) s) Q r p = r
meets-typed w n m P (Ends (source.Undefined o home token) s) Q r p = r
meets-typed w n m P (Ends source.Wrong s) Q r p = tt

-- where the machine is already
pub meets-here : {A : Type 0} (w : World) (n : ℕ) (m : Machine) (a : A) (s : State) (Q : A → State → Machine → Type 0) → Q a s m → Meets w n m (Gives a s) Q
unfolding steps
meets-here w n m a s Q h = record { count = 0; machine = m; comes = refl; holds = h }

-- where an operation is undefined, the machine has shown what the state has
pub shown-here : (w : World) (m : Machine) (s : State) → Shows w s m → Reaches (graphs w) m (Shows w s)
unfolding steps
shown-here w m s h = record { count = 0; machine = m; comes = refl; holds = h }
