-- Runs whose logs may be behind by loads and stores of globals: what one run has noted of these already, the other
-- notes together with the event that comes next.
use Rattle.std.specs.Prelude.{ℕ, ◌≡◌, ◌≤◌, List, ◌∷◌}
use Rattle.pw_run.specs.Runs.{View, Stage, Going, Over, Wrong, AreAlike, EndsSo}
use Rattle.pw_run_languages.specs.Traces.{Event, Loaded, Stored}

-- a load or a store of a global
abbrev pub IsAccess : {B V : Type 0} → Event B V → Type 0
IsAccess (Loaded v) = Unit {0}
IsAccess (Stored v) = Unit {0}
IsAccess e = ⊥

-- the latest are some loads and stores, and what is before them is alike to the other log
pub data Lately {B C V W : Type 0} (Alike : Event B V → Event C W → Type 0) : List (Event B V) → List (Event C W) → Type 0 where
  level : (l : List (Event B V)) (m : List (Event C W)) → AreAlike Alike l m → Lately Alike l m
  ahead : (e : Event B V) (l : List (Event B V)) (m : List (Event C W)) → IsAccess e → Lately Alike l m → Lately Alike (e ∷ l) m

-- a run comes to a stage where it goes on, has shown what a view has but for its latest loads and stores, and counted no
-- fewer events
pub record GoesLately {B C V W : Type 0} (Alike : Event B V → Event C W → Type 0) (a : View (Event B V)) (b : ℕ → Stage (Event C W)) : Type 0 where
  pub at : ℕ
  pub view : View (Event C W)
  pub is : b at ≡ Going view
  pub output : a.output ≡ view.output
  pub read : a.read ≡ view.read
  pub log : Lately Alike a.log view.log
  pub counted : a.events ≤ view.events

-- where the run above is over, nothing is behind
abbrev pub MetLately : {B C V W : Type 0} → (Event B V → Event C W → Type 0) → Stage (Event B V) → (ℕ → Stage (Event C W)) → Type 0
MetLately Alike (Going v) b = GoesLately Alike v b
MetLately Alike (Over end v) b = EndsSo Alike end v b
MetLately Alike Wrong b = Unit {0}

-- as `Refines`, with logs that may be behind while the run goes on
abbrev pub RefinesLately : {B C V W : Type 0} → (Event B V → Event C W → Type 0) → (ℕ → Stage (Event B V)) → (ℕ → Stage (Event C W)) → Type 0
RefinesLately Alike a b = (n : ℕ) → MetLately Alike (a n) b
