-- A run comes to a stage of another, and something holds of all that it noted up to there.
use Rattle.std.specs.Prelude.{ℕ, ◌≡◌, ◌≤◌, List}
use Rattle.pw_run.specs.Runs.{End, View, Stage, Going, Over, Wrong}

pub record GoesWith {M N : Type 0} (P : List N → Type 0) (a : View M) (b : ℕ → Stage N) : Type 0 where
  pub at : ℕ
  pub view : View N
  pub is : b at ≡ Going view
  pub counted : a.events ≤ view.events
  pub holds : P view.log

pub record EndsWith {N : Type 0} (P : List N → Type 0) (end : End) (b : ℕ → Stage N) : Type 0 where
  pub at : ℕ
  pub view : View N
  pub is : b at ≡ Over end view
  pub holds : P view.log

-- where the other has gone wrong nothing is said
abbrev pub MetWith : {M N : Type 0} → (List N → Type 0) → Stage M → (ℕ → Stage N) → Type 0
MetWith P (Going v) b = GoesWith P v b
MetWith P (Over end v) b = EndsWith P end b
MetWith P Wrong b = Unit {0}

-- ---- how many steps it takes

pub record GoesIn {M N : Type 0} (P : ℕ → Type 0) (a : View M) (b : ℕ → Stage N) : Type 0 where
  pub at : ℕ
  pub view : View N
  pub is : b at ≡ Going view
  pub counted : a.events ≤ view.events
  pub holds : P at

pub record EndsIn {N : Type 0} (P : ℕ → Type 0) (end : End) (b : ℕ → Stage N) : Type 0 where
  pub at : ℕ
  pub view : View N
  pub is : b at ≡ Over end view
  pub holds : P at

-- a run comes to a stage of another, and something holds of the number of steps that it has done then
abbrev pub MetIn : {M N : Type 0} → (ℕ → Type 0) → Stage M → (ℕ → Stage N) → Type 0
MetIn P (Going v) b = GoesIn P v b
MetIn P (Over end v) b = EndsIn P end b
MetIn P Wrong b = Unit {0}
