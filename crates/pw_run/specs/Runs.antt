-- A run as it is seen from outside, and refinement between two runs. Every language between C and the machine's
-- words has its run in this form, so that what one keeps of the one above composes.
use Rattle.std.specs.Prelude.{ℕ, ◌≡◌, ◌≤◌, List, [], ◌∷◌}

-- how a run ends: with a status, or for want of stack
pub data End : Type 0 where
  Ended : (status : ℕ) → End
  StackFull : End

-- What a run has shown so far: its output, how many bytes of input it read, how many events it counted, and the
-- moments that it noted, the latest first. What an event and a moment is, each language says.
pub record View (M : Type 0) : Type 0 where
  pub output : List ℕ
  pub read : ℕ
  pub events : ℕ
  pub log : List M

-- A run at one of its stages: it goes on, it is over, or it has gone wrong and promises nothing.
pub data Stage (M : Type 0) : Type 0 where
  Going : View M → Stage M
  Over : End → View M → Stage M
  Wrong : Stage M

-- two logs that are alike moment by moment
pub data AreAlike {M N : Type 0} (Alike : M → N → Type 0) : List M → List N → Type 0 where
  none : AreAlike Alike [] []
  also : (m : M) (n : N) (ms : List M) (ns : List N) → Alike m n → AreAlike Alike ms ns → AreAlike Alike (m ∷ ms) (n ∷ ns)

-- two runs that have shown the same, up to the likeness of their moments
pub record SameIn {M N : Type 0} (Alike : M → N → Type 0) (a : View M) (b : View N) : Type 0 where
  pub output : a.output ≡ b.output
  pub read : a.read ≡ b.read
  pub log : AreAlike Alike a.log b.log

-- a run comes to a stage where it goes on, has shown what a view has, and counted no fewer events
pub record GoesOn {M N : Type 0} (Alike : M → N → Type 0) (a : View M) (b : ℕ → Stage N) : Type 0 where
  pub at : ℕ
  pub view : View N
  pub is : b at ≡ Going view
  pub same : SameIn Alike a view
  pub counted : a.events ≤ view.events

-- a run comes to an end, has shown what a view has, and counted no fewer events
pub record EndsSo {M N : Type 0} (Alike : M → N → Type 0) (end : End) (a : View M) (b : ℕ → Stage N) : Type 0 where
  pub at : ℕ
  pub view : View N
  pub is : b at ≡ Over end view
  pub same : SameIn Alike a view
  pub counted : a.events ≤ view.events

-- a run meets a stage of another
abbrev pub Met : {M N : Type 0} → (M → N → Type 0) → Stage M → (ℕ → Stage N) → Type 0
Met Alike (Going v) b = GoesOn Alike v b
Met Alike (Over end v) b = EndsSo Alike end v b
Met Alike Wrong b = Unit {0}

-- A run refines another: it meets each of its stages. So it does what the other does for as long as that one does
-- not go wrong, whatever that one comes to later.
abbrev pub Refines : {M N : Type 0} → (M → N → Type 0) → (ℕ → Stage M) → (ℕ → Stage N) → Type 0
Refines Alike a b = (n : ℕ) → Met Alike (a n) b

-- the likeness of two moments through one between them
pub record Through {L M N : Type 0} (F : L → M → Type 0) (G : M → N → Type 0) (x : L) (z : N) : Type 0 where
  pub between : M
  pub first : F x between
  pub second : G between z

-- every two moments are alike
abbrev pub Whatever : {M N : Type 0} → M → N → Type 0
Whatever m n = Unit {0}

-- a moment is alike to itself
abbrev pub Same : {M : Type 0} → M → M → Type 0
Same m n = m ≡ n
