-- What every act of a run leaves as it was.
use Rattle.std.specs.Prelude.{ℕ, ◌≡◌, ◌+◌, ◌<◌, ◌≤◌, List, ◌++◌, length}
use Rattle.pw_value.specs.Objects.{object_at}
use Rattle.pw_cmean.specs.Acts.{State, Outcome, Gives, Ends}

-- the state that an act leaves, whether or not the run goes on
abbrev pub state_behind : {A : Type 0} → Outcome A → State
state_behind (Gives a s) = s
state_behind (Ends ending s) = s

-- bytes, and others behind them
abbrev pub Extends : List ℕ → List ℕ → Type 0
Extends before behind = (new : List ℕ) × (behind ≡ before ++ new)

-- from the one state to the other some bytes were read, and counted
abbrev pub HasRead : State → State → Type 0
HasRead s t = (bytes : List ℕ) × (s.rest ≡ bytes ++ t.rest) × (t.read ≡ s.read + length bytes)

-- The output only grows, and the input is only read.
pub record IsLater (s t : State) : Type 0 where
  pub written : Extends s.out t.out
  pub taken : HasRead s t

-- The objects of a state are there in the other, with their sizes and marks: an act ends only objects that it
-- made.
pub record KeepsObjects (s t : State) : Type 0 where
  pub count : length s.objects ≤ length t.objects
  pub sizes : (n : ℕ) → n < length s.objects → length (object_at t.objects n).bytes ≡ length (object_at s.objects n).bytes
  pub living : (n : ℕ) → n < length s.objects → (object_at t.objects n).live ≡ (object_at s.objects n).live
  pub writable : (n : ℕ) → n < length s.objects → (object_at t.objects n).writable ≡ (object_at s.objects n).writable

-- Where the run goes on, the functions are active that were.
abbrev pub KeepsActive : {A : Type 0} → State → Outcome A → Type 0
KeepsActive s (Gives a t) = t.active ≡ s.active
KeepsActive s (Ends ending t) = Unit {0}
