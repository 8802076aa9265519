-- Walks: what is checked on the way to what is made. A walk is a list of points that ends in a value, or where
-- nothing can be made. It is refused at its first point with a broken constraint, with the fault of least rank there.
use Rattle.std.specs.Prelude.{ℕ, true, nat_lt, if◌then◌else◌, Option, None, Some, Result, Ok, Err, [], ◌∷◌}
use Rattle.pw_check_walk.specs.declared.constraints.CheckFault.{CheckFault}
use Rattle.pw_check_walk.specs.Causes.{Constraint, Cause, Point, rank, fault_of}

pub data Walk (A : Type 0) : Type 0 where
  Done : A → Walk A
  Passing : Point → Walk A → Walk A
  -- a constraint without which nothing can be made behind it, as that a name is declared
  Closed : Constraint → ℕ → Walk A

-- one walk, and then another from what it made
unfoldable pub bind : {A B : Type 0} → Walk A → (A → Walk B) → Walk B
bind (Done a) next = next a
bind (Passing p rest) next = Passing p (bind rest next)
bind (Closed constraint token) next = Closed constraint token

-- the lesser of a cause and what was found before it, by rank; of two equal ones the earlier
abbrev pub lesser : Option Cause → Cause → Option Cause
lesser None c = Some c
lesser (Some best) c = if nat_lt (rank c) (rank best) then Some c else Some best

-- the broken cause of least rank, and the first of several
abbrev pub least : Option Cause → Point → Option Cause
least best [] = best
least best (c ∷ rest) = least (if c.broken then lesser best c else best) rest

-- the fault there, or what follows
abbrev pub stopped : {A : Type 0} → Option Cause → Result A CheckFault → Result A CheckFault
stopped None rest = rest
stopped (Some c) rest = Err (fault_of c)

-- what a walk comes to
unfoldable pub outcome : {A : Type 0} → Walk A → Result A CheckFault
outcome (Done a) = Ok a
outcome (Passing p rest) = stopped (least None p) (outcome rest)
outcome (Closed constraint token) = Err (fault_of (record { constraint = constraint; token = token; broken = true }))

-- ---- rules: walks that read and change a state

-- a rule over a state of type S that makes an A
abbrev pub RuleOver : Type 0 → Type 0 → Type 0
RuleOver S A = S → Walk (A × S)

abbrev pub pure : {S A : Type 0} → A → S → Walk (A × S)
pure a s = Done (a, s)

abbrev pub ◌>>=◌ : {S A B : Type 0} → (S → Walk (A × S)) → (A → S → Walk (B × S)) → S → Walk (B × S)
◌>>=◌ first next s = bind (first s) (λ t. next t.0 t.1)

abbrev pub ◌>>◌ : {S A B : Type 0} → (S → Walk (A × S)) → (S → Walk (B × S)) → S → Walk (B × S)
◌>>◌ first next s = bind (first s) (λ t. next t.1)

-- a point
abbrev pub meets : {S : Type 0} → Point → S → Walk (Unit {0} × S)
meets p s = Passing p (Done (tt, s))

-- a point, and then what is there; where it is not, this constraint is broken
abbrev pub granted : {S A : Type 0} → Constraint → ℕ → Point → Option A → S → Walk (A × S)
granted constraint token p None s = Passing p (Closed constraint token)
granted constraint token p (Some a) s = Passing p (Done (a, s))

-- what cannot stand here at all
abbrev pub refused : {S A : Type 0} → Constraint → ℕ → S → Walk (A × S)
refused constraint token s = Closed constraint token

-- what the state says, and a change of it
abbrev pub asks : {S A : Type 0} → (S → A) → S → Walk (A × S)
asks look s = Done (look s, s)

abbrev pub change : {S : Type 0} → (S → S) → S → Walk (Unit {0} × S)
change f s = Done (tt, f s)

infixl 10 ◌>>=◌ ◌>>◌
