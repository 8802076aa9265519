-- What a walk answers, as a relation: what it makes where every point is met, or the fault of least rank at the first
-- point that is not.
use Rattle.std.specs.Prelude.{ℕ, ◌≡◌, ◌<◌, ◌≤◌, true, false, Result, Ok, Err, List, [], ◌∷◌, ◌++◌, All}
use Rattle.pw_check_walk.specs.declared.constraints.CheckFault.{CheckFault}
use Rattle.pw_check_walk.specs.Causes.{Constraint, Cause, Point, rank, fault_of}
use Rattle.pw_check_walk.specs.Walks.{Walk, Done, Passing, Closed}

-- no constraint of the point is broken
abbrev pub IsMet : Point → Type 0
IsMet p = All (λ c. c.broken ≡ false) p

-- The fault is told at the point: it is that of a broken constraint, every broken one before that has a greater rank,
-- and none behind has a lesser.
pub record IsTold (p : Point) (fault : CheckFault) : Type 0 where
  pub before : List Cause
  pub cause : Cause
  pub behind : List Cause
  pub cut : p ≡ before ++ cause ∷ behind
  pub broken : cause.broken ≡ true
  pub told : fault ≡ fault_of cause
  pub earlier : All (λ c. c.broken ≡ true → rank cause < rank c) before
  pub later : All (λ c. c.broken ≡ true → rank cause ≤ rank c) behind

-- a walk that comes by these points and then goes on
abbrev pub by_points : {A : Type 0} → List Point → Walk A → Walk A
by_points [] w = w
by_points (p ∷ rest) w = Passing p (by_points rest w)

-- all points are met, and then this is made
pub record Ends {A : Type 0} (w : Walk A) (made : A) : Type 0 where
  pub points : List Point
  pub met : All IsMet points
  pub is : w ≡ by_points points (Done made)

-- some points are met, and the next one is not
pub record StopsAtPoint {A : Type 0} (w : Walk A) (fault : CheckFault) : Type 0 where
  pub points : List Point
  pub met : All IsMet points
  pub point : Point
  pub rest : Walk A
  pub is : w ≡ by_points points (Passing point rest)
  pub told : IsTold point fault

-- all points are met, and then nothing can be made
pub record StopsClosed {A : Type 0} (w : Walk A) (fault : CheckFault) : Type 0 where
  pub points : List Point
  pub met : All IsMet points
  pub constraint : Constraint
  pub token : ℕ
  pub is : w ≡ by_points points (Closed constraint token)
  pub told : fault ≡ fault_of (record { constraint = constraint; token = token; broken = true })

pub data Stops {A : Type 0} (w : Walk A) (fault : CheckFault) : Type 0 where
  AtPoint : StopsAtPoint w fault → Stops w fault
  AtEnd : StopsClosed w fault → Stops w fault

abbrev pub Answers : {A : Type 0} → Walk A → Result A CheckFault → Type 0
Answers w (Ok made) = Ends w made
Answers w (Err fault) = Stops w fault
