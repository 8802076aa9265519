-- Calls in a run of the machine: the steps before which it stands at the start of a function of a module.
use Rattle.std.specs.Prelude.{ℕ, zero, suc, ◌≡◌, ◌≢◌, ◌<◌, ◌+◌, ◌*◌, ◌==◌, ◌&&◌, not, Bool, true, false, Option, Some, List, [], ◌∷◌, length, map, filter, take, slice_set, slice_index_or}
use Rattle.std.specs.List.{sum_by, list_any}
use Rattle.pw_value.specs.Limits.{text_start, word_limit}
use Rattle.pw_value.specs.ProgramNames.{may_stand}
use Rattle.pw_value.specs.declared.program_names.StartName.TheVariants.{Refused}
use Rattle.pw_object.specs.declared.object.Object.{Object}
use Rattle.pw_image.specs.declared.image.Function.{Function}
use Rattle.pw_machine.specs.declared.ends.End.TheVariants as end
use Rattle.pw_machine.specs.declared.ends.Stop.{Stop}
use Rattle.pw_machine.specs.declared.ends.Stop.TheVariants as stop
use Rattle.pw_machine.specs.Core.{Core}
use Rattle.pw_machine.specs.Stops.{ReadCount}
use Rattle.pw_machine.specs.Run.{State, Progress, Running, Stopped, run_of}
use Rattle.pw_where.specs.declared.running.Reached.{Reached}
use Rattle.pw_where.specs.declared.running.Reached.TheVariants.{AtCall, StoppedBefore}

-- ---- where functions begin

-- how many functions modules have
abbrev pub count_of : List Object → ℕ
count_of objects = sum_by (λ o. length o.functions) objects

-- the functions of a map that modules define: they stand first, in the order of linking, and the library's behind them
abbrev pub of_modules : List Object → List Function → List Function
of_modules objects functions = take (count_of objects) functions

-- any function of a module but `$start`
abbrev pub is_called : Function → Bool
is_called f = may_stand Refused f.name

-- where such functions begin
abbrev pub entries_of : List Function → List ℕ
entries_of functions = map (λ f. f.address) (filter is_called functions)

-- ---- calls

-- the machine stands at one of these addresses, and the instruction there is not nullified
abbrev pub is_at : List ℕ → Core → Bool
is_at entries core = not core.nullify && list_any (λ a. a == core.front) entries

abbrev pub one_if : Bool → ℕ
one_if true = 1
one_if false = 0

-- whether the next step of a run is a call; one that has stopped takes none
abbrev pub call_at : List ℕ → Progress → Bool
call_at entries (Running s) = is_at entries s.core
call_at entries (Stopped end s) = false

-- how many of the first m steps of a run are calls
abbrev pub calls_in : List ℕ → State → ℕ → ℕ
calls_in entries start zero = 0
calls_in entries start (suc m) = calls_in entries start m + one_if (call_at entries (run_of m start))

-- the k-th call of a run is its step behind m others, before which it is in this state
pub record IsCall (entries : List ℕ) (start : State) (k m : ℕ) (s : State) : Type 0 where
  pub goes : run_of m start ≡ Running s
  pub at : is_at entries s.core ≡ true
  pub before : calls_in entries start m + 1 ≡ k

-- ---- what comes of a run that is sought for its k-th call

-- so many steps come to this, and fewer than k of them are calls
pub record Passes (entries : List ℕ) (start : State) (k budget : ℕ) (p : Progress) : Type 0 where
  pub comes : run_of budget start ≡ p
  pub few : calls_in entries start budget < k

-- the step behind n others reads, and it and those before it are fewer than k calls
pub record PassesTo (entries : List ℕ) (start : State) (k budget n : ℕ) (last : State) : Type 0 where
  pub within : n < budget
  pub goes : run_of n start ≡ Running last
  pub few : calls_in entries start (suc n) < k

-- the run stopped so, before a k-th call, in this state
abbrev pub StopsBefore : List ℕ → State → ℕ → ℕ → Stop → State → Type 0
StopsBefore entries start k budget (stop.Ended status) last = Passes entries start k budget (Stopped (end.Ended status) last)
StopsBefore entries start k budget stop.StackStop last = Passes entries start k budget (Stopped end.StackStop last)
StopsBefore entries start k budget stop.Spent last = Passes entries start k budget (Running last)
StopsBefore entries start k budget (stop.Halted halt at) last = Passes entries start k budget (Stopped (end.Halted halt at) last)
StopsBefore entries start k budget stop.ReadFault last = (n : ℕ) × PassesTo entries start k budget n last
StopsBefore entries start k budget stop.WriteFault last = ⊥

-- the machine in this state, where so much of the input is left
pub record Stands (s : State) (core : Core) (rest : Option (List ℕ)) : Type 0 where
  pub is : core ≡ s.core
  pub left : rest ≡ Some s.rest

-- the machine stands before the k-th call, which is among the first steps
pub record ReachesCall (entries : List ℕ) (start : State) (k budget : ℕ) (core : Core) (rest : Option (List ℕ)) : Type 0 where
  pub step : ℕ
  pub state : State
  pub within : step < budget
  pub call : IsCall entries start k step state
  pub stands : Stands state core rest

-- it stopped before
pub record EndsShort (entries : List ℕ) (start : State) (k budget : ℕ) (how : Stop) (core : Core) (rest : Option (List ℕ)) : Type 0 where
  pub last : State
  pub stops : StopsBefore entries start k budget how last
  pub stands : Stands last core rest

abbrev pub Reaches : List ℕ → State → ℕ → ℕ → Reached → Core → Option (List ℕ) → Type 0
Reaches entries start k budget AtCall core rest = ReachesCall entries start k budget core rest
Reaches entries start k budget (StoppedBefore how) core rest = EndsShort entries start k budget how core rest

-- the input's count of faults rose where it had one, and else is as before
abbrev pub FaultCount : ℕ → ℕ → Reached → Type 0
FaultCount before now AtCall = now ≡ before
FaultCount before now (StoppedBefore how) = ReadCount before now how

-- a run whose output nobody keeps does not stop for a fault of it
abbrev pub IsUnwritten : Reached → Type 0
IsUnwritten AtCall = Unit {0}
IsUnwritten (StoppedBefore how) = how ≢ stop.WriteFault

-- ---- inside

-- how far the addresses of a text go
abbrev pub text_end : ℕ
text_end = text_start + 4 * word_limit

-- a table with marks at these addresses
abbrev pub marked : List Bool → List ℕ → List Bool
marked table [] = table
marked table (a ∷ rest) = marked (slice_set table a true) rest

-- a table tells which addresses are among these
abbrev pub Tells : List Bool → List ℕ → Type 0
Tells table entries = (a : ℕ) → slice_index_or table a false ≡ list_any (λ b. b == a) entries

-- the k-th call is still to come after m steps: so many calls are left to it
pub record Follows (entries : List ℕ) (start : State) (k left m : ℕ) (core : Core) (rest : Option (List ℕ)) : Type 0 where
  pub state : State
  pub goes : run_of m start ≡ Running state
  pub stands : Stands state core rest
  pub count : calls_in entries start m + left ≡ k
