-- The registers that a callee keeps, in words: each active function, with what it saved given back, leaves them as they were at
-- its call, but those that it may change.
use Rattle.std.specs.Prelude.{ℕ, ◌≡◌, ◌+◌, ◌-◌, ◌*◌, ◌<◌, ◌≤◌, ◌⊎◌, Some, List, [], ◌∷◌, map, length, slice_get, slice_index_or, Contains}
use Rattle.pw_db.specs.Limits.{first_register, last_register, register_count, kept_registers}
use Rattle.pw_db.specs.declared.database.Directives.{Directives}
use Rattle.pw_db_sound.specs.CallGraphs.{Graph, Calls}
use Rattle.pw_flow.specs.declared.flow.FlowFn.{FlowFn}
use Rattle.pw_alloc.specs.declared.located.Located.{Located}
use Rattle.pw_alloc.specs.Frames.{head_size}
use Rattle.pw_run_languages.specs.Traces.{Standing, Returned, MayChange, KeepsRegisters}
use Rattle.pw_run_languages.specs.Calls.{Saves, AreGuarded}
use Rattle.pw_run_languages.specs.Acts.{number_at}
use Rattle.pw_run_languages.specs.Direction.{directed_by}
use Rattle.pw_run_languages.specs.Serving.{Serves}
use Rattle.pw_run_languages.specs.Standing.{without}
use Rattle.pw_run_languages.specs.LineRun.{Frame, active, name_of}
use Rattle.pw_law_select_states.specs.Passes.{IsNoneOf}

-- ---- one function

-- a register that a callee keeps
pub record IsKept (r : ℕ) : Type 0 where
  pub low : first_register ≤ r
  pub high : r ≤ last_register

-- what it held at a function's call
abbrev pub at_call : Frame → ℕ → ℕ
at_call l r = slice_index_or l.before (r - first_register) 0

-- what is left in registers by a function that is active
pub record LeavesAsFound (d : List (List ℕ × Directives)) (memory registers : ℕ → ℕ) (l : Frame) : Type 0 where
  pub whole : length l.before ≡ register_count
  pub same : (r : ℕ) → IsKept r → ¬ MayChange d (name_of l) r → without (active l) memory registers r ≡ at_call l r

-- the word of the i-th register that it saved
abbrev pub saved_word : Frame → (ℕ → ℕ) → ℕ → ℕ
saved_word l memory i = number_at 4 memory (l.stack + l.function.located.frame - head_size l.function.located.body - 4 * (i + 1))

-- what it saved stands as it did
abbrev pub SavedStays : (ℕ → ℕ) → (ℕ → ℕ) → Frame → Type 0
SavedStays memory later l = (i : ℕ) → i < length l.function.located.saved → saved_word l later i ≡ saved_word l memory i

-- ---- all that are active, the latest first

-- each calls the next one
abbrev pub CallEachOther : Graph → List Frame → Type 0
CallEachOther g [] = Unit {0}
CallEachOther g (l ∷ []) = Unit {0}
CallEachOther g (l ∷ caller ∷ callers) = Calls g (name_of caller) (name_of l) × CallEachOther g (caller ∷ callers)

-- those that wait find the registers as they were at the call that they wait for
abbrev pub AllLeaveAsFound : List (List ℕ × Directives) → (ℕ → ℕ) → (ℕ → ℕ) → List Frame → Type 0
AllLeaveAsFound d memory registers [] = Unit {0}
AllLeaveAsFound d memory registers (l ∷ ls) = LeavesAsFound d memory registers l × AllLeaveAsFound d memory (at_call l) ls

abbrev pub AllSavedStay : (ℕ → ℕ) → (ℕ → ℕ) → List Frame → Type 0
AllSavedStay memory later [] = Unit {0}
AllSavedStay memory later (l ∷ ls) = SavedStays memory later l × AllSavedStay memory later ls

-- ---- laws

-- A register that a callee keeps and that a function may not change is one that it saves, or one of none of its temporaries and
-- webs.
abbrev pub KeptRegistersAreSaved : Type 0
KeptRegistersAreSaved =
    (d : List (List ℕ × Directives)) (f : FlowFn) (l : Located) (r : ℕ) → Serves (directed_by d f) l → IsKept r → ¬ MayChange d f.name r
    → Contains l.saved r ⊎ IsNoneOf l r

-- a function that runs leaves them so, where what was saved stays, and such registers change alone as it saved or may change
abbrev pub OperationsLeaveAsFound : Type 0
OperationsLeaveAsFound =
    (d : List (List ℕ × Directives)) (memory later registers now : ℕ → ℕ) (l : Frame) (ls : List Frame) → AllSavedStay memory later (l ∷ ls)
    → ((r : ℕ) → IsKept r → ¬ MayChange d (name_of l) r → Contains l.function.located.saved r ⊎ (now r ≡ registers r))
    → AllLeaveAsFound d memory registers (l ∷ ls) → AllLeaveAsFound d later now (l ∷ ls)

-- so does one that was just entered, where its saved registers stand in its frame, and the others as at the call
abbrev pub FunctionsEnterAsFound : Type 0
FunctionsEnterAsFound =
    (d : List (List ℕ × Directives)) (memory later registers now : ℕ → ℕ) (l : Frame) (ls : List Frame) → AllSavedStay memory later ls
    → l.before ≡ map registers kept_registers → ((i r : ℕ) → slice_get l.function.located.saved i ≡ Some r → saved_word l later i ≡ registers r)
    → ((r : ℕ) → IsKept r → now r ≡ registers r) → ((r : ℕ) → Contains l.function.located.saved r → IsKept r)
    → AllLeaveAsFound d memory registers ls → AllLeaveAsFound d later now (l ∷ ls)

-- A return gives back what was saved. Then the caller leaves registers as it found them, and the return keeps them.
pub record ReturnsAsFound (d : List (List ℕ × Directives)) (memory now : ℕ → ℕ) (l : Frame) (ls : List Frame) : Type 0 where
  pub callers : AllLeaveAsFound d memory now ls
  pub keeps : (globals : List (Standing ℕ ℕ)) → KeepsRegisters d (Returned (name_of l) 0 globals l.before (map now kept_registers))

abbrev pub FunctionsReturnAsFound : Type 0
FunctionsReturnAsFound =
    (g : Graph) (d : List (List ℕ × Directives)) (functions : List Located) (memory registers now : ℕ → ℕ) (l : Frame) (ls : List Frame)
    → AreGuarded g d functions → CallEachOther g (l ∷ ls) → ((caller : Frame) (r : ℕ) → Contains ls caller → Saves functions (name_of caller) r → Contains caller.function.located.saved r)
    → ((r : ℕ) → IsKept r → now r ≡ without (active l) memory registers r)
    → AllLeaveAsFound d memory registers (l ∷ ls) → ReturnsAsFound d memory now l ls
