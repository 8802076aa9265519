-- A step of the run of items and one of the run with filled slots: both come to the same place, or the first has done a word
-- that the second does with the turn behind it.
use Rattle.std.proofs.Common.{ℕ, ◌≡◌, Bool, true, false, if◌then◌else◌, ◌⊎◌, inl, inr, Option, None, Some, List, [], ◌∷◌, ◌++◌, refl, ap, sym, subst, ◌∙◌}
use Rattle.std.specs.Prelude.{◌==◌}
use Rattle.std.specs.List.{AllByRecursion}
use Rattle.pw_inst.specs.declared.Inst.{Inst}
use Rattle.pw_inst.specs.declared.relocation.Symbol.TheVariants as symbol
use Rattle.pw_delay.specs.declared.items.Word.{Word}
use Rattle.pw_delay.specs.declared.items.Turn.{Turn}
use Rattle.pw_delay.specs.declared.items.Turn.TheVariants.{Back, Goto, If, CallTo, CallReg, Leave}
use Rattle.pw_delay.specs.declared.items.Item.{Item}
use Rattle.pw_delay.specs.declared.items.Item.TheVariants.{Plain, Turns, Mark}
use Rattle.pw_delay.specs.Filling.{compares, filled}
use Rattle.pw_delay.specs.Parts.{compared_by, PartsAlone}
use Rattle.pw_run_languages.specs.Traces.{Event}
use Rattle.pw_run_languages.specs.Addresses.{Addresses}
use Rattle.pw_run_languages.specs.Acts.{Core, Act, Acts, Full, Fails, register, acts, settled}
use Rattle.pw_run_languages.specs.LineRun.{LineProgram, Frame, Machine, Step, On, Astray, name_of, counted, left_behind, accesses, went_on, and_then, through_slot, to_block, goes_back, turns, return_address, calls, calls_at, function_at, result_of, scratch_registers, with_scratch, with_result, routine, linked, returns, is_taken, distance, turned, step}
use Rattle.pw_law_slots.specs.Passing.{LeadsOn}
use Rattle.pw_law_slots.specs.SlotLaws.{GoesElsewhere, PassesNothing, IsFillable, filled_program}
use Rattle.pw_law_slots.proofs.Passing.{BySources, ByTargets}
use Rattle.pw_law_slots.proofs.Doing.{skip_stays}
use Rattle.pw_law_slots.proofs.Leading.{turns_left}
use Rattle.pw_law_slots.proofs.Programs.{standing_filled}
use Rattle.pw_law_slots.proofs.Skipping.{word_clears}
use Rattle.pw_law_slots.proofs.Places.{IsCut, compared_on, cut_behind, IsTaken, taken_or_stays, cut_behind_word}
use Rattle.pw_law_slots.proofs.Beside.{AreBeside, AreStepsBeside, IsBeside, IsPlaced, Runs, AreFillable, beside, beside_at, landed, landed_on, block_beside, calls_beside, at_beside, returns_beside}
use Rattle.pw_law_slots.proofs.Backward.{back_level}

-- what the crates below promise
pub record Promises : Type 0 where
  pub sources : BySources
  pub targets : ByTargets
  pub alone : PartsAlone

-- ---- a word in the slot

slot_beside : (p : LineProgram) (w : Addresses) (slot : Option Word) (m : Machine) (left : List Item) (callers : List Frame) (next other : Machine → Step) → PassesNothing slot → Runs m
    → ((c : Core) (log : List (Event ℕ ℕ)) → c.skip ≡ false → AreStepsBeside (next (record m { core = c; trace = log })) (other (beside left callers (record m { core = c; trace = log }))))
    → AreStepsBeside (through_slot p w slot next m) (through_slot (filled_program p) w slot other (beside left callers m))
slot_beside p w None m left callers next other calm run goes = goes m.core m.trace run
slot_beside p w (Some word) m left callers next other calm run goes = by (acts w (settled w word) m.core) refl
  where
    by : (a : Act) → acts w (settled w word) m.core ≡ a
        → AreStepsBeside (and_then (went_on p w (settled w word) a m) next) (and_then (went_on (filled_program p) w (settled w word) a (beside left callers m)) other)
    by (Acts c) e = goes c (accesses p w (settled w word) m.core ++ m.trace) (word_clears w word m.core c calm (settled w word) refl e)
    by Full e = refl
    by Fails e = tt

moved : (m : Machine) (before : List Item) (callers : List Frame) (c : Core) (log : List (Event ℕ ℕ)) → IsPlaced m before callers → IsPlaced (record m { core = c; trace = log }) before callers
moved m before callers c log placed = record { cut = placed.cut; fillable = placed.fillable; alike = placed.alike }

goes_on_beside : (p : LineProgram) (w : Addresses) (slot : Option Word) (m : Machine) (left before : List Item) (callers : List Frame) → PassesNothing slot → IsPlaced m before callers → Runs m
    → AreStepsBeside (through_slot p w slot On m) (through_slot (filled_program p) w slot On (beside_at before callers m))
goes_on_beside p w slot m left before callers calm placed run =
    slot_beside p w slot m (filled (compared_by false before) m.frame.left) callers On On calm run
    (λ c log clear. landed_on (record m { core = c; trace = log }) before callers (moved m before callers c log placed) clear)

-- ---- turns that lead elsewhere than back inside their block

abbrev routined : (ℕ → (ℕ → ℕ) → ℕ → ℕ) → ℕ → Machine → Machine
routined scratch k m = record m {
  core = record m.core {
    registers = with_result (result_of k (register m.core 26) (register m.core 25)) (with_scratch (scratch k m.core.registers) scratch_registers m.core.registers);
  };
}

routine_beside : (scratch : ℕ → (ℕ → ℕ) → ℕ → ℕ) (k : ℕ) (m : Machine) (before : List Item) (callers : List Frame) → IsPlaced m before callers → Runs m
    → AreStepsBeside (routine scratch k m) (routine scratch k (beside_at before callers m))
routine_beside scratch k m before callers placed run = landed_on (routined scratch k m) before callers (record { cut = placed.cut; fillable = placed.fillable; alike = placed.alike }) run

links_run : (r address : ℕ) (m : Machine) → Runs m → Runs (linked r address m)
links_run r address m run = skip_stays (r == 0) r address m.core ∙ run

-- the same address behind a call
behind_same : (w : Addresses) (m : Machine) (before rest : List Item) → w.behind (name_of m.frame) (turns (filled (compared_by false before) rest)) ≡ return_address w m.frame rest
behind_same w m before rest = ap (λ (k : ℕ). w.behind (name_of m.frame) k) (turns_left (compared_by false before) rest)

pub turned_beside : (p : LineProgram) (w : Addresses) (scratch : ℕ → (ℕ → ℕ) → ℕ → ℕ) (turn : Turn) (slot : Option Word) (here there rest : List Item) (m : Machine) (left before : List Item) (callers : List Frame)
    → AreFillable p → LeadsOn turn → PassesNothing slot → IsPlaced (left_behind rest m) before callers → Runs m
    → AreStepsBeside (turned p w scratch turn slot here rest m) (turned (filled_program p) w scratch turn slot there (filled (compared_by false before) rest) (beside left callers m))
turned_beside p w scratch (Back i) slot here there rest m left before callers all on calm placed run = absurd on
turned_beside p w scratch (Goto b) slot here there rest m left before callers all on calm placed run =
    slot_beside p w slot (counted m) left callers (to_block b) (to_block b) calm run
    (λ c log clear. block_beside b (record (counted m) { core = c; trace = log }) left callers placed.fillable placed.alike clear)
turned_beside p w scratch (If r b) slot here there rest m left before callers all on calm placed run = by (register m.core r == 0)
  where
    by : (t : Bool) → AreStepsBeside
        (if t then through_slot p w slot On (left_behind rest m) else through_slot p w slot (to_block b) (counted m))
        (if t then through_slot (filled_program p) w slot On (beside (filled (compared_by false before) rest) callers m) else through_slot (filled_program p) w slot (to_block b) (counted (beside left callers m)))
    by true = goes_on_beside p w slot (left_behind rest m) left before callers calm placed run
    by false = slot_beside p w slot (counted m) left callers (to_block b) (to_block b) calm run
        (λ c log clear. block_beside b (record (counted m) { core = c; trace = log }) left callers placed.fillable placed.alike clear)
turned_beside p w scratch (CallTo (symbol.Named f) link) slot here there rest m left before callers all on calm placed run =
    let to = return_address w m.frame rest in
    let old = linked link to (left_behind rest m) in
    let then_left = filled (compared_by false before) rest in
    subst (λ (a : ℕ). AreStepsBeside (through_slot p w slot (calls p w to f) old) (through_slot (filled_program p) w slot (calls (filled_program p) w a f) (linked link a (beside then_left callers m))))
    (sym (behind_same w m before rest))
    (slot_beside p w slot old then_left callers (calls p w to f) (calls (filled_program p) w to f) calm (links_run link to m run)
    (λ c log clear. calls_beside p w to f (record old { core = c; trace = log }) before callers all (record { cut = placed.cut; fillable = placed.fillable; alike = placed.alike }) clear))
turned_beside p w scratch (CallTo (symbol.Routine k) link) slot here there rest m left before callers all on calm placed run =
    let to = return_address w m.frame rest in
    let old = linked link to (left_behind rest m) in
    let then_left = filled (compared_by false before) rest in
    subst (λ (a : ℕ). AreStepsBeside (through_slot p w slot (routine scratch k) old) (through_slot (filled_program p) w slot (routine scratch k) (linked link a (beside then_left callers m))))
    (sym (behind_same w m before rest))
    (slot_beside p w slot old then_left callers (routine scratch k) (routine scratch k) calm (links_run link to m run)
    (λ c log clear. routine_beside scratch k (record old { core = c; trace = log }) before callers (record { cut = placed.cut; fillable = placed.fillable; alike = placed.alike }) clear))
turned_beside p w scratch (CallTo s link) slot here there rest m left before callers all on calm placed run = tt
turned_beside p w scratch CallReg slot here there rest m left before callers all on calm placed run =
    let to = return_address w m.frame rest in
    let old = linked 31 to (left_behind rest m) in
    let then_left = filled (compared_by false before) rest in
    let o = function_at p w (register m.core 22) in
    subst (λ (d : Option (List ℕ)). AreStepsBeside (through_slot p w slot (calls_at p w to o) old)
    (through_slot (filled_program p) w slot (calls_at (filled_program p) w (w.behind (name_of m.frame) (turns then_left)) d) (linked 31 (w.behind (name_of m.frame) (turns then_left)) (beside then_left callers m))))
    (sym (standing_filled p w (register m.core 22)))
    (subst (λ (a : ℕ). AreStepsBeside (through_slot p w slot (calls_at p w to o) old) (through_slot (filled_program p) w slot (calls_at (filled_program p) w a o) (linked 31 a (beside then_left callers m))))
    (sym (behind_same w m before rest))
    (slot_beside p w slot old then_left callers (calls_at p w to o) (calls_at (filled_program p) w to o) calm (links_run 31 to m run)
    (λ c log clear. at_beside p w to o (record old { core = c; trace = log }) before callers all (record { cut = placed.cut; fillable = placed.fillable; alike = placed.alike }) clear)))
turned_beside p w scratch Leave slot here there rest m left before callers all on calm placed run =
    let then_left = filled (compared_by false before) rest in
    slot_beside p w slot (left_behind rest m) then_left callers (returns p w (register m.core 2)) (returns (filled_program p) w (register m.core 2)) calm run
    (λ c log clear. returns_beside p w (register m.core 2) (record (left_behind rest m) { core = c; trace = log }) then_left callers placed.alike clear)

-- ---- a turn with its slot as it was

pub leads_or_back : (turn : Turn) → LeadsOn turn ⊎ ((i : Inst) × (turn ≡ Back i))
leads_or_back (Back i) = inr (i, refl)
leads_or_back (Goto b) = inl tt
leads_or_back (If r b) = inl tt
leads_or_back (CallTo s link) = inl tt
leads_or_back CallReg = inl tt
leads_or_back Leave = inl tt

back_beside : PartsAlone → (p : LineProgram) (w : Addresses) (scratch : ℕ → (ℕ → ℕ) → ℕ → ℕ) (i : Inst) (slot : Option Word) (rest : List Item) (m : Machine) (left before : List Item) (callers : List Frame)
    → GoesElsewhere (Back i) → PassesNothing slot → IsCut m.frame.function.items before (Turns (Back i) slot ∷ rest)
    → IsPlaced (left_behind rest m) (before ++ Turns (Back i) slot ∷ []) callers → Runs m
    → AreStepsBeside (turned p w scratch (Back i) slot (Turns (Back i) slot ∷ rest) rest m)
    (turned (filled_program p) w scratch (Back i) slot (Turns (Back i) slot ∷ filled false rest) (filled (compared_by false (before ++ Turns (Back i) slot ∷ [])) rest) (beside left callers m))
back_beside alone p w scratch i slot rest m left before callers elsewhere calm cut placed run = by (is_taken i m.core)
  where
    here : List Item
    here = Turns (Back i) slot ∷ rest

    there : List Item
    there = Turns (Back i) slot ∷ filled false rest

    then_left : List Item
    then_left = filled (compared_by false (before ++ Turns (Back i) slot ∷ [])) rest

    by : (t : Bool) → AreStepsBeside
        (if t then through_slot p w slot (goes_back (distance i) here) (counted m) else through_slot p w slot On (left_behind rest m))
        (if t then through_slot (filled_program p) w slot (goes_back (distance i) there) (counted (beside left callers m)) else through_slot (filled_program p) w slot On (beside then_left callers m))
    by true = slot_beside p w slot (counted m) left callers (goes_back (distance i) here) (goes_back (distance i) there) calm run
        (λ c log clear. back_level alone i slot rest (record (counted m) { core = c; trace = log }) left before callers elsewhere cut placed.fillable placed.alike clear)
    by false = goes_on_beside p w slot (left_behind rest m) left (before ++ Turns (Back i) slot ∷ []) callers calm placed run

-- a step at a turn, where nothing is passed over
pub step_turns : (p : LineProgram) (w : Addresses) (scratch : ℕ → (ℕ → ℕ) → ℕ → ℕ) (turn : Turn) (slot : Option Word) (rest : List Item) (m : Machine) → Runs m
    → step p w scratch (left_behind (Turns turn slot ∷ rest) m) ≡ turned p w scratch turn slot (Turns turn slot ∷ rest) rest (left_behind (Turns turn slot ∷ rest) m)
unfolding step
step_turns p w scratch turn slot rest m run =
    ap (λ (t : Bool). if t then Astray else turned p w scratch turn slot (Turns turn slot ∷ rest) rest (left_behind (Turns turn slot ∷ rest) m)) run

step_passes : (p : LineProgram) (w : Addresses) (scratch : ℕ → (ℕ → ℕ) → ℕ → ℕ) (turn : Turn) (slot : Option Word) (rest : List Item) (m : Machine) → m.core.skip ≡ true
    → step p w scratch (left_behind (Turns turn slot ∷ rest) m) ≡ Astray
unfolding step
step_passes p w scratch turn slot rest m skips =
    ap (λ (t : Bool). if t then Astray else turned p w scratch turn slot (Turns turn slot ∷ rest) rest (left_behind (Turns turn slot ∷ rest) m)) skips

-- what is known of a place in a function
pub record IsIn (m : Machine) (before left : List Item) (callers : List Frame) : Type 0 where
  pub cut : IsCut m.frame.function.items before left
  pub fillable : AllByRecursion IsFillable m.frame.function.items
  pub alike : AreBeside m.callers callers

pub fills_behind : (before rest : List Item) (item : Item) → AllByRecursion IsFillable (before ++ item ∷ rest) → IsFillable item
fills_behind [] rest item all = all.0
fills_behind (b ∷ before) rest item all = fills_behind before rest item all.1

item_fills : (m : Machine) (before rest : List Item) (item : Item) (callers : List Frame) → IsIn m before (item ∷ rest) callers → IsFillable item
item_fills m before rest item callers at = fills_behind before rest item (subst (λ (l : List Item). AllByRecursion IsFillable l) at.cut.parts at.fillable)

turn_beside : Promises → (p : LineProgram) (w : Addresses) (scratch : ℕ → (ℕ → ℕ) → ℕ → ℕ) (turn : Turn) (slot : Option Word) (rest : List Item) (m : Machine) (before : List Item) (callers : List Frame)
    → AreFillable p → IsIn m before (Turns turn slot ∷ rest) callers → Runs m
    → AreStepsBeside (step p w scratch (left_behind (Turns turn slot ∷ rest) m)) (step (filled_program p) w scratch (beside (Turns turn slot ∷ filled false rest) callers m))
turn_beside d p w scratch turn slot rest m before callers all at run =
    let item = Turns turn slot in
    let here = item ∷ rest in
    let there = item ∷ filled false rest in
    let old = left_behind here m in
    let then_before = before ++ item ∷ [] in
    let fills = item_fills m before rest item callers at in
    let placed : IsPlaced (left_behind rest m) then_before callers =
    record { cut = cut_behind m.frame.function.items before rest item at.cut.parts refl; fillable = at.fillable; alike = at.alike } in
    let goes : AreStepsBeside (turned p w scratch turn slot here rest old) (turned (filled_program p) w scratch turn slot there (filled (compared_by false then_before) rest) (beside there callers m)) =
    elim (leads_or_back turn) as (λ h. AreStepsBeside (turned p w scratch turn slot here rest old) (turned (filled_program p) w scratch turn slot there (filled (compared_by false then_before) rest) (beside there callers m))) [
      | inl on ↦ turned_beside p w scratch turn slot here there rest old there then_before callers all on fills.1 (record { cut = placed.cut; fillable = placed.fillable; alike = placed.alike }) run
      | inr back ↦ backwards back.0 back.1
    ] in
    subst (λ (s : Step). AreStepsBeside s (step (filled_program p) w scratch (beside there callers m))) (sym (step_turns p w scratch turn slot rest m run))
    (subst (λ (t : Step). AreStepsBeside (turned p w scratch turn slot here rest old) t) (sym (step_turns (filled_program p) w scratch turn slot (filled false rest) (beside there callers m) run))
    (subst (λ (c : Bool). AreStepsBeside (turned p w scratch turn slot here rest old) (turned (filled_program p) w scratch turn slot there (filled c rest) (beside there callers m))) (compared_on false before (item ∷ [])) goes))
  where
    backwards : (i : Inst) → turn ≡ Back i
        → AreStepsBeside (turned p w scratch turn slot (Turns turn slot ∷ rest) rest (left_behind (Turns turn slot ∷ rest) m))
        (turned (filled_program p) w scratch turn slot (Turns turn slot ∷ filled false rest) (filled (compared_by false (before ++ Turns turn slot ∷ [])) rest) (beside (Turns turn slot ∷ filled false rest) callers m))
    backwards i is =
        let moved_at : IsIn m before (Turns (Back i) slot ∷ rest) callers = subst (λ (t : Turn). IsIn m before (Turns t slot ∷ rest) callers) is at in
        let fills = item_fills m before rest (Turns (Back i) slot) callers moved_at in
        subst (λ (t : Turn). AreStepsBeside (turned p w scratch t slot (Turns t slot ∷ rest) rest (left_behind (Turns t slot ∷ rest) m))
        (turned (filled_program p) w scratch t slot (Turns t slot ∷ filled false rest) (filled (compared_by false (before ++ Turns t slot ∷ [])) rest) (beside (Turns t slot ∷ filled false rest) callers m)))
        (sym is)
        (back_beside d.alone p w scratch i slot rest (left_behind (Turns (Back i) slot ∷ rest) m) (Turns (Back i) slot ∷ filled false rest) before callers fills.0 fills.1 moved_at.cut
        (record { cut = cut_behind m.frame.function.items before rest (Turns (Back i) slot) moved_at.cut.parts refl; fillable = at.fillable; alike = at.alike }) run)

-- ---- a word that stays

stays_passing : (before : List Item) (word : Word) (s : Bool) → (compares word.inst ≡ false → s ≡ false) → s ≡ true → compared_by false (before ++ Plain word ∷ []) ≡ true
stays_passing before word s clears skips = compared_on false before (Plain word ∷ []) ∙ by (compares word.inst) refl
  where
    by : (t : Bool) → compares word.inst ≡ t → compares word.inst ≡ true
    by true e = e
    by false e = let bad : true ≡ false = sym skips ∙ clears e in absurd cc

word_beside : (p : LineProgram) (w : Addresses) (scratch : ℕ → (ℕ → ℕ) → ℕ → ℕ) (word : Word) (rest : List Item) (m : Machine) (before : List Item) (callers : List Frame)
    → IsPlaced (left_behind rest m) (before ++ Plain word ∷ []) callers
    → AreStepsBeside (step p w scratch (left_behind (Plain word ∷ rest) m)) (step (filled_program p) w scratch (beside (Plain word ∷ filled (compares word.inst) rest) callers m))
unfolding step
word_beside p w scratch word rest m before callers placed = by (acts w (settled w word) m.core) refl
  where
    by : (a : Act) → acts w (settled w word) m.core ≡ a
        → AreStepsBeside (went_on p w (settled w word) a (left_behind rest m)) (went_on (filled_program p) w (settled w word) a (beside (filled (compares word.inst) rest) callers m))
    by (Acts c) e =
        let new : Machine = record (left_behind rest m) { core = c; trace = accesses p w (settled w word) m.core ++ m.trace } in
        subst (λ (t : Bool). AreStepsBeside (On new) (On (beside (filled t rest) callers new))) (compared_on false before (Plain word ∷ []))
        (landed new (before ++ Plain word ∷ []) callers (record { cut = placed.cut; fillable = placed.fillable; alike = placed.alike })
        (stays_passing before word c.skip (λ plain. word_clears w word m.core c plain (settled w word) refl e)))
    by Full e = refl
    by Fails e = tt

mark_beside : (p : LineProgram) (w : Addresses) (scratch : ℕ → (ℕ → ℕ) → ℕ → ℕ) (b : ℕ) (rest : List Item) (m : Machine) (before : List Item) (callers : List Frame)
    → IsPlaced (left_behind rest m) (before ++ Mark b ∷ []) callers → (m.core.skip ≡ true → compared_by false before ≡ true)
    → AreStepsBeside (step p w scratch (left_behind (Mark b ∷ rest) m)) (step (filled_program p) w scratch (beside (Mark b ∷ filled (compared_by false before) rest) callers m))
unfolding step
mark_beside p w scratch b rest m before callers placed passes =
    subst (λ (t : Bool). AreStepsBeside (On (left_behind rest m)) (On (beside (filled t rest) callers m))) (compared_on false before (Mark b ∷ []))
    (landed (left_behind rest m) (before ++ Mark b ∷ []) callers placed (λ skips. compared_on false before (Mark b ∷ []) ∙ passes skips))

-- ---- a step

-- at a word that moves into the slot of the turn behind it
pub record IsAhead (m n : Machine) : Type 0 where
  pub beside : IsBeside m n
  pub word : Word
  pub rest : List Item
  pub left : m.frame.left ≡ Plain word ∷ rest
  pub taken : IsTaken (compared_by false beside.at.before) word rest

abbrev pub StepGoes : LineProgram → Addresses → (ℕ → (ℕ → ℕ) → ℕ → ℕ) → Machine → Machine → Type 0
StepGoes p w scratch m n = AreStepsBeside (step p w scratch m) (step (filled_program p) w scratch n) ⊎ IsAhead m n

ends_astray : (p : LineProgram) (w : Addresses) (scratch : ℕ → (ℕ → ℕ) → ℕ → ℕ) (m n : Machine) → AreStepsBeside (step p w scratch (left_behind [] m)) (step (filled_program p) w scratch n)
unfolding step
ends_astray p w scratch m n = tt

at_turn : Promises → (p : LineProgram) (w : Addresses) (scratch : ℕ → (ℕ → ℕ) → ℕ → ℕ) (turn : Turn) (slot : Option Word) (rest : List Item) (m : Machine) (before : List Item) (callers : List Frame)
    → AreFillable p → IsIn m before (Turns turn slot ∷ rest) callers → (s : Bool) → m.core.skip ≡ s
    → AreStepsBeside (step p w scratch (left_behind (Turns turn slot ∷ rest) m)) (step (filled_program p) w scratch (beside (Turns turn slot ∷ filled false rest) callers m))
at_turn d p w scratch turn slot rest m before callers all at true skips =
    subst (λ (s : Step). AreStepsBeside s (step (filled_program p) w scratch (beside (Turns turn slot ∷ filled false rest) callers m))) (sym (step_passes p w scratch turn slot rest m skips)) tt
at_turn d p w scratch turn slot rest m before callers all at false run = turn_beside d p w scratch turn slot rest m before callers all at run

stepped : Promises → (p : LineProgram) (w : Addresses) (scratch : ℕ → (ℕ → ℕ) → ℕ → ℕ) (left : List Item) (m : Machine) (before : List Item) (callers : List Frame) → AreFillable p
    → IsIn m before left callers → (m.core.skip ≡ true → compared_by false before ≡ true) → StepGoes p w scratch (left_behind left m) (beside (filled (compared_by false before) left) callers m)
stepped d p w scratch [] m before callers all at passes = inl (ends_astray p w scratch m (beside [] callers m))
stepped d p w scratch (Mark b ∷ rest) m before callers all at passes =
    inl (mark_beside p w scratch b rest m before callers (record { cut = cut_behind m.frame.function.items before rest (Mark b) at.cut.parts refl; fillable = at.fillable; alike = at.alike }) passes)
stepped d p w scratch (Turns turn slot ∷ rest) m before callers all at passes = inl (at_turn d p w scratch turn slot rest m before callers all at m.core.skip refl)
stepped d p w scratch (Plain word ∷ rest) m before callers all at passes =
    elim (taken_or_stays d.alone (compared_by false before) word rest) as (λ h. StepGoes p w scratch (left_behind (Plain word ∷ rest) m) (beside (filled (compared_by false before) (Plain word ∷ rest)) callers m)) [
      | inl taken ↦ inr (record {
        beside = record { at = record { before = before; cut = at.cut; fillable = at.fillable; is = refl }; callers = at.alike; is = refl; passes = passes };
        word = word;
        rest = rest;
        left = refl;
        taken = taken;
      })
      | inr stays ↦ inl (subst (λ (l : List Item). AreStepsBeside (step p w scratch (left_behind (Plain word ∷ rest) m)) (step (filled_program p) w scratch (beside l callers m))) (sym stays)
          (word_beside p w scratch word rest m before callers
          (record { cut = cut_behind_word d.alone m.frame.function.items before rest word at.cut stays; fillable = at.fillable; alike = at.alike })))
    ]

pub beside_is : (m n : Machine) (h : IsBeside m n) → n ≡ beside (filled (compared_by false h.at.before) m.frame.left) n.callers m
beside_is m n h = h.is ∙ ap (λ (f : Frame). record m { frame = f; callers = n.callers }) h.at.is

pub one_step : Promises → (p : LineProgram) (w : Addresses) (scratch : ℕ → (ℕ → ℕ) → ℕ → ℕ) (m n : Machine) → AreFillable p → IsBeside m n → StepGoes p w scratch m n
one_step d p w scratch m n all h =
    subst (λ (k : Machine). StepGoes p w scratch m k) (sym (beside_is m n h))
    (stepped d p w scratch m.frame.left m h.at.before n.callers all (record { cut = h.at.cut; fillable = h.at.fillable; alike = h.callers }) h.passes)
