-- Two steps of the run of items, at a word and at the turn behind it, and the one step in which the run with filled slots does
-- both.
use Rattle.std.proofs.Common.{ℕ, ◌≡◌, Bool, true, false, if◌then◌else◌, inl, inr, Option, None, Some, List, [], ◌∷◌, ◌++◌, refl, ap, sym, subst, ◌∙◌, append_assoc}
use Rattle.std.specs.Prelude.{◌==◌, ◌&&◌, ◌||◌, not}
use Rattle.std.specs.List.{list_any, AllByRecursion}
use Rattle.pw_inst.specs.declared.Inst.{Inst}
use Rattle.pw_inst.specs.declared.Inst.TheVariants.{Combf}
use Rattle.pw_inst.specs.Computing.{source_registers, condition}
use Rattle.pw_delay.specs.declared.items.Word.{Word}
use Rattle.pw_delay.specs.declared.items.Turn.{Turn}
use Rattle.pw_delay.specs.declared.items.Turn.TheVariants.{Back, Goto, If, CallTo, CallReg, Leave}
use Rattle.pw_delay.specs.declared.items.Item.{Item}
use Rattle.pw_delay.specs.declared.items.Item.TheVariants.{Plain, Turns}
use Rattle.pw_delay.specs.Filling.{may_move, are_apart, branch, moves, drawn_near, filled}
use Rattle.pw_delay.specs.Parts.{compared_by}
use Rattle.pw_run_languages.specs.Addresses.{Addresses}
use Rattle.pw_run_languages.specs.Acts.{Core, Act, Acts, Full, Fails, register, acts, settled}
use Rattle.pw_run_languages.specs.LineRun.{LineProgram, Frame, Machine, Step, On, counted, left_behind, accesses, went_on, and_then, goes_back, is_taken, distance, turned, step}
use Rattle.pw_law_slots.specs.Passing.{LeadsOn}
use Rattle.pw_law_slots.specs.SlotLaws.{GoesElsewhere, IsFillable, filled_program}
use Rattle.pw_law_slots.proofs.Turning.{both_left, among_first, Fits, moves_fit_by, clear_by, steps_take}
use Rattle.pw_law_slots.proofs.Places.{IsCut, compared_on, cut_behind}
use Rattle.pw_law_slots.proofs.Beside.{AreStepsBeside, IsPlaced, Runs, AreFillable, beside, landed_on}
use Rattle.pw_law_slots.proofs.Backward.{near, drawn_back, near_taken, back_near}
use Rattle.pw_law_slots.proofs.Going.{Promises, IsIn, IsAhead, leads_or_back, fills_behind, turned_beside, step_turns, beside_is}

pub word_steps : (p : LineProgram) (w : Addresses) (scratch : ℕ → (ℕ → ℕ) → ℕ → ℕ) (word : Word) (rest : List Item) (m : Machine)
    → step p w scratch (left_behind (Plain word ∷ rest) m) ≡ went_on p w (settled w word) (acts w (settled w word) m.core) (left_behind rest m)
unfolding step
word_steps p w scratch word rest m = refl

filled_is : (behind : Bool) (word : Word) (turn : Turn) (rest : List Item) → behind ≡ false → moves word.inst turn ≡ true
    → filled behind (Plain word ∷ Turns turn None ∷ rest) ≡ Turns (drawn_near turn) (Some word) ∷ filled false rest
filled_is behind word turn rest clear free =
    let moved = Turns (drawn_near turn) (Some word) ∷ filled false rest in
    let stays = Plain word ∷ Turns turn None ∷ filled false rest in
    ap (λ (b : Bool). if not b && moves word.inst turn then moved else stays) clear ∙ ap (λ (b : Bool). if b then moved else stays) free

-- behind the word and the turn
placed_behind : (word : Word) (turn : Turn) (rest : List Item) (m : Machine) (before : List Item) (callers : List Frame) → IsIn m before (Plain word ∷ Turns turn None ∷ rest) callers
    → IsPlaced (left_behind rest m) ((before ++ Plain word ∷ []) ++ Turns turn None ∷ []) callers
placed_behind word turn rest m before callers at = record {
  cut = cut_behind m.frame.function.items (before ++ Plain word ∷ []) rest (Turns turn None) (at.cut.parts ∙ sym (append_assoc before (Plain word ∷ []) (Turns turn None ∷ rest))) refl;
  fillable = at.fillable;
  alike = at.alike;
}

-- ---- a turn that leads elsewhere

leads_both : Promises → (p : LineProgram) (w : Addresses) (scratch : ℕ → (ℕ → ℕ) → ℕ → ℕ) (word : Word) (turn : Turn) (rest : List Item) (m : Machine) (before : List Item) (callers : List Frame)
    → AreFillable p → LeadsOn turn → IsIn m before (Plain word ∷ Turns turn None ∷ rest) callers → moves word.inst turn ≡ true → Runs m
    → AreStepsBeside (and_then (went_on p w (settled w word) (acts w (settled w word) m.core) (left_behind (Turns turn None ∷ rest) m)) (step p w scratch))
    (and_then (went_on (filled_program p) w (settled w word) (acts w (settled w word) m.core) (beside (Turns turn None ∷ filled false rest) callers m)) (step (filled_program p) w scratch))
leads_both d p w scratch word turn rest m before callers all on at free run = by (acts w (settled w word) m.core) refl
  where
    here : List Item
    here = Turns turn None ∷ rest

    there : List Item
    there = Turns turn None ∷ filled false rest

    by : (a : Act) → acts w (settled w word) m.core ≡ a
        → AreStepsBeside (and_then (went_on p w (settled w word) a (left_behind here m)) (step p w scratch))
        (and_then (went_on (filled_program p) w (settled w word) a (beside there callers m)) (step (filled_program p) w scratch))
    by (Acts c) e =
        let new : Machine = record m { core = c; trace = accesses p w (settled w word) m.core ++ m.trace } in
        let clear : c.skip ≡ false = clear_by w word m.core c (both_left (may_move word.inst) (are_apart word.inst (branch turn)) free) run (settled w word) refl e in
        let placed = placed_behind word turn rest m before callers at in
        let then_before = (before ++ Plain word ∷ []) ++ Turns turn None ∷ [] in
        subst (λ (s : Step). AreStepsBeside s (step (filled_program p) w scratch (beside there callers new))) (sym (step_turns p w scratch turn None rest new clear))
        (subst (λ (t : Step). AreStepsBeside (turned p w scratch turn None here rest (left_behind here new)) t) (sym (step_turns (filled_program p) w scratch turn None (filled false rest) (beside there callers new) clear))
        (subst (λ (b : Bool). AreStepsBeside (turned p w scratch turn None here rest (left_behind here new)) (turned (filled_program p) w scratch turn None there (filled b rest) (beside there callers new)))
        (compared_on false (before ++ Plain word ∷ []) (Turns turn None ∷ []))
        (turned_beside p w scratch turn None here there rest (left_behind here new) there then_before callers all on tt (record { cut = placed.cut; fillable = placed.fillable; alike = placed.alike }) clear)))
    by Full e = refl
    by Fails e = tt

drawn_on : (turn : Turn) → LeadsOn turn → drawn_near turn ≡ turn
drawn_on (Back i) on = absurd on
drawn_on (Goto b) on = refl
drawn_on (If r b) on = refl
drawn_on (CallTo s link) on = refl
drawn_on CallReg on = refl
drawn_on Leave on = refl

leads_together : Promises → (p : LineProgram) (w : Addresses) (scratch : ℕ → (ℕ → ℕ) → ℕ → ℕ) (word : Word) (turn : Turn) (rest : List Item) (m : Machine) (before : List Item) (callers : List Frame)
    → AreFillable p → LeadsOn turn → IsIn m before (Plain word ∷ Turns turn None ∷ rest) callers → moves word.inst turn ≡ true → Runs m
    → AreStepsBeside (and_then (step p w scratch (left_behind (Plain word ∷ Turns turn None ∷ rest) m)) (step p w scratch))
    (step (filled_program p) w scratch (beside (Turns (drawn_near turn) (Some word) ∷ filled false rest) callers m))
leads_together d p w scratch word turn rest m before callers all on at free run =
    let here = Turns turn None ∷ rest in
    let there = Turns turn None ∷ filled false rest in
    let q = filled_program p in
    let n = beside [] callers m in
    subst (λ (t : Turn). AreStepsBeside (and_then (step p w scratch (left_behind (Plain word ∷ here) m)) (step p w scratch)) (step q w scratch (beside (Turns t (Some word) ∷ filled false rest) callers m))) (sym (drawn_on turn on))
    (subst (λ (t : Step). AreStepsBeside (and_then (step p w scratch (left_behind (Plain word ∷ here) m)) (step p w scratch)) t) (sym (steps_take d.sources d.targets q w scratch word turn (filled false rest) n on free run))
    (subst (λ (s : Step). AreStepsBeside (and_then s (step p w scratch)) (and_then (step q w scratch (left_behind (Plain word ∷ there) n)) (step q w scratch))) (sym (word_steps p w scratch word here m))
    (subst (λ (t : Step). AreStepsBeside (and_then (went_on p w (settled w word) (acts w (settled w word) m.core) (left_behind here m)) (step p w scratch)) (and_then t (step q w scratch))) (sym (word_steps q w scratch word there n))
    (leads_both d p w scratch word turn rest m before callers all on at free run))))

-- ---- a branch back

among_second : (r s : ℕ) → list_any (λ t. s == t) (r ∷ s ∷ []) ≡ true
among_second r s = by (s == r)
  where
    by : (b : Bool) → (b || list_any (λ t. s == t) (s ∷ [])) ≡ true
    by true = refl
    by false = among_first s []

same_taken : (i : Inst) (c d : Core) → ((r : ℕ) → list_any (λ s. r == s) (source_registers i) ≡ true → register d r ≡ register c r) → is_taken i d ≡ is_taken i c
same_taken (Combf k r1 r2 disp) c d keeps =
    ap (λ (a : ℕ). if condition k a (register d r2) then false else true) (keeps r1 (among_first r1 (r2 ∷ [])))
    ∙ ap (λ (b : ℕ). if condition k (register c r1) b then false else true) (keeps r2 (among_second r1 r2))
same_taken i c d keeps = refl

back_together : Promises → (p : LineProgram) (w : Addresses) (scratch : ℕ → (ℕ → ℕ) → ℕ → ℕ) (word : Word) (i : Inst) (rest : List Item) (m : Machine) (before : List Item) (callers : List Frame)
    → GoesElsewhere (Back i) → IsIn m before (Plain word ∷ Turns (Back i) None ∷ rest) callers → compared_by false before ≡ false → moves word.inst (Back i) ≡ true → Runs m
    → AreStepsBeside (and_then (went_on p w (settled w word) (acts w (settled w word) m.core) (left_behind (Turns (Back i) None ∷ rest) m)) (step p w scratch))
    (turned (filled_program p) w scratch (Back (near i)) (Some word) (Turns (Back (near i)) (Some word) ∷ filled false rest) (filled false rest)
    (beside (Turns (Back (near i)) (Some word) ∷ filled false rest) callers m))
back_together d p w scratch word i rest m before callers elsewhere at behind free run =
    subst (λ (t : Bool). AreStepsBeside (and_then (went_on p w o (acts w o m.core) (left_behind here m)) (step p w scratch))
    (if t then and_then (went_on q w o (acts w o m.core) (counted (beside there callers m))) (goes_back (distance (near i)) there) else and_then (went_on q w o (acts w o m.core) (beside (filled false rest) callers m)) On))
    (sym (near_taken i m.core)) (by (acts w o m.core) refl)
  where
    o : Option Inst
    o = settled w word

    q : LineProgram
    q = filled_program p

    here : List Item
    here = Turns (Back i) None ∷ rest

    there : List Item
    there = Turns (Back (near i)) (Some word) ∷ filled false rest

    there_is : filled (compared_by false before) (Plain word ∷ here) ≡ there
    there_is = filled_is (compared_by false before) word (Back i) rest behind free ∙ ap (λ (t : Turn). Turns t (Some word) ∷ filled false rest) (drawn_back i)

    fits : Fits w o (branch (Back i)) m
    fits = moves_fit_by d.sources d.targets w word (Back i) m free run

    chosen : (new : Machine) → IsIn new before (Plain word ∷ here) callers → Runs new → (t : Bool)
        → AreStepsBeside (if t then goes_back (distance i) here (counted (left_behind here new)) else On (left_behind rest new))
        (if t then goes_back (distance (near i)) there (counted (beside there callers new)) else On (beside (filled false rest) callers new))
    chosen new in_new clear true =
        subst (λ (l : List Item). AreStepsBeside (goes_back (distance i) here (counted (left_behind here new))) (goes_back (distance (near i)) l (counted (beside there callers new)))) there_is
        (back_near d.alone i word rest (counted (left_behind here new)) there before callers elsewhere in_new.cut in_new.fillable in_new.alike clear)
    chosen new in_new clear false =
        let placed = placed_behind word (Back i) rest new before callers in_new in
        subst (λ (b : Bool). AreStepsBeside (On (left_behind rest new)) (On (beside (filled b rest) callers new))) (compared_on false (before ++ Plain word ∷ []) (Turns (Back i) None ∷ []))
        (landed_on (left_behind rest new) ((before ++ Plain word ∷ []) ++ Turns (Back i) None ∷ []) callers placed clear)

    by : (a : Act) → acts w o m.core ≡ a → AreStepsBeside (and_then (went_on p w o a (left_behind here m)) (step p w scratch))
        (if is_taken i m.core then and_then (went_on q w o a (counted (beside there callers m))) (goes_back (distance (near i)) there) else and_then (went_on q w o a (beside (filled false rest) callers m)) On)
    by (Acts c) e =
        let new : Machine = record m { core = c; trace = accesses p w o m.core ++ m.trace } in
        let clear : c.skip ≡ false = clear_by w word m.core c (both_left (may_move word.inst) (are_apart word.inst (branch (Back i))) free) run o refl e in
        let in_new : IsIn new before (Plain word ∷ here) callers = record { cut = at.cut; fillable = at.fillable; alike = at.alike } in
        let goes = chosen new in_new clear (is_taken i m.core) in
        subst (λ (s : Step). AreStepsBeside s
        (if is_taken i m.core then goes_back (distance (near i)) there (counted (beside there callers new)) else On (beside (filled false rest) callers new)))
        (sym (step_turns p w scratch (Back i) None rest new clear
        ∙ ap (λ (t : Bool). if t then goes_back (distance i) here (counted (left_behind here new)) else On (left_behind rest new)) (same_taken i m.core c (λ r there. fits.keeps r c there e))))
        goes
    by Full e = absurd (fits.stops e)
    by Fails e = tt

-- ---- both steps

pub run_clear : (s c : Bool) → (s ≡ true → c ≡ true) → c ≡ false → s ≡ false
run_clear true c h clear = let bad : true ≡ false = sym (h refl) ∙ clear in absurd cc
run_clear false c h clear = refl

together : Promises → (p : LineProgram) (w : Addresses) (scratch : ℕ → (ℕ → ℕ) → ℕ → ℕ) (word : Word) (turn : Turn) (rest : List Item) (m : Machine) (before : List Item) (callers : List Frame)
    → AreFillable p → IsIn m before (Plain word ∷ Turns turn None ∷ rest) callers → compared_by false before ≡ false → moves word.inst turn ≡ true → Runs m
    → AreStepsBeside (and_then (step p w scratch (left_behind (Plain word ∷ Turns turn None ∷ rest) m)) (step p w scratch))
    (step (filled_program p) w scratch (beside (Turns (drawn_near turn) (Some word) ∷ filled false rest) callers m))
together d p w scratch word turn rest m before callers all at behind free run =
    elim (leads_or_back turn) as (λ h. AreStepsBeside (and_then (step p w scratch (left_behind (Plain word ∷ Turns turn None ∷ rest) m)) (step p w scratch))
    (step (filled_program p) w scratch (beside (Turns (drawn_near turn) (Some word) ∷ filled false rest) callers m))) [
      | inl on ↦ leads_together d p w scratch word turn rest m before callers all on at free run
      | inr back ↦ subst (λ (t : Turn). AreStepsBeside (and_then (step p w scratch (left_behind (Plain word ∷ Turns t None ∷ rest) m)) (step p w scratch))
          (step (filled_program p) w scratch (beside (Turns (drawn_near t) (Some word) ∷ filled false rest) callers m)))
          (sym back.1) (backwards back.0 (subst (λ (t : Turn). IsIn m before (Plain word ∷ Turns t None ∷ rest) callers) back.1 at) (ap (λ (t : Turn). moves word.inst t) (sym back.1) ∙ free))
    ]
  where
    backwards : (i : Inst) → IsIn m before (Plain word ∷ Turns (Back i) None ∷ rest) callers → moves word.inst (Back i) ≡ true
        → AreStepsBeside (and_then (step p w scratch (left_behind (Plain word ∷ Turns (Back i) None ∷ rest) m)) (step p w scratch))
        (step (filled_program p) w scratch (beside (Turns (drawn_near (Back i)) (Some word) ∷ filled false rest) callers m))
    backwards i in_m moving =
        let q = filled_program p in
        let here = Turns (Back i) None ∷ rest in
        let there = Turns (Back (near i)) (Some word) ∷ filled false rest in
        let fills = fills_behind (before ++ Plain word ∷ []) rest (Turns (Back i) None)
        (subst (λ (l : List Item). AllByRecursion IsFillable l) (in_m.cut.parts ∙ sym (append_assoc before (Plain word ∷ []) here)) in_m.fillable) in
        subst (λ (t : Turn). AreStepsBeside (and_then (step p w scratch (left_behind (Plain word ∷ here) m)) (step p w scratch)) (step q w scratch (beside (Turns t (Some word) ∷ filled false rest) callers m))) (sym (drawn_back i))
        (subst (λ (s : Step). AreStepsBeside (and_then s (step p w scratch)) (step q w scratch (beside there callers m))) (sym (word_steps p w scratch word here m))
        (subst (λ (t : Step). AreStepsBeside (and_then (went_on p w (settled w word) (acts w (settled w word) m.core) (left_behind here m)) (step p w scratch)) t)
        (sym (step_turns q w scratch (Back (near i)) (Some word) (filled false rest) (beside there callers m) run))
        (back_together d p w scratch word i rest m before callers fills.0 in_m behind moving run)))

pub second_step : Promises → (p : LineProgram) (w : Addresses) (scratch : ℕ → (ℕ → ℕ) → ℕ → ℕ) (m n : Machine) → AreFillable p → IsAhead m n
    → AreStepsBeside (and_then (step p w scratch m) (step p w scratch)) (step (filled_program p) w scratch n)
second_step d p w scratch m n all h =
    let at = h.beside.at in
    let t = h.taken in
    let lists : m.frame.left ≡ Plain h.word ∷ Turns t.turn None ∷ t.rest = h.left ∙ ap (λ (l : List Item). Plain h.word ∷ l) t.is in
    let in_m : IsIn m at.before (Plain h.word ∷ Turns t.turn None ∷ t.rest) n.callers =
    record { cut = subst (λ (l : List Item). IsCut m.frame.function.items at.before l) lists at.cut; fillable = at.fillable; alike = h.beside.callers } in
    let run = run_clear m.core.skip (compared_by false at.before) h.beside.passes t.clear in
    subst (λ (k : Machine). AreStepsBeside (and_then (step p w scratch m) (step p w scratch)) (step (filled_program p) w scratch k)) (sym (beside_is m n h.beside))
    (subst (λ (l : List Item). AreStepsBeside (and_then (step p w scratch (left_behind l m)) (step p w scratch)) (step (filled_program p) w scratch (beside (filled (compared_by false at.before) l) n.callers m))) (sym lists)
    (subst (λ (l : List Item). AreStepsBeside (and_then (step p w scratch (left_behind (Plain h.word ∷ Turns t.turn None ∷ t.rest) m)) (step p w scratch)) (step (filled_program p) w scratch (beside l n.callers m)))
    (sym (filled_is (compared_by false at.before) h.word t.turn t.rest t.clear t.free))
    (together d p w scratch h.word t.turn t.rest m at.before n.callers all in_m t.clear t.free run)))
