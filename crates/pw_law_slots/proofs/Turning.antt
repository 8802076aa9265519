-- A turn with the word before it in its slot does in one step what the two do one after the other.
use Rattle.std.proofs.Common.{ℕ, ◌≡◌, Bool, true, false, if◌then◌else◌, Option, None, Some, List, [], ◌∷◌, ◌++◌, refl, ap, sym, subst, ◌∙◌, arith}
use Rattle.std.specs.Prelude.{◌==◌, ◌&&◌, ◌||◌, not}
use Rattle.std.specs.List.{list_any}
use Rattle.pw_inst.specs.declared.Inst.{Inst}
use Rattle.pw_inst.specs.declared.relocation.Symbol.TheVariants as symbol
use Rattle.pw_inst.specs.Computing.{source_registers, target_registers}
use Rattle.pw_delay.specs.declared.items.Word.{Word}
use Rattle.pw_delay.specs.declared.items.Turn.{Turn}
use Rattle.pw_delay.specs.declared.items.Turn.TheVariants.{Back, Goto, If, CallTo, CallReg, Leave}
use Rattle.pw_delay.specs.declared.items.Item.{Item}
use Rattle.pw_delay.specs.declared.items.Item.TheVariants.{Plain, Turns}
use Rattle.pw_delay.specs.Filling.{have_common, but_zero, are_apart, branch, may_move, moves}
use Rattle.pw_run_languages.specs.Addresses.{Addresses}
use Rattle.pw_run_languages.specs.Acts.{Core, Act, Acts, Full, Fails, register, acts, settled}
use Rattle.pw_run_languages.specs.LineRun.{LineProgram, Machine, Step, On, Stopped, Astray, and_then, linked, counted, left_behind, accesses, went_on, does, from_mark, goes_to, to_block, return_address, calls, calls_at, function_at, routine, returns, turned, step}
use Rattle.pw_law_slots.specs.Passing.{does_not_turn, then_done, LeadsOn}
use Rattle.pw_law_slots.proofs.Passing.{BySources, ByTargets, words_keep, words_never_stop, words_clear}
use Rattle.pw_law_slots.proofs.Settling.{settled_sources, settled_targets, settled_turns}
use Rattle.pw_law_slots.proofs.Doing.{does_by, IsFree, does_linked, does_left, does_counted}

-- what a word leaves where it acts
gone : LineProgram → Addresses → Option Inst → Core → Machine → Machine
gone p w o c m = record m { core = c; trace = accesses p w o m.core ++ m.trace }

-- before something else is done to the machine, and behind it
done_twice : (p : LineProgram) (w : Addresses) (o : Option Inst) (left : List Item) (f : Machine → Machine) (next last : Machine → Step) (m : Machine)
    → does_by p w o (f m) ≡ then_done f (does_by p w o m) → (acts w o m.core ≡ Full → ⊥)
    → ((c : Core) → acts w o m.core ≡ Acts c → next (f (gone p w o c m)) ≡ last (left_behind left (gone p w o c m)))
    → and_then (does_by p w o (f m)) next ≡ and_then (does_by p w o (left_behind left m)) last
unfolding gone
done_twice p w o left f next last m commutes stops same =
    ap (λ s. and_then s next) commutes
    ∙ by (acts w o m.core) refl
    ∙ ap (λ s. and_then s last) (sym (does_left p w o left m))
  where
    by : (a : Act) → acts w o m.core ≡ a → and_then (then_done f (went_on p w o a m)) next ≡ and_then (then_done (left_behind left) (went_on p w o a m)) last
    by (Acts c) e = same c e
    by Full e = absurd (stops e)
    by Fails e = refl

goes_alike : (o : Option (List Item)) (left : List Item) (m : Machine) → goes_to o m ≡ goes_to o (left_behind left m)
goes_alike (Some items) left m = refl
goes_alike None left m = refl

-- ---- turn by turn

-- what is known of a word and a turn
pub record Fits (w : Addresses) (o : Option Inst) (by : Inst) (m : Machine) : Type 0 where
  pub stops : acts w o m.core ≡ Full → ⊥
  pub keeps : (r : ℕ) (c : Core) → list_any (λ s. r == s) (source_registers by) ≡ true → acts w o m.core ≡ Acts c → register c r ≡ register m.core r
  pub free : (r : ℕ) → target_registers by ≡ r ∷ [] → IsFree o r

goes_in_slot : (p : LineProgram) (w : Addresses) (o : Option Inst) (b : ℕ) (left : List Item) (m : Machine) → (acts w o m.core ≡ Full → ⊥)
    → and_then (does_by p w o (counted m)) (to_block b) ≡ and_then (does_by p w o (left_behind left m)) (λ d. to_block b (counted d))
unfolding gone
goes_in_slot p w o b left m stops =
    done_twice p w o left counted (to_block b) (λ d. to_block b (counted d)) m (does_counted p w o m) stops
    (λ c e. goes_alike (from_mark b m.frame.function.items) left (counted (gone p w o c m)))

passes_slot : (p : LineProgram) (w : Addresses) (o : Option Inst) (left rest : List Item) (m : Machine) → (acts w o m.core ≡ Full → ⊥)
    → and_then (does_by p w o (left_behind rest m)) On ≡ and_then (does_by p w o (left_behind left m)) (λ d. On (left_behind rest d))
unfolding gone
passes_slot p w o left rest m stops = done_twice p w o left (left_behind rest) On (λ d. On (left_behind rest d)) m (does_left p w o rest m) stops (λ c e. refl)

-- a test of a register that the word keeps may come first
tests_first : (p : LineProgram) (w : Addresses) (o : Option Inst) (left : List Item) (r : ℕ) (m : Machine) (here there : Machine → Step)
    → ((c : Core) → acts w o m.core ≡ Acts c → register c r ≡ register m.core r) → (acts w o m.core ≡ Full → ⊥)
    → and_then (does_by p w o (left_behind left m)) (if register m.core r == 0 then here else there)
    ≡ and_then (does_by p w o (left_behind left m)) (λ d. if register d.core r == 0 then here d else there d)
unfolding gone
tests_first p w o left r m here there keeps stops =
    done_twice p w o left (left_behind left) (if register m.core r == 0 then here else there) (λ d. if register d.core r == 0 then here d else there d) m (does_left p w o left m) stops
    (λ c e. by (register m.core r == 0) refl (left_behind left (gone p w o c m)) ∙ ap (λ (x : ℕ). if x == 0 then here (left_behind left (gone p w o c m)) else there (left_behind left (gone p w o c m))) (sym (keeps c e)))
  where
    by : (t : Bool) → (register m.core r == 0) ≡ t → (d : Machine) → (if t then here else there) d ≡ (if t then here d else there d)
    by true e d = refl
    by false e d = refl

-- one thing after another
then_twice : (f g : Machine → Machine) (s : Step) → then_done f (then_done g s) ≡ then_done (λ m. f (g m)) s
then_twice f g (On m) = refl
then_twice f g (Stopped end m) = refl
then_twice f g Astray = refl

-- a call's link is written before the word acts
links_past : BySources → ByTargets → (p : LineProgram) (w : Addresses) (o : Option Inst) (r v : ℕ) (rest : List Item) (m : Machine) → IsFree o r → m.core.skip ≡ false
    → does_by p w o (linked r v (left_behind rest m)) ≡ then_done (λ d. linked r v (left_behind rest d)) (does_by p w o m)
links_past sources targets p w o r v rest m free run =
    does_linked sources targets p w o r v (left_behind rest m) free run
    ∙ ap (λ s. then_done (linked r v) s) (does_left p w o rest m)
    ∙ then_twice (linked r v) (left_behind rest) (does_by p w o m)

nowhere : (p : LineProgram) (w : Addresses) (o : Option Inst) (m : Machine) → (acts w o m.core ≡ Full → ⊥) → Astray ≡ and_then (does_by p w o m) (λ d. Astray)
nowhere p w o m stops = by (acts w o m.core) refl
  where
    by : (a : Act) → acts w o m.core ≡ a → Astray ≡ and_then (went_on p w o a m) (λ d. Astray)
    by (Acts c) e = refl
    by Full e = absurd (stops e)
    by Fails e = refl

pub among_first : (r : ℕ) (rest : List ℕ) → list_any (λ s. r == s) (r ∷ rest) ≡ true
among_first r rest = let e : (r == r) ≡ true = grind arith in rw e refl

turn_in_slot : BySources → ByTargets → (p : LineProgram) (w : Addresses) (scratch : ℕ → (ℕ → ℕ) → ℕ → ℕ) (word : Word) (turn : Turn) (here there left rest : List Item) (m : Machine)
    → LeadsOn turn → Fits w (settled w word) (branch turn) m → m.core.skip ≡ false
    → turned p w scratch turn (Some word) here rest m ≡ and_then (does p w word (left_behind left m)) (turned p w scratch turn None there rest)
unfolding gone
turn_in_slot sources targets p w scratch word (Back i) here there left rest m on fits run = elim on [ ]
turn_in_slot sources targets p w scratch word (Goto b) here there left rest m on fits run = goes_in_slot p w (settled w word) b left m fits.stops
turn_in_slot sources targets p w scratch word (If r b) here there left rest m on fits run =
    by (register m.core r == 0)
    ∙ tests_first p w (settled w word) left r m (λ d. On (left_behind rest d)) (λ d. to_block b (counted d)) (λ c e. fits.keeps r c (among_first r (0 ∷ [])) e) fits.stops
  where
    by : (t : Bool) → (if t then and_then (does_by p w (settled w word) (left_behind rest m)) On else and_then (does_by p w (settled w word) (counted m)) (to_block b))
        ≡ and_then (does_by p w (settled w word) (left_behind left m)) (if t then (λ d. On (left_behind rest d)) else (λ d. to_block b (counted d)))
    by true = passes_slot p w (settled w word) left rest m fits.stops
    by false = goes_in_slot p w (settled w word) b left m fits.stops
turn_in_slot sources targets p w scratch word (CallTo (symbol.Named f) link) here there left rest m on fits run =
    let to = return_address w m.frame rest in
    done_twice p w (settled w word) left (λ d. linked link to (left_behind rest d)) (calls p w to f) (turned p w scratch (CallTo (symbol.Named f) link) None there rest) m
    (links_past sources targets p w (settled w word) link to rest m (fits.free link refl) run) fits.stops (λ c e. refl)
turn_in_slot sources targets p w scratch word (CallTo (symbol.Routine k) link) here there left rest m on fits run =
    let to = return_address w m.frame rest in
    done_twice p w (settled w word) left (λ d. linked link to (left_behind rest d)) (routine scratch k) (turned p w scratch (CallTo (symbol.Routine k) link) None there rest) m
    (links_past sources targets p w (settled w word) link to rest m (fits.free link refl) run) fits.stops (λ c e. refl)
turn_in_slot sources targets p w scratch word (CallTo s link) here there left rest m on fits run = nowhere p w (settled w word) (left_behind left m) fits.stops
turn_in_slot sources targets p w scratch word CallReg here there left rest m on fits run =
    let to = return_address w m.frame rest in
    done_twice p w (settled w word) left (λ d. linked 31 to (left_behind rest d)) (calls_at p w to (function_at p w (register m.core 22))) (turned p w scratch CallReg None there rest) m
    (links_past sources targets p w (settled w word) 31 to rest m (fits.free 31 refl) run) fits.stops
    (λ c e. ap (λ (x : ℕ). calls_at p w to (function_at p w x) (linked 31 to (left_behind rest (gone p w (settled w word) c m)))) (sym (fits.keeps 22 c (among_first 22 []) e)))
turn_in_slot sources targets p w scratch word Leave here there left rest m on fits run =
    done_twice p w (settled w word) left (left_behind rest) (returns p w (register m.core 2)) (turned p w scratch Leave None there rest) m
    (does_left p w (settled w word) rest m) fits.stops
    (λ c e. ap (λ (x : ℕ). returns p w x (left_behind rest (gone p w (settled w word) c m))) (sym (fits.keeps 2 c (among_first 2 []) e)))

-- ---- words that move are such

pub both_left : (s t : Bool) → (s && t) ≡ true → s ≡ true
both_left true t h = refl
both_left false t h = grind arith

pub both_right : (s t : Bool) → (s && t) ≡ true → t ≡ true
both_right true t h = h
both_right false t h = grind arith

pub not_true : (s : Bool) → not s ≡ true → s ≡ false
not_true true h = grind arith
not_true false h = refl

none_of : (s t : Bool) → (s || t) ≡ false → (s ≡ false) × (t ≡ false)
none_of true t h = absurd (grind arith)
none_of false t h = (refl, h)

-- lists without a common register: none of the one is this one of the other
apart_from : (xs ys : List ℕ) (r : ℕ) → have_common xs ys ≡ false → list_any (λ s. r == s) ys ≡ true → have_common xs (r ∷ []) ≡ false
apart_from [] ys r none there = refl
apart_from (x ∷ xs) ys r none there =
    let parts = none_of (list_any (λ s. x == s) ys) (have_common xs ys) none in
    by (x == r) refl parts.0 (apart_from xs ys r parts.1 there)
  where
    by : (t : Bool) → (x == r) ≡ t → list_any (λ s. x == s) ys ≡ false → have_common xs (r ∷ []) ≡ false → ((t || false) || have_common xs (r ∷ [])) ≡ false
    by true e f h = absurd (let same : x ≡ r = grind arith in let none : list_any (λ s. r == s) ys ≡ false = subst (λ (q : ℕ). list_any (λ s. q == s) ys ≡ false) same f in let bad : true ≡ false = sym there ∙ none in cc)
    by false e f h = h

pub moves_fit_by : BySources → ByTargets → (w : Addresses) (word : Word) (turn : Turn) (m : Machine) → moves word.inst turn ≡ true → m.core.skip ≡ false
    → Fits w (settled w word) (branch turn) m
moves_fit_by sources targets w word turn m free run =
    let movable = both_left (may_move word.inst) (are_apart word.inst (branch turn)) free in
    let apart = both_right (may_move word.inst) (are_apart word.inst (branch turn)) free in
    let goes : does_not_turn word.inst ≡ true = both_left _ _ movable in
    let written = not_true _ (both_left _ _ apart) in
    let named = not_true _ (both_right _ _ apart) in
    record {
      stops = stops_by goes (settled w word) refl;
      keeps = λ r c there e. keeps_by goes written r c there (settled w word) refl e;
      free = λ r is i e. (
        settled_turns w word i e ∙ goes,
        subst (λ (qs : List ℕ). have_common (qs ++ target_registers i) (but_zero (r ∷ [])) ≡ false) (sym (settled_sources w word i e))
            (subst (λ (qs : List ℕ). have_common (source_registers word.inst ++ qs) (but_zero (r ∷ [])) ≡ false) (sym (settled_targets w word i e))
            (subst (λ (ts : List ℕ). have_common (source_registers word.inst ++ target_registers word.inst) (but_zero ts) ≡ false) is named)),
      );
    }
  where
    stops_by : does_not_turn word.inst ≡ true → (o : Option Inst) → settled w word ≡ o → acts w o m.core ≡ Full → ⊥
    stops_by goes None e = λ f. cc
    stops_by goes (Some i) e = words_never_stop w i m.core (settled_turns w word i e ∙ goes) run

    keeps_by : does_not_turn word.inst ≡ true → have_common (target_registers word.inst) (source_registers (branch turn)) ≡ false
        → (r : ℕ) (c : Core) → list_any (λ s. r == s) (source_registers (branch turn)) ≡ true → (o : Option Inst) → settled w word ≡ o → acts w o m.core ≡ Acts c → register c r ≡ register m.core r
    keeps_by goes written r c there None e does = absurd cc
    keeps_by goes written r c there (Some i) e does =
        let none = apart_from (target_registers i) (source_registers (branch turn)) r
        (subst (λ (ts : List ℕ). have_common ts (source_registers (branch turn)) ≡ false) (sym (settled_targets w word i e)) written) there in
        (words_keep targets w i r m.core c (settled_turns w word i e ∙ goes) run none does).0

pub clear_by : (w : Addresses) (word : Word) (c d : Core) → may_move word.inst ≡ true → c.skip ≡ false → (o : Option Inst) → settled w word ≡ o → acts w o c ≡ Acts d → d.skip ≡ false
clear_by w word c d movable run None e does = absurd cc
clear_by w word c d movable run (Some i) e does = words_clear w i c d (settled_turns w word i e ∙ both_left _ _ movable) run does

pub steps_take : BySources → ByTargets → (p : LineProgram) (w : Addresses) (scratch : ℕ → (ℕ → ℕ) → ℕ → ℕ) (word : Word) (turn : Turn) (rest : List Item) (m : Machine)
    → LeadsOn turn → moves word.inst turn ≡ true → m.core.skip ≡ false
    → step p w scratch (left_behind (Turns turn (Some word) ∷ rest) m) ≡ and_then (step p w scratch (left_behind (Plain word ∷ Turns turn None ∷ rest) m)) (step p w scratch)
unfolding step gone
steps_take sources targets p w scratch word turn rest m on free run =
    let here = Turns turn (Some word) ∷ rest in
    let left = Turns turn None ∷ rest in
    let fits = moves_fit_by sources targets w word turn m free run in
    ap (λ (t : Bool). if t then Astray else turned p w scratch turn (Some word) here rest (left_behind here m)) run
    ∙ turn_in_slot sources targets p w scratch word turn here left left rest (left_behind here m) on (moves_fit_by sources targets w word turn (left_behind here m) free run) run
    ∙ done_twice p w (settled w word) left (left_behind left) (turned p w scratch turn None left rest) (step p w scratch) m (does_left p w (settled w word) left m) fits.stops
    (λ c e. ap (λ (t : Bool). if t then Astray else turned p w scratch turn None left rest (left_behind left (gone p w (settled w word) c m)))
    (sym (clear_by w word m.core c (both_left (may_move word.inst) (are_apart word.inst (branch turn)) free) run (settled w word) refl e)))
