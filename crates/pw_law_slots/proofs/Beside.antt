-- A state of the run of items and one of the run of the same items with filled slots, at the same place: the frames of the
-- second have what is left filled, and all else is the same.
use Rattle.std.proofs.Common.{ℕ, ◌≡◌, Bool, true, false, if◌then◌else◌, Option, None, Some, List, [], ◌∷◌, map, refl, ap, sym, subst, ◌∙◌}
use Rattle.std.specs.Prelude.{◌+◌, ◌-◌, ◌^◌, ◌%◌, ◌==◌, ◌&&◌, ◌++◌, find, option_map}
use Rattle.std.specs.List.{AllByRecursion}
use Rattle.std.specs.Str.{bytes_eq}
use Rattle.pw_value.specs.ProgramNames.{getchar_name, putchar_name, exit_name}
use Rattle.pw_delay.specs.declared.items.Item.{Item}
use Rattle.pw_delay.specs.declared.items.Item.TheVariants.{Mark}
use Rattle.pw_delay.specs.Filling.{filled}
use Rattle.pw_delay.specs.Parts.{compared_by}
use Rattle.pw_run.specs.Runs.{Ended}
use Rattle.pw_run_languages.specs.Traces.{Called, Returned}
use Rattle.pw_run_languages.specs.Programs.{Library, GetChar, PutChar, Exit, library_at}
use Rattle.pw_run_languages.specs.Addresses.{Addresses}
use Rattle.pw_run_languages.specs.Acts.{Core, register, with_register}
use Rattle.pw_run_languages.specs.Standing.{Active, globals_now}
use Rattle.pw_run_languages.specs.LineRun.{LineFn, LineProgram, Frame, Machine, Step, On, Stopped, Astray, name_of, active, kept, counted, left_behind, globals_in, return_address, from_mark, goes_to, to_block, notes_call, enters, library, calls, calls_at, function_named, returns, staged}
use Rattle.pw_law_slots.specs.SlotLaws.{filled_function, filled_program, IsFillable}
use Rattle.pw_law_slots.proofs.Leading.{turns_left}
use Rattle.pw_law_slots.proofs.Programs.{named_filled}
use Rattle.pw_law_slots.proofs.Places.{IsCut, cut_at_start, cut_behind, compared_on, begun}

-- ---- frames

pub record IsAt (f g : Frame) : Type 0 where
  pub before : List Item
  pub cut : IsCut f.function.items before f.left
  pub fillable : AllByRecursion IsFillable f.function.items
  pub is : g ≡ record f { function = filled_function f.function; left = filled (compared_by false before) f.left }

abbrev pub AreBeside : List Frame → List Frame → Type 0
AreBeside [] [] = Unit {0}
AreBeside (f ∷ fs) (g ∷ gs) = IsAt f g × AreBeside fs gs
AreBeside fs gs = ⊥

actives_same : (fs gs : List Frame) → AreBeside fs gs → map active gs ≡ map active fs
actives_same [] [] h = refl
actives_same (f ∷ fs) (g ∷ gs) h = ap (λ (a : Active). a ∷ map active gs) (ap active h.0.is) ∙ ap (λ l. active f ∷ l) (actives_same fs gs h.1)
actives_same [] (g ∷ gs) h = absurd h
actives_same (f ∷ fs) [] h = absurd h

pub address_same : (w : Addresses) (f g : Frame) (h : IsAt f g) → return_address w g g.left ≡ return_address w f f.left
address_same w f g h = ap (λ (g : Frame). return_address w g g.left) h.is ∙ ap (λ (k : ℕ). w.behind (name_of f) k) (turns_left (compared_by false h.before) f.left)

-- ---- states

abbrev pub beside : List Item → List Frame → Machine → Machine
beside left callers m = record m { frame = record m.frame { function = filled_function m.frame.function; left = left }; callers = callers }

pub record IsBeside (m n : Machine) : Type 0 where
  pub at : IsAt m.frame n.frame
  pub callers : AreBeside m.callers n.callers
  pub is : n ≡ record m { frame = n.frame; callers = n.callers }
  pub passes : m.core.skip ≡ true → compared_by false at.before ≡ true

abbrev pub AreStepsBeside : Step → Step → Type 0
AreStepsBeside (On m) (On n) = IsBeside m n
AreStepsBeside (Stopped end m) (Stopped other n) = staged (Stopped end m) ≡ staged (Stopped other n)
AreStepsBeside Astray t = Unit {0}
AreStepsBeside s t = ⊥

-- what is known of a state's place
pub record IsPlaced (m : Machine) (before : List Item) (callers : List Frame) : Type 0 where
  pub cut : IsCut m.frame.function.items before m.frame.left
  pub fillable : AllByRecursion IsFillable m.frame.function.items
  pub alike : AreBeside m.callers callers

abbrev pub beside_at : List Item → List Frame → Machine → Machine
beside_at before callers m = beside (filled (compared_by false before) m.frame.left) callers m

abbrev at_place : (m : Machine) (before : List Item) (callers : List Frame) → IsPlaced m before callers → IsAt m.frame (beside_at before callers m).frame
at_place m before callers placed = record { before = before; cut = placed.cut; fillable = placed.fillable; is = refl }

pub landed : (m : Machine) (before : List Item) (callers : List Frame) → IsPlaced m before callers → (m.core.skip ≡ true → compared_by false before ≡ true)
    → AreStepsBeside (On m) (On (beside_at before callers m))
landed m before callers placed passes = record { at = at_place m before callers placed; callers = placed.alike; is = refl; passes = passes }

-- nothing is passed over next
abbrev pub Runs : Machine → Type 0
Runs m = m.core.skip ≡ false

passed : (s t : Bool) → s ≡ false → s ≡ true → t ≡ true
passed s t run skips = let bad : true ≡ false = sym skips ∙ run in absurd cc

pub landed_on : (m : Machine) (before : List Item) (callers : List Frame) → IsPlaced m before callers → Runs m → AreStepsBeside (On m) (On (beside_at before callers m))
landed_on m before callers placed run = landed m before callers placed (passed m.core.skip (compared_by false before) run)

globals_same : (p : LineProgram) (w : Addresses) (c : Core) (f : Frame) (left : List Item) (fs gs : List Frame) → AreBeside fs gs
    → globals_in (filled_program p) w c (record f { function = filled_function f.function; left = left } ∷ gs) ≡ globals_in p w c (f ∷ fs)
globals_same p w c f left fs gs h = ap (λ l. globals_now p.flow w.named c.memory c.registers (active f ∷ l)) (actives_same fs gs h)

notes_same : (p : LineProgram) (w : Addresses) (f : List ℕ) (left : List Item) (callers : List Frame) (m : Machine) → AreBeside m.callers callers
    → notes_call (filled_program p) w f (beside left callers m) ≡ beside left callers (notes_call p w f m)
notes_same p w f left callers m h =
    ap (λ l. beside left callers (record (notes_call p w f m) { trace = Called f l (kept m.core) ∷ m.trace })) (globals_same p w m.core m.frame left m.callers callers h)

-- ---- to a block

goes_beside : (m : Machine) (left : List Item) (callers : List Frame) (before to : List Item) (o : Option (List Item)) → IsPlaced (left_behind to m) before callers → Runs m
    → o ≡ Some (filled (compared_by false before) to) → AreStepsBeside (On (left_behind to m)) (goes_to o (beside left callers m))
goes_beside m left callers before to o placed run e =
    subst (λ (o : Option (List Item)). AreStepsBeside (On (left_behind to m)) (goes_to o (beside left callers m))) (sym e) (landed_on (left_behind to m) before callers placed run)

pub led_beside : (m : Machine) (left : List Item) (callers : List Frame) (o d : Option (List Item)) → Runs m
    → ((to : List Item) → o ≡ Some to → (before : List Item) × IsPlaced (left_behind to m) before callers × (d ≡ Some (filled (compared_by false before) to)))
    → AreStepsBeside (goes_to o m) (goes_to d (beside left callers m))
led_beside m left callers None d run there = tt
led_beside m left callers (Some to) d run there = let h = there to refl in goes_beside m left callers h.0 to d h.1 run h.2

pub block_beside : (b : ℕ) (m : Machine) (left : List Item) (callers : List Frame) → AllByRecursion IsFillable m.frame.function.items → AreBeside m.callers callers → Runs m
    → AreStepsBeside (to_block b m) (to_block b (beside left callers m))
block_beside b m left callers fillable alike run =
    led_beside m left callers (from_mark b m.frame.function.items) (from_mark b (filled false m.frame.function.items)) run (λ to e.
    let h = begun b false m.frame.function.items to e in (
      h.before ++ Mark h.mark ∷ [],
      record { cut = cut_behind m.frame.function.items h.before to (Mark h.mark) h.parts refl; fillable = fillable; alike = alike },
      h.found ∙ ap (λ (c : Bool). Some (filled c to)) (sym (compared_on false h.before (Mark h.mark ∷ []))),
    ))

-- ---- the library

abbrev answered : LineProgram → Addresses → List ℕ → ℕ → Machine → Machine
answered p w f answer m =
    let c = with_register 28 answer m.core in
    record (counted m) { core = c; trace = Returned f 0 (globals_in p w c (m.frame ∷ m.callers)) (kept m.core) (kept c) ∷ m.trace }

answer_beside : (p : LineProgram) (w : Addresses) (f : List ℕ) (answer : ℕ) (m n : Machine) (before : List Item) (callers : List Frame) → IsPlaced m before callers → Runs m
    → n ≡ beside_at before callers m → AreStepsBeside (On (answered p w f answer m)) (On (answered (filled_program p) w f answer n))
answer_beside p w f answer m n before callers placed run is =
    let c = with_register 28 answer m.core in
    let left = filled (compared_by false before) m.frame.left in
    let same : answered (filled_program p) w f answer (beside_at before callers m) ≡ beside_at before callers (answered p w f answer m) =
    ap (λ l. beside left callers (record (answered p w f answer m) { trace = Returned f 0 l (kept m.core) (kept c) ∷ m.trace }))
    (globals_same p w c m.frame left m.callers callers placed.alike) in
    subst (λ (d : Machine). AreStepsBeside (On (answered p w f answer m)) (On d)) (sym (ap (answered (filled_program p) w f answer) is ∙ same))
    (landed_on (answered p w f answer m) before callers (record { cut = placed.cut; fillable = placed.fillable; alike = placed.alike }) run)

reads_beside : (p : LineProgram) (w : Addresses) (rest : List ℕ) (m : Machine) (before : List Item) (callers : List Frame) → IsPlaced m before callers → Runs m
    → AreStepsBeside (library p w GetChar (record m { rest = rest })) (library (filled_program p) w GetChar (beside_at before callers (record m { rest = rest })))
reads_beside p w [] m before callers placed run =
    let left = filled (compared_by false before) m.frame.left in
    answer_beside p w getchar_name (2 ^ 32 - 1) (notes_call p w getchar_name (record m { rest = [] })) _ before callers
    (record { cut = placed.cut; fillable = placed.fillable; alike = placed.alike }) run
    (notes_same p w getchar_name left callers (record m { rest = [] }) placed.alike)
reads_beside p w (byte ∷ rest) m before callers placed run =
    let left = filled (compared_by false before) m.frame.left in
    let old : Machine = record m { rest = byte ∷ rest } in
    answer_beside p w getchar_name byte (record (notes_call p w getchar_name old) { rest = rest; read = m.read + 1 }) _ before callers
    (record { cut = placed.cut; fillable = placed.fillable; alike = placed.alike }) run
    (ap (λ (k : Machine). record k { rest = rest; read = m.read + 1 }) (notes_same p w getchar_name left callers old placed.alike))

library_beside : (p : LineProgram) (w : Addresses) (g : Library) (m : Machine) (before : List Item) (callers : List Frame) → IsPlaced m before callers → Runs m
    → AreStepsBeside (library p w g m) (library (filled_program p) w g (beside_at before callers m))
library_beside p w GetChar m before callers placed run = reads_beside p w m.rest m before callers placed run
library_beside p w PutChar m before callers placed run =
    let left = filled (compared_by false before) m.frame.left in
    let byte = register m.core 26 % 256 in
    answer_beside p w putchar_name byte (record (notes_call p w putchar_name m) { out = m.out ++ byte ∷ [] }) _ before callers
    (record { cut = placed.cut; fillable = placed.fillable; alike = placed.alike }) run
    (ap (λ (k : Machine). record k { out = m.out ++ byte ∷ [] }) (notes_same p w putchar_name left callers m placed.alike))
library_beside p w Exit m before callers placed run =
    let left = filled (compared_by false before) m.frame.left in
    let end = Ended (register m.core 26 % 256) in
    sym (ap (λ (k : Machine). staged (Stopped end k)) (notes_same p w exit_name left callers m placed.alike))

-- ---- calls

abbrev pub AreFillable : LineProgram → Type 0
AreFillable p = AllByRecursion (λ f. AllByRecursion IsFillable f.items) p.functions

found_fills : (name : LineFn → Bool) (fs : List LineFn) (d : LineFn) → AllByRecursion (λ f. AllByRecursion IsFillable f.items) fs → find name fs ≡ Some d → AllByRecursion IsFillable d.items
found_fills name [] d all e = absurd cc
found_fills name (f ∷ fs) d all e = by (name f) e (λ e. found_fills name fs d all.1 e)
  where
    by : (t : Bool) → (if t then Some f else find name fs) ≡ Some d → (find name fs ≡ Some d → AllByRecursion IsFillable d.items) → AllByRecursion IsFillable d.items
    by true e later = let same : f ≡ d = cc in subst (λ (f : LineFn). AllByRecursion IsFillable f.items) same all.0
    by false e later = later e

pub named_fills : (p : LineProgram) (name : List ℕ) (d : LineFn) → AreFillable p → function_named p name ≡ Some d → AllByRecursion IsFillable d.items
named_fills p name d all e = found_fills (λ f. bytes_eq f.located.body.name name) p.functions d all e

enters_beside : (p : LineProgram) (w : Addresses) (d : LineFn) (m : Machine) (before : List Item) (callers : List Frame) → AllByRecursion IsFillable d.items → IsPlaced m before callers → Runs m
    → AreStepsBeside (On (enters p w d m)) (On (enters (filled_program p) w (filled_function d) (beside_at before callers m)))
enters_beside p w d m before callers fillable placed run =
    let left = filled (compared_by false before) m.frame.left in
    let name = d.located.body.name in
    let new : Frame = record { function = filled_function d; left = filled false d.items; stack = register m.core 30; before = kept m.core } in
    let above : List Frame = (beside_at before callers m).frame ∷ callers in
    record {
      at = record { before = []; cut = cut_at_start d.items; fillable = fillable; is = refl };
      callers = (at_place m before callers placed, placed.alike);
      is = ap (λ (k : Machine). record (counted k) { frame = new; callers = above }) (notes_same p w name left callers m placed.alike);
      passes = passed m.core.skip false run;
    }

abbrev called_by : LineProgram → Addresses → Machine → Option Library → Option LineFn → Step
called_by p w m (Some g) defined = library p w g m
called_by p w m None (Some d) = On (enters p w d m)
called_by p w m None None = Astray

calls_are : (p : LineProgram) (w : Addresses) (m : Machine) (to : ℕ) (f : List ℕ) (o : Option Library) (d : Option LineFn) → (register m.core 2 == to) ≡ true
    → library_at f ≡ o → function_named p f ≡ d → calls p w to f m ≡ called_by p w m o d
calls_are p w m to f (Some g) d link is defined = rw (link, is) refl
calls_are p w m to f None (Some g) link is defined = rw (link, is, defined) refl
calls_are p w m to f None None link is defined = rw (link, is, defined) refl

called_beside : (p : LineProgram) (w : Addresses) (f : List ℕ) (o : Option Library) (d : Option LineFn) (m : Machine) (before : List Item) (callers : List Frame) → AreFillable p
    → function_named p f ≡ d → IsPlaced m before callers → Runs m → AreStepsBeside (called_by p w m o d) (called_by (filled_program p) w (beside_at before callers m) o (option_map filled_function d))
called_beside p w f (Some g) d m before callers all defined placed run = library_beside p w g m before callers placed run
called_beside p w f None (Some d) m before callers all defined placed run = enters_beside p w d m before callers (named_fills p f d all defined) placed run
called_beside p w f None None m before callers all defined placed run = tt

pub calls_beside : (p : LineProgram) (w : Addresses) (to : ℕ) (f : List ℕ) (m : Machine) (before : List Item) (callers : List Frame) → AreFillable p → IsPlaced m before callers → Runs m
    → AreStepsBeside (calls p w to f m) (calls (filled_program p) w to f (beside_at before callers m))
calls_beside p w to f m before callers all placed run = by (register m.core 2 == to) refl (library_at f) (function_named p f) refl refl
  where
    by : (t : Bool) → (register m.core 2 == to) ≡ t → (o : Option Library) (d : Option LineFn) → library_at f ≡ o → function_named p f ≡ d
        → AreStepsBeside (calls p w to f m) (calls (filled_program p) w to f (beside_at before callers m))
    by false link o d is defined =
        let astray : calls p w to f m ≡ Astray = rw link refl in
        subst (λ (s : Step). AreStepsBeside s (calls (filled_program p) w to f (beside_at before callers m))) (sym astray) tt
    by true link o d is defined =
        let n = beside_at before callers m in
        subst (λ (s : Step). AreStepsBeside s (calls (filled_program p) w to f n)) (sym (calls_are p w m to f o d link is defined))
        (subst (λ (t : Step). AreStepsBeside (called_by p w m o d) t)
        (sym (calls_are (filled_program p) w n to f o (option_map filled_function d) link is (named_filled p f ∙ ap (option_map filled_function) defined)))
        (called_beside p w f o d m before callers all defined placed run))

pub at_beside : (p : LineProgram) (w : Addresses) (to : ℕ) (o : Option (List ℕ)) (m : Machine) (before : List Item) (callers : List Frame) → AreFillable p → IsPlaced m before callers → Runs m
    → AreStepsBeside (calls_at p w to o m) (calls_at (filled_program p) w to o (beside_at before callers m))
at_beside p w to None m before callers all placed run = tt
at_beside p w to (Some f) m before callers all placed run = calls_beside p w to f m before callers all placed run

-- ---- returns

abbrev given_back : LineProgram → Addresses → Frame → List Frame → Machine → Machine
given_back p w f fs m =
    record m { frame = f; callers = fs; trace = Returned (name_of m.frame) 0 (globals_in p w m.core (f ∷ fs)) m.frame.before (kept m.core) ∷ m.trace }

back_beside : (p : LineProgram) (w : Addresses) (m : Machine) (left : List Item) (f g : Frame) (fs gs : List Frame) → IsAt f g → AreBeside fs gs → Runs m
    → IsBeside (given_back p w f fs m) (given_back (filled_program p) w g gs (beside left (g ∷ gs) m))
back_beside p w m left f g fs gs at alike run =
    let same : map active (g ∷ gs) ≡ map active (f ∷ fs) = actives_same (f ∷ fs) (g ∷ gs) (at, alike) in
    record {
      at = at;
      callers = alike;
      is = ap (λ l. record m { frame = g; callers = gs; trace = Returned (name_of m.frame) 0 (globals_now p.flow w.named m.core.memory m.core.registers l) m.frame.before (kept m.core) ∷ m.trace }) same;
      passes = passed m.core.skip (compared_by false at.before) run;
    }

returned_beside : (p : LineProgram) (w : Addresses) (to : ℕ) (m : Machine) (left : List Item) (fs gs : List Frame) → AreBeside fs gs → Runs m
    → AreStepsBeside (returns p w to (record m { callers = fs })) (returns (filled_program p) w to (beside left gs m))
returned_beside p w to m left [] gs alike run = tt
returned_beside p w to m left (f ∷ fs) [] alike run = absurd alike
returned_beside p w to m left (f ∷ fs) (g ∷ gs) alike run =
    let old : Machine = record m { callers = f ∷ fs } in
    subst (λ (a : ℕ). AreStepsBeside
    (if (to == return_address w f f.left) && (register m.core 30 == m.frame.stack) then On (given_back p w f fs old) else Astray)
    (if (to == a) && (register m.core 30 == m.frame.stack) then On (given_back (filled_program p) w g gs (beside left (g ∷ gs) old)) else Astray))
    (sym (address_same w f g alike.0)) (by ((to == return_address w f f.left) && (register m.core 30 == m.frame.stack)))
  where
    by : (t : Bool) → AreStepsBeside
        (if t then On (given_back p w f fs (record m { callers = f ∷ fs })) else Astray)
        (if t then On (given_back (filled_program p) w g gs (beside left (g ∷ gs) (record m { callers = f ∷ fs }))) else Astray)
    by true = back_beside p w (record m { callers = f ∷ fs }) left f g fs gs alike.0 alike.1 run
    by false = tt

pub returns_beside : (p : LineProgram) (w : Addresses) (to : ℕ) (m : Machine) (left : List Item) (callers : List Frame) → AreBeside m.callers callers → Runs m
    → AreStepsBeside (returns p w to m) (returns (filled_program p) w to (beside left callers m))
returns_beside p w to m left callers alike run = returned_beside p w to m left m.callers callers alike run
