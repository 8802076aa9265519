-- The functions of a linked program are ready for words, and their frames and registers are such as are asked.
use Rattle.std.specs.Prelude.{ℕ, ◌+◌, ◌^◌, ◌<◌, ◌≤◌, Bool, true, false, if◌then◌else◌, List, [], ◌∷◌, ◌++◌, map, length, Contains}
use Rattle.std.specs.List.{AllByRecursion, flat_map}
use Rattle.std.specs.Str.{bytes_eq}
use Rattle.std.proofs.Common.{arith, refl}
use Rattle.pw_value.specs.Rounding.{slot_room}
use Rattle.pw_db.specs.Limits.{first_register, last_register, register_count}
use Rattle.pw_db.specs.Database.{IsDirectives}
use Rattle.pw_db.specs.declared.database.Directives.{Directives}
use Rattle.pw_flow.specs.declared.flow.FlowFn.{FlowFn}
use Rattle.pw_flow.specs.declared.flow.FlowModule.{FlowModule}
use Rattle.pw_flow.specs.ValidFlow.{IsFunction, IsValid}
use Rattle.pw_webflow.specs.declared.web.WebFn.{WebFn}
use Rattle.pw_webflow.specs.ValidWebs.{IsWebFn}
use Rattle.pw_webflow.specs.Direction.{directed}
use Rattle.pw_webflow.proofs.DirectionLaws.{directed_lawful}
use Rattle.pw_alloc.specs.declared.located.Place.{Place}
use Rattle.pw_alloc.specs.declared.located.Place.TheVariants.{Slot, Reg}
use Rattle.pw_alloc.specs.declared.located.Located.{Located}
use Rattle.pw_alloc.specs.Frames.{head_size, slots_begin, last_reach}
use Rattle.pw_alloc.proofs.FrameLaws.{frame_fits}
use Rattle.pw_alloc.proofs.SavedLaws.{few_between}
use Rattle.pw_object.specs.declared.object.Object.{Object}
use Rattle.pw_select.specs.Selection.{selected}
use Rattle.pw_run_languages.specs.Programs.{Program, functions_of}
use Rattle.pw_run_languages.specs.Direction.{directives_of, directed_by}
use Rattle.pw_run_languages.specs.Serving.{slots_alone, Serves, AllServe}
use Rattle.pw_run_languages.specs.CodeStands.{AreReady, SelectionIsReady}
use Rattle.pw_law_levels.specs.Sparing.{IsSparing}
use Rattle.pw_law_linked.specs.Standing.{HasFrame}
use Rattle.pw_law_linked.specs.Given.{IsGiven}
use Rattle.pw_law_linked.proofs.Served.{each, changed_between, frame_served, sparing_served}

-- ---- each function is lawful, and so are its directives

both : (fs gs : List FlowFn) → AllByRecursion IsFunction fs → AllByRecursion IsFunction gs → AllByRecursion IsFunction (fs ++ gs)
both [] gs h k = k
both (f ∷ fs) gs h k = (h.0, both fs gs h.1 k)

all_functions : (ms : List FlowModule) → AllByRecursion IsValid ms → AllByRecursion IsFunction (flat_map (λ m. m.functions) ms)
all_functions [] h = tt
all_functions (m ∷ ms) h = both m.functions (flat_map (λ (m : FlowModule). m.functions) ms) h.0.parts.functions (all_functions ms h.1)

either : (b : Bool) (x y : Directives) → IsDirectives x → IsDirectives y → IsDirectives (if b then x else y)
either true x y h k = h
either false x y h k = k

directives_lawful : (d : List (List ℕ × Directives)) (f : List ℕ) → AllByRecursion (λ g. IsDirectives g.1) d → IsDirectives (directives_of d f)
directives_lawful [] f h = record { each = tt; numbers = tt; globals = tt; registers = tt; free = tt; saves = tt; apart = tt }
directives_lawful (g ∷ rest) f h = either (bytes_eq g.0 f) g.1 (directives_of rest f) h.0 (directives_lawful rest f h.1)

-- what holds of a lawful function under lawful directives whose places serve it
each_served : (P : Located → Type 0) → ((f : FlowFn) (d : Directives) (l : Located) → IsFunction f → IsDirectives d → Serves (directed f d) l → P l)
    → (d : List (List ℕ × Directives)) → AllByRecursion (λ g. IsDirectives g.1) d → (fs : List FlowFn) (ls : List Located) → AllByRecursion IsFunction fs → AllServe (map (directed_by d) fs) ls → AllByRecursion P ls
each_served P one d lawful [] [] is serve = tt
each_served P one d lawful [] (l ∷ ls) is serve = absurd serve
each_served P one d lawful (f ∷ fs) [] is serve = tt
each_served P one d lawful (f ∷ fs) (l ∷ ls) is serve =
    (one f (directives_of d f.name) l is.0 (directives_lawful d f.name lawful) serve.0, each_served P one d lawful fs ls is.1 serve.1)

pub each_given : (P : Located → Type 0) → ((f : FlowFn) (d : Directives) (l : Located) → IsFunction f → IsDirectives d → Serves (directed f d) l → P l)
    → (p : Program) (d : List (List ℕ × Directives)) (functions : List Located) (objects : List Object) → IsGiven p d functions objects → AllByRecursion P functions
each_given P one p d functions objects given =
    each_served P one d given.directives (functions_of p) functions (all_functions p.modules given.program.modules) given.serve

-- ---- frames

grows : (at : ℕ) (slots : List ℕ) → at ≤ last_reach at slots
grows at [] = omega arith
grows at (size ∷ slots) = let rest = grows (at + slot_room size) slots in omega (arith, rest)

few_slots : (ps : List Place) → length (slots_alone ps) ≤ length ps
few_slots [] = omega arith
few_slots (Slot offset ∷ rest) = omega (arith, few_slots rest)
few_slots (Reg r ∷ rest) = omega (arith, few_slots rest)

frame_some : (f : WebFn) (l : Located) → Serves f l → 1 ≤ l.frame
frame_some f l serves =
    let n = length (slots_alone l.places) in
    let begin = slots_begin (head_size f) (length l.saved) n in
    let reach = grows begin f.slots in
    omega (arith, reach, serves.frame)

frame_small : (f : WebFn) (l : Located) → IsWebFn f → Serves f l → l.frame < 2 ^ 31
frame_small f l is serves =
    let between = λ (r : ℕ) (c : Contains l.saved r). changed_between f l is serves r ((serves.saved r).0 c) in
    let low = each (λ r. first_register ≤ r) l.saved (λ r c. (between r c).0) in
    let high = each (λ r. r < last_register + 1) l.saved (λ r c. omega (arith, (between r c).1)) in
    let few : length l.saved ≤ register_count = omega (arith, few_between first_register (last_register + 1) l.saved (omega arith) low high serves.order) in
    let slots : length (slots_alone l.places) ≤ f.temps = omega (arith, few_slots l.places, serves.count) in
    let fits = frame_fits f (length l.saved) (length (slots_alone l.places)) is few slots in
    omega (arith, serves.frame, fits.reach)

-- ---- the functions

pub ready_given : SelectionIsReady → (p : Program) (d : List (List ℕ × Directives)) (functions : List Located) (objects : List Object) → IsGiven p d functions objects → AllByRecursion (λ l. AreReady (selected l)) functions
ready_given ready = each_given (λ l. AreReady (selected l)) ready

pub frames_given : (p : Program) (d : List (List ℕ × Directives)) (functions : List Located) (objects : List Object) → IsGiven p d functions objects → AllByRecursion HasFrame functions
frames_given = each_given HasFrame (λ f d l is lawful serves. frame_served (directed f d) l serves)

sparing_one : (f : FlowFn) (d : Directives) (l : Located) → IsFunction f → IsDirectives d → Serves (directed f d) l → IsSparing l
sparing_one f d l is lawful serves =
    let web = directed_lawful f d is lawful in
    sparing_served (directed f d) l web serves (frame_some (directed f d) l serves) (frame_small (directed f d) l web serves)

pub sparing_given : (p : Program) (d : List (List ℕ × Directives)) (functions : List Located) (objects : List Object) → IsGiven p d functions objects → AllByRecursion IsSparing functions
sparing_given = each_given IsSparing sparing_one
