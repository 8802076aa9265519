-- The frame of a flow function fits in the room of the function that it was made from.
use Rattle.std.proofs.Common.{◌≡◌, ℕ, zero, suc, ◌+◌, ◌*◌, ◌<◌, ◌≤◌, ◌==◌, nat_lt, Bool, true, false, if◌then◌else◌, Option, Some, None, unwrap_or, List, [], ◌∷◌, ◌++◌, length, refl, ap, sym, subst, arith}
use Rattle.std.proofs.lemmas.Bool.{ltb-true}
use Rattle.std.proofs.lemmas.Bool.Decides.{nat_tests}
use Rattle.std.proofs.lemmas.Grind.{flat_map-append}
use Rattle.std.proofs.lemmas.List.Sums.{sum_by-cons}
use Rattle.std.specs.Prelude.{sum_by}
use Rattle.std.specs.List.{flat_map}
use Rattle.pw_types.specs.Labels.{labels_in, cases_in}
use Rattle.pw_types.specs.Rooms.{local_room, stmt_nodes, room_of, start_room}
use Rattle.pw_types.specs.TypeTrees.{type_of, RecordValue}
use Rattle.pw_types.specs.TypedTrees.{LocalValue, FunctionValue}
use Rattle.pw_flow.specs.declared.flow.Op.{Op}
use Rattle.pw_flow.specs.declared.flow.Op.TheVariants as op
use Rattle.pw_flow.specs.declared.flow.Block.{Block}
use Rattle.pw_flow.specs.declared.flow.End.TheVariants.{Return}
use Rattle.pw_flow.specs.FrameRooms.{most_arguments, flow_room}
use Rattle.pw_value.specs.Rounding.{slot_room}
use Rattle.pw_lower.specs.declared.code.Code.{Code}
use Rattle.pw_lower.specs.declared.code.Numbered.{Numbered}
use Rattle.pw_lower.specs.declared.place.LocalPlace.{LocalPlace}
use Rattle.pw_lower.specs.declared.place.LocalPlace.TheVariants.{Temp, Slot}
use Rattle.pw_lower.specs.declared.place.Ways.{Ways}
use Rattle.pw_lower.specs.Codes.{temp_of, emit, fresh, bare, block_of, blocks_below}
use Rattle.pw_lower.specs.Places.{is_kept, places_from, places_of, temps_from, addressed_in_statement}
use Rattle.pw_lower.specs.Operators.{bytes_of}
use Rattle.pw_lower.specs.Expressions.{scalar_kind}
use Rattle.pw_lower.specs.Statements.{lower_statement}
use Rattle.pw_lower.specs.Modules.{parameters_stored, closed_at_start, start_code, slots_of, frame_of, entered, function_code, lowered_function, start_function}
use Rattle.pw_law_lower.specs.Parts.{partless}
use Rattle.pw_law_lower.proofs.Growth.{Grows, joins, within, same, emits, adds, turns, argument_total, closed_total}
use Rattle.pw_law_lower.proofs.Statements.{statement-adds}

-- ---- the most arguments of a call

most_arguments-append : (xs ys : List Op) → most_arguments (xs ++ ys) ≤ most_arguments xs + most_arguments ys
most_arguments-append [] ys = omega arith
most_arguments-append (x ∷ xs) ys = omega (arith, most_arguments-append xs ys)

most_arguments-max : (xs ys : List Op) (n : ℕ) → most_arguments xs ≤ n → most_arguments ys ≤ n → most_arguments (xs ++ ys) ≤ n
most_arguments-max [] ys n f g = g
most_arguments-max (x ∷ xs) ys n f g = omega (arith, most_arguments-max xs ys n (omega (arith, f)) g, f)

most_arguments-total : (xs : List Op) → most_arguments xs ≤ argument_total xs
most_arguments-total [] = omega arith
most_arguments-total (x ∷ xs) = omega (arith, most_arguments-total xs)

-- by whether the first block has the number
most_in-by : (b : Bool) (block : Block) (rest : Option Block) (n m : ℕ) → most_arguments block.ops ≤ n → most_arguments (unwrap_or rest bare).ops ≤ m → most_arguments (unwrap_or (if b then Some block else rest) bare).ops ≤ n + m
most_in-by true block rest n m f g = omega (arith, f)
most_in-by false block rest n m f g = omega (arith, g)

most_in : (closed : List Numbered) (n : ℕ) → most_arguments (unwrap_or (block_of closed n) bare).ops ≤ closed_total closed
most_in [] n = omega arith
most_in (b ∷ rest) n = most_in-by (b.number == n) b.block (block_of rest n) (argument_total b.block.ops) (closed_total rest) (most_arguments-total b.block.ops) (most_in rest n)

most_below : (closed : List Numbered) (n : ℕ) → most_arguments (flat_map (λ (b : Block). b.ops) (blocks_below closed n)) ≤ closed_total closed
most_below closed zero = omega arith
most_below closed (suc n) =
    let last = unwrap_or (block_of closed n) bare in
    let all : most_arguments (flat_map (λ (b : Block). b.ops) (blocks_below closed n) ++ (last.ops ++ [])) ≤ closed_total closed =
    most_arguments-max (flat_map (λ (b : Block). b.ops) (blocks_below closed n)) (last.ops ++ []) (closed_total closed) (most_below closed n) (most_arguments-max last.ops [] (closed_total closed) (most_in closed n) (omega arith)) in
    subst (λ (ops : List Op). most_arguments ops ≤ closed_total closed) (sym (flat_map-append (λ (b : Block). b.ops) (blocks_below closed n) (last ∷ []))) all

-- ---- locals

local_room-positive : (records : List RecordValue) (l : LocalValue) → 8 ≤ local_room records l
local_room-positive records l = omega arith

-- what the temporaries of the locals and the slots come to
abbrev taken : List RecordValue → List LocalValue → ℕ → List LocalPlace → ℕ
taken records locals temps places = 4 * temps_from temps places + sum_by slot_room (slots_of records locals places)

pub still_below : (k n : ℕ) → k < n → (if nat_lt k n then n else k + 1) ≡ n
still_below k n h = grind (arith, nat_tests)

pub one_more : (k n : ℕ) → n ≤ k → (if nat_lt k n then n else k + 1) ≡ k + 1
one_more k n h = grind (arith, nat_tests)

-- by whether a local is kept in a temporary, and whether it is a parameter
taken-by :
    (kept param : Bool) (records : List RecordValue) (local : LocalValue) (locals : List LocalValue) (k temp temps bound : ℕ) (first next : List LocalPlace) (slot : ℕ)
    (others : List LocalPlace)
    → (param ≡ true → k < temps) → temps ≤ temp
    → taken records locals temps first ≤ bound + 4 * temp
    → taken records locals (temp + 1) next ≤ bound + 4 * (temp + 1)
    → taken records locals temps others ≤ bound + 4 * temp
    → taken records (local ∷ locals) temps (if kept then (if param then Temp k ∷ first else Temp temp ∷ next) else Slot slot ∷ others) ≤ local_room records local + bound + 4 * temp
taken-by true true records local locals k temp temps bound first next slot others p t f g h =
    omega (arith, f, ap (λ (n : ℕ). 4 * temps_from n first) (still_below k temps (p refl)))
taken-by true false records local locals k temp temps bound first next slot others p t f g h =
    omega (arith, g, local_room-positive records local, ap (λ (n : ℕ). 4 * temps_from n next) (one_more temp temps t))
taken-by false param records local locals k temp temps bound first next slot others p t f g h =
    omega (arith, h, sum_by-cons slot_room (bytes_of records (type_of local.ty)) (slots_of records locals others))

taken-fits :
    (records : List RecordValue) (addressed : List ℕ) (params k temp slot temps : ℕ) (locals : List LocalValue)
    → params ≤ temps → temps ≤ temp
    → taken records locals temps (places_from addressed params k temp slot locals) ≤ sum_by (local_room records) locals + 4 * temp
taken-fits records addressed params k temp slot temps [] p t = omega (arith, t)
taken-fits records addressed params k temp slot temps (local ∷ rest) p t =
    let bound = sum_by (local_room records) rest in
    let first = places_from addressed params (k + 1) temp slot rest in
    let next = places_from addressed params (k + 1) (temp + 1) slot rest in
    let others = places_from addressed params (k + 1) temp (slot + 1) rest in
    let all : taken records (local ∷ rest) temps (places_from addressed params k temp slot (local ∷ rest)) ≤ local_room records local + bound + 4 * temp =
    taken-by (is_kept addressed k local) (nat_lt k params) records local rest k temp temps bound first next slot others
    (λ e. omega (arith, ltb-true k params e, p)) t
    (taken-fits records addressed params (k + 1) temp slot temps rest p t)
    (taken-fits records addressed params (k + 1) (temp + 1) slot (temp + 1) rest (omega (arith, p, t)) (omega arith))
    (taken-fits records addressed params (k + 1) temp (slot + 1) temps rest p t) in
    omega (arith, all, sum_by-cons (local_room records) local rest)

-- ---- functions

parameters-add : (locals : List LocalValue) (places : List LocalPlace) (k left : ℕ) (c : Code) → Grows c (parameters_stored locals places k left c) 0 left
parameters-add [] places k left c = within (same c) (omega arith)
parameters-add (local ∷ locals) [] k left c = within (same c) (omega arith)
parameters-add (local ∷ locals) (Slot s ∷ places) k zero c = within (same c) (omega arith)
parameters-add (local ∷ locals) (Temp t ∷ places) k zero c = within (same c) (omega arith)
parameters-add (local ∷ locals) (Slot s ∷ places) k (suc left) c =
    let x = fresh (λ t. op.AddrSlot t s) c in
    let o = op.Store (scalar_kind (type_of local.ty)) (temp_of x) k in
    within (joins (adds (λ t. op.AddrSlot t s) 0 c refl) (joins (emits o 0 x.code refl) (parameters-add locals places (k + 1) left (emit o x.code)))) (omega arith)
parameters-add (local ∷ locals) (Temp t ∷ places) k (suc left) c = within (parameters-add locals places (k + 1) left c) (omega arith)

start_weight : (f : FunctionValue) (temps : ℕ) (named : List ℕ) → closed_total (closed_at_start named) ≡ 0
start_weight f temps [] = refl
start_weight f temps (l ∷ rest) = refl

pub function-adds :
    (home : List ℕ) (records : List RecordValue) (f : FunctionValue)
    → Grows (start_code f (temps_from f.params (places_of f))) (function_code home records f) (4 * length (labels_in f.body)) (f.params + (4 * stmt_nodes f.body + 2 * length (cases_in f.body) + 2 * partless f.body))
function-adds home records f =
    let ways : Ways = record { out = 0; on = 0 } in
    within
    (joins (parameters-add f.locals (places_of f) 0 f.params (start_code f (temps_from f.params (places_of f)))) (joins (statement-adds (frame_of home records f) ways f.body (entered f)) (turns (Return None) 0 (lower_statement (frame_of home records f) ways f.body (entered f)))))
    (omega arith)

pub function-fits :
    (home : List ℕ) (records : List RecordValue) (f : FunctionValue)
    → length (cases_in f.body) ≤ length (labels_in f.body) → partless f.body ≡ 0
    → flow_room (lowered_function home records f) ≤ room_of records f
unfolding lowered_function
function-fits home records f l p =
    let c = function_code home records f in
    let g = (function-adds home records f).weighs in
    let most = most_below c.closed c.blocks in
    let start = start_weight f 0 f.named in
    let fits = taken-fits records (addressed_in_statement f.body) f.params 0 f.params 0 f.params f.locals (omega arith) (omega arith) in
    omega (arith, g, most, start, fits, l, p)

pub start-fits : flow_room start_function ≤ start_room
start-fits = omega arith
