-- The flow graph of a well-typed function stays in range.
use Rattle.std.proofs.Common.{◌≡◌, ℕ, zero, suc, ◌+◌, ◌<◌, ◌≤◌, nat_lt, Bool, true, false, if◌then◌else◌, Some, None, unwrap_or, List, [], ◌∷◌, length, refl, sym, subst, arith, length-append}
use Rattle.std.proofs.lemmas.Bool.{ltb-true, ltb-false}
use Rattle.std.specs.Prelude.{slice_get, replicate}
use Rattle.std.specs.List.{AllByRecursion}
use Rattle.std.proofs.lemmas.List.Elements.{recursion_from_All}
use Rattle.pw_types.specs.Records.{IsObjectType}
use Rattle.pw_types.specs.TypeTrees.{type_of, RecordValue}
use Rattle.pw_types.specs.TypedModules.{IsFunction}
use Rattle.pw_types.specs.TypedTrees.{LocalValue, FunctionValue, ModuleValue}
use Rattle.pw_flow.specs.declared.flow.Op.TheVariants as op
use Rattle.pw_flow.specs.declared.flow.End.TheVariants.{Return}
use Rattle.pw_lower.specs.declared.code.Code.{Code}
use Rattle.pw_lower.specs.declared.code.Numbered.{Numbered}
use Rattle.pw_lower.specs.declared.place.LocalPlace.{LocalPlace}
use Rattle.pw_lower.specs.declared.place.LocalPlace.TheVariants.{Temp, Slot}
use Rattle.pw_lower.specs.declared.place.Ways.{Ways}
use Rattle.pw_lower.specs.Codes.{temp_of, emit, fresh, bare, block_of, blocks_below}
use Rattle.pw_lower.specs.Places.{is_kept, places_from, places_of, place_at, temps_from, addressed_in_statement}
use Rattle.pw_lower.specs.Expressions.{scalar_kind}
use Rattle.pw_lower.specs.Statements.{lower_statement}
use Rattle.pw_lower.specs.Modules.{parameters_stored, closed_at_start, blocks_at_start, start_code, slots_of, frame_of, entered, function_code, lowered_function}
use Rattle.pw_law_lower.specs.Ranges.{IsBlockInRange, IsFunctionInRange}
use Rattle.pw_law_lower_walk.proofs.Functions.{in_order}
use Rattle.pw_law_lower.proofs.Rooms.{still_below, one_more}
use Rattle.pw_law_lower.proofs.Names.{all_more}
use Rattle.pw_law_lower.proofs.Sound.{numbered_below, Sound, Goes, stays, goes_then, emits-in, adds-in, cuts-in}
use Rattle.pw_law_lower.proofs.SoundExpressions.{IsPlace, Fits, fits_more}
use Rattle.pw_law_lower.proofs.SoundStatements.{Ready, statement-in}

-- ---- the blocks in order

length-below : (closed : List Numbered) (n : ℕ) → length (blocks_below closed n) ≡ n
length-below closed zero = refl
length-below closed (suc n) = omega (arith, length-append (blocks_below closed n) (unwrap_or (block_of closed n) bare ∷ []), length-below closed n)

-- ---- the places of the locals

temps_from-by : (b : Bool) (t temps : ℕ) → (b ≡ false → temps ≤ t) → temps ≤ (if b then temps else t + 1)
temps_from-by true t temps h = omega arith
temps_from-by false t temps h = omega (arith, h refl)

not_below : (t temps : ℕ) → nat_lt t temps ≡ false → temps ≤ t
not_below t temps e = ltb-false t temps e

temps_from-le : (temps : ℕ) (places : List LocalPlace) → temps ≤ temps_from temps places
temps_from-le temps [] = omega arith
temps_from-le temps (Slot s ∷ rest) = temps_from-le temps rest
temps_from-le temps (Temp t ∷ rest) =
    omega (arith, temps_from-by (nat_lt t temps) t temps (not_below t temps), temps_from-le (if nat_lt t temps then temps else t + 1) rest)

place_less : (n m temps : ℕ) (p : LocalPlace) → n ≤ m → IsPlace n temps p → IsPlace m temps p
place_less n m temps (Temp t) l h = h
place_less n m temps (Slot s) l h = omega (arith, l, h)

places_less : (n m temps : ℕ) (places : List LocalPlace) → n ≤ m → AllByRecursion (IsPlace n temps) places → AllByRecursion (IsPlace m temps) places
places_less n m temps places l h = all_more (IsPlace n temps) (IsPlace m temps) places (λ p i. place_less n m temps p l i) h

-- the places of the locals lie in so many slots and temporaries
abbrev ArePlaces : List RecordValue → List LocalValue → ℕ → ℕ → List LocalPlace → Type 0
ArePlaces records locals slot temps places = AllByRecursion (IsPlace (slot + length (slots_of records locals places)) (temps_from temps places)) places

-- by whether a local is kept in a temporary, and whether it is a parameter
places-by :
    (kept param : Bool) (records : List RecordValue) (local : LocalValue) (locals : List LocalValue) (k temp temps slot : ℕ) (first next others : List LocalPlace)
    → (param ≡ true → k < temps) → temps ≤ temp
    → ArePlaces records locals slot temps first → ArePlaces records locals slot (temp + 1) next → ArePlaces records locals (slot + 1) temps others
    → ArePlaces records (local ∷ locals) slot temps (if kept then (if param then Temp k ∷ first else Temp temp ∷ next) else Slot slot ∷ others)
places-by true true records local locals k temp temps slot first next others p t f g h =
    let same = still_below k temps (p refl) in
    subst (λ (n : ℕ). AllByRecursion (IsPlace (slot + length (slots_of records locals first)) (temps_from n first)) (Temp k ∷ first)) (sym same) (omega (arith, p refl, temps_from-le temps first), f)
places-by true false records local locals k temp temps slot first next others p t f g h =
    let more = one_more temp temps t in
    subst (λ (n : ℕ). AllByRecursion (IsPlace (slot + length (slots_of records locals next)) (temps_from n next)) (Temp temp ∷ next)) (sym more) (omega (arith, temps_from-le (temp + 1) next), g)
places-by false param records local locals k temp temps slot first next others p t f g h =
    (omega arith, places_less (slot + 1 + length (slots_of records locals others)) (slot + suc (length (slots_of records locals others))) (temps_from temps others) others (omega arith) h)

places-in :
    (records : List RecordValue) (addressed : List ℕ) (params k temp slot temps : ℕ) (locals : List LocalValue)
    → params ≤ temps → temps ≤ temp → ArePlaces records locals slot temps (places_from addressed params k temp slot locals)
places-in records addressed params k temp slot temps [] p t = tt
places-in records addressed params k temp slot temps (local ∷ rest) p t =
    places-by (is_kept addressed k local) (nat_lt k params) records local rest k temp temps slot
    (places_from addressed params (k + 1) temp slot rest) (places_from addressed params (k + 1) (temp + 1) slot rest) (places_from addressed params (k + 1) temp (slot + 1) rest)
    (λ e. omega (arith, ltb-true k params e, p)) t
    (places-in records addressed params (k + 1) temp slot temps rest p t)
    (places-in records addressed params (k + 1) (temp + 1) slot (temp + 1) rest (omega (arith, p, t)) (omega arith))
    (places-in records addressed params (k + 1) temp (slot + 1) temps rest p t)

length-by : (kept param : Bool) (n : ℕ) (a b c : LocalPlace) (first next others : List LocalPlace) → length first ≡ n → length next ≡ n → length others ≡ n → length (if kept then (if param then a ∷ first else b ∷ next) else c ∷ others) ≡ suc n
length-by true true n a b c first next others f g h = omega (arith, f)
length-by true false n a b c first next others f g h = omega (arith, g)
length-by false param n a b c first next others f g h = omega (arith, h)

length-places : (addressed : List ℕ) (params k temp slot : ℕ) (locals : List LocalValue) → length (places_from addressed params k temp slot locals) ≡ length locals
length-places addressed params k temp slot [] = refl
length-places addressed params k temp slot (local ∷ rest) =
    length-by (is_kept addressed k local) (nat_lt k params) (length rest) (Temp k) (Temp temp) (Slot slot)
    (places_from addressed params (k + 1) temp slot rest) (places_from addressed params (k + 1) (temp + 1) slot rest) (places_from addressed params (k + 1) temp (slot + 1) rest)
    (length-places addressed params (k + 1) temp slot rest) (length-places addressed params (k + 1) (temp + 1) slot rest) (length-places addressed params (k + 1) temp (slot + 1) rest)

at_local : (P : LocalPlace → Type 0) (places : List LocalPlace) (locals : List LocalValue) (k : ℕ) (l : LocalValue) → length places ≡ length locals → AllByRecursion P places → slice_get locals k ≡ Some l → P (place_at places k)
at_local P places [] k l n h e = cc
at_local P [] (local ∷ locals) k l n h e = absurd (omega (arith, n))
at_local P (p ∷ places) (local ∷ locals) zero l n h e = h.0
at_local P (p ∷ places) (local ∷ locals) (suc k) l n h e = at_local P places locals k l (omega (arith, n)) h.1 e

-- ---- the start

parameters-in : (slots : ℕ) (locals : List LocalValue) (places : List LocalPlace) (k left : ℕ) (c : Code) (temps : ℕ) → Sound slots c → AllByRecursion (IsPlace slots temps) places → k + left ≤ c.temps → Goes slots c (parameters_stored locals places k left c)
parameters-in slots [] places k left c temps s h l = stays slots c s
parameters-in slots (local ∷ locals) [] k left c temps s h l = stays slots c s
parameters-in slots (local ∷ locals) (Slot q ∷ places) k zero c temps s h l = stays slots c s
parameters-in slots (local ∷ locals) (Temp t ∷ places) k zero c temps s h l = stays slots c s
parameters-in slots (local ∷ locals) (Slot q ∷ places) k (suc left) c temps s h l =
    let x = fresh (λ t. op.AddrSlot t q) c in
    let mx = adds-in slots 1 (λ t. op.AddrSlot t q) c s (omega arith) (tt, omega arith, (h.0, tt)) in
    let o = op.Store (scalar_kind (type_of local.ty)) (temp_of x) k in
    let g = goes_then mx.goes (emits-in slots o x.code mx.goes.sound ((omega (arith, mx.reach), (omega (arith, l, mx.goes.temps), tt)), tt, tt)) in
    goes_then g (parameters-in slots locals places (k + 1) left (emit o x.code) temps g.sound h.1 (omega (arith, l, g.temps)))
parameters-in slots (local ∷ locals) (Temp t ∷ places) k (suc left) c temps s h l = parameters-in slots locals places (k + 1) left c temps s h.1 (omega (arith, l))

zeros_below : (n count : ℕ) → 0 < n → AllByRecursion (λ (l : ℕ). l < n) (replicate count 0)
zeros_below n zero h = tt
zeros_below n (suc count) h = (h, zeros_below n count h)

closed_at_start-in : (temps slots blocks : ℕ) (named : List ℕ) → AllByRecursion (λ (b : Numbered). IsBlockInRange temps slots blocks b.block) (closed_at_start named)
closed_at_start-in temps slots blocks [] = tt
closed_at_start-in temps slots blocks (l ∷ rest) = (record { ops = tt; end = tt }, tt)

enough_blocks : (named : List ℕ) → 1 + length named ≤ blocks_at_start named
enough_blocks [] = omega arith
enough_blocks (l ∷ rest) = omega arith

start-in : (slots : ℕ) (f : FunctionValue) (temps : ℕ) → Sound slots (start_code f temps)
start-in slots f temps =
    let n = blocks_at_start f.named in
    let enough = enough_blocks f.named in
    record {
      closed = closed_at_start-in temps slots n f.named;
      ops = tt;
      labels = numbered_below n 1 f.named (replicate f.labels 0) enough (zeros_below n f.labels (omega (arith, enough)));
      some = omega (arith, enough);
    }

-- ---- functions

pub function-in : (home : List ℕ) (m : ModuleValue) (f : FunctionValue) → IsFunction m f → IsFunctionInRange (lowered_function home m.records f)
unfolding lowered_function
function-in home m f h =
    let places = places_of f in
    let slots = length (slots_of m.records f.locals places) in
    let temps = temps_from f.params places in
    let start = start_code f temps in
    let s0 = start-in slots f temps in
    let there = places-in m.records (addressed_in_statement f.body) f.params 0 f.params 0 f.params f.locals (omega arith) (omega arith) in
    let all : AllByRecursion (IsPlace slots temps) places = places_less (0 + slots) slots temps places (omega arith) there in
    let many = temps_from-le f.params places in
    let g1 = parameters-in slots f.locals places 0 f.params start temps s0 all (omega (arith, many)) in
    let fits : Fits (frame_of home m.records f).home f.locals slots temps = λ k l e. at_local (IsPlace slots temps) places f.locals k l (length-places (addressed_in_statement f.body) f.params 0 f.params 0 f.locals) all e in
    let ways : Ways = record { out = 0; on = 0 } in
    let objects = recursion_from_All (λ (l : LocalValue). IsObjectType m.records (type_of l.ty)) f.locals (λ k d l. (h.locals k d l).0) in
    let fr = frame_of home m.records f in
    let begun = entered f in
    let ready : Ready m f fr slots objects begun ways = record { sound = g1.sound; fits = fits_more fr.home f.locals slots temps begun.temps g1.temps fits; out = g1.sound.some; on = g1.sound.some } in
    let g2 = statement-in m f fr slots objects f.body ways false false f.params begun h.body ready in
    let body = lower_statement fr ways f.body begun in
    let g3 = cuts-in slots (Return None) 0 body.depth body g2.sound tt in
    let c = function_code home m.records f in
    let blocks = in_order (IsBlockInRange c.temps slots c.blocks) (record { ops = tt; end = tt }) c.closed c.blocks g3.sound.closed in
    record {
      params = omega (arith, many, g1.temps, g2.temps, g3.temps);
      start = omega (arith, length-below c.closed c.blocks, g3.sound.some);
      blocks = subst (λ (n : ℕ). AllByRecursion (IsBlockInRange c.temps slots n) (blocks_below c.closed c.blocks)) (sym (length-below c.closed c.blocks)) blocks;
    }
