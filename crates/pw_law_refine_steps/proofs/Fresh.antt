-- An operation that puts a value into a temporary that no local has: the states stay related.
use Rattle.std.proofs.Common.{◌≡◌, ◌≢◌, ℕ, zero, suc, ◌+◌, ◌<◌, ◌≤◌, Bool, true, false, true≢false, nat_lt, ltb-true, ltb-false, if◌then◌else◌, Option, Some, None, List, [], ◌∷◌, ◌++◌, length, slice_get, get_or, refl, ap, sym, ◌∙◌, subst, arith, append_assoc, length-set}
use Rattle.std.proofs.lemmas.List.{append_cancel_left, get_or-set_other}
use Rattle.std.proofs.lemmas.Option.{slice_get_within, unwrap_or-slice_get}
use Rattle.pw_value.specs.Objects.{object_at}
use Rattle.pw_value.specs.declared.value.Value.{Value}
use Rattle.pw_value.specs.declared.value.Value.TheVariants as V
use Rattle.pw_types.specs.TypeTrees.{type_of}
use Rattle.pw_types.specs.TypedTrees.{LocalValue}
use Rattle.pw_flow.specs.declared.flow.Op.{Op}
use Rattle.pw_flow.specs.declared.flow.Block.{Block}
use Rattle.pw_flow.specs.declared.flow.FlowFn.{FlowFn}
use Rattle.pw_lower.specs.declared.code.Code.{Code}
use Rattle.pw_lower.specs.declared.place.LocalPlace.{LocalPlace}
use Rattle.pw_lower.specs.declared.place.LocalPlace.TheVariants.{Temp, Slot}
use Rattle.pw_lower.specs.Places.{is_kept, places_from, places_of, temps_from, addressed_in_statement}
use Rattle.pw_cmean.specs.Acts.{State}
use Rattle.pw_cmean.specs.Access as source
use Rattle.pw_law_source.specs.FromRunLanguages.Commands.{command}
use Rattle.pw_law_source.specs.FromRunLanguages.FlowRun.{Machine, value_in, obeys, step}
use Rattle.pw_law_refine.specs.Standing.{Spot, Stands}
use Rattle.pw_law_refine.specs.Activations.{Activation, Numbers, graphs, place_in, local_temps}
use Rattle.pw_law_refine.specs.Matching.{StandsAt, Related}
use Rattle.pw_law_refine.specs.Containing.{BeginsWith, IsBehind}
use Rattle.pw_law_refine_steps.specs.Stretches.{moved_on, Next}

-- ---- the temporaries of locals are below their count

least_by : (b : Bool) (n t : ℕ) (rest : List LocalPlace) → nat_lt t n ≡ b → ((k : ℕ) → k ≤ temps_from k rest)
    → (n ≤ temps_from (if b then n else t + 1) rest) × (t < temps_from (if b then n else t + 1) rest)
least_by true n t rest e h = (h n, omega (arith, h n, ltb-true t n e))
least_by false n t rest e h = (omega (arith, h (t + 1), ltb-false t n e), omega (arith, h (t + 1)))

least : (places : List LocalPlace) (n : ℕ) → n ≤ temps_from n places
least [] n = omega arith
least (Temp t ∷ rest) n = (least_by (nat_lt t n) n t rest refl (least rest)).0
least (Slot s ∷ rest) n = least rest n

temp_at : LocalPlace → ℕ
temp_at (Temp t) = t
temp_at (Slot s) = 0

is_temp : LocalPlace → Bool
is_temp (Temp t) = true
is_temp (Slot s) = false

below : (places : List LocalPlace) (n k t : ℕ) → k < length places → get_or places k (Temp 0) ≡ Temp t → t < temps_from n places
unfolding temp_at is_temp
below [] n k t h e = absurd (omega (arith, h))
below (Temp i ∷ rest) n zero t h e =
    let same : i ≡ t = ap temp_at e in
    omega (arith, same, (least_by (nat_lt i n) n i rest refl (least rest)).1)
below (Slot s ∷ rest) n zero t h e = absurd (true≢false (sym (ap is_temp e)))
below (Temp i ∷ rest) n (suc k) t h e = below rest (if nat_lt i n then n else i + 1) k t (omega (arith, h)) e
below (Slot s ∷ rest) n (suc k) t h e = below rest n k t (omega (arith, h)) e

-- each local has a place
place_by : (kept param : Bool) (addressed : List ℕ) (params k temp slot : ℕ) (locals : List LocalValue)
    → ((k temp slot : ℕ) → length (places_from addressed params k temp slot locals) ≡ length locals)
    → length (if kept
    then (if param
    then Temp k ∷ places_from addressed params (k + 1) temp slot locals
    else Temp temp ∷ places_from addressed params (k + 1) (temp + 1) slot locals)
    else Slot slot ∷ places_from addressed params (k + 1) temp (slot + 1) locals) ≡ suc (length locals)
place_by true true addressed params k temp slot locals h = ap suc (h (k + 1) temp slot)
place_by true false addressed params k temp slot locals h = ap suc (h (k + 1) (temp + 1) slot)
place_by false param addressed params k temp slot locals h = ap suc (h (k + 1) temp (slot + 1))

all_placed : (addressed : List ℕ) (params : ℕ) (locals : List LocalValue) (k temp slot : ℕ) → length (places_from addressed params k temp slot locals) ≡ length locals
all_placed addressed params [] k temp slot = refl
all_placed addressed params (l ∷ rest) k temp slot =
    place_by (is_kept addressed k l) (nat_lt k params) addressed params k temp slot rest (all_placed addressed params rest)

pub temp_below : (x : Activation) (k t : ℕ) (l : LocalValue) → slice_get x.function.locals k ≡ Some l → place_in x k ≡ Temp t → t < local_temps x
temp_below x k t l there e =
    let f = x.function in
    let h : k < length (places_of f) =
    omega (arith, slice_get_within f.locals k l there, all_placed (addressed_in_statement f.body) f.params f.locals 0 f.params 0) in
    below (places_of f) f.params k t h (sym (unwrap_or-slice_get (places_of f) k (Temp 0)) ∙ e)

-- ---- the states stay related

local_kept :
    (x : Activation) (spots : List Spot) (s : State) (m : Machine) (rest : List Op) (t : ℕ) (v : Value) (l : LocalValue) (k o : ℕ) (p : LocalPlace)
    → slice_get x.function.locals k ≡ Some l → local_temps x ≤ t → place_in x k ≡ p
    → StandsAt x spots s m l o p → StandsAt x spots s (moved_on rest t v m) l o p
local_kept x spots s m rest t v l k o (Temp i) there h e st =
    let apart : i ≢ t = λ same. omega (arith, same, h, temp_below x k i l there e) in
    (st.0, subst (λ (w : Value). Stands spots (source.value_in (type_of l.ty) (object_at s.objects o).bytes) w) (sym (get_or-set_other m.frame.temps t i v V.Undefined apart)) st.1)
local_kept x spots s m rest t v l k o (Slot n) there h e st = st

pub related-put :
    (x : Activation) (numbers : Numbers) (spots : List Spot) (s : State) (m : Machine) (rest : List Op) (t : ℕ) (v : Value)
    → local_temps x ≤ t → Related x numbers spots s m → Related x numbers spots s (moved_on rest t v m)
related-put x numbers spots s m rest t v h r = record {
  matches = record {
    memory = r.matches.memory;
    globals = r.matches.globals;
    input = r.matches.input;
    shows = r.matches.shows;
    active = r.matches.active;
    bytes = r.matches.bytes;
    small = r.matches.small;
  };
  frame = record {
    function = r.frame.function;
    base = r.frame.base;
    result = r.frame.result;
    callers = r.frame.callers;
    temps = length-set m.frame.temps t v ∙ r.frame.temps;
    scope = r.frame.scope;
    locals = λ k o e. let l = r.frame.locals k o e in record {
      local = l.local;
      is = l.is;
      live = l.live;
      size = l.size;
      stands = local_kept x spots s m rest t v l.local k o (place_in x k) l.is h refl l.stands;
    };
    apart = r.frame.apart;
    slots = λ n g. let q = r.frame.slots n g in record { live = q.live; size = q.size };
    owned = r.frame.owned;
  };
}

-- ---- the next operation

ops_of : Option Block → List Op
ops_of None = []
ops_of (Some b) = b.ops

pub next : (g : FlowFn) (c : Code) (o : Op) (m : Machine) → BeginsWith g c.cur (c.ops ++ o ∷ []) → IsBehind g c m → Next g c o m
unfolding ops_of
next g c o m b at =
    let whole : b.block.ops ≡ c.ops ++ (o ∷ b.rest) = b.ops ∙ append_assoc c.ops (o ∷ []) b.rest in
    let one : at.block.ops ≡ b.block.ops = ap ops_of (sym at.there ∙ b.there) in
    let left : m.frame.ops ≡ o ∷ b.rest = append_cancel_left c.ops m.frame.ops (o ∷ b.rest) (sym at.ops ∙ one ∙ whole) in
    record {
      rest = b.rest;
      ops = left;
      behind = λ t v. record {
        block = at.block;
        there = at.there;
        here = at.here;
        ops = one ∙ b.ops;
        end = at.end;
      };
    }

-- the step of a machine whose next operation is this
pub steps-op : (x : Activation) (m : Machine) (o : Op) (rest : List Op) → m.frame.ops ≡ o ∷ rest
    → step (graphs x.world) m ≡ obeys (graphs x.world) (command (graphs x.world) m.frame.base o (value_in m.frame)) (record m { frame = record m.frame { ops = rest } })
unfolding step
steps-op x m o rest e = ap (λ (ops : List Op). step (graphs x.world) (record m { frame = record m.frame { ops = ops } })) e
