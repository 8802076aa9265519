-- Calls of the program's functions, and returns from them.
use Rattle.std.specs.Prelude.{ℕ, suc, ◌≡◌, ◌+◌, ◌%◌, ◌^◌, ◌≤◌, ◌==◌, ◌&&◌, Bool, true, false, if◌then◌else◌, Option, Some, None, List, [], ◌∷◌, ◌++◌, map, find, Contains, length, ◌*◌}
use Rattle.std.specs.List.{AllByRecursion, flat_map}
use Rattle.std.specs.Str.{bytes_eq}
use Rattle.std.proofs.Common.{arith, subst, sym, ap, refl, ◌∙◌, inl, inr}
use Rattle.std.proofs.lemmas.Bool.{and_parts, eqb-true}
use Rattle.pw_inst.specs.declared.Inst.TheVariants.{Bv}
use Rattle.pw_delay.specs.declared.items.Word.{Word}
use Rattle.pw_delay.specs.declared.items.Turn.TheVariants.{Leave}
use Rattle.pw_delay.specs.declared.items.Item.{Item}
use Rattle.pw_delay.specs.declared.items.Item.TheVariants.{Turns}
use Rattle.pw_alloc.specs.declared.located.Located.{Located}
use Rattle.pw_run_languages.specs.Traces.{Standing, Event, Called, Returned}
use Rattle.pw_run_languages.specs.Acts as lines
use Rattle.pw_run_languages.specs.Acts.{settled, symbol_address}
use Rattle.pw_run_languages.specs.Standing.{globals_now}
use Rattle.pw_run_languages.specs.LineRun.{LineFn, Frame, Machine, On, Astray, name_of, active, kept, left_behind, globals_in, return_address, enters, returns, through_slot, IsCalling}
use Rattle.pw_run_languages.specs.MachineRun.{Map, Call, Noted, active_as, function_at}
use Rattle.pw_law_link_run.specs.Steps.{Setting, map_in, At, Arrives, is_back, globals_by, with_call, with_return, with_accesses, AreInData}
use Rattle.pw_law_link_run.specs.Placing.{name_in, own_address, IsLeft}
use Rattle.pw_law_link_run.specs.Simulating.{call_from, calls_behind, calls_from, noted_by, IsLinked, IsCaller, Simulates, IsCalm, IsCalmPast, leaving}
use Rattle.pw_law_link_run.specs.Slots.{SlotDoes, behind_slot}
use Rattle.pw_law_link_run.proofs.Noting.{enters_at, returns_at}
use Rattle.pw_law_link_run.proofs.Stepping.{starts_at}
use Rattle.pw_law_link_run.proofs.Placed.{left_stands, all_left, more, joined}
use Rattle.pw_law_link_run.proofs.Turning.{IsTurn, text_small, return_turn, filled_return}
use Rattle.pw_law_link_run.proofs.Items.{left_fit, here_in_text, later_in_text, on_same, turn_at, inside_at}
use Rattle.pw_law_link_run.proofs.Slots.{slot_by, slot_runs}
use Rattle.std.proofs.lemmas.List.{append_assoc}
use Rattle.pw_delay.specs.Placement.{size}

-- ---- callers

-- what is left of a caller stands at the address to which its call returns
pub caller_left : (x : Setting) (f : Frame) → IsCaller x f → IsLeft x f.function f.left (return_address x.addresses f f.left)
caller_left x f c = record {
  before = c.before ++ c.call ∷ [];
  items = c.parts ∙ sym (append_assoc c.before (c.call ∷ []) f.left);
  at = c.at;
}

-- a function that calls is a caller behind its call
pub called_from : (x : Setting) (m : Machine) (item : Item) (rest : List Item) → Contains x.program.functions m.frame.function → (a : ℕ)
    → IsLeft x m.frame.function (item ∷ rest) a → IsCalling item
    → return_address x.addresses m.frame rest ≡ a + 4 * size (x.long (name_in m.frame.function)) item → IsCaller x (left_behind rest m).frame
called_from x m item rest there a h calling back =
    let long = x.long (name_in m.frame.function) in
    record {
      there = there;
      before = h.before;
      call = item;
      parts = h.items;
      calling = calling;
      at = omega (arith, back, h.at, joined long h.before (item ∷ []), more long item []);
    }

-- ---- the globals by the frames

pub found_as : (m : Map) (call : Call) (f : Located) → find (λ g. bytes_eq g.body.name call.function) m.functions ≡ Some f
    → active_as m call ≡ record { function = f; stack = call.stack; before = call.before } ∷ []
found_as m call f e = rw e refl

behind_active : (x : Setting) → IsLinked x → (callers : List Frame) → AllByRecursion (IsCaller x) callers
    → flat_map (active_as (map_in x)) (calls_behind x callers) ≡ map active callers
behind_active x l [] h = refl
behind_active x l (caller ∷ callers) h =
    ap (λ r. r ++ flat_map (active_as (map_in x)) (calls_behind x callers))
    (found_as (map_in x) (call_from x caller callers) caller.function.located (l.found caller.function h.0.there))
    ∙ ap (λ r. active caller ∷ r) (behind_active x l callers h.1)

pub globals_are : (x : Setting) → IsLinked x → (c : lines.Core) (f : Frame) (callers : List Frame) → Contains x.program.functions f.function
    → AllByRecursion (IsCaller x) callers → globals_by x c (calls_from x f callers) ≡ globals_in x.program x.addresses c (f ∷ callers)
globals_are x l c f callers there h =
    ap (λ r. globals_now x.program.flow x.addresses.named c.memory c.registers r)
    (ap (λ r. r ++ flat_map (active_as (map_in x)) (calls_behind x callers))
    (found_as (map_in x) (call_from x f callers) f.function.located (l.found f.function there))
    ∙ ap (λ r. active f ∷ r) (behind_active x l callers h))

-- ---- a function is entered

with_call_is : (x : Setting) → IsLinked x → (g : LineFn) (m : Machine) → Contains x.program.functions m.frame.function → AllByRecursion (IsCaller x) m.callers
    → lines.register m.core 2 ≡ return_address x.addresses m.frame m.frame.left
    → with_call x m.core (name_in g) (noted_by x m) ≡ noted_by x (enters x.program x.addresses g m)
with_call_is x l g m there callers link =
    ap (λ (v : ℕ). record {
      calls = record { function = name_in g; link = v; stack = lines.register m.core 30; before = kept m.core } ∷ calls_from x m.frame m.callers;
      log = Called (name_in g) (globals_by x m.core (calls_from x m.frame m.callers)) (kept m.core) ∷ m.trace;
    }) link
    ∙ ap (λ (gs : List (Standing ℕ ℕ)). record {
      calls = record { function = name_in g; link = return_address x.addresses m.frame m.frame.left; stack = lines.register m.core 30; before = kept m.core } ∷ calls_from x m.frame m.callers;
      log = Called (name_in g) gs (kept m.core) ∷ m.trace;
    }) (globals_are x l m.core m.frame m.callers there callers)

-- No call returns where the function begins.
pub enters_simulates : (x : Setting) → IsLinked x → (k : ℕ) (g : LineFn) (m : Machine) → Contains x.program.functions g → IsCaller x m.frame
    → AllByRecursion (IsCaller x) m.callers → lines.register m.core 2 ≡ return_address x.addresses m.frame m.frame.left
    → Arrives x k m.core (own_address x g) ((own_address x g + 4) % 2 ^ 32) m.rest m.out (noted_by x m) → m.events + 1 ≤ k → m.read + length m.rest ≡ length x.start.rest → m.core.skip ≡ false
    → AllByRecursion (λ call. is_back m.core (own_address x g) call ≡ false) (calls_from x m.frame m.callers) → AreInData x (calls_from x m.frame m.callers)
    → Simulates x (enters x.program x.addresses g m) k
enters_simulates x l k g m there caller callers link h count read run none are =
    let own = own_address x g in
    let back : (own + 4) % 2 ^ 32 ≡ own + 4 = omega (arith, text_small x own l.few (here_in_text x l g there g.items own (all_left x g))) in
    let at = enters_at x k m.core own ((own + 4) % 2 ^ 32) m.rest m.out (noted_by x m) (name_in g) h
    (starts_at x k m.core own ((own + 4) % 2 ^ 32) m.rest m.out (noted_by x m) l.setting h) none run (l.entries g there) are in
    record {
      address = own;
      at = subst (λ n. At x k m.core own (own + 4) m.rest m.out n) (with_call_is x l g m caller.there callers link)
          (subst (λ b. At x k m.core own b m.rest m.out (with_call x m.core (name_in g) (noted_by x m))) back at);
      there = there;
      left = all_left x g;
      callers = (caller, callers);
      events = count;
      read = read;
    }

-- ---- a function returns

abbrev pub after_return : Setting → Machine → Frame → List Frame → Machine
after_return x m caller callers = record m {
  frame = caller;
  callers = callers;
  trace = Returned (name_of m.frame) 0 (globals_in x.program x.addresses m.core (caller ∷ callers)) m.frame.before (kept m.core) ∷ m.trace;
}

returned_if : (x : Setting) (m t : Machine) (caller : Frame) (callers : List Frame) (b : Bool)
    → (if b then On (after_return x m caller callers) else Astray) ≡ On t → (b ≡ true) × (t ≡ after_return x m caller callers)
returned_if x m t caller callers true e = (refl, on_same (after_return x m caller callers) t e)
returned_if x m t caller callers false e = absurd cc

pub calm_there : (x : Setting) (t : Machine) (a : ℕ) → IsCalm x t → t.core.skip ≡ false → IsLeft x t.frame.function t.frame.left a
    → AllByRecursion (λ call. is_back t.core a call ≡ false) (calls_from x t.frame t.callers) × (function_at (map_in x) a ≡ None)
calm_there x t a calm run left =
    let q = calm a left in
    (q.returns, elim q.enters [ inl skip ↦ absurd (let e : true ≡ false = sym skip ∙ run in cc) | inr none ↦ none ])

-- Where the machine arrives at the return address with a core that the lines have, behind what stood in the slot.
returned_to : (x : Setting) → IsLinked x → (k : ℕ) (s t : Machine) (caller : Frame) (callers : List Frame) (to : ℕ)
    → IsCaller x caller → AllByRecursion (IsCaller x) callers → s.core.skip ≡ false
    → (if (to == return_address x.addresses caller caller.left) && (lines.register s.core 30 == s.frame.stack) then On (after_return x s caller callers) else Astray) ≡ On t
    → Arrives x (suc (suc k)) s.core to ((to + 4) % 2 ^ 32) s.rest s.out (record { calls = call_from x s.frame (caller ∷ callers) ∷ calls_from x caller callers; log = s.trace })
    → IsCalm x t → AreInData x (calls_from x caller callers) → s.events ≤ k → s.read + length s.rest ≡ length x.start.rest → Simulates x t (suc (suc k))
returned_to x l k s t caller callers to one more run e arrives calm are events read =
    let c = s.core in
    let link = return_address x.addresses caller caller.left in
    let is = returned_if x s t caller callers ((to == link) && (lines.register c 30 == s.frame.stack)) e in
    let parts = and_parts (to == link) (lines.register c 30 == s.frame.stack) is.0 in
    let goal : to ≡ link = eqb-true to link parts.0 in
    let call = call_from x s.frame (caller ∷ callers) in
    let n : Noted = record { calls = call ∷ calls_from x caller callers; log = s.trace } in
    let left = caller_left x caller one in
    let text = here_in_text x l caller.function one.there caller.left link left in
    let there = subst (λ b. Arrives x (suc (suc k)) c to b s.rest s.out n)
    (let v : (to + 4) % 2 ^ 32 ≡ link + 4 = omega (arith, goal, text_small x link l.few text) in v) arrives in
    let at_link = subst (λ v. Arrives x (suc (suc k)) c v (link + 4) s.rest s.out n) goal there in
    let quiet = calm_there x (after_return x s caller callers) link (subst (λ (t : Machine). IsCalm x t) is.1 calm) run left in
    let back : is_back c link call ≡ true = ap (λ v. (v == link) && (lines.register c 30 == s.frame.stack)) (sym goal) ∙ is.0 in
    let at = returns_at x (suc (suc k)) c link (link + 4) s.rest s.out call (calls_from x caller callers) s.trace at_link
    (starts_at x (suc (suc k)) c link (link + 4) s.rest s.out n l.setting at_link) back quiet.0 quiet.1 are in
    let noted : with_return x c call (calls_from x caller callers) s.trace ≡ noted_by x (after_return x s caller callers) =
    ap (λ gs. record { calls = calls_from x caller callers; log = Returned (name_of s.frame) 0 gs s.frame.before (kept c) ∷ s.trace })
    (globals_are x l c caller callers one.there more) in
    subst (λ (t : Machine). Simulates x t (suc (suc k))) (sym is.1) (record {
      address = link;
      at = subst (λ n. At x (suc (suc k)) c link (link + 4) s.rest s.out n) noted at;
      there = one.there;
      left = left;
      callers = more;
      events = omega (arith, events);
      read = read;
    })

-- the machine behind the return and its slot
return_arrives : (x : Setting) → IsLinked x → (k : ℕ) (slot : Option Word) (m : Machine) (rest : List Item) (d : lines.Core) (es : List (Event ℕ ℕ))
    → Simulates x (left_behind (Turns Leave slot ∷ rest) m) k → m.core.skip ≡ false → SlotDoes x slot m.core d es
    → IsCalmPast x (left_behind (Turns Leave slot ∷ rest) m) slot
    → Arrives x (suc (suc k)) d (lines.register m.core 2) ((lines.register m.core 2 + 4) % 2 ^ 32) m.rest m.out (with_accesses es (noted_by x m))
return_arrives x l k None m rest d es h run does past =
    let f = m.frame.function in
    let c = m.core in
    let a = h.address in
    let item = Turns Leave None in
    let stands = left_stands x f (l.stands f h.there) (item ∷ rest) a h.left in
    let turn : IsTurn x a (Bv 2 true) = record {
      here = here_in_text x l f h.there (item ∷ rest) a h.left;
      slot = later_in_text x l f h.there item rest a 1 (a + 4) h.left (omega arith) (omega arith);
      is = stands.0;
    } in
    let arrives = return_turn x k c a 2 m.rest m.out (noted_by x m) l.setting h.at turn run (record { returns = past a h.left; enters = inl refl }) in
    let same : record c { skip = false } ≡ c = ap (λ b. record c { skip = b }) (sym run) in
    subst (λ es. Arrives x (suc (suc k)) d (lines.register c 2) ((lines.register c 2 + 4) % 2 ^ 32) m.rest m.out (with_accesses es (noted_by x m))) (sym does.1)
    (subst (λ e. Arrives x (suc (suc k)) e (lines.register c 2) ((lines.register c 2 + 4) % 2 ^ 32) m.rest m.out (noted_by x m)) (same ∙ sym does.0) arrives)
return_arrives x l k (Some word) m rest d es h run does past =
    let f = m.frame.function in
    let a = h.address in
    let item = Turns Leave (Some word) in
    let stands = left_stands x f (l.stands f h.there) (item ∷ rest) a h.left in
    let fit = (left_fit x l f h.there (item ∷ rest) a h.left).0 in
    let turn = turn_at x l f h.there item rest a (Bv 2 false) h.left (omega arith) stands.0.0 in
    filled_return x k m.core d a 2 m.rest m.out (noted_by x m) word es l.setting h.at turn stands.0.1 fit run
    (inside_at x m (item ∷ rest) 2 a 1 (a + 4) past h.left (omega arith) (omega arith) (omega arith)) does

-- behind the slot
pub return_acted : (x : Setting) → IsLinked x → (k : ℕ) (slot : Option Word) (m t : Machine) (rest : List Item) (caller : Frame) (callers : List Frame) (d : lines.Core) (es : List (Event ℕ ℕ))
    → Simulates x (leaving m slot rest caller callers) k → m.core.skip ≡ false → SlotDoes x slot m.core d es
    → returns x.program x.addresses (lines.register m.core 2) (behind_slot d es (left_behind rest (leaving m slot rest caller callers))) ≡ On t
    → IsCalmPast x (leaving m slot rest caller callers) slot → IsCalm x t → AreInData x (calls_from x caller callers) → Simulates x t (suc (suc k))
return_acted x l k slot m t rest caller callers d es h run does e past calm are =
    let s = record m { callers = caller ∷ callers } in
    let fit = (left_fit x l m.frame.function h.there (Turns Leave slot ∷ rest) h.address h.left).0 in
    returned_to x l k (behind_slot d es (left_behind rest s)) t caller callers (lines.register m.core 2) h.callers.0 h.callers.1
    (slot_runs x slot m.core d es fit run does) e (return_arrives x l k slot s rest d es h run does past) calm are h.events h.read

pub return_simulates : (x : Setting) → IsLinked x → (k : ℕ) (slot : Option Word) (m t : Machine) (rest : List Item) (caller : Frame) (callers : List Frame)
    → Simulates x (leaving m slot rest caller callers) k → m.core.skip ≡ false
    → through_slot x.program x.addresses slot (returns x.program x.addresses (lines.register m.core 2)) (left_behind rest (leaving m slot rest caller callers)) ≡ On t
    → IsCalmPast x (leaving m slot rest caller callers) slot → IsCalm x t → AreInData x (calls_from x caller callers) → Simulates x t (suc (suc k))
return_simulates x l k slot m t rest caller callers h run e past calm are =
    slot_by x slot (left_behind rest (leaving m slot rest caller callers)) (returns x.program x.addresses (lines.register m.core 2)) (λ s. s ≡ On t → Simulates x t (suc (suc k)))
    (λ word w full e. absurd cc) (λ e. absurd cc)
    (λ d es does e. return_acted x l k slot m t rest caller callers d es h run does e past calm are) e
