-- A walk, function by function, beside what is held.
use Rattle.std.proofs.Common.{◌≡◌, ℕ, zero, suc, ◌+◌, ◌-◌, ◌*◌, ◌%◌, ◌<◌, ◌≤◌, ◌==◌, Bool, true, false, cond, List, [], ◌∷◌, length, map, get_or, set, Option, Some, None, Result, Ok, Err, refl, sym, ap, subst, ◌∙◌, inl, inr, arith, add-one}
use Rattle.std.specs.Prelude.{ℤ, pos, negsuc, ◌+ℤ◌, ◌&&◌, nat_le, bytes_eq, option_and_then, slice_index, slice_set, IfSome}
use Rattle.std.specs.List.{AllByRecursion, range_with_len}
use Rattle.std.proofs.lemmas.Bool.{cases_eq, eq-eqb, ne_eqb, le-leb, le-ltb}
use Rattle.std.proofs.lemmas.List.{get_or-set_same, get_or-set_other, length-set, length-map}
use Rattle.std.proofs.lemmas.List.FromFn.{get_or-map-range_with_len}
use Rattle.pw_value.specs.Limits.{memory_size}
use Rattle.pw_value.specs.ProgramNames.{start_name}
use Rattle.pw_value.specs.Rounding.{slot_room}
use Rattle.pw_value.specs.declared.value.Kind.{Kind}
use Rattle.pw_db.specs.Limits.{first_register, last_register}
use Rattle.pw_db.specs.Database.{IsWeb}
use Rattle.pw_db.specs.declared.database.Web.{Web}
use Rattle.pw_db.specs.declared.database.Role.{Role}
use Rattle.pw_webflow.specs.Direction.{register_of}
use Rattle.pw_alloc.specs.Allocation.{in_frame}
use Rattle.pw_alloc.specs.Frames.{below, head_size, last_reach, link_place, saved_offset, slots_begin}
use Rattle.pw_alloc.specs.ValidPlaces.{IsLocated}
use Rattle.pw_alloc.specs.declared.located.Located.{Located}
use Rattle.pw_alloc.proofs.FrameLaws.{last_reach_above}
use Rattle.pw_image.specs.declared.image.Function.{Function}
use Rattle.pw_image.specs.declared.image.GlobalObject.{GlobalObject}
use Rattle.pw_machine.specs.Core.{Core, byte_at, register, word_at}
use Rattle.pw_run_languages.specs.Acts.{number_at, put}
use Rattle.pw_run_languages.specs.Standing as standing
use Rattle.pw_run_languages.specs.Standing.{Active, held, without}
use Rattle.pw_debug.specs.declared.info.FrameInfo.{FrameInfo}
use Rattle.pw_debug.specs.declared.turning.At.{At}
use Rattle.pw_debug.specs.declared.turning.Finding.{Finding}
use Rattle.pw_debug.specs.declared.turning.Finding.TheVariants.{Found, Nothing, On}
use Rattle.pw_debug.specs.Knowing.{IsKept}
use Rattle.pw_debug.specs.Walk.{Seen, WalksTo, behind as call_behind, found_at, goes_on, given_back, in_memory, lost_at, of_kind, on_or_nothing, found_or_nothing, outward, registers_of, seen, start_of, turn, turn_at, turn_by_web, word_in}
use Rattle.pw_debug.specs.Holding.{frame_at}
use Rattle.pw_debug.proofs.Finding.{lawful_register}
use Rattle.pw_debug_frames.specs.Frames.{frame_info, places_from, save_places}
use Rattle.pw_law_walk.specs.Chains.{Callers, Chain, StandsInMemory, called, calls, found, outermost, starts}

-- ---- words

some_if : (b : Bool) (x w : ℕ) → cond b (Some x) None ≡ Some w → w ≡ x
some_if true x w e = cc
some_if false x w e = absurd cc

down : (sp n : ℕ) → n ≤ sp → pos sp +ℤ below n ≡ pos (sp - n)
down sp zero le = ap pos (omega arith)
down sp (suc m) le = ap (λ (b : Bool). cond b (negsuc (suc m - suc sp)) (pos (sp - suc m))) (le-ltb sp (suc m) le)

-- the word so far below an address
pub beside : (memory : List ℕ) (sp n w : ℕ) → n ≤ sp → word_in memory (pos sp +ℤ below n) ≡ Some w → w ≡ word_at memory (sp - n)
beside memory sp n w le e =
    let at = down sp n le in
    some_if (((sp - n) % 4 == 0) && nat_le (sp - n + 4) memory_size) (word_at memory (sp - n)) w (subst (λ (z : ℤ). word_in memory z ≡ Some w) at e)

pub number_word : (memory : List ℕ) (a : ℕ) → number_at 4 (byte_at memory) a ≡ word_at memory a
number_word memory a =
    let third : byte_at memory (a + 1 + 1) ≡ byte_at memory (a + 2) = ap (λ k. byte_at memory k) (let e : a + 1 + 1 ≡ a + 2 = omega arith in e) in
    let fourth : byte_at memory (a + 1 + 1 + 1) ≡ byte_at memory (a + 2 + 1) = ap (λ k. byte_at memory k) (let e : a + 1 + 1 + 1 ≡ a + 2 + 1 = omega arith in e) in
    omega (arith, third, fourth)

-- ---- registers

pub record Alike (registers : List ℕ) (f : ℕ → ℕ) : Type 0 where
  pub long : length registers ≡ 32
  pub each : (r : ℕ) → r < 32 → slice_index registers r ≡ f r

set_alike : (registers : List ℕ) (f : ℕ → ℕ) (r w v : ℕ) → Alike registers f → r < 32 → w ≡ v → Alike (set registers r w) (put r v f)
set_alike registers f r w v alike low same = record {
  long = length-set registers r w ∙ alike.long;
  each = λ q lt. elim (cases_eq q r) [
    | inl here ↦
        let within : r < length registers = omega (arith, low, alike.long) in
        let is : get_or (set registers r w) q 0 ≡ w = ap (λ (k : ℕ). get_or (set registers r w) k 0) here ∙ get_or-set_same registers r w 0 within in
        rw (eq-eqb q r here) (is ∙ same)
    | inr apart ↦ rw (ne_eqb q r apart) (get_or-set_other registers r q w 0 apart ∙ alike.each q lt)
  ];
}

abbrev pub gives : List ℕ → ℕ → ℕ → ℕ → List ℕ → List ℕ → Option (List ℕ)
gives memory sp head i rs registers = given_back memory sp (places_from head i rs) registers

step_back : (memory : List ℕ) (sp head i r : ℕ) (rs registers registers' : List ℕ) (f g : ℕ → ℕ) (v : ℕ) (o : Option ℕ)
    → Alike registers f → r < 32 → word_in memory (pos sp +ℤ saved_offset head i) ≡ o → ((w : ℕ) → word_in memory (pos sp +ℤ saved_offset head i) ≡ Some w → w ≡ v)
    → option_and_then (λ word. gives memory sp head (i + 1) rs (slice_set registers r word)) o ≡ Some registers'
    → ((w : ℕ) → Alike (set registers r w) (put r v f) → gives memory sp head (suc i) rs (set registers r w) ≡ Some registers' → Alike registers' g)
    → Alike registers' g
step_back memory sp head i r rs registers registers' f g v None alike low there is e next = absurd cc
step_back memory sp head i r rs registers registers' f g v (Some w) alike low there is e next =
    next w (set_alike registers f r w v alike low (is w there)) (ap (λ (n : ℕ). gives memory sp head n rs (set registers r w)) (sym (add-one i)) ∙ e)

-- the registers that a function saved, as its walk and as the run of the machine gives them back
given_alike : (memory : List ℕ) (sp head i : ℕ) (rs registers registers' : List ℕ) (f : ℕ → ℕ) → Alike registers f
    → AllByRecursion (λ r. (first_register ≤ r) × (r ≤ last_register)) rs → head + 4 * (i + length rs) ≤ sp
    → gives memory sp head i rs registers ≡ Some registers' → Alike registers' (standing.given_back (byte_at memory) (sp - head) i rs f)
given_alike memory sp head i [] registers registers' f alike kept room e =
    let same : registers ≡ registers' = cc in
    subst (λ (xs : List ℕ). Alike xs f) same alike
given_alike memory sp head i (r ∷ rs) registers registers' f alike kept room e =
    let v = number_at 4 (byte_at memory) (sp - head - 4 * (i + 1)) in
    let more : length (r ∷ rs) ≡ suc (length rs) = refl in
    let low : r < 32 = omega (arith, kept.0.1) in
    let deep : head + 4 * (i + 1) ≤ sp = omega (arith, room) in
    let room' : head + 4 * (suc i + length rs) ≤ sp = omega (arith, room) in
    let at : sp - (head + 4 * (i + 1)) ≡ sp - head - 4 * (i + 1) = omega arith in
    step_back memory sp head i r rs registers registers' f (standing.given_back (byte_at memory) (sp - head) (suc i) rs (put r v f)) v (word_in memory (pos sp +ℤ saved_offset head i)) alike low refl
    (λ w there. beside memory sp (head + 4 * (i + 1)) w deep there ∙ ap (λ k. word_at memory k) at ∙ sym (number_word memory (sp - head - 4 * (i + 1))))
    e
    (λ w alike' e'. given_alike memory sp head (suc i) rs (set registers r w) registers' (put r v f) alike' kept.1 room' e')

frame_holds : (l : Located) → IsLocated l → head_size l.body + 4 * length l.saved ≤ l.frame
frame_holds l h =
    let reach = last_reach_above (slots_begin (head_size l.body) (length l.saved) (in_frame l.places)) l.body.slots in
    omega (arith, reach, h.frame)

given_by : (memory : List ℕ) (sp : ℕ) (a : Active) (registers registers' : List ℕ) (f : ℕ → ℕ) → Alike registers f → IsLocated a.function → sp ≡ a.stack + a.function.frame
    → given_back memory sp (save_places a.function) registers ≡ Some registers' → Alike registers' (without a (byte_at memory) f)
given_by memory sp a registers registers' f alike lawful end e =
    let head = head_size a.function.body in
    let holds = frame_holds a.function lawful in
    let room : head + 4 * (0 + length a.function.saved) ≤ sp = omega (arith, holds, end) in
    subst (λ (n : ℕ). Alike registers' (standing.given_back (byte_at memory) (n - head) 0 a.function.saved f)) end
    (given_alike memory sp head 0 a.function.saved registers registers' f alike lawful.saved.kept room e)

-- ---- a turn

web_kept : (webs : List (Web × Role)) → AllByRecursion IsWeb (map (λ w. w.0) webs) → AllByRecursion (λ w. IsKept w.0.reg) webs
web_kept [] all = tt
web_kept (w ∷ ws) all = ((all.0.low, all.0.high), web_kept ws all.1)

low_register : (a : Active) (g : List ℕ) (r : ℕ) → IsLocated a.function → register_of a.function.body.directives.webs g ≡ Some r → r < 32
low_register a g r lawful e =
    let kept = subst (λ (o : Option ℕ). IfSome o IsKept) e (lawful_register IsKept a.function.body.directives.webs g (web_kept a.function.body.directives.webs lawful.body.directives.each)) in
    omega (arith, kept.1)

outward_by : (memory : List ℕ) (i : FrameInfo) (at : At) (stack : ℕ) (registers : List ℕ) (link : ℕ) → nat_le i.frame at.stack ≡ true → at.stack - i.frame ≡ stack
    → given_back memory at.stack i.saved at.registers ≡ Some registers → word_in memory (pos stack +ℤ below link_place) ≡ Some link
    → outward memory i at ≡ Some (record { stack = stack; link = link; registers = registers })
outward_by memory i at stack registers link le minus given there = rw (le, given, minus, there) refl

-- the function that called has a web of the global
by_web : (s : Seen) (at : At) (i : FrameInfo) (r : ℕ) → frame_at s.functions s.frames at.link ≡ Some i → register_of i.webs s.global ≡ Some r → turn s at ≡ Found (of_kind s.kind (slice_index at.registers r))
by_web s at i r known web = ap (turn_at s at) known ∙ ap (turn_by_web s at i) web

-- it is `$start`, and has none
by_start : (s : Seen) (at : At) (i : FrameInfo) (v : ℕ) → frame_at s.functions s.frames at.link ≡ Some i → register_of i.webs s.global ≡ None → bytes_eq i.function start_name ≡ true → in_memory s.memory s.kind s.address ≡ Some v → turn s at ≡ Found v
by_start s at i v known web is there = ap (turn_at s at) known ∙ ap (turn_by_web s at i) web ∙ rw is (ap found_or_nothing there)

-- it is another, and has none
by_frame : (s : Seen) (at next : At) (i : FrameInfo) → frame_at s.functions s.frames at.link ≡ Some i → register_of i.webs s.global ≡ None → bytes_eq i.function start_name ≡ false → outward s.memory i at ≡ Some next → turn s at ≡ On next
by_frame s at next i known web other out = ap (turn_at s at) known ∙ ap (turn_by_web s at i) web ∙ rw other (ap on_or_nothing out)

-- ---- walks

abbrev pub Finds : Seen → At → List Active → (ℕ → ℕ) → ℕ → Type 0
Finds s at active f v = WalksTo s at (Ok (found s.kind v (held s.global (byte_at s.memory) f active)))

in_web : (s : Seen) (at : At) (a : Active) (callers : List Active) (f : ℕ → ℕ) (v r : ℕ) → Alike at.registers f → IsLocated a.function → frame_at s.functions s.frames at.link ≡ Some (frame_info a.function)
    → register_of a.function.body.directives.webs s.global ≡ Some r → Finds s at (a ∷ callers) f v
in_web s at a callers f v r alike lawful known web =
    let same : slice_index at.registers r ≡ f r = alike.each r (low_register a s.global r lawful web) in
    let value : of_kind s.kind (slice_index at.registers r) ≡ found s.kind v (held s.global (byte_at s.memory) f (a ∷ callers)) = rw web (ap (of_kind s.kind) same) in
    subst (λ (n : ℕ). WalksTo s at (Ok n)) value (found_at at (of_kind s.kind (slice_index at.registers r)) (by_web s at (frame_info a.function) r known web))

in_start : (s : Seen) (at : At) (a : Active) (f : ℕ → ℕ) (v : ℕ) (o : Option ℕ) → register_of a.function.body.directives.webs s.global ≡ o → Alike at.registers f → IsLocated a.function
    → frame_at s.functions s.frames at.link ≡ Some (frame_info a.function) → bytes_eq a.function.body.name start_name ≡ true → in_memory s.memory s.kind s.address ≡ Some v → Finds s at (a ∷ []) f v
in_start s at a f v (Some r) web alike lawful known is there = in_web s at a [] f v r alike lawful known web
in_start s at a f v None web alike lawful known is there =
    let value : v ≡ found s.kind v (held s.global (byte_at s.memory) f (a ∷ [])) = rw web refl in
    subst (λ (n : ℕ). WalksTo s at (Ok n)) value (found_at at v (by_start s at (frame_info a.function) v known web is there))

in_frame_behind : (s : Seen) (at next : At) (a : Active) (callers : List Active) (f : ℕ → ℕ) (v : ℕ) (o : Option ℕ) → register_of a.function.body.directives.webs s.global ≡ o → Alike at.registers f → IsLocated a.function
    → frame_at s.functions s.frames at.link ≡ Some (frame_info a.function) → bytes_eq a.function.body.name start_name ≡ false → outward s.memory (frame_info a.function) at ≡ Some next
    → Finds s next callers (without a (byte_at s.memory) f) v → Finds s at (a ∷ callers) f v
in_frame_behind s at next a callers f v (Some r) web alike lawful known other out walk = in_web s at a callers f v r alike lawful known web
in_frame_behind s at next a callers f v None web alike lawful known other out walk =
    let value : found s.kind v (held s.global (byte_at s.memory) (without a (byte_at s.memory) f) callers) ≡ found s.kind v (held s.global (byte_at s.memory) f (a ∷ callers)) = rw web refl in
    subst (λ (n : ℕ). WalksTo s at (Ok n)) value
    (goes_on at next (Ok (found s.kind v (held s.global (byte_at s.memory) (without a (byte_at s.memory) f) callers))) (by_frame s at next (frame_info a.function) known web other out) walk)

finds : (s : Seen) (at : At) (active : List Active) (f : ℕ → ℕ) (v : ℕ) → in_memory s.memory s.kind s.address ≡ Some v → Alike at.registers f → Chain s at active → Finds s at active f v
finds s at active f v there alike (starts here a lawful known is) = in_start s here a f v (register_of a.function.body.directives.webs s.global) refl alike lawful known is there
finds s at active f v there alike (calls here a callers registers link lawful known other end given linked behind) =
    let next : At = record { stack = a.stack; link = link; registers = registers } in
    let enough : nat_le a.function.frame here.stack ≡ true = le-leb a.function.frame here.stack (omega (arith, end)) in
    let minus : here.stack - a.function.frame ≡ a.stack = omega (arith, end) in
    let out = outward_by s.memory (frame_info a.function) here a.stack registers link enough minus given linked in
    let alike' = given_by s.memory here.stack a here.registers registers f alike lawful end given in
    in_frame_behind s here next a callers f v (register_of a.function.body.directives.webs s.global) refl alike lawful known other out (finds s next callers (without a (byte_at s.memory) f) v there alike' behind)

-- the registers of a machine
machine_alike : (core : Core) → Alike (registers_of core) (register core)
machine_alike core = record {
  long = length-map (range_with_len 0 32) (register core) ∙ refl;
  each = λ r lt. get_or-map-range_with_len (register core) 0 32 r r 0 lt (omega arith);
}

pub walk_finds : (core : Core) (functions : List Function) (frames : List FrameInfo) (object : GlobalObject) (kind : Kind) (active : List Active) (value : ℕ)
    → Chain (seen core.memory functions frames object kind) (start_of core) active → in_memory core.memory kind object.address ≡ Some value
    → WalksTo (seen core.memory functions frames object kind) (start_of core) (Ok (found kind value (held object.name (byte_at core.memory) (register core) active)))
walk_finds core functions frames object kind active value chain there =
    finds (seen core.memory functions frames object kind) (start_of core) active (register core) value there (machine_alike core) chain

-- ---- a walk that comes to a value

-- what is known of an end by what the first turn finds
abbrev pub ComesTo : Seen → Finding → Result ℕ ℕ → Type 0
ComesTo s (Found value) end = end ≡ Ok value
ComesTo s (On next) end = WalksTo s next end
ComesTo s Nothing (Ok value) = ⊥
ComesTo s Nothing (Err address) = Unit {0}

turned : (s : Seen) (at : At) (end : Result ℕ ℕ) → WalksTo s at end → ComesTo s (turn s at) end
turned s at end (found_at here value e) = subst (λ (f : Finding). ComesTo s f (Ok value)) (sym e) refl
turned s at end (lost_at here e) = subst (λ (f : Finding). ComesTo s f (Err here.link)) (sym e) tt
turned s at end (goes_on here next last e walk) = subst (λ (f : Finding). ComesTo s f last) (sym e) walk

-- the words that a step outward takes
record Outward (memory : List ℕ) (i : FrameInfo) (at next : At) : Type 0 where
  registers : List ℕ
  given : given_back memory at.stack i.saved at.registers ≡ Some registers
  link : ℕ
  word : word_in memory (pos (at.stack - i.frame) +ℤ below link_place) ≡ Some link
  is : next ≡ record { stack = at.stack - i.frame; link = link; registers = registers }

outward_takes : (memory : List ℕ) (i : FrameInfo) (at next : At) → outward memory i at ≡ Some next → Outward memory i at next
outward_takes memory i at next = by (nat_le i.frame at.stack)
  where
    by_word : (registers : List ℕ) → given_back memory at.stack i.saved at.registers ≡ Some registers → (o : Option ℕ) → word_in memory (pos (at.stack - i.frame) +ℤ below link_place) ≡ o
        → call_behind (at.stack - i.frame) registers o ≡ Some next → Outward memory i at next
    by_word registers given None is e = absurd cc
    by_word registers given (Some link) is e =
        let to : At = record { stack = at.stack - i.frame; link = link; registers = registers } in
        let some : Some to ≡ Some next = e in
        let same : to ≡ next = cc in
        record { registers = registers; given = given; link = link; word = is; is = sym same }

    by_given : (o : Option (List ℕ)) → given_back memory at.stack i.saved at.registers ≡ o
        → option_and_then (λ registers. call_behind (at.stack - i.frame) registers (word_in memory (pos (at.stack - i.frame) +ℤ below link_place))) o ≡ Some next → Outward memory i at next
    by_given None is e = absurd cc
    by_given (Some registers) is e = by_word registers is (word_in memory (pos (at.stack - i.frame) +ℤ below link_place)) refl e

    by : (b : Bool)
        → cond b (option_and_then (λ registers. call_behind (at.stack - i.frame) registers (word_in memory (pos (at.stack - i.frame) +ℤ below link_place))) (given_back memory at.stack i.saved at.registers)) None ≡ Some next
        → Outward memory i at next
    by true e = by_given (given_back memory at.stack i.saved at.registers) refl e
    by false e = absurd cc

in_web_value : (s : Seen) (at : At) (a : Active) (callers : List Active) (f : ℕ → ℕ) (v value r : ℕ) → Alike at.registers f → IsLocated a.function → frame_at s.functions s.frames at.link ≡ Some (frame_info a.function)
    → register_of a.function.body.directives.webs s.global ≡ Some r → ComesTo s (turn s at) (Ok value) → value ≡ found s.kind v (held s.global (byte_at s.memory) f (a ∷ callers))
in_web_value s at a callers f v value r alike lawful known web walk =
    let same : slice_index at.registers r ≡ f r = alike.each r (low_register a s.global r lawful web) in
    let is : of_kind s.kind (slice_index at.registers r) ≡ found s.kind v (held s.global (byte_at s.memory) f (a ∷ callers)) = rw web (ap (of_kind s.kind) same) in
    let end : ◌≡◌ {A = Result ℕ ℕ} (Ok value) (Ok (of_kind s.kind (slice_index at.registers r))) =
    subst (λ (t : Finding). ComesTo s t (Ok value)) (by_web s at (frame_info a.function) r known web) walk in
    let one : value ≡ of_kind s.kind (slice_index at.registers r) = cc in
    one ∙ is

in_start_value : (s : Seen) (at : At) (a : Active) (f : ℕ → ℕ) (v value : ℕ) (o : Option ℕ) → register_of a.function.body.directives.webs s.global ≡ o → Alike at.registers f → IsLocated a.function
    → frame_at s.functions s.frames at.link ≡ Some (frame_info a.function) → bytes_eq a.function.body.name start_name ≡ true → in_memory s.memory s.kind s.address ≡ Some v
    → ComesTo s (turn s at) (Ok value) → value ≡ found s.kind v (held s.global (byte_at s.memory) f (a ∷ []))
in_start_value s at a f v value (Some r) web alike lawful known is there walk = in_web_value s at a [] f v value r alike lawful known web walk
in_start_value s at a f v value None web alike lawful known is there walk =
    let end : ◌≡◌ {A = Result ℕ ℕ} (Ok value) (Ok v) = subst (λ (t : Finding). ComesTo s t (Ok value)) (by_start s at (frame_info a.function) v known web is there) walk in
    let one : value ≡ v = cc in
    let here : v ≡ found s.kind v (held s.global (byte_at s.memory) f (a ∷ [])) = rw web refl in
    one ∙ here

-- it is another function, and has no web
by_step : (s : Seen) (at : At) (i : FrameInfo) → frame_at s.functions s.frames at.link ≡ Some i → register_of i.webs s.global ≡ None → bytes_eq i.function start_name ≡ false
    → turn s at ≡ on_or_nothing (outward s.memory i at)
by_step s at i known web other = ap (turn_at s at) known ∙ ap (turn_by_web s at i) web ∙ rw other refl

behind_value : (s : Seen) (at : At) (a : Active) (callers : List Active) (f : ℕ → ℕ) (v value link : ℕ) (o : Option ℕ) → register_of a.function.body.directives.webs s.global ≡ o → Alike at.registers f → IsLocated a.function
    → frame_at s.functions s.frames at.link ≡ Some (frame_info a.function) → bytes_eq a.function.body.name start_name ≡ false → at.stack ≡ a.stack + a.function.frame
    → ((word : ℕ) → word_in s.memory (pos a.stack +ℤ below link_place) ≡ Some word → word ≡ link) → ComesTo s (turn s at) (Ok value)
    → ((next : At) → next.stack ≡ a.stack → next.link ≡ link → Alike next.registers (without a (byte_at s.memory) f) → WalksTo s next (Ok value)
    → value ≡ found s.kind v (held s.global (byte_at s.memory) (without a (byte_at s.memory) f) callers))
    → value ≡ found s.kind v (held s.global (byte_at s.memory) f (a ∷ callers))
behind_value s at a callers f v value link (Some r) web alike lawful known other end linked walk more = in_web_value s at a callers f v value r alike lawful known web walk
behind_value s at a callers f v value link None web alike lawful known other end linked walk more =
    by (outward s.memory (frame_info a.function) at) refl (subst (λ (t : Finding). ComesTo s t (Ok value)) (by_step s at (frame_info a.function) known web other) walk)
  where
    by : (o : Option At) → outward s.memory (frame_info a.function) at ≡ o → ComesTo s (on_or_nothing o) (Ok value) → value ≡ found s.kind v (held s.global (byte_at s.memory) f (a ∷ callers))
    by None is w = absurd w
    by (Some next) is w =
        let g = outward_takes s.memory (frame_info a.function) at next is in
        let back : at.stack - a.function.frame ≡ a.stack = omega (arith, end) in
        let stack : next.stack ≡ a.stack = ap (λ (n : At). n.stack) g.is ∙ back in
        let word : word_in s.memory (pos a.stack +ℤ below link_place) ≡ Some g.link = ap (λ (k : ℕ). word_in s.memory (pos k +ℤ below link_place)) (sym back) ∙ g.word in
        let to : next.link ≡ link = ap (λ (n : At). n.link) g.is ∙ linked g.link word in
        let own = given_by s.memory at.stack a at.registers g.registers f alike lawful end g.given in
        let alike' : Alike next.registers (without a (byte_at s.memory) f) = subst (λ (rs : List ℕ). Alike rs (without a (byte_at s.memory) f)) (sym (ap (λ (n : At). n.registers) g.is)) own in
        let same : found s.kind v (held s.global (byte_at s.memory) (without a (byte_at s.memory) f) callers) ≡ found s.kind v (held s.global (byte_at s.memory) f (a ∷ callers)) = rw web refl in
        more next stack to alike' w ∙ same

held_value : (s : Seen) (at : At) (stack link : ℕ) (active : List Active) (f : ℕ → ℕ) (v value : ℕ) → at.stack ≡ stack → at.link ≡ link → in_memory s.memory s.kind s.address ≡ Some v → Alike at.registers f
    → Callers s stack link active → WalksTo s at (Ok value) → value ≡ found s.kind v (held s.global (byte_at s.memory) f active)
held_value s at stack link active f v value p q there alike (outermost sp ra a lawful known is) walk =
    in_start_value s at a f v value (register_of a.function.body.directives.webs s.global) refl alike lawful (ap (λ (n : ℕ). frame_at s.functions s.frames n) q ∙ known) is there (turned s at (Ok value) walk)
held_value s at stack link active f v value p q there alike (called sp ra next a callers lawful known other end linked behind) walk =
    behind_value s at a callers f v value next (register_of a.function.body.directives.webs s.global) refl alike lawful (ap (λ (n : ℕ). frame_at s.functions s.frames n) q ∙ known) other (p ∙ end) linked
    (turned s at (Ok value) walk)
    (λ to p' q' alike' walk'. held_value s to a.stack next callers (without a (byte_at s.memory) f) v value p' q' there alike' behind walk')

pub value_is_held : (core : Core) (functions : List Function) (frames : List FrameInfo) (object : GlobalObject) (kind : Kind) (active : List Active) (word value : ℕ)
    → Callers (seen core.memory functions frames object kind) (start_of core).stack (start_of core).link active → in_memory core.memory kind object.address ≡ Some word
    → WalksTo (seen core.memory functions frames object kind) (start_of core) (Ok value) → value ≡ found kind word (held object.name (byte_at core.memory) (register core) active)
value_is_held core functions frames object kind active word value callers there walk =
    held_value (seen core.memory functions frames object kind) (start_of core) (start_of core).stack (start_of core).link active (register core) word value refl refl there (machine_alike core) callers walk

-- ---- a walk that is not lost

room_even : (size : ℕ) → slot_room size % 8 ≡ 0
room_even size = omega arith

reach_even : (at : ℕ) (slots : List ℕ) → at % 8 ≡ 0 → last_reach at slots % 8 ≡ 0
reach_even at [] h = h
reach_even at (size ∷ rest) h = reach_even (at + slot_room size) rest (let e = room_even size in omega (arith, h, e))

pub frame_even : (l : Located) → IsLocated l → l.frame % 8 ≡ 0
frame_even l h =
    let even = reach_even (slots_begin (head_size l.body) (length l.saved) (in_frame l.places)) l.body.slots (omega arith) in
    ap (λ (n : ℕ). n % 8) h.frame ∙ even

word_there : (memory : List ℕ) (sp n : ℕ) → n ≤ sp → (sp - n) % 4 ≡ 0 → sp - n + 4 ≤ memory_size → word_in memory (pos sp +ℤ below n) ≡ Some (word_at memory (sp - n))
word_there memory sp n le even fits =
    let one : ((sp - n) % 4 == 0) ≡ true = eq-eqb ((sp - n) % 4) 0 even in
    let two : nat_le (sp - n + 4) memory_size ≡ true = le-leb (sp - n + 4) memory_size fits in
    ap (λ (z : ℤ). word_in memory z) (down sp n le)
    ∙ (ap (λ (t : Bool). cond (t && nat_le (sp - n + 4) memory_size) (Some (word_at memory (sp - n))) None) one
    ∙ ap (λ (t : Bool). cond t (Some (word_at memory (sp - n))) None) two)

-- registers that were saved in the memory are given back
given_there : (memory : List ℕ) (sp head i : ℕ) (rs registers : List ℕ) → sp % 4 ≡ 0 → head % 4 ≡ 0 → 4 ≤ head → sp ≤ memory_size → head + 4 * (i + length rs) ≤ sp
    → (all : List ℕ) × (gives memory sp head i rs registers ≡ Some all)
given_there memory sp head i [] registers even quarter least high room = (registers, refl)
given_there memory sp head i (r ∷ rs) registers even quarter least high room =
    let more : length (r ∷ rs) ≡ suc (length rs) = refl in
    let deep : head + 4 * (i + 1) ≤ sp = omega (arith, room, more) in
    let at : (sp - (head + 4 * (i + 1))) % 4 ≡ 0 = omega (arith, even, quarter, deep) in
    let fits : sp - (head + 4 * (i + 1)) + 4 ≤ memory_size = omega (arith, high, least, deep) in
    let there = word_there memory sp (head + 4 * (i + 1)) deep at fits in
    let behind : head + 4 * (i + 1 + length rs) ≤ sp = omega (arith, room, more) in
    let rest = given_there memory sp head (i + 1) rs (slice_set registers r (word_at memory (sp - (head + 4 * (i + 1))))) even quarter least high behind in
    (rest.0, ap (λ (o : Option ℕ). option_and_then (λ word. gives memory sp head (i + 1) rs (slice_set registers r word)) o) there ∙ rest.1)

-- the walk goes on behind a function whose frame stands in the memory
record GoesOutward (memory : List ℕ) (at : At) (a : Active) : Type 0 where
  registers : List ℕ
  link : ℕ
  word : word_in memory (pos a.stack +ℤ below link_place) ≡ Some link
  out : outward memory (frame_info a.function) at ≡ Some (record { stack = a.stack; link = link; registers = registers })

goes_outward : (memory : List ℕ) (at : At) (a : Active) → IsLocated a.function → StandsInMemory a → at.stack ≡ a.stack + a.function.frame → GoesOutward memory at a
goes_outward memory at a lawful inside end =
    let head = head_size a.function.body in
    let holds = frame_holds a.function lawful in
    let whole = frame_even a.function lawful in
    let low = inside.low in
    let high = inside.high in
    let aligned = inside.aligned in
    let even : at.stack % 4 ≡ 0 = omega (arith, end, aligned, whole) in
    let quarter : head % 4 ≡ 0 = omega arith in
    let least : 4 ≤ head = omega arith in
    let top : at.stack ≤ memory_size = omega (arith, end, high) in
    let room : head + 4 * (0 + length a.function.saved) ≤ at.stack = omega (arith, holds, end) in
    let given = given_there memory at.stack head 0 a.function.saved at.registers even quarter least top room in
    let enough : nat_le a.function.frame at.stack ≡ true = le-leb a.function.frame at.stack (omega (arith, end)) in
    let minus : at.stack - a.function.frame ≡ a.stack = omega (arith, end) in
    let word = word_there memory a.stack link_place low (omega (arith, low, aligned)) (omega (arith, low, high)) in
    record {
      registers = given.0;
      link = word_at memory (a.stack - link_place);
      word = word;
      out = outward_by memory (frame_info a.function) at a.stack given.0 (word_at memory (a.stack - link_place)) enough minus given.1 word;
    }

no_value : (address value : ℕ) → ◌≡◌ {A = Result ℕ ℕ} (Err address) (Ok value) → ⊥
no_value address value e = cc

in_start_found : (s : Seen) (at : At) (a : Active) (v address : ℕ) (o : Option ℕ) → register_of a.function.body.directives.webs s.global ≡ o → frame_at s.functions s.frames at.link ≡ Some (frame_info a.function)
    → bytes_eq a.function.body.name start_name ≡ true → in_memory s.memory s.kind s.address ≡ Some v → ComesTo s (turn s at) (Err address) → ⊥
in_start_found s at a v address (Some r) web known is there walk =
    no_value address (of_kind s.kind (slice_index at.registers r)) (subst (λ (t : Finding). ComesTo s t (Err address)) (by_web s at (frame_info a.function) r known web) walk)
in_start_found s at a v address None web known is there walk =
    no_value address v (subst (λ (t : Finding). ComesTo s t (Err address)) (by_start s at (frame_info a.function) v known web is there) walk)

in_frame_found : (s : Seen) (at : At) (a : Active) (address link : ℕ) (o : Option ℕ) → register_of a.function.body.directives.webs s.global ≡ o → frame_at s.functions s.frames at.link ≡ Some (frame_info a.function)
    → bytes_eq a.function.body.name start_name ≡ false → IsLocated a.function → StandsInMemory a → at.stack ≡ a.stack + a.function.frame
    → ((word : ℕ) → word_in s.memory (pos a.stack +ℤ below link_place) ≡ Some word → word ≡ link) → ComesTo s (turn s at) (Err address)
    → ((next : At) → next.stack ≡ a.stack → next.link ≡ link → WalksTo s next (Err address) → ⊥) → ⊥
in_frame_found s at a address link (Some r) web known other lawful inside end linked walk more =
    no_value address (of_kind s.kind (slice_index at.registers r)) (subst (λ (t : Finding). ComesTo s t (Err address)) (by_web s at (frame_info a.function) r known web) walk)
in_frame_found s at a address link None web known other lawful inside end linked walk more =
    let g = goes_outward s.memory at a lawful inside end in
    let next : At = record { stack = a.stack; link = g.link; registers = g.registers } in
    more next refl (linked g.link g.word) (subst (λ (t : Finding). ComesTo s t (Err address)) (by_frame s at next (frame_info a.function) known web other g.out) walk)

not_lost : (s : Seen) (at : At) (stack link : ℕ) (active : List Active) (v address : ℕ) → at.stack ≡ stack → at.link ≡ link → in_memory s.memory s.kind s.address ≡ Some v
    → Callers s stack link active → AllByRecursion StandsInMemory active → WalksTo s at (Err address) → ⊥
not_lost s at stack link active v address p q there (outermost sp ra a lawful known is) inside walk =
    in_start_found s at a v address (register_of a.function.body.directives.webs s.global) refl (ap (λ (n : ℕ). frame_at s.functions s.frames n) q ∙ known) is there (turned s at (Err address) walk)
not_lost s at stack link active v address p q there (called sp ra next a callers lawful known other end linked behind) inside walk =
    in_frame_found s at a address next (register_of a.function.body.directives.webs s.global) refl (ap (λ (n : ℕ). frame_at s.functions s.frames n) q ∙ known) other lawful inside.0 (p ∙ end) linked
    (turned s at (Err address) walk) (λ to p' q' walk'. not_lost s to a.stack next callers v address p' q' there behind inside.1 walk')

pub walk_is_not_lost : (core : Core) (functions : List Function) (frames : List FrameInfo) (object : GlobalObject) (kind : Kind) (active : List Active) (word address : ℕ)
    → Callers (seen core.memory functions frames object kind) (start_of core).stack (start_of core).link active → AllByRecursion StandsInMemory active → in_memory core.memory kind object.address ≡ Some word
    → WalksTo (seen core.memory functions frames object kind) (start_of core) (Err address) → ⊥
walk_is_not_lost core functions frames object kind active word address callers inside there walk =
    not_lost (seen core.memory functions frames object kind) (start_of core) (start_of core).stack (start_of core).link active word address refl refl there callers inside walk
