-- Calls of routines: the machine runs inside their words, and comes back with a result.
use Rattle.std.specs.Prelude.{ℕ, zero, suc, ◌≡◌, ◌+◌, ◌*◌, ◌%◌, ◌^◌, ◌<◌, ◌≤◌, ◌⊎◌, ◌==◌, ◌||◌, Bool, true, false, if◌then◌else◌, Option, Some, None, List, [], ◌∷◌, length, slice_index}
use Rattle.std.specs.List.{AllByRecursion}
use Rattle.std.proofs.Common.{arith, subst, sym, ap, refl, ◌∙◌, inl, inr}
use Rattle.std.proofs.lemmas.Bool.{cases_eq, ne_eqb, eq-eqb, and_left}
use Rattle.pw_inst.specs.declared.Inst.{Inst}
use Rattle.pw_inst.specs.declared.Inst.TheVariants as i
use Rattle.pw_inst.specs.InstructionTable.{decoded}
use Rattle.pw_inst.specs.declared.relocation.Symbol.TheVariants as symbol
use Rattle.pw_delay.specs.declared.items.Word.{Word}
use Rattle.pw_delay.specs.declared.items.Turn.TheVariants.{CallTo}
use Rattle.pw_delay.specs.declared.items.Item.{Item}
use Rattle.pw_delay.specs.declared.items.Item.TheVariants.{Turns}
use Rattle.pw_machine.specs.Core.{Core, register, word_at}
use Rattle.pw_machine.specs.Run.{State, Progress, Running, Stopped, run_of, began, goes_on, continued}
use Rattle.pw_milli.specs.Calls.{Enters, returned, is_scratch, is_access, IsInside, StaysInside}
use Rattle.pw_run_languages.specs.Traces.{Event}
use Rattle.pw_run_languages.specs.Programs.{globals_of}
use Rattle.pw_run_languages.specs.Acts as lines
use Rattle.pw_run_languages.specs.Acts.{put}
use Rattle.pw_run_languages.specs.LineRun.{Frame, Machine, On, left_behind, return_address, routine, through_slot, result_of, scratch_registers, with_scratch, with_result}
use Rattle.pw_run_languages.specs.MachineRun.{Map, Call, Noted, has_returned, arrived, stepped, accesses_of, accesses_in, core_of, function_at}
use Rattle.pw_run_languages.specs.MachineRun as noting
use Rattle.pw_law_link_run.specs.Steps.{Setting, map_in, IsSetting, At, Arrives, with_accesses}
use Rattle.pw_law_link_run.specs.Simulating.{calls_from, noted_by, IsLinked, IsCaller, Simulates, IsCalm, IsCalmInside, IsHigh}
use Rattle.pw_law_link_run.specs.Placing.{IsLeft}
use Rattle.pw_law_link_run.specs.Slots.{SlotDoes, behind_slot}
use Rattle.pw_law_link_run.specs.Meeting.{RunsTo, Meets, IsHighBehind}
use Rattle.pw_law_link_run.specs.Routines.{IsClear, ResultIs, Makes, after_routine, Begins, HasRoutine, HasRoutines, calling_routine, to_routine, LeavesSo, LeaveSo}
use Rattle.pw_law_link_run.proofs.Words.{read, put_same, put_other}
use Rattle.pw_law_link_run.proofs.Noting.{arrived_quiet, high_none, no_touch, settles}
use Rattle.pw_law_link_run.proofs.Placed.{left_stands}
use Rattle.pw_law_link_run.proofs.Stepping.{later, below_data, noted_next}
use Rattle.pw_law_link_run.proofs.Turning.{jump_turn}
use Rattle.pw_law_link_run.proofs.Items.{left_fit, rests, turn_at, inside_at}
use Rattle.pw_law_link_run.proofs.Slots.{slot_goes, slot_runs, slot_leaves}
use Rattle.pw_law_link_run.proofs.Calls.{caller_left, called_from}

-- ---- a run inside words

none_there : (core : Core) (address : ℕ) (calls : List Call) → address ≤ core.front → AllByRecursion (λ call. call.link < address) calls
    → AllByRecursion (λ call. has_returned core call ≡ false) calls
none_there core address [] le h = tt
none_there core address (call ∷ calls) le h =
    let other : (core.front == call.link) ≡ false = ne_eqb core.front call.link (λ e. omega (arith, e, le, h.0)) in
    (and_left (core.front == call.link) (register core 30 == call.stack) other, none_there core address calls le h.1)

entry_there : (x : Setting) (address top : ℕ) (core : Core) (n : Bool) → IsInside address top core → core.nullify ≡ n
    → ((a : ℕ) → address ≤ a → a < top → function_at (map_in x) a ≡ None) → (core.nullify ≡ true) ⊎ (function_at (map_in x) core.front ≡ None)
entry_there x address top core true is e h = inl e
entry_there x address top core false is e h = inr (h core.front is.above (is.quiet e).0)

inside_quiet : (x : Setting) (address top : ℕ) (core : Core) (n : Noted) → IsInside address top core → IsClear x address top n.calls
    → arrived (map_in x) core n ≡ n
inside_quiet x address top core n is clear =
    arrived_quiet (map_in x) core n (none_there core address n.calls is.above clear.links) (entry_there x address top core core.nullify is refl clear.entries)

-- an instruction that is no access
not_access : (m : Map) (o : Option Inst) (c : lines.Core) → is_access o ≡ false → accesses_of m o c ≡ []
not_access m None c e = refl
not_access m (Some (i.Ldb im b t)) c e = absurd cc
not_access m (Some (i.Ldh im b t)) c e = absurd cc
not_access m (Some (i.Ldw im b t)) c e = absurd cc
not_access m (Some (i.Stb r im b)) c e = absurd cc
not_access m (Some (i.Sth r im b)) c e = absurd cc
not_access m (Some (i.Stw r im b)) c e = absurd cc
not_access m (Some _) c e = no_touch m (globals_of m.flow)

inside_accesses : (x : Setting) (address top : ℕ) (core : Core) (n : Bool) → IsInside address top core → core.nullify ≡ n → accesses_in (map_in x) core ≡ []
inside_accesses x address top core true is e =
    ap (λ (b : Bool). if b then [] else accesses_of (map_in x) (decoded (word_at core.memory core.front)) (core_of core)) e
inside_accesses x address top core false is e =
    ap (λ (b : Bool). if b then [] else accesses_of (map_in x) (decoded (word_at core.memory core.front)) (core_of core)) e
    ∙ not_access (map_in x) (decoded (word_at core.memory core.front)) (core_of core) (is.quiet e).1

-- a run that goes on went on before
goes_before : (p : Progress) (mid : State) → goes_on p ≡ Running mid → (t : State) × (p ≡ Running t)
goes_before (Running t) mid e = (t, refl)
goes_before (Stopped end t) mid e = absurd cc

-- a routine, from where it is entered
pub record Inside (x : Setting) (k : ℕ) (s : State) (n : Noted) (address top steps : ℕ) : Type 0 where
  pub runs : run_of k x.start ≡ Running s
  pub notes : noting.noted (map_in x) x.start k ≡ n
  pub path : StaysInside address top steps s
  pub clear : IsClear x address top n.calls

step_of : (j : ℕ) (s mid : State) → run_of (suc j) s ≡ Running mid → goes_on (run_of j s) ≡ Running mid
unfolding run_of
step_of j s mid e = e

run_from : (x : Setting) → IsSetting x → (k j : ℕ) (s mid : State) → run_of k x.start ≡ Running s → run_of j s ≡ Running mid → run_of (k + j) x.start ≡ Running mid
run_from x set k j s mid r e = set.sums k j ∙ (ap (λ p. continued j p) r ∙ e)

one_inside : (x : Setting) → IsSetting x → (k j : ℕ) (s t mid : State) (n : Noted) (address top steps : ℕ) → Inside x k s n address top steps → j < steps
    → run_of j s ≡ Running t → noting.noted (map_in x) x.start (k + j) ≡ n → run_of (suc j) s ≡ Running mid
    → noting.noted (map_in x) x.start (k + suc j) ≡ arrived (map_in x) mid.core n
one_inside x set k j s t mid n address top steps h lt r e next =
    let more : k + suc j ≡ suc (k + j) = omega arith in
    let there = run_from x set k (suc j) s mid h.runs next in
    let step = noted_next x (k + j) t mid n (run_from x set k j s t h.runs r) e (subst (λ v. run_of v x.start ≡ Running mid) more there) in
    subst (λ v. noting.noted (map_in x) x.start v ≡ arrived (map_in x) mid.core n) (sym more)
    (step ∙ ap (λ es. arrived (map_in x) mid.core (with_accesses es n)) (inside_accesses x address top t.core t.core.nullify (h.path j t lt r) refl))

stays_noted : (x : Setting) → IsSetting x → (k : ℕ) (s : State) (n : Noted) (address top steps : ℕ) → Inside x k s n address top steps
    → (j : ℕ) (mid : State) → j < steps → run_of j s ≡ Running mid → noting.noted (map_in x) x.start (k + j) ≡ n
stays_noted x set k s n address top steps h zero mid lt r = let e : k + 0 ≡ k = omega arith in ap (noting.noted (map_in x) x.start) e ∙ h.notes
stays_noted x set k s n address top steps h (suc j) mid lt r =
    let before = goes_before (run_of j s) mid (step_of j s mid r) in
    one_inside x set k j s before.0 mid n address top steps h (omega (arith, lt)) before.1
    (stays_noted x set k s n address top steps h j before.0 (omega (arith, lt)) before.1) r
    ∙ inside_quiet x address top mid.core n (h.path (suc j) mid lt r) h.clear

-- at its end
inside_ends : (x : Setting) → IsSetting x → (k : ℕ) (s : State) (n : Noted) (address top steps : ℕ) (final : State) → Inside x k s n address top steps
    → 1 ≤ steps → run_of steps s ≡ Running final → noting.noted (map_in x) x.start (k + steps) ≡ arrived (map_in x) final.core n
inside_ends x set k s n address top zero final h some r = absurd (omega (arith, some))
inside_ends x set k s n address top (suc j) final h some r =
    let before = goes_before (run_of j s) final (step_of j s final r) in
    one_inside x set k j s before.0 final n address top (suc j) h (omega arith) before.1
    (stays_noted x set k s n address top (suc j) h j before.0 (omega arith) before.1) r

-- ---- what it leaves

-- which registers words go into
abbrev is_listed : ℕ → List ℕ → Bool
is_listed r [] = false
is_listed r (q ∷ rest) = (r == q) || is_listed r rest

either_word : (b : Bool) (x y : ℕ) → y ≡ x → (if b then x else y) ≡ x
either_word true x y e = refl
either_word false x y e = e

put_before : (ws f : ℕ → ℕ) (q r : ℕ) (b : Bool) → (r ≡ q) ⊎ (r ≡ q → ⊥)
    → (if b then ws r % 2 ^ 32 else put q (ws q % 2 ^ 32) f r) ≡ (if (r == q) || b then ws r % 2 ^ 32 else f r)
put_before ws f q r b (inl e) =
    let here : (r == q) ≡ true = eq-eqb r q e in
    either_word b (ws r % 2 ^ 32) (put q (ws q % 2 ^ 32) f r) (put_same f q (ws q % 2 ^ 32) r e ∙ ap (λ k. ws k % 2 ^ 32) (sym e))
    ∙ sym (ap (λ c. if c || b then ws r % 2 ^ 32 else f r) here)
put_before ws f q r b (inr ne) =
    let other : (r == q) ≡ false = ne_eqb r q ne in
    ap (λ v. if b then ws r % 2 ^ 32 else v) (put_other f q (ws q % 2 ^ 32) r ne) ∙ sym (ap (λ c. if c || b then ws r % 2 ^ 32 else f r) other)

words_put : (ws f : ℕ → ℕ) (list : List ℕ) (r : ℕ) → with_scratch ws list f r ≡ (if is_listed r list then ws r % 2 ^ 32 else f r)
words_put ws f [] r = refl
words_put ws f (q ∷ rest) r = words_put ws (put q (ws q % 2 ^ 32) f) rest r ∙ put_before ws f q r (is_listed r rest) (cases_eq r q)

listed_is : (r : ℕ) → is_listed r scratch_registers ≡ is_scratch r
listed_is r = by (r == 1) (r == 21) (r == 22) (r == 25) (r == 26) (r == 28) (r == 29)
  where
    by : (a b c d e f g : Bool) → (a || (b || (c || (d || (e || (f || (g || false))))))) ≡ (a || b || c || d || e || f || g)
    by true b c d e f g = refl
    by false true c d e f g = refl
    by false false true d e f g = refl
    by false false false true e f g = refl
    by false false false false true f g = refl
    by false false false false false true g = refl
    by false false false false false false true = refl
    by false false false false false false false = refl

not_scratch_0 : (r : ℕ) → is_scratch r ≡ true → (r == 0) ≡ false
not_scratch_0 r h = ne_eqb r 0 (λ e. let z : is_scratch 0 ≡ true = ap is_scratch (sym e) ∙ h in cc)

-- the words that a routine left, as the lines see them
left_words : (f : ℕ → ℕ) (old registers : List ℕ) (r : ℕ) (b : Bool) → is_scratch r ≡ b → f r ≡ (if r == 0 then 0 else slice_index old r)
    → ((k : ℕ) → slice_index registers k < 2 ^ 32) → (is_scratch r ≡ false → slice_index registers r ≡ slice_index old r)
    → (if b then slice_index registers r % 2 ^ 32 else f r) ≡ (if r == 0 then 0 else slice_index registers r)
left_words f old registers r true is h small keeps =
    let word : slice_index registers r % 2 ^ 32 ≡ slice_index registers r = omega (arith, small r) in
    word ∙ sym (ap (λ b. if b then 0 else slice_index registers r) (not_scratch_0 r is))
left_words f old registers r false is h small keeps = h ∙ ap (λ v. if r == 0 then 0 else v) (sym (keeps is))

with_result_at : (o : Option ℕ) (f : ℕ → ℕ) (registers : List ℕ) (r : ℕ) → ResultIs o (slice_index registers 29)
    → f r ≡ (if r == 0 then 0 else slice_index registers r) → with_result o f r ≡ (if r == 0 then 0 else slice_index registers r)
with_result_at None f registers r is h = h
with_result_at (Some n) f registers r is h = by (cases_eq r 29)
  where
    by : (r ≡ 29) ⊎ (r ≡ 29 → ⊥) → put 29 n f r ≡ (if r == 0 then 0 else slice_index registers r)
    by (inl e) = put_same f 29 n r e ∙ (sym is ∙ subst (λ k. slice_index registers 29 ≡ (if k == 0 then 0 else slice_index registers k)) (sym e) refl)
    by (inr ne) = put_other f 29 n r ne ∙ h

pub registers_left : (o : Option ℕ) (f : ℕ → ℕ) (old registers : List ℕ) → ((r : ℕ) → f r ≡ (if r == 0 then 0 else slice_index old r))
    → ((k : ℕ) → slice_index registers k < 2 ^ 32) → ((r : ℕ) → is_scratch r ≡ false → slice_index registers r ≡ slice_index old r)
    → ResultIs o (slice_index registers 29) → (r : ℕ)
    → with_result o (with_scratch (λ k. slice_index registers k) scratch_registers f) r ≡ (if r == 0 then 0 else slice_index registers r)
registers_left o f old registers h small keeps is r =
    with_result_at o (with_scratch (λ k. slice_index registers k) scratch_registers f) registers r is
    (words_put (λ k. slice_index registers k) f scratch_registers r
    ∙ (ap (λ b. if b then slice_index registers r % 2 ^ 32 else f r) (listed_is r)
    ∙ left_words f old registers r (is_scratch r) refl (h r) small (keeps r)))

-- ---- a routine as a step of the lines

enters_routine : (x : Setting) → IsSetting x → (m : Machine) (k address : ℕ) (words : List ℕ) (b : Begins x m k address words)
    → Enters words address (record { core = b.at.core; rest = m.rest; output = m.out })
enters_routine x set m k address words b =
    let h = b.at in
    let l = later x k m.core address (address + 4) m.rest m.out (noted_by x m) set h in
    record {
      stands = record {
        aligned = b.stands.aligned;
        above = b.stands.above;
        within = omega (arith, b.stands.within, l.text.text);
        text = omega (arith, b.stands.text, l.text.text);
        each = λ i lt.
            set.words h.core (address + 4 * i) l.text
            (below_data x 0 (address + 4 * i) set (record { aligned = omega (arith, b.stands.aligned); above = omega (arith, b.stands.above); below = omega (arith, b.stands.within, lt) }))
            ∙ b.stands.each i lt;
      };
      front = h.front;
      back = h.back;
      nullify = sym h.shows.skip ∙ b.run;
      stopped = set.going k (record { core = h.core; rest = m.rest; output = m.out }) h.runs;
      registers = record { count = l.lawful.core.registers.count; words = l.lawful.core.registers.words };
    }

front_same : (s t : State) → Running s ≡ Running t → s.core.front ≡ t.core.front
front_same s t e = let same : s ≡ t = cc in ap (λ (s : State). s.core.front) same

takes_steps : (s : State) (registers : List ℕ) (steps address : ℕ) → s.core.front ≡ address → register s.core 31 < address → s.core.stopped ≡ None
    → run_of steps s ≡ Running (returned s 31 registers) → 1 ≤ steps
unfolding run_of
takes_steps s registers zero address front low stopped e =
    let began_is : Running s ≡ Running (returned s 31 registers) = sym (ap (λ o. began o s) stopped) ∙ e in
    let same = front_same s (returned s 31 registers) began_is in
    absurd (omega (arith, same, front, low))
takes_steps s registers (suc j) address front low stopped e = omega arith

pub routine_arrives : (x : Setting) → IsSetting x → (m : Machine) (k j address : ℕ) (words : List ℕ) (b : Begins x m k address words)
    → (d : Makes words address (record { core = b.at.core; rest = m.rest; output = m.out }) j)
    → Arrives x (k + d.steps) (after_routine m j (λ r. slice_index d.registers r)).core (lines.register m.core 31) ((lines.register m.core 31 + 4) % 2 ^ 32) m.rest m.out (noted_by x m)
routine_arrives x set m k j address words b d =
    let h = b.at in
    let s : State = record { core = h.core; rest = m.rest; output = m.out } in
    let link : register h.core 31 ≡ lines.register m.core 31 = sym (read m.core h.core h.shows 31) in
    let enters = enters_routine x set m k address words b in
    let final = returned s 31 d.registers in
    let some = takes_steps s d.registers d.steps address h.front (omega (arith, link, b.below)) enters.stopped d.runs in
    let inside : Inside x k s (noted_by x m) address (address + 4 * length words) d.steps = record { runs = h.runs; notes = h.notes; path = d.inside; clear = b.clear } in
    let result : ResultIs (result_of j (lines.register m.core 26) (lines.register m.core 25)) (slice_index d.registers 29) =
    subst (λ v. ResultIs (result_of j v (lines.register m.core 25)) (slice_index d.registers 29)) (sym (read m.core h.core h.shows 26))
    (subst (λ v. ResultIs (result_of j (register h.core 26) v) (slice_index d.registers 29)) (sym (read m.core h.core h.shows 25)) d.result) in
    record {
      core = final.core;
      runs = run_from x set k d.steps s final h.runs d.runs;
      notes = inside_ends x set k s (noted_by x m) address (address + 4 * length words) d.steps final inside some d.runs;
      shows = record {
        registers = registers_left (result_of j (lines.register m.core 26) (lines.register m.core 25)) m.core.registers h.core.registers d.registers
            h.shows.registers d.range.words d.kept result;
        memory = h.shows.memory;
        shift = h.shows.shift;
        skip = b.run;
      };
      front = link;
      back = ap (λ v. (v + 4) % 2 ^ 32) link;
    }

pub routine_simulates : (x : Setting) → IsLinked x → (m : Machine) (k j address : ℕ) (words : List ℕ) (b : Begins x m k address words)
    → (d : Makes words address (record { core = b.at.core; rest = m.rest; output = m.out }) j)
    → IsCalm x (after_routine m j (λ r. slice_index d.registers r)) → Simulates x (after_routine m j (λ r. slice_index d.registers r)) (k + d.steps)
routine_simulates x l m k j address words b d calm =
    let t = after_routine m j (λ r. slice_index d.registers r) in
    let to = lines.register m.core 31 in
    let arrives = routine_arrives x l.setting m k j address words b d in
    record {
      address = to;
      at = rests x l m.frame.function b.there (k + d.steps) t.core m.frame.left to m.rest m.out (noted_by x m) arrives b.left (calm to b.left);
      there = b.there;
      left = b.left;
      callers = b.callers;
      events = omega (arith, b.count);
      read = b.read;
    }

-- ---- the turn

some_same : (a b : ℕ) → Some a ≡ Some b → a ≡ b
some_same a b e = cc

links_below : (x : Setting) (address : ℕ) (f : Frame) (callers : List Frame) → 0 < address → ((g : Frame) → IsCaller x g → return_address x.addresses g g.left < address)
    → AllByRecursion (IsCaller x) callers → AllByRecursion (λ call. call.link < address) (calls_from x f callers)
links_below x address f [] some apart h = (some, tt)
links_below x address f (caller ∷ callers) some apart h = (apart caller h.0, links_below x address caller callers some apart h.1)

routine_begins : (x : Setting) → IsLinked x → (k j : ℕ) (m : Machine) (slot : Option Word) (rest : List Item) (d : lines.Core) (es : List (Event ℕ ℕ)) (r : HasRoutine x j)
    → Simulates x (calling_routine m j slot rest) k → m.core.skip ≡ false → IsCalmInside x (calling_routine m j slot rest) 2
    → SlotDoes x slot (to_routine x m rest).core d es → IsHigh x (behind_slot d es m)
    → Begins x (behind_slot d es (to_routine x m rest)) (suc (suc k)) (x.addresses.routine j) r.words
routine_begins x l k j m slot rest d es r h run inside does high =
    let fn = m.frame.function in
    let a = h.address in
    let item = Turns (CallTo (symbol.Routine j) 31) slot in
    let stands = left_stands x fn (l.stands fn h.there) (item ∷ rest) a h.left in
    let fit = (left_fit x l fn h.there (item ∷ rest) a h.left).0 in
    let symbol_is = stands.0.0 in
    let to = return_address x.addresses m.frame rest in
    let back : to ≡ a + 8 = stands.0.2 in
    let target = x.addresses.routine j in
    let same : target ≡ symbol_is.target = some_same target symbol_is.target symbol_is.is in
    let n = noted_by x m in
    let c = (to_routine x m rest).core in
    let link : lines.register d 31 ≡ to = slot_leaves x 31 slot c d es fit.2 run does in
    let turn = turn_at x l fn h.there item rest a (i.Bl symbol_is.jumps.displacement 31 false) h.left (omega arith) symbol_is.jumps.is in
    let quiet = inside_at x m (item ∷ rest) 2 a 1 (a + 4) inside h.left (omega arith) (omega arith) (omega arith) in
    let arrives = jump_turn x k m.core d a symbol_is.target 31 symbol_is.jumps.displacement m.rest m.out n slot es l.setting l.few h.at turn symbol_is.jumps.leads (omega arith) stands.0.1 fit.1 run run
    (record { returns = quiet.returns; enters = quiet.enters }) (subst (λ v. SlotDoes x slot (lines.with_register 31 v m.core) d es) back does) in
    let there = subst (λ v. Arrives x (suc (suc k)) d v ((v + 4) % 2 ^ 32) m.rest m.out (with_accesses es n)) (sym same) arrives in
    let small : (target + 4) % 2 ^ 32 ≡ target + 4 = omega (arith, r.stands.within, l.few) in
    let behind : to ≡ a + 4 * 2 = omega (arith, back) in
    let caller = called_from x m item rest h.there a h.left tt behind in
    let low = r.apart (left_behind rest m).frame caller in
    record {
      there = h.there;
      left = subst (λ v. IsLeft x fn rest v) (sym link) (caller_left x (left_behind rest m).frame caller);
      callers = h.callers;
      run = slot_runs x slot c d es fit.1 run does;
      count = omega (arith, h.events);
      read = h.read;
      at = subst (λ b. At x (suc (suc k)) d target b m.rest m.out (with_accesses es n)) small
          (settles x (suc (suc k)) d target ((target + 4) % 2 ^ 32) m.rest m.out (with_accesses es n) there
          (record { returns = high_none d target (calls_from x m.frame m.callers) high; enters = inr (r.entries target (omega arith) (omega (arith, r.some))) }));
      stands = r.stands;
      clear = record {
        links = links_below x target (left_behind rest m).frame m.callers (omega (arith, low)) r.apart h.callers;
        entries = r.entries;
      };
      below = subst (λ (v : ℕ). v < target) (sym link) low;
    }

-- the routine of a number
pub one_routine : {x : Setting} → HasRoutines x → (j : ℕ) → j < 5 → HasRoutine x j
one_routine has zero below = has.divs
one_routine has (suc zero) below = has.divu
one_routine has (suc (suc zero)) below = has.mul
one_routine has (suc (suc (suc zero))) below = has.rems
one_routine has (suc (suc (suc (suc zero)))) below = has.remu
one_routine has (suc (suc (suc (suc (suc j))))) below = absurd (omega (arith, below))

one_left : (x : Setting) (has : HasRoutines x) (scratch : ℕ → (ℕ → ℕ) → ℕ → ℕ) → LeaveSo x has scratch → (j : ℕ) (below : j < 5)
    → LeavesSo x j (one_routine has j below) (scratch j)
unfolding one_routine
one_left x has scratch so zero below = so.divs
one_left x has scratch so (suc zero) below = so.divu
one_left x has scratch so (suc (suc zero)) below = so.mul
one_left x has scratch so (suc (suc (suc zero))) below = so.rems
one_left x has scratch so (suc (suc (suc (suc zero)))) below = so.remu
one_left x has scratch so (suc (suc (suc (suc (suc j))))) below = absurd (omega (arith, below))

same_scratch : (ws vs : ℕ → ℕ) (list : List ℕ) (f : ℕ → ℕ) → ((r : ℕ) → ws r ≡ vs r) → with_scratch ws list f ≡ with_scratch vs list f
same_scratch ws vs [] f h = refl
same_scratch ws vs (q ∷ rest) f h =
    ap (λ v. with_scratch ws rest (put q (v % 2 ^ 32) f)) (h q) ∙ same_scratch ws vs rest (put q (vs q % 2 ^ 32) f) h

same_left : (m : Machine) (j : ℕ) (ws vs : ℕ → ℕ) → ((r : ℕ) → ws r ≡ vs r) → after_routine m j ws ≡ after_routine m j vs
same_left m j ws vs h =
    ap (λ (f : ℕ → ℕ). record m { core = record m.core { registers = with_result (result_of j (lines.register m.core 26) (lines.register m.core 25)) f } })
    (same_scratch ws vs scratch_registers m.core.registers h)

-- by the state behind the slot
pub routine_acted : (x : Setting) → IsLinked x → (has : HasRoutines x) (scratch : ℕ → (ℕ → ℕ) → ℕ → ℕ) → LeaveSo x has scratch → (k j : ℕ) (m : Machine) (slot : Option Word) (rest : List Item)
    (d : lines.Core) (es : List (Event ℕ ℕ)) → j < 5
    → Simulates x (calling_routine m j slot rest) k → m.core.skip ≡ false → IsCalmInside x (calling_routine m j slot rest) 2
    → SlotDoes x slot (to_routine x m rest).core d es → IsHigh x (behind_slot d es m)
    → IsCalm x (after_routine (behind_slot d es (to_routine x m rest)) j (scratch j d.registers))
    → RunsTo x (after_routine (behind_slot d es (to_routine x m rest)) j (scratch j d.registers))
routine_acted x l has scratch so k j m slot rest d es below h run inside does high calm =
    let r = one_routine has j below in
    let u = behind_slot d es (to_routine x m rest) in
    let a = x.addresses.routine j in
    let b = routine_begins x l k j m slot rest d es r h run inside does high in
    let s : State = record { core = b.at.core; rest = m.rest; output = m.out } in
    let e = enters_routine x l.setting u (suc (suc k)) a r.words b in
    let makes = r.makes s e in
    let link : register b.at.core 31 ≡ lines.register u.core 31 = sym (read u.core b.at.core b.at.shows 31) in
    let lawful = (later x (suc (suc k)) u.core a (a + 4) m.rest m.out (noted_by x u) l.setting b.at).lawful.core.registers in
    let left = one_left x has scratch so j below u.core.registers s e b.at.shows.registers lawful.zero (omega (arith, link, b.below)) in
    let same : after_routine u j (scratch j u.core.registers) ≡ after_routine u j (λ r. slice_index makes.registers r) = same_left u j (scratch j u.core.registers) (λ r. slice_index makes.registers r) left in
    record {
      steps = suc (suc k) + makes.steps;
      simulates = subst (λ (t : Machine). Simulates x t (suc (suc k) + makes.steps)) (sym same)
          (routine_simulates x l u (suc (suc k)) j a r.words b makes (subst (λ (t : Machine). IsCalm x t) same calm));
    }

pub routine_meets : (x : Setting) → IsLinked x → (has : HasRoutines x) (scratch : ℕ → (ℕ → ℕ) → ℕ → ℕ) → LeaveSo x has scratch → (k j : ℕ) (m : Machine) (slot : Option Word) (rest : List Item) → j < 5
    → Simulates x (calling_routine m j slot rest) k → m.core.skip ≡ false → IsCalmInside x (calling_routine m j slot rest) 2 → IsHighBehind x m (Turns (CallTo (symbol.Routine j) 31) slot)
    → ((t : Machine) → through_slot x.program x.addresses slot (routine scratch j) (to_routine x m rest) ≡ On t → IsCalm x t)
    → Meets x (through_slot x.program x.addresses slot (routine scratch j) (to_routine x m rest))
routine_meets x l has scratch so k j m slot rest below h run inside high calm =
    let fit = (left_fit x l m.frame.function h.there (Turns (CallTo (symbol.Routine j) 31) slot ∷ rest) h.address h.left).0 in
    slot_goes x slot (to_routine x m rest) (routine scratch j) (λ s. ((t : Machine) → s ≡ On t → IsCalm x t) → Meets x s) fit.1 run (λ calm. tt)
    (λ d es does calm.
    routine_acted x l has scratch so k j m slot rest d es below h run inside does (high (return_address x.addresses m.frame rest) d es does)
    (calm (after_routine (behind_slot d es (to_routine x m rest)) j (scratch j d.registers)) refl)) calm
