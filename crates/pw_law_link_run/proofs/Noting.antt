-- What the machine notes at a step, in the words of the run of lines.
use Rattle.std.specs.Prelude.{ℕ, zero, suc, ℤ, ◌≡◌, ◌+◌, ◌-◌, ◌*◌, ◌^◌, ◌%◌, ◌<◌, ◌≤◌, ◌⊎◌, ◌==◌, ◌&&◌, Bool, true, false, if◌then◌else◌, Option, Some, None, option_map, List, [], ◌∷◌, ◌++◌, map, length}
use Rattle.std.specs.List.{AllByRecursion, flat_map}
use Rattle.std.specs.Option.{option_or}
use Rattle.std.specs.Int.{cast_unsigned, w32}
use Rattle.std.proofs.Common.{arith, subst, sym, ap, refl, ◌∙◌, inl, inr}
use Rattle.std.proofs.lemmas.Bool.{and_right, ne_eqb}
use Rattle.std.proofs.Math.Path.{fun_ext}
use Rattle.pw_inst.specs.declared.Inst.{Inst}
use Rattle.pw_inst.specs.declared.Inst.TheVariants.{Ldb, Ldh, Ldw, Stb, Sth, Stw}
use Rattle.pw_inst.specs.Computing.{offset_by}
use Rattle.pw_inst.specs.InstructionTable.{decoded}
use Rattle.pw_flow.specs.declared.flow.FlowGlobal.{FlowGlobal}
use Rattle.pw_machine.specs.Core.{Core, register, byte_at, word_at}
use Rattle.pw_run_languages.specs.Traces.{Standing, Event, Called, Returned, Loaded, Stored, touches}
use Rattle.pw_run_languages.specs.Programs.{Program, globals_of}
use Rattle.pw_alloc.specs.Frames.{head_size}
use Rattle.pw_db.specs.Limits.{kept_registers}
use Rattle.pw_run_languages.specs.PlacedRun.{web_of}
use Rattle.pw_run_languages.specs.Acts as lines
use Rattle.pw_run_languages.specs.Acts.{put, number_at, bytes_at, loaded_at, stored_at}
use Rattle.pw_run_languages.specs.Standing.{Active, given_back, without, held, standing, global_now, globals_now}
use Rattle.pw_run_languages.specs.LineRun.{accesses}
use Rattle.pw_run_languages.specs.MachineRun.{Map, Call, Noted, kept, active_as, globals_in, core_of, has_returned, with_returns, left, called, function_at, arrived, is_eligible, accesses_of, accesses_in}
use Rattle.pw_law_link_run.specs.Showing.{Shows}
use Rattle.pw_law_link_run.specs.Steps.{Setting, map_in, Arrives, At, is_back, IsQuiet, IsSavedFrom, AreInData, globals_by, call_of, with_call, with_return}
use Rattle.pw_law_link_run.proofs.Words.{read}

-- ---- arriving

left_all : (core : Core) (calls : List Call) → AllByRecursion (λ call. has_returned core call ≡ false) calls → left core calls ≡ calls
left_all core [] h = refl
left_all core (call ∷ calls) h = rw h.0 (ap (λ r. call ∷ r) (left_all core calls h.1))

returns_none : (m : Map) (core : Core) (inner : ℕ) (calls : List Call) (log : List (Event ℕ ℕ))
    → AllByRecursion (λ call. has_returned core call ≡ false) calls → with_returns m core inner calls log ≡ log
returns_none m core inner [] log h = refl
returns_none m core inner (call ∷ calls) log h = rw h.0 (returns_none m core (inner + 1) calls log h.1)

unless_called : (m : Map) (core : Core) (b : Bool) (f : Option (List ℕ)) (n : Noted) → (b ≡ true) ⊎ (f ≡ None)
    → (if b then n else called m core f n) ≡ n
unless_called m core b f n (inl e) = rw e refl
unless_called m core true f n (inr e) = refl
unless_called m core false f n (inr e) = ap (λ f. called m core f n) e

pub arrived_quiet : (m : Map) (core : Core) (n : Noted) → AllByRecursion (λ call. has_returned core call ≡ false) n.calls
    → (core.nullify ≡ true) ⊎ (function_at m core.front ≡ None) → arrived m core n ≡ n
arrived_quiet m core n h e =
    unless_called m core core.nullify (function_at m core.front) (record { calls = left core n.calls; log = with_returns m core 0 n.calls n.log }) e
    ∙ (ap (λ cs. record { calls = cs; log = with_returns m core 0 n.calls n.log }) (left_all core n.calls h)
    ∙ ap (λ l. record { calls = n.calls; log = l }) (returns_none m core 0 n.calls n.log h))

back_shown : (c : lines.Core) (core : Core) (a : ℕ) (call : Call) → Shows c core → core.front ≡ a → has_returned core call ≡ is_back c a call
back_shown c core a call h e =
    ap (λ f. (f == call.link) && (register core 30 == call.stack)) e
    ∙ ap (λ r. (a == call.link) && (r == call.stack)) (sym (read c core h 30))

none_back : (c : lines.Core) (core : Core) (a : ℕ) (calls : List Call) → Shows c core → core.front ≡ a
    → AllByRecursion (λ call. is_back c a call ≡ false) calls → AllByRecursion (λ call. has_returned core call ≡ false) calls
none_back c core a [] h e q = tt
none_back c core a (call ∷ calls) h e q = (back_shown c core a call h e ∙ q.0, none_back c core a calls h e q.1)

pub quiet_arrival : (x : Setting) (c : lines.Core) (core : Core) (a : ℕ) (n : Noted) → Shows c core → core.front ≡ a → IsQuiet x c a n.calls
    → arrived (map_in x) core n ≡ n
quiet_arrival x c core a n h e q =
    arrived_quiet (map_in x) core n (none_back c core a n.calls h e q.returns) (elim q.enters [
      | inl skip ↦ inl (sym h.skip ∙ skip)
      | inr none ↦ inr (ap (λ f. function_at (map_in x) f) e ∙ none)
    ])

-- no call returns where the stack pointer is above those of all calls
pub high_none : (c : lines.Core) (a : ℕ) (calls : List Call) → AllByRecursion (λ call. call.stack < lines.register c 30) calls
    → AllByRecursion (λ call. is_back c a call ≡ false) calls
high_none c a [] h = tt
high_none c a (call ∷ calls) h =
    let other : (lines.register c 30 == call.stack) ≡ false = ne_eqb (lines.register c 30) call.stack (λ e. omega (arith, e, h.0)) in
    (and_right (a == call.link) (lines.register c 30 == call.stack) other, high_none c a calls h.1)

-- ---- accesses

loaded_same : (i : Inst) (c d : lines.Core) → ((b : ℕ) (im : ℤ) → offset_by (lines.register c b) im ≡ offset_by (lines.register d b) im) → loaded_at i c ≡ loaded_at i d
loaded_same (Ldb im b t) c d h = ap (λ a. Some (a, 1)) (h b im)
loaded_same (Ldh im b t) c d h = ap (λ a. Some (a, 2)) (h b im)
loaded_same (Ldw im b t) c d h = ap (λ a. Some (a, 4)) (h b im)
loaded_same _ c d h = refl

stored_same : (i : Inst) (c d : lines.Core) → ((b : ℕ) (im : ℤ) → offset_by (lines.register c b) im ≡ offset_by (lines.register d b) im) → stored_at i c ≡ stored_at i d
stored_same (Stb r im b) c d h = ap (λ a. Some (a, 1)) (h b im)
stored_same (Sth r im b) c d h = ap (λ a. Some (a, 2)) (h b im)
stored_same (Stw r im b) c d h = ap (λ a. Some (a, 4)) (h b im)
stored_same _ c d h = refl

-- what the machine has noted, by what is loaded and what is stored
abbrev pub noted_by : Map → Option (ℕ × ℕ) → Option (ℕ × ℕ) → FlowGlobal → List (Event ℕ ℕ)
noted_by m loads stores g =
    (if is_eligible m g && touches loads (m.named g.name) g.size then Loaded g.name ∷ [] else [])
    ++ (if is_eligible m g && touches stores (m.named g.name) g.size then Stored g.name ∷ [] else [])

same_accesses : (m : Map) (i : Inst) (c d : lines.Core) → ((b : ℕ) (im : ℤ) → offset_by (lines.register c b) im ≡ offset_by (lines.register d b) im)
    → accesses_of m (Some i) c ≡ accesses_of m (Some i) d
same_accesses m i c d h =
    ap (λ (o : Option (ℕ × ℕ)). flat_map (noted_by m o (stored_at i c)) (globals_of m.flow)) (loaded_same i c d h)
    ∙ ap (λ (o : Option (ℕ × ℕ)). flat_map (noted_by m (loaded_at i d) o) (globals_of m.flow)) (stored_same i c d h)

twice : (b : Bool) (v : ℕ) → (if b then 0 else (if b then 0 else v)) ≡ (if b then 0 else v)
twice true v = refl
twice false v = refl

address_shown : (c : lines.Core) (core : Core) → Shows c core → (b : ℕ) (im : ℤ) → offset_by (lines.register (core_of core) b) im ≡ offset_by (lines.register c b) im
address_shown c core h b im =
    ap (λ (v : ℕ). (v + cast_unsigned w32 im) % 2 ^ 32)
    (ap (λ (v : ℕ). if b == 0 then 0 else v) (sym (h.registers b)))

pub accesses_shown : (x : Setting) (c : lines.Core) (core : Core) (i : Inst) → Shows c core → decoded (word_at core.memory core.front) ≡ Some i
    → accesses_in (map_in x) core ≡ accesses x.program x.addresses (Some i) c
accesses_shown x c core i h d =
    ap (λ o. if core.nullify then [] else accesses_of (map_in x) o (core_of core)) d
    ∙ (ap (λ (b : Bool). if b then [] else accesses_of (map_in x) (Some i) (core_of core)) (sym h.skip)
    ∙ ap (λ (es : List (Event ℕ ℕ)). if c.skip then [] else es) (same_accesses (map_in x) i (core_of core) c (address_shown c core h)))

pub no_touch : (m : Map) (gs : List FlowGlobal) → flat_map (noted_by m None None) gs ≡ []
no_touch m [] = refl
no_touch m (g ∷ gs) = none (is_eligible m g) (no_touch m gs)
  where
    none : (b : Bool) → flat_map (noted_by m None None) gs ≡ []
        → ((if b && false then Loaded g.name ∷ [] else []) ++ (if b && false then Stored g.name ∷ [] else [])) ++ flat_map (noted_by m None None) gs ≡ []
    none true e = e
    none false e = e

empty_both : (b : Bool) (es : List (Event ℕ ℕ)) → es ≡ [] → (if b then [] else es) ≡ []
empty_both true es e = refl
empty_both false es e = e

-- an instruction that neither loads nor stores
pub no_accesses : (x : Setting) (c : lines.Core) (i : Inst) → loaded_at i c ≡ None → stored_at i c ≡ None → accesses x.program x.addresses (Some i) c ≡ []
no_accesses x c i l s =
    empty_both c.skip (accesses_of (map_in x) (Some i) c)
    (ap (λ (o : Option (ℕ × ℕ)). flat_map (noted_by (map_in x) o (stored_at i c)) (globals_of x.program.flow)) l
    ∙ (ap (λ (o : Option (ℕ × ℕ)). flat_map (noted_by (map_in x) None o) (globals_of x.program.flow)) s
    ∙ no_touch (map_in x) (globals_of x.program.flow)))

-- ---- where the globals stand

abbrev SameFrom : ℕ → (ℕ → ℕ) → (ℕ → ℕ) → Type 0
SameFrom low f g = (a : ℕ) → low ≤ a → f a ≡ g a

number_same : (k low : ℕ) (f g : ℕ → ℕ) (a : ℕ) → SameFrom low f g → low ≤ a → number_at k f a ≡ number_at k g a
number_same zero low f g a h le = refl
number_same (suc k) low f g a h le =
    ap (λ v. v * 256 ^ k + number_at k f (a + 1)) (h a le) ∙ ap (λ v. g a * 256 ^ k + v) (number_same k low f g (a + 1) h (omega (arith, le)))

bytes_same : (k low : ℕ) (f g : ℕ → ℕ) (a : ℕ) → SameFrom low f g → low ≤ a → bytes_at k f a ≡ bytes_at k g a
bytes_same zero low f g a h le = refl
bytes_same (suc k) low f g a h le =
    ap (λ v. v ∷ bytes_at k f (a + 1)) (h a le) ∙ ap (λ r. g a ∷ r) (bytes_same k low f g (a + 1) h (omega (arith, le)))

given_same : (low top i : ℕ) (saved : List ℕ) (f g registers : ℕ → ℕ) → SameFrom low f g → low + 4 * (i + length saved) ≤ top
    → given_back f top i saved registers ≡ given_back g top i saved registers
given_same low top i [] f g registers h le = refl
given_same low top i (r ∷ rest) f g registers h le =
    ap (λ v. given_back f top (suc i) rest (put r v registers)) (number_same 4 low f g (top - 4 * (i + 1)) h (omega (arith, le)))
    ∙ given_same low top (suc i) rest f g (put r (number_at 4 g (top - 4 * (i + 1))) registers) h (omega (arith, le))

without_same : (low : ℕ) (a : Active) (f g registers : ℕ → ℕ) → SameFrom low f g → IsSavedFrom low a → without a f registers ≡ without a g registers
without_same low a f g registers h le =
    given_same low (a.stack + a.function.frame - head_size a.function.body) 0 a.function.saved f g registers h (omega (arith, le))

held_same : (low : ℕ) (v : List ℕ) (f g registers : ℕ → ℕ) (actives : List Active) → SameFrom low f g → AllByRecursion (IsSavedFrom low) actives
    → held v f registers actives ≡ held v g registers actives
held_same low v f g registers [] h all = refl
held_same low v f g registers (a ∷ callers) h all =
    ap (λ o. option_or (option_map registers (web_of a.function.body.directives.webs v)) o)
    (held_same low v f g (without a f registers) callers h all.1
    ∙ ap (λ rs. held v g rs callers) (without_same low a f g registers h all.0))

globals_same : (low : ℕ) (named : List ℕ → ℕ) (f g registers : ℕ → ℕ) (actives : List Active) (gs : List FlowGlobal) → SameFrom low f g
    → AllByRecursion (IsSavedFrom low) actives → AllByRecursion (λ v. low ≤ named v.name) gs
    → map (global_now named f registers actives) gs ≡ map (global_now named g registers actives) gs
globals_same low named f g registers actives [] h all above = refl
globals_same low named f g registers actives (v ∷ gs) h all above =
    ap (λ o. standing o (bytes_at v.size f (named v.name)) ∷ map (global_now named f registers actives) gs) (held_same low v.name f g registers actives h all)
    ∙ (ap (λ bs. standing (held v.name g registers actives) bs ∷ map (global_now named f registers actives) gs) (bytes_same v.size low f g (named v.name) h above.0)
    ∙ ap (λ r. global_now named g registers actives v ∷ r) (globals_same low named f g registers actives gs h all above.1))

-- they stand where the lines have them
pub globals_shown : (p : Program) (named : List ℕ → ℕ) (c : lines.Core) (core : Core) (actives : List Active) → Shows c core
    → AllByRecursion (IsSavedFrom core.data_start) actives → AllByRecursion (λ v. core.data_start ≤ named v.name) (globals_of p)
    → globals_now p named (byte_at core.memory) (register core) actives ≡ globals_now p named c.memory c.registers actives
globals_shown p named c core actives h all above =
    ap (λ rs. globals_now p named (byte_at core.memory) rs actives) (fun_ext (λ r. sym (h.registers r)))
    ∙ globals_same core.data_start named (byte_at core.memory) c.memory c.registers actives (globals_of p) (λ a le. sym (h.memory a le)) all above

-- ---- where the machine arrives

pub settles : (x : Setting) (k : ℕ) (c : lines.Core) (a b : ℕ) (rest output : List ℕ) (n : Noted) → Arrives x k c a b rest output n
    → IsQuiet x c a n.calls → At x k c a b rest output n
settles x k c a b rest output n h q = record {
  core = h.core;
  runs = h.runs;
  notes = h.notes ∙ quiet_arrival x c h.core a n h.shows h.front q;
  shows = h.shows;
  front = h.front;
  back = h.back;
}

kept_shown : (c : lines.Core) (core : Core) → Shows c core → kept core ≡ map c.registers kept_registers
kept_shown c core h = ap (λ rs. map rs kept_registers) (fun_ext (λ r. sym (h.registers r)))

globals_in_shown : (x : Setting) (c : lines.Core) (core : Core) (calls : List Call) → Shows c core → core.data_start ≡ x.addresses.data_start
    → AreInData x calls → globals_in (map_in x) core calls ≡ globals_by x c calls
globals_in_shown x c core calls h from are =
    globals_shown x.program.flow x.addresses.named c core (flat_map (active_as (map_in x)) calls) h
    (subst (λ low. AllByRecursion (IsSavedFrom low) (flat_map (active_as (map_in x)) calls)) (sym from) are.saved)
    (subst (λ (low : ℕ). AllByRecursion (λ v. low ≤ x.addresses.named v.name) (globals_of x.program.flow)) (sym from) are.globals)

called_is : (x : Setting) (c : lines.Core) (core : Core) (f : List ℕ) (n : Noted) → Shows c core → core.data_start ≡ x.addresses.data_start
    → AreInData x n.calls → called (map_in x) core (Some f) n ≡ with_call x c f n
called_is x c core f n h from are =
    ap (λ (l : ℕ). record {
      calls = record { function = f; link = l; stack = register core 30; before = kept core } ∷ n.calls;
      log = Called f (globals_in (map_in x) core n.calls) (kept core) ∷ n.log;
    }) (sym (read c core h 2))
    ∙ (ap (λ (l : ℕ). record {
      calls = record { function = f; link = lines.register c 2; stack = l; before = kept core } ∷ n.calls;
      log = Called f (globals_in (map_in x) core n.calls) (kept core) ∷ n.log;
    }) (sym (read c core h 30))
    ∙ (ap (λ (rs : List ℕ). record {
      calls = record { function = f; link = lines.register c 2; stack = lines.register c 30; before = rs } ∷ n.calls;
      log = Called f (globals_in (map_in x) core n.calls) rs ∷ n.log;
    }) (kept_shown c core h)
    ∙ ap (λ (gs : List (Standing ℕ ℕ)). record {
      calls = call_of c f ∷ n.calls;
      log = Called f gs (map c.registers kept_registers) ∷ n.log;
    }) (globals_in_shown x c core n.calls h from are)))

-- a function is called there
pub enters_at : (x : Setting) (k : ℕ) (c : lines.Core) (a b : ℕ) (rest output : List ℕ) (n : Noted) (f : List ℕ) → (h : Arrives x k c a b rest output n)
    → h.core.data_start ≡ x.addresses.data_start → AllByRecursion (λ call. is_back c a call ≡ false) n.calls → c.skip ≡ false
    → function_at (map_in x) a ≡ Some f → AreInData x n.calls → At x k c a b rest output (with_call x c f n)
enters_at x k c a b rest output n f h from none run is are =
    let m = map_in x in
    let all = none_back c h.core a n.calls h.shows h.front none in
    record {
      core = h.core;
      runs = h.runs;
      notes = h.notes
          ∙ (ap (λ (t : Bool). if t then record { calls = left h.core n.calls; log = with_returns m h.core 0 n.calls n.log }
          else called m h.core (function_at m h.core.front) (record { calls = left h.core n.calls; log = with_returns m h.core 0 n.calls n.log })) (sym h.shows.skip ∙ run)
          ∙ (ap (λ cs. called m h.core (function_at m h.core.front) (record { calls = cs; log = with_returns m h.core 0 n.calls n.log })) (left_all h.core n.calls all)
          ∙ (ap (λ l. called m h.core (function_at m h.core.front) (record { calls = n.calls; log = l })) (returns_none m h.core 0 n.calls n.log all)
          ∙ (ap (λ o. called m h.core o n) (ap (λ p. function_at m p) h.front ∙ is)
          ∙ called_is x c h.core f n h.shows from are))));
      shows = h.shows;
      front = h.front;
      back = h.back;
    }

-- the innermost call has returned there
pub returns_at : (x : Setting) (k : ℕ) (c : lines.Core) (a b : ℕ) (rest output : List ℕ) (call : Call) (callers : List Call) (log : List (Event ℕ ℕ))
    → (h : Arrives x k c a b rest output (record { calls = call ∷ callers; log = log })) → h.core.data_start ≡ x.addresses.data_start
    → is_back c a call ≡ true → AllByRecursion (λ call. is_back c a call ≡ false) callers → function_at (map_in x) a ≡ None → AreInData x callers
    → At x k c a b rest output (with_return x c call callers log)
returns_at x k c a b rest output call callers log h from back none is are =
    let m = map_in x in
    let all = none_back c h.core a callers h.shows h.front none in
    let here : has_returned h.core call ≡ true = back_shown c h.core a call h.shows h.front ∙ back in
    let event : Event ℕ ℕ = Returned call.function 0 (globals_in m h.core callers) call.before (kept h.core) in
    let calls_are : left h.core (call ∷ callers) ≡ callers = rw here (left_all h.core callers all) in
    let log_is : with_returns m h.core 0 (call ∷ callers) log ≡ event ∷ log = rw here (returns_none m h.core 0 callers (event ∷ log) all) in
    record {
      core = h.core;
      runs = h.runs;
      notes = h.notes
          ∙ (unless_called m h.core h.core.nullify (function_at m h.core.front) (record { calls = left h.core (call ∷ callers); log = with_returns m h.core 0 (call ∷ callers) log })
          (inr (ap (λ p. function_at m p) h.front ∙ is))
          ∙ (ap (λ cs. record { calls = cs; log = with_returns m h.core 0 (call ∷ callers) log }) calls_are
          ∙ (ap (λ l. record { calls = callers; log = l }) log_is
          ∙ (ap (λ gs. record { calls = callers; log = Returned call.function 0 gs call.before (kept h.core) ∷ log }) (globals_in_shown x c h.core callers h.shows from are)
          ∙ ap (λ rs. record { calls = callers; log = Returned call.function 0 (globals_by x c callers) call.before rs ∷ log }) (kept_shown c h.core h.shows)))));
      shows = h.shows;
      front = h.front;
      back = h.back;
    }
