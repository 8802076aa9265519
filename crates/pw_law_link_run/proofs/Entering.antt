-- The turns that call: the branch with its slot, and what begins at its target.
use Rattle.std.specs.Prelude.{ℕ, suc, ◌≡◌, ◌≢◌, ◌+◌, ◌*◌, ◌%◌, ◌^◌, ◌≤◌, ◌==◌, Bool, true, false, if◌then◌else◌, Option, Some, None, List, [], ◌∷◌, ◌++◌, map, find, Contains, length}
use Rattle.std.specs.List.{AllByRecursion}
use Rattle.std.specs.Str.{bytes_eq}
use Rattle.std.proofs.Common.{arith, subst, sym, ap, refl, ◌∙◌}
use Rattle.std.proofs.lemmas.Bool.{eq-eqb, eqb-true}
use Rattle.std.proofs.lemmas.Slice.Eq.{bytes_eq-Decides}
use Rattle.pw_value.specs.ProgramNames.{exit_name, getchar_name, putchar_name, library_functions}
use Rattle.pw_inst.specs.declared.Inst.TheVariants.{Bl, Ble, Break}
use Rattle.pw_inst.specs.declared.relocation.Symbol.TheVariants as symbol
use Rattle.pw_machine.specs.declared.ends.End.TheVariants as machine_end
use Rattle.pw_machine.specs.Effect as machine
use Rattle.pw_delay.specs.declared.items.Word.{Word}
use Rattle.pw_delay.specs.declared.items.Turn.TheVariants.{CallTo, CallReg}
use Rattle.pw_delay.specs.declared.items.Item.{Item}
use Rattle.pw_delay.specs.declared.items.Item.TheVariants.{Turns}
use Rattle.pw_run.specs.Runs.{End, Ended}
use Rattle.pw_run_languages.specs.Traces.{Event, Called as CalledEvent}
use Rattle.pw_run_languages.specs.Programs.{Library, GetChar, PutChar, Exit, library_at}
use Rattle.pw_run_languages.specs.Acts as lines
use Rattle.pw_run_languages.specs.Acts.{settled, symbol_address}
use Rattle.pw_run_languages.specs.LineRun.{LineFn, Machine, Step, On, Stopped, Astray, kept, left_behind, linked, return_address, notes_call, through_slot, function_named, function_at, calls, calls_at, library, enters}
use Rattle.pw_law_link_run.specs.Steps.{Setting, At, Arrives, with_call, with_accesses, AreInData}
use Rattle.pw_law_link_run.specs.Placing.{name_in, own_address}
use Rattle.pw_law_link_run.specs.Simulating.{calls_from, noted_by, IsLinked, IsCaller, Simulates, IsCalm, IsCalmInside, HasAsking, HasLibrary, IsHigh}
use Rattle.pw_law_link_run.specs.Slots.{SlotDoes, behind_slot}
use Rattle.pw_law_link_run.specs.Meeting.{RunsTo, EndsSo, Meets, end_as, IsHighBehind}
use Rattle.pw_law_link_run.proofs.Noting.{high_none, enters_at}
use Rattle.pw_law_link_run.proofs.Stepping.{starts_at, halts_at_front}
use Rattle.pw_law_link_run.proofs.Words.{read}
use Rattle.pw_law_link_run.proofs.Placed.{left_stands}
use Rattle.pw_law_link_run.proofs.Turning.{text_small, jump_turn, value_turn}
use Rattle.pw_law_link_run.proofs.Items.{left_fit, turn_at, inside_at, on_same}
use Rattle.pw_law_link_run.proofs.Slots.{slot_goes, slot_runs}
use Rattle.pw_law_link_run.proofs.Calls.{globals_are, enters_simulates, called_from}
use Rattle.pw_law_link_run.proofs.Library.{Asks, name_of_library, library_simulates}

-- ---- what is found

pub record Finds {X : Type 0} (test : X → Bool) (xs : List X) (y : X) : Type 0 where
  pub there : Contains xs y
  pub passes : test y ≡ true

found_by : {X : Type 0} (test : X → Bool) (x : X) (xs : List X) (y : X) (b : Bool) → test x ≡ b → (find test xs ≡ Some y → Finds test xs y)
    → (if b then Some x else find test xs) ≡ Some y → Finds test (x ∷ xs) y
found_by test x xs y true is later e =
    let same : x ≡ y = cc in
    record { there = (0, omega arith, same); passes = ap test (sym same) ∙ is }
found_by test x xs y false is later e =
    let h = later e in
    record { there = (suc h.there.0, omega (arith, h.there.1), h.there.2); passes = h.passes }

pub finds : {X : Type 0} (test : X → Bool) (xs : List X) (y : X) → find test xs ≡ Some y → Finds test xs y
finds test [] y e = absurd cc
finds test (x ∷ xs) y e = found_by test x xs y (test x) refl (finds test xs y) e

pub same_bytes : (xs ys : List ℕ) → bytes_eq xs ys ≡ true → xs ≡ ys
same_bytes xs ys e = (bytes_eq-Decides xs ys).0 e

-- ---- the state behind a call's branch

-- register 2 has the return address, and the machine stands at a target
pub record Called (x : Setting) (m : Machine) (k target : ℕ) : Type 0 where
  pub caller : IsCaller x m.frame
  pub callers : AllByRecursion (IsCaller x) m.callers
  pub link : lines.register m.core 2 ≡ return_address x.addresses m.frame m.frame.left
  pub run : m.core.skip ≡ false
  pub count : m.events + 1 ≤ k
  pub read : m.read + length m.rest ≡ length x.start.rest
  pub at : Arrives x k m.core target ((target + 4) % 2 ^ 32) m.rest m.out (noted_by x m)
  pub high : IsHigh x m
  pub saved : AreInData x (calls_from x m.frame m.callers)

-- a function of the program
defined_simulates : (x : Setting) → IsLinked x → (k : ℕ) (m : Machine) (g : LineFn) → Contains x.program.functions g → Called x m k (own_address x g)
    → Simulates x (enters x.program x.addresses g m) k
defined_simulates x l k m g there h =
    enters_simulates x l k g m there h.caller h.callers h.link h.at h.count h.read h.run
    (high_none m.core (own_address x g) (calls_from x m.frame m.callers) h.high) h.saved

-- one of the library
asks_there : (x : Setting) → IsLinked x → (k i : ℕ) (m : Machine) (f : List ℕ) → HasAsking x f i → Called x m k (x.addresses.named f) → Asks x m k f
asks_there x l k i m f has h =
    let a = x.addresses.named f in
    let back : (a + 4) % 2 ^ 32 ≡ a + 4 = omega (arith, text_small x a l.few has.words.first) in
    let at = enters_at x k m.core a ((a + 4) % 2 ^ 32) m.rest m.out (noted_by x m) f h.at
    (starts_at x k m.core a ((a + 4) % 2 ^ 32) m.rest m.out (noted_by x m) l.setting h.at)
    (high_none m.core a (calls_from x m.frame m.callers) h.high) h.run has.entry h.saved in
    record {
      caller = h.caller;
      callers = h.callers;
      link = h.link;
      run = h.run;
      count = h.count;
      read = h.read;
      at = subst (λ b. At x k m.core a b m.rest m.out (with_call x m.core f (noted_by x m))) back at;
      high = h.high;
      saved = h.saved;
    }

library_there : (x : Setting) → IsLinked x → HasLibrary x → (k : ℕ) (m : Machine) (g : Library) → Called x m k (x.addresses.named (name_of_library g))
    → Asks x m k (name_of_library g)
library_there x l lib k m GetChar h = asks_there x l k 1 m getchar_name lib.getchar h
library_there x l lib k m PutChar h = asks_there x l k 2 m putchar_name lib.putchar h
library_there x l lib k m Exit h = asks_there x l k 3 m exit_name lib.exit h

-- ---- by the name of what is called

library_named : (f : List ℕ) (g : Library) → library_at f ≡ Some g → f ≡ name_of_library g
library_named f g e = by (bytes_eq f getchar_name) (bytes_eq f putchar_name) (bytes_eq f exit_name) refl refl refl e
  where
    by : (a b c : Bool) → bytes_eq f getchar_name ≡ a → bytes_eq f putchar_name ≡ b → bytes_eq f exit_name ≡ c
        → (if a then Some GetChar else if b then Some PutChar else if c then Some Exit else None) ≡ Some g → f ≡ name_of_library g
    by true b c p q r e = let same : GetChar ≡ g = cc in same_bytes f getchar_name p ∙ ap name_of_library same
    by false true c p q r e = let same : PutChar ≡ g = cc in same_bytes f putchar_name q ∙ ap name_of_library same
    by false false true p q r e = let same : Exit ≡ g = cc in same_bytes f exit_name r ∙ ap name_of_library same
    by false false false p q r e = absurd cc

-- what the lines do at a call, by what is found
abbrev pub called_by : Setting → Machine → Option Library → Option LineFn → Step
called_by x m (Some g) defined = library x.program x.addresses g m
called_by x m None (Some defined) = On (enters x.program x.addresses defined m)
called_by x m None None = Astray

called_so : (x : Setting) → IsLinked x → HasLibrary x → (k : ℕ) (m t : Machine) (f : List ℕ) (o : Option Library) (d : Option LineFn) → library_at f ≡ o
    → function_named x.program f ≡ d → Called x m k (x.addresses.named f) → called_by x m o d ≡ On t → (o ≢ None → IsCalm x t) → RunsTo x t
called_so x l lib k m t f (Some g) d is defined h e calm =
    let name = library_named f g is in
    record {
      steps = suc (suc (suc k));
      simulates = library_simulates x l lib k m t g (library_there x l lib k m g (subst (λ f. Called x m k (x.addresses.named f)) name h)) e (calm (λ none. absurd cc));
    }
called_so x l lib k m t f None (Some g) is defined h e calm =
    let found = finds (λ g. bytes_eq g.located.body.name f) x.program.functions g defined in
    let name : name_in g ≡ f = same_bytes (name_in g) f found.passes in
    record {
      steps = k;
      simulates = subst (λ (t : Machine). Simulates x t k) (sym (on_same (enters x.program x.addresses g m) t e))
          (defined_simulates x l k m g found.there (subst (λ f. Called x m k (x.addresses.named f)) (sym name) h));
    }
called_so x l lib k m t f None None is defined h e calm = absurd cc

-- ---- a call of a symbol

pub calls_are : (x : Setting) (m : Machine) (to : ℕ) (f : List ℕ) (o : Option Library) (d : Option LineFn) → library_at f ≡ o → function_named x.program f ≡ d
    → lines.register m.core 2 ≡ to → calls x.program x.addresses to f m ≡ called_by x m o d
calls_are x m to f (Some g) d is defined link = rw (eq-eqb (lines.register m.core 2) to link, is) refl
calls_are x m to f None (Some g) is defined link = rw (eq-eqb (lines.register m.core 2) to link, is, defined) refl
calls_are x m to f None None is defined link = rw (eq-eqb (lines.register m.core 2) to link, is, defined) refl

pub calls_there : (x : Setting) → IsLinked x → HasLibrary x → (k to : ℕ) (m t : Machine) (f : List ℕ) → lines.register m.core 2 ≡ to
    → Called x m k (x.addresses.named f) → calls x.program x.addresses to f m ≡ On t → (library_at f ≢ None → IsCalm x t) → RunsTo x t
calls_there x l lib k to m t f link h e calm =
    called_so x l lib k m t f (library_at f) (function_named x.program f) refl refl h
    (sym (calls_are x m to f (library_at f) (function_named x.program f) refl refl link) ∙ e) calm

some_same : (a b : ℕ) → Some a ≡ Some b → a ≡ b
some_same a b e = cc

-- the state at the turn, and the one behind its branch
abbrev pub calling : Machine → List ℕ → Option Word → List Item → Machine
calling m f slot rest = left_behind (Turns (CallTo (symbol.Named f) 2) slot ∷ rest) m

abbrev pub after_call : Setting → Machine → List Item → Machine
after_call x m rest = linked 2 (return_address x.addresses m.frame rest) (left_behind rest m)

pub call_turn : (x : Setting) → IsLinked x → (k : ℕ) (m : Machine) (f : List ℕ) (slot : Option Word) (rest : List Item) (d : lines.Core) (es : List (Event ℕ ℕ))
    → Simulates x (calling m f slot rest) k → m.core.skip ≡ false → IsCalmInside x (calling m f slot rest) 2 → AreInData x (calls_from x m.frame m.callers)
    → SlotDoes x slot (after_call x m rest).core d es → IsHigh x (behind_slot d es m) → lines.register d 2 ≡ return_address x.addresses m.frame rest
    → Called x (behind_slot d es (after_call x m rest)) (suc (suc k)) (x.addresses.named f)
call_turn x l k m f slot rest d es h run inside saved does high link =
    let fn = m.frame.function in
    let a = h.address in
    let item = Turns (CallTo (symbol.Named f) 2) slot in
    let stands = left_stands x fn (l.stands fn h.there) (item ∷ rest) a h.left in
    let fit = (left_fit x l fn h.there (item ∷ rest) a h.left).0.1 in
    let symbol_is = stands.0.0 in
    let to = return_address x.addresses m.frame rest in
    let back : to ≡ a + 8 = stands.0.2 in
    let target : x.addresses.named f ≡ symbol_is.target = some_same (x.addresses.named f) symbol_is.target symbol_is.is in
    let n = noted_by x m in
    let c = m.core in
    let turn = turn_at x l fn h.there item rest a (Bl symbol_is.jumps.displacement 2 false) h.left (omega arith) symbol_is.jumps.is in
    let quiet = inside_at x m (item ∷ rest) 2 a 1 (a + 4) inside h.left (omega arith) (omega arith) (omega arith) in
    let arrives = jump_turn x k c d a symbol_is.target 2 symbol_is.jumps.displacement m.rest m.out n slot es l.setting l.few h.at turn symbol_is.jumps.leads (omega arith) stands.0.1 fit run run
    (record { returns = quiet.returns; enters = quiet.enters }) (subst (λ v. SlotDoes x slot (lines.with_register 2 v c) d es) back does) in
    let behind : to ≡ a + 4 * 2 = omega (arith, back) in
    record {
      caller = called_from x m item rest h.there a h.left tt behind;
      callers = h.callers;
      link = link;
      run = slot_runs x slot (after_call x m rest).core d es fit run does;
      count = omega (arith, h.events);
      read = h.read;
      at = subst (λ v. Arrives x (suc (suc k)) d v ((v + 4) % 2 ^ 32) m.rest m.out (with_accesses es n)) (sym target) arrives;
      high = high;
      saved = saved;
    }

-- ---- a call through a register

-- the state behind the branch
abbrev pub branched : Setting → Machine → List Item → Machine
branched x m rest = linked 31 (return_address x.addresses m.frame rest) (left_behind rest m)

abbrev pub calling_value : Machine → Option Word → List Item → Machine
calling_value m slot rest = left_behind (Turns CallReg slot ∷ rest) m

value_called : (x : Setting) → IsLinked x → (k target : ℕ) (m : Machine) (slot : Option Word) (rest : List Item) (d : lines.Core) (es : List (Event ℕ ℕ))
    → Simulates x (calling_value m slot rest) k → m.core.skip ≡ false → IsCalmInside x (calling_value m slot rest) 2 → AreInData x (calls_from x m.frame m.callers)
    → SlotDoes x slot (branched x m rest).core d es → IsHigh x (behind_slot d es m) → lines.register m.core 22 ≡ target
    → lines.register d 2 ≡ return_address x.addresses m.frame rest → Called x (behind_slot d es (branched x m rest)) (suc (suc k)) target
value_called x l k target m slot rest d es h run inside saved does high there link =
    let fn = m.frame.function in
    let a = h.address in
    let item = Turns CallReg slot in
    let stands = left_stands x fn (l.stands fn h.there) (item ∷ rest) a h.left in
    let fit = (left_fit x l fn h.there (item ∷ rest) a h.left).0 in
    let to = return_address x.addresses m.frame rest in
    let back : to ≡ a + 8 = stands.0.2 in
    let n = noted_by x m in
    let c = m.core in
    let turn = turn_at x l fn h.there item rest a (Ble 22 false) h.left (omega arith) stands.0.0 in
    let quiet = inside_at x m (item ∷ rest) 2 a 1 (a + 4) inside h.left (omega arith) (omega arith) (omega arith) in
    let arrives = value_turn x k c d a m.rest m.out n slot es l.setting l.few h.at turn stands.0.1 fit run (record { returns = quiet.returns; enters = quiet.enters })
    (subst (λ v. SlotDoes x slot (lines.with_register 31 v c) d es) back does) in
    let behind : to ≡ a + 4 * 2 = omega (arith, back) in
    record {
      caller = called_from x m item rest h.there a h.left tt behind;
      callers = h.callers;
      link = link;
      run = slot_runs x slot (branched x m rest).core d es fit run does;
      count = omega (arith, h.events);
      read = h.read;
      at = subst (λ v. Arrives x (suc (suc k)) d v ((v + 4) % 2 ^ 32) m.rest m.out (with_accesses es n)) there arrives;
      high = high;
      saved = saved;
    }

-- ---- ends

library_alone : (x : Setting) (m t : Machine) (rest : List ℕ) (end : End) → library x.program x.addresses GetChar (record m { rest = rest }) ≡ Stopped end t → ⊥
library_alone x m t [] end e = cc
library_alone x m t (byte ∷ rest) end e = cc

stopped_same : (e f : End) (m t : Machine) → Stopped e m ≡ Stopped f t → (f ≡ e) × (t ≡ m)
stopped_same e f m t h = (cc, cc)

exit_ends : (x : Setting) → IsLinked x → HasLibrary x → (k : ℕ) (m t : Machine) (end : End) → Asks x m k exit_name
    → library x.program x.addresses Exit m ≡ Stopped end t → EndsSo x end t
exit_ends x l lib k m t end a e =
    let status = lines.register m.core 26 % 256 in
    let done = notes_call x.program x.addresses exit_name m in
    let same = stopped_same (Ended status) end done t e in
    let n = with_call x m.core exit_name (noted_by x m) in
    let halt = halts_at_front x k m.core (x.addresses.named exit_name) (x.addresses.named exit_name + 4) m.rest m.out n (Break 0 3) (end_as (Ended status)) l.setting a.at
    lib.exit.words.first lib.exit.words.asks a.run
    (λ core h. ap (λ (v : ℕ). machine.Stops (machine_end.Ended (v % 256))) (sym (read m.core core h 26))) in
    let log : n.log ≡ done.trace =
    ap (λ gs. CalledEvent exit_name gs (kept m.core) ∷ m.trace) (globals_are x l m.core m.frame m.callers a.caller.there a.callers) in
    subst (λ (end : End). EndsSo x end t) (sym same.0)
    (subst (λ (t : Machine). EndsSo x (Ended status) t) (sym same.1) (record {
      steps = suc k;
      core = halt.core;
      runs = halt.runs;
      log = ap (λ n. n.log) halt.notes ∙ log;
      events = omega (arith, a.count);
      read = a.read;
    }))

library_ends : (x : Setting) → IsLinked x → HasLibrary x → (k : ℕ) (m t : Machine) (g : Library) (end : End) → Asks x m k (name_of_library g)
    → library x.program x.addresses g m ≡ Stopped end t → EndsSo x end t
library_ends x l lib k m t GetChar end a e = absurd (library_alone x m t m.rest end e)
library_ends x l lib k m t PutChar end a e = absurd cc
library_ends x l lib k m t Exit end a e = exit_ends x l lib k m t end a e

called_ends : (x : Setting) → IsLinked x → HasLibrary x → (k : ℕ) (m t : Machine) (f : List ℕ) (end : End) (o : Option Library) (d : Option LineFn) → library_at f ≡ o
    → Called x m k (x.addresses.named f) → called_by x m o d ≡ Stopped end t → EndsSo x end t
called_ends x l lib k m t f end (Some g) d is h e =
    library_ends x l lib k m t g end (library_there x l lib k m g (subst (λ f. Called x m k (x.addresses.named f)) (library_named f g is) h)) e
called_ends x l lib k m t f end None (Some g) is h e = absurd cc
called_ends x l lib k m t f end None None is h e = absurd cc

-- by what a call comes to, where its return address stands in register 2
calls_linked : (x : Setting) → IsLinked x → HasLibrary x → (k to : ℕ) (m : Machine) (f : List ℕ) (s : Step) → lines.register m.core 2 ≡ to
    → Called x m k (x.addresses.named f) → calls x.program x.addresses to f m ≡ s → ((t : Machine) → s ≡ On t → library_at f ≢ None → IsCalm x t) → Meets x s
calls_linked x l lib k to m f (On t) link h e calm = calls_there x l lib k to m t f link h e (calm t refl)
calls_linked x l lib k to m f (Stopped end t) link h e calm =
    called_ends x l lib k m t f end (library_at f) (function_named x.program f) refl h
    (sym (calls_are x m to f (library_at f) (function_named x.program f) refl refl link) ∙ e)
calls_linked x l lib k to m f Astray link h e calm = tt

-- and where it does not, the lines go astray
pub calls_astray : (x : Setting) (to : ℕ) (m : Machine) (f : List ℕ) → (lines.register m.core 2 == to) ≡ false → calls x.program x.addresses to f m ≡ Astray
calls_astray x to m f is = rw is refl

pub calls_meet : (x : Setting) → IsLinked x → HasLibrary x → (k to : ℕ) (m : Machine) (f : List ℕ) → (lines.register m.core 2 ≡ to → Called x m k (x.addresses.named f))
    → ((t : Machine) → calls x.program x.addresses to f m ≡ On t → library_at f ≢ None → IsCalm x t) → Meets x (calls x.program x.addresses to f m)
calls_meet x l lib k to m f h calm = by (lines.register m.core 2 == to) refl
  where
    by : (b : Bool) → (lines.register m.core 2 == to) ≡ b → Meets x (calls x.program x.addresses to f m)
    by true is =
        let link = eqb-true (lines.register m.core 2) to is in
        calls_linked x l lib k to m f (calls x.program x.addresses to f m) link (h link) refl calm
    by false is = subst (λ s. Meets x s) (sym (calls_astray x to m f is)) tt

-- ---- the turns

-- by the state behind the slot
pub named_meets : (x : Setting) → IsLinked x → HasLibrary x → (k : ℕ) (m : Machine) (f : List ℕ) (slot : Option Word) (rest : List Item)
    → Simulates x (calling m f slot rest) k → m.core.skip ≡ false → IsCalmInside x (calling m f slot rest) 2 → AreInData x (calls_from x m.frame m.callers)
    → IsHighBehind x m (Turns (CallTo (symbol.Named f) 2) slot)
    → ((t : Machine) → through_slot x.program x.addresses slot (calls x.program x.addresses (return_address x.addresses m.frame rest) f) (after_call x m rest) ≡ On t → library_at f ≢ None → IsCalm x t)
    → Meets x (through_slot x.program x.addresses slot (calls x.program x.addresses (return_address x.addresses m.frame rest) f) (after_call x m rest))
named_meets x l lib k m f slot rest h run inside saved high calm =
    let fn = m.frame.function in
    let to = return_address x.addresses m.frame rest in
    let fit = (left_fit x l fn h.there (Turns (CallTo (symbol.Named f) 2) slot ∷ rest) h.address h.left).0.1 in
    slot_goes x slot (after_call x m rest) (calls x.program x.addresses to f) (λ s. ((t : Machine) → s ≡ On t → library_at f ≢ None → IsCalm x t) → Meets x s) fit run (λ calm. tt)
    (λ d es does calm.
    calls_meet x l lib (suc (suc k)) to (behind_slot d es (after_call x m rest)) f
    (λ link. call_turn x l k m f slot rest d es h run inside saved does (high to d es does) link) calm) calm

-- what is called by what stands at the address in register 22
value_by : (x : Setting) → IsLinked x → HasLibrary x → (k : ℕ) (m : Machine) (slot : Option Word) (rest : List Item) (o : Option (List ℕ)) (d : lines.Core) (es : List (Event ℕ ℕ))
    → function_at x.program x.addresses (lines.register m.core 22) ≡ o → Simulates x (calling_value m slot rest) k → m.core.skip ≡ false → IsCalmInside x (calling_value m slot rest) 2
    → AreInData x (calls_from x m.frame m.callers) → IsHighBehind x m (Turns CallReg slot) → SlotDoes x slot (branched x m rest).core d es
    → ((t : Machine) → calls_at x.program x.addresses (return_address x.addresses m.frame rest) o (behind_slot d es (branched x m rest)) ≡ On t → (f : List ℕ) → o ≡ Some f → library_at f ≢ None → IsCalm x t)
    → Meets x (calls_at x.program x.addresses (return_address x.addresses m.frame rest) o (behind_slot d es (branched x m rest)))
value_by x l lib k m slot rest None d es is h run inside saved high does calm = tt
value_by x l lib k m slot rest (Some f) d es is h run inside saved high does calm =
    let to = return_address x.addresses m.frame rest in
    let found = finds (λ f. x.addresses.named f == lines.register m.core 22) (library_functions ++ map (λ f. f.located.body.name) x.program.functions) f is in
    let target : lines.register m.core 22 ≡ x.addresses.named f = sym (eqb-true (x.addresses.named f) (lines.register m.core 22) found.passes) in
    calls_meet x l lib (suc (suc k)) to (behind_slot d es (branched x m rest)) f
    (λ link. value_called x l k (x.addresses.named f) m slot rest d es h run inside saved does (high to d es does) target link) (λ t same. calm t same f refl)

pub values_meet : (x : Setting) → IsLinked x → HasLibrary x → (k : ℕ) (m : Machine) (slot : Option Word) (rest : List Item)
    → Simulates x (calling_value m slot rest) k → m.core.skip ≡ false → IsCalmInside x (calling_value m slot rest) 2 → AreInData x (calls_from x m.frame m.callers)
    → IsHighBehind x m (Turns CallReg slot)
    → ((t : Machine) → through_slot x.program x.addresses slot
    (calls_at x.program x.addresses (return_address x.addresses m.frame rest) (function_at x.program x.addresses (lines.register m.core 22))) (branched x m rest) ≡ On t
    → (f : List ℕ) → function_at x.program x.addresses (lines.register m.core 22) ≡ Some f → library_at f ≢ None → IsCalm x t)
    → Meets x (through_slot x.program x.addresses slot
    (calls_at x.program x.addresses (return_address x.addresses m.frame rest) (function_at x.program x.addresses (lines.register m.core 22))) (branched x m rest))
values_meet x l lib k m slot rest h run inside saved high calm =
    let o = function_at x.program x.addresses (lines.register m.core 22) in
    let next = calls_at x.program x.addresses (return_address x.addresses m.frame rest) o in
    let fit = (left_fit x l m.frame.function h.there (Turns CallReg slot ∷ rest) h.address h.left).0 in
    slot_goes x slot (branched x m rest) next (λ s. ((t : Machine) → s ≡ On t → (f : List ℕ) → o ≡ Some f → library_at f ≢ None → IsCalm x t) → Meets x s) fit run (λ calm. tt)
    (λ d es does calm. value_by x l lib k m slot rest o d es refl h run inside saved high does calm) calm
