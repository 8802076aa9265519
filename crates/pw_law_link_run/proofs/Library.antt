-- Calls of the library's functions: each asks by one instruction, and returns by the next.
use Rattle.std.specs.Prelude.{ℕ, suc, ◌≡◌, ◌+◌, ◌-◌, ◌%◌, ◌^◌, ◌<◌, ◌≤◌, ◌==◌, true, false, Some, None, List, [], ◌∷◌, ◌++◌, length}
use Rattle.std.specs.List.{AllByRecursion}
use Rattle.std.proofs.Common.{arith, subst, sym, ap, refl, ◌∙◌, inl, inr}
use Rattle.std.proofs.lemmas.Bool.{eq-eqb, ne_eqb, and_left, and_right}
use Rattle.pw_value.specs.ProgramNames.{exit_name, getchar_name, putchar_name}
use Rattle.pw_inst.specs.declared.Inst.TheVariants.{Break}
use Rattle.pw_machine.specs.Core.{Core}
use Rattle.pw_machine.specs.Effect.{Effect, Reads, Writes, Stops, effect_of}
use Rattle.pw_machine.specs.Effect as machine
use Rattle.pw_machine.specs.Run.{State, Running, run_of, goes_on, taken, answered}
use Rattle.pw_law_code.specs.Lawful.{IsLawfulCore}
use Rattle.pw_run_languages.specs.Traces.{Standing, Called, Returned}
use Rattle.pw_run_languages.specs.Programs.{Library, GetChar, PutChar, Exit}
use Rattle.pw_run_languages.specs.Acts as lines
use Rattle.pw_run_languages.specs.LineRun.{Machine, On, kept, counted, globals_in, return_address, notes_call, library}
use Rattle.pw_run_languages.specs.MachineRun.{Call, Noted, stepped, arrived, accesses_in, function_at}
use Rattle.pw_run_languages.specs.MachineRun as noting
use Rattle.pw_law_link_run.specs.Showing.{Shows}
use Rattle.pw_law_link_run.specs.Steps.{Setting, map_in, fetched, IsInText, IsSetting, At, Arrives, is_back, globals_by, call_of, with_call, with_return, with_accesses, AreInData}
use Rattle.pw_law_link_run.specs.Placing.{IsLeft}
use Rattle.pw_law_link_run.specs.Simulating.{calls_from, noted_by, IsLinked, IsCaller, Simulates, IsCalm, IsAsking, HasAsking, HasLibrary, IsHigh}
use Rattle.pw_law_link_run.proofs.Words.{read, puts_done, effect_runs}
use Rattle.pw_law_link_run.proofs.Noting.{settles, high_none, returns_at, accesses_shown, no_accesses}
use Rattle.pw_law_link_run.proofs.Stepping.{faces, starts_at}
use Rattle.pw_law_link_run.proofs.Turning.{text_small, return_turn}
use Rattle.pw_law_link_run.proofs.Items.{here_in_text}
use Rattle.pw_law_link_run.proofs.Calls.{globals_are, calm_there, caller_left}

-- ---- a step that asks

-- what comes of it
record Answered (x : Setting) (k : ℕ) (s t : State) (n : Noted) : Type 0 where
  pub runs : run_of (suc k) x.start ≡ Running t
  pub notes : noting.noted (map_in x) x.start (suc k) ≡ arrived (map_in x) t.core (with_accesses (accesses_in (map_in x) s.core) n)

asked : (x : Setting) (k : ℕ) (s t : State) (n : Noted) → run_of k x.start ≡ Running s → noting.noted (map_in x) x.start k ≡ n
    → taken (effect_of s.core) s ≡ Running t → Answered x k s t n
unfolding run_of noting.noted
asked x k s t n r h e =
    let goes : goes_on (run_of k x.start) ≡ Running t = ap goes_on r ∙ e in
    record {
      runs = goes;
      notes = ap (λ p. stepped (map_in x) p (goes_on (run_of k x.start)) (noting.noted (map_in x) x.start k)) r
          ∙ (ap (λ q. stepped (map_in x) (Running s) q (noting.noted (map_in x) x.start k)) goes
          ∙ ap (λ n. stepped (map_in x) (Running s) (Running t) n) h);
    }

goes_same : (a b : Core) → machine.Goes a ≡ machine.Goes b → a ≡ b
goes_same a b e = cc

shows_answer : (c : lines.Core) (core : Core) (v : ℕ) → IsLawfulCore core → Shows c core → core.nullify ≡ false
    → Shows (lines.with_register 28 v c) (answered core v)
shows_answer c core v is h run =
    let leads = puts_done c core 28 v v is (omega arith) h run refl in
    subst (λ core. Shows (lines.with_register 28 v c) core) (sym (goes_same (answered core v) leads.new leads.goes)) leads.shows

-- a word comes into register 28
break_at_front : (x : Setting) (k i : ℕ) (c : lines.Core) (a b v : ℕ) (rest output rest' output' : List ℕ) (n : Noted) → IsSetting x
    → (h : At x k c a b rest output n) → IsInText x a → fetched x a ≡ Some (Break 0 i) → c.skip ≡ false
    → ((core : Core) → Shows c core → taken (machine.executed core (Break 0 i)) (record { core = core; rest = rest; output = output }) ≡ Running (record { core = answered core v; rest = rest'; output = output' }))
    → Arrives x (suc k) (lines.with_register 28 v c) b ((b + 4) % 2 ^ 32) rest' output' n
break_at_front x k i c a b v rest output rest' output' n s h t f run does =
    let face = faces x k c a b rest output n (Break 0 i) s h t f in
    let null = sym h.shows.skip ∙ run in
    let st : State = record { core = h.core; rest = rest; output = output } in
    let effect = effect_runs h.core (Break 0 i) face.text null face.decodes in
    let one = asked x k st (record { core = answered h.core v; rest = rest'; output = output' }) n h.runs h.notes
    (ap (λ e. taken e st) effect ∙ does h.core h.shows) in
    record {
      core = answered h.core v;
      runs = one.runs;
      notes = one.notes ∙ ap (λ es. arrived (map_in x) (answered h.core v) (with_accesses es n)) (accesses_shown x c h.core (Break 0 i) h.shows face.decodes ∙ no_accesses x c (Break 0 i) refl refl);
      shows = shows_answer c h.core v face.lawful h.shows null;
      front = h.back;
      back = ap (λ p. (p + 4) % 2 ^ 32) h.back;
    }

-- ---- a function of the library that answers

-- nothing returns between them, and nothing begins at the second
pub record IsAlone (x : Setting) (c : lines.Core) (a : ℕ) (calls : List Call) : Type 0 where
  pub second : AllByRecursion (λ call. is_back c (a + 4) call ≡ false) calls
  pub behind : AllByRecursion (λ call. is_back c (a + 4 + 4) call ≡ false) calls
  pub none : function_at (map_in x) (a + 4) ≡ None

abbrev pub after_answer : Setting → Machine → List ℕ → ℕ → List ℕ → ℕ → List ℕ → Machine
after_answer x m f v rest read out =
    let s : Machine = record (notes_call x.program x.addresses f m) { rest = rest; read = read; out = out } in
    let c = lines.with_register 28 v m.core in
    record (counted s) {
      core = c;
      trace = Returned f 0 (globals_in x.program x.addresses c (m.frame ∷ m.callers)) (kept m.core) (kept c) ∷ s.trace;
    }

answer_noted : (x : Setting) → IsLinked x → (m : Machine) (f : List ℕ) (v read : ℕ) (rest out : List ℕ) → IsCaller x m.frame → AllByRecursion (IsCaller x) m.callers
    → with_return x (lines.with_register 28 v m.core) (call_of m.core f) (calls_from x m.frame m.callers) (with_call x m.core f (noted_by x m)).log
    ≡ noted_by x (after_answer x m f v rest read out)
answer_noted x l m f v read rest out caller callers =
    let c = lines.with_register 28 v m.core in
    let calls = calls_from x m.frame m.callers in
    ap (λ (gs : List (Standing ℕ ℕ)). record {
      calls = calls;
      log = Returned f 0 gs (kept m.core) (kept c) ∷ Called f (globals_by x m.core calls) (kept m.core) ∷ m.trace;
    }) (globals_are x l c m.frame m.callers caller.there callers)
    ∙ ap (λ (gs : List (Standing ℕ ℕ)). record {
      calls = calls;
      log = Returned f 0 (globals_in x.program x.addresses c (m.frame ∷ m.callers)) (kept m.core) (kept c) ∷ Called f gs (kept m.core) ∷ m.trace;
    }) (globals_are x l m.core m.frame m.callers caller.there callers)

pub answers_simulate : (x : Setting) → IsLinked x → (k i a v read : ℕ) (m : Machine) (f rest out : List ℕ) → IsCaller x m.frame → AllByRecursion (IsCaller x) m.callers
    → lines.register m.core 2 ≡ return_address x.addresses m.frame m.frame.left → m.core.skip ≡ false → m.events ≤ k → read + length rest ≡ length x.start.rest
    → At x k m.core a (a + 4) m.rest m.out (with_call x m.core f (noted_by x m)) → IsAsking x a i
    → IsAlone x m.core a (call_of m.core f ∷ calls_from x m.frame m.callers) → AreInData x (calls_from x m.frame m.callers)
    → ((core : Core) → Shows m.core core → taken (machine.executed core (Break 0 i)) (record { core = core; rest = m.rest; output = m.out }) ≡ Running (record { core = answered core v; rest = rest; output = out }))
    → IsCalm x (after_answer x m f v rest read out) → Simulates x (after_answer x m f v rest read out) (suc (suc (suc k)))
answers_simulate x l k i a v read m f rest out caller callers link run count reads h asking alone are does calm =
    let c = lines.with_register 28 v m.core in
    let n = with_call x m.core f (noted_by x m) in
    let to = lines.register m.core 2 in
    let small = text_small x a l.few asking.first in
    let one = break_at_front x k i m.core a (a + 4) v m.rest m.out rest out n l.setting h asking.first asking.asks run does in
    let back : (a + 4 + 4) % 2 ^ 32 ≡ a + 4 + 4 = omega (arith, small) in
    let at_second = subst (λ b. At x (suc k) c (a + 4) b rest out n) back
    (settles x (suc k) c (a + 4) ((a + 4 + 4) % 2 ^ 32) rest out n one (record { returns = alone.second; enters = inr alone.none })) in
    let two = return_turn x (suc k) c (a + 4) 2 rest out n l.setting at_second
    (record { here = asking.second; slot = asking.behind; is = asking.leaves }) run (record { returns = alone.behind; enters = inl refl }) in
    let same : record c { skip = false } ≡ c = ap (λ b. record c { skip = b }) (sym run) in
    let left : IsLeft x m.frame.function m.frame.left to = subst (λ v. IsLeft x m.frame.function m.frame.left v) (sym link) (caller_left x m.frame caller) in
    let text = here_in_text x l m.frame.function caller.there m.frame.left to left in
    let next_to : (to + 4) % 2 ^ 32 ≡ to + 4 = omega (arith, text_small x to l.few text) in
    let there = subst (λ b. Arrives x (suc (suc (suc k))) c to b rest out n) next_to
    (subst (λ d. Arrives x (suc (suc (suc k))) d to ((to + 4) % 2 ^ 32) rest out n) same two) in
    let quiet = calm_there x (after_answer x m f v rest read out) to calm run left in
    let here : is_back c to (call_of m.core f) ≡ true = rw (eq-eqb to to refl, eq-eqb (lines.register m.core 30) (lines.register m.core 30) refl) refl in
    let at = returns_at x (suc (suc (suc k))) c to (to + 4) rest out (call_of m.core f) (calls_from x m.frame m.callers) n.log there
    (starts_at x (suc (suc (suc k))) c to (to + 4) rest out n l.setting there) here quiet.0 quiet.1 are in
    record {
      address = to;
      at = subst (λ n. At x (suc (suc (suc k))) c to (to + 4) rest out n) (answer_noted x l m f v read rest out caller callers) at;
      there = caller.there;
      left = left;
      callers = callers;
      events = omega (arith, count);
      read = reads;
    }

-- ---- what the lines do

on_same : (m t : Machine) → On m ≡ On t → t ≡ m
on_same m t e = cc

-- the call itself does not, behind the first word
alone_by : (x : Setting) → (m : Machine) (f : List ℕ) (i : ℕ) → HasAsking x f i → IsCaller x m.frame
    → lines.register m.core 2 ≡ return_address x.addresses m.frame m.frame.left → IsHigh x m
    → IsAlone x m.core (x.addresses.named f) (call_of m.core f ∷ calls_from x m.frame m.callers)
alone_by x m f i h caller link high =
    let a = x.addresses.named f in
    let low = h.apart m.frame caller in
    let one : (a + 4 == lines.register m.core 2) ≡ false = ne_eqb (a + 4) (lines.register m.core 2) (λ e. omega (arith, e, link, low)) in
    let two : (a + 4 + 4 == lines.register m.core 2) ≡ false = ne_eqb (a + 4 + 4) (lines.register m.core 2) (λ e. omega (arith, e, link, low)) in
    let same = lines.register m.core 30 == lines.register m.core 30 in
    record {
      second = (and_left (a + 4 == lines.register m.core 2) same one, high_none m.core (a + 4) (calls_from x m.frame m.callers) high);
      behind = (and_left (a + 4 + 4 == lines.register m.core 2) same two, high_none m.core (a + 4 + 4) (calls_from x m.frame m.callers) high);
      none = h.second;
    }

-- at the first word of a function of the library
pub record Asks (x : Setting) (m : Machine) (k : ℕ) (f : List ℕ) : Type 0 where
  pub caller : IsCaller x m.frame
  pub callers : AllByRecursion (IsCaller x) m.callers
  pub link : lines.register m.core 2 ≡ return_address x.addresses m.frame m.frame.left
  pub run : m.core.skip ≡ false
  pub count : m.events + 1 ≤ k
  pub read : m.read + length m.rest ≡ length x.start.rest
  pub at : At x k m.core (x.addresses.named f) (x.addresses.named f + 4) m.rest m.out (with_call x m.core f (noted_by x m))
  pub high : IsHigh x m
  pub saved : AreInData x (calls_from x m.frame m.callers)

asks_by : (x : Setting) → IsLinked x → (k i v read : ℕ) (m t : Machine) (f rest out : List ℕ) → HasAsking x f i → Asks x m k f
    → ((core : Core) → Shows m.core core → taken (machine.executed core (Break 0 i)) (record { core = core; rest = m.rest; output = m.out }) ≡ Running (record { core = answered core v; rest = rest; output = out }))
    → read + length rest ≡ length x.start.rest → t ≡ after_answer x m f v rest read out → IsCalm x t → Simulates x t (suc (suc (suc k)))
asks_by x l k i v read m t f rest out has a does reads same calm =
    subst (λ (t : Machine). Simulates x t (suc (suc (suc k)))) (sym same)
    (answers_simulate x l k i (x.addresses.named f) v read m f rest out a.caller a.callers a.link a.run (omega (arith, a.count)) reads a.at has.words
    (alone_by x m f i has a.caller a.link a.high) a.saved does (subst (λ (t : Machine). IsCalm x t) same calm))

getchar_by : (x : Setting) → IsLinked x → (k : ℕ) (m t : Machine) (rest : List ℕ) → HasAsking x getchar_name 1 → Asks x (record m { rest = rest }) k getchar_name
    → library x.program x.addresses GetChar (record m { rest = rest }) ≡ On t → IsCalm x t → Simulates x t (suc (suc (suc k)))
getchar_by x l k m t [] has a e calm =
    asks_by x l k 1 (2 ^ 32 - 1) m.read (record m { rest = [] }) t getchar_name [] m.out has a (λ core h. refl) a.read (on_same _ t e) calm
getchar_by x l k m t (byte ∷ rest) has a e calm =
    asks_by x l k 1 byte (m.read + 1) (record m { rest = byte ∷ rest }) t getchar_name rest m.out has a (λ core h. refl) (omega (arith, a.read)) (on_same _ t e) calm

putchar_by : (x : Setting) → IsLinked x → (k : ℕ) (m t : Machine) → HasAsking x putchar_name 2 → Asks x m k putchar_name
    → library x.program x.addresses PutChar m ≡ On t → IsCalm x t → Simulates x t (suc (suc (suc k)))
putchar_by x l k m t has a e calm =
    let byte = lines.register m.core 26 % 256 in
    asks_by x l k 2 byte m.read m t putchar_name m.rest (m.out ++ byte ∷ []) has a
    (λ core h. ap (λ (v : ℕ). Running (record { core = answered core (v % 256); rest = m.rest; output = m.out ++ v % 256 ∷ [] })) (sym (read m.core core h 26)))
    a.read (on_same _ t e) calm

-- how a function of the library goes on
abbrev pub name_of_library : Library → List ℕ
name_of_library GetChar = getchar_name
name_of_library PutChar = putchar_name
name_of_library Exit = exit_name

pub library_simulates : (x : Setting) → IsLinked x → HasLibrary x → (k : ℕ) (m t : Machine) (g : Library) → Asks x m k (name_of_library g)
    → library x.program x.addresses g m ≡ On t → IsCalm x t → Simulates x t (suc (suc (suc k)))
library_simulates x l lib k m t GetChar a e calm = getchar_by x l k m t m.rest lib.getchar a e calm
library_simulates x l lib k m t PutChar a e calm = putchar_by x l k m t lib.putchar a e calm
library_simulates x l lib k m t Exit a e calm = absurd cc
