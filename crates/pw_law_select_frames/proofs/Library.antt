-- The library's functions in both runs.
use Rattle.std.proofs.Common.{ℕ, ◌≡◌, ◌≢◌, ◌+◌, ◌%◌, ◌^◌, ◌<◌, ◌≤◌, arith, refl, ap, sym, subst, ◌∙◌, Bool, true, false, if◌then◌else◌, nat_lt, nat_le, ◌==◌, ◌&&◌, Option, List, [], ◌∷◌, ◌++◌}
use Rattle.std.proofs.lemmas.Bool.{ne_eqb}
use Rattle.pw_value.specs.declared.value.Value.{Value}
use Rattle.pw_value.specs.declared.value.Value.TheVariants.{Undefined, Num, Null, At, Piece}
use Rattle.pw_value.specs.Words.{end_of_input}
use Rattle.pw_value.specs.ProgramNames.{getchar_name, putchar_name, exit_name}
use Rattle.pw_inst.specs.Registers.{answer}
use Rattle.pw_db.specs.Limits.{last_register, last_temporary}
use Rattle.pw_alloc.specs.declared.located.Located.{Located}
use Rattle.pw_run.specs.Runs.{Ended, AreAlike}
use Rattle.pw_run_languages.specs.Traces.{EventAlike, StandAlike, Called, Returned}
use Rattle.pw_run_languages.specs.Programs.{Program, Library, GetChar, PutChar, Exit}
use Rattle.pw_run_languages.specs.Addresses.{Addresses}
use Rattle.pw_run_languages.specs.Acts.{Core, register, with_register}
use Rattle.pw_run_languages.specs.Standing.{ByteStands, ValueStands, EventInWords}
use Rattle.pw_run_languages.specs.LineRun as run
use Rattle.pw_run_languages.specs.LineRun.{library, globals_in, notes_call, kept}
use Rattle.pw_run_languages.specs.PlacedRun as placed
use Rattle.pw_run_languages.specs.PlacedRun.{calls_library, without_scratch, library_call, library_return, counted, globals_now, noted}
use Rattle.pw_run_languages.specs.Direction.{with_functions}
use Rattle.pw_run_languages.specs.Serving.{IsTempRegister}
use Rattle.pw_run_languages.specs.SelectionLaws.{line_program}
use Rattle.pw_law_select_memory.specs.Stand.{StandingIsAlike}
use Rattle.pw_law_select_states.specs.Laid.{address}
use Rattle.pw_law_select_states.specs.States.{Stands}
use Rattle.pw_law_select_frames.specs.Chain.{AllActive}
use Rattle.pw_law_select_frames.specs.Library.{ShowAlike, MayCall, Does}
use Rattle.pw_law_select_frames.proofs.Globals.{globals_alike}

-- ---- the answer's register

answer_there : (n : ℕ) (c : Core) → register (with_register answer n c) answer ≡ n
answer_there n c = refl

other_there : (n r : ℕ) (c : Core) → r ≢ answer → register (with_register answer n c) r ≡ register c r
other_there n r c ne = ap (λ (t : Bool). if r == 0 then 0 else (if t then n else c.registers r)) (ne_eqb r answer ne)

-- a state stands where the registers of webs and temporaries and the stack pointer are the same
stands_with : (p : Program) (w : Addresses) (site : ℕ → ℕ) (m : placed.Machine) (n : ℕ) (c : Core) → Stands p w site m c
    → Stands p w site (record m { registers = without_scratch m.registers }) (with_register answer n c)
stands_with p w site m n c h = record {
  words = record {
    registers = λ r is. subst (λ x. x < 2 ^ 32) (sym (other_there n r c (not_answer r is))) (h.words.registers r is);
    memory = h.words.memory;
  };
  laid = h.laid;
  bytes = h.bytes;
  registers = λ r is. subst (ValueStands (address p w site) (without_scratch m.registers r)) (sym (other_there n r c (not_answer r is))) (scratch r (h.registers r is));
  frame = h.frame;
  holds = h.holds;
  goes = h.goes;
}
  where
    not_answer : (r : ℕ) → IsTempRegister r → r ≢ answer
    not_answer r is e = let high = is.high in omega (arith, e, high)

    scratch : (r : ℕ) → ValueStands (address p w site) (m.registers r) (register c r) → ValueStands (address p w site) (without_scratch m.registers r) (register c r)
    scratch r h = by_test (nat_lt last_register r && nat_le r last_temporary)
      where
        by_test : (t : Bool) → ValueStands (address p w site) (if t then Undefined else m.registers r) (register c r)
        by_test true = tt
        by_test false = h

-- ---- what is noted

module _ (alike : StandingIsAlike) (p : Program) (w : Addresses) (functions : List Located) (site : ℕ → ℕ) where
  -- globals stand alike at the call
  globals_then : (m : placed.Machine) (l : run.Machine) → Stands p w site m l.core → AllActive (address p w site) l.core.memory (m.frame ∷ m.callers) (l.frame ∷ l.callers)
      → AreAlike (StandAlike (ByteStands (address p w site)) (ValueStands (address p w site)))
      (globals_now (with_functions p functions) m.registers (m.frame ∷ m.callers) m.objects) (globals_in (line_program p functions) w l.core (l.frame ∷ l.callers))
  globals_then m l h active = globals_alike alike p w functions site m.registers m.objects l.core (m.frame ∷ m.callers) (l.frame ∷ l.callers) h.registers active h.laid h.bytes

  pub call_alike : (f : List ℕ) (m : placed.Machine) (l : run.Machine) → Stands p w site m l.core → AllActive (address p w site) l.core.memory (m.frame ∷ m.callers) (l.frame ∷ l.callers)
      → EventInWords p w.named (Called f (globals_now (with_functions p functions) m.registers (m.frame ∷ m.callers) m.objects) (placed.kept m.registers))
      (Called f (globals_in (line_program p functions) w l.core (l.frame ∷ l.callers)) (kept l.core))
  call_alike f m l h active = record {
    objects = site;
    globals = h.laid.named;
    alike = EventAlike.called f (globals_now (with_functions p functions) m.registers (m.frame ∷ m.callers) m.objects)
        (globals_in (line_program p functions) w l.core (l.frame ∷ l.callers)) (placed.kept m.registers) (kept l.core) (globals_then m l h active);
  }

  return_alike : (f : List ℕ) (m : placed.Machine) (l : run.Machine) (before : List ℕ) → Stands p w site m l.core → AllActive (address p w site) l.core.memory (m.frame ∷ m.callers) (l.frame ∷ l.callers)
      → EventInWords p w.named (Returned f 0 (globals_now (with_functions p functions) m.registers (m.frame ∷ m.callers) m.objects) (placed.kept m.registers) (placed.kept m.registers))
      (Returned f 0 (globals_in (line_program p functions) w l.core (l.frame ∷ l.callers)) before (kept l.core))
  return_alike f m l before h active = record {
    objects = site;
    globals = h.laid.named;
    alike = EventAlike.returned f 0 (globals_now (with_functions p functions) m.registers (m.frame ∷ m.callers) m.objects)
        (globals_in (line_program p functions) w l.core (l.frame ∷ l.callers)) (placed.kept m.registers) (placed.kept m.registers) before (kept l.core) (globals_then m l h active);
  }

  -- ---- a call and its return, with what is read or written between

  -- the state in which both have called
  record Between (m : placed.Machine) (l : run.Machine) (rest : List ℕ) (read : ℕ) (out : List ℕ) : Type 0 where
    pub stands : Stands p w site m l.core
    pub active : AllActive (address p w site) l.core.memory (m.frame ∷ m.callers) (l.frame ∷ l.callers)
    pub events : m.events ≤ l.events
    pub log : AreAlike (EventInWords p w.named) m.trace l.trace

  goes_back : (f : List ℕ) (t : Option ℕ) (v : Value) (n : ℕ) (rest : List ℕ) (read : ℕ) (out : List ℕ) (m : placed.Machine) (l : run.Machine) → Between m l rest read out → ValueStands (address p w site) v n
      → Does p w site t m l
      (placed.gives_back (with_functions p functions) f t v (record (library_call (with_functions p functions) f m) { rest = rest; read = read; out = out }))
      (run.answers (line_program p functions) w f n (record (notes_call (line_program p functions) w f l) { rest = rest; read = read; out = out }))
  goes_back f t v n rest read out m l h value =
      let q = with_functions p functions in
      let lp = line_program p functions in
      let called : placed.Machine = record (library_call q f m) { rest = rest; read = read; out = out } in
      let left : placed.Machine = record (counted called) { registers = without_scratch m.registers } in
      let n_end : placed.Machine = library_return q f left in
      let c = with_register answer n l.core in
      let before : run.Machine = record (notes_call lp w f l) { rest = rest; read = read; out = out } in
      let back : run.Machine = record (run.counted before) { core = c } in
      let o : run.Machine = record back { trace = Returned f 0 (globals_in lp w c (l.frame ∷ l.callers)) (kept l.core) (kept c) ∷ before.trace } in
      let stands : Stands p w site left c = moved left c (stands_with p w site m n l.core h.stands) in
      let events = h.events in
      Does.answers v n_end o (record {
        stands = moved n_end c (stands_with p w site m n l.core h.stands);
        value = value;
        frames = (refl, refl, refl);
        lines = (refl, refl, refl);
        registers = λ r ne. other_there n r l.core ne;
        show = record {
          rest = refl;
          read = refl;
          out = refl;
          events = omega (arith, events);
          log = AreAlike.also (Returned f 0 (globals_now q (without_scratch m.registers) (m.frame ∷ m.callers) m.objects) (placed.kept (without_scratch m.registers)) (placed.kept (without_scratch m.registers)))
              (Returned f 0 (globals_in lp w c (l.frame ∷ l.callers)) (kept l.core) (kept c)) called.trace before.trace
              (return_alike f left back (kept l.core) stands h.active)
              (AreAlike.also (Called f (globals_now q m.registers (m.frame ∷ m.callers) m.objects) (placed.kept m.registers))
              (Called f (globals_in lp w l.core (l.frame ∷ l.callers)) (kept l.core)) m.trace l.trace (call_alike f m l h.stands h.active) h.log);
        };
      })
    where
      -- the state is the same but for what it has shown
      moved : (x : placed.Machine) (c : Core) → Stands p w site (record m { registers = without_scratch m.registers }) c → Stands p w site (record x { frame = m.frame; objects = m.objects; registers = without_scratch m.registers }) c
      moved x c s = record { words = s.words; laid = s.laid; bytes = s.bytes; registers = s.registers; frame = s.frame; holds = s.holds; goes = s.goes }

  between : (args : List Value) (m : placed.Machine) (l : run.Machine) (rest : List ℕ) (read : ℕ) (out : List ℕ) → MayCall p w site args m l → Between m l rest read out
  between args m l rest read out h = record { stands = h.stands; active = h.active; events = h.show.events; log = h.show.log }

  -- ---- the three

  -- the run of lines, by what the placed run has shown
  shown_alike : (g : Library) (m : placed.Machine) (l : run.Machine) → ShowAlike p w m l
      → library (line_program p functions) w g l ≡ library (line_program p functions) w g (record l { rest = m.rest; read = m.read; out = m.out })
  shown_alike g m l h =
      ap (λ (r : List ℕ). library (line_program p functions) w g (record l { rest = r })) h.rest
      ∙ (ap (λ r. library (line_program p functions) w g (record l { rest = m.rest; read = r })) h.read
      ∙ ap (λ (o : List ℕ). library (line_program p functions) w g (record l { rest = m.rest; read = m.read; out = o })) h.out)

  get : (t : Option ℕ) (m : placed.Machine) (l : run.Machine) → MayCall p w site [] m l
      → Does p w site t m l (calls_library (with_functions p functions) GetChar t [] m) (library (line_program p functions) w GetChar l)
  get t m l h =
      subst (λ (s : run.Step). Does p w site t m l (calls_library (with_functions p functions) GetChar t [] m) s) (sym (shown_alike GetChar m l h.show)) (by_rest m.rest refl)
    where
      by_rest : (xs : List ℕ) → m.rest ≡ xs
          → Does p w site t m l (calls_library (with_functions p functions) GetChar t [] m) (library (line_program p functions) w GetChar (record l { rest = m.rest; read = m.read; out = m.out }))
      by_rest [] e =
          subst (λ (r : List ℕ). Does p w site t m l (calls_library (with_functions p functions) GetChar t [] (record m { rest = r })) (library (line_program p functions) w GetChar (record l { rest = r; read = m.read; out = m.out })))
          (sym e) (goes_back getchar_name t (Num end_of_input) end_of_input [] m.read m.out m l (between [] m l [] m.read m.out h) refl)
      by_rest (byte ∷ rest) e =
          subst (λ (r : List ℕ). Does p w site t m l (calls_library (with_functions p functions) GetChar t [] (record m { rest = r })) (library (line_program p functions) w GetChar (record l { rest = r; read = m.read; out = m.out })))
          (sym e) (goes_back getchar_name t (Num byte) byte rest (m.read + 1) m.out m l (between [] m l rest (m.read + 1) m.out h) refl)

  put_one : (t : Option ℕ) (n : ℕ) (m : placed.Machine) (l : run.Machine) → MayCall p w site (Num n ∷ []) m l
      → Does p w site t m l (calls_library (with_functions p functions) PutChar t (Num n ∷ []) m) (library (line_program p functions) w PutChar l)
  put_one t n m l h =
      let q = with_functions p functions in
      let lp = line_program p functions in
      let word : register l.core 26 ≡ n = h.arguments 0 (Num n) refl in
      let by_word : library lp w PutChar l
      ≡ run.answers lp w putchar_name (n % 256) (record (notes_call lp w putchar_name l) { rest = m.rest; read = m.read; out = m.out ++ n % 256 ∷ [] }) =
      shown_alike PutChar m l h.show
      ∙ ap (λ x. run.answers lp w putchar_name (x % 256) (record (notes_call lp w putchar_name l) { rest = m.rest; read = m.read; out = m.out ++ x % 256 ∷ [] })) word in
      subst (λ (s : run.Step). Does p w site t m l (calls_library q PutChar t (Num n ∷ []) m) s) (sym by_word)
      (goes_back putchar_name t (Num (n % 256)) (n % 256) m.rest m.read (m.out ++ n % 256 ∷ []) m l (between (Num n ∷ []) m l m.rest m.read (m.out ++ n % 256 ∷ []) h) refl)

  exits : (t : Option ℕ) (n : ℕ) (m : placed.Machine) (l : run.Machine) → MayCall p w site (Num n ∷ []) m l
      → Does p w site t m l (calls_library (with_functions p functions) Exit t (Num n ∷ []) m) (library (line_program p functions) w Exit l)
  exits t n m l h =
      let q = with_functions p functions in
      let lp = line_program p functions in
      let word : register l.core 26 ≡ n = h.arguments 0 (Num n) refl in
      subst (λ x. Does p w site t m l (calls_library q Exit t (Num n ∷ []) m) (run.Stopped (Ended (x % 256)) (notes_call lp w exit_name l))) (sym word)
      (Does.ends (Ended (n % 256)) (library_call q exit_name m) (notes_call lp w exit_name l) (record {
        rest = h.show.rest;
        read = h.show.read;
        out = h.show.out;
        events = h.show.events;
        log = AreAlike.also (Called exit_name (globals_now q m.registers (m.frame ∷ m.callers) m.objects) (placed.kept m.registers))
            (Called exit_name (globals_in lp w l.core (l.frame ∷ l.callers)) (kept l.core)) m.trace l.trace (call_alike exit_name m l h.stands h.active) h.show.log;
      }))

pub library_does_alike : (alike : StandingIsAlike) (p : Program) (w : Addresses) (functions : List Located) (site : ℕ → ℕ) (g : Library) (t : Option ℕ) (args : List Value) (m : placed.Machine) (l : run.Machine)
    → MayCall p w site args m l → Does p w site t m l (calls_library (with_functions p functions) g t args m) (library (line_program p functions) w g l)
library_does_alike alike p w functions site GetChar t [] m l h = get alike p w functions site t m l h
library_does_alike alike p w functions site GetChar t (v ∷ vs) m l h = Does.strays (library (line_program p functions) w GetChar l)
library_does_alike alike p w functions site PutChar t [] m l h = Does.strays (library (line_program p functions) w PutChar l)
library_does_alike alike p w functions site PutChar t (Num n ∷ []) m l h = put_one alike p w functions site t n m l h
library_does_alike alike p w functions site PutChar t (Num n ∷ v ∷ vs) m l h = Does.strays (library (line_program p functions) w PutChar l)
library_does_alike alike p w functions site PutChar t (Undefined ∷ vs) m l h = Does.strays (library (line_program p functions) w PutChar l)
library_does_alike alike p w functions site PutChar t (Null ∷ vs) m l h = Does.strays (library (line_program p functions) w PutChar l)
library_does_alike alike p w functions site PutChar t (At q ∷ vs) m l h = Does.strays (library (line_program p functions) w PutChar l)
library_does_alike alike p w functions site PutChar t (Piece q i ∷ vs) m l h = Does.strays (library (line_program p functions) w PutChar l)
library_does_alike alike p w functions site Exit t [] m l h = Does.strays (library (line_program p functions) w Exit l)
library_does_alike alike p w functions site Exit t (Num n ∷ []) m l h = exits alike p w functions site t n m l h
library_does_alike alike p w functions site Exit t (Num n ∷ v ∷ vs) m l h = Does.strays (library (line_program p functions) w Exit l)
library_does_alike alike p w functions site Exit t (Undefined ∷ vs) m l h = Does.strays (library (line_program p functions) w Exit l)
library_does_alike alike p w functions site Exit t (Null ∷ vs) m l h = Does.strays (library (line_program p functions) w Exit l)
library_does_alike alike p w functions site Exit t (At q ∷ vs) m l h = Does.strays (library (line_program p functions) w Exit l)
library_does_alike alike p w functions site Exit t (Piece q i ∷ vs) m l h = Does.strays (library (line_program p functions) w Exit l)
