-- The library's functions: what they read, write and return is the same in both runs.
use Rattle.std.proofs.Common.{◌≡◌, ℕ, ◌+◌, ◌%◌, ◌<◌, Option, Some, List, [], ◌∷◌, ◌++◌, All, refl, ap, sym, ◌∙◌, subst, arith, append-nil}
use Rattle.std.proofs.lemmas.List.Elements.{All-tail}
use Rattle.pw_value.specs.declared.value.Value.{Value}
use Rattle.pw_value.specs.declared.value.Value.TheVariants as V
use Rattle.pw_value.specs.Words.{end_of_input}
use Rattle.pw_flow.specs.declared.flow.Op.{Op}
use Rattle.pw_cmean.specs.Worlds.{World, LibraryFunction, GetChar, PutChar, ExitRun, library_callable}
use Rattle.pw_cmean.specs.Acts.{State, give, stop, go_on, ◌>>=◌, next_byte, get_char, put_char, wrong}
use Rattle.pw_cmean.specs.Evaluation.{Calls, take_room, library_call, call_body, call}
use Rattle.pw_run_languages.specs.Programs as flows
use Rattle.pw_run_languages.specs.FlowRun.{Machine, Step, On, counted, takes_result, calls_library, step, steps}
use Rattle.pw_law_refine.specs.Standing.{Spot, Stands}
use Rattle.pw_law_refine.specs.Activations.{graphs}
use Rattle.pw_law_refine.specs.Matching.{Matches}
use Rattle.pw_law_refine.specs.Meeting.{Reaches, Meets}
use Rattle.pw_law_refine.specs.Calls.{EachStands, with_result, HasReturned}
use Rattle.pw_law_refine_start.specs.Named.{flow_library}
use Rattle.pw_law_refine_calls.proofs.Entering.{not-past}
use Rattle.pw_law_refine_calls.proofs.Returning.{takes-is}

-- a call of the library's is its act, where there is room
pub library-is :
    (world : World) (cs : Calls) (g : LibraryFunction) (vs : List Value) (s : State)
    → call world cs (library_callable g) vs s ≡ (take_room world (library_callable g).name >>= λ (done : Unit {0}). library_call g vs) s
unfolding call call_body
library-is world cs ExitRun vs s = refl
library-is world cs GetChar vs s = refl
library-is world cs PutChar vs s = refl

module _ (world : World) (spots : List Spot) (r : Option ℕ) (rest : List Op) (s : State) (m : Machine) (h : Matches world spots s m) where
  -- the machine before the call, with what is left of its block
  abbrev before : Machine
  before = record m { frame = record m.frame { ops = rest } }

  abbrev Returns : Option Value → State → Machine → Type 0
  Returns = HasReturned world spots r rest s m

  -- the machine with the result, behind what was read and written
  abbrev served : Value → (unread : List ℕ) (count : ℕ) (out : List ℕ) → Machine
  served w unread count out = record m {
    frame = record m.frame { ops = rest; temps = with_result r w m.frame.temps };
    rest = unread;
    read = count;
    out = out;
    events = m.events + 1;
  }

  served-is : (w : Value) (unread : List ℕ) (count : ℕ) (out : List ℕ) → counted (takes_result r w (record before { rest = unread; read = count; out = out })) ≡ served w unread count out
  served-is w unread count out = ap (λ (n : Machine). counted n) (takes-is r w (record before { rest = unread; read = count; out = out }))

  has-returned :
      (v w : Value) (unread : List ℕ) (count kept : ℕ) (out written : List ℕ) → Stands spots v w → All (λ (b : ℕ). b < 256) unread → count ≡ kept → out ≡ written
      → Returns (Some v) (record s { rest = unread; read = count; out = out }) (served w unread kept written)
  has-returned v w unread count kept out written stands bytes same alike = record {
    later = spots;
    matches = record {
      memory = h.memory;
      globals = h.globals;
      input = refl;
      shows = record { output = alike; read = same; log = h.shows.log };
      active = h.active;
      bytes = record { objects = h.bytes.objects; input = bytes };
      small = h.small;
    };
    lasts = record {
      more = ([], sym (append-nil spots));
      unnamed = λ o less there not. refl;
      lives = λ o less. refl;
      ended = λ o more. not-past s.objects o more;
      count = omega arith;
      living = λ k less. refl;
      sizes = λ k less. refl;
    };
    value = w;
    stands = stands;
    frame = refl;
    callers = refl;
  }

  -- it comes there by its next step
  reaches :
      (n : ℕ) (v w : Value) (unread : List ℕ) (count kept : ℕ) (out written : List ℕ) → Stands spots v w → All (λ (b : ℕ). b < 256) unread → count ≡ kept → out ≡ written
      → step (graphs world) m ≡ On (counted (takes_result r w (record before { rest = unread; read = kept; out = written })))
      → Reaches (graphs world) m (Returns (Some v) (record s { rest = unread; read = count; out = out }))
  unfolding steps
  reaches n v w unread count kept out written stands bytes same alike e = record {
    count = 1;
    machine = served w unread kept written;
    comes = e ∙ ap (λ (n : Machine). On n) (served-is w unread kept written);
    holds = has-returned v w unread count kept out written stands bytes same alike;
  }

  -- ---- getchar

  abbrev reads_by : List ℕ → Step
  reads_by [] = On (counted (takes_result r (V.Num end_of_input) (record before { rest = [] })))
  reads_by (byte ∷ unread) = On (counted (takes_result r (V.Num byte) (record before { rest = unread; read = m.read + 1 })))

  reads : (n : ℕ) (unread : List ℕ) → s.rest ≡ unread → step (graphs world) m ≡ reads_by unread
      → Meets world n m (go_on (next_byte unread s) (λ (byte : ℕ). give (Some (V.Num byte)))) Returns
  unfolding next_byte give go_on
  reads n [] is e =
      let empty : s ≡ record s { rest = [] } = ap (λ (unread : List ℕ). record s { rest = unread }) is in
      subst (λ (t : State). Reaches (graphs world) m (Returns (Some (V.Num end_of_input)) t)) (sym empty)
      (reaches n (V.Num end_of_input) (V.Num end_of_input) [] s.read m.read s.out m.out refl (subst (λ (unread : List ℕ). All (λ (b : ℕ). b < 256) unread) is h.bytes.input) h.shows.read h.shows.output e)
  reads n (byte ∷ unread) is e =
      reaches n (V.Num byte) (V.Num byte) unread (s.read + 1) (m.read + 1) s.out m.out refl
      (All-tail (λ (b : ℕ). b < 256) byte unread (subst (λ (unread : List ℕ). All (λ (b : ℕ). b < 256) unread) is h.bytes.input))
      (ap (λ (k : ℕ). k + 1) h.shows.read) h.shows.output e

  reads-is : (unread : List ℕ) → calls_library flows.GetChar r [] (record before { rest = unread }) ≡ reads_by unread
  reads-is [] = refl
  reads-is (byte ∷ unread) = refl

  -- ---- putchar

  puts : (n : ℕ) (v : Value) (vs ws : List Value) → EachStands spots (v ∷ vs) ws → step (graphs world) m ≡ calls_library flows.PutChar r ws before
      → Meets world n m (library_call PutChar (v ∷ vs) s) Returns
  unfolding library_call put_char give stop wrong ◌>>=◌ go_on
  puts n (V.Num k) [] [] stand e = absurd stand
  puts n (V.Num k) [] (w ∷ []) stand e =
      reaches n (V.Num (k % 256)) (V.Num (k % 256)) s.rest s.read m.read (s.out ++ k % 256 ∷ []) (m.out ++ k % 256 ∷ []) refl h.bytes.input h.shows.read
      (ap (λ (out : List ℕ). out ++ k % 256 ∷ []) h.shows.output)
      (e ∙ ap (λ (u : Value). calls_library flows.PutChar r (u ∷ []) before) stand.0
      ∙ ap (λ (unread : List ℕ). On (counted (takes_result r (V.Num (k % 256)) (record before { rest = unread; out = m.out ++ k % 256 ∷ [] })))) (sym h.input))
  puts n (V.Num k) [] (w ∷ u ∷ ws) stand e = absurd stand.1
  puts n (V.Num k) (v ∷ vs) ws stand e = tt
  puts n V.Undefined vs ws stand e = tt
  puts n V.Null vs ws stand e = tt
  puts n (V.At p) vs ws stand e = tt
  puts n (V.Piece p i) vs ws stand e = tt

  -- ---- exit

  exits : (n : ℕ) (v : Value) (vs ws : List Value) → EachStands spots (v ∷ vs) ws → step (graphs world) m ≡ calls_library flows.Exit r ws before
      → Meets world n m (library_call ExitRun (v ∷ vs) s) Returns
  unfolding library_call stop wrong steps
  exits n (V.Num k) [] [] stand e = absurd stand
  exits n (V.Num k) [] (w ∷ []) stand e = record {
    count = 1;
    machine = before;
    comes = e ∙ ap (λ (u : Value). calls_library flows.Exit r (u ∷ []) before) stand.0;
    shows = record { output = h.shows.output; read = h.shows.read; log = h.shows.log };
  }
  exits n (V.Num k) [] (w ∷ u ∷ ws) stand e = absurd stand.1
  exits n (V.Num k) (v ∷ vs) ws stand e = tt
  exits n V.Undefined vs ws stand e = tt
  exits n V.Null vs ws stand e = tt
  exits n (V.At p) vs ws stand e = tt
  exits n (V.Piece p i) vs ws stand e = tt

  -- ---- each of them

  pub library-meets : (n : ℕ) (g : LibraryFunction) (vs ws : List Value) → EachStands spots vs ws → step (graphs world) m ≡ calls_library (flow_library g) r ws before
      → Meets world n m (library_call g vs s) Returns
  unfolding library_call get_char give stop wrong ◌>>=◌ go_on
  library-meets n GetChar [] [] stand e =
      reads n s.rest refl (e ∙ ap (λ (unread : List ℕ). calls_library flows.GetChar r [] (record before { rest = unread })) (sym h.input) ∙ reads-is s.rest)
  library-meets n GetChar [] (w ∷ ws) stand e = absurd stand
  library-meets n GetChar (v ∷ vs) ws stand e = tt
  library-meets n PutChar [] ws stand e = tt
  library-meets n PutChar (v ∷ vs) ws stand e = puts n v vs ws stand e
  library-meets n ExitRun [] ws stand e = tt
  library-meets n ExitRun (v ∷ vs) ws stand e = exits n v vs ws stand e
