-- Calls for which there is no stack left.
use Rattle.std.proofs.Common.{ℕ, ◌≡◌, ◌+◌, ◌<◌, ◌^◌, arith, refl, ap, sym, subst, ◌∙◌, List, [], ◌∷◌, ◌++◌, append_assoc}
use Rattle.pw_value.specs.declared.value.Value.{Value}
use Rattle.pw_inst.specs.Registers.{stack_pointer}
use Rattle.pw_inst.specs.declared.line.Line.{Line}
use Rattle.pw_alloc.specs.declared.located.Located.{Located}
use Rattle.pw_alloc.specs.Frames.{head_size}
use Rattle.pw_delay.specs.Items.{slotted}
use Rattle.pw_select_lines.specs.Registers.{store_to}
use Rattle.pw_select.specs.Selection.{slot_offsets, saved_lines, webs_loaded, parameters_in, entry_lines, prologue, blocks_lines, selected}
use Rattle.pw_run.specs.Runs.{View, AreAlike}
use Rattle.pw_run_languages.specs.Traces.{Event, EventAlike, Called, Refused, with_refusal}
use Rattle.pw_run_languages.specs.Programs.{Program}
use Rattle.pw_run_languages.specs.Addresses.{Addresses, AreLawful}
use Rattle.pw_run_languages.specs.Acts.{register}
use Rattle.pw_run_languages.specs.Standing.{EventInWords}
use Rattle.pw_run_languages.specs.LineRun as run
use Rattle.pw_run_languages.specs.LineRun.{enters, globals_in}
use Rattle.pw_run_languages.specs.PlacedRun as placed
use Rattle.pw_run_languages.specs.PlacedRun.{globals_now}
use Rattle.pw_run_languages.specs.Direction.{with_functions}
use Rattle.pw_run_languages.specs.SelectionLaws.{line_program, with_lines}
use Rattle.pw_law_select_memory.specs.Stand.{StandingIsAlike}
use Rattle.pw_law_select_rows.specs.Straight.{StraightLinesAreWords}
use Rattle.pw_law_select_frames.specs.Library.{MayCall}
use Rattle.pw_law_select_frames.specs.Refusing.{Refuses}
use Rattle.pw_law_select_frames.proofs.Known.{Known}
use Rattle.pw_law_select_frames.proofs.Entering.{full_stops}
use Rattle.pw_law_select_frames.proofs.Library.{call_alike}

pub calls_noted : (alike : StandingIsAlike) (p : Program) (w : Addresses) (functions : List Located) (site : ℕ → ℕ) (f : List ℕ) (args : List Value) (m : placed.Machine) (l : run.Machine) → MayCall p w site args m l
    → AreAlike (EventInWords p w.named)
    (Called f (globals_now (with_functions p functions) m.registers (m.frame ∷ m.callers) m.objects) (placed.kept m.registers) ∷ m.trace)
    (Called f (globals_in (line_program p functions) w l.core (l.frame ∷ l.callers)) (run.kept l.core) ∷ l.trace)
calls_noted alike p w functions site f args m l h =
    AreAlike.also (Called f (globals_now (with_functions p functions) m.registers (m.frame ∷ m.callers) m.objects) (placed.kept m.registers))
    (Called f (globals_in (line_program p functions) w l.core (l.frame ∷ l.callers)) (run.kept l.core)) m.trace l.trace
    (call_alike alike p w functions site f m l h.stands h.active) h.show.log

-- a function begins with its check
check_first : (f : Located) → (rest : List Line) × (selected f ≡ entry_lines f.frame ++ rest)
unfolding selected
check_first f =
    let entry = entry_lines f.frame in
    let saves = saved_lines store_to (head_size f.body) 0 f.saved in
    let webs = webs_loaded f.body.directives.webs in
    let params = parameters_in f.frame f.places 0 f.body.params in
    let blocks = blocks_lines f (slot_offsets f) 0 f.body.blocks in
    let one : prologue f ≡ entry ++ (saves ++ (webs ++ params)) = append_assoc (entry ++ saves) webs params ∙ append_assoc entry saves (webs ++ params) in
    ((saves ++ (webs ++ params)) ++ blocks, ap (λ (ls : List Line). ls ++ blocks) one ∙ append_assoc entry (saves ++ (webs ++ params)) blocks)

pub full_calls_refused : (known : Known) (lines : StraightLinesAreWords) (p : Program) (w : Addresses) (functions : List Located) (scratch : ℕ → (ℕ → ℕ) → ℕ → ℕ) (site : ℕ → ℕ) (f : Located) (args : List Value)
    (m : placed.Machine) (l : run.Machine) → AreLawful p w → MayCall p w site args m l → w.limit < register l.core stack_pointer + f.frame → register l.core stack_pointer + f.frame < 2 ^ 32
    → Refuses p w functions scratch f m l
full_calls_refused known lines p w functions scratch site f args m l lawful h full small =
    let lp = line_program p functions in
    let x : run.Machine = enters lp w (with_lines f) l in
    let check = check_first f in
    let s = full_stops known lines lp w scratch f.frame check.0 x lawful h.stands.goes full small (ap slotted check.1) in
    let events = h.show.events in
    let seen = ap (λ (v : View (Event ℕ ℕ)). v.events) s.same in
    record {
      count = s.count;
      last = s.last;
      steps = s.is;
      amid = s.amid [] refl;
      trace = ap (λ (v : View (Event ℕ ℕ)). v.log) s.same;
      show = (ap (λ (v : View (Event ℕ ℕ)). v.read) s.same ∙ h.show.read, ap (λ (v : View (Event ℕ ℕ)). v.output) s.same ∙ h.show.out, omega (arith, events, seen));
      log = subst (λ (t : List (Event ℕ ℕ)). AreAlike (EventInWords p w.named) (Refused f.body.name ∷ m.trace) (with_refusal t)) (sym (ap (λ (v : View (Event ℕ ℕ)). v.log) s.same))
          (AreAlike.also (Refused f.body.name) (Refused f.body.name) m.trace l.trace
          (record { objects = site; globals = h.stands.laid.named; alike = EventAlike.refused f.body.name }) h.show.log);
    }
