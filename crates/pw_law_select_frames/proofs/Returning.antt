-- A whole return.
use Rattle.std.proofs.Common.{ℕ, ◌≡◌, ◌+◌, ◌^◌, ◌<◌, ◌≤◌, arith, refl, ap, sym, subst, ◌∙◌, Bool, true, false, if◌then◌else◌, nat_lt, List, [], ◌∷◌, ◌++◌, map, length, Option, None}
use Rattle.std.specs.List.{AllByRecursion}
use Rattle.std.specs.Int.{w32, cast_signed}
use Rattle.pw_inst.specs.Limits.{near_least}
use Rattle.pw_inst.specs.Registers.{return_address}
use Rattle.pw_inst.specs.declared.Inst.TheVariants as i
use Rattle.pw_inst.specs.declared.line.Line.{Line}
use Rattle.pw_inst.specs.declared.line.Line.TheVariants as line
use Rattle.pw_alloc.specs.declared.located.Located.{Located}
use Rattle.pw_alloc.specs.Frames.{head_size, saved_offset, below, link_place}
use Rattle.pw_delay.specs.declared.items.Item.TheVariants.{Plain, Turns}
use Rattle.pw_delay.specs.declared.items.Turn.TheVariants.{Leave}
use Rattle.pw_delay.specs.Items.{slotted}
use Rattle.pw_select_lines.specs.Registers.{word, constant, is_near, load_from}
use Rattle.pw_select.specs.Selection.{saved_lines, frame_left}
use Rattle.pw_run.specs.Runs.{AreAlike}
use Rattle.pw_run_languages.specs.Traces.{EventAlike, Returned}
use Rattle.pw_run_languages.specs.Programs.{Program}
use Rattle.pw_run_languages.specs.Addresses.{Addresses}
use Rattle.pw_run_languages.specs.Standing.{ByteStands, ValueStands}
use Rattle.pw_run_languages.specs.LineRun as run
use Rattle.pw_run_languages.specs.LineRun.{globals_in}
use Rattle.pw_run_languages.specs.Links.{LinksStand}
use Rattle.pw_run_languages.specs.PlacedRun as placed
use Rattle.pw_run_languages.specs.PlacedRun.{globals_now}
use Rattle.pw_run_languages.specs.Direction.{with_functions}
use Rattle.pw_run_languages.specs.SelectionLaws.{line_program}
use Rattle.pw_law_select_memory.specs.Stand.{StandingIsAlike}
use Rattle.pw_law_select_rows.specs.Straight.{words_of, IsStraight, StraightLinesAreWords}
use Rattle.pw_law_select_states.specs.Laid.{address, Lives}
use Rattle.pw_law_select_states.specs.Passes.{Passes, further}
use Rattle.pw_law_select_states.specs.States.{Stands}
use Rattle.pw_law_select_frames.specs.Leaving.{leaving}
use Rattle.pw_law_select_frames.specs.Calls.{returned}
use Rattle.pw_law_select_frames.specs.Chain.{AllWait}
use Rattle.pw_law_select_frames.specs.Ending.{given_to, Ends}
use Rattle.pw_law_select_frames.specs.Returning.{BothTake, MayReturn, Returns, back_with}
use Rattle.pw_law_select_frames.proofs.Known.{Known}
use Rattle.pw_law_select_frames.proofs.Passing.{words_pass, steps_add, one_step}
use Rattle.pw_law_select_frames.proofs.Blocks.{offset_straight}
use Rattle.pw_law_select_frames.proofs.Calls.{function_returns}
use Rattle.pw_law_select_frames.proofs.Entering.{constant_straight, joined_straight}
use Rattle.pw_law_select_frames.proofs.Ending.{function_ends}
use Rattle.pw_law_select_frames.proofs.Extending.{waiting_goes}
use Rattle.pw_law_select_frames.proofs.Globals.{globals_alike}
use Rattle.pw_law_select_frames.proofs.Stepping.{links_from, waiting_are_active}

-- ---- the lines are straight

restored_straight : (head k : ℕ) (saved : List ℕ) → AllByRecursion IsStraight (saved_lines load_from head k saved)
restored_straight head k [] = tt
restored_straight head k (r ∷ rest) =
    joined_straight (load_from (saved_offset head k) r) (saved_lines load_from head (k + 1) rest) (offset_straight (is_near (saved_offset head k)) (saved_offset head k) r) (restored_straight head (k + 1) rest)

lowered_straight : (frame : ℕ) (t : Bool) → AllByRecursion IsStraight (if t then constant frame 1 ++ word (i.Sub 30 1 30) else word (i.Ldo (below frame) 30 30))
lowered_straight frame true = joined_straight (constant frame 1) (word (i.Sub 30 1 30)) (constant_straight frame (is_near (cast_signed w32 frame))) (tt, tt)
lowered_straight frame false = (tt, tt)

leaving_straight : (f : Located) → AllByRecursion IsStraight (leaving f)
leaving_straight f =
    let saves = saved_lines load_from (head_size f.body) 0 f.saved in
    let link = load_from (below (f.frame + link_place)) return_address in
    joined_straight (saves ++ link) (frame_left f.frame)
    (joined_straight saves link (restored_straight (head_size f.body) 0 f.saved) (offset_straight (is_near (below (f.frame + link_place))) (below (f.frame + link_place)) return_address))
    (lowered_straight f.frame (nat_lt near_least f.frame))

-- ---- the return

pub function_comes_back : (known : Known) (lines : StraightLinesAreWords) (alike : StandingIsAlike) (p : Program) (w : Addresses) (functions : List Located) (scratch : ℕ → (ℕ → ℕ) → ℕ → ℕ) (site : ℕ → ℕ)
    (m : placed.Machine) (l : run.Machine) (caller : placed.Frame) (callers : List placed.Frame) (waiting : run.Frame) (waits : List run.Frame) (rest : List Line)
    → MayReturn p w site m l caller callers waiting waits rest → Returns p w functions scratch site m l caller callers
function_comes_back known lines alike p w functions scratch site m l caller callers waiting waits rest may =
    let lp = line_program p functions in
    let q = with_functions p functions in
    let f = m.frame.function in
    let e : Ends lp w site m l.frame caller callers waiting l.core =
    function_ends known lp w site m l.frame caller callers waiting l.core (record {
      lawful = may.lawful;
      stands = may.stands;
      active = may.active;
      top = may.top;
      waits = may.wait.0;
      base = may.base;
      globals = may.globals;
    }) in
    let words = words_of (leaving f) in
    let behind = Turns Leave None ∷ slotted rest in
    let is : l.frame.left ≡ map Plain words ++ behind = may.left ∙ lines (leaving f) (line.Leave ∷ rest) (leaving_straight f) in
    let one : Passes lp w scratch l behind e.core [] = words_pass lp w scratch known words may.inside.0 behind e.core [] l is may.inside.1 e.goes in
    let mid : run.Machine = further behind e.core one.more [] l in
    let n = given_to caller callers m in
    let last : run.Machine = returned lp w waiting waits mid in
    let turn : run.step lp w scratch mid ≡ run.On last = function_returns lp w scratch (slotted rest) waiting waits mid refl e.goes.skip may.below e.link e.pointer in
    let small : l.frame.stack < 2 ^ 32 = let high = may.wait.0.frame.high in let memory = may.lawful.memory in omega (arith, high, memory) in
    let old : (o : ℕ) → length m.objects ≤ o → Lives n.objects o → ⊥ = λ o least lives. (let less = e.older o lives in let base = may.base in omega (arith, least, less, base)) in
    let wait : AllWait p w site n.objects e.core.memory m.frame l.frame.stack (caller ∷ callers) (waiting ∷ waits) =
    waiting_goes p w site site m.objects n.objects l.core.memory e.core.memory m.frame l.frame.stack (caller ∷ callers) (waiting ∷ waits) small may.base e.keeps
    (λ o least lives. absurd (old o least lives)) (λ b less free. ap (λ (memory : ℕ → ℕ). memory b) e.memory) may.known may.wait in
    let first = wait.0 in
    let stands : Stands p w site (back_with p functions caller callers m) e.core =
    record { words = e.stands.words; laid = e.stands.laid; bytes = e.stands.bytes; registers = e.stands.registers; frame = e.stands.frame; holds = e.stands.holds; goes = e.stands.goes } in
    let there = globals_alike alike p w functions site n.registers n.objects e.core (caller ∷ callers) (waiting ∷ waits) e.stands.registers
    (waiting_are_active p w site n.objects e.core.memory m.frame l.frame.stack (caller ∷ callers) (waiting ∷ waits) wait) e.stands.laid e.stands.bytes in
    let name : run.name_of l.frame ≡ placed.name_of m.frame = ap (λ (x : run.LineFn). x.located.body.name) may.active.function in
    let events : l.events ≤ mid.events = omega arith in
    record {
      count = one.count + 1;
      last = last;
      steps = steps_add lp w scratch one.count 1 (run.On l)
          ∙ (ap (run.steps lp w scratch 1) one.steps ∙ (one_step lp w scratch mid ∙ turn));
      amid = λ k t some less goes. one.amid k t some (omega (arith, less)) goes;
      takes = record {
        stands = stands;
        active = first.active;
        top = e.pointer ∙ first.top;
        old = first.old;
        later = λ o lives. first.later o (e.older o lives) lives;
        left = first.left;
        behind = first.behind;
        callers = wait.1;
      };
      value = e.value;
      given = e.temps;
      memory = e.memory;
      frames = may.below;
      noted = ap (λ (ls : List run.Frame). Returned (run.name_of l.frame) 0 (globals_in lp w e.core ls) l.frame.before (run.kept e.core) ∷ l.trace) (sym may.below);
      show = (refl, refl, refl, events);
      log = AreAlike.also (Returned (placed.name_of m.frame) 0 (globals_now q n.registers (caller ∷ callers) n.objects) m.frame.before (placed.kept n.registers))
          (Returned (run.name_of l.frame) 0 (globals_in lp w e.core (waiting ∷ waits)) l.frame.before (run.kept e.core)) m.trace l.trace
          (record {
            objects = site;
            globals = e.stands.laid.named;
            alike = subst (λ (g : List ℕ). EventAlike (ByteStands (address p w site)) (ValueStands (address p w site))
                (Returned (placed.name_of m.frame) 0 (globals_now q n.registers (caller ∷ callers) n.objects) m.frame.before (placed.kept n.registers))
                (Returned g 0 (globals_in lp w e.core (waiting ∷ waits)) l.frame.before (run.kept e.core))) (sym name)
                (EventAlike.returned (placed.name_of m.frame) 0 (globals_now q n.registers (caller ∷ callers) n.objects) (globals_in lp w e.core (waiting ∷ waits))
                m.frame.before (placed.kept n.registers) l.frame.before (run.kept e.core) there);
          }) may.log;
    }

pub links_then : (p : Program) (w : Addresses) (site : ℕ → ℕ) (t : Option ℕ) (m : placed.Machine) (l : run.Machine) → BothTake p w site t m l → LinksStand w l.core (l.frame ∷ l.callers)
links_then p w site t m l h = links_from p w site m.objects l.core m.frame l.frame m.callers l.callers h.callers
