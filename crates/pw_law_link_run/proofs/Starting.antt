-- Where the machine starts at the entry of the program with the core that the lines start with, it shows their start.
use Rattle.std.specs.Prelude.{ℕ, ◌≡◌, ◌+◌, ◌%◌, ◌^◌, Some, List, [], ◌∷◌, length}
use Rattle.std.specs.Str.{bytes_eq}
use Rattle.std.proofs.Common.{arith, subst, sym, ap, refl, ◌∙◌}
use Rattle.pw_value.specs.ProgramNames.{start_name}
use Rattle.pw_machine.specs.Run.{State, Running, began, run_of}
use Rattle.pw_run_languages.specs.LineRun.{LineFn, Machine, On, kept, function_named, globals_in, start_core, start}
use Rattle.pw_run_languages.specs.Traces.{Called}
use Rattle.pw_run_languages.specs.MachineRun.{Noted, arrived}
use Rattle.pw_run_languages.specs.MachineRun as noting
use Rattle.pw_law_link_run.specs.Steps.{Setting, map_in, At, Arrives, with_call, AreInData}
use Rattle.pw_law_link_run.specs.Placing.{name_in, own_address}
use Rattle.pw_law_link_run.specs.Simulating.{noted_by, IsLinked, Simulates}
use Rattle.pw_law_link_run.specs.Meeting.{Meets}
use Rattle.pw_law_link_run.specs.Leveled.{AreFramed, StepLevel}
use Rattle.pw_law_link_run.specs.Starting.{IsStart}
use Rattle.pw_law_link_run.proofs.Noting.{enters_at}
use Rattle.pw_law_link_run.proofs.Stepping.{starts_at}
use Rattle.pw_law_link_run.proofs.Placed.{all_left}
use Rattle.pw_law_link_run.proofs.Turning.{text_small}
use Rattle.pw_law_link_run.proofs.Items.{here_in_text}
use Rattle.pw_law_link_run.proofs.Entering.{finds, same_bytes}

nothing : Noted
nothing = record { calls = []; log = [] }

arrives_first : (x : Setting) (f : LineFn) (input : List ℕ) → IsStart x f input
    → Arrives x 0 (start_core x.program x.addresses) (own_address x f) ((own_address x f + 4) % 2 ^ 32) input [] (record { calls = []; log = [] })
unfolding run_of noting.noted
arrives_first x f input h =
    let s : State = record { core = x.start.core; rest = input; output = [] } in
    let same : began x.start.core.stopped x.start ≡ Running s =
    ap (λ o. began o x.start) h.stopped ∙ (ap (λ r. Running (record { core = x.start.core; rest = r; output = x.start.output })) h.rest
    ∙ ap (λ o. Running (record { core = x.start.core; rest = input; output = o })) h.output) in
    record {
      core = x.start.core;
      runs = same;
      notes = ap (λ p. noting.began (map_in x) p) same;
      shows = h.shows;
      front = h.front;
      back = h.back;
    }

-- the state of the lines
abbrev first_state : Setting → LineFn → List ℕ → Machine
first_state x f input = record {
  core = start_core x.program x.addresses;
  frame = record { function = f; left = f.items; stack = x.addresses.base; before = kept (start_core x.program x.addresses) };
  callers = [];
  rest = input;
  read = 0;
  out = [];
  events = 0;
  trace = Called start_name (globals_in x.program x.addresses (start_core x.program x.addresses) []) (kept (start_core x.program x.addresses)) ∷ [];
}

starts_with : (x : Setting) (f : LineFn) (input : List ℕ) → function_named x.program start_name ≡ Some f → start x.program x.addresses input ≡ On (first_state x f input)
starts_with x f input e = rw e refl

pub start_simulates : (x : Setting) → IsLinked x → AreInData x [] → (f : LineFn) (input : List ℕ) → IsStart x f input → Simulates x (first_state x f input) 0
start_simulates x l are f input h =
    let c = start_core x.program x.addresses in
    let own = own_address x f in
    let found = finds (λ g. bytes_eq g.located.body.name start_name) x.program.functions f h.named in
    let name : name_in f ≡ start_name = same_bytes (name_in f) start_name found.passes in
    let arrives = arrives_first x f input h in
    let back : (own + 4) % 2 ^ 32 ≡ own + 4 = omega (arith, text_small x own l.few (here_in_text x l f found.there f.items own (all_left x f))) in
    let at = enters_at x 0 c own ((own + 4) % 2 ^ 32) input [] (record { calls = []; log = [] }) (name_in f) arrives
    (starts_at x 0 c own ((own + 4) % 2 ^ 32) input [] (record { calls = []; log = [] }) l.setting arrives) tt refl (l.entries f found.there) are in
    let noted : with_call x c (name_in f) (record { calls = []; log = [] }) ≡ noted_by x (first_state x f input) =
    ap (λ n. record {
      calls = record { function = name_in f; link = 0; stack = x.addresses.base; before = kept c } ∷ [];
      log = Called n (globals_in x.program x.addresses c []) (kept c) ∷ [];
    }) name in
    record {
      address = own;
      at = subst (λ n. At x 0 c own (own + 4) input [] n) noted (subst (λ b. At x 0 c own b input [] (with_call x c (name_in f) (record { calls = []; log = [] }))) back at);
      there = found.there;
      left = all_left x f;
      callers = tt;
      events = omega arith;
      read = let e = ap length h.rest in omega (arith, e);
    }

pub start_meets : (x : Setting) → IsLinked x → AreInData x [] → (f : LineFn) (input : List ℕ) → IsStart x f input → Meets x (start x.program x.addresses input)
start_meets x l are f input h =
    subst (λ s. Meets x s) (sym (starts_with x f input h.named)) (record { steps = 0; simulates = start_simulates x l are f input h })

pub start_in_level : (x : Setting) → (fr : AreFramed x) (f : LineFn) (input : List ℕ) → IsStart x f input → StepLevel x fr (start x.program x.addresses input)
start_in_level x fr f input h =
    let found = finds (λ g. bytes_eq g.located.body.name start_name) x.program.functions f h.named in
    subst (λ s. StepLevel x fr s) (sym (starts_with x f input h.named)) (record {
      there = found.there;
      before = [];
      parts = refl;
      holds = (fr.framed f found.there).leveled.entry x.addresses.base (start_core x.program x.addresses) h.base refl refl;
      chain = tt;
    })
