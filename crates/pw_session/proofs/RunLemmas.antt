-- The run of an image: what is put out of it.
use Rattle.std.proofs.Common.{◌≡◌, ℕ, true, false, List, [], Option, Some, None, Result, Ok, Err, refl, sym, ap, ◌∙◌, subst, arith}
use Rattle.std.specs.Prelude.{codes}
use Rattle.pw_io.specs.Faults.{Rose}
use Rattle.pw_image.specs.declared.image.Image.{Image}
use Rattle.pw_image.specs.Image.{Contents, IsImageFile}
use Rattle.pw_image.specs.Loading.{FailsLoad}
use Rattle.pw_image.specs.declared.load.LoadError.{LoadError}
use Rattle.pw_image.specs.declared.load.LoadError.TheVariants as load
use Rattle.pw_machine.specs.Core.{Core}
use Rattle.pw_machine.specs.Run.{Progress, run_of}
use Rattle.pw_machine.specs.Start.{image_start}
use Rattle.pw_machine.specs.Stops.{Snapshot, loaded}
use Rattle.pw_top_answer.specs.declared.answer.Answer.{Answer}
use Rattle.pw_top_answer.specs.declared.answer.Answer.TheVariants.{Ended, StackStop, Spent, Halted, ReadFault, WriteFault, NoMemory}
use Rattle.pw_top_answer.specs.Outcomes.{Answers, InputCount, IsPrintAnswer, OutputCount, PutsOut}
use Rattle.pw_commands.specs.MachineRun.{IsRunAnswer, run_answer, run_output, start_state}
use Rattle.pw_build_files.specs.Outcomes.{HoldsImage}
use Rattle.pw_session.specs.Outcomes.{ObeysRun}
use Rattle.pw_session.specs.Runs.{RunPrints, is_stop, ran_text, runs_as, stop_line}
use Rattle.pw_session.proofs.OutputLemmas.{GoesOn, MayStop, puts_alone, puts_stop, puts_then}

-- a stop that is answered is the one that is wanted
pub stop_is : (wanted answer : Answer) → is_stop answer ≡ true → Answers wanted answer → wanted ≡ answer
stop_is wanted (Ended status) e h = h
stop_is wanted StackStop e h = h
stop_is wanted Spent e h = h
stop_is wanted (Halted halt at) e h = h
stop_is wanted _ e h = absurd cc

-- all is put out at a stop
stop_goes_on : (answer : Answer) → is_stop answer ≡ true → GoesOn answer
stop_goes_on (Ended status) e = λ more h. h
stop_goes_on StackStop e = λ more h. h
stop_goes_on Spent e = λ more h. h
stop_goes_on (Halted halt at) e = λ more h. h
stop_goes_on _ e = absurd cc

-- a run that did not stop by itself had a fault
fault_may_stop : (answer : Answer) → is_stop answer ≡ false → IsRunAnswer answer → MayStop answer
fault_may_stop ReadFault e k = λ more. tt
fault_may_stop WriteFault e k = λ more. tt
fault_may_stop NoMemory e k = λ more. tt
fault_may_stop (Ended status) e k = absurd cc
fault_may_stop StackStop e k = absurd cc
fault_may_stop Spent e k = absurd cc
fault_may_stop (Halted halt at) e k = absurd cc
fault_may_stop _ e k = absurd k

abbrev run_over : ℕ → List ℕ → Core → Progress
run_over budget source core = run_of budget (start_state core source)

same_run : (budget : ℕ) (core : Core) (source input : List ℕ) → source ≡ input → run_over budget source core ≡ runs_as budget input core
same_run budget core source input e = ap (λ (s : List ℕ). run_over budget s core) e

stopped_then : (progress : Progress) (answer y : Answer) (t0 t1 t2 : Option (List ℕ)) → is_stop answer ≡ true → Answers (run_answer progress) answer → PutsOut (run_output progress) answer t0 t1 → PutsOut (stop_line answer) y t1 t2 → PutsOut (ran_text progress) y t0 t2
stopped_then progress answer y t0 t1 t2 e h p q =
    puts_then (run_output progress) (stop_line (run_answer progress)) answer y t0 t1 t2 (stop_goes_on answer e) p (subst (λ (a : Answer). PutsOut (stop_line a) y t1 t2) (sym (stop_is (run_answer progress) answer e h)) q)

-- the run's output, and behind it how it stopped
pub ran_then : (budget : ℕ) (core : Core) (source input : List ℕ) (answer y : Answer) (t0 t1 t2 : Option (List ℕ)) → source ≡ input → is_stop answer ≡ true → Answers (run_answer (run_over budget source core)) answer
    → PutsOut (run_output (run_over budget source core)) answer t0 t1 → PutsOut (stop_line answer) y t1 t2 → PutsOut (ran_text (runs_as budget input core)) y t0 t2
ran_then budget core source input answer y t0 t1 t2 s e h p q =
    subst (λ (r : Progress). PutsOut (ran_text r) y t0 t2) (same_run budget core source input s) (stopped_then (run_over budget source core) answer y t0 t1 t2 e h p q)

-- a fault in the run
pub ran_fault : (budget : ℕ) (core : Core) (source input : List ℕ) (answer : Answer) (t0 t1 : Option (List ℕ)) → source ≡ input → is_stop answer ≡ false → IsRunAnswer answer → PutsOut (run_output (run_over budget source core)) answer t0 t1
    → PutsOut (ran_text (runs_as budget input core)) answer t0 t1
ran_fault budget core source input answer t0 t1 s e k p =
    subst (λ (r : Progress). PutsOut (ran_text r) answer t0 t1) (same_run budget core source input s)
    (puts_stop (run_output (run_over budget source core)) (stop_line (run_answer (run_over budget source core))) answer t0 t1 (fault_may_stop answer e k) p)

pub stop_writes : (answer y : Answer) (before mid now : ℕ) → is_stop answer ≡ true → OutputCount before mid answer → OutputCount mid now y → OutputCount before now y
stop_writes answer y before mid now e h k = subst (λ (n : ℕ). OutputCount n now y) (same answer e h) k
  where
    same : (a : Answer) → is_stop a ≡ true → OutputCount before mid a → mid ≡ before
    same (Ended status) d o = o
    same StackStop d o = o
    same Spent d o = o
    same (Halted halt at) d o = o
    same _ d o = absurd cc

no_fault : Rose 0 0 → ⊥
no_fault h = absurd (omega (arith, h))

-- a source in memory has none
pub fault_says : (answer : Answer) → is_stop answer ≡ false → IsRunAnswer answer → InputCount 0 0 answer → IsPrintAnswer answer
fault_says ReadFault e k h = absurd (no_fault h)
fault_says WriteFault e k h = tt
fault_says NoMemory e k h = tt
fault_says (Ended status) e k h = absurd cc
fault_says StackStop e k h = absurd cc
fault_says Spent e k h = absurd cc
fault_says (Halted halt at) e k h = absurd cc
fault_says _ e k h = absurd k

-- ---- an image, or none

no_image : (built : Option (List ℕ)) (budget : ℕ) (input output : List ℕ) → built ≡ None → RunPrints built budget input output → output ≡ codes "no image\n"
no_image built budget input output e h = subst (λ (b : Option (List ℕ)). RunPrints b budget input output) e h

pub run_none : (built : Option (List ℕ)) (budget : ℕ) (input : List ℕ) (answer : Answer) (t0 t1 : Option (List ℕ)) → built ≡ None → PutsOut (codes "no image\n") answer t0 t1 → ObeysRun built budget input answer t0 t1
run_none built budget input answer t0 t1 e p = record {
  output = λ output h. subst (λ (o : List ℕ). PutsOut o answer t0 t1) (sym (no_image built budget input output e h)) p;
  found = λ d. (codes "no image\n", subst (λ (b : Option (List ℕ)). RunPrints b budget input (codes "no image\n")) (sym e) refl);
}

image_output : (budget : ℕ) (input image : List ℕ) (core : Core) (answer : Answer) (t0 t1 : Option (List ℕ)) (output : List ℕ) → ((c : Contents Image) → IsImageFile image c → core ≡ image_start c.value.memory) → PutsOut (ran_text (runs_as budget input core)) answer t0 t1
    → RunPrints (Some image) budget input output → PutsOut output answer t0 t1
image_output budget input image core answer t0 t1 output same p h =
    subst (λ (o : List ℕ). PutsOut o answer t0 t1) (ap (λ (k : Core). ran_text (runs_as budget input k)) (same h.0 h.1) ∙ sym h.2) p

pub run_some : (built : Option (List ℕ)) (budget : ℕ) (input image : List ℕ) (core : Core) (answer : Answer) (t0 t1 : Option (List ℕ)) → built ≡ Some image → ((c : Contents Image) → IsImageFile image c → core ≡ image_start c.value.memory)
    → (c : Contents Image) × IsImageFile image c → PutsOut (ran_text (runs_as budget input core)) answer t0 t1 → ObeysRun built budget input answer t0 t1
run_some built budget input image core answer t0 t1 e same found p = record {
  output = λ output h. image_output budget input image core answer t0 t1 output same p (subst (λ (b : Option (List ℕ)). RunPrints b budget input output) e h);
  found = λ d. (
    ran_text (runs_as budget input (image_start found.0.value.memory)),
    subst (λ (b : Option (List ℕ)). RunPrints b budget input (ran_text (runs_as budget input (image_start found.0.value.memory)))) (sym e) (found.0, found.1, refl),
  );
}

pub run_memory : (built : Option (List ℕ)) (budget : ℕ) (input : List ℕ) (taken : Option (List ℕ)) → ObeysRun built budget input NoMemory taken taken
run_memory built budget input taken = record { output = λ output h. puts_alone output NoMemory taken taken (λ more. tt) refl; found = λ d. absurd d }

-- ---- a machine that was loaded

pub core_is : (machine : Snapshot) (image : Image) → ◌≡◌ {A = Result Snapshot ℕ} (Ok (loaded image)) (Ok machine) → machine.core ≡ image_start image.memory
core_is machine image e = let f : loaded image ≡ machine = cc in sym (ap (λ (m : Snapshot). m.core) f)

-- the file of an image has no fault
pub no_load_fault : (bytes : List ℕ) (error : LoadError) (at : ℕ) → error ≡ load.LoadFault at → HoldsImage bytes → ((c : Contents Image) → IsImageFile bytes c → FailsLoad {Y = Snapshot} error (Ok (loaded c.value))) → ⊥
no_load_fault bytes error at e h only =
    let fails : ◌≡◌ {A = Result Snapshot ℕ} (Ok (loaded h.0.value)) (Err at) = subst (λ (x : LoadError). FailsLoad {Y = Snapshot} x (Ok (loaded h.0.value))) e (only h.0 h.1) in
    cc

-- the answer of a run over an empty source
pub quiet_answer : (budget : ℕ) (core : Core) (source : List ℕ) (answer : Answer) → source ≡ [] → Answers (run_answer (run_over budget source core)) answer → Answers (run_answer (runs_as budget [] core)) answer
quiet_answer budget core source answer e h = subst (λ (r : Progress). Answers (run_answer r) answer) (same_run budget core source [] e) h
