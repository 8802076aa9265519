-- What each turn of the machine's loop adds to its run. The turns before are a run that is spent.
use Rattle.std.proofs.Common.{ℕ, ◌+◌, ◌<◌, ◌≡◌, List, [], ◌∷◌, ◌++◌, Option, Some, None, Ok, Err, refl, sym, ap, subst, ◌∙◌, arith, append-nil}
use Rattle.pw_io.specs.declared.Failed.{Failed}
use Rattle.pw_io.specs.Streams.{TakesFrom, TakesNext, Appends, AppendsPart}
use Rattle.pw_machine.specs.declared.ends.End.{End}
use Rattle.pw_machine.specs.declared.ends.Stop.{Stop}
use Rattle.pw_machine.specs.declared.ends.Stop.TheVariants.{Ended, StackStop, Spent, Halted, ReadFault, WriteFault}
use Rattle.pw_machine.specs.Core.{Core}
use Rattle.pw_machine.specs.Effect.{Effect, Goes, Reads, Writes, Stops, effect_of}
use Rattle.pw_machine.specs.Run.{State, Running, Stopped, answered, input_word, reads, taken, began, run_of, steps_of}
use Rattle.pw_machine.specs.Stops.{RunStops, IsRunFrom, RunsOver, end_of}
use Rattle.pw_machine.proofs.Runs.{run_of-more, run_of-stays_at, steps_of-stays_at, steps_of-last, Appends-none, Appends-more, AppendsPart-byte}

-- the state over what is left of an input
abbrev pub over : Core → List ℕ → List ℕ → State
over core rest output = record { core = core; rest = rest; output = output }

-- an end that the run comes to, whichever answer tells it
pub RunStops-end : (start : State) (budget : ℕ) (stop : Stop) (e : End) (n : ℕ) (last : State) → end_of stop ≡ Some e → n ≡ steps_of budget start → run_of budget start ≡ Stopped e last → RunStops start budget stop n last
RunStops-end start budget (Ended status) e n last is count h = (count, cc)
RunStops-end start budget StackStop e n last is count h = (count, cc)
RunStops-end start budget Spent e n last is count h = absurd cc
RunStops-end start budget (Halted halt at) e n last is count h = (count, cc)
RunStops-end start budget ReadFault e n last is count h = absurd cc
RunStops-end start budget WriteFault e n last is count h = absurd cc

-- ---- the beginning

pub turns_none : (core : Core) (rest taken : Option (List ℕ)) → core.stopped ≡ None → RunsOver core rest taken 0 Spent 0 core rest taken
unfolding run_of
turns_none core None taken going = tt
turns_none core (Some input) taken going = record {
  left = input;
  output = [];
  rest_is = refl;
  taken_is = Appends-none taken;
  comes = (refl, ap (λ (o : Option End). began o (over core input [])) going);
}

-- a machine that has stopped answers its end
pub turns_stopped : (core : Core) (rest taken : Option (List ℕ)) (budget : ℕ) (stop : Stop) (e : End) → core.stopped ≡ Some e → end_of stop ≡ Some e → RunsOver core rest taken budget stop 0 core rest taken
unfolding run_of steps_of
turns_stopped core None taken budget stop e has is = tt
turns_stopped core (Some input) taken budget stop e has is =
    let start = over core input [] in
    let first : run_of 0 start ≡ Stopped e start = ap (λ (o : Option End). began o start) has in
    record {
      left = input;
      output = [];
      rest_is = refl;
      taken_is = Appends-none taken;
      comes = RunStops-end start budget stop e 0 start is (sym (steps_of-stays_at 0 budget start start e (omega arith) first)) (run_of-stays_at 0 budget start start e (omega arith) first);
    }

-- ---- a turn that goes on

pub turn_goes : (old core new : Core) (rest t rest' t' : Option (List ℕ)) (m : ℕ) → RunsOver old rest t m Spent m core rest' t' → effect_of core ≡ Goes new → RunsOver old rest t (m + 1) Spent (m + 1) new rest' t'
turn_goes old core new None t rest' t' m h e = tt
turn_goes old core new (Some input) t rest' t' m h e =
    let last = over core h.left h.output in
    record {
      left = h.left;
      output = h.output;
      rest_is = h.rest_is;
      taken_is = h.taken_is;
      comes = (refl, run_of-more m (over old input []) last h.comes.1 ∙ ap (λ (x : Effect). taken x last) e);
    }

reads_from : (old core : Core) (input : List ℕ) (t t' rest'' : Option (List ℕ)) (m : ℕ) (byte : Option ℕ) (left output : List ℕ) → Appends t t' output → run_of m (over old input []) ≡ Running (over core left output) → effect_of core ≡ Reads → TakesFrom left rest'' (Ok byte) → IsRunFrom old input t (m + 1) Spent (m + 1) (answered core (input_word byte)) rest'' t'
reads_from old core input t t' None m (Some byte) left output a h e k = absurd k
reads_from old core input t t' (Some later) m (Some byte) left output a h e k =
    let last = over core left output in
    record {
      left = later;
      output = output;
      rest_is = refl;
      taken_is = a;
      comes = (refl, run_of-more m (over old input []) last h ∙ ap (λ (x : Effect). taken x last) e ∙ ap (λ (xs : List ℕ). reads core xs output) k);
    }
reads_from old core input t t' rest'' m None left output a h e k =
    let last = over core left output in
    record {
      left = [];
      output = output;
      rest_is = k.1;
      taken_is = a;
      comes = (refl, run_of-more m (over old input []) last h ∙ ap (λ (x : Effect). taken x last) e ∙ ap (λ (xs : List ℕ). reads core xs output) k.0);
    }

-- the source gave a byte, or was at its end
pub turn_reads : (old core : Core) (rest t rest' t' rest'' : Option (List ℕ)) (m : ℕ) (byte : Option ℕ) → RunsOver old rest t m Spent m core rest' t' → effect_of core ≡ Reads → TakesNext rest' rest'' (Ok byte) → RunsOver old rest t (m + 1) Spent (m + 1) (answered core (input_word byte)) rest'' t'
turn_reads old core None t rest' t' rest'' m byte h e k = tt
turn_reads old core (Some input) t rest' t' rest'' m byte h e k =
    reads_from old core input t t' rest'' m byte h.left h.output h.taken_is h.comes.1 e (subst (λ (o : Option (List ℕ)). TakesNext o rest'' (Ok byte)) h.rest_is k)

-- the sink took the byte
pub turn_writes : (old core : Core) (rest t rest' t' t'' : Option (List ℕ)) (m byte : ℕ) → RunsOver old rest t m Spent m core rest' t' → effect_of core ≡ Writes byte → Appends t' t'' (byte ∷ []) → RunsOver old rest t (m + 1) Spent (m + 1) (answered core byte) rest' t''
turn_writes old core None t rest' t' t'' m byte h e k = tt
turn_writes old core (Some input) t rest' t' t'' m byte h e k =
    let last = over core h.left h.output in
    record {
      left = h.left;
      output = h.output ++ byte ∷ [];
      rest_is = h.rest_is;
      taken_is = Appends-more t t' t'' h.output (byte ∷ []) h.taken_is k;
      comes = (refl, run_of-more m (over old input []) last h.comes.1 ∙ ap (λ (x : Effect). taken x last) e);
    }

-- ---- a turn that is the last

pub turn_stops : (old core : Core) (rest t rest' t' : Option (List ℕ)) (m budget : ℕ) (stop : Stop) (e : End) → RunsOver old rest t m Spent m core rest' t' → effect_of core ≡ Stops e → end_of stop ≡ Some e → m < budget → RunsOver old rest t budget stop (m + 1) (record core { stopped = Some e }) rest' t'
turn_stops old core None t rest' t' m budget stop e h is told lt = tt
turn_stops old core (Some input) t rest' t' m budget stop e h is told lt =
    let start = over old input [] in
    let last = over core h.left h.output in
    let new = over (record core { stopped = Some e }) h.left h.output in
    let comes : run_of (m + 1) start ≡ Stopped e new = run_of-more m start last h.comes.1 ∙ ap (λ (x : Effect). taken x last) is in
    let count : m + 1 ≡ steps_of budget start = sym (steps_of-stays_at (m + 1) budget start new e (omega arith) comes ∙ steps_of-last m start last h.comes.1) in
    record {
      left = h.left;
      output = h.output;
      rest_is = h.rest_is;
      taken_is = h.taken_is;
      comes = RunStops-end start budget stop e (m + 1) new told count (run_of-stays_at (m + 1) budget start new e (omega arith) comes);
    }

-- the source failed, and its rest is as before
pub turn_read_fails : (old core : Core) (rest t rest' t' rest'' : Option (List ℕ)) (m budget : ℕ) (f : Failed) → RunsOver old rest t m Spent m core rest' t' → TakesNext rest' rest'' (Err f) → m < budget → RunsOver old rest t budget ReadFault m core rest'' t'
turn_read_fails old core None t rest' t' rest'' m budget f h k lt = tt
turn_read_fails old core (Some input) t rest' t' rest'' m budget f h k lt = record {
  left = h.left;
  output = h.output;
  rest_is = subst (λ (o : Option (List ℕ)). TakesNext o rest'' (Err f)) h.rest_is k;
  taken_is = h.taken_is;
  comes = (lt, h.comes.1);
}

-- the sink failed, and took nothing of the byte
pub turn_write_fails : (old core : Core) (rest t rest' t' t'' : Option (List ℕ)) (m budget byte : ℕ) → RunsOver old rest t m Spent m core rest' t' → AppendsPart t' t'' (byte ∷ []) → m < budget → RunsOver old rest t budget WriteFault m core rest' t''
turn_write_fails old core None t rest' t' t'' m budget byte h k lt = tt
turn_write_fails old core (Some input) t rest' t' t'' m budget byte h k lt = record {
  left = h.left;
  output = h.output;
  rest_is = h.rest_is;
  taken_is = subst (λ (xs : List ℕ). Appends t t'' xs) (append-nil h.output) (Appends-more t t' t'' h.output [] h.taken_is (AppendsPart-byte t' t'' byte k));
  comes = (lt, h.comes.1);
}
