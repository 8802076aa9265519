-- No instruction changes whether the run has stopped.
use Rattle.std.specs.Prelude.{ℕ, ◌≡◌, Bool, true, false, not, ◌&&◌, ◌==◌, if◌then◌else◌, Option, Some, None, List, ◌%◌, ◌^◌}
use Rattle.std.proofs.Common.{refl, subst}
use Rattle.pw_inst.specs.declared.Inst.{Inst}
use Rattle.pw_inst.specs.InstructionTable.{decoded}
use Rattle.pw_machine.specs.declared.ends.End.{End}
use Rattle.pw_machine.specs.declared.ends.End.TheVariants.{Ended, StackStop}
use Rattle.pw_machine.specs.declared.ends.Halt.{Halt}
use Rattle.pw_machine.specs.declared.ends.Halt.TheVariants.{BadBranch, BadBreak}
use Rattle.pw_machine.specs.Core.{Core, register, with_register, next, moved, advanced, word_at}
use Rattle.pw_inst.specs.Computing.{Action, Puts, Loads, Stores, Shifts, Clears, Branches, Links, Jumps, Calls, Asks, bytes_of_width, action}
use Rattle.pw_inst.specs.Registers.{routine_link}
use Rattle.pw_machine.specs.Effect.{Effect, Goes, Reads, Writes, Stops, executed, effect_of, effect_of_inst, effect_of_action, unless, puts, loads, stores, breaks, halts, access_fault, is_in_text, target, memory_at, memory_with}

-- where the step goes on, `stopped` is as it was
abbrev pub KeepsStopped : Option End → Effect → Type 0
KeepsStopped stopped (Goes core) = core.stopped ≡ stopped
KeepsStopped stopped Reads = Unit {0}
KeepsStopped stopped (Writes byte) = Unit {0}
KeepsStopped stopped (Stops end) = Unit {0}

pub if_keeps : (s : Option End) (b : Bool) (x y : Effect) → KeepsStopped s x → KeepsStopped s y → KeepsStopped s (if b then x else y)
if_keeps s true x y h k = h
if_keeps s false x y h k = k

pub if_stopped : (s : Option End) (b : Bool) (x y : Core) → x.stopped ≡ s → y.stopped ≡ s → (if b then x else y).stopped ≡ s
if_stopped s true x y h k = h
if_stopped s false x y h k = k

pub with_register-stopped : (core : Core) (r value : ℕ) → (with_register core r value).stopped ≡ core.stopped
with_register-stopped core r value = if_stopped _ (r == 0) core _ refl refl

pub unless-keeps : (s : Option End) (f : Option Halt) (core : Core) (e : Effect) → KeepsStopped s e → KeepsStopped s (unless f core e)
unless-keeps s None core e h = h
unless-keeps s (Some halt) core e h = tt

pub puts-keeps : (core : Core) (t value : ℕ) → KeepsStopped core.stopped (puts core t value)
puts-keeps core t value = with_register-stopped (advanced core) t value

pub loads-keeps : (core : Core) (a size t value : ℕ) → KeepsStopped core.stopped (loads core a size t value)
loads-keeps core a size t value = unless-keeps core.stopped (access_fault core a size false) core (puts core t value) (puts-keeps core t value)

pub stores-keeps : (core : Core) (a size : ℕ) (memory : List ℕ) → KeepsStopped core.stopped (stores core a size memory)
stores-keeps core a size memory =
    unless-keeps core.stopped (access_fault core a size true) core (Goes (record (advanced core) { memory = memory })) refl

pub breaks-keeps : (core : Core) (im5 im13 : ℕ) → KeepsStopped core.stopped (breaks core im5 im13)
breaks-keeps core im5 im13 =
    let s = core.stopped in
    let byte = register core 26 % 2 ^ 8 in
    let last = halts core BadBreak in
    let fourth = if (im5 == 0) && (im13 == 4) then Stops StackStop else last in
    let third = if (im5 == 0) && (im13 == 3) then Stops (Ended byte) else fourth in
    let second = if (im5 == 0) && (im13 == 2) then Writes byte else third in
    if_keeps s ((im5 == 0) && (im13 == 1)) Reads second tt
    (if_keeps s ((im5 == 0) && (im13 == 2)) (Writes byte) third tt
    (if_keeps s ((im5 == 0) && (im13 == 3)) (Stops (Ended byte)) fourth tt
    (if_keeps s ((im5 == 0) && (im13 == 4)) (Stops StackStop) last tt tt)))

pub action-keeps : (core : Core) (x : Action) → KeepsStopped core.stopped (effect_of_action core x)
action-keeps core (Puts t word) = puts-keeps core t word
action-keeps core (Loads width a t) = loads-keeps core a (bytes_of_width width) t (memory_at width core.memory a)
action-keeps core (Stores width a word) = stores-keeps core a (bytes_of_width width) (memory_with width core.memory a word)
action-keeps core (Shifts n) = refl
action-keeps core (Clears t skips) = with_register-stopped (moved core (next core) skips) t 0
action-keeps core (Branches taken disp) = refl
action-keeps core (Links disp t n) = with_register-stopped (moved core (target core disp) n) t (next core)
action-keeps core (Jumps a n) = refl
action-keeps core (Calls a n) = with_register-stopped (moved core a n) routine_link (next core)
action-keeps core (Asks im5 im13) = breaks-keeps core im5 im13

pub executed-keeps : (core : Core) (inst : Inst) → KeepsStopped core.stopped (executed core inst)
executed-keeps core inst = action-keeps core (action (λ r. register core r) core.shift inst)

pub effect_of_inst-keeps : (core : Core) (inst : Option Inst) → KeepsStopped core.stopped (effect_of_inst core inst)
effect_of_inst-keeps core None = tt
effect_of_inst-keeps core (Some inst) = executed-keeps core inst

pub effect_of-keeps : (core : Core) → KeepsStopped core.stopped (effect_of core)
unfolding effect_of
effect_of-keeps core =
    let s = core.stopped in
    let inst = decoded (word_at core.memory core.front) in
    let other = if core.nullify then Goes (advanced core) else effect_of_inst core inst in
    if_keeps s (not (is_in_text core core.front)) (halts core BadBranch) other tt
    (if_keeps s core.nullify (Goes (advanced core)) (effect_of_inst core inst) refl (effect_of_inst-keeps core inst))

-- a step that goes on keeps `stopped`
pub goes-keeps : (core new : Core) → effect_of core ≡ Goes new → new.stopped ≡ core.stopped
goes-keeps core new e = subst (KeepsStopped core.stopped) e (effect_of-keeps core)
