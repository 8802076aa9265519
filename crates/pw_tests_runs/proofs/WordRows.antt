-- What the machine's run notes of words: a call, a store of a global, and the return.
use Rattle.std.specs.Prelude.{ℕ, pos, ◌≡◌, ◌<◌, false, true, None, List, [], ◌∷◌, ◌++◌, map, replicate, slice_set, codes, if◌then◌else◌}
use Rattle.std.specs.Str.{bytes_eq}
use Rattle.std.proofs.Common.{arith, refl}
use Rattle.pw_inst.specs.declared.Inst.{Inst}
use Rattle.pw_inst.specs.declared.Inst.TheVariants.{Bl, Bv, Break, Ldo, Or, Stw}
use Rattle.pw_inst.specs.InstructionTable.{word_of, decoded, form_of, system, branch, memory, three_register}
use Rattle.pw_machine.specs.Core.{Core}
use Rattle.pw_machine.specs.Start.{bytes_of}
use Rattle.pw_machine.specs.Effect.{effect_of}
use Rattle.pw_machine.specs.Run.{run_of}
use Rattle.pw_run_languages.specs.Traces.{Event, Called, Stored}
use Rattle.pw_run_languages.specs.Traffic.{ObeysTrafficFor}
use Rattle.pw_run_languages.specs.ImageTrace.{Symbols, start_state, traced}
use Rattle.pw_run_languages.specs.MachineRun.{Map, traced_run, noted}
use Rattle.pw_tests_runs.proofs.Stories.{story, told}
use Rattle.pw_tests_runs.proofs.Programs.{bumping}

-- `$start` at 4096 calls main, and passes its result to exit at 4108; main at 4112 stores 5 in n at 4128
abbrev code : List Inst
code =
    Bl (pos 2) 2 true
    ∷ Or 0 0 0
    ∷ Ldo (pos 0) 28 26
    ∷ Break 0 3
    ∷ Ldo (pos 5) 0 28
    ∷ Stw 28 (pos 4128) 0
    ∷ Bv 2 true
    ∷ Or 0 0 0
    ∷ []

abbrev address : List ℕ → ℕ
address name =
    if bytes_eq name (codes "$start") then 4096 else if bytes_eq name (codes "exit") then 4108 else
    if bytes_eq name (codes "main") then 4112 else if bytes_eq name (codes "n") then 4128 else 8192

abbrev map_of : Map
map_of = record { flow = bumping; functions = []; eligible = codes "n" ∷ []; named = address }

abbrev core : Core
core = record {
  registers = slice_set (replicate 32 0) 30 4192;
  front = 4096;
  back = 4100;
  nullify = false;
  shift = 0;
  memory = replicate 4096 0 ++ bytes_of (map word_of code) ++ replicate 8 0;
  text = 8;
  data_start = 4128;
  stopped = None;
}

-- the delay slot behind a call is passed over, and is no call; main is active until the word behind it is next
call_runs : story (traced_run map_of core [] 9) ≡ codes " ($start (main >n )main (exit = 5 "
unfolding traced_run noted run_of effect_of decoded form_of system branch memory three_register word_of
call_runs = refl

inside_runs : story (traced_run map_of core [] 5) ≡ codes " ($start (main >n .. "
unfolding traced_run noted run_of effect_of decoded form_of system branch memory three_register word_of
inside_runs = refl

-- ---- the trace, by names and addresses alone

abbrev symbols : Symbols
symbols = record { functions = codes "exit" ∷ codes "main" ∷ codes "$start" ∷ []; globals = (codes "n", 4) ∷ []; named = address }

trace_tells : told (traced symbols (start_state core []) 9).told ≡ codes " ($start (main >n )main (exit"
unfolding traced run_of effect_of decoded form_of system branch memory three_register word_of
trace_tells = refl

-- a store of a global that no active function holds in a register breaks the law of traffic
abbrev stray : List (Event ℕ ℕ)
stray = Stored (codes "n") ∷ Called (codes "main") [] [] ∷ []

stray_store : ObeysTrafficFor (λ v. v ≡ codes "n") [] stray → ⊥
stray_store o =
    let has = (o.0 refl).0.entry.has in
    let h : has.there.0 < 0 = has.there.1 in
    omega (arith, h)
