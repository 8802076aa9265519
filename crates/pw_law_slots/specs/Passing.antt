-- What a word does, seen from a core that is another one with something done to it.
use Rattle.std.specs.Prelude.{Bool}
use Rattle.pw_inst.specs.declared.Inst.{Inst}
use Rattle.pw_inst.specs.Computing.{action}
use Rattle.pw_delay.specs.Filling.{goes_on}
use Rattle.pw_delay.specs.declared.items.Turn.{Turn}
use Rattle.pw_delay.specs.declared.items.Turn.TheVariants.{Back}
use Rattle.pw_run_languages.specs.Acts.{Core, Act, Acts, Full, Fails}
use Rattle.pw_run_languages.specs.LineRun.{Machine, Step, On, Stopped, Astray}

-- where a word acts, something is done to the core behind it
abbrev pub past : (Core → Core) → Act → Act
past f (Acts c) = Acts (f c)
past f Full = Full
past f Fails = Fails

-- no branch, COMCLR or BREAK
abbrev pub does_not_turn : Inst → Bool
does_not_turn i = goes_on (action (λ r. 0) 0 i)

-- where a step goes on or stops, something is done to the machine behind it
abbrev pub then_done : (Machine → Machine) → Step → Step
then_done f (On m) = On (f m)
then_done f (Stopped end m) = Stopped end (f m)
then_done f Astray = Astray

-- a turn that leads elsewhere than back inside its block
abbrev pub LeadsOn : Turn → Type 0
LeadsOn (Back i) = ⊥
LeadsOn turn = Unit {0}
