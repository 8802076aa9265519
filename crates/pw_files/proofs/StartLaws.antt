-- The rule of $start as one of a file, behind another.
use Rattle.std.proofs.Common.{◌≡◌, ℕ, Bool, true, false, cond, List, refl}
use Rattle.std.specs.Prelude.{Option, Some, None}
use Rattle.pw_value.specs.ProgramNames.{KeepsStart, keeps_start}
use Rattle.pw_value.proofs.StartLaws.{start_forth, start_back}
use Rattle.pw_files.specs.Start.{start_rule, sooner}

rule_by : (b : Bool) (left : ℕ) → cond b None (Some left) ≡ None → b ≡ true
rule_by true left e = refl
rule_by false left e = absurd cc

pub sooner_none : (one two : Option ℕ) → sooner one two ≡ None → (one ≡ None) × (two ≡ None)
sooner_none None two e = (refl, e)
sooner_none (Some left) two e = absurd cc

pub rule_forth : (functions globals : List (List ℕ)) (left : ℕ) → start_rule functions globals left ≡ None → KeepsStart functions globals
rule_forth functions globals left e = start_forth functions globals (rule_by (keeps_start functions globals) left e)

pub rule_back : (functions globals : List (List ℕ)) (left : ℕ) → KeepsStart functions globals → start_rule functions globals left ≡ None
rule_back functions globals left keeps = rw (start_back functions globals keeps) refl
