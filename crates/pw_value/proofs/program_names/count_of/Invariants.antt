use Rattle.std.proofs.Common.{◌≡◌, ◌≤◌, map, take}
use Rattle.pw_value.specs.ProgramNames.{times}
use Rattle.pw_value.proofs.program_names.count_of.Given as goal

abbrev pub invariant-loop-name : goal.invariant-loop-name
invariant-loop-name l = record {
  counted : l.count ≡ times l.wanted (map (λ name. name.now) (take l.name-index l.names));
  few : l.count ≤ l.name-index;
}
