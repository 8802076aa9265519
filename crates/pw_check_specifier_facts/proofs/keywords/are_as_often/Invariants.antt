use Rattle.std.proofs.Common.{◌≡◌, ◌==◌, true, take}
use Rattle.std.specs.List.{list_all}
use Rattle.pw_check_rules.specs.SpecifierLists.{times}
use Rattle.pw_check_specifier_facts.proofs.keywords.are_as_often.Given as goal

-- those so far do
abbrev pub invariant-loop-word : goal.invariant-loop-word
invariant-loop-word l = list_all (λ w. times w l.a == times w l.b) (take l.word-index l.a) ≡ true
