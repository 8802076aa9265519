use Rattle.std.proofs.Common.{◌==◌, sym, ◌∙◌, rules, arith}
use Rattle.std.proofs.lemmas.List.Folds.{list_all_at}
use Rattle.pw_check_rules.specs.SpecifierLists.{times}
use Rattle.pw_check_specifier_facts.proofs.keywords.are_as_often.Goals as goal

pub returns-then-not-is_as_often : goal.returns-then-not-is_as_often
returns-then-not-is_as_often c =
    sym (list_all_at (λ w. times w c.args.a.now == times w c.args.b.now) c.args.a.now c.loop-word.word-index _ (omega arith)
    (sym c.is_as_often.ensures ∙ (search rules)))
