use Rattle.std.proofs.Common.{List, Bool, false, get_or, ap, ◌∙◌, rules}
use Rattle.pw_where.proofs.Tables.{no_mark}
use Rattle.pw_where.proofs.entries.unmarked.Goals as goal

pub returns-clause-none : goal.returns-clause-none
returns-clause-none c = λ a. ap (λ (t : List Bool). get_or t a false) (c.in_ok-table.ensures.items_if_clones_equal (λ y h. search rules)) ∙ no_mark c.args.places a
