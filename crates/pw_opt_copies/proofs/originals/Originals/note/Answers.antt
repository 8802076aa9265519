use Rattle.std.proofs.Common.{◌≡◌, List, Bool, true, false, get_or, sym, subst}
use Rattle.std.proofs.lemmas.List.{get_or-set_same}
use Rattle.pw_opt_copies.proofs.Noting.{original_kept}
use Rattle.pw_opt_copies.proofs.originals.Originals.note.Goals as goal

pub returns-clause-kept : goal.returns-clause-kept
returns-clause-kept c = λ u b e.
    original_kept c.self.inside.are.items c.args.a b (rw c.self.view_is c.requires) (subst (λ (xs : List Bool). get_or xs b false ≡ true) (sym c.self.view_is) e)

pub returns-clause-noted : goal.returns-clause-noted
returns-clause-noted c = λ t. get_or-set_same c.self.inside.are.items c.args.a true false (rw c.self.view_is c.requires)
