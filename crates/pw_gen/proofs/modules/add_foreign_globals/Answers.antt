use Rattle.std.proofs.Common.{List, ℕ, ◌++◌, ap, sym, ◌∙◌, append_assoc}
use Rattle.std.specs.List.{flat_map, range_with_len}
use Rattle.pw_gen.specs.Generator.{foreign_global}
use Rattle.pw_gen.proofs.Steps.{flat_range_more}
use Rattle.pw_gen.proofs.modules.add_foreign_globals.Goals as goal

pub loop-other-preserved : goal.loop-other-preserved
loop-other-preserved c =
    let f = foreign_global c.args.k in
    let i = c.loop-other.other in
    let out = c.args.out.now.items in
    c.in_ok-add_foreign_global.ensures ∙ ap (λ (xs : List ℕ). xs ++ f i) c.loop-other.invariant ∙ append_assoc out (flat_map f (range_with_len 0 i)) (f i)
    ∙ ap (λ (xs : List ℕ). out ++ xs) (sym (flat_range_more f i))
