use Rattle.std.proofs.Common.{◌≡◌, ◌⊎◌, ◌<◌, ℕ, List, All, subst, sym, vec_len}
use Rattle.std.specs.Prelude.{Option, IfSome, ◌↔◌}
use Rattle.std.proofs.lemmas.List.Elements.{All-from_recursion}
use Rattle.pw_fix.specs.Table.{HoldsAt}
use Rattle.pw_live_fronts.specs.Exposing.{IsRead, IsWritten}
use Rattle.pw_live_fronts.proofs.marking.mark_act.Goals as goal

pub mark_uses-requires-clause-temps : goal.mark_uses-requires-clause-temps
mark_uses-requires-clause-temps c =
    let n = vec_len c.args.exposed.now.numbers in
    subst (λ (ts : List ℕ). All (λ t. t < n) ts) (sym c.uses.ensures) (All-from_recursion (λ t. t < n) c.args.act.now.uses c.requires.act.uses)

pub mark_definition-requires-clause-temp : goal.mark_definition-requires-clause-temp
mark_definition-requires-clause-temp c = subst (λ (o : Option ℕ). IfSome o (λ t. t < vec_len c.args.exposed.now.numbers)) (sym c.defines.ensures) c.requires.act.defines

pub returns-clause-used : goal.returns-clause-used
returns-clause-used c =
    subst (λ (ts : List ℕ). (m i : ℕ) → HoldsAt c.mark_uses.new.uses m i ↔ (HoldsAt c.args.uses.now m i ⊎ ((m ≡ c.args.node) × IsRead c.args.exposed.now ts i × ¬ HoldsAt c.args.defines.now c.args.node i)))
    c.uses.ensures c.mark_uses.ensures.holds

pub returns-clause-defined : goal.returns-clause-defined
returns-clause-defined c =
    subst (λ (o : Option ℕ). (m i : ℕ) → HoldsAt c.mark_definition.new.defines m i ↔ (HoldsAt c.args.defines.now m i ⊎ ((m ≡ c.args.node) × IsWritten c.args.exposed.now o i)))
    c.defines.ensures c.mark_definition.ensures.holds
