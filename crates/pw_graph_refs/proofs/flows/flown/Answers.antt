use Rattle.std.proofs.Common.{◌⊎◌, ◌∙◌, ℕ, List, subst, sym}
use Rattle.std.specs.Prelude.{◌↔◌}
use Rattle.pw_fix.specs.Table.{HoldsAt}
use Rattle.pw_fix.specs.declared.bit_row.BitRow.{BitRow}
use Rattle.pw_graph_refs.specs.Flows.{AreWithin, IsDelivered}
use Rattle.pw_graph_refs.proofs.Flowing.{delivered_by, only_delivered, empty_rows}
use Rattle.pw_graph_refs.proofs.flows.flown.Goals as goal

pub returns : goal.returns
returns c =
    let own = c.args.own.now in
    let edges = c.args.edges.items in
    let values = c.in_ok-values.values.items in
    let table = c.in_ok-table.table in
    let nodes = c.len-nodes.result in
    let within : AreWithin nodes edges = subst (λ n. AreWithin n edges) (sym c.len-nodes.ensures) c.requires in
    let seen = subst (λ (es : List (ℕ × ℕ)). (n v : ℕ) → HoldsAt c.deliver.new.table n v ↔ (HoldsAt table n v ⊎ IsDelivered es c.deref-2.result.now n v)) c.deref.ensures.value c.deliver.ensures.holds in
    let holds = subst (λ (xs : List BitRow). (n v : ℕ) → HoldsAt c.deliver.new.table n v ↔ (HoldsAt table n v ⊎ IsDelivered edges xs n v)) c.deref-2.ensures.value seen in
    let empties = empty_rows own table nodes c.in_ok-table.ensures.length (sym table.rows.ok.0 ∙ c.in_ok-table.ensures.count) c.in_ok-table.ensures.empty in
    record {
      count = c.deliver.ensures.count ∙ c.in_ok-table.ensures.count ∙ c.len-nodes.ensures;
      length = c.deliver.ensures.length ∙ c.in_ok-table.ensures.length;
      holds = delivered_by own edges nodes values within empties c.in_ok-values.ensures.least.solution c.in_ok-values.ensures.derived c.deliver.new.table (only_delivered table c.deliver.new.table edges values c.in_ok-table.ensures.empty holds);
    }
