use Rattle.std.proofs.Common.{◌↔◌, ◌≡◌, ℕ, ◌+◌, ◌<◌, All, Contains, length, take, sym, subst, arith, get_or, set, vec_len}
use Rattle.std.proofs.lemmas.List.{take_all}
use Rattle.std.proofs.lemmas.Option.{slice_get_read}
use Rattle.pw_fix.specs.Solution.{HasEdge}
use Rattle.pw_fix.proofs.Adjacency.{rows_more, AreRows}
use Rattle.pw_fix.proofs.graph.Graph.successors.Goals as goal

pub loop-from-preserved : goal.loop-from-preserved
loop-from-preserved c =
    let es = c.deref-from-items.result.now in
    let value = c.deref-from-items.ensures.value in
    let i = c.loop-from.from-index in
    let rows = c.loop-from.rows in
    let old = c.index_mut.result.now in
    let new = c.push-in-loop-from.new.self in
    let short : i < length es = omega arith in
    let from : (get_or es i (0, 0)).0 < vec_len rows =
    let all = subst (λ fs. All (λ (e : ℕ × ℕ). (e.0 < c.args.self.now.nodes) × (e.1 < c.args.self.now.nodes)) fs) (sym value) c.args.self.now.within in
    let each : vec_len rows ≡ c.args.self.now.nodes = c.loop-from.invariant.each in
    rw each (all i (0, 0) short).0 in
    let there = slice_get_read rows.items (vec_len rows) (get_or es i (0, 0)).0 old rows.ok.0 from c.index_mut.ensures.value in
    let exact = subst (λ fs. AreRows rows.items (take i fs)) (sym value) c.loop-from.invariant.exact in
    record {
      each = c.loop-from.invariant.each;
      exact = subst (λ fs. AreRows (set rows.items (get_or es i (0, 0)).0 new) (take (i + 1) fs)) value (rows_more rows.items es i short exact old new there c.in_ok-push-2.ensures.ok);
    }

pub returns-clause-exact : goal.returns-clause-exact
returns-clause-exact c = λ m n row h.
    let all : take c.loop-from.from-index c.args.self.now.edges.items ≡ c.args.self.now.edges.items = take_all c.loop-from.from-index c.args.self.now.edges.items (omega arith) in
    subst (λ es. Contains row.items n ↔ HasEdge es m n) all (c.loop-from.invariant.exact m n row h)
