use Rattle.std.proofs.Common.{◌≡◌, ℕ, ◌+◌, ◌<◌, ◌≤◌, length, All, Contains, Some, slice_get, get_or, set, sym, subst, arith, inl, inr, refl, ◌∙◌, vec_len, get_or-set_same}
use Rattle.std.proofs.lemmas.List.Elements.{All-contains, Contains-get_or}
use Rattle.std.proofs.lemmas.Option.{slice_get_read}
use Rattle.pw_fix.specs.Order.{IsLeast}
use Rattle.pw_fix.specs.Solution.{HasEdge}
use Rattle.pw_fix.specs.Spread.{IsSpread, room}
use Rattle.pw_fix.specs.Waiting.{IsWaiting, waiting_count}
use Rattle.pw_fix.proofs.Derivations.{derivable_own}
use Rattle.pw_fix.proofs.Places.{All-at, All-from_at, all_written}
use Rattle.pw_fix.proofs.Progress.{IsProgress, starts, unspread, advances, finishes}
use Rattle.pw_fix.proofs.Spreading.{spread_elsewhere}
use Rattle.pw_fix.proofs.solver.solve.Goals as goal

pub loop-node-init : goal.loop-node-init
loop-node-init g c =
    let m = g.P.L.Lattice in
    let lattice = c.lattice-lattice.result.now in
    let graph = c.args.graph.now in
    let begun = c.in_ok-values in
    record {
      progress = starts (m.is_own lattice) (m.is_below lattice) (g.P.Problem.gives c.args.problem.now) graph.edges.items graph.nodes (g.met.P.L.Lattice.order lattice)
          begun.field-0.values.items begun.field-0.inflows.items (IsWaiting begun.field-0.waiting)
          (sym begun.field-0.values.ok.0 ∙ begun.ensures.each_value) (sym begun.field-0.inflows.ok.0 ∙ begun.ensures.each_inflow)
          (λ n x e. All-at (IsLeast (m.is_own lattice) (m.is_below lattice)) begun.field-0.values.items n x begun.ensures.values e)
          (λ n x e. All-at (IsLeast (m.is_own lattice) (m.is_below lattice)) begun.field-0.inflows.items n x begun.ensures.inflows e)
          begun.ensures.waiting;
      nodes = begun.ensures.nodes;
      own = begun.ensures.outflow.own;
    }

pub step-requires-clause-inflow : goal.step-requires-clause-inflow
step-requires-clause-inflow g c =
    let m = g.P.L.Lattice in
    let lattice = c.lattice-lattice.result.now in
    let p = c.loop-node.invariant.progress in
    let node = c.in-Some.node in
    let inflow = c.index.result.now in
    let here : node < length c.loop-node.inflows.items = rw (p.each_inflow, ← c.loop-node.invariant.nodes) c.in-Some.ensures.node in
    let there = slice_get_read c.loop-node.inflows.items (length c.loop-node.inflows.items) node inflow refl here c.index.ensures in
    let own : m.is_own lattice inflow = derivable_own (m.is_own lattice) (m.is_below lattice) (g.P.Problem.gives c.args.problem.now) c.args.graph.now.edges.items (p.inflow_derivable node inflow there) in
    subst (λ k. m.is_own k inflow) c.lattice-lattice.ensures own

pub join-requires-clause-into : goal.join-requires-clause-into
join-requires-clause-into g c =
    let m = g.P.L.Lattice in
    let lattice = c.lattice-lattice.result.now in
    let p = c.loop-node.invariant.progress in
    let node = c.in-Some.node in
    let value = c.index_mut.result.now in
    let here : node < length c.loop-node.values.items = rw (p.each_value, ← c.loop-node.invariant.nodes) c.in-Some.ensures.node in
    let there = slice_get_read c.loop-node.values.items (length c.loop-node.values.items) node value refl here c.index_mut.ensures.value in
    derivable_own (m.is_own lattice) (m.is_below lattice) (g.P.Problem.gives c.args.problem.now) c.args.graph.now.edges.items (p.value_derivable node value there)

pub spread-requires-clause-successors : goal.spread-requires-clause-successors
spread-requires-clause-successors g c =
    let p = c.loop-node.invariant.progress in
    let graph = c.args.graph.now in
    let node = c.in-Some.node in
    let rows = c.in_ok-successors.successors in
    let row = c.index-then-join-2.result.now in
    let here : node < vec_len rows = rw (c.in_ok-successors.ensures.each, ← c.loop-node.invariant.nodes) c.in-Some.ensures.node in
    let there = slice_get_read rows.items (vec_len rows) node row rows.ok.0 here c.index-then-join-2.ensures in
    let ends : All (λ n. n < length c.loop-node.inflows.items) row.items = λ k d h.
    let edge = (c.in_ok-successors.ensures.exact node (get_or row.items k d) row there).0 (Contains-get_or row.items k d h) in
    rw p.each_inflow (All-contains (λ (e : ℕ × ℕ). (e.0 < graph.nodes) × (e.1 < graph.nodes)) graph.edges.items (node, get_or row.items k d) graph.within edge).1 in
    rw (c.as_slice.ensures, c.deref_mut.ensures.value) ends

pub spread-requires-clause-inflows : goal.spread-requires-clause-inflows
spread-requires-clause-inflows g c =
    let m = g.P.L.Lattice in
    let lattice = c.lattice-lattice.result.now in
    let p = c.loop-node.invariant.progress in
    rw c.deref_mut.ensures.value (All-from_at (m.is_own lattice) c.loop-node.inflows.items (λ n x e.
    derivable_own (m.is_own lattice) (m.is_below lattice) (g.P.Problem.gives c.args.problem.now) c.args.graph.now.edges.items (p.inflow_derivable n x e)))

pub loop-node-smaller-in-Continue-branch-3 : goal.loop-node-smaller-in-Continue-branch-3
loop-node-smaller-in-Continue-branch-3 g c =
    let m = g.P.L.Lattice in
    let lattice = c.lattice-lattice.result.now in
    let height = g.P.Problem.height_of c.args.problem.now in
    let fits = subst (λ k. (x : _) → m.is_own k x → m.rank k x ≤ height) (sym c.lattice-lattice.ensures) (g.met.P.Problem.bounded c.args.problem.now) in
    let less : waiting_count c.spread.new.waiting + room (m.rank lattice) height c.spread.new.inflows ≤ waiting_count c.pop.new.self + room (m.rank lattice) height c.loop-node.inflows.items =
    rw (← c.deref_mut.ensures.value) (c.in_ok-spread.ensures.room height fits) in
    let taken : waiting_count c.pop.new.self + 1 ≡ waiting_count c.loop-node.waiting = c.in-Some.ensures.count in
    let long : length c.spread.new.inflows ≡ vec_len c.loop-node.inflows = c.spread.auto.inflows ∙ c.deref_mut.ensures.len in
    let written = all_written (vec_len c.loop-node.inflows) c.spread.new.inflows c.loop-node.inflows.items long (sym c.loop-node.inflows.ok.0) in
    let goes : waiting_count c.spread.new.waiting + room (m.rank lattice) height c.spread.new.inflows < waiting_count c.loop-node.waiting + room (m.rank lattice) height c.loop-node.inflows.items = omega arith in
    subst (λ xs. waiting_count c.spread.new.waiting + room (m.rank lattice) height xs < waiting_count c.loop-node.waiting + room (m.rank lattice) height c.loop-node.inflows.items) (sym written) goes

pub loop-node-preserved-in-Continue-branch-3 : goal.loop-node-preserved-in-Continue-branch-3
loop-node-preserved-in-Continue-branch-3 g c =
    let m = g.P.L.Lattice in
    let lattice = c.lattice-lattice.result.now in
    let problem = c.args.problem.now in
    let graph = c.args.graph.now in
    let order = g.met.P.L.Lattice.order lattice in
    let p = c.loop-node.invariant.progress in
    let node = c.in-Some.node in
    let values = c.loop-node.values in
    let inflows = c.loop-node.inflows in
    let value = c.index_mut.result.now in
    let inflow = c.index.result.now in
    let out = c.step.new.out in
    let new = c.join.new.into in
    let flown = c.spread.new.inflows in
    let waiting = c.spread.new.waiting in
    let here_value : node < length values.items = rw (p.each_value, ← c.loop-node.invariant.nodes) c.in-Some.ensures.node in
    let here_inflow : node < length inflows.items = rw (p.each_inflow, ← c.loop-node.invariant.nodes) c.in-Some.ensures.node in
    let ex = slice_get_read values.items (length values.items) node value refl here_value c.index_mut.ensures.value in
    let ey = slice_get_read inflows.items (length inflows.items) node inflow refl here_inflow c.index.ensures in
    let own_out = subst (λ k. m.is_own k out) (sym c.lattice-lattice.ensures) c.step.ensures.own in
    let rows = c.in_ok-successors.successors in
    let row = c.index-then-join-2.result.now in
    let here_row : node < vec_len rows = rw (c.in_ok-successors.ensures.each, ← c.loop-node.invariant.nodes) c.in-Some.ensures.node in
    let exact = λ (s : ℕ). c.in_ok-successors.ensures.exact node s row (slice_get_read rows.items (vec_len rows) node row rows.ok.0 here_row c.index-then-join-2.ensures) in
    let long : length flown ≡ vec_len inflows = c.spread.auto.inflows ∙ c.deref_mut.ensures.len in
    let written = all_written (vec_len inflows) flown inflows.items long (sym inflows.ok.0) in
    record {
      progress = subst (λ xs. IsProgress (m.is_own lattice) (m.is_below lattice) (g.P.Problem.gives problem) graph.edges.items graph.nodes (set values.items node new) xs (IsWaiting waiting)) (sym written)
          (advances (m.is_own lattice) (m.is_below lattice) (g.P.Problem.gives problem) graph.edges.items graph.nodes order
          values.items inflows.items (IsWaiting c.loop-node.waiting) p node value inflow out new ex ey own_out c.step.ensures.outflow c.join.ensures.joined
          flown (IsWaiting waiting) (long ∙ inflows.ok.0)
          (λ s y z es ez.
          let sent = c.index-then-join.result.now in
          let same : sent ≡ new = c.index-then-join.ensures ∙ get_or-set_same values.items node new sent here_value in
          let successors = c.as_slice.result.now in
          let es' : slice_get c.deref_mut.result.now s ≡ Some y = rw c.deref_mut.ensures.value es in
          subst (λ v. IsSpread (m.is_own lattice) (m.is_below lattice) (HasEdge graph.edges.items node s) v y z (IsWaiting waiting s)) same
          (spread_elsewhere (m.is_own lattice) (m.is_below lattice) order (Contains successors s) (HasEdge graph.edges.items node s) sent y z (IsWaiting waiting s) (IsWaiting waiting s)
          (λ k. (exact s).0 (subst (λ xs. Contains xs s) c.as_slice.ensures k))
          (λ k. subst (λ xs. Contains xs s) (sym c.as_slice.ensures) ((exact s).1 k))
          (c.in_ok-spread.ensures.flows s y z es' ez) (λ w. w)))
          (λ n h. elim (c.in-Some.ensures.kept n h) [ inl same ↦ inl same | inr still ↦ inr (c.in_ok-spread.ensures.kept n still) ]));
      nodes = c.in_ok-spread.ensures.nodes ∙ c.in-Some.ensures.nodes ∙ c.loop-node.invariant.nodes;
      own = own_out;
    }

pub loop-node-preserved : goal.loop-node-preserved
loop-node-preserved g c =
    let m = g.P.L.Lattice in
    let lattice = c.lattice-lattice.result.now in
    let problem = c.args.problem.now in
    let graph = c.args.graph.now in
    let order = g.met.P.L.Lattice.order lattice in
    let p = c.loop-node.invariant.progress in
    let node = c.in-Some.node in
    let values = c.loop-node.values in
    let inflows = c.loop-node.inflows in
    let value = c.index_mut.result.now in
    let inflow = c.index.result.now in
    let out = c.step.new.out in
    let here_value : node < length values.items = rw (p.each_value, ← c.loop-node.invariant.nodes) c.in-Some.ensures.node in
    let here_inflow : node < length inflows.items = rw (p.each_inflow, ← c.loop-node.invariant.nodes) c.in-Some.ensures.node in
    let ex = slice_get_read values.items (length values.items) node value refl here_value c.index_mut.ensures.value in
    let ey = slice_get_read inflows.items (length inflows.items) node inflow refl here_inflow c.index.ensures in
    let own_out = subst (λ k. m.is_own k out) (sym c.lattice-lattice.ensures) c.step.ensures.own in
    record {
      progress = advances (m.is_own lattice) (m.is_below lattice) (g.P.Problem.gives problem) graph.edges.items graph.nodes order
          values.items inflows.items (IsWaiting c.loop-node.waiting) p node value inflow out c.join.new.into ex ey own_out c.step.ensures.outflow c.join.ensures.joined
          inflows.items (IsWaiting c.pop.new.self) refl
          (λ s y z es ez. unspread (m.is_own lattice) (m.is_below lattice) (g.P.Problem.gives problem) graph.edges.items graph.nodes order
          values.items inflows.items (IsWaiting c.loop-node.waiting) p node value inflow out c.join.new.into ex ey own_out c.step.ensures.outflow c.join.ensures.joined
          c.if-join.ensures.unchanged (IsWaiting c.pop.new.self s) s y z es ez)
          c.in-Some.ensures.kept;
      nodes = c.in-Some.ensures.nodes ∙ c.loop-node.invariant.nodes;
      own = own_out;
    }

pub returns : goal.returns
returns g c =
    let m = g.P.L.Lattice in
    let e = c.lattice-lattice.ensures in
    let problem = c.args.problem.now in
    let graph = c.args.graph.now in
    let lattice = g.P.Problem.lattice_of problem in
    let progress = subst (λ k. IsProgress (m.is_own k) (m.is_below k) (g.P.Problem.gives problem) graph.edges.items graph.nodes c.loop-node.values.items c.loop-node.inflows.items (IsWaiting c.loop-node.waiting)) e c.loop-node.invariant.progress in
    record {
      least = finishes (m.is_own lattice) (m.is_below lattice) (g.P.Problem.gives problem) graph.edges.items graph.nodes (g.met.P.L.Lattice.order lattice)
          (λ n x y a b h. g.met.P.Problem.monotone problem n x y a b (rw c.requires h))
          (λ s t h. (All-contains (λ (e : ℕ × ℕ). (e.0 < graph.nodes) × (e.1 < graph.nodes)) graph.edges.items (s, t) graph.within h).0)
          c.loop-node.values.items c.loop-node.inflows.items (IsWaiting c.loop-node.waiting) progress c.in_default.ensures.none;
      derived = progress.value_derivable;
    }
