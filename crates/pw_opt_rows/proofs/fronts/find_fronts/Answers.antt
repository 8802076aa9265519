use Rattle.std.proofs.Common.{◌≡◌, ◌∙◌, ℕ, ◌<◌, Bool, List, [], All, length, replicate, set, sym, ap, subst, arith, inl, inr}
use Rattle.std.specs.Prelude.{◌↔◌, Some, slice_get, slice_index_or}
use Rattle.std.proofs.lemmas.Option.{slice_get-get_or}
use Rattle.pw_fix.proofs.Places.{All-from_at, set_cases}
use Rattle.pw_fix.specs.Solution.{HasEdge, IsInflow, into, Derivable, AreDerived}
use Rattle.pw_flow.specs.declared.flow.Block.{Block}
use Rattle.pw_opt_rules.specs.declared.flat.Flat.{Flat}
use Rattle.pw_opt_rules.specs.declared.flat.Flat.TheVariants.{Many}
use Rattle.pw_opt_places.specs.declared.places.Places.{Places}
use Rattle.pw_opt_rows.specs.Places.{DefineNoneAway}
use Rattle.pw_opt_rows.specs.Seeing.{may_at, IsOwn, IsBelowShared}
use Rattle.pw_opt_rows.specs.Outflows.{HasWays, IsOutflow, IsEdge, AreAbout, AreFronts}
use Rattle.pw_opt_rows.proofs.Entering.{many_own}
use Rattle.pw_opt_rows.proofs.Ways.{edges_inside}
use Rattle.pw_opt_rows.proofs.Away.{none_away}
use Rattle.pw_opt_rows.proofs.Least.{solves}
use Rattle.pw_opt_rows.proofs.fronts.find_fronts.Goals as goal

-- the edges are between blocks
abbrev Inside : ℕ → List (ℕ × ℕ) → Type 0
Inside count edges = All (λ (e : ℕ × ℕ). (e.0 < count) × (e.1 < count)) edges

inside : (blocks own : List Block) (edges : List (ℕ × ℕ)) → blocks ≡ own → HasWays own → ((m n : ℕ) → HasEdge edges m n ↔ IsEdge blocks m n) → Inside (length blocks) edges
inside blocks own edges is ways exact =
    edges_inside own ways edges (length blocks) (ap (λ (bs : List Block). length bs) is) (subst (λ (bs : List Block). (m n : ℕ) → HasEdge edges m n ↔ IsEdge bs m n) is exact)

pub invariant_of-graph : goal.invariant_of-graph
invariant_of-graph g c =
    record { within = inside c.as_slice-blocks.result.now c.args.f.now.blocks c.in_ok-edges.edges.items c.as_slice-blocks.ensures c.requires.ways c.in_ok-edges.ensures }

pub invariant_of-problem : goal.invariant_of-problem
invariant_of-problem g c = record {
  about = subst (All (AreAbout (g.R.Rewriting.is_about c.args.rewriting.now))) (sym c.as_slice-blocks.ensures) c.requires.about;
  home = subst (DefineNoneAway c.args.places.now.places.items) (sym c.as_slice-blocks.ensures) (none_away c.args.places.now.places.items c.args.f.now.blocks c.requires.places.home);
}

pub gather-requires-clause-edges : goal.gather-requires-clause-edges
gather-requires-clause-edges g c =
    let bs = c.as_slice-blocks.result.now in
    let all = inside bs c.args.f.now.blocks c.in_ok-edges.edges.items c.as_slice-blocks.ensures c.requires.ways c.in_ok-edges.ensures in
    let nodes : length c.deref-2.result.now ≡ length bs = ap (λ xs. length xs) c.deref-2.ensures.value ∙ c.in_ok-ends.ensures.least.solution.each_node in
    subst (λ (es : List (ℕ × ℕ)). All (λ (e : ℕ × ℕ). (e.0 < length c.deref-2.result.now) × (e.1 < length bs)) es) (sym c.deref.ensures.value)
    (subst (λ (n : ℕ). All (λ (e : ℕ × ℕ). (e.0 < n) × (e.1 < length bs)) c.in_ok-edges.edges.items) (sym nodes) all)

pub gather-requires-clause-ends : goal.gather-requires-clause-ends
gather-requires-clause-ends g c =
    let own = IsOwn c.args.places.now (g.R.Rewriting.may c.args.rewriting.now) in
    subst (λ rows. All own rows) (sym c.deref-2.ensures.value) (All-from_at own c.in_ok-ends.ends.items (λ n x is. c.in_ok-ends.ensures.least.solution.own n x is))

pub gather-requires-clause-derived : goal.gather-requires-clause-derived
gather-requires-clause-derived g c =
    let r = c.args.rewriting.now in
    let own = IsOwn c.args.places.now (g.R.Rewriting.may r) in
    let gives = IsOutflow (g.R.Rewriting.rewriting r).transfer c.args.places.now c.as_slice-blocks.result.now in
    subst (λ rows. AreDerived own IsBelowShared gives c.deref.result.now rows) (sym c.deref-2.ensures.value)
    (subst (λ es. AreDerived own IsBelowShared gives es c.in_ok-ends.ends.items) (sym c.deref.ensures.value) c.in_ok-ends.ensures.derived)

pub opened-requires : goal.opened-requires
opened-requires g c =
    let ok = c.in_ok-inflows.inflows.ok.0 in
    let count = c.in_ok-inflows.ensures.count in
    let same : length c.as_slice-blocks.result.now ≡ length c.args.f.now.blocks = ap (λ (bs : List Block). length bs) c.as_slice-blocks.ensures in
    let some = c.requires.ways.start in
    omega (arith, ok, count, same, some)

-- rows stay elements with the first at Many
opened_own : (ps : Places) (may : ℕ → ℕ → Bool) (rows : List (List Flat × List Flat)) (own : List Flat) → length own ≡ ps.own
    → ((n : ℕ) (row : List Flat × List Flat) → slice_get rows n ≡ Some row → IsOwn ps may row) → All (IsOwn ps may) (set rows 0 (replicate (length ps.names.items) Many, own))
opened_own ps may rows own long each =
    All-from_at (IsOwn ps may) (set rows 0 (replicate (length ps.names.items) Many, own)) (λ n row at. elim (set_cases rows 0 n (replicate (length ps.names.items) Many, own) row at) [
      | inl now ↦ subst (IsOwn ps may) (sym now.1) (many_own (may_at ps.names.items may) (length ps.names.items), long)
      | inr old ↦ each n row old.1
    ])

first_own : (ps : Places) (may : ℕ → ℕ → Bool) (rows : List (List Flat × List Flat)) → ((n : ℕ) (row : List Flat × List Flat) → slice_get rows n ≡ Some row → IsOwn ps may row) → 0 < length rows
    → IsOwn ps may (slice_index_or rows 0 ([], []))
first_own ps may rows each some = each 0 (slice_index_or rows 0 ([], [])) (slice_get-get_or rows 0 ([], []) some)

pub returns : goal.returns
returns g c =
    let r = c.args.rewriting.now in
    let ps = c.args.places.now in
    let may = g.R.Rewriting.may r in
    let w = g.R.Rewriting.rewriting r in
    let f = c.args.f.now in
    let own = IsOwn ps may in
    let bs = c.as_slice-blocks.result.now in
    let edges = c.in_ok-edges.edges.items in
    let ends = c.in_ok-ends.ends.items in
    let rows = c.in_ok-inflows.inflows.items in
    let facts = c.in_ok-inflows.ensures in
    let joined_in = λ (n : ℕ) (row : List Flat × List Flat) (is : slice_get rows n ≡ Some row).
    subst (λ es. IsInflow own IsBelowShared es ends n row) c.deref.ensures.value
    (subst (λ ends. IsInflow own IsBelowShared c.deref.result.now ends n row) c.deref-2.ensures.value (facts.inflows n row is)) in
    let derived = λ (n : ℕ) (row : List Flat × List Flat) (is : slice_get rows n ≡ Some row).
    subst (λ es. Derivable own IsBelowShared (IsOutflow w.transfer ps bs) es (into n) row) c.deref.ensures.value (facts.derived n row is) in
    let each = λ (n : ℕ) (row : List Flat × List Flat) (is : slice_get rows n ≡ Some row). (facts.inflows n row is).own in
    let long : length rows ≡ length bs = let ok = c.in_ok-inflows.inflows.ok.0 in let count = facts.count in omega (arith, ok, count) in
    let same : length bs ≡ length f.blocks = ap (λ (xs : List Block). length xs) c.as_slice-blocks.ensures in
    let some : 0 < length rows = let start = c.requires.ways.start in omega (arith, long, same, start) in
    let first = first_own ps may rows each some in
    let last : List Flat = (slice_index_or rows 0 ([], [])).1 in
    let is : c.opened.result.items ≡ set rows 0 (replicate (length ps.names.items) Many, last) = c.opened.ensures ∙ ap (λ (k : ℕ). set rows 0 (replicate k Many, last)) first.0.0 in
    record {
      known = subst (λ fronts. AreFronts w.transfer ps f fronts) (sym is)
          (solves w (g.met.R.Rewriting.rises r) (g.met.R.Rewriting.reads r) ps f c.requires.places may edges ends c.requires.ways.start last bs c.as_slice-blocks.ensures c.in_ok-edges.ensures c.in_ok-ends.ensures.least.solution
          rows long joined_in derived);
      own = subst (λ fronts. All own fronts) (sym is) (opened_own ps may rows last first.1 each);
    }
