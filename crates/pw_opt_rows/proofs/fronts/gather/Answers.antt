use Rattle.std.proofs.Common.{◌≡◌, ℕ, ◌+◌, List, length, replicate, get_or, take, refl, sym, subst, arith, inl, inr}
use Rattle.std.specs.Prelude.{Contains}
use Rattle.std.proofs.lemmas.List.{take_all}
use Rattle.std.proofs.lemmas.List.Elements.{Contains-get_or}
use Rattle.std.proofs.lemmas.Option.{slice_get_read}
use Rattle.pw_fix.proofs.Adjacency.{front_cases}
use Rattle.pw_fix.proofs.Places.{All-at}
use Rattle.pw_opt_rules.specs.declared.flat.Flat.{Flat}
use Rattle.pw_opt_rules.specs.declared.flat.Flat.TheVariants.{Bottom}
use Rattle.pw_opt_rows.specs.Seeing.{IsOwn, IsBelowShared}
use Rattle.pw_opt_rows.specs.Outflows.{IsOutflow}
use Rattle.pw_opt_rows.specs.RowLaws.{rows_order}
use Rattle.pw_opt_rows.proofs.Elements.{element_least, elements_join}
use Rattle.pw_opt_rows.proofs.Gathering.{gathered_none, gathered_more, gathered_all}
use Rattle.pw_opt_rows.proofs.fronts.gather.Goals as goal

pub loop-from-init : goal.loop-from-init
loop-from-init g c =
    let p = c.args.problem.now in
    let may = g.R.Rewriting.may p.rows.rewriting.now in
    let rows = c.in_ok-fronts.fronts.items in
    record {
      count = c.in_ok-fronts.ensures.count;
      gathered = gathered_none (IsOwn p.rows.places.now may) IsBelowShared (rows_order p.rows.places.now may)
          (IsOutflow (g.R.Rewriting.rewriting p.rows.rewriting.now).transfer p.rows.places.now p.blocks.now) c.args.edges.now c.args.ends.now
          (λ (e : ℕ × ℕ). Contains (take 0 c.args.edges.now) e) rows
          (λ e h. let lt = h.1 in omega (arith, lt))
          (λ n y is.
          let bottom = All-at (λ (row : List Flat × List Flat). (row.0 ≡ replicate (length p.rows.places.now.names.items) Bottom) × (length row.1 ≡ p.rows.places.now.own)) rows n y c.in_ok-fronts.ensures.each is in
          element_least p.rows.places.now may y bottom.0 bottom.1);
    }

pub loop-from-preserved : goal.loop-from-preserved
loop-from-preserved g c =
    let p = c.args.problem.now in
    let may = g.R.Rewriting.may p.rows.rewriting.now in
    let edges = c.args.edges.now in
    let ends = c.args.ends.now in
    let i = c.loop-from.from-index in
    let e = get_or edges i (0, 0) in
    let fronts = c.loop-from.fronts.items in
    let inv = c.loop-from.invariant in
    let x = c.index-ends-from.result in
    let y = c.index_mut.result.now in
    let lt = c.loop-from-test.true in
    let nodes = c.requires.edges i (0, 0) lt in
    let at = slice_get_read ends (length ends) e.0 x refl nodes.0 c.index-ends-from.is in
    let is = slice_get_read fronts (length fronts) e.1 y refl (let size = inv.count in let ok = c.loop-from.fronts.ok.0 in let low = nodes.1 in omega (arith, size, ok, low)) c.index_mut.ensures.value in
    let own_x = All-at (IsOwn p.rows.places.now may) ends e.0 x c.requires.ends at in
    let own_y = inv.gathered.own e.1 y is in
    record {
      count = inv.count;
      gathered = gathered_more (IsOwn p.rows.places.now may) IsBelowShared (rows_order p.rows.places.now may)
          (IsOutflow (g.R.Rewriting.rewriting p.rows.rewriting.now).transfer p.rows.places.now p.blocks.now) edges ends
          (λ (e : ℕ × ℕ). Contains (take i edges) e) (λ (e : ℕ × ℕ). Contains (take (i + 1) edges) e) fronts e.0 e.1 x y c.join.new.self inv.gathered c.requires.derived
          (Contains-get_or edges i (0, 0) lt)
          (λ k h. elim (front_cases edges i (0, 0) k lt h) [ inl w ↦ inl w | inr w ↦ inr (sym w) ])
          own_x at is
          (elements_join p.rows.places.now may y x c.join.new.self own_y own_x c.join.ensures.length c.join.ensures.own c.join.ensures.joins);
    }

pub returns : goal.returns
returns g c =
    let p = c.args.problem.now in
    let may = g.R.Rewriting.may p.rows.rewriting.now in
    let inv = c.loop-from.invariant in
    record {
      count = inv.count;
      inflows = gathered_all (IsOwn p.rows.places.now may) IsBelowShared (rows_order p.rows.places.now may)
          (IsOutflow (g.R.Rewriting.rewriting p.rows.rewriting.now).transfer p.rows.places.now p.blocks.now) c.args.edges.now c.args.ends.now
          (λ (e : ℕ × ℕ). Contains (take c.loop-from.from-index c.args.edges.now) e) c.loop-from.fronts.items inv.gathered
          (λ e h. subst (λ (es : List (ℕ × ℕ)). Contains es e) (sym (take_all c.loop-from.from-index c.args.edges.now c.loop-from-test.false)) h);
      derived = inv.gathered.derived;
    }
