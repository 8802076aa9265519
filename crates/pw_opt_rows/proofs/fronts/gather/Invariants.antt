use Rattle.std.proofs.Common.{◌≡◌, ℕ, length, vec_len, take}
use Rattle.std.specs.Prelude.{Contains}
use Rattle.pw_opt_rows.specs.Seeing.{IsOwn, IsBelowShared}
use Rattle.pw_opt_rows.specs.Outflows.{IsOutflow}
use Rattle.pw_opt_rows.specs.RowLaws.{rows_order}
use Rattle.pw_opt_rows.proofs.Gathering.{IsGathered}
use Rattle.pw_opt_rows.proofs.fronts.gather.Given as goal

abbrev pub invariant-loop-from : goal.invariant-loop-from
invariant-loop-from g l =
    let p = l.problem in
    let may = g.R.Rewriting.may p.rows.rewriting.now in
    record {
      count : vec_len l.fronts ≡ length p.blocks.now;
      gathered : IsGathered (IsOwn p.rows.places.now may) IsBelowShared (rows_order p.rows.places.now may)
          (IsOutflow (g.R.Rewriting.rewriting p.rows.rewriting.now).transfer p.rows.places.now p.blocks.now) l.edges l.ends
          (λ (e : ℕ × ℕ). Contains (take l.from-index l.edges) e) l.fronts.items;
    }
