use Rattle.std.proofs.Common.{◌≡◌, ◌∙◌, ℕ, arith, inl, sym, subst, vec_len}
use Rattle.std.proofs.lemmas.List.{get_or_read_under}
use Rattle.std.specs.Prelude.{slice_index}
use Rattle.pw_live_needs.specs.Counts.{IsReached}
use Rattle.pw_live_needs.proofs.Counted.{counts_grow, reached_more, span_more, span_end, then_others}
use Rattle.pw_live_needs.proofs.counting.Counting.count_span.Goals as goal

pub index-requires : goal.index-requires
index-requires c =
    let there = c.requires.span c.loop-q.q (c.loop-q.invariant.low, c.loop-q-test.true) in
    let sized = c.count_at.ensures.sized.counts in
    let size = c.count_at.new.self.counts.ok.0 in
    omega (arith, there, sized, size)

pub loop-q-preserved : goal.loop-q-preserved
loop-q-preserved c =
    let mark : ℕ = c.args.mark in
    let low = c.loop-q.invariant.low in
    let lt = c.loop-q-test.true in
    let there = c.requires.span c.loop-q.q (low, lt) in
    let sized = c.count_at.ensures.sized.counts in
    let ns = c.count_at.new.self.counts in
    let size = ns.ok.0 in
    let here : c.index.result.now ≡ slice_index ns.items c.loop-q.q = get_or_read_under ns.items c.loop-q.q (vec_len ns) c.index.result.now 0 c.index.ensures (omega (arith, there, sized, size)) ns.ok.0 in
    record {
      low = omega (arith, low);
      high = inl (omega (arith, lt));
      sized = c.count_at.ensures.sized;
      same = λ p. c.count_at.ensures.same p ∙ c.loop-q.invariant.same p;
      marked = span_more (λ p. slice_index c.args.self.now.marks.items p ≡ mark) (λ p. slice_index c.loop-q.self.marks.items p ≡ mark) (λ p. slice_index c.count_at.new.self.marks.items p ≡ mark) c.args.span.0 c.loop-q.q low c.count_at.ensures.marked c.loop-q.invariant.marked;
      others = λ p. then_others mark (slice_index c.args.self.now.marks.items p) (slice_index c.loop-q.self.marks.items p) (slice_index c.count_at.new.self.marks.items p) (c.count_at.ensures.others p) (c.loop-q.invariant.others p);
      reached =
          let grows = λ (p : ℕ). counts_grow c.loop-q.self c.count_at.new.self mark p (p ≡ c.loop-q.q) (c.count_at.ensures.same p) (c.count_at.ensures.marked p) in
          subst (λ (n : ℕ). IsReached n c.count_at.new.self) (sym c.max-most.ensures)
          (reached_more c.loop-q.self c.count_at.new.self c.loop-q.most c.index.result.now grows c.loop-q.invariant.reached (c.loop-q.q, omega (arith, here)));
    }

pub returns-clause-marked : goal.returns-clause-marked
returns-clause-marked c =
    span_end (λ p. slice_index c.args.self.now.marks.items p ≡ c.args.mark) (λ p. slice_index c.loop-q.self.marks.items p ≡ c.args.mark) c.args.span.0 c.args.span.1 c.loop-q.q c.loop-q-test.false c.loop-q.invariant.high c.loop-q.invariant.marked
