use Rattle.std.proofs.Common.{◌≡◌, ◌⊎◌, ◌∙◌, ℕ, List, get_or, sym, subst}
use Rattle.std.specs.Prelude.{slice_index, ◌↔◌}
use Rattle.std.proofs.lemmas.List.{take_all}
use Rattle.std.proofs.lemmas.List.Elements.{Contains-get_or}
use Rattle.pw_live_spans.specs.Spans.{IsIn, Covers}
use Rattle.pw_live_needs.specs.Counts.{IsReached}
use Rattle.pw_live_needs.proofs.Counted.{counts_grow, here, reached_more, spans_more, then_others}
use Rattle.pw_live_needs.proofs.counting.Counting.count_spans.Goals as goal

pub count_span-reached-requires-clause-span : goal.count_span-reached-requires-clause-span
count_span-reached-requires-clause-span c = λ p k.
    let spans = c.args.spans.now in
    let i = c.loop-place.place in
    c.requires.spans p (get_or spans i (0, 0), Contains-get_or spans i (0, 0) c.loop-place-test.true, k)

pub loop-place-preserved : goal.loop-place-preserved
loop-place-preserved c =
    let mark : ℕ = c.args.mark in
    let spans = c.args.spans.now in
    let i = c.loop-place.place in
    let lt = c.loop-place-test.true in
    record {
      sized = c.count_span-reached.ensures.sized;
      same = λ p. c.count_span-reached.ensures.same p ∙ c.loop-place.invariant.same p;
      marked = spans_more (λ p. slice_index c.args.self.now.marks.items p ≡ mark) (λ p. slice_index c.loop-place.self.marks.items p ≡ mark) (λ p. slice_index c.count_span-reached.new.self.marks.items p ≡ mark) spans i (get_or spans i (0, 0)) lt
          (sym (here spans i (0, 0) lt)) c.count_span-reached.ensures.marked c.loop-place.invariant.marked;
      others = λ p. then_others mark (slice_index c.args.self.now.marks.items p) (slice_index c.loop-place.self.marks.items p) (slice_index c.count_span-reached.new.self.marks.items p) (c.count_span-reached.ensures.others p) (c.loop-place.invariant.others p);
      reached =
          let grows = λ (p : ℕ). counts_grow c.loop-place.self c.count_span-reached.new.self mark p (IsIn (get_or spans i (0, 0)) p) (c.count_span-reached.ensures.same p) (c.count_span-reached.ensures.marked p) in
          subst (λ (n : ℕ). IsReached n c.count_span-reached.new.self) (sym c.max-most.ensures)
          (reached_more c.loop-place.self c.count_span-reached.new.self c.loop-place.most c.count_span-reached.result grows c.loop-place.invariant.reached c.count_span-reached.ensures.reached);
    }

pub returns-clause-marked : goal.returns-clause-marked
returns-clause-marked c =
    let mark : ℕ = c.args.mark in
    subst (λ (spans : List (ℕ × ℕ)). (p : ℕ) → (slice_index c.loop-place.self.marks.items p ≡ mark) ↔ ((slice_index c.args.self.now.marks.items p ≡ mark) ⊎ Covers spans p)) (take_all c.loop-place.place c.args.spans.now c.loop-place-test.false) c.loop-place.invariant.marked
