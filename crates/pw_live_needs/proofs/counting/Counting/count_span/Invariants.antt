use Rattle.std.proofs.Common.{◌≡◌, ◌⊎◌, ◌<◌, ◌≤◌, ℕ}
use Rattle.std.specs.Prelude.{◌↔◌, slice_index}
use Rattle.pw_live_needs.specs.Counts.{full, AreCounts, IsReached}
use Rattle.pw_live_needs.proofs.counting.Counting.count_span.Given as goal

abbrev pub invariant-loop-q : goal.invariant-loop-q
invariant-loop-q l = record {
  low : l.fn.span.0 ≤ l.q;
  high : (l.q ≤ l.fn.span.1) ⊎ (l.q ≡ l.fn.span.0);
  sized : AreCounts l.points l.self;
  same : (p : ℕ) → full l.self l.mark p ≡ full l.fn.self l.mark p;
  marked : (p : ℕ) → (slice_index l.self.marks.items p ≡ l.mark) ↔ ((slice_index l.fn.self.marks.items p ≡ l.mark) ⊎ ((l.fn.span.0 ≤ p) × (p < l.q)));
  others : (p : ℕ) → (slice_index l.self.marks.items p ≡ l.mark) ⊎ (slice_index l.self.marks.items p ≡ slice_index l.fn.self.marks.items p);
  reached : IsReached l.most l.self;
}
