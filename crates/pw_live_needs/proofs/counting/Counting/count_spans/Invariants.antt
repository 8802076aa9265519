use Rattle.std.proofs.Common.{◌≡◌, ◌⊎◌, ℕ, take}
use Rattle.std.specs.Prelude.{◌↔◌, slice_index}
use Rattle.pw_live_spans.specs.Spans.{Covers}
use Rattle.pw_live_needs.specs.Counts.{full, AreCounts, IsReached}
use Rattle.pw_live_needs.proofs.counting.Counting.count_spans.Given as goal

abbrev pub invariant-loop-place : goal.invariant-loop-place
invariant-loop-place l = record {
  sized : AreCounts l.points l.self;
  same : (p : ℕ) → full l.self l.mark p ≡ full l.fn.self l.mark p;
  marked : (p : ℕ) → (slice_index l.self.marks.items p ≡ l.mark) ↔ ((slice_index l.fn.self.marks.items p ≡ l.mark) ⊎ Covers (take l.place l.spans) p);
  others : (p : ℕ) → (slice_index l.self.marks.items p ≡ l.mark) ⊎ (slice_index l.self.marks.items p ≡ slice_index l.fn.self.marks.items p);
  reached : IsReached l.most l.self;
}
