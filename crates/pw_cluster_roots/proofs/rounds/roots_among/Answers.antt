use Rattle.std.proofs.Common.{◌∙◌, ◌≡◌, ℕ, subst, sym}
use Rattle.std.specs.List.{range_with_len}
use Rattle.pw_cluster_roots.specs.Rounds.{AreRootsAmong}
use Rattle.pw_cluster_roots.proofs.Lists.{written_back}
use Rattle.pw_cluster_roots.proofs.RoundLaws.{started, fewer, holds_everywhere, roots_found}
use Rattle.pw_cluster_roots.proofs.rounds.roots_among.Goals as goal

pub loop-roots-init : goal.loop-roots-init
loop-roots-init c =
    started c.args.graph.now c.args.inner.now c.in_ok-settled.settled c.in_ok-roots.roots.items (subst (λ (n : ℕ). c.in_ok-roots.roots.items ≡ range_with_len 0 n) c.len.ensures c.in_ok-roots.ensures) c.requires.inner.width c.in_ok-settled.ensures.width c.in_ok-settled.ensures.holds

pub returns-then-not-round : goal.returns-then-not-round
returns-then-not-round c =
    let g = c.args.graph.now in
    let inner = c.args.inner.now in
    let settled = c.round.new.settled in
    let news = c.round.new.roots in
    let same = c.loop-roots.roots.ok.0 ∙ c.loop-roots.invariant.each ∙ sym c.round.ensures.settled.each in
    subst (AreRootsAmong g inner) (sym (written_back c.loop-roots.roots.len news _ same))
    (roots_found g inner settled news (holds_everywhere g inner settled c.requires.graph.call_rows (c.what_callers_hand_on_holds.ensures g)) c.requires.inner c.round.ensures.settled c.if-not-round.ensures.none)

pub loop-roots-smaller : goal.loop-roots-smaller
loop-roots-smaller c =
    fewer c.loop-roots.settled c.round.new.settled (c.round.ensures.settled.width ∙ sym c.loop-roots.invariant.width) c.round.ensures.more c.if-not-round.ensures.added
