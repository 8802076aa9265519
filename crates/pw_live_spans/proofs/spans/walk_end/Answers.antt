use Rattle.std.proofs.Common.{◌≡◌, ◌⊎◌, ◌<◌, ◌∙◌, ℕ, true, [], List, All, arith, length, subst, sym, vec_len}
use Rattle.std.specs.Prelude.{Contains, ◌↔◌}
use Rattle.std.proofs.lemmas.List.Elements.{All-from_recursion}
use Rattle.pw_live.specs.Liveness.{is_live}
use Rattle.pw_live_spans.specs.LivePoints.{IsLiveAtOne}
use Rattle.pw_live_spans.specs.Walking.{IsOpen, Marked}
use Rattle.pw_live_spans.proofs.Steps.{end_marks, end_opens}
use Rattle.pw_live_spans.proofs.spans.walk_end.Goals as goal

pub open_all-requires-clause-room : goal.open_all-requires-clause-room
open_all-requires-clause-room c = c.back.ensures.room

pub open_fronts-requires-clause-room : goal.open_fronts-requires-clause-room
open_fronts-requires-clause-room c = omega (arith, c.back.ensures.room, c.open_all.ensures.place)

pub open_all-requires-clause-temps : goal.open_all-requires-clause-temps
open_all-requires-clause-temps c =
    let count = c.back.ensures.count ∙ c.requires.count in
    let all = All-from_recursion (λ t. t < c.args.f.now.temps) c.args.block.now.uses c.requires.block.uses in
    subst (λ (ts : List ℕ). All (λ t. t < vec_len c.back.new.self.ends) ts) (sym c.uses.ensures) (subst (λ (n : ℕ). All (λ t. t < n) c.args.block.now.uses) (sym count) all)

pub open_fronts-requires-clause-next : goal.open_fronts-requires-clause-next
open_fronts-requires-clause-next c =
    let all = All-from_recursion (λ b. b < length c.args.f.now.blocks) c.args.block.now.next c.requires.block.next in
    subst (λ (bs : List ℕ). All (λ b. b < length c.args.f.now.blocks) bs) (sym c.next.ensures) all

pub returns-clause-marked : goal.returns-clause-marked
returns-clause-marked c =
    let f = c.args.f.now in
    let uses = c.args.block.now.uses in
    let next = c.args.block.now.next in
    let old = c.args.walk.now in
    let back = c.back.new.self in
    let used = c.open_all.new.walk in
    let last = c.open_fronts.new.walk in
    let here = back.place in
    let marked = subst (λ (ts : List ℕ). (u q : ℕ) → Marked used u q ↔ (Marked back u q ⊎ (Contains ts u × (q ≡ here)))) c.uses.ensures c.open_all.ensures.marked in
    let fronts = subst (λ (bs : List ℕ). (u q : ℕ) → Marked last u q ↔ (Marked used u q ⊎ (IsLiveAtOne f u bs × (q ≡ used.place)))) c.next.ensures c.in_ok-open_fronts.ensures.marked in
    let there = subst (λ (p : ℕ). (u q : ℕ) → Marked last u q ↔ (Marked used u q ⊎ (IsLiveAtOne f u next × (q ≡ p)))) c.open_all.ensures.place fronts in
    let all = end_marks f uses next (Marked last) (Marked used) (Marked back) (Marked old) (IsOpen old) here c.requires.shut c.back.ensures.marked marked there in
    subst (λ (p : ℕ). (u q : ℕ) → Marked last u q ↔ (Marked old u q ⊎ ((is_live f u [] uses next ≡ true) × (q ≡ p)))) (sym (c.open_fronts.ensures.place ∙ c.open_all.ensures.place)) all

pub returns-clause-opens : goal.returns-clause-opens
returns-clause-opens c =
    let f = c.args.f.now in
    let uses = c.args.block.now.uses in
    let next = c.args.block.now.next in
    let back = c.back.new.self in
    let used = c.open_all.new.walk in
    let last = c.open_fronts.new.walk in
    let opens = subst (λ (ts : List ℕ). (u : ℕ) → IsOpen used u ↔ (IsOpen back u ⊎ Contains ts u)) c.uses.ensures c.open_all.ensures.opens in
    let fronts = subst (λ (bs : List ℕ). (u : ℕ) → IsOpen last u ↔ (IsOpen used u ⊎ IsLiveAtOne f u bs)) c.next.ensures c.in_ok-open_fronts.ensures.opens in
    end_opens f uses next (IsOpen last) (IsOpen used) (IsOpen back) (IsOpen c.args.walk.now) c.requires.shut c.back.ensures.opens opens fronts
