use Rattle.std.proofs.Common.{◌≡◌, ◌⊎◌, ◌<◌, ◌∙◌, ℕ, List, All, subst, sym, vec_len}
use Rattle.std.specs.Prelude.{Contains, ◌↔◌}
use Rattle.std.proofs.lemmas.List.Elements.{All-from_recursion}
use Rattle.pw_live_spans.specs.LivePoints.{IsLiveBefore}
use Rattle.pw_live_spans.specs.Walking.{IsOpen, Marked}
use Rattle.pw_live_spans.proofs.Steps.{act_marks, act_opens}
use Rattle.pw_live_spans.proofs.spans.walk_act.Goals as goal

pub open_all-requires-clause-room : goal.open_all-requires-clause-room
open_all-requires-clause-room c = c.back.ensures.room

pub open_all-requires-clause-temps : goal.open_all-requires-clause-temps
open_all-requires-clause-temps c =
    let count = c.back.ensures.count ∙ c.close_defined.ensures.count in
    let all = All-from_recursion (λ t. t < vec_len c.args.walk.now.ends) c.args.act.now.uses c.requires.act.uses in
    subst (λ (ts : List ℕ). All (λ t. t < vec_len c.back.new.self.ends) ts) (sym c.uses.ensures) (subst (λ (n : ℕ). All (λ t. t < n) c.args.act.now.uses) (sym count) all)

pub returns-clause-marked : goal.returns-clause-marked
returns-clause-marked c =
    let last = c.open_all.new.walk in
    let back = c.back.new.self in
    let here = back.place in
    let marked = subst (λ (ts : List ℕ). (u q : ℕ) → Marked last u q ↔ (Marked back u q ⊎ (Contains ts u × (q ≡ here)))) c.uses.ensures c.open_all.ensures.marked in
    let all = act_marks c.args.act.now (Marked last) (Marked back) (Marked c.close_defined.new.walk) (Marked c.args.walk.now) (IsOpen c.close_defined.new.walk) (IsOpen c.args.walk.now) here
    c.in_ok-close_defined.ensures.opens c.in_ok-close_defined.ensures.marked c.back.ensures.marked marked in
    subst (λ (p : ℕ). (u q : ℕ) → Marked last u q ↔ (Marked c.args.walk.now u q ⊎ (IsLiveBefore c.args.act.now (IsOpen c.args.walk.now) u × (q ≡ p)))) (sym c.open_all.ensures.place) all

pub returns-clause-opens : goal.returns-clause-opens
returns-clause-opens c =
    let last = c.open_all.new.walk in
    let back = c.back.new.self in
    let opens = subst (λ (ts : List ℕ). (u : ℕ) → IsOpen last u ↔ (IsOpen back u ⊎ Contains ts u)) c.uses.ensures c.open_all.ensures.opens in
    act_opens c.args.act.now (IsOpen last) (IsOpen back) (IsOpen c.close_defined.new.walk) (IsOpen c.args.walk.now) c.in_ok-close_defined.ensures.opens c.back.ensures.opens opens
