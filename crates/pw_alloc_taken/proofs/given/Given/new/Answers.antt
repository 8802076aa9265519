use Rattle.std.proofs.Common.{◌≡◌, ◌∙◌, ℕ, List, length, replicate, rules, refl, ap, arith}
use Rattle.std.specs.Prelude.{Option}
use Rattle.std.proofs.lemmas.List.{length-replicate}
use Rattle.pw_alloc_taken.proofs.Giving.{nothing, given_none}
use Rattle.pw_alloc_taken.proofs.given.Given.new.Goals as goal

pub returns-clause-sized : goal.returns-clause-sized
returns-clause-sized c =
    let regs = c.in_ok-registers.registers in
    let occupied = c.in_ok-occupied.occupied in
    let none : regs.items ≡ replicate c.args.f.now.temps nothing = (let e : regs.items ≡ replicate c.temps.result nothing = search rules in e ∙ ap (λ (n : ℕ). replicate n nothing) c.temps.ensures) in
    let zeros : occupied.items ≡ replicate c.args.count 0 = search rules in
    record {
      temps = regs.ok.0 ∙ ap (λ (rs : List (Option ℕ)). length rs) none ∙ length-replicate c.args.f.now.temps nothing;
      points = occupied.ok.0 ∙ ap (λ (ms : List ℕ). length ms) zeros ∙ length-replicate c.args.count 0 ∙ c.requires;
      sets = c.in_ok-made.ensures.sets;
      made = c.in_ok-made.ensures.points ∙ c.requires;
    }

pub returns-clause-given : goal.returns-clause-given
returns-clause-given c =
    let regs : c.in_ok-registers.registers.items ≡ replicate c.temps.result nothing = search rules in
    let zeros : c.in_ok-occupied.occupied.items ≡ replicate c.args.count 0 = search rules in
    given_none c.args.f.now _ c.args.count (regs ∙ ap (λ (n : ℕ). replicate n nothing) c.temps.ensures) zeros refl c.in_ok-made.ensures.none

-- so many words were held before
pub new-requires : goal.new-requires
new-requires c =
    let occupied = c.in_ok-occupied.occupied in
    let zeros : occupied.items ≡ replicate c.args.count 0 = search rules in
    omega (arith, occupied.small, occupied.ok.0, occupied.ok.1, ap (λ (ms : List ℕ). length ms) zeros, length-replicate {A = ℕ} c.args.count 0)
