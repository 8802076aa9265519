use Rattle.std.proofs.Common.{◌≡◌, ◌<◌, ◌≤◌, ◌+◌, ◌∙◌, ℕ, [], List, get_or, length, take, arith, sym, ap, subst}
use Rattle.std.specs.Prelude.{Option}
use Rattle.std.proofs.lemmas.List.{take_all, length-map}
use Rattle.pw_live.specs.Points.{points}
use Rattle.pw_alloc_temps.specs.Weights.{by_weight}
use Rattle.pw_alloc_temps.specs.Registers.{given_to}
use Rattle.pw_live_held.specs.Makers.{maker}
use Rattle.pw_alloc_taken.specs.Knowing.{AreGiven}
use Rattle.pw_alloc_registers.proofs.Turns.{next_turn, none_yet, all_registers, ordered_below}
use Rattle.pw_alloc_registers.proofs.colouring.registers.Goals as goal

pub new-requires : goal.new-requires
new-requires c =
    let v = c.in_ok-facts.facts in
    c.len-points.ensures ∙ v.liveness.makers.ok.0 ∙ ap (λ (ms : List (Option ℕ)). length ms) c.in_ok-facts.ensures.liveness.makers ∙ length-map (points c.args.f.now) maker

pub colour-requires : goal.colour-requires
colour-requires c =
    let f = c.args.f.now in
    let order = c.in_ok-order.order in
    record {
      facts = c.in_ok-facts.ensures;
      sized = c.loop-place.invariant.sized;
      temp = ordered_below f order.items c.loop-place.place c.index.result.now c.in_ok-order.ensures (let low = c.loop-place-test.true in let size = order.ok.0 in let many = c.len-count.ensures in omega (arith, low, size, many)) c.index.ensures;
    }

pub loop-place-init : goal.loop-place-init
loop-place-init c = record { sized = c.in_ok-given.ensures.sized; given = λ ws cs webs cluster. c.in_ok-given.ensures.given }

pub loop-place-preserved : goal.loop-place-preserved
loop-place-preserved c =
    let f = c.args.f.now in
    let order = c.in_ok-order.order in
    let k = c.loop-place.place in
    let t = c.index.result.now in
    let xs = by_weight f 0 f.temps in
    record {
      sized = c.colour.ensures.sized;
      given = λ ws cs webs cluster.
          let lt : k < length xs = subst (λ (ys : List ℕ). k < length ys) c.in_ok-order.ensures (let low = c.loop-place-test.true in let size = order.ok.0 in let many = c.len-count.ensures in omega (arith, low, size, many)) in
          let is : get_or xs k t ≡ t = sym (subst (λ (ys : List ℕ). t ≡ get_or ys k t) c.in_ok-order.ensures c.index.ensures) in
          let known = subst (λ (ys : List ℕ). AreGiven f (given_to f ws cs (take k ys) []) c.loop-place.given) c.in_ok-order.ensures (c.loop-place.invariant.given ws cs webs cluster) in
          let none = none_yet f ws cs k t lt is in
          subst (λ (ys : List ℕ). AreGiven f (given_to f ws cs (take (k + 1) ys) []) c.colour.new.given) (sym c.in_ok-order.ensures)
          (subst (λ (gs : List (ℕ × ℕ)). AreGiven f gs c.colour.new.given) (sym (next_turn f ws cs xs k t lt is)) (c.colour.ensures.given ws cs (given_to f ws cs (take k xs) []) webs cluster known none));
    }

pub returns : goal.returns
returns c = λ ws cs webs cluster.
    let f = c.args.f.now in
    let order = c.in_ok-order.order in
    let v = c.loop-place.given in
    let xs = by_weight f 0 f.temps in
    let le : length order.items ≤ c.loop-place.place = let past = c.loop-place-test.false in let size = order.ok.0 in let many = c.len-count.ensures in omega (arith, past, size, many) in
    let known = subst (λ (ys : List ℕ). AreGiven f (given_to f ws cs ys []) v) (take_all c.loop-place.place order.items le ∙ c.in_ok-order.ensures) (c.loop-place.invariant.given ws cs webs cluster) in
    all_registers f ws cs v.registers.items (sym v.registers.ok.0 ∙ c.loop-place.invariant.sized.temps) known.registers
