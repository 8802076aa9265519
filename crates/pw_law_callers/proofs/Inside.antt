-- The frames of active functions, from the beginning of the stack on.
use Rattle.std.specs.Prelude.{ℕ, ◌≡◌, ◌+◌, ◌%◌, ◌≤◌, List, [], ◌∷◌, map, Contains}
use Rattle.std.specs.List.{AllByRecursion, flat_map, sum_by}
use Rattle.std.proofs.Common.{arith, subst, sym, ap, ◌∙◌}
use Rattle.std.proofs.lemmas.List.Sums.{sum_by-cons}
use Rattle.pw_value.specs.Limits.{memory_size, text_start}
use Rattle.pw_run_languages.specs.LineRun.{LineFn, Frame, active}
use Rattle.pw_run_languages.specs.MachineRun.{active_as}
use Rattle.pw_run_languages.specs.Standing.{Active}
use Rattle.pw_law_walk.specs.Chains.{StandsInMemory}
use Rattle.pw_law_link_run.specs.Steps.{Setting, map_in}
use Rattle.pw_law_link_run.specs.Simulating.{IsCaller, IsLinked, calls_behind}
use Rattle.pw_law_link_run.specs.Leveled.{ChainFrom}
use Rattle.pw_law_entered.specs.Entered.{first_call}
use Rattle.pw_law_callers.proofs.Standing.{active_behind}

-- the stack pointer is as far above the first one as the frames come to
climbs : (x : Setting) (f : LineFn) (stack : ℕ) (gs : List Frame) → ChainFrom x stack gs → (first_call f stack gs).1 + sum_by (λ (g : Frame). g.function.located.frame) gs ≡ stack
climbs x f stack [] chain = omega arith
climbs x f stack (g ∷ gs) chain =
    let rest = climbs x g.function g.stack gs chain.2 in
    let end = chain.1 in
    let all = sum_by-cons (λ (h : Frame). h.function.located.frame) g gs in
    let same : (first_call g.function g.stack gs).1 + sum_by (λ (h : Frame). h.function.located.frame) (g ∷ gs) ≡ stack = omega (arith, rest, end, all) in
    same

module _ (x : Setting) (above : text_start ≤ x.addresses.data_start) (base : ℕ) (whole : base % 8 ≡ 0) (even : (g : LineFn) → Contains x.program.functions g → g.located.frame % 8 ≡ 0) where
  aligned : (f : LineFn) (stack : ℕ) (gs : List Frame) → ChainFrom x stack gs → (first_call f stack gs).1 ≡ base → stack % 8 ≡ 0
  aligned f stack [] chain first = ap (λ (n : ℕ). n % 8) first ∙ whole
  aligned f stack (g ∷ gs) chain first =
      let below = aligned g.function g.stack gs chain.2 first in
      let own = even g.function chain.0.caller.there in
      let end = chain.1 in
      omega (arith, below, own, end)

  inside : (f : LineFn) (stack : ℕ) (gs : List Frame) → ChainFrom x stack gs → (first_call f stack gs).1 ≡ base → stack ≤ memory_size → AllByRecursion StandsInMemory (map active gs)
  inside f stack [] chain first high = tt
  inside f stack (g ∷ gs) chain first high =
      let low = chain.0.stack.low in
      let end = chain.1 in (
        record { low = omega (arith, low, above); aligned = aligned g.function g.stack gs chain.2 first; high = omega (arith, end, high) },
        inside g.function g.stack gs chain.2 first (omega (arith, end, high)),
      )

pub frames_stand : (x : Setting) (f first : LineFn) (stack : ℕ) (callers : List Frame) → IsLinked x → text_start ≤ x.addresses.data_start → x.addresses.base % 8 ≡ 0
    → ((g : LineFn) → Contains x.program.functions g → g.located.frame % 8 ≡ 0) → AllByRecursion (IsCaller x) callers → ChainFrom x stack callers
    → first_call f stack callers ≡ (first, x.addresses.base) → x.addresses.base + sum_by (λ (g : Frame). g.function.located.frame) callers ≤ memory_size
    → AllByRecursion StandsInMemory (flat_map (active_as (map_in x)) (calls_behind x callers))
frames_stand x f first stack callers linked above whole even are chain is fits =
    let bottom : (first_call f stack callers).1 ≡ x.addresses.base = ap (λ (c : LineFn × ℕ). c.1) is in
    let top = climbs x f stack callers chain in
    let high : stack ≤ memory_size = omega (arith, top, bottom, fits) in
    subst (λ (actives : List Active). AllByRecursion StandsInMemory actives) (sym (active_behind x linked callers are))
    (inside x above x.addresses.base whole even f stack callers chain bottom high)
