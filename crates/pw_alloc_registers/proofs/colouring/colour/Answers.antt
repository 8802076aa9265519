use Rattle.std.proofs.Common.{◌≡◌, ◌<◌, ◌∙◌, ℕ, not, Bool, sym, ap, subst}
use Rattle.std.specs.Prelude.{Option, None, Some, IfSome, filter}
use Rattle.std.specs.List.{find}
use Rattle.pw_live.specs.Liveness.{has}
use Rattle.pw_alloc_temps.specs.Registers.{of_temporaries, allowed, is_taken, with_register}
use Rattle.pw_alloc_taken.specs.Knowing.{AreGiven}
use Rattle.pw_alloc_masks.specs.Masks.{in_mask}
use Rattle.pw_alloc_registers.proofs.Choosing.{in_joined, find_left}
use Rattle.pw_alloc_registers.proofs.colouring.colour.Goals as goal

pub is_held-held-requires-clause-liveness : goal.is_held-held-requires-clause-liveness
is_held-held-requires-clause-liveness c = c.requires.facts.liveness

pub give-requires-clause-register : goal.give-requires-clause-register
give-requires-clause-register c = subst (λ (o : Option ℕ). IfSome o (λ r. r < 32)) c.in-Some.is c.first_free.ensures.low

pub returns-in-Some-clause-given : goal.returns-in-Some-clause-given
returns-in-Some-clause-given c = λ ws cs gs webs cluster known none.
    let f = c.args.f.now in
    let t = c.args.t in
    let all = λ (r : ℕ). in_joined c.args.masks.webs c.taken-taken.result c.both-away.result r (has r ws) (is_taken f gs t r) (webs r) (c.taken-taken.ensures gs known none r) (c.both-away.ensures r) in
    let which : find (λ r. not (is_taken f gs t r)) (allowed f ws cs t) ≡ Some c.in-Some.r =
    ap (λ (held : Bool). find (λ r. not (is_taken f gs t r)) (filter (λ r. not (has r ws)) (of_temporaries cs held))) (sym c.is_held-held.ensures)
    ∙ sym (find_left (in_mask c.both-away.result) (λ r. has r ws) (is_taken f gs t) (of_temporaries cs c.is_held-held.result) all) ∙ sym (c.first_free.ensures.first cs cluster) ∙ c.in-Some.is in
    subst (λ (o : Option ℕ). AreGiven f (with_register t o gs) c.give.new.given) (sym which) (c.give.ensures.given gs known none)

pub returns-in-None-clause-given : goal.returns-in-None-clause-given
returns-in-None-clause-given c = λ ws cs gs webs cluster known none.
    let f = c.args.f.now in
    let t = c.args.t in
    let all = λ (r : ℕ). in_joined c.args.masks.webs c.taken-taken.result c.both-away.result r (has r ws) (is_taken f gs t r) (webs r) (c.taken-taken.ensures gs known none r) (c.both-away.ensures r) in
    let which : find (λ r. not (is_taken f gs t r)) (allowed f ws cs t) ≡ None =
    ap (λ (held : Bool). find (λ r. not (is_taken f gs t r)) (filter (λ r. not (has r ws)) (of_temporaries cs held))) (sym c.is_held-held.ensures)
    ∙ sym (find_left (in_mask c.both-away.result) (λ r. has r ws) (is_taken f gs t) (of_temporaries cs c.is_held-held.result) all) ∙ sym (c.first_free.ensures.first cs cluster) ∙ c.in-None.is in
    subst (λ (o : Option ℕ). AreGiven f (with_register t o gs) c.args.given.now) (sym which) known
