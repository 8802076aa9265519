use Rattle.std.proofs.Common.{◌≡◌, ◌++◌, [], ◌∷◌, ℕ, List, replicate, ap, subst, sym, ◌∙◌, arith}
use Rattle.std.proofs.lemmas.List.{replicate-append-replicate}
use Rattle.pw_pages.proofs.Memory.{blank_is, blank_pages, ArePages}
use Rattle.pw_pages.proofs.pages.Pages.blank.Goals as goal

pub loop-preserved : goal.loop-preserved
loop-preserved c =
    c.in_ok-push.ensures.items
    ∙ ap (λ (pages : List (List ℕ)). pages ++ replicate {A = ℕ} 1024 0 ∷ []) c.loop.invariant
    ∙ replicate-append-replicate c.loop.counter 1 (replicate {A = ℕ} 1024 0)

pub invariant_of-result : goal.invariant_of-result
invariant_of-result c =
    let all : c.loop.counter ≡ c.args.pages = omega (arith, c.loop-test.false, c.loop.auto.counter-end) in
    let items : c.loop.blank.items ≡ replicate c.args.pages (replicate 1024 0) = c.loop.invariant ∙ ap (λ (n : ℕ). replicate n (replicate {A = ℕ} 1024 0)) all in
    subst ArePages (sym items) (blank_pages c.args.pages)

pub returns : goal.returns
returns c =
    let all : c.loop.counter ≡ c.args.pages = omega (arith, c.loop-test.false, c.loop.auto.counter-end) in
    blank_is c.loop.blank.items c.args.pages (c.loop.invariant ∙ ap (λ (n : ℕ). replicate n (replicate {A = ℕ} 1024 0)) all)
