use Rattle.std.proofs.Common.{◌≡◌, ◌≤◌, ◌+◌, ◌*◌, ◌/◌, ℕ, List, length, subst, sym, ap, arith, ◌∙◌}
use Rattle.pw_pages.specs.Bytes.{word_at}
use Rattle.pw_pages.proofs.Memory.{page_within, word_is_there}
use Rattle.pw_pages.proofs.pages.Pages.word_at.Goals as goal

pub index-requires : goal.index-requires
index-requires c = omega (arith, page_within c.self.inside.pages.items (c.args.a / 4) c.self.invariant (subst (λ (m : List ℕ). 4 * (c.args.a / 4) + 4 ≤ length m) (sym c.self.view_is) (omega (arith, c.requires.aligned, c.requires.within))), c.self.inside.pages.ok.0)

pub returns : goal.returns
returns c =
    let place : 4 * (c.args.a / 4) ≡ c.args.a = omega (arith, c.requires.aligned) in
    c.word_of.ensures
    ∙ word_is_there c.self.inside.pages.items c.index.result.now (c.args.a / 4) c.self.invariant (subst (λ (m : List ℕ). 4 * (c.args.a / 4) + 4 ≤ length m) (sym c.self.view_is) (omega (arith, c.requires.aligned, c.requires.within))) c.index.ensures (omega (arith, c.word_of.ensures, c.word_of.type_inv))
    ∙ ap (λ (m : List ℕ). word_at m (4 * (c.args.a / 4))) c.self.view_is
    ∙ ap (λ (n : ℕ). word_at c.args.self.now n) place
