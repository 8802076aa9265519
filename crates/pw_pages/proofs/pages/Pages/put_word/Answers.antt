use Rattle.std.proofs.Common.{◌≡◌, ◌≤◌, ◌+◌, ◌*◌, ◌/◌, ℕ, List, length, subst, sym, ap, arith, ◌∙◌}
use Rattle.pw_pages.specs.Bytes.{with_word}
use Rattle.pw_pages.proofs.Memory.{page_within, word_is_put}
use Rattle.pw_pages.proofs.pages.Pages.put_word.Goals as goal

pub index_mut-requires : goal.index_mut-requires
index_mut-requires c = omega (arith, page_within c.self.inside.pages.items (c.args.a / 4) c.self.invariant (subst (λ (m : List ℕ). 4 * (c.args.a / 4) + 4 ≤ length m) (sym c.self.view_is) (omega (arith, c.requires.aligned, c.requires.within))), c.self.inside.pages.ok.0)

pub returns : goal.returns
returns c =
    let place : 4 * (c.args.a / 4) ≡ c.args.a = omega (arith, c.requires.aligned) in
    word_is_put c.self.inside.pages.items c.index_mut.result.now (c.args.a / 4) c.args.value c.self.invariant (subst (λ (m : List ℕ). 4 * (c.args.a / 4) + 4 ≤ length m) (sym c.self.view_is) (omega (arith, c.requires.aligned, c.requires.within))) c.index_mut.ensures.value
    ∙ ap (λ (m : List ℕ). with_word m (4 * (c.args.a / 4)) c.args.value) c.self.view_is
    ∙ ap (λ (n : ℕ). with_word c.args.self.now n c.args.value) place
