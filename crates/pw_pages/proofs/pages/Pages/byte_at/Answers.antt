use Rattle.std.proofs.Common.{◌<◌, ℕ, List, length, subst, sym, ap, ◌∙◌, arith}
use Rattle.pw_pages.specs.Bytes.{byte_at}
use Rattle.pw_pages.proofs.Memory.{page_of_byte, byte_is_there}
use Rattle.pw_pages.proofs.pages.Pages.byte_at.Goals as goal

pub index-requires : goal.index-requires
index-requires c = omega (arith, page_of_byte c.self.inside.pages.items c.args.a c.self.invariant (subst (λ (m : List ℕ). c.args.a < length m) (sym c.self.view_is) c.requires), c.self.inside.pages.ok.0)

pub returns-clause-value : goal.returns-clause-value
returns-clause-value c =
    byte_is_there c.self.inside.pages.items c.index.result.now c.args.a c.byte_in.result c.self.invariant (subst (λ (m : List ℕ). c.args.a < length m) (sym c.self.view_is) c.requires) c.index.ensures c.byte_in.ensures
    ∙ ap (λ (m : List ℕ). byte_at m c.args.a) c.self.view_is
