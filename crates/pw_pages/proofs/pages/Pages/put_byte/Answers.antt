use Rattle.std.proofs.Common.{◌<◌, ◌%◌, ◌^◌, ◌/◌, ℕ, List, length, get_or, subst, sym, ap, ◌∙◌, arith, slice_set}
use Rattle.std.specs.Int.{to_be_bytes, w32}
use Rattle.pw_pages.specs.Bytes.{with_byte}
use Rattle.pw_pages.proofs.Memory.{one_page, page_of_byte, byte_is_put}
use Rattle.pw_pages.proofs.pages.Pages.put_byte.Goals as goal

pub index-requires : goal.index-requires
index-requires c = omega (arith, page_of_byte c.self.inside.pages.items c.args.a c.self.invariant (subst (λ (m : List ℕ). c.args.a < length m) (sym c.self.view_is) c.requires), c.self.inside.pages.ok.0)

pub index_mut-requires : goal.index_mut-requires
index_mut-requires c = omega (arith, page_of_byte c.self.inside.pages.items c.args.a c.self.invariant (subst (λ (m : List ℕ). c.args.a < length m) (sym c.self.view_is) c.requires), c.self.inside.pages.ok.0)

pub returns : goal.returns
returns c =
    let same = one_page c.self.inside.pages.items c.index.result.now c.index_mut.result.now (c.args.a / 4 / 1024) (page_of_byte c.self.inside.pages.items c.args.a c.self.invariant (subst (λ (m : List ℕ). c.args.a < length m) (sym c.self.view_is) c.requires)) c.index.ensures c.index_mut.ensures.value in
    byte_is_put c.self.inside.pages.items c.index_mut.result.now c.args.a _ c.with_byte_in.result c.self.invariant (subst (λ (m : List ℕ). c.args.a < length m) (sym c.self.view_is) c.requires) c.index_mut.ensures.value
    (c.with_byte_in.ensures ∙ ap (λ (p : List ℕ). slice_set (to_be_bytes w32 (get_or p (c.args.a / 4 % 1024) 0)) (c.args.a % 4) (c.args.value % 2 ^ 8)) (sym same))
    ∙ ap (λ (m : List ℕ). with_byte m c.args.a c.args.value) c.self.view_is
