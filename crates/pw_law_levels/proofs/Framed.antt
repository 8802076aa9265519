-- A selected function is framed, where no function begins inside.
use Rattle.std.specs.Prelude.{◌≡◌, ◌+◌, ◌*◌, ◌≤◌, List, [], ◌∷◌, length}
use Rattle.std.proofs.Common.{arith, subst, sym, refl}
use Rattle.pw_webflow.specs.declared.web.WebBlock.{WebBlock}
use Rattle.pw_alloc.specs.declared.located.Located.{Located}
use Rattle.pw_alloc.specs.Frames.{head_size}

-- the first of some blocks
pub some_block : (blocks : List WebBlock) → 1 ≤ length blocks → (b : WebBlock) × (rest : List WebBlock) × (blocks ≡ b ∷ rest)
some_block [] some = absurd (omega (arith, some))
some_block (b ∷ rest) some = (b, rest, refl)

pub frame_of : (l f : Located) → l ≡ f → 4 * length f.saved + head_size f.body ≤ f.frame → 4 * length l.saved + head_size l.body ≤ l.frame
frame_of l f is le = subst (λ (l : Located). 4 * length l.saved + head_size l.body ≤ l.frame) (sym is) le
