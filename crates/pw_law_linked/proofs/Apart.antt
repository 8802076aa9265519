-- Pieces that stand one behind the other share no word.
use Rattle.std.specs.Prelude.{ℕ, ◌+◌, ◌*◌, ◌≤◌, List, [], ◌∷◌, length}
use Rattle.std.specs.List.{AllByRecursion}
use Rattle.std.proofs.Common.{arith, inl, inr}
use Rattle.pw_link.specs.Layout.{Piece, Placed, placed_from}
use Rattle.pw_law_linked.specs.Standing.{BeginsOutside}

-- each begins behind where the first does
behind_first : (from at : ℕ) (ps : List Piece) → from ≤ at → AllByRecursion (λ q. from ≤ q.address) (placed_from at ps)
behind_first from at [] le = tt
behind_first from at (p ∷ ps) le = (le, behind_first from (at + 4 * length p.words) ps (omega (arith, le)))

-- so none begins inside the first
after : (q : Placed) (qs : List Placed) → AllByRecursion (λ r. q.address + 4 * length q.piece.words ≤ r.address) qs → AllByRecursion (BeginsOutside q) qs
after q [] h = tt
after q (r ∷ qs) h = (inr h.0, after q qs h.1)

-- nor does the first inside another
before : (q : Placed) (qs : List Placed) → AllByRecursion (λ r. q.address ≤ r.address) qs → AllByRecursion (λ r. BeginsOutside r q) qs
before q [] h = tt
before q (r ∷ qs) h = (inl h.0, before q qs h.1)

both : (P Q R : Placed → Type 0) (qs : List Placed) → ((q : Placed) → P q → Q q → R q) → AllByRecursion P qs → AllByRecursion Q qs → AllByRecursion R qs
both P Q R [] each p q = tt
both P Q R (x ∷ qs) each p q = (each x p.0 q.0, both P Q R qs each p.1 q.1)

pub all_apart : (at : ℕ) (ps : List Piece) → AllByRecursion (λ q. AllByRecursion (BeginsOutside q) (placed_from at ps)) (placed_from at ps)
all_apart at [] = tt
all_apart at (p ∷ ps) =
    let q : Placed = record { address = at; piece = p } in
    let next = at + 4 * length p.words in
    let rest = placed_from next ps in (
      (inl (omega arith), after q rest (behind_first next next ps (omega arith))),
      both (λ r. BeginsOutside r q) (λ r. AllByRecursion (BeginsOutside r) rest) (λ r. AllByRecursion (BeginsOutside r) (q ∷ rest)) rest (λ r first later. (first, later))
          (before q rest (behind_first at next ps (omega arith))) (all_apart next ps),
    )
