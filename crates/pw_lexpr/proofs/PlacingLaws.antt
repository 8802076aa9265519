-- Blocks in the places of their numbers.
use Rattle.std.proofs.Common.{◌≡◌, ℕ, zero, suc, ◌+◌, ◌<◌, ◌==◌, Bool, true, false, if◌then◌else◌, Option, Some, None, List, [], ◌∷◌, ◌++◌, map, replicate, slice_get, slice_set, refl, ap, ◌∙◌, sym, arith}
use Rattle.std.proofs.lemmas.Bool.Decides.{nat_tests}
use Rattle.pw_flow.specs.declared.flow.Block.{Block}
use Rattle.pw_lower.specs.declared.code.Numbered.{Numbered}
use Rattle.pw_lower.specs.Codes.{bare, block_of, blocks_below}
use Rattle.pw_lexpr.specs.Placing.{is_vacant, put_at, put_all, block_or_bare}

-- what stands in a place, or else another
abbrev either : Option Block → Option Block → Block
either (Some b) other = b
either None other = block_or_bare other

-- what stands in the places from number k on, or else the first closed block of the number
abbrev filled_from : List Numbered → ℕ → List (Option Block) → List Block
filled_from closed k [] = []
filled_from closed k (place ∷ rest) = either place (block_of closed k) ∷ filled_from closed (k + 1) rest

filled_none : (k : ℕ) (places : List (Option Block)) → filled_from [] k places ≡ map block_or_bare places
filled_none k [] = refl
filled_none k (Some b ∷ rest) = ap (λ r. b ∷ r) (filled_none (k + 1) rest)
filled_none k (None ∷ rest) = ap (λ r. bare ∷ r) (filled_none (k + 1) rest)

unlike : (m k : ℕ) → m < k → (m == k) ≡ false
unlike m k h = grind (arith, nat_tests)

unlike_above : (m k : ℕ) → k < m → (m == k) ≡ false
unlike_above m k h = grind (arith, nat_tests)

alike : (m k : ℕ) → m ≡ k → (m == k) ≡ true
alike m k h = grind (arith, nat_tests)

other : (r : Numbered) (closed : List Numbered) (k : ℕ) → (r.number == k) ≡ false → block_of (r ∷ closed) k ≡ block_of closed k
other r closed k h = ap (λ t. if t then Some r.block else block_of closed k) h

skipped : (r : Numbered) (closed : List Numbered) (k : ℕ) (places : List (Option Block)) → r.number < k → filled_from (r ∷ closed) k places ≡ filled_from closed k places
skipped r closed k [] h = refl
skipped r closed k (place ∷ rest) h =
    ap (λ o. either place o ∷ filled_from (r ∷ closed) (k + 1) rest) (other r closed k (unlike r.number k h))
    ∙ ap (λ left. either place (block_of closed k) ∷ left) (skipped r closed (k + 1) rest (omega arith))

one_in : (vacant : Bool) (place : Option Block) (x y : List (Option Block)) → (if vacant then place ∷ x else place ∷ y) ≡ place ∷ (if vacant then x else y)
one_in true place x y = refl
one_in false place x y = refl

put_later : (n : ℕ) (b : Block) (place : Option Block) (rest : List (Option Block)) → put_at (suc n) b (place ∷ rest) ≡ place ∷ put_at n b rest
put_later n b place rest = one_in (is_vacant (slice_get rest n)) place (slice_set rest n (Some b)) rest

put_filled : (r : Numbered) (closed : List Numbered) (k n : ℕ) (places : List (Option Block)) → r.number ≡ k + n → filled_from closed k (put_at n r.block places) ≡ filled_from (r ∷ closed) k places
put_filled r closed k n [] h = refl
put_filled r closed k zero (None ∷ rest) h =
    ap (λ left. r.block ∷ left) (sym (skipped r closed (k + 1) rest (omega arith)))
    ∙ ap (λ t. block_or_bare (if t then Some r.block else block_of closed k) ∷ filled_from (r ∷ closed) (k + 1) rest) (sym (alike r.number k (omega arith)))
put_filled r closed k zero (Some b ∷ rest) h = ap (λ left. b ∷ left) (sym (skipped r closed (k + 1) rest (omega arith)))
put_filled r closed k (suc n) (place ∷ rest) h =
    ap (filled_from closed k) (put_later n r.block place rest)
    ∙ ap (λ o. either place o ∷ filled_from closed (k + 1) (put_at n r.block rest)) (sym (other r closed k (unlike_above r.number k (omega arith))))
    ∙ ap (λ left. either place (block_of (r ∷ closed) k) ∷ left) (put_filled r closed (k + 1) n rest (omega arith))

all_filled : (closed : List Numbered) (places : List (Option Block)) → map block_or_bare (put_all closed places) ≡ filled_from closed 0 places
all_filled [] places = sym (filled_none 0 places)
all_filled (r ∷ closed) places =
    all_filled closed (put_at r.number r.block places) ∙ put_filled r closed 0 r.number places (omega arith)

one_more : (closed : List Numbered) (k n : ℕ) → filled_from closed k (replicate (suc n) None) ≡ filled_from closed k (replicate n None) ++ block_or_bare (block_of closed (k + n)) ∷ []
one_more closed k zero = let e : k ≡ k + 0 = omega arith in ap (λ m. block_or_bare (block_of closed m) ∷ []) e
one_more closed k (suc n) =
    let e : k + 1 + n ≡ k + suc n = omega arith in
    ap (λ left. block_or_bare (block_of closed k) ∷ left) (one_more closed (k + 1) n)
    ∙ ap (λ m. block_or_bare (block_of closed k) ∷ (filled_from closed (k + 1) (replicate n None) ++ block_or_bare (block_of closed m) ∷ [])) e

from_none : (closed : List Numbered) (n : ℕ) → filled_from closed 0 (replicate n None) ≡ blocks_below closed n
from_none closed zero = refl
from_none closed (suc n) =
    let e : 0 + n ≡ n = omega arith in
    one_more closed 0 n
    ∙ ap (λ m. filled_from closed 0 (replicate n None) ++ block_or_bare (block_of closed m) ∷ []) e
    ∙ ap (λ left. left ++ block_or_bare (block_of closed n) ∷ []) (from_none closed n)

-- blocks that are put into their places stand in the order of their numbers
pub placed_blocks : (closed : List Numbered) (n : ℕ) → map block_or_bare (put_all closed (replicate n None)) ≡ blocks_below closed n
placed_blocks closed n = all_filled closed (replicate n None) ∙ from_none closed n

-- one block more
pub put_one_more : (closed : List Numbered) (r : Numbered) (places : List (Option Block)) → put_all (closed ++ r ∷ []) places ≡ put_at r.number r.block (put_all closed places)
put_one_more [] r places = refl
put_one_more (b ∷ rest) r places = put_one_more rest r (put_at b.number b.block places)
