-- How `closing` goes on from the beginning of a text.
use Rattle.std.proofs.Common.{◌≡◌, ℕ, ◌+◌, ◌<◌, true, false, List, [], ◌∷◌, length, drop, slice_index, refl, arith, ◌∙◌}
use Rattle.pw_token.specs.Scanning.{closing, settle, next_mode, is_splice, is_closed, is_broken}
use Rattle.pw_token.specs.declared.literals.Mode.{Mode}

pub closing-splice : (quote : ℕ) (m : Mode) (n : ℕ) (t : List ℕ) → is_splice t ≡ true → closing quote m n t ≡ closing quote m (n + 2) (drop 2 t)
closing-splice quote m n [] h = refl
closing-splice quote m n (b ∷ []) h = grind arith
closing-splice quote m n (b ∷ c ∷ t) h = rw h refl

pub closing-step : (quote : ℕ) (m : Mode) (n : ℕ) (t : List ℕ) → is_splice t ≡ false → 0 < length t
    → closing quote m n t ≡ settle (next_mode quote m (slice_index t 0)) (n + 1) (closing quote (next_mode quote m (slice_index t 0)) (n + 1) (drop 1 t))
closing-step quote m n [] h l = absurd (omega arith)
closing-step quote m n (b ∷ []) h l = refl
closing-step quote m n (b ∷ c ∷ t) h l = rw h refl

settled : (m : Mode) (n later : ℕ) → is_closed m ≡ false → is_broken m ≡ false → settle m n later ≡ later
settled m n later unclosed whole = rw (unclosed, whole) refl

-- in a mode that goes on
pub closing-open : (quote : ℕ) (m : Mode) (n : ℕ) (t : List ℕ) (after : Mode) (rest : List ℕ) → is_splice t ≡ false → 0 < length t
    → after ≡ next_mode quote m (slice_index t 0) → rest ≡ drop 1 t → is_closed after ≡ false → is_broken after ≡ false
    → closing quote after (n + 1) rest ≡ closing quote m n t
closing-open quote m n t after rest h l e r unclosed whole =
    let next = closing-step quote m n t h l in
    let stays = settled after (n + 1) (closing quote after (n + 1) rest) unclosed whole in
    cc

-- in a mode that ends
pub closing-closed : (quote : ℕ) (m : Mode) (n : ℕ) (t : List ℕ) → is_splice t ≡ false → 0 < length t
    → is_closed (next_mode quote m (slice_index t 0)) ≡ true → closing quote m n t ≡ n + 1
closing-closed quote m n t h l e = closing-step quote m n t h l ∙ rw e refl
