-- The piece at the beginning of a text is what stands there, and how long it is.
use Rattle.std.proofs.Common.{◌≡◌, ℕ, ◌<◌, ◌≤◌, List, [], ◌∷◌, ◌++◌, length, take, drop, Bool, true, false, Option, Some, None, IfSome, inl, inr, eqb, arith, refl, ap, sym, ◌∙◌, subst, length-append}
use Rattle.std.proofs.lemmas.Bool.{eqb-false}
use Rattle.std.proofs.lemmas.List.{take-append-drop, take_at, drop_at, length-take-le}
use Rattle.pw_token.proofs.PieceLaws.{piece-sound, piece-complete}
use Rattle.pw_token.proofs.CutLaws.{stands-long}
use Rattle.pw_token.proofs.Runs.{either}
use Rattle.pw_token.proofs.TokenLaws.{token-sound}
use Rattle.pw_token.specs.Pieces.{piece_at, token_at, longest_at}
use Rattle.pw_token.specs.Tokenization.{Stands, BeginsWith}
use Rattle.pw_token.specs.declared.piece.PieceKind.{PieceKind}

-- no token stands in an empty text
no-token : token_at [] ≡ None
unfolding token_at
no-token =
    elim (either (eqb (longest_at []).1 0)) [
      | inl z ↦ rw z refl
      | inr z ↦
          let f = token-sound [] (omega (arith, eqb-false (longest_at []).1 0 z)) in
          absurd (omega (arith, eqb-false (longest_at []).1 0 z, f.len, ap length f.split, length-append f.front f.rest))
    ]

-- nor does any other piece
no-piece : (ls : Bool) → piece_at ls [] ≡ None
unfolding piece_at
no-piece true = no-token
no-piece false = no-token

here-begins : (ls : Bool) (k : PieceKind) (n : ℕ) (front rest : List ℕ) → length front ≡ n → Stands ls k front rest → BeginsWith ls k n (front ++ rest)
here-begins ls k n front rest len h = (
  omega (arith, len, length-append front rest),
  subst (λ x. Stands ls k x (drop n (front ++ rest))) (sym (take_at front rest n len)) (subst (Stands ls k front) (sym (drop_at front rest n len)) h),
)

-- what is found stands there
pub piece-begins : (ls : Bool) (t : List ℕ) (k : PieceKind) (n : ℕ) → piece_at ls t ≡ Some (k, n) → BeginsWith ls k n t
piece-begins ls [] k n e = absurd (clash (sym (no-piece ls) ∙ e))
  where
    clash : {p : PieceKind × ℕ} → None ≡ Some p → ⊥
    clash {p} e = cc
piece-begins ls (b ∷ t) k n e =
    let h = piece-sound ls b t (k, n) e in
    subst (BeginsWith ls k n) (sym h.split) (here-begins ls k n h.front h.rest h.len h.stands)

-- what stands there is found
pub begins-piece : (ls : Bool) (t : List ℕ) (k : PieceKind) (n : ℕ) → BeginsWith ls k n t → piece_at ls t ≡ Some (k, n)
begins-piece ls t k n h =
    ap (piece_at ls) (sym (take-append-drop n t)) ∙ piece-complete ls k (take n t) (drop n t) h.1 ∙ ap (λ x. Some (k, x)) (length-take-le n t h.0)

pub found-within : (ls : Bool) (t : List ℕ) (r : Option (PieceKind × ℕ)) → r ≡ piece_at ls t → IfSome r (λ found. (0 < found.1) × (found.1 ≤ length t))
found-within ls t None e = tt
found-within ls t (Some p) e =
    let h = piece-begins ls t p.0 p.1 (sym e) in
    (omega (arith, stands-long ls p.0 (take p.1 t) (drop p.1 t) h.1, length-take-le p.1 t h.0), h.0)
