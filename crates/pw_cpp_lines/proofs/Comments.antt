-- Comments in a line that is passed over.
use Rattle.std.proofs.Common.{◌≡◌, ℕ, ◌-◌, Bool, true, false, eqb, List, drop, length, get_or, refl, sym, ap, ◌∙◌, arith}
use Rattle.std.proofs.lemmas.Bool.{eqb-true}
use Rattle.std.proofs.lemmas.List.{get_or-drop}
use Rattle.pw_token.specs.Pieces.{piece_at, found_piece}
use Rattle.pw_token.specs.Scanning.{comment_len}
use Rattle.pw_token.specs.declared.piece.PieceKind.TheVariants as piece
use Rattle.pw_cpp_lines.specs.Passing.{comment_found, opens_comment, or_else, step_len}

-- the comment that is found where one opens
comment_at : (t : List ℕ) → get_or t 0 0 ≡ 47 → get_or t 1 0 ≡ 42 → comment_found (piece_at false t) ≡ comment_len t
unfolding piece_at
comment_at t a b = rw a (rw b (found (comment_len t)))
  where
    found : (n : ℕ) → comment_found (found_piece piece.Comment n) ≡ n
    found n = from_test (eqb n 0) refl
      where
        from_test : (b : Bool) → eqb n 0 ≡ b → comment_found (found_piece piece.Comment n) ≡ n
        from_test true e = rw e (sym (eqb-true n 0 e))
        from_test false e = rw e refl

pub comment-there : (text : List ℕ) (at : ℕ) → opens_comment text at ≡ true → comment_found (piece_at false (drop at text)) ≡ comment_len (drop at text)
comment-there text at e = comment_at (drop at text) first second
  where
    first : get_or (drop at text) 0 0 ≡ 47
    first = grind (arith, get_or-drop)

    second : get_or (drop at text) 1 0 ≡ 42
    second = grind (arith, get_or-drop)

pub step-comment : (text : List ℕ) (at len r : ℕ) → opens_comment text at ≡ true → len ≡ comment_found (piece_at false (drop at text)) → r ≡ or_else len (length text - at)
    → r ≡ step_len text at
step-comment text at len r e l h = h ∙ ap (λ x. or_else x (length text - at)) (l ∙ comment-there text at e) ∙ opened
  where
    opened : or_else (comment_len (drop at text)) (length text - at) ≡ step_len text at
    opened = rw e refl
