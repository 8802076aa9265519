-- The tokens of a text lie in it.
use Rattle.std.proofs.Common.{ℕ, zero, suc, ◌+◌, ◌<◌, ◌≤◌, List, [], ◌∷◌, ◌++◌, length, slice_index_or, All, arith, sym, subst, Bool, true}
use Rattle.pw_token.proofs.CutLaws.{total, total-first, cuts-length, stands-long}
use Rattle.pw_token.specs.Tokenization.{Piece, Cuts, tokens_of, token_in, IsLexed, StandInOrder, line_start_after}
use Rattle.pw_token.specs.declared.piece.PieceKind.{PieceKind}
use Rattle.pw_token.specs.declared.piece.PieceKind.TheVariants as piece
use Rattle.pw_token.specs.declared.token.Token.{Token}

-- each token ends at a place up to n
abbrev AllEnd : ℕ → List Token → Type 0
AllEnd n [] = Unit {0}
AllEnd n (t ∷ ts) = (t.at + t.len ≤ n) × AllEnd n ts

end-append : (n : ℕ) (ts us : List Token) → AllEnd n ts → AllEnd n us → AllEnd n (ts ++ us)
end-append n [] us h k = k
end-append n (t ∷ ts) us h k = (h.0, end-append n ts us h.1 k)

end-token : (n : ℕ) (kind : PieceKind) (at len : ℕ) → at + len ≤ n → AllEnd n (token_in kind at len)
end-token n piece.Blank at len h = tt
end-token n piece.Comment at len h = tt
end-token n piece.LineMarker at len h = tt
end-token n (piece.Token kind) at len h = (h, tt)

end-pieces : (n at : ℕ) (ps : List Piece) → at + total ps ≤ n → AllEnd n (tokens_of at ps)
end-pieces n at [] h = tt
end-pieces n at (p ∷ ps) h =
    let first = total-first p ps in
    end-append n (token_in p.kind at (length p.text)) (tokens_of (at + length p.text) ps)
    (end-token n p.kind at (length p.text) (omega arith)) (end-pieces n (at + length p.text) ps (omega arith))

at-end : (n : ℕ) (ts : List Token) → AllEnd n ts → (k : ℕ) (d : Token) → k < length ts → (slice_index_or ts k d).at + (slice_index_or ts k d).len ≤ n
at-end n [] h k d l = absurd (omega arith)
at-end n (t ∷ ts) h zero d l = h.0
at-end n (t ∷ ts) h (suc k) d l = at-end n ts h.1 k d (omega arith)

pub tokens_within : (text : List ℕ) (tokens : List Token) → IsLexed text tokens → All (λ t. t.at + t.len ≤ length text) tokens
tokens_within text tokens h =
    let a = h.1 in
    let l = cuts-length true text a.pieces a.end [] a.cut in
    at-end (length text) tokens (subst (AllEnd (length text)) (sym a.tokens_are) (end-pieces (length text) 0 a.pieces (omega (arith, l))))

order-pieces : (n from at : ℕ) (s : Bool) (t : List ℕ) (ps : List Piece) (e : Bool) (rest : List ℕ) → from ≤ at → at + total ps ≤ n → Cuts s t ps e rest → StandInOrder from n (tokens_of at ps)
order-pieces n from at s t [] e rest l fits h = omega arith
order-pieces n from at s t (p ∷ ps) e rest l fits h =
    let first = total-first p ps in
    let long = stands-long s p.kind p.text h.0 h.2 in
    kinds p.kind (order-pieces n from (at + length p.text) (line_start_after s p.kind p.text) h.0 ps e rest (omega arith) (omega arith) h.3)
    (order-pieces n (at + length p.text) (at + length p.text) (line_start_after s p.kind p.text) h.0 ps e rest (omega arith) (omega arith) h.3) long
  where
    kinds : (kind : PieceKind) → StandInOrder from n (tokens_of (at + length p.text) ps) → StandInOrder (at + length p.text) n (tokens_of (at + length p.text) ps)
        → 0 < length p.text → StandInOrder from n (token_in kind at (length p.text) ++ tokens_of (at + length p.text) ps)
    kinds piece.Blank far near long = far
    kinds piece.Comment far near long = far
    kinds piece.LineMarker far near long = far
    kinds (piece.Token kind) far near long = (l, long, near)

pub tokens_rise : (text : List ℕ) (tokens : List Token) → IsLexed text tokens → StandInOrder 0 (length text) tokens
tokens_rise text tokens h =
    let a = h.1 in
    let l = cuts-length true text a.pieces a.end [] a.cut in
    subst (StandInOrder 0 (length text)) (sym a.tokens_are) (order-pieces (length text) 0 0 true text a.pieces a.end [] (omega arith) (omega (arith, l)) a.cut)
