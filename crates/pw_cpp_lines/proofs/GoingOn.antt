-- The next line is further on, and a line has no more tokens than bytes.
use Rattle.std.proofs.Common.{◌≡◌, ℕ, zero, suc, ◌+◌, ◌<◌, ◌≤◌, Bool, true, false, ◌&&◌, ◌==◌, eqb, if◌then◌else◌, List, [], ◌∷◌, length, drop, Option, Some, None, Ok, refl, ap, arith}
use Rattle.std.proofs.lemmas.Bool.{eqb-false, eqb-true, leb-true}
use Rattle.std.specs.Prelude.{nat_le, slice_index}
use Rattle.pw_token.specs.Pieces.{found_piece, is_blank, longest_at, piece_at, token_at}
use Rattle.pw_token.specs.Scanning.{comment_len, is_splice}
use Rattle.pw_token.specs.declared.piece.PieceKind.{PieceKind}
use Rattle.pw_token.specs.declared.piece.PieceKind.TheVariants as piece
use Rattle.pw_cpp_lines.specs.Heads.{IsHead, is_hash}
use Rattle.pw_cpp_lines.specs.Lines.{Cuts, IsBehind, Kinds, LinePiece, Lexes, PassesSpace, any_kind, behind_line, tokens_of}
use Rattle.pw_cpp_lines.specs.Passing.{PassesLine, PassesRest, Steps, step_len}
use Rattle.pw_cpp_lines.specs.declared.head.Head.TheVariants as head
use Rattle.pw_cpp_lines.specs.declared.head.Span.{Span}
use Rattle.pw_cpp_lines.specs.declared.line.Line.{Line}
use Rattle.pw_cpp_lines.proofs.Cutting.{PieceIsFound}

-- ---- the next line

-- a line that ends no earlier than at a place
behind_end : (text : List ℕ) (at end next : ℕ) → at ≤ end → next ≡ behind_line text end → IsBehind text at next
behind_end text at end next l e = by (nat_le (length text) end) refl e
  where
    by : (b : Bool) → nat_le (length text) end ≡ b → next ≡ (if b then end else end + 1) → IsBehind text at next
    by true e n = (omega (arith, l, n), λ w. omega (arith, w, leb-true (length text) end e, n))
    by false e n = (omega (arith, l, n), λ w. omega (arith, l, n))

cuts_on : (kinds : Kinds) (text : List ℕ) (at : ℕ) (ps : List LinePiece) (end : ℕ) → Cuts kinds text at ps end → at ≤ end
cuts_on kinds text at [] end h = omega (arith, h)
cuts_on kinds text at (p ∷ ps) end h = omega (arith, cuts_on kinds text (at + p.1) ps end h.3)

steps_on : (text : List ℕ) (at n end : ℕ) → Steps text at n end → at ≤ end
steps_on text at zero end h = omega (arith, h)
steps_on text at (suc n) end h = omega (arith, steps_on text (at + step_len text at) n end h.1)

pub lexed-behind : (text : List ℕ) (at : ℕ) (line : Line) → Lexes text at (Ok line) → IsBehind text at line.next
lexed-behind text at line h = behind_end text at h.end line.next (cuts_on any_kind text at h.pieces h.end h.cut) h.next_is

pub rest-behind : (text : List ℕ) (at next : ℕ) → PassesRest text at next → IsBehind text at next
rest-behind text at next h = behind_end text at h.end next h.behind h.next_is

pub line-behind : (text : List ℕ) (at next : ℕ) → PassesLine text at next → IsBehind text at next
line-behind text at next h = behind_end text at h.end next (steps_on text at h.steps h.end h.passed) h.next_is

-- ---- how a line begins

hash_there : (text : List ℕ) (hash : ℕ) → is_hash text hash ≡ true → hash < length text
hash_there [] hash e = absurd (omega (arith, eqb-true 0 35 e))
hash_there (b ∷ text) zero e = omega arith
hash_there (b ∷ text) (suc hash) e = omega (arith, hash_there text hash e)

pub space-behind : (text : List ℕ) (at end : ℕ) → PassesSpace text at end → at ≤ end
space-behind text at end h = cuts_on _ text at h.pieces end h.cut

pub marker-behind : (text : List ℕ) (at hash : ℕ) → IsHead text at (head.Marker hash) → (at ≤ hash) × (hash < length text)
marker-behind text at hash h = (space-behind text at hash h.0, hash_there text hash h.1)

pub directive-behind : (text : List ℕ) (at hash : ℕ) (name : Span) → IsHead text at (head.Directive hash name) → (at ≤ hash) × (hash < length text) × (hash < name.at)
directive-behind text at hash name h = (space-behind text at hash h.0, hash_there text hash h.1, omega (arith, space-behind text (hash + 1) name.at h.3))

-- ---- tokens

abbrev one_of : PieceKind → ℕ → Option LinePiece
one_of kind n = Some (kind, n)

abbrev no_piece : Option LinePiece
no_piece = None

abbrev length_of : Option LinePiece → ℕ
length_of (Some p) = p.1
length_of None = 0

some_long : (k kind : PieceKind) (m n : ℕ) → one_of k m ≡ one_of kind n → 0 < m → 0 < n
some_long k kind m n e l = let same : m ≡ n = ap length_of e in omega (arith, same, l)

found_long : (k kind : PieceKind) (m n : ℕ) → found_piece k m ≡ one_of kind n → 0 < n
found_long k kind m n e = by (eqb m 0) refl e
  where
    by : (b : Bool) → eqb m 0 ≡ b → (if b then no_piece else one_of k m) ≡ one_of kind n → 0 < n
    by true t e = absurd (none_some e)
      where
        none_some : no_piece ≡ one_of kind n → ⊥
        none_some e = cc
    by false t e = some_long k kind m n e (omega (arith, eqb-false m 0 t))

token_long : (t : List ℕ) (kind : PieceKind) (n : ℕ) → token_at t ≡ one_of kind n → 0 < n
unfolding token_at
token_long t kind n e = found_long (piece.Token (longest_at t).0) kind (longest_at t).1 n e

-- a piece has bytes
piece_long : (t : List ℕ) (kind : PieceKind) (n : ℕ) → piece_at false t ≡ one_of kind n → 0 < n
unfolding piece_at
piece_long t kind n e = by (is_blank (slice_index t 0)) (is_splice t) (slice_index t 0 == 47) (slice_index t 1 == 42) e
  where
    by : (a b c d : Bool)
        → (if a then one_of piece.Blank 1 else (if b then one_of piece.Blank 2 else (if c && d then found_piece piece.Comment (comment_len t) else token_at t))) ≡ one_of kind n
        → 0 < n
    by true b c d e = some_long piece.Blank kind 1 n e (omega arith)
    by false true c d e = some_long piece.Blank kind 2 n e (omega arith)
    by false false true true e = found_long piece.Comment kind (comment_len t) n e
    by false false true false e = token_long t kind n e
    by false false false d e = token_long t kind n e

tokens_few : PieceIsFound → (text : List ℕ) (at : ℕ) (ps : List LinePiece) (end : ℕ) → Cuts any_kind text at ps end → at + length (tokens_of at ps) ≤ end
tokens_few found text at [] end h = omega (arith, h)
tokens_few found text at ((piece.Blank, len) ∷ ps) end h = omega (arith, tokens_few found text (at + len) ps end h.3)
tokens_few found text at ((piece.Comment, len) ∷ ps) end h = omega (arith, tokens_few found text (at + len) ps end h.3)
tokens_few found text at ((piece.LineMarker, len) ∷ ps) end h = omega (arith, tokens_few found text (at + len) ps end h.3)
tokens_few found text at ((piece.Token kind, len) ∷ ps) end h =
    omega (arith, tokens_few found text (at + len) ps end h.3, piece_long (drop at text) (piece.Token kind) len ((found false (drop at text) (piece.Token kind) len).1 h.2))

pub line-few : PieceIsFound → (text : List ℕ) (at : ℕ) (line : Line) → Lexes text at (Ok line) → at + length line.tokens ≤ line.next
line-few found text at line h =
    omega (arith, tokens_few found text at h.pieces h.end h.cut, ap length h.tokens_are, (behind_end text h.end h.end line.next (omega arith) h.next_is).0)
