-- A line comes to one thing, and is one thing.
use Rattle.std.proofs.Common.{◌≡◌, ℕ, ◌+◌, true, false, List, Result, Ok, Err, inl, inr, refl, sym, ap, ◌∙◌, subst, drop}
use Rattle.std.proofs.lemmas.Bool.{false≢true}
use Rattle.std.specs.List.{prefix_len}
use Rattle.pw_token.specs.Bytes.{is_in}
use Rattle.pw_token.specs.declared.bytes.Class.TheVariants as class
use Rattle.pw_cpp_lines.specs.Heads.{IsHead, IsMarker, is_hash}
use Rattle.pw_cpp_lines.specs.Lines.{Lexes, PassesSpace, any_kind, behind_line, is_line_end, is_space, tokens_of}
use Rattle.pw_cpp_lines.specs.declared.head.Head.{Head}
use Rattle.pw_cpp_lines.specs.declared.head.Head.TheVariants.{Text, Marker, Directive}
use Rattle.pw_cpp_lines.specs.declared.head.Span.{Span}
use Rattle.pw_cpp_lines.specs.declared.line.Line.{Line}
use Rattle.pw_cpp_lines.specs.declared.line.LineFault.{LineFault}
use Rattle.pw_cpp_lines.specs.declared.line.LineFault.TheVariants.{Bad, NoMemory}
use Rattle.pw_cpp_lines.proofs.Cutting.{PieceIsFound, one_cutting}

line_same : (a b : Line) → a.tokens ≡ b.tokens → a.next ≡ b.next → a ≡ b
line_same a b e f = λ i. record { tokens = e i; next = f i }

ended : (text : List ℕ) (e p : ℕ) → e ≡ p → is_line_end text e ≡ true → is_line_end text p ≡ false → ⊥
ended text e p same h k = false≢true (sym k ∙ ap (is_line_end text) (sym same) ∙ h)

pub one-line : PieceIsFound → (text : List ℕ) (at : ℕ) (x y : Result Line LineFault) → Lexes text at x → Lexes text at y → x ≡ y
one-line found text at (Ok a) (Ok b) h k =
    let same = one_cutting found any_kind text at h.pieces k.pieces h.end k.end h.cut k.cut (inl h.ends) (inl k.ends) in
    ap Ok (line_same a b (h.tokens_are ∙ ap (tokens_of at) same.0 ∙ sym k.tokens_are) (h.next_is ∙ ap (behind_line text) same.1 ∙ sym k.next_is))
one-line found text at (Ok a) (Err (Bad p)) h k =
    absurd (ended text h.end p (one_cutting found any_kind text at h.pieces k.pieces h.end p h.cut k.cut (inl h.ends) (inr k.nothing)).1 h.ends k.goes_on)
one-line found text at (Ok a) (Err NoMemory) h k = absurd k
one-line found text at (Err (Bad p)) (Ok b) h k =
    absurd (ended text k.end p (one_cutting found any_kind text at k.pieces h.pieces k.end p k.cut h.cut (inl k.ends) (inr h.nothing)).1 k.ends h.goes_on)
one-line found text at (Err (Bad p)) (Err (Bad q)) h k =
    ap (λ z. Err (Bad z)) (one_cutting found any_kind text at h.pieces k.pieces p q h.cut k.cut (inr h.nothing) (inr k.nothing)).1
one-line found text at (Err (Bad p)) (Err NoMemory) h k = absurd k
one-line found text at (Err NoMemory) y h k = absurd h

-- ---- heads

pub one_space : PieceIsFound → (text : List ℕ) (at e f : ℕ) → PassesSpace text at e → PassesSpace text at f → e ≡ f
one_space found text at e f h k = (one_cutting found is_space text at h.pieces k.pieces e f h.cut k.cut h.stop k.stop).1

hash_or_none : (text : List ℕ) (e p : ℕ) → e ≡ p → is_hash text e ≡ true → is_hash text p ≡ false → ⊥
hash_or_none text e p same h k = false≢true (sym k ∙ ap (is_hash text) (sym same) ∙ h)

marker_at : (text : List ℕ) (e p : ℕ) → e ≡ p → IsMarker text e → IsMarker text p
marker_at text e p same h = subst (λ x. IsMarker text x) same h

pub one-head : PieceIsFound → (text : List ℕ) (at : ℕ) (x y : Head) → IsHead text at x → IsHead text at y → x ≡ y
one-head found text at Text Text h k = refl
one-head found text at Text (Marker q) h k = absurd (hash_or_none text q h.0 (one_space found text at q h.0 k.0 h.1) k.1 h.2)
one-head found text at Text (Directive q b) h k = absurd (hash_or_none text q h.0 (one_space found text at q h.0 k.0 h.1) k.1 h.2)
one-head found text at (Marker p) Text h k = absurd (hash_or_none text p k.0 (one_space found text at p k.0 h.0 k.1) h.1 k.2)
one-head found text at (Marker p) (Marker q) h k = ap Marker (one_space found text at p q h.0 k.0)
one-head found text at (Marker p) (Directive q b) h k = absurd (k.2 (marker_at text p q (one_space found text at p q h.0 k.0) h.2))
one-head found text at (Directive p a) Text h k = absurd (hash_or_none text p k.0 (one_space found text at p k.0 h.0 k.1) h.1 k.2)
one-head found text at (Directive p a) (Marker q) h k = absurd (h.2 (marker_at text q p (one_space found text at q p k.0 h.0) k.2))
one-head found text at (Directive p a) (Directive q b) h k =
    let hash : p ≡ q = one_space found text at p q h.0 k.0 in
    let P : ℕ → Type 0 = λ x. PassesSpace text (x + 1) b.at in
    let start : a.at ≡ b.at = one_space found text (p + 1) a.at b.at h.3 (subst P (sym hash) k.3) in
    let size : a.len ≡ b.len = h.4 ∙ ap (λ x. prefix_len (is_in class.Word) (drop x text)) start ∙ sym k.4 in
    both hash (span_same a b start size)
  where
    span_same : (a b : Span) → a.at ≡ b.at → a.len ≡ b.len → a ≡ b
    span_same a b e f = λ i. record { at = e i; len = f i }

    both : {p q : ℕ} {a b : Span} → p ≡ q → a ≡ b → Directive p a ≡ Directive q b
    both e f = cc
