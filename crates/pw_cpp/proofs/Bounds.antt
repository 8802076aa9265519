-- Places that stand in the text.
use Rattle.std.proofs.Common.{◌≡◌, ℕ, zero, suc, ◌+◌, ◌<◌, ◌≤◌, ◌==◌, Bool, true, false, if◌then◌else◌, List, [], ◌∷◌, length, drop, Option, Some, None, refl, sym, ap, ◌∙◌, subst, arith}
use Rattle.std.proofs.lemmas.Bool.{eqb-true, false≢true}
use Rattle.std.proofs.lemmas.List.{length-drop}
use Rattle.std.specs.List.{prefix_len}
use Rattle.std.specs.Prelude.{is_some, slice_index}
use Rattle.pw_token.specs.Bytes.{is_in}
use Rattle.pw_token.specs.declared.bytes.Class.TheVariants as class
use Rattle.pw_cpp_lines.specs.Heads.{IsHead, closing_quote, header_name, is_hash, is_name_byte, name_before, name_behind}
use Rattle.pw_cpp_lines.specs.Lines.{Cuts, Kinds, LinePiece, PassesSpace, is_space}
use Rattle.pw_cpp_lines.specs.declared.head.Head.TheVariants as head
use Rattle.pw_cpp_lines.specs.declared.head.Span.{Span}

cuts_to : (kinds : Kinds) (text : List ℕ) (at : ℕ) (ps : List LinePiece) (end : ℕ) → Cuts kinds text at ps end → at ≤ length text → end ≤ length text
cuts_to kinds text at [] end h l = omega (arith, h, l)
cuts_to kinds text at (piece ∷ ps) end h l = cuts_to kinds text (at + piece.1) ps end h.3 (omega (arith, l, h.2.0, length-drop at text))

prefix_within : (P : ℕ → Bool) (xs : List ℕ) → prefix_len P xs ≤ length xs
prefix_within P [] = omega arith
prefix_within P (x ∷ xs) = by (P x) (prefix_within P xs)
  where
    by : (b : Bool) → prefix_len P xs ≤ length xs → (if b then 1 + prefix_len P xs else 0) ≤ suc (length xs)
    by true l = omega (arith, l)
    by false l = omega arith

-- a byte that is not 0 stands in the text
there : (text : List ℕ) (at b : ℕ) → 0 < b → (slice_index text at == b) ≡ true → at < length text
there [] at b l e = absurd (omega (arith, l, eqb-true 0 b e))
there (x ∷ text) zero b l e = omega arith
there (x ∷ text) (suc at) b l e = omega (arith, there text at b l e)

pub marker-within : (text : List ℕ) (at hash : ℕ) → IsHead text at (head.Marker hash) → hash < length text
marker-within text at hash h = there text hash 35 (omega arith) h.1

pub hash-within : (text : List ℕ) (at hash : ℕ) (name : Span) → IsHead text at (head.Directive hash name) → hash < length text
hash-within text at hash name h = there text hash 35 (omega arith) h.1

pub name-within : (text : List ℕ) (at hash : ℕ) (name : Span) → IsHead text at (head.Directive hash name) → name.at + name.len ≤ length text
name-within text at hash name h =
    let begins : name.at ≤ length text = cuts_to is_space text (hash + 1) h.3.pieces name.at h.3.cut (omega (arith, hash-within text at hash name h)) in
    omega (arith, begins, h.4, prefix_within (is_in class.Word) (drop name.at text), length-drop name.at text)

-- a header's name ends before a quote
abbrev span_or : Span → Option Span → Span
span_or d (Some x) = x
span_or d None = d

before : (text : List ℕ) (at quote : ℕ) (x : Span) → 0 < quote → name_before text at quote ≡ Some x → x.at + x.len < length text
before text at quote x l e = by (slice_index text (at + len) == quote) refl e
  where
    len : ℕ
    len = prefix_len (is_name_byte quote) (drop at text)

    by : (b : Bool) → (slice_index text (at + len) == quote) ≡ b → (if b then Some (record { at = at; len = len }) else None) ≡ Some x → x.at + x.len < length text
    by true s e = let is : record { at = at; len = len } ≡ x = ap (span_or (record { at = at; len = len })) e in subst (λ (y : Span). y.at + y.len < length text) is (there text (at + len) quote l s)
    by false s e = absurd (false≢true (ap is_some e))

pub header-within : (text : List ℕ) (start : ℕ) (x : Span) → header_name text start ≡ Some x → x.at + x.len < length text
header-within text start x e = by (slice_index text start == 34) (slice_index text start == 60) e
  where
    by : (b c : Bool) → name_behind text (start + 1) (if b then Some 34 else (if c then Some 62 else None)) ≡ Some x → x.at + x.len < length text
    by true c e = before text (start + 1) 34 x (omega arith) e
    by false true e = before text (start + 1) 62 x (omega arith) e
    by false false e = absurd (false≢true (ap is_some e))

-- and begins behind the opening one
name_start : (text : List ℕ) (at quote : ℕ) (x : Span) → name_before text at quote ≡ Some x → x.at ≡ at
name_start text at quote x e = by (slice_index text (at + len) == quote) e
  where
    len : ℕ
    len = prefix_len (is_name_byte quote) (drop at text)

    by : (b : Bool) → (if b then Some (record { at = at; len = len }) else None) ≡ Some x → x.at ≡ at
    by true e = let is : record { at = at; len = len } ≡ x = ap (span_or (record { at = at; len = len })) e in sym (ap (λ (y : Span). y.at) is)
    by false e = absurd (false≢true (ap is_some e))

pub header-start : (text : List ℕ) (start : ℕ) (x : Span) → header_name text start ≡ Some x → x.at ≡ start + 1
header-start text start x e = by (slice_index text start == 34) (slice_index text start == 60) e
  where
    by : (b c : Bool) → name_behind text (start + 1) (if b then Some 34 else (if c then Some 62 else None)) ≡ Some x → x.at ≡ start + 1
    by true c e = name_start text (start + 1) 34 x e
    by false true e = name_start text (start + 1) 62 x e
    by false false e = absurd (false≢true (ap is_some e))
