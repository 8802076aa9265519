-- Bytes that are written into the memory of the lines, and over that of the machine.
use Rattle.std.specs.Prelude.{ℕ, zero, suc, ◌≡◌, ◌+◌, ◌-◌, ◌<◌, ◌≤◌, List, [], ◌∷◌, ◌++◌, length, take, drop}
use Rattle.std.proofs.Common.{arith, subst, sym, ap, refl, ◌∙◌, inl, inr, get_or, length-append, length-drop}
use Rattle.std.proofs.Math.ListN.{get_or-append}
use Rattle.std.proofs.lemmas.Bool.{cases_lt, eq-eqb, ne_eqb}
use Rattle.std.proofs.lemmas.List.{get_or-append-add, get_or-take, get_or-drop, length-take-le}
use Rattle.pw_image.specs.declared.image.DataItem.{DataItem}
use Rattle.pw_image.specs.Image.{AreItems, free_behind}
use Rattle.pw_machine.specs.Core.{byte_at}
use Rattle.pw_machine.specs.Start.{overwritten, with_items}
use Rattle.pw_run_languages.specs.Acts.{put}
use Rattle.pw_run_languages.specs.LineRun.{with_bytes}

-- items of data that are written into the memory of the lines, each at its offset from an address
abbrev pub data_written : ℕ → List DataItem → (ℕ → ℕ) → ℕ → ℕ
data_written at [] memory = memory
data_written at (i ∷ items) memory = data_written at items (with_bytes (at + i.offset) i.bytes memory)

-- from a place on a memory of the lines has what one of the machine has
abbrev pub Agrees : ℕ → (ℕ → ℕ) → List ℕ → Type 0
Agrees low f memory = (a : ℕ) → low ≤ a → f a ≡ byte_at memory a

-- ---- in the lines

put_here : (f : ℕ → ℕ) (a v b : ℕ) → b ≡ a → put a v f b ≡ v
put_here f a v b e = rw (eq-eqb b a e) refl

put_elsewhere : (f : ℕ → ℕ) (a v b : ℕ) → (b ≡ a → ⊥) → put a v f b ≡ f b
put_elsewhere f a v b other = rw (ne_eqb b a other) refl

before_bytes : (a : ℕ) (bytes : List ℕ) (f : ℕ → ℕ) (place : ℕ) → place < a → with_bytes a bytes f place ≡ f place
before_bytes a [] f place lt = refl
before_bytes a (byte ∷ bytes) f place lt =
    before_bytes (a + 1) bytes (put a byte f) place (omega (arith, lt)) ∙ put_elsewhere f a byte place (λ e. omega (arith, lt, e))

behind_bytes : (a : ℕ) (bytes : List ℕ) (f : ℕ → ℕ) (place : ℕ) → a + length bytes ≤ place → with_bytes a bytes f place ≡ f place
behind_bytes a [] f place le = refl
behind_bytes a (byte ∷ bytes) f place le =
    behind_bytes (a + 1) bytes (put a byte f) place (omega (arith, le)) ∙ put_elsewhere f a byte place (λ e. omega (arith, le, e))

among_bytes : (a : ℕ) (bytes : List ℕ) (f : ℕ → ℕ) (k place : ℕ) → place ≡ a + k → k < length bytes → with_bytes a bytes f place ≡ get_or bytes k 0
among_bytes a [] f k place at lt = absurd (omega (arith, lt))
among_bytes a (byte ∷ bytes) f zero place at lt = before_bytes (a + 1) bytes (put a byte f) place (omega (arith, at)) ∙ put_here f a byte place (omega (arith, at))
among_bytes a (byte ∷ bytes) f (suc k) place at lt = among_bytes (a + 1) bytes (put a byte f) k place (omega (arith, at)) (omega (arith, lt))

-- ---- in the machine

before_written : (memory : List ℕ) (a : ℕ) (bytes : List ℕ) (place : ℕ) → a ≤ length memory → place < a → byte_at (overwritten memory a bytes) place ≡ byte_at memory place
before_written memory a bytes place le lt =
    let first = take a memory in
    let count = length-take-le a memory le in
    get_or-append (first ++ bytes) (drop (a + length bytes) memory) 0 place (omega (arith, length-append first bytes, count, lt))
    ∙ get_or-append first bytes 0 place (omega (arith, count, lt))
    ∙ get_or-take a memory place 0 lt

among_written : (memory : List ℕ) (a : ℕ) (bytes : List ℕ) (k place : ℕ) → a ≤ length memory → place ≡ a + k → k < length bytes → byte_at (overwritten memory a bytes) place ≡ get_or bytes k 0
among_written memory a bytes k place le at lt =
    let first = take a memory in
    let count = length-take-le a memory le in
    get_or-append (first ++ bytes) (drop (a + length bytes) memory) 0 place (omega (arith, length-append first bytes, count, at, lt))
    ∙ subst (λ (n : ℕ). get_or (first ++ bytes) n 0 ≡ get_or bytes k 0) (omega (arith, count, at)) (get_or-append-add first bytes k 0)

behind_written : (memory : List ℕ) (a : ℕ) (bytes : List ℕ) (place : ℕ) → a ≤ length memory → a + length bytes ≤ place → byte_at (overwritten memory a bytes) place ≡ byte_at memory place
behind_written memory a bytes place le above =
    let first = take a memory in
    let end = a + length bytes in
    let rest = drop end memory in
    let k = place - end in
    let count : length (first ++ bytes) + k ≡ place = omega (arith, length-append first bytes, length-take-le a memory le, above) in
    subst (λ (n : ℕ). get_or (first ++ bytes ++ rest) n 0 ≡ get_or rest k 0) count (get_or-append-add (first ++ bytes) rest k 0)
    ∙ get_or-drop end memory k 0
    ∙ ap (λ (n : ℕ). get_or memory n 0) (omega (arith, above))

written_length : (memory : List ℕ) (a : ℕ) (bytes : List ℕ) → a + length bytes ≤ length memory → length (overwritten memory a bytes) ≡ length memory
written_length memory a bytes fits =
    let end = a + length bytes in
    let both = length-append (take a memory ++ bytes) (drop end memory) in
    omega (arith, fits, both, length-append (take a memory) bytes, length-take-le a memory (omega (arith, fits)), length-drop end memory)

-- ---- both

bytes_agree : (low a : ℕ) (bytes : List ℕ) (f : ℕ → ℕ) (memory : List ℕ) → a + length bytes ≤ length memory → Agrees low f memory → Agrees low (with_bytes a bytes f) (overwritten memory a bytes)
bytes_agree low a bytes f memory fits agree place le = elim (cases_lt place a) [
  | inl before ↦ before_bytes a bytes f place before ∙ (agree place le ∙ sym (before_written memory a bytes place (omega (arith, fits)) before))
  | inr above ↦ elim (cases_lt place (a + length bytes)) [
    | inl within ↦
        let k = place - a in
        let at : place ≡ a + k = omega (arith, above) in
        let lt : k < length bytes = omega (arith, above, within) in
        among_bytes a bytes f k place at lt ∙ sym (among_written memory a bytes k place (omega (arith, fits)) at lt)
    | inr behind ↦ behind_bytes a bytes f place behind ∙ (agree place le ∙ sym (behind_written memory a bytes place (omega (arith, fits)) behind))
  ]
]

-- items of data that are written one after the other
pub items_agree : (low at size free : ℕ) (items : List DataItem) (f : ℕ → ℕ) (memory : List ℕ) → AreItems size free items → at + size ≤ length memory → Agrees low f memory
    → Agrees low (data_written at items f) (with_items memory at items)
items_agree low at size free [] f memory are fits agree = agree
items_agree low at size free (i ∷ items) f memory are fits agree =
    let within : at + i.offset + length i.bytes ≤ length memory = omega (arith, are.1, fits) in
    let next = overwritten memory (at + i.offset) i.bytes in
    items_agree low at size (free_behind i) items (with_bytes (at + i.offset) i.bytes f) next are.2 (omega (arith, fits, written_length memory (at + i.offset) i.bytes within))
    (bytes_agree low (at + i.offset) i.bytes f memory within agree)
