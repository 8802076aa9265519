-- Code with more words behind it, in steps.
use Rattle.std.proofs.Common.{◌≡◌, ℕ, suc, ◌+◌, List, [], ◌∷◌, ◌++◌, length, map, refl, ap, sym, ◌∙◌, append_assoc, length-append, arith}
use Rattle.std.proofs.lemmas.List.{map-append, length-map, append-nil}
use Rattle.pw_inst.specs.InstructionTable.{word_of}
use Rattle.pw_inst.specs.declared.relocation.Fix.{Fix}
use Rattle.pw_delay.specs.declared.items.Word.{Word}
use Rattle.pw_delay.specs.declared.code.Code.{Code}
use Rattle.pw_delay.specs.Placement.{fix_at, fixes_from, extended, code_of}

pub fixes_from-append : (at : ℕ) (xs ys : List Word) → fixes_from at (xs ++ ys) ≡ fixes_from at xs ++ fixes_from (at + length xs) ys
fixes_from-append at [] ys = let e : at + 0 ≡ at = omega arith in ap (λ n. fixes_from n ys) (sym e)
fixes_from-append at (x ∷ xs) ys =
    let e : at + 1 + length xs ≡ at + suc (length xs) = omega arith in
    ap (λ rest. fix_at at x.relocation ++ rest) (fixes_from-append (at + 1) xs ys)
    ∙ sym (append_assoc (fix_at at x.relocation) (fixes_from (at + 1) xs) (fixes_from (at + 1 + length xs) ys))
    ∙ ap (λ n. fix_at at x.relocation ++ fixes_from (at + 1) xs ++ fixes_from n ys) e

words_twice : (ws : List ℕ) (xs ys : List Word) → ws ++ map (λ w. word_of w.inst) xs ++ map (λ w. word_of w.inst) ys ≡ ws ++ map (λ w. word_of w.inst) (xs ++ ys)
words_twice ws xs ys = rw append_assoc (ap (λ l. ws ++ l) (sym (map-append (λ w. word_of w.inst) xs ys)))

fixes_twice : (fs : List Fix) (at : ℕ) (xs ys : List Word) → fs ++ fixes_from at xs ++ fixes_from (at + length xs) ys ≡ fs ++ fixes_from at (xs ++ ys)
fixes_twice fs at xs ys = rw append_assoc (ap (λ l. fs ++ l) (sym (fixes_from-append at xs ys)))

length_added : (ws : List ℕ) (xs : List Word) → length (ws ++ map (λ w. word_of w.inst) xs) ≡ length ws + length xs
length_added ws xs = simp (length-append, length-map)

pub twice : (c : Code) (xs ys : List Word) → extended (extended c xs) ys ≡ extended c (xs ++ ys)
unfolding extended
twice c xs ys = λ i. record {
  words = words_twice c.words xs ys i;
  fixes = (ap (λ n. c.fixes ++ fixes_from (length c.words) xs ++ fixes_from n ys) (length_added c.words xs) ∙ fixes_twice c.fixes (length c.words) xs ys) i;
}

-- how many words there are then
pub length_extended : (c : Code) (xs : List Word) → length (extended c xs).words ≡ length c.words + length xs
unfolding extended
length_extended c xs = length_added c.words xs

-- no words more; words behind none
pub extended_by_none : (c : Code) → extended c [] ≡ c
unfolding extended
extended_by_none c = λ i. record { words = append-nil c.words i; fixes = append-nil c.fixes i }

pub extended_none : (xs : List Word) → extended (code_of []) xs ≡ code_of xs
unfolding extended
extended_none xs = refl
