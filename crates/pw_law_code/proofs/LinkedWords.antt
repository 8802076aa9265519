-- The words of a function with their relocations done, one by one.
use Rattle.std.proofs.Common.{◌≡◌, ℕ, suc, ◌+◌, ◌*◌, ◌%◌, ◌^◌, ◌<◌, Option, None, Some, List, [], ◌∷◌, ◌++◌, map, length, get_or, set, refl, sym, ap, subst, ◌∙◌, arith, append_assoc}
use Rattle.std.specs.Prelude.{Contains}
use Rattle.std.proofs.Math.Seq.{get_or-append_seam, set-append_seam}
use Rattle.std.proofs.lemmas.List.{length-append}
use Rattle.std.proofs.lemmas.List.Elements.{Contains-append_left, Contains-append_right}
use Rattle.pw_inst.specs.InstructionTable.{word_of, decoded}
use Rattle.pw_inst.specs.declared.relocation.Fix.{Fix}
use Rattle.pw_delay.specs.declared.items.Word.{Word}
use Rattle.pw_delay.specs.declared.items.Relocation.{Relocation}
use Rattle.pw_delay.specs.Placement.{fix_at, fixes_from}
use Rattle.pw_link.specs.Layout.{Sites}
use Rattle.pw_link.specs.Linking.{word_address, symbol_address, settled, with_fix, with_fixes}
use Rattle.pw_run_languages.specs.Words.{Text}
use Rattle.pw_run_languages.specs.CodeStands.{IsKnown}

-- the word of a number in a function at an address, with its relocation done
abbrev pub relocated : Sites → ℕ → ℕ → ℕ → Option Relocation → ℕ
relocated sites own k word None = word
relocated sites own k word (Some r) = settled r.kind (word_address own k) ((symbol_address sites own r.symbol + r.addend) % 2 ^ 32) word

abbrev pub linked_from : Sites → ℕ → ℕ → List Word → List ℕ
linked_from sites own k [] = []
linked_from sites own k (w ∷ ws) = relocated sites own k (word_of w.inst) w.relocation ∷ linked_from sites own (k + 1) ws

one_fix : (sites : Sites) (own : ℕ) (before : List ℕ) (k word : ℕ) (rest : List ℕ) (r : Relocation) → k ≡ length before
    → with_fix sites own (record { word = k; kind = r.kind; symbol = r.symbol; addend = r.addend }) (before ++ word ∷ rest)
    ≡ before ++ relocated sites own k word (Some r) ∷ rest
one_fix sites own before k word rest r e =
    let all = before ++ word ∷ rest in
    let put = λ (v : ℕ). settled r.kind (word_address own k) ((symbol_address sites own r.symbol + r.addend) % 2 ^ 32) v in
    let read : get_or all k 0 ≡ word = ap (λ (n : ℕ). get_or all n 0) e ∙ get_or-append_seam before word rest 0 in
    ap (λ (v : ℕ). set all k (put v)) read
    ∙ ap (λ (n : ℕ). set all n (put word)) e
    ∙ set-append_seam before word rest (put word)

-- the relocations of words change each its own word
pub fixes_act : (sites : Sites) (own : ℕ) (before : List ℕ) (k : ℕ) (ws : List Word) → k ≡ length before
    → with_fixes sites own (fixes_from k ws) (before ++ map (λ w. word_of w.inst) ws) ≡ before ++ linked_from sites own k ws
fixes_act sites own before k [] e = refl
fixes_act sites own before k (w ∷ ws) e =
    by w.relocation (λ (v : ℕ). behind v (fixes_act sites own (before ++ v ∷ []) (k + 1) ws (omega (arith, e, length-append before (v ∷ [])))))
  where
    behind : (v : ℕ) → with_fixes sites own (fixes_from (k + 1) ws) ((before ++ v ∷ []) ++ map (λ w. word_of w.inst) ws) ≡ (before ++ v ∷ []) ++ linked_from sites own (k + 1) ws
        → with_fixes sites own (fixes_from (k + 1) ws) (before ++ v ∷ map (λ w. word_of w.inst) ws) ≡ before ++ v ∷ linked_from sites own (k + 1) ws
    behind v h =
        ap (λ (words : List ℕ). with_fixes sites own (fixes_from (k + 1) ws) words) (sym (append_assoc before (v ∷ []) (map (λ w. word_of w.inst) ws)))
        ∙ h ∙ append_assoc before (v ∷ []) (linked_from sites own (k + 1) ws)

    by : (r : Option Relocation)
        → ((v : ℕ) → with_fixes sites own (fixes_from (k + 1) ws) (before ++ v ∷ map (λ w. word_of w.inst) ws) ≡ before ++ v ∷ linked_from sites own (k + 1) ws)
        → with_fixes sites own (fix_at k r ++ fixes_from (k + 1) ws) (before ++ word_of w.inst ∷ map (λ w. word_of w.inst) ws)
        ≡ before ++ relocated sites own k (word_of w.inst) r ∷ linked_from sites own (k + 1) ws
    by None later = later (word_of w.inst)
    by (Some r) later =
        ap (with_fixes sites own (fixes_from (k + 1) ws)) (one_fix sites own before k (word_of w.inst) (map (λ w. word_of w.inst) ws) r e)
        ∙ later (relocated sites own k (word_of w.inst) (Some r))

-- ---- words that stand in a text

abbrev pub IsKnownOf : Text → Sites → ℕ → ℕ → Option Relocation → Type 0
IsKnownOf t sites own k None = Unit {0}
IsKnownOf t sites own k (Some r) = IsKnown sites t own (record { word = k; kind = r.kind; symbol = r.symbol; addend = r.addend }) r.symbol

-- the word of a number stands at its address, and what its relocation is of is known
pub record WordHolds (t : Text) (sites : Sites) (own k : ℕ) (w : Word) : Type 0 where
  pub fetch : t.fetch (own + 4 * k) ≡ decoded (relocated sites own k (word_of w.inst) w.relocation)
  pub known : IsKnownOf t sites own k w.relocation

abbrev pub WordsHold : Text → Sites → ℕ → ℕ → List Word → Type 0
WordsHold t sites own k [] = Unit {0}
WordsHold t sites own k (w ∷ ws) = WordHolds t sites own k w × WordsHold t sites own (k + 1) ws

known_of : (t : Text) (sites : Sites) (own k : ℕ) (r : Option Relocation) → ((f : Fix) → Contains (fix_at k r) f → IsKnown sites t own f f.symbol) → IsKnownOf t sites own k r
known_of t sites own k None knows = tt
known_of t sites own k (Some r) knows = knows (record { word = k; kind = r.kind; symbol = r.symbol; addend = r.addend }) (0, omega arith, refl)

pub hold_from : (t : Text) (sites : Sites) (own k : ℕ) (ws : List Word)
    → ((i : ℕ) → i < length ws → t.fetch (own + 4 * (k + i)) ≡ decoded (get_or (linked_from sites own k ws) i 0))
    → ((f : Fix) → Contains (fixes_from k ws) f → IsKnown sites t own f f.symbol) → WordsHold t sites own k ws
hold_from t sites own k [] fetches knows = tt
hold_from t sites own k (w ∷ ws) fetches knows = (
  record {
    fetch = ap (λ (n : ℕ). t.fetch (own + 4 * n)) (omega arith) ∙ fetches 0 (omega arith);
    known = known_of t sites own k w.relocation (λ f h. knows f (Contains-append_left (fix_at k w.relocation) (fixes_from (k + 1) ws) f h));
  },
  hold_from t sites own (k + 1) ws
      (λ i lt. ap (λ (n : ℕ). t.fetch (own + 4 * n)) (omega arith) ∙ fetches (suc i) (omega arith))
      (λ f h. knows f (Contains-append_right (fix_at k w.relocation) (fixes_from (k + 1) ws) f h)),
)

-- words behind others
pub hold_split : (t : Text) (sites : Sites) (own k : ℕ) (xs ys : List Word) → WordsHold t sites own k (xs ++ ys) → WordsHold t sites own k xs × WordsHold t sites own (k + length xs) ys
hold_split t sites own k [] ys h = (tt, subst (λ (n : ℕ). WordsHold t sites own n ys) (omega arith) h)
hold_split t sites own k (x ∷ xs) ys h =
    let rest = hold_split t sites own (k + 1) xs ys h.1 in
    ((h.0, rest.0), subst (λ (n : ℕ). WordsHold t sites own n ys) (omega arith) rest.1)
