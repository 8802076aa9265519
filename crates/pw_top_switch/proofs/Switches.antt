-- The switch among the words of a command line.
use Rattle.std.proofs.Common.{◌≡◌, ℕ, zero, suc, ◌+◌, ◌<◌, ◌≤◌, Bool, true, false, ◌&&◌, not, List, [], ◌∷◌, ◌++◌, length, map, take, drop, get_or, Option, Some, None, refl, sym, ap, ◌∙◌, subst, append_assoc, arith}
use Rattle.std.specs.Prelude.{option_map, codes, is_some, if◌then◌else◌, String}
use Rattle.std.specs.String.{string_bytes}
use Rattle.std.proofs.lemmas.List.{length-map, map-append, take_more, take-map, drop_more, drop-map, get_or-map}
use Rattle.std.specs.Str.{bytes_eq}
use Rattle.pw_top_switch.specs.Switch.{Text, has_value, is_named, switch, switch_from, without_place}

-- a place among words of which so many were passed
abbrev pub passed : ℕ → Option ℕ → Option ℕ
passed n o = option_map (λ k. n + k) o

pub passed_one : (o : Option ℕ) → option_map suc o ≡ passed 1 o
passed_one None = refl
passed_one (Some k) = ap (λ (n : ℕ). Some n) (one_more k)
  where
    one_more : (k : ℕ) → suc k ≡ 1 + k
    one_more k = omega arith

passed_next : (n : ℕ) (o : Option ℕ) → passed n (option_map suc o) ≡ passed (n + 1) o
passed_next n None = refl
passed_next n (Some k) = ap (λ (m : ℕ). Some m) (next n k)
  where
    next : (n k : ℕ) → n + suc k ≡ n + 1 + k
    next n k = omega arith

-- a test of a word by what is shown of it
pub told_by : (test : Text → Bool) (word shown : Text) (result answer : Bool) → shown ≡ word → result ≡ test shown → result ≡ answer → test word ≡ answer
told_by test word shown result answer same is told = ap test (sym same) ∙ sym is ∙ told

-- ---- the words that are left

pub next_word : {Z : Type 0} (words : List (String Z)) (at : ℕ) (word : String Z) → at < length words → word ≡ get_or words at word → drop at (map string_bytes words) ≡ string_bytes word ∷ drop (at + 1) (map string_bytes words)
next_word words at word lt is =
    let size : length (map string_bytes words) ≡ length words = length-map words string_bytes in
    drop_more (map string_bytes words) at (string_bytes word) (omega (arith, lt, size))
    ∙ ap (λ (w : Text). w ∷ drop (at + 1) (map string_bytes words)) (get_or-map string_bytes words at word (string_bytes word) lt ∙ ap (λ (w : String _). string_bytes w) (sym is))

-- ---- what was not found so far

abbrev pub SoFar : List Text → ℕ → Bool → Type 0
SoFar words at waits = option_map suc (switch_from false (drop 1 words)) ≡ passed at (switch_from waits (drop at words))

-- the value of an option is none
value_passed : (words : List Text) (at : ℕ) (word : Text) → SoFar words at true → drop at words ≡ word ∷ drop (at + 1) words → SoFar words (at + 1) false
value_passed words at word so next =
    so ∙ ap (λ (ws : List Text). passed at (switch_from true ws)) next ∙ passed_next at (switch_from false (drop (at + 1) words))

abbrev turn : Text → Bool → Bool → List Text → Option ℕ
turn word ends is words = if ends then None else if is then Some 0 else option_map suc (switch_from (is_named word && not (has_value word)) words)

-- whether the word behind a word is an option's value
abbrev pub next_is_value : Bool → Text → Bool
next_is_value value word = not value && (is_named word && not (has_value word))

other_passed : (words : List Text) (at : ℕ) (word : Text) (waits : Bool) → SoFar words at false → drop at words ≡ word ∷ drop (at + 1) words → bytes_eq word (codes "--") ≡ false → bytes_eq word switch ≡ false → waits ≡ (is_named word && not (has_value word))
    → SoFar words (at + 1) waits
other_passed words at word waits so next ends is e =
    let rest = drop (at + 1) words in
    so ∙ ap (λ (ws : List Text). passed at (switch_from false ws)) next
    ∙ ap (λ (b : Bool). passed at (turn word b (bytes_eq word switch) rest)) ends
    ∙ ap (λ (b : Bool). passed at (turn word false b rest)) is
    ∙ passed_next at (switch_from (is_named word && not (has_value word)) rest)
    ∙ ap (λ (b : Bool). passed (at + 1) (switch_from b rest)) (sym e)

pub word_passed : (words : List Text) (at : ℕ) (word : Text) (value waits : Bool) → SoFar words at value → drop at words ≡ word ∷ drop (at + 1) words → (not value && bytes_eq word (codes "--")) ≡ false → (not value && bytes_eq word switch) ≡ false → waits ≡ next_is_value value word
    → SoFar words (at + 1) waits
word_passed words at word true waits so next ends is e = subst (λ (b : Bool). SoFar words (at + 1) b) (sym e) (value_passed words at word so next)
word_passed words at word false waits so next ends is e = other_passed words at word waits so next ends is e

not_both : false ≡ true → ⊥
not_both e = cc

pub ends_here : (words : List Text) (at : ℕ) (word : Text) (value : Bool) → SoFar words at value → drop at words ≡ word ∷ drop (at + 1) words → (not value && bytes_eq word (codes "--")) ≡ true → None ≡ option_map suc (switch_from false (drop 1 words))
ends_here words at word true so next ends = absurd (not_both ends)
ends_here words at word false so next ends =
    sym (so ∙ ap (λ (ws : List Text). passed at (switch_from false ws)) next ∙ ap (λ (b : Bool). passed at (turn word b (bytes_eq word switch) (drop (at + 1) words))) ends)

pub stands_here : (words : List Text) (at : ℕ) (word : Text) (value : Bool) → SoFar words at value → drop at words ≡ word ∷ drop (at + 1) words → (not value && bytes_eq word (codes "--")) ≡ false → (not value && bytes_eq word switch) ≡ true
    → Some at ≡ option_map suc (switch_from false (drop 1 words))
stands_here words at word true so next ends is = absurd (not_both is)
stands_here words at word false so next ends is =
    let rest = drop (at + 1) words in
    sym (
    so ∙ ap (λ (ws : List Text). passed at (switch_from false ws)) next
    ∙ ap (λ (b : Bool). passed at (turn word b (bytes_eq word switch) rest)) ends
    ∙ ap (λ (b : Bool). passed at (turn word false b rest)) is
    ∙ ap (λ (n : ℕ). Some n) (nothing_more at)
    )
  where
    nothing_more : (n : ℕ) → n + 0 ≡ n
    nothing_more n = omega arith

nothing_left : (words : List Text) (at : ℕ) → length words ≤ at → drop at words ≡ []
nothing_left [] zero le = refl
nothing_left [] (suc at) le = refl
nothing_left (w ∷ words) zero le = absurd (omega (arith, le))
nothing_left (w ∷ words) (suc at) le = nothing_left words at (omega (arith, le))

pub none_left : (words : List Text) (at : ℕ) (waits : Bool) → length words ≤ at → SoFar words at waits → None ≡ option_map suc (switch_from false (drop 1 words))
none_left words at waits le so = sym (so ∙ ap (λ (ws : List Text). passed at (switch_from waits ws)) (nothing_left words at le) ∙ none_there waits)
  where
    none_there : (b : Bool) → passed at (switch_from b []) ≡ None
    none_there true = refl
    none_there false = refl

pub starts_so : (words : List Text) → SoFar words 1 false
starts_so words = passed_one (switch_from false (drop 1 words))

-- ---- the other words

pub copy_pushed : {Z : Type 0} (old new : List (String Z)) (copy : String Z) (word : Text) → new ≡ old ++ copy ∷ [] → string_bytes copy ≡ word → map string_bytes new ≡ map string_bytes old ++ word ∷ []
copy_pushed old new copy word e same =
    ap (λ (ws : List (String _)). map string_bytes ws) e ∙ map-append string_bytes old (copy ∷ []) ∙ ap (λ (w : Text). map string_bytes old ++ w ∷ []) same

pub one_pushed : {Z : Type 0} (words : List (String Z)) (at : ℕ) (word : String Z) (front old new : List Text) → at < length words → word ≡ get_or words at word → old ≡ front ++ map string_bytes (take at words) → new ≡ old ++ string_bytes word ∷ []
    → new ≡ front ++ map string_bytes (take (at + 1) words)
one_pushed words at word front old new lt is before e =
    e ∙ ap (λ (ws : List Text). ws ++ string_bytes word ∷ []) before
    ∙ append_assoc front (map string_bytes (take at words)) (string_bytes word ∷ [])
    ∙ ap (λ (ws : List Text). front ++ ws) (sym (map-append string_bytes (take at words) (word ∷ [])))
    ∙ ap (λ (ws : List (String _)). front ++ map string_bytes ws) (sym (take_more words at word lt ∙ ap (λ (w : String _). take at words ++ w ∷ []) (sym is)))

pub but_one : {Z : Type 0} (words first second before behind : List (String Z)) (at : ℕ) → before ≡ take at words → behind ≡ drop (at + 1) words → map string_bytes first ≡ map string_bytes before → map string_bytes second ≡ map string_bytes first ++ map string_bytes behind
    → map string_bytes second ≡ without_place (Some at) (map string_bytes words)
but_one words first second before behind at b d f s =
    let all = map string_bytes words in
    s ∙ ap (λ (ws : List Text). ws ++ map string_bytes behind) (f ∙ ap (λ (ws : List (String _)). map string_bytes ws) b ∙ sym (take-map string_bytes at words))
    ∙ ap (λ (ws : List Text). take at all ++ ws) (ap (λ (ws : List (String _)). map string_bytes ws) d ∙ sym (drop-map string_bytes (at + 1) words))
    ∙ ap (λ (n : ℕ). take at all ++ drop n all) (next_place at)
  where
    next_place : (n : ℕ) → n + 1 ≡ suc n
    next_place n = omega arith

pub behind_name : (o : Option ℕ) (words : List Text) → drop 1 (without_place (option_map suc o) words) ≡ without_place o (drop 1 words)
behind_name None words = refl
behind_name (Some zero) [] = refl
behind_name (Some (suc n)) [] = refl
behind_name (Some n) (w ∷ words) = refl

pub is_there : (o : Option ℕ) → is_some (option_map suc o) ≡ is_some o
is_there None = refl
is_there (Some n) = refl
