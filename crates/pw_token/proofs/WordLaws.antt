-- Words, keywords and marks at the beginning of a text.
use Rattle.std.proofs.Common.{◌≡◌, ℕ, suc, ◌<◌, ◌≤◌, ◌⊎◌, inl, inr, Bool, true, false, cond, ◌&&◌, ◌||◌, nat_lt, nat_eq, List, [], ◌∷◌, ◌++◌, length, take, drop, slice_index, eqb, refl, ap, arith, sym, ◌∙◌, subst, bytes_eq, codes, map, is_some, Some, if◌then◌else◌}
use Rattle.std.specs.List.{list_any, list_all, starts_with}
use Rattle.std.proofs.lemmas.Bool.{eqb-false, ltb-true, ltb-false}
use Rattle.std.proofs.lemmas.List.{take_at, take-append-drop}
use Rattle.std.proofs.lemmas.Slice.Eq.{bytes_eq-Decides}
use Rattle.pw_token.proofs.Runs.{Begins, run-front, run-in, run-reaches, either}
use Rattle.pw_token.proofs.ByteFacts.{and-split, or-split}
use Rattle.pw_token.specs.Bytes.{is_in, is_nondigit, AllIn}
use Rattle.pw_token.specs.Scanning.{run, word_len, longest_in}
use Rattle.pw_token.specs.Spelling.{IsWord}
use Rattle.pw_token.specs.Words.{is_keyword, is_mark, keywords, marks, starting_with, with_text}
use Rattle.pw_token.specs.declared.bytes.Class.TheVariants as class

-- ---- words

nondigit-word : (b : ℕ) → is_nondigit b ≡ true → is_in class.Word b ≡ true
nondigit-word b h = rw h refl

word-is : (b : ℕ) (t : List ℕ) → is_nondigit b ≡ true → word_len (b ∷ t) ≡ suc (run class.Word t)
word-is b t h = ap (λ x. cond x (run class.Word (b ∷ t)) 0) h ∙ run-in class.Word b t (nondigit-word b h)

word-not : (b : ℕ) (t : List ℕ) → is_nondigit b ≡ false → word_len (b ∷ t) ≡ 0
word-not b t h = ap (λ x. cond x (run class.Word (b ∷ t)) 0) h

word-nil : word_len [] ≡ 0
word-nil = refl

pub word-front : (t : List ℕ) → 0 < word_len t → Begins IsWord (word_len t) t
word-front [] l = absurd (omega (arith, word-nil))
word-front (b ∷ t) l =
    elim (either (is_nondigit b)) [
      | inr n ↦ absurd (omega (arith, word-not b t n))
      | inl h ↦
          let f = (run-front class.Word t).here in
          record { front = b ∷ f.front; rest = f.rest; split = ap (λ x. b ∷ x) f.split; len = ap suc f.len ∙ sym (word-is b t h); holds = (h, f.holds) }
    ]

pub word-reaches : (a r : List ℕ) → IsWord a → length a ≤ word_len (a ++ r)
word-reaches [] r h = absurd h
word-reaches (b ∷ a) r h = omega (arith, word-is b (a ++ r) h.0, run-reaches class.Word a r h.1)

-- ---- tables

pub any-all : (p : List ℕ → Bool) (s : List ℕ) (table : List (List ℕ)) → list_any (bytes_eq s) table ≡ true → list_all p table ≡ true → p s ≡ true
any-all p s [] h k = cc
any-all p s (m ∷ ms) h k =
    let both = and-split (p m) (list_all p ms) k in
    elim (or-split (bytes_eq s m) (list_any (bytes_eq s) ms) h) [
      | inl e ↦ subst (λ x. p x ≡ true) (sym ((bytes_eq-Decides s m).0 e)) both.0
      | inr e ↦ any-all p s ms e both.1
    ]

abbrev word_test : List ℕ → Bool
word_test [] = false
word_test (b ∷ s) = is_nondigit b && list_all (is_in class.Word) s

all-test : (s : List ℕ) → list_all (is_in class.Word) s ≡ true → AllIn class.Word s
all-test [] h = tt
all-test (b ∷ s) h = let both = and-split (is_in class.Word b) (list_all (is_in class.Word) s) h in (both.0, all-test s both.1)

test-word : (s : List ℕ) → word_test s ≡ true → IsWord s
test-word [] h = cc
test-word (b ∷ s) h = let both = and-split (is_nondigit b) (list_all (is_in class.Word) s) h in (both.0, all-test s both.1)

keywords-words : list_all word_test keywords ≡ true
keywords-words = refl

pub keyword-word : (s : List ℕ) → is_keyword s ≡ true → IsWord s
unfolding is_keyword
keyword-word s h = test-word s (any-all word_test s keywords h keywords-words)

-- one of a list has these bytes where the first with them is found
pub found_among : {A : Type 0} (text : A → List ℕ) (xs : List A) (s : List ℕ) → is_some (with_text text xs s) ≡ list_any (bytes_eq s) (map text xs)
found_among text [] s = refl
found_among text (x ∷ xs) s = by (bytes_eq s (text x)) (found_among text xs s)
  where
    by : (same : Bool) → is_some (with_text text xs s) ≡ list_any (bytes_eq s) (map text xs)
        → is_some (if same then Some x else with_text text xs s) ≡ (same || list_any (bytes_eq s) (map text xs))
    by true h = refl
    by false h = h

first-differs : (s m : List ℕ) → eqb (slice_index s 0) (slice_index m 0) ≡ false → bytes_eq s m ≡ false
first-differs s m n =
    elim (either (bytes_eq s m)) [
      | inl e ↦ absurd (eqb-false (slice_index s 0) (slice_index m 0) n (ap (λ x. slice_index x 0) ((bytes_eq-Decides s m).0 e)))
      | inr e ↦ e
    ]

-- what is found stands among those that begin with the same byte
pub found_starting : {A : Type 0} (text : A → List ℕ) (xs : List A) (s : List ℕ) → with_text text (starting_with text (slice_index s 0) xs) s ≡ with_text text xs s
found_starting text [] s = refl
found_starting text (x ∷ xs) s = by (found_starting text xs s)
  where
    by : with_text text (starting_with text (slice_index s 0) xs) s ≡ with_text text xs s
        → with_text text (starting_with text (slice_index s 0) (x ∷ xs)) s ≡ with_text text (x ∷ xs) s
    by more =
        let rest = starting_with text (slice_index s 0) xs in
        elim (either (eqb (slice_index s 0) (slice_index (text x) 0))) [
          | inl h ↦ ap (λ b. with_text text (cond b (x ∷ rest) rest) s) h ∙ ap (λ r. cond (bytes_eq s (text x)) (Some x) r) more
          | inr n ↦ ap (λ b. with_text text (cond b (x ∷ rest) rest) s) n ∙ more ∙ sym (ap (λ b. cond b (Some x) (with_text text xs s)) (first-differs s (text x) n))
        ]

-- ---- the longest of a table

pub longest_append : (best : ℕ) (xs ys : List (List ℕ)) (t : List ℕ) → longest_in best (xs ++ ys) t ≡ longest_in (longest_in best xs t) ys t
longest_append best [] ys t = refl
longest_append best (x ∷ xs) ys t = longest_append (cond (starts_with nat_eq t x && nat_lt best (length x)) (length x) best) xs ys t

begins-word : (t m : List ℕ) → starts_with nat_eq t m ≡ true → t ≡ m ++ drop (length m) t
begins-word t m h = sym (take-append-drop (length m) t) ∙ ap (λ x. x ++ drop (length m) t) (sym ((bytes_eq-Decides m (take (length m) t)).0 h))

word-begins : (t m r : List ℕ) → t ≡ m ++ r → starts_with nat_eq t m ≡ true
word-begins t m r e = (bytes_eq-Decides m (take (length m) t)).1 (sym (ap (take (length m)) e ∙ take_at m r (length m) refl))

abbrev better : ℕ → List ℕ → List ℕ → ℕ
better best m t = cond (starts_with nat_eq t m && nat_lt best (length m)) (length m) best

better-least : (best : ℕ) (m t : List ℕ) → best ≤ better best m t
better-least best m t =
    elim (either (starts_with nat_eq t m && nat_lt best (length m))) [
      | inl h ↦ rw h (omega (arith, ltb-true best (length m) (and-split (starts_with nat_eq t m) (nat_lt best (length m)) h).1))
      | inr n ↦ rw n (omega arith)
    ]

better-reaches : (best : ℕ) (m t : List ℕ) → starts_with nat_eq t m ≡ true → length m ≤ better best m t
better-reaches best m t h =
    elim (either (nat_lt best (length m))) [
      | inl l ↦ rw (h, l) (omega arith)
      | inr n ↦ rw (h, n) (omega (arith, ltb-false best (length m) n))
    ]

longest-least : (table : List (List ℕ)) (best : ℕ) (t : List ℕ) → best ≤ longest_in best table t
longest-least [] best t = omega arith
longest-least (m ∷ ms) best t = omega (arith, better-least best m t, longest-least ms (better best m t) t)

pub longest-reaches : (table : List (List ℕ)) (best : ℕ) (s t r : List ℕ) → list_any (bytes_eq s) table ≡ true → t ≡ s ++ r → length s ≤ longest_in best table t
longest-reaches [] best s t r h e = cc
longest-reaches (m ∷ ms) best s t r h e =
    elim (or-split (bytes_eq s m) (list_any (bytes_eq s) ms) h) [
      | inl k ↦
          let same = (bytes_eq-Decides s m).0 k in
          omega (arith, ap length same, better-reaches best m t (word-begins t m r (e ∙ ap (λ x. x ++ r) same)), longest-least ms (better best m t) t)
      | inr k ↦ longest-reaches ms (better best m t) s t r k e
    ]

pub first-of : (m r : List ℕ) → 0 < length m → slice_index (m ++ r) 0 ≡ slice_index m 0
first-of [] r l = absurd (omega arith)
first-of (b ∷ m) r l = refl

-- a word that begins with another byte is no better
no-better : (best : ℕ) (m t : List ℕ) → eqb (slice_index t 0) (slice_index m 0) ≡ false → better best m t ≡ best
no-better best m t n =
    elim (either (starts_with nat_eq t m && nat_lt best (length m))) [
      | inl h ↦
          let both = and-split (starts_with nat_eq t m) (nat_lt best (length m)) h in
          let some : 0 < length m = omega (arith, ltb-true best (length m) both.1) in
          absurd (eqb-false (slice_index t 0) (slice_index m 0) n (ap (λ x. slice_index x 0) (begins-word t m both.0) ∙ first-of m (drop (length m) t) some))
      | inr e ↦ rw e refl
    ]

-- the longest stands among those that begin with the same byte
pub longest_starting : {A : Type 0} (text : A → List ℕ) (xs : List A) (best : ℕ) (t : List ℕ) → longest_in best (map text (starting_with text (slice_index t 0) xs)) t ≡ longest_in best (map text xs) t
longest_starting text [] best t = refl
longest_starting text (x ∷ xs) best t = by (longest_starting text xs (better best (text x) t) t) (longest_starting text xs best t)
  where
    by : longest_in (better best (text x) t) (map text (starting_with text (slice_index t 0) xs)) t ≡ longest_in (better best (text x) t) (map text xs) t
        → longest_in best (map text (starting_with text (slice_index t 0) xs)) t ≡ longest_in best (map text xs) t
        → longest_in best (map text (starting_with text (slice_index t 0) (x ∷ xs))) t ≡ longest_in best (map text (x ∷ xs)) t
    by taken left =
        let rest = starting_with text (slice_index t 0) xs in
        elim (either (eqb (slice_index t 0) (slice_index (text x) 0))) [
          | inl h ↦ ap (λ b. longest_in best (map text (cond b (x ∷ rest) rest)) t) h ∙ taken
          | inr n ↦ ap (λ b. longest_in best (map text (cond b (x ∷ rest) rest)) t) n ∙ left ∙ sym (ap (λ b. longest_in b (map text xs) t) (no-better best (text x) t n))
        ]

-- no text but one that begins with `#` begins with a mark of directives
pub longest_hash : (best : ℕ) (t : List ℕ) → eqb (slice_index t 0) 35 ≡ false → longest_in best (codes "#" ∷ codes "##" ∷ []) t ≡ best
longest_hash best t n =
    ap (λ b. longest_in b (codes "##" ∷ []) t) (no-better best (codes "#") t n) ∙ no-better best (codes "##") t n

-- the best so far, or a word of the table
record Longest (best : ℕ) (table : List (List ℕ)) (t : List ℕ) : Type 0 where
  here : (longest_in best table t ≡ best) ⊎ Begins (λ s. list_any (bytes_eq s) table ≡ true) (longest_in best table t) t

longest-here : (table : List (List ℕ)) (best : ℕ) (t : List ℕ) → Longest best table t
longest-here [] best t = record { here = inl refl }
longest-here (m ∷ ms) best t =
    elim ((longest-here ms (better best m t) t).here) [
      | inr b ↦ record { here = inr (record { front = b.front; rest = b.rest; split = b.split; len = b.len; holds = later b.front b.holds }) }
      | inl e ↦ elim (either (starts_with nat_eq t m && nat_lt best (length m))) [
        | inl h ↦
            let both = and-split (starts_with nat_eq t m) (nat_lt best (length m)) h in
            let is : better best m t ≡ length m = rw h refl in
            record { here = inr (record { front = m; rest = drop (length m) t; split = begins-word t m both.0; len = sym (e ∙ is); holds = first m }) }
        | inr n ↦ let is : better best m t ≡ best = rw n refl in record { here = inl (e ∙ is) }
      ]
    ]
  where
    first : (s : List ℕ) → (bytes_eq s s || list_any (bytes_eq s) ms) ≡ true
    first s = rw ((bytes_eq-Decides s s).1 refl) refl

    later : (s : List ℕ) → list_any (bytes_eq s) ms ≡ true → (bytes_eq s m || list_any (bytes_eq s) ms) ≡ true
    later s h = elim (either (bytes_eq s m)) [ inl e ↦ rw e refl | inr e ↦ rw e h ]

pub mark-front : (t : List ℕ) → 0 < longest_in 0 marks t → Begins (λ s. is_mark s ≡ true) (longest_in 0 marks t) t
unfolding is_mark
mark-front t l = elim ((longest-here marks 0 t).here) [ inl e ↦ absurd (omega (arith, e)) | inr b ↦ record { front = b.front; rest = b.rest; split = b.split; len = b.len; holds = b.holds } ]

pub mark-reaches : (a r : List ℕ) → is_mark a ≡ true → length a ≤ longest_in 0 marks (a ++ r)
unfolding is_mark
mark-reaches a r h = longest-reaches marks 0 a (a ++ r) r h refl
