-- `literal_len` and `wide_len` are the lengths of the character constants and string literals at the beginning.
use Rattle.std.proofs.Common.{◌≡◌, ◌≢◌, ℕ, ◌+◌, ◌<◌, ◌⊎◌, inl, inr, true, false, ◌&&◌, ◌||◌, eqb, List, [], ◌∷◌, ◌++◌, length, slice_index, refl, ap, arith, sym, ◌∙◌, subst, append_assoc, length-append}
use Rattle.std.specs.List.{AllByRecursion, flat_map}
use Rattle.std.proofs.lemmas.Bool.{eqb-true, eqb-false, eq-eqb}
use Rattle.std.proofs.lemmas.Bool.Decides.{nat_tests}
use Rattle.pw_token.proofs.Closing.{closing-splice, closing-step, closing-open, closing-closed}
use Rattle.pw_token.proofs.Runs.{Begins, either}
use Rattle.pw_token.proofs.ByteFacts.{and-right, octal-hexadecimal}
use Rattle.pw_token.specs.Bytes.{is_in, AllIn, SomeIn, is_simple_escape}
use Rattle.pw_token.specs.Scanning.{closing, settle, next_mode, is_splice, is_closed, is_broken, literal_len, wide_len}
use Rattle.pw_token.specs.Spelling.{joined, IsCharacter, AreCharacters, IsQuoted, IsWide}
use Rattle.pw_token.specs.declared.bytes.Class.TheVariants.{OctalDigit, HexDigit}
use Rattle.pw_token.specs.declared.literals.Mode.{Mode}
use Rattle.pw_token.specs.declared.literals.Mode.TheVariants.{Plain, Escaped, Hexadecimal, Closed, Broken}

abbrev pub IsQuote : ℕ → Type 0
IsQuote q = (q ≡ 39) ⊎ (q ≡ 34)

-- the mode goes on
abbrev GoesOn : Mode → Type 0
GoesOn m = (is_closed m ≡ false) × (is_broken m ≡ false)

-- in this mode the bytes lead to the end of a character, and to no closing quote
abbrev Passes : ℕ → Mode → List ℕ → Type 0
Passes q m [] = m ≡ Plain
Passes q m (b ∷ s) = GoesOn (next_mode q m b) × Passes q (next_mode q m b) s

-- ---- characters

backslash-opens : (q : ℕ) → IsQuote q → next_mode q Plain 92 ≡ Escaped
backslash-opens q (inl e) = rw e refl
backslash-opens q (inr e) = rw e refl

plain-stays : (q b : ℕ) → b ≢ q → b ≢ 92 → b ≢ 10 → next_mode q Plain b ≡ Plain
plain-stays q b h k n =
    let x : eqb b q ≡ false = elim (either (eqb b q)) [ inl e ↦ absurd (h (eqb-true b q e)) | inr e ↦ e ] in
    let y : eqb b 92 ≡ false = elim (either (eqb b 92)) [ inl e ↦ absurd (k (eqb-true b 92 e)) | inr e ↦ e ] in
    let z : eqb b 10 ≡ false = elim (either (eqb b 10)) [ inl e ↦ absurd (n (eqb-true b 10 e)) | inr e ↦ e ] in
    rw (x, y, z) refl

-- one byte that leads to Plain
pass-plain : (q : ℕ) (m : Mode) (b : ℕ) (s : List ℕ) → next_mode q m b ≡ Plain → Passes q Plain s → Passes q m (b ∷ s)
pass-plain q m b s e h = ((rw e refl, rw e refl), rw e h)

pass-escaped : (q : ℕ) (m : Mode) (b : ℕ) (s : List ℕ) → next_mode q m b ≡ Escaped → Passes q Escaped s → Passes q m (b ∷ s)
pass-escaped q m b s e h = ((rw e refl, rw e refl), rw e h)

pass-hexadecimal : (q : ℕ) (m : Mode) (b : ℕ) (s : List ℕ) → next_mode q m b ≡ Hexadecimal → Passes q Hexadecimal s → Passes q m (b ∷ s)
pass-hexadecimal q m b s e h = ((rw e refl, rw e refl), rw e h)

hexadecimal-plain : (q b : ℕ) → IsQuote q → is_in HexDigit b ≡ true → next_mode q Plain b ≡ Plain
hexadecimal-plain q b (inl e) h = plain-stays q b (λ k. no b 39 h (k ∙ e) refl) (λ k. no b 92 h k refl) (λ k. no b 10 h k refl)
  where
    no : (b c : ℕ) → is_in HexDigit b ≡ true → b ≡ c → is_in HexDigit c ≡ false → ⊥
    no b c h e n = let k : is_in HexDigit c ≡ true = subst (λ x. is_in HexDigit x ≡ true) e h in cc
hexadecimal-plain q b (inr e) h = plain-stays q b (λ k. no b 34 h (k ∙ e) refl) (λ k. no b 92 h k refl) (λ k. no b 10 h k refl)
  where
    no : (b c : ℕ) → is_in HexDigit b ≡ true → b ≡ c → is_in HexDigit c ≡ false → ⊥
    no b c h e n = let k : is_in HexDigit c ≡ true = subst (λ x. is_in HexDigit x ≡ true) e h in cc

digits-pass : (q : ℕ) (ds s : List ℕ) → IsQuote q → AllIn HexDigit ds → Passes q Plain s → Passes q Plain (ds ++ s)
digits-pass q [] s k h p = p
digits-pass q (d ∷ ds) s k h p = pass-plain q Plain d (ds ++ s) (hexadecimal-plain q d k h.0) (digits-pass q ds s k h.1 p)

all-hexadecimal : (ds : List ℕ) → AllIn OctalDigit ds → AllIn HexDigit ds
all-hexadecimal [] h = tt
all-hexadecimal (d ∷ ds) h = (octal-hexadecimal d h.0, all-hexadecimal ds h.1)

escape-simple : (q b : ℕ) → is_simple_escape b ≡ true → next_mode q Escaped b ≡ Plain
escape-simple q b h = rw h refl

escape-octal : (q b : ℕ) → is_in OctalDigit b ≡ true → next_mode q Escaped b ≡ Plain
escape-octal q b h = elim (either (is_simple_escape b)) [ inl s ↦ rw s refl | inr n ↦ rw (n, h) refl ]

escape-hexadecimal : (q b : ℕ) → is_in HexDigit b ≡ true → next_mode q Hexadecimal b ≡ Plain
escape-hexadecimal q b h = rw h refl

character-passes : (q : ℕ) (c s : List ℕ) → IsQuote q → IsCharacter q c → Passes q Plain s → Passes q Plain (c ++ s)
character-passes q c s k (inl h) p =
    subst (λ x. Passes q Plain (x ++ s)) (sym h.1) (pass-plain q Plain h.0 s (plain-stays q h.0 h.2 h.3 h.4) p)
character-passes q c s k (inr (inl h)) p =
    subst (λ x. Passes q Plain (x ++ s)) (sym h.1) (pass-escaped q Plain 92 (h.0 ∷ s) (backslash-opens q k) (pass-plain q Escaped h.0 s (escape-simple q h.0 h.2) p))
character-passes q c s k (inr (inr (inl h))) p =
    subst (λ x. Passes q Plain (x ++ s)) (sym h.1) (pass-escaped q Plain 92 (h.0 ++ s) (backslash-opens q k) (digits q h.0 s k h.2 p))
  where
    digits : (q : ℕ) (ds s : List ℕ) → IsQuote q → SomeIn OctalDigit ds → Passes q Plain s → Passes q Escaped (ds ++ s)
    digits q [] s k h p = absurd h
    digits q (d ∷ ds) s k h p = pass-plain q Escaped d (ds ++ s) (escape-octal q d h.0) (digits-pass q ds s k (all-hexadecimal ds h.1) p)
character-passes q c s k (inr (inr (inr h))) p =
    subst (λ x. Passes q Plain (x ++ s)) (sym h.1) (pass-escaped q Plain 92 (120 ∷ h.0 ++ s) (backslash-opens q k) (pass-hexadecimal q Escaped 120 (h.0 ++ s) refl (digits q h.0 s k h.2 p)))
  where
    digits : (q : ℕ) (ds s : List ℕ) → IsQuote q → SomeIn HexDigit ds → Passes q Plain s → Passes q Hexadecimal (ds ++ s)
    digits q [] s k h p = absurd h
    digits q (d ∷ ds) s k h p = pass-plain q Hexadecimal d (ds ++ s) (escape-hexadecimal q d h.0) (digits-pass q ds s k h.1 p)

all-pass : (q : ℕ) (cs : List (List ℕ)) → IsQuote q → AllByRecursion (IsCharacter q) cs → Passes q Plain (flat_map (λ c. c) cs)
all-pass q [] k h = refl
all-pass q (c ∷ cs) k h = character-passes q c (flat_map (λ c. c) cs) k h.0 (all-pass q cs k h.1)

characters-pass : (q : ℕ) (s : List ℕ) → IsQuote q → AreCharacters q s → Passes q Plain s
characters-pass q s k h = subst (Passes q Plain) (sym h.1) (all-pass q h.0 k h.2)

-- what was read of a character
abbrev pending : Mode → List ℕ
pending Plain = []
pending Escaped = 92 ∷ []
pending Hexadecimal = 92 ∷ 120 ∷ []
pending Closed = []
pending Broken = []

add-character : (q : ℕ) (c s : List ℕ) → IsCharacter q c → AreCharacters q s → AreCharacters q (c ++ s)
add-character q c s h k = (c ∷ k.0, ap (λ x. c ++ x) k.1, (h, k.2))

pass-characters : (q : ℕ) (m : Mode) (s : List ℕ) → GoesOn m → Passes q m s → AreCharacters q (pending m ++ s)
pass-characters q Plain [] g p = ([], refl, tt)
pass-characters q Escaped [] g p = cc
pass-characters q Hexadecimal [] g p = cc
pass-characters q Closed s g p = cc
pass-characters q Broken s g p = cc
pass-characters q Plain (b ∷ s) g p =
    elim (either (eqb b q)) [
      | inl e ↦ let n : is_closed (next_mode q Plain b) ≡ true = rw e refl in cc
      | inr n ↦ elim (either (eqb b 92)) [
        | inl e ↦
            let m : next_mode q Plain b ≡ Escaped = rw (n, e) refl in
            subst (λ x. AreCharacters q (x ∷ s)) (sym (eqb-true b 92 e)) (pass-characters q Escaped s (refl, refl) (subst (λ x. Passes q x s) m p.1))
        | inr k ↦ elim (either (eqb b 10)) [
          | inl e ↦ let z : is_broken (next_mode q Plain b) ≡ true = rw (n, k, e) refl in cc
          | inr l ↦
              let m : next_mode q Plain b ≡ Plain = rw (n, k, l) refl in
              add-character q (b ∷ []) s (inl (b, refl, eqb-false b q n, eqb-false b 92 k, eqb-false b 10 l)) (pass-characters q Plain s (refl, refl) (subst (λ x. Passes q x s) m p.1))
        ]
      ]
    ]
pass-characters q Escaped (b ∷ s) g p =
    elim (either (is_simple_escape b)) [
      | inl e ↦
          let m : next_mode q Escaped b ≡ Plain = rw e refl in
          add-character q (92 ∷ b ∷ []) s (inr (inl (b, refl, e))) (pass-characters q Plain s (refl, refl) (subst (λ x. Passes q x s) m p.1))
      | inr n ↦ elim (either (is_in OctalDigit b)) [
        | inl e ↦
            let m : next_mode q Escaped b ≡ Plain = rw (n, e) refl in
            add-character q (92 ∷ b ∷ []) s (inr (inr (inl (b ∷ [], refl, (e, tt), omega arith)))) (pass-characters q Plain s (refl, refl) (subst (λ x. Passes q x s) m p.1))
        | inr k ↦ elim (either (eqb b 120)) [
          | inl e ↦
              let m : next_mode q Escaped b ≡ Hexadecimal = rw (n, k, e) refl in
              subst (λ x. AreCharacters q (92 ∷ x ∷ s)) (sym (eqb-true b 120 e)) (pass-characters q Hexadecimal s (refl, refl) (subst (λ x. Passes q x s) m p.1))
          | inr l ↦ let z : is_broken (next_mode q Escaped b) ≡ true = rw (n, k, l) refl in cc
        ]
      ]
    ]
pass-characters q Hexadecimal (b ∷ s) g p =
    elim (either (is_in HexDigit b)) [
      | inl e ↦
          let m : next_mode q Hexadecimal b ≡ Plain = rw e refl in
          add-character q (92 ∷ 120 ∷ b ∷ []) s (inr (inr (inr (b ∷ [], refl, (e, tt))))) (pass-characters q Plain s (refl, refl) (subst (λ x. Passes q x s) m p.1))
      | inr n ↦ let z : is_broken (next_mode q Hexadecimal b) ≡ true = rw n refl in cc
    ]

-- ---- bodies

-- t has a body that passes and its closing quote, n bytes before it and k bytes through it
record Quotes (q : ℕ) (m : Mode) (n : ℕ) (t : List ℕ) (k : ℕ) : Type 0 where
  body : List ℕ
  rest : List ℕ
  split : t ≡ body ++ q ∷ rest
  len : k ≡ n + length body + 1
  passes : Passes q m (joined body)

quote-no_splice : (q c : ℕ) (t : List ℕ) → IsQuote q → is_splice (q ∷ t) ≡ false
quote-no_splice q c t (inl e) = rw e refl
quote-no_splice q c t (inr e) = rw e refl

before-quote : (b q : ℕ) (t : List ℕ) → IsQuote q → is_splice (b ∷ q ∷ t) ≡ false
before-quote b q t (inl e) = and-right (eqb b 92) (eqb q 10) (rw e refl)
before-quote b q t (inr e) = and-right (eqb b 92) (eqb q 10) (rw e refl)

quote-closes : (q : ℕ) → next_mode q Plain q ≡ Closed
quote-closes q = rw (eq-eqb q q refl) refl

joined-splice : (b c : ℕ) (s : List ℕ) → (eqb b 92 && eqb c 10) ≡ true → joined (b ∷ c ∷ s) ≡ joined s
joined-splice b c s h = rw h refl

joined-step : (b c : ℕ) (s : List ℕ) → (eqb b 92 && eqb c 10) ≡ false → joined (b ∷ c ∷ s) ≡ b ∷ joined (c ∷ s)
joined-step b c s h = rw h refl

body-closes : (q : ℕ) (m : Mode) (n : ℕ) (body r : List ℕ) → IsQuote q → Passes q m (joined body) → closing q m n (body ++ q ∷ r) ≡ n + length body + 1
body-closes q m n [] r k p =
    let c : is_closed (next_mode q m q) ≡ true = subst (λ x. is_closed (next_mode q x q) ≡ true) (sym p) (rw (quote-closes q) refl) in
    omega (arith, closing-closed q m n (q ∷ r) (quote-no_splice q q r k) (omega arith) c)
body-closes q m n (b ∷ []) r k p =
    let step = closing-open q m n (b ∷ q ∷ r) (next_mode q m b) (q ∷ r) (before-quote b q r k) (omega arith) refl refl p.0.0 p.0.1 in
    omega (arith, step, body-closes q (next_mode q m b) (n + 1) [] r k p.1)
body-closes q m n (b ∷ c ∷ s) r k p =
    elim (either (eqb b 92 && eqb c 10)) [
      | inl h ↦
          let step = closing-splice q m n (b ∷ c ∷ s ++ q ∷ r) h in
          omega (arith, step, body-closes q m (n + 2) s r k (subst (Passes q m) (joined-splice b c s h) p))
      | inr h ↦
          let p' : Passes q m (b ∷ joined (c ∷ s)) = subst (Passes q m) (joined-step b c s h) p in
          let step = closing-open q m n (b ∷ c ∷ s ++ q ∷ r) (next_mode q m b) (c ∷ s ++ q ∷ r) h (omega arith) refl refl p'.0.0 p'.0.1 in
          omega (arith, step, body-closes q (next_mode q m b) (n + 1) (c ∷ s) r k p'.1)
    ]

-- only the quote closes
closes-plain : (q : ℕ) (m : Mode) (b : ℕ) → GoesOn m → is_closed (next_mode q m b) ≡ true → (m ≡ Plain) × (b ≡ q)
closes-plain q Plain b g h =
    elim (either (eqb b q)) [
      | inl e ↦ (refl, eqb-true b q e)
      | inr n ↦ elim (either (eqb b 92)) [
        | inl e ↦ let z : is_closed (next_mode q Plain b) ≡ false = rw (n, e) refl in cc
        | inr k ↦ elim (either (eqb b 10)) [
          | inl e ↦ let z : is_closed (next_mode q Plain b) ≡ false = rw (n, k, e) refl in cc
          | inr l ↦ let z : is_closed (next_mode q Plain b) ≡ false = rw (n, k, l) refl in cc
        ]
      ]
    ]
closes-plain q Escaped b g h =
    elim (either (is_simple_escape b || is_in OctalDigit b)) [
      | inl e ↦ let z : is_closed (next_mode q Escaped b) ≡ false = rw e refl in cc
      | inr n ↦ elim (either (eqb b 120)) [
        | inl e ↦ let z : is_closed (next_mode q Escaped b) ≡ false = rw (n, e) refl in cc
        | inr k ↦ let z : is_closed (next_mode q Escaped b) ≡ false = rw (n, k) refl in cc
      ]
    ]
closes-plain q Hexadecimal b g h =
    elim (either (is_in HexDigit b)) [
      | inl e ↦ let z : is_closed (next_mode q Hexadecimal b) ≡ false = rw e refl in cc
      | inr n ↦ let z : is_closed (next_mode q Hexadecimal b) ≡ false = rw n refl in cc
    ]
closes-plain q Closed b g h = cc
closes-plain q Broken b g h = cc

-- a byte that goes on, before a text that is quoted
add-byte : (q : ℕ) (m : Mode) (n b : ℕ) (t : List ℕ) (k : ℕ) → IsQuote q → is_splice (b ∷ t) ≡ false → GoesOn (next_mode q m b)
    → Quotes q (next_mode q m b) (n + 1) t k → Quotes q m n (b ∷ t) k
add-byte q m n b t k w h g c = record {
  body = b ∷ c.body;
  rest = c.rest;
  split = ap (λ x. b ∷ x) c.split;
  len = omega (arith, c.len);
  passes = subst (Passes q m) (sym (step c.body c.split)) (g, c.passes);
}
  where
    step : (body : List ℕ) → t ≡ body ++ q ∷ c.rest → joined (b ∷ body) ≡ b ∷ joined body
    step [] e = refl
    step (x ∷ s) e = joined-step b x s (subst (λ y. (eqb b 92 && eqb y 10) ≡ false) (ap (λ u. slice_index u 0) e) h)

found-quote : (q : ℕ) (m : Mode) (n b : ℕ) (t : List ℕ) → GoesOn m → is_closed (next_mode q m b) ≡ true → Quotes q m n (b ∷ t) (n + 1)
found-quote q m n b t g h =
    let f = closes-plain q m b g h in
    record { body = []; rest = t; split = ap (λ x. x ∷ t) f.1; len = omega arith; passes = f.0 }

settle-closed : (m : Mode) (n later : ℕ) → is_closed m ≡ true → settle m n later ≡ n
settle-closed m n later h = rw h refl

settle-broken : (m : Mode) (n later : ℕ) → is_closed m ≡ false → is_broken m ≡ true → settle m n later ≡ 0
settle-broken m n later h k = rw (h, k) refl

settle-open : (m : Mode) (n later : ℕ) → is_closed m ≡ false → is_broken m ≡ false → settle m n later ≡ later
settle-open m n later h k = rw (h, k) refl

closing-quotes : (q : ℕ) (m : Mode) (n : ℕ) (t : List ℕ) → IsQuote q → GoesOn m → 0 < closing q m n t → Quotes q m n t (closing q m n t)
closing-quotes q m n [] w g l = absurd (omega arith)
closing-quotes q m n (b ∷ []) w g l =
    elim (either (is_closed (next_mode q m b))) [
      | inl h ↦ subst (Quotes q m n (b ∷ [])) (sym (settle-closed (next_mode q m b) (n + 1) 0 h)) (found-quote q m n b [] g h)
      | inr h ↦ absurd (none h)
    ]
  where
    none : is_closed (next_mode q m b) ≡ false → ⊥
    none h = elim (either (is_broken (next_mode q m b))) [
      | inl k ↦ omega (arith, settle-broken (next_mode q m b) (n + 1) 0 h k)
      | inr k ↦ omega (arith, settle-open (next_mode q m b) (n + 1) 0 h k)
    ]
closing-quotes q m n (b ∷ c ∷ t) w g l =
    elim (either (is_splice (b ∷ c ∷ t))) [
      | inl s ↦
          let e = closing-splice q m n (b ∷ c ∷ t) s in
          let f = closing-quotes q m (n + 2) t w g (omega (arith, e)) in
          record {
            body = b ∷ c ∷ f.body;
            rest = f.rest;
            split = ap (λ x. b ∷ c ∷ x) f.split;
            len = omega (arith, f.len, e);
            passes = subst (Passes q m) (sym (joined-splice b c f.body s)) f.passes;
          }
      | inr s ↦
          let e = closing-step q m n (b ∷ c ∷ t) s (omega arith) in
          let later = closing q (next_mode q m b) (n + 1) (c ∷ t) in
          elim (either (is_closed (next_mode q m b))) [
            | inl h ↦ subst (Quotes q m n (b ∷ c ∷ t)) (sym (e ∙ settle-closed (next_mode q m b) (n + 1) later h)) (found-quote q m n b (c ∷ t) g h)
            | inr h ↦ elim (either (is_broken (next_mode q m b))) [
              | inl k ↦ absurd (omega (arith, e, settle-broken (next_mode q m b) (n + 1) later h k))
              | inr k ↦
                  let same = e ∙ settle-open (next_mode q m b) (n + 1) later h k in
                  subst (Quotes q m n (b ∷ c ∷ t)) (sym same)
                  (add-byte q m n b (c ∷ t) later w s (h, k) (closing-quotes q (next_mode q m b) (n + 1) (c ∷ t) w (h, k) (omega (arith, same))))
            ]
          ]
    ]

-- ---- constants

literal-is : (q b : ℕ) (t : List ℕ) → b ≡ q → literal_len q (b ∷ t) ≡ closing q Plain 1 t
unfolding literal_len
literal-is q b t e = rw (eq-eqb b q e) refl

literal-not : (q b : ℕ) (t : List ℕ) → eqb b q ≡ false → literal_len q (b ∷ t) ≡ 0
unfolding literal_len
literal-not q b t n = rw n refl

literal-nil : (q : ℕ) → IsQuote q → literal_len q [] ≡ 0
unfolding literal_len
literal-nil q (inl e) = rw e refl
literal-nil q (inr e) = rw e refl

pub literal-front : (q : ℕ) (t : List ℕ) → IsQuote q → 0 < literal_len q t → Begins (IsQuoted q) (literal_len q t) t
literal-front q [] w l = absurd (omega (arith, literal-nil q w))
literal-front q (b ∷ t) w l =
    elim (either (eqb b q)) [
      | inr n ↦ absurd (omega (arith, literal-not q b t n))
      | inl h ↦
          let e = eqb-true b q h in
          let is = literal-is q b t e in
          let c = closing-quotes q Plain 1 t w (refl, refl) (omega (arith, is)) in
          record {
            front = q ∷ c.body ++ q ∷ [];
            rest = c.rest;
            split = ap (λ x. x ∷ t) e ∙ ap (λ x. q ∷ x) (c.split ∙ sym (append_assoc c.body (q ∷ []) c.rest));
            len = omega (arith, is, c.len, length-append c.body (q ∷ []));
            holds = (c.body, refl, pass-characters q Plain (joined c.body) (refl, refl) c.passes);
          }
    ]

pub literal-reaches : (q : ℕ) (a r : List ℕ) → IsQuote q → IsQuoted q a → literal_len q (a ++ r) ≡ length a
literal-reaches q a r w h =
    let e : a ++ r ≡ q ∷ (h.0 ++ q ∷ r) = ap (λ x. x ++ r) h.1 ∙ ap (λ x. q ∷ x) (append_assoc h.0 (q ∷ []) r) in
    omega (
      arith,
      ap (literal_len q) e,
      literal-is q q (h.0 ++ q ∷ r) refl,
      body-closes q Plain 1 h.0 r w (characters-pass q (joined h.0) w h.2),
      ap length h.1,
      length-append h.0 (q ∷ []),
    )

literal-other : (q p : ℕ) (a r : List ℕ) → IsQuoted p a → eqb p q ≡ false → literal_len q (a ++ r) ≡ 0
literal-other q p a r h n =
    let e : a ++ r ≡ p ∷ (h.0 ++ p ∷ r) = ap (λ x. x ++ r) h.1 ∙ ap (λ x. p ∷ x) (append_assoc h.0 (p ∷ []) r) in
    ap (literal_len q) e ∙ literal-not q p (h.0 ++ p ∷ r) n

quoted-long : (q : ℕ) (a : List ℕ) → IsQuoted q a → 0 < length a
quoted-long q a h = omega (arith, ap length h.1)

wide-string : (t : List ℕ) → 0 < literal_len 34 t → wide_len (76 ∷ t) ≡ literal_len 34 t + 1
unfolding wide_len
wide-string t l = let z : eqb (literal_len 34 t) 0 ≡ false = grind (arith, nat_tests) in rw (z, z) refl

wide-character : (t : List ℕ) → literal_len 34 t ≡ 0 → 0 < literal_len 39 t → wide_len (76 ∷ t) ≡ literal_len 39 t + 1
unfolding wide_len
wide-character t e l = let z : eqb (literal_len 39 t) 0 ≡ false = grind (arith, nat_tests) in rw (e, z) refl

wide-none : (t : List ℕ) → literal_len 34 t ≡ 0 → literal_len 39 t ≡ 0 → wide_len (76 ∷ t) ≡ 0
unfolding wide_len
wide-none t e k = rw (e, k) refl

wide-not : (b : ℕ) (t : List ℕ) → eqb b 76 ≡ false → wide_len (b ∷ t) ≡ 0
unfolding wide_len
wide-not b t n = rw n refl

wide-nil : wide_len [] ≡ 0
unfolding wide_len
wide-nil = refl

wide-after : (t : List ℕ) → 0 < wide_len (76 ∷ t) → Begins IsWide (wide_len (76 ∷ t)) (76 ∷ t)
wide-after t l =
    elim (either (eqb (literal_len 34 t) 0)) [
      | inr n ↦
          let some : 0 < literal_len 34 t = omega (arith, eqb-false _ 0 n) in
          let f = literal-front 34 t (inr refl) some in
          record { front = 76 ∷ f.front; rest = f.rest; split = ap (λ x. 76 ∷ x) f.split; len = omega (arith, f.len, wide-string t some); holds = (f.front, refl, inr f.holds) }
      | inl z ↦ elim (either (eqb (literal_len 39 t) 0)) [
        | inl k ↦ absurd (omega (arith, wide-none t (eqb-true _ 0 z) (eqb-true _ 0 k)))
        | inr n ↦
            let some : 0 < literal_len 39 t = omega (arith, eqb-false _ 0 n) in
            let f = literal-front 39 t (inl refl) some in
            record { front = 76 ∷ f.front; rest = f.rest; split = ap (λ x. 76 ∷ x) f.split; len = omega (arith, f.len, wide-character t (eqb-true _ 0 z) some); holds = (f.front, refl, inl f.holds) }
      ]
    ]

pub wide-front : (t : List ℕ) → 0 < wide_len t → Begins IsWide (wide_len t) t
wide-front [] l = absurd (omega (arith, wide-nil))
wide-front (b ∷ t) l =
    elim (either (eqb b 76)) [
      | inr n ↦ absurd (omega (arith, wide-not b t n))
      | inl e ↦
          let k = eqb-true b 76 e in
          subst (λ x. Begins IsWide (wide_len (x ∷ t)) (x ∷ t)) (sym k) (wide-after t (omega (arith, ap (λ x. wide_len (x ∷ t)) k)))
    ]

pub wide-reaches : (a r : List ℕ) → IsWide a → wide_len (a ++ r) ≡ length a
wide-reaches a r (literal, e, inl h) =
    let l = literal-reaches 39 literal r (inl refl) h in
    omega (arith, ap (λ x. wide_len (x ++ r)) e, ap length e, l, wide-character (literal ++ r) (literal-other 34 39 literal r h refl) (omega (arith, l, quoted-long 39 literal h)))
wide-reaches a r (literal, e, inr h) =
    let l = literal-reaches 34 literal r (inr refl) h in
    omega (arith, ap (λ x. wide_len (x ++ r)) e, ap length e, l, wide-string (literal ++ r) (omega (arith, l, quoted-long 34 literal h)))
