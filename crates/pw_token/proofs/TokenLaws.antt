-- `longest_at` is the token at the beginning of a text.
use Rattle.std.proofs.Common.{◌≡◌, ℕ, ◌<◌, ◌≤◌, inl, inr, cond, nat_lt, List, ◌++◌, length, refl, ap, arith, sym, ◌∙◌, subst, append_assoc, length-append}
use Rattle.std.proofs.lemmas.Bool.{ltb-true, ltb-false}
use Rattle.std.proofs.lemmas.List.{append-nil, nil_from_length}
use Rattle.pw_token.proofs.Floats.{floating-front, floating-reaches}
use Rattle.pw_token.proofs.Integers.{integer-front, integer-reaches}
use Rattle.pw_token.proofs.KindLaws.{one-kind, spelled-long}
use Rattle.pw_token.proofs.LineLaws.{prefix-split}
use Rattle.pw_token.proofs.Quoted.{literal-front, literal-reaches, wide-front, wide-reaches}
use Rattle.pw_token.proofs.Runs.{Begins, begins-take, either}
use Rattle.pw_token.proofs.WordLaws.{word-front, word-reaches, keyword-word, mark-front, mark-reaches}
use Rattle.pw_token.specs.Pieces.{Found, longer, word_kind, word_at, longest_at}
use Rattle.pw_token.specs.Scanning.{word_len, integer_len, floating_len, literal_len, wide_len, longest_in}
use Rattle.pw_token.specs.Spelling.{IsWord, Spells}
use Rattle.pw_token.specs.Tokenization.{CannotGrow}
use Rattle.pw_token.specs.Words.{is_keyword, marks}
use Rattle.pw_token.specs.declared.token.TokenKind.{TokenKind}
use Rattle.pw_token.specs.declared.token.TokenKind.TheVariants.{Identifier, Keyword, Number, Floating, Character, Text, Wide, Mark, Directive}

-- what is found, if it has a length, is spelled
abbrev Offers : List ℕ → Found → Type 0
Offers t f = 0 < f.1 → Begins (Spells f.0) f.1 t

longer-offers : (t : List ℕ) (a b : Found) → Offers t a → Offers t b → Offers t (longer a b)
longer-offers t a b h k =
    elim (either (nat_lt a.1 b.1)) [
      | inl l ↦ subst (Offers t) (sym (ap (λ x. cond x b a) l)) k
      | inr l ↦ subst (Offers t) (sym (ap (λ x. cond x b a) l)) h
    ]

longer-left : (a b : Found) → a.1 ≤ (longer a b).1
longer-left a b =
    elim (either (nat_lt a.1 b.1)) [
      | inl l ↦ omega (arith, ap (λ x. (cond x b a).1) l, ltb-true a.1 b.1 l)
      | inr l ↦ omega (arith, ap (λ x. (cond x b a).1) l)
    ]

longer-right : (a b : Found) → b.1 ≤ (longer a b).1
longer-right a b =
    elim (either (nat_lt a.1 b.1)) [
      | inl l ↦ omega (arith, ap (λ x. (cond x b a).1) l)
      | inr l ↦ omega (arith, ap (λ x. (cond x b a).1) l, ltb-false a.1 b.1 l)
    ]

word-offers : (t : List ℕ) → Offers t (word_at t)
word-offers t l =
    let b = word-front t l in
    subst (λ s. Begins (Spells (word_kind s)) (word_len t) t) (sym (begins-take b))
    (record { front = b.front; rest = b.rest; split = b.split; len = b.len; holds = spelled b.front b.holds })
  where
    spelled : (s : List ℕ) → IsWord s → Spells (word_kind s) s
    spelled s h =
        elim (either (is_keyword s)) [
          | inl k ↦ subst (λ x. Spells x s) (sym (ap (λ x. cond x Keyword Identifier) k)) k
          | inr n ↦ subst (λ x. Spells x s) (sym (ap (λ x. cond x Keyword Identifier) n)) (h, n)
        ]

longest-offers : (t : List ℕ) → Offers t (longest_at t)
unfolding longest_at
longest-offers t =
    let w = word_at t in
    let n : Found = (Number, integer_len t) in
    let f : Found = (Floating, floating_len t) in
    let c : Found = (Character, literal_len 39 t) in
    let s : Found = (Text, literal_len 34 t) in
    let l : Found = (Wide, wide_len t) in
    let m : Found = (Mark, longest_in 0 marks t) in
    longer-offers t (longer (longer w n) (longer f c)) (longer (longer s l) m)
    (longer-offers t (longer w n) (longer f c)
    (longer-offers t w n (word-offers t) (integer-front t))
    (longer-offers t f c (floating-front t) (literal-front 39 t (inl refl))))
    (longer-offers t (longer s l) m
    (longer-offers t s l (literal-front 34 t (inr refl)) (wide-front t))
    (mark-front t))

-- each kind's length is at most the longest
record Bounds (t : List ℕ) : Type 0 where
  word : word_len t ≤ (longest_at t).1
  number : integer_len t ≤ (longest_at t).1
  floating : floating_len t ≤ (longest_at t).1
  character : literal_len 39 t ≤ (longest_at t).1
  text : literal_len 34 t ≤ (longest_at t).1
  wide : wide_len t ≤ (longest_at t).1
  mark : longest_in 0 marks t ≤ (longest_at t).1

longest-bounds : (t : List ℕ) → Bounds t
unfolding longest_at
longest-bounds t =
    let w = word_at t in
    let n : Found = (Number, integer_len t) in
    let f : Found = (Floating, floating_len t) in
    let c : Found = (Character, literal_len 39 t) in
    let s : Found = (Text, literal_len 34 t) in
    let l : Found = (Wide, wide_len t) in
    let m : Found = (Mark, longest_in 0 marks t) in
    let all_left = longer-left (longer (longer w n) (longer f c)) (longer (longer s l) m) in
    let all_right = longer-right (longer (longer w n) (longer f c)) (longer (longer s l) m) in
    let front_left = longer-left (longer w n) (longer f c) in
    let front_right = longer-right (longer w n) (longer f c) in
    let back_left = longer-left (longer s l) m in
    let back_right = longer-right (longer s l) m in
    record {
      word = omega (arith, longer-left w n, front_left, all_left);
      number = omega (arith, longer-right w n, front_left, all_left);
      floating = omega (arith, longer-left f c, front_right, all_left);
      character = omega (arith, longer-right f c, front_right, all_left);
      text = omega (arith, longer-left s l, back_left, all_right);
      wide = omega (arith, longer-right s l, back_left, all_right);
      mark = omega (arith, back_right, all_right);
    }

-- no spelling at the beginning is longer
longest-reaches : (k : TokenKind) (s r : List ℕ) → Spells k s → length s ≤ (longest_at (s ++ r)).1
longest-reaches Identifier s r h = omega (arith, word-reaches s r h.0, (longest-bounds (s ++ r)).word)
longest-reaches Keyword s r h = omega (arith, word-reaches s r (keyword-word s h), (longest-bounds (s ++ r)).word)
longest-reaches Number s r h = omega (arith, integer-reaches s r h, (longest-bounds (s ++ r)).number)
longest-reaches Floating s r h = omega (arith, floating-reaches s r h, (longest-bounds (s ++ r)).floating)
longest-reaches Character s r h = omega (arith, literal-reaches 39 s r (inl refl) h, (longest-bounds (s ++ r)).character)
longest-reaches Text s r h = omega (arith, literal-reaches 34 s r (inr refl) h, (longest-bounds (s ++ r)).text)
longest-reaches Wide s r h = omega (arith, wide-reaches s r h, (longest-bounds (s ++ r)).wide)
longest-reaches Mark s r h = omega (arith, mark-reaches s r h, (longest-bounds (s ++ r)).mark)
longest-reaches Directive s r h = absurd h

-- a spelling that cannot grow is what is found
pub token-complete : (k : TokenKind) (s after : List ℕ) → Spells k s → CannotGrow s after → longest_at (s ++ after) ≡ (k, length s)
token-complete k s after h grow =
    let t = s ++ after in
    let l = longest-reaches k s after h in
    let b = longest-offers t (omega (arith, l, spelled-long k s h)) in
    let cut = prefix-split s after b.front b.rest b.split (omega (arith, l, b.len)) in
    let none = grow (longest_at t).0 cut.0 b.rest cut.2 (subst (Spells (longest_at t).0) cut.1 b.holds) in
    let same : b.front ≡ s = cut.1 ∙ ap (λ x. s ++ x) none ∙ append-nil s in
    let kind = one-kind (longest_at t).0 k s (subst (Spells (longest_at t).0) same b.holds) h in
    pair (longest_at t) kind (sym b.len ∙ ap length same)
  where
    pair : {k : TokenKind} {n : ℕ} (f : Found) → f.0 ≡ k → f.1 ≡ n → f ≡ (k, n)
    pair {k} {n} f e d = ap (λ x. (x, f.1)) e ∙ ap (λ y. (k, y)) d

-- what is found is a spelling that cannot grow
pub record FoundToken (t : List ℕ) : Type 0 where
  pub front : List ℕ
  pub rest : List ℕ
  pub split : t ≡ front ++ rest
  pub len : length front ≡ (longest_at t).1
  pub spelled : Spells (longest_at t).0 front
  pub grows : CannotGrow front rest

pub token-sound : (t : List ℕ) → 0 < (longest_at t).1 → FoundToken t
token-sound t l =
    let b = longest-offers t l in
    record {
      front = b.front;
      rest = b.rest;
      split = b.split;
      len = b.len;
      spelled = b.holds;
      grows = λ kind more rest e h.
          let joined : t ≡ (b.front ++ more) ++ rest = b.split ∙ ap (λ x. b.front ++ x) e ∙ sym (append_assoc b.front more rest) in
          let reach = longest-reaches kind (b.front ++ more) rest h in
          nil_from_length more (omega (arith, reach, ap (λ x. (longest_at x).1) joined, b.len, length-append b.front more));
    }
