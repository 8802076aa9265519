-- Each single field: what is read is spelled so, and what is spelled so is read again.
use Rattle.std.proofs.Common.{◌≡◌, ℕ, zero, suc, ◌+◌, ◌^◌, ◌<◌, ◌≤◌, Bool, true, false, cond, ltb, List, [], ◌∷◌, ◌++◌, length, get_or, take, drop, Result, Ok, Err, refl, sym, ap, subst, ◌∙◌, append_assoc, arith, lit<, inl, inr}
use Rattle.std.specs.Prelude.{IsTrue, nat_lt, ◌==◌}
use Rattle.std.specs.Int.{Width, w32, w64, byte_len, from_be_bytes, to_be_bytes}
use Rattle.std.proofs.lemmas.Bool.{cases_lt, ltb-false, le-ltb, ltb-true}
use Rattle.std.proofs.lemmas.List.{take_at, drop_at, take-append-drop, length-append, length-take, get_or-append-add, get_or-take, get_or_past}
use Rattle.std.proofs.lemmas.Nat.{be_bytes_4, be_bytes_8, from_be_bytes-to_be_bytes_4, from_be_bytes-to_be_bytes_8}
use Rattle.pw_fields.specs.Fields.{◌>>=◌, after, done, kept, checked, number_at, u8_at, u32_at, u64_at, bytes_at, text_within, text_at, choice_at, flag_at, u8, u32, u64, text, flag, FitsU8, FitsU32, FitsU64, FitsText}
use Rattle.pw_fields.specs.FieldLaws.{AreBytes, Spells}

-- ---- tools

pub AreBytes-right : (front rest : List ℕ) → AreBytes (front ++ rest) → AreBytes rest
AreBytes-right front rest h i = rw (← get_or-append-add front rest i 0) (h (length front + i))

pub AreBytes-rest : (bytes front rest : List ℕ) → AreBytes bytes → bytes ≡ front ++ rest → AreBytes rest
AreBytes-rest bytes front rest h e = AreBytes-right front rest (subst AreBytes e h)

-- the bytes of a value that was found are those that stood there
abbrev found : {X : Type 0} → X → List ℕ → Result (X × List ℕ) ℕ
found x rest = Ok (x, rest)

abbrev Both : {X : Type 0} → X × List ℕ → X × List ℕ → Type 0
Both p q = p ≡ q

pub found_is : {X : Type 0} (x y : X) (r s : List ℕ) → found x r ≡ found y s → (x ≡ y) × (r ≡ s)
found_is {X} x y r s e =
    let both : Both (x, r) (y, s) = cc in
    (ap (λ (p : X × List ℕ). p.0) both, ap (λ (p : X × List ℕ). p.1) both)

pub not_found : {X : Type 0} (left : ℕ) (x : X) (rest : List ℕ) → Err left ≡ found x rest → ⊥
not_found left x rest e = cc

-- what stands behind a field that was found
pub after_passes : {A X : Type 0} (r : Result (A × List ℕ) ℕ) (next : A → List ℕ → Result (X × List ℕ) ℕ) (x : X) (rest : List ℕ) → after r next ≡ Ok (x, rest)
    → (a : A) × (between : List ℕ) × (r ≡ Ok (a, between)) × (next a between ≡ Ok (x, rest))
after_passes (Ok p) next x rest e = (p.0, p.1, refl, e)
after_passes (Err d) next x rest e = absurd (not_found d x rest e)

-- one text and then another
pub joins : (bytes front between back rest : List ℕ) → bytes ≡ front ++ between → between ≡ back ++ rest → bytes ≡ (front ++ back) ++ rest
joins bytes front between back rest p q = p ∙ ap (λ (w : List ℕ). front ++ w) q ∙ sym (append_assoc front back rest)

-- the same value in other words
pub same_text : {X : Type 0} (spelling : X → List ℕ) (bytes : List ℕ) (x y : X) (r s : List ℕ) → bytes ≡ spelling x ++ r → x ≡ y → r ≡ s → bytes ≡ spelling y ++ s
same_text spelling bytes x y r s p q t = p ∙ ap (λ (w : List ℕ). spelling x ++ w) t ∙ ap (λ z. spelling z ++ s) q

pub guard_passes : {X : Type 0} (b : Bool) (left : ℕ) (x : X) (y : X) (r s : List ℕ) → cond b (Err left) (found x r) ≡ found y s → (b ≡ false) × (x ≡ y) × (r ≡ s)
guard_passes true left x y r s e = absurd (not_found left y s e)
guard_passes false left x y r s e = let p = found_is x y r s e in (refl, p.0, p.1)

-- ---- numbers

pub record IsWide (w : Width) (limit : ℕ) : Type 0 where
  pub len : (n : ℕ) → length (to_be_bytes w n) ≡ byte_len w
  pub back : (bytes : List ℕ) → length bytes ≡ byte_len w → AreBytes bytes → to_be_bytes w (from_be_bytes w bytes) ≡ bytes
  pub again : (n : ℕ) → n < limit → from_be_bytes w (to_be_bytes w n) ≡ n
  pub below : (bytes : List ℕ) → AreBytes bytes → from_be_bytes w bytes < limit

pub wide32 : IsWide w32 (2 ^ 32)
wide32 = record {
  len = λ n. refl;
  back = λ bytes len fits. be_bytes_4 bytes _ len fits refl;
  again = λ n lt. from_be_bytes-to_be_bytes_4 n lt;
  below = λ bytes fits. omega (arith, fits 0, fits 1, fits 2, fits 3);
}

pub wide64 : IsWide w64 (2 ^ 64)
wide64 = record {
  len = λ n. refl;
  back = λ bytes len fits. be_bytes_8 bytes _ len fits refl;
  again = λ n lt. from_be_bytes-to_be_bytes_8 n lt;
  below = λ bytes fits. omega (arith, fits 0, fits 1, fits 2, fits 3, fits 4, fits 5, fits 6, fits 7);
}

front_byte : (n : ℕ) (bytes : List ℕ) → AreBytes bytes → (i : ℕ) → get_or (take n bytes) i 0 < 256
front_byte n bytes h i =
    elim (cases_lt i n) [
      | inl lt ↦ rw (get_or-take n bytes i 0 lt) (h i)
      | inr le ↦ rw (get_or_past (take n bytes) i 0 (omega (arith, length-take n bytes))) (omega arith)
    ]

pub AreBytes-take : (n : ℕ) (bytes : List ℕ) → AreBytes bytes → AreBytes (take n bytes)
AreBytes-take n bytes h i = front_byte n bytes h i

number_takes : (w : Width) (limit : ℕ) (wide : IsWide w limit) (bytes : List ℕ) (n : ℕ) (rest : List ℕ) → AreBytes bytes → number_at w bytes ≡ Ok (n, rest) → (bytes ≡ to_be_bytes w n ++ rest) × (n < limit)
number_takes w limit wide bytes n rest fits e =
    let g = guard_passes (ltb (length bytes) (byte_len w)) (length bytes) (from_be_bytes w (take (byte_len w) bytes)) n (drop (byte_len w) bytes) rest e in
    let long : byte_len w ≤ length bytes = ltb-false _ _ g.0 in
    let front : to_be_bytes w n ≡ take (byte_len w) bytes = rw (← g.1) (wide.back (take (byte_len w) bytes) (omega (arith, length-take (byte_len w) bytes)) (AreBytes-take (byte_len w) bytes fits)) in
    (rw (front, ← g.2) (sym (take-append-drop (byte_len w) bytes)), rw (← g.1) (wide.below (take (byte_len w) bytes) (AreBytes-take (byte_len w) bytes fits)))

number_again : (w : Width) (limit : ℕ) (wide : IsWide w limit) (n : ℕ) (rest : List ℕ) → n < limit → number_at w (to_be_bytes w n ++ rest) ≡ Ok (n, rest)
number_again w limit wide n rest lt =
    let len = wide.len n in
    let long : ltb (length (to_be_bytes w n ++ rest)) (byte_len w) ≡ false = le-ltb _ _ (omega (arith, length-append (to_be_bytes w n) rest)) in
    rw (long, take_at (to_be_bytes w n) rest (byte_len w) len, drop_at (to_be_bytes w n) rest (byte_len w) len, wide.again n lt) refl

pub u32_spells : Spells u32 FitsU32 u32_at
unfolding u32_at u32
u32_spells = record { takes = number_takes w32 (2 ^ 32) wide32; again = number_again w32 (2 ^ 32) wide32 }

pub u64_spells : Spells u64 FitsU64 u64_at
unfolding u64_at u64
u64_spells = record { takes = number_takes w64 (2 ^ 64) wide64; again = number_again w64 (2 ^ 64) wide64 }

byte_takes : (bytes : List ℕ) (n : ℕ) (rest : List ℕ) → AreBytes bytes → u8_at bytes ≡ Ok (n, rest) → (bytes ≡ u8 n ++ rest) × (n < 256)
unfolding u8_at
byte_takes [] n rest fits e = absurd (not_found 0 n rest e)
byte_takes (b ∷ bytes) n rest fits e = let p = found_is b n bytes rest e in (rw (p.0, p.1) refl, subst FitsU8 p.0 (fits 0))

pub u8_spells : Spells u8 FitsU8 u8_at
unfolding u8_at
u8_spells = record { takes = byte_takes; again = λ n rest fits. refl }

-- ---- a field under a rule

kept_value : {X : Type 0} (rule : X → Bool) (left : ℕ) (y : X) (behind : List ℕ) (x : X) (rest : List ℕ) (b : Bool) → rule y ≡ b → cond b (found y behind) (Err left) ≡ found x rest → (found y behind ≡ found x rest) × IsTrue (rule x)
kept_value rule left y behind x rest true is e = (e, rw (← (found_is y x behind rest e).0) (rw is refl))
kept_value rule left y behind x rest false is e = absurd (not_found left x rest e)

kept_passes : {X : Type 0} (rule : X → Bool) (left : ℕ) (r : Result (X × List ℕ) ℕ) (x : X) (rest : List ℕ) → kept rule left r ≡ Ok (x, rest) → (r ≡ Ok (x, rest)) × IsTrue (rule x)
kept_passes rule left (Ok y) x rest e = kept_value rule left y.0 y.1 x rest (rule y.0) refl e
kept_passes rule left (Err d) x rest e = absurd (not_found d x rest e)

checked_again : {X : Type 0} (rule : X → Bool) (left : ℕ) (r : Result (X × List ℕ) ℕ) (x : X) (rest : List ℕ) → r ≡ Ok (x, rest) → IsTrue (rule x) → kept rule left r ≡ Ok (x, rest)
checked_again rule left r x rest is holds = rw (is, holds) refl

-- a field with a rule: it fits, and the rule holds
pub checked_spells : {X : Type 0} (spelling : X → List ℕ) (Fits : X → Type 0) (read : List ℕ → Result (X × List ℕ) ℕ) (rule : X → Bool) → Spells spelling Fits read → Spells spelling (λ x. Fits x × IsTrue (rule x)) (checked rule read)
checked_spells spelling Fits read rule laws = record {
  takes = λ bytes x rest fits e. let k = kept_passes rule (length bytes) (read bytes) x rest e in let t = laws.takes bytes x rest fits k.0 in (t.0, (t.1, k.1));
  again = λ x rest fits. checked_again rule (length (spelling x ++ rest)) (read (spelling x ++ rest)) x rest (laws.again x rest fits.0) fits.1;
}

-- ---- texts

text_takes : (bytes words rest : List ℕ) → AreBytes bytes → (r : Result (ℕ × List ℕ) ℕ) → u32_at bytes ≡ r → text_within (length bytes) r ≡ Ok (words, rest) → (bytes ≡ text words ++ rest) × FitsText words
unfolding text
text_takes bytes words rest fits (Ok n) is e =
    let t = u32_spells.takes bytes n.0 n.1 fits is in
    let g = guard_passes (ltb (length n.1) n.0) (length bytes) (take n.0 n.1) words (drop n.0 n.1) rest e in
    let long : n.0 ≤ length n.1 = ltb-false _ _ g.0 in
    let len : length words ≡ n.0 = rw (← g.1) (omega (arith, length-take n.0 n.1)) in
    let parted : n.1 ≡ words ++ rest = rw (← g.1, ← g.2) (sym (take-append-drop n.0 n.1)) in
    (t.0 ∙ rw (parted, ← len) (sym (append_assoc (u32 (length words)) words rest)), rw len t.1)
text_takes bytes words rest fits (Err d) is e = absurd (not_found d words rest e)

text_again : (words rest : List ℕ) → FitsText words → text_at (text words ++ rest) ≡ Ok (words, rest)
unfolding text_at text
text_again words rest lt =
    let regrouped : text words ++ rest ≡ u32 (length words) ++ (words ++ rest) = append_assoc (u32 (length words)) words rest in
    let long : ltb (length (words ++ rest)) (length words) ≡ false = le-ltb _ _ (omega (arith, length-append words rest)) in
    ap text_at regrouped ∙ rw (u32_spells.again (length words) (words ++ rest) lt, long, take_at words rest (length words) refl, drop_at words rest (length words) refl) refl

pub text_spells : Spells text FitsText text_at
unfolding text_at
text_spells = record { takes = λ bytes words rest fits e. text_takes bytes words rest fits (u32_at bytes) refl e; again = text_again }

bytes_takes : (count : ℕ) (bytes words rest : List ℕ) → bytes_at count bytes ≡ Ok (words, rest) → (bytes ≡ words ++ rest) × (length words ≡ count)
unfolding bytes_at
bytes_takes count bytes words rest e =
    let g = guard_passes (ltb (length bytes) count) (length bytes) (take count bytes) words (drop count bytes) rest e in
    let long : count ≤ length bytes = ltb-false _ _ g.0 in
    (rw (← g.1, ← g.2) (sym (take-append-drop count bytes)), rw (← g.1) (omega (arith, length-take count bytes)))

bytes_again : (count : ℕ) (words rest : List ℕ) → length words ≡ count → bytes_at count (words ++ rest) ≡ Ok (words, rest)
unfolding bytes_at
bytes_again count words rest len =
    let long : ltb (length (words ++ rest)) count ≡ false = le-ltb _ _ (omega (arith, length-append words rest)) in
    rw (long, take_at words rest count len, drop_at words rest count len) refl

pub bytes_spells : (count : ℕ) → Spells (λ words. words) (λ words. length words ≡ count) (bytes_at count)
bytes_spells count = record { takes = λ bytes words rest fits e. bytes_takes count bytes words rest e; again = bytes_again count }

-- ---- choices and truth values

pub choice_spells : (n : ℕ) → Spells u8 (λ b. FitsU8 b × IsTrue (nat_lt b n)) (choice_at n)
unfolding choice_at
choice_spells n = checked_spells u8 FitsU8 u8_at (λ b. nat_lt b n) u8_spells

-- a field whose value is seen otherwise
pub mapped_spells : {A X : Type 0} (spelling : A → List ℕ) (FitsBefore : A → Type 0) (Fits : X → Type 0) (read : List ℕ → Result (A × List ℕ) ℕ) (seen : A → X) (back : X → A)
    → Spells spelling FitsBefore read
    → ((a : A) → FitsBefore a → (back (seen a) ≡ a) × Fits (seen a))
    → ((x : X) → Fits x → (seen (back x) ≡ x) × FitsBefore (back x))
    → Spells (λ x. spelling (back x)) Fits (read >>= λ a. done (seen a))
mapped_spells spelling FitsBefore Fits read seen back laws forth and_back = record {
  takes = λ bytes x rest fits e.
      let p = after_passes (read bytes) (λ a. done (seen a)) x rest e in
      let q = found_is (seen p.0) x p.1 rest p.3 in
      let t = laws.takes bytes p.0 p.1 fits p.2 in
      let f = forth p.0 t.1 in
      (same_text spelling bytes p.0 (back x) p.1 rest t.0 (sym f.0 ∙ ap back q.0) q.1, subst Fits q.0 f.1);
  again = λ x rest fits. rw (laws.again (back x) rest (and_back x fits).1, (and_back x fits).0) refl;
}

abbrev flag_code : Bool → ℕ
flag_code b = cond b 1 0

flag_forth : (b : ℕ) → b < 2 → flag_code (b == 1) ≡ b
flag_forth zero h = refl
flag_forth (suc zero) h = refl
flag_forth (suc (suc b)) h = absurd (omega arith)

flag_back : (x : Bool) → ((flag_code x == 1) ≡ x) × FitsU8 (flag_code x) × IsTrue (nat_lt (flag_code x) 2)
flag_back true = (refl, lit< tt, refl)
flag_back false = (refl, lit< tt, refl)

pub flag_spells : Spells flag (λ b. Unit {0}) flag_at
unfolding flag_at
flag_spells = mapped_spells u8 (λ b. FitsU8 b × IsTrue (nat_lt b 2)) (λ b. Unit {0}) (choice_at 2) (λ b. b == 1) (λ b. cond b 1 0) (choice_spells 2)
    (λ b fits. (flag_forth b (ltb-true _ _ fits.1), tt))
    (λ x fits. let p = flag_back x in (p.0, (p.1, p.2)))
