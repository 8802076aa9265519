-- Numbers in words and in bytes.
use Rattle.std.proofs.Common.{◌≡◌, ℕ, zero, suc, ◌+◌, ◌-◌, ◌*◌, ◌/◌, ◌%◌, ◌^◌, ◌<◌, ◌≤◌, ◌==◌, Bool, true, false, cond, List, length, Option, Some, None, refl, sym, ap, ◌∙◌, arith}
use Rattle.std.specs.Prelude.{pos, ◌&&◌, nat_le, option_map}
use Rattle.std.proofs.lemmas.Bool.{leb-true}
use Rattle.pw_value.specs.Limits.{memory_size}
use Rattle.pw_value.specs.Values.{extended}
use Rattle.pw_value.specs.declared.value.Kind.{Kind}
use Rattle.pw_value.specs.declared.value.Kind.TheVariants.{S8, U8, S16, U16, W32}
use Rattle.pw_flow.specs.ValidFlow.{kind_size}
use Rattle.pw_machine.specs.Core.{byte_at, word_at}
use Rattle.pw_run_languages.specs.Acts.{bytes_at, number_at}
use Rattle.pw_run_languages.specs.Standing.{standing}
use Rattle.pw_debug.specs.Walk.{cut, in_memory, is_signed, of_kind, word_in}
use Rattle.pw_law_walk.specs.Chains.{found}
use Rattle.pw_law_debug.specs.Telling.{number_in, number_of}

-- ---- bytes that are written

bytes_length : (n : ℕ) (memory : ℕ → ℕ) (a : ℕ) → length (bytes_at n memory a) ≡ n
bytes_length zero memory a = refl
bytes_length (suc n) memory a = let rest = bytes_length n memory (a + 1) in omega (arith, rest)

pub number_of_bytes : (n : ℕ) (memory : ℕ → ℕ) (a : ℕ) → number_in (bytes_at n memory a) ≡ number_at n memory a
number_of_bytes zero memory a = refl
number_of_bytes (suc n) memory a =
    let rest = number_of_bytes n memory (a + 1) in
    let long = bytes_length n memory (a + 1) in
    ap (λ k. memory a * 256 ^ k + number_in (bytes_at n memory (a + 1))) long ∙ ap (λ k. memory a * 256 ^ n + k) rest

-- ---- bytes in a word

module _ (memory : List ℕ) (bytes : (b : ℕ) → byte_at memory b < 256) (b : ℕ) where
  one_byte : (j : ℕ) → j + 1 ≤ 4 → word_at memory b / 256 ^ (4 - (j + 1)) % 256 ^ 1 ≡ number_at 1 (byte_at memory) (b + j)
  one_byte zero low =
      let e : byte_at memory (b + 0) ≡ byte_at memory b = ap (byte_at memory) (let k : b + 0 ≡ b = omega arith in k) in
      omega (arith, e, bytes b, bytes (b + 1), bytes (b + 2), bytes (b + 2 + 1))
  one_byte (suc zero) low = omega (arith, bytes b, bytes (b + 1), bytes (b + 2), bytes (b + 2 + 1))
  one_byte (suc (suc zero)) low = omega (arith, bytes b, bytes (b + 1), bytes (b + 2), bytes (b + 2 + 1))
  one_byte (suc (suc (suc zero))) low =
      let e : byte_at memory (b + 3) ≡ byte_at memory (b + 2 + 1) = ap (byte_at memory) (let k : b + 3 ≡ b + 2 + 1 = omega arith in k) in
      omega (arith, e, bytes b, bytes (b + 1), bytes (b + 2), bytes (b + 2 + 1))
  one_byte (suc (suc (suc (suc j)))) low = absurd (omega (arith, low))

  two_bytes : (j : ℕ) → j + 2 ≤ 4 → word_at memory b / 256 ^ (4 - (j + 2)) % 256 ^ 2 ≡ number_at 2 (byte_at memory) (b + j)
  two_bytes zero low =
      let e : byte_at memory (b + 0) ≡ byte_at memory b = ap (byte_at memory) (let k : b + 0 ≡ b = omega arith in k) in
      let f : byte_at memory (b + 0 + 1) ≡ byte_at memory (b + 1) = ap (byte_at memory) (let k : b + 0 + 1 ≡ b + 1 = omega arith in k) in
      omega (arith, e, f, bytes b, bytes (b + 1), bytes (b + 2), bytes (b + 2 + 1))
  two_bytes (suc zero) low =
      let f : byte_at memory (b + 1 + 1) ≡ byte_at memory (b + 2) = ap (byte_at memory) (let k : b + 1 + 1 ≡ b + 2 = omega arith in k) in
      omega (arith, f, bytes b, bytes (b + 1), bytes (b + 2), bytes (b + 2 + 1))
  two_bytes (suc (suc zero)) low = omega (arith, bytes b, bytes (b + 1), bytes (b + 2), bytes (b + 2 + 1))
  two_bytes (suc (suc (suc j))) low = absurd (omega (arith, low))

  four_bytes : (j : ℕ) → j + 4 ≤ 4 → word_at memory b / 256 ^ (4 - (j + 4)) % 256 ^ 4 ≡ number_at 4 (byte_at memory) (b + j)
  four_bytes zero low =
      let e : byte_at memory (b + 0) ≡ byte_at memory b = ap (byte_at memory) (let k : b + 0 ≡ b = omega arith in k) in
      let f : byte_at memory (b + 0 + 1) ≡ byte_at memory (b + 1) = ap (byte_at memory) (let k : b + 0 + 1 ≡ b + 1 = omega arith in k) in
      let g : byte_at memory (b + 0 + 1 + 1) ≡ byte_at memory (b + 2) = ap (byte_at memory) (let k : b + 0 + 1 + 1 ≡ b + 2 = omega arith in k) in
      let h : byte_at memory (b + 0 + 1 + 1 + 1) ≡ byte_at memory (b + 2 + 1) = ap (byte_at memory) (let k : b + 0 + 1 + 1 + 1 ≡ b + 2 + 1 = omega arith in k) in
      omega (arith, e, f, g, h, bytes b, bytes (b + 1), bytes (b + 2), bytes (b + 2 + 1))
  four_bytes (suc j) low = absurd (omega (arith, low))

  kind_bytes : (k : Kind) (j : ℕ) → j + kind_size k ≤ 4 → of_kind k (cut (j + kind_size k) (word_at memory b)) ≡ extended (kind_size k) (is_signed k) (number_at (kind_size k) (byte_at memory) (b + j))
  kind_bytes S8 j low = ap (extended 1 true) (one_byte j low)
  kind_bytes U8 j low = ap (extended 1 false) (one_byte j low)
  kind_bytes S16 j low = ap (extended 2 true) (two_bytes j low)
  kind_bytes U16 j low = ap (extended 2 false) (two_bytes j low)
  kind_bytes W32 j low = ap (extended 4 false) (four_bytes j low)

-- ---- what memory holds

some_if : (b : Bool) (x w : ℕ) → cond b (Some x) None ≡ Some w → w ≡ x
some_if true x w e = cc
some_if false x w e = absurd cc

of_word : (o : Option ℕ) (f : ℕ → ℕ) (v : ℕ) → option_map f o ≡ Some v → (w : ℕ) × ((o ≡ Some w) × (v ≡ f w))
of_word None f v e = absurd cc
of_word (Some w) f v e = (w, (refl, cc))

within : (b : Bool) (o : Option ℕ) (v : ℕ) → cond b o None ≡ Some v → (b ≡ true) × (o ≡ Some v)
within true o v e = (refl, e)
within false o v e = absurd cc

pub holds_bytes : (memory : List ℕ) (k : Kind) (a v : ℕ) → ((b : ℕ) → byte_at memory b < 256) → in_memory memory k a ≡ Some v → v ≡ extended (kind_size k) (is_signed k) (number_at (kind_size k) (byte_at memory) a)
holds_bytes memory k a v bytes e =
    let p = within (nat_le (a % 4 + kind_size k) 4) (option_map (λ word. of_kind k (cut (a % 4 + kind_size k) word)) (word_in memory (pos (a - a % 4)))) v e in
    let low : a % 4 + kind_size k ≤ 4 = leb-true (a % 4 + kind_size k) 4 p.0 in
    let q = of_word (word_in memory (pos (a - a % 4))) (λ word. of_kind k (cut (a % 4 + kind_size k) word)) v p.1 in
    let word = some_if (((a - a % 4) % 4 == 0) && nat_le (a - a % 4 + 4) memory_size) (word_at memory (a - a % 4)) q.0 q.1.0 in
    let at : (a - a % 4) + a % 4 ≡ a = omega arith in
    q.1.1 ∙ ap (λ (w : ℕ). of_kind k (cut (a % 4 + kind_size k) w)) word ∙ kind_bytes memory bytes (a - a % 4) k (a % 4) low
    ∙ ap (λ (n : ℕ). extended (kind_size k) (is_signed k) (number_at (kind_size k) (byte_at memory) n)) at

-- ---- what is found, by where it stands

pub found_number : (memory : List ℕ) (k : Kind) (a size held : ℕ) (o : Option ℕ) → ((b : ℕ) → byte_at memory b < 256) → size ≡ kind_size k → in_memory memory k a ≡ Some held
    → found k held o ≡ number_of k (standing o (bytes_at size (byte_at memory) a))
found_number memory k a size held (Some w) bytes is there = refl
found_number memory k a size held None bytes is there =
    holds_bytes memory k a held bytes there
    ∙ ap (extended (kind_size k) (is_signed k)) (ap (λ (n : ℕ). number_at n (byte_at memory) a) (sym is) ∙ sym (number_of_bytes size (byte_at memory) a))
