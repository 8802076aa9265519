-- Numbers in memory, by the number of their bytes.
use Rattle.std.proofs.Common.{ℕ, zero, suc, ◌≡◌, ◌+◌, ◌*◌, ◌/◌, ◌%◌, ◌^◌, ◌<◌, ◌≤◌, ◌⊎◌, inl, inr, arith, refl, ap, sym, ◌∙◌, Bool, true, false, if◌then◌else◌, List, ◌∷◌}
use Rattle.std.specs.Prelude.{◌==◌}
use Rattle.std.proofs.lemmas.Bool.{ne_eqb, eq-eqb}
use Rattle.std.proofs.Math.Nat.{pow-suc, mul-le-mul_right, mod-lt}
use Rattle.std.proofs.lemmas.Nat.{div-add-mod', mod-mul-add}
use Rattle.pw_run_languages.specs.Acts.{put, number_at, with_number, bytes_at}
use Rattle.pw_law_select_memory.specs.Numbers.{HoldsBytes}

-- ---- one byte

pub put_same : (a v : ℕ) (memory : ℕ → ℕ) → put a v memory a ≡ v
put_same a v memory = ap (λ (b : Bool). if b then v else memory a) (eq-eqb a a refl)

pub put_other : (a v b : ℕ) (memory : ℕ → ℕ) → (b ≡ a → ⊥) → put a v memory b ≡ memory b
put_other a v b memory ne = ap (λ (t : Bool). if t then v else memory b) (ne_eqb b a ne)

put_byte : (a v : ℕ) (memory : ℕ → ℕ) → v < 256 → HoldsBytes memory → HoldsBytes (put a v memory)
put_byte a v memory small h b = by_test (b == a)
  where
    by_test : (t : Bool) → (if t then v else memory b) < 256
    by_test true = small
    by_test false = h b

-- ---- what a store leaves

pub other_byte : (size v a b : ℕ) (memory : ℕ → ℕ) → (b < a) ⊎ (a + size ≤ b) → with_number size v a memory b ≡ memory b
other_byte zero v a b memory h = refl
other_byte (suc more) v a b memory (inl before) =
    other_byte more v (a + 1) b (put a (v / 256 ^ more % 256) memory) (inl (omega (arith, before)))
    ∙ put_other a (v / 256 ^ more % 256) b memory (λ e. omega (arith, e, before))
other_byte (suc more) v a b memory (inr behind) =
    other_byte more v (a + 1) b (put a (v / 256 ^ more % 256) memory) (inr (omega (arith, behind)))
    ∙ put_other a (v / 256 ^ more % 256) b memory (λ e. omega (arith, e, behind))

-- memories that are alike in so many bytes have the same number and the same bytes there
pub same_number : (n b : ℕ) (f g : ℕ → ℕ) → ((c : ℕ) → b ≤ c → c < b + n → f c ≡ g c) → number_at n f b ≡ number_at n g b
same_number zero b f g h = refl
same_number (suc more) b f g h =
    ap (λ v. v * 256 ^ more + number_at more f (b + 1)) (h b (omega arith) (omega arith))
    ∙ ap (λ v. g b * 256 ^ more + v) (same_number more (b + 1) f g (λ c low high. h c (omega (arith, low)) (omega (arith, high))))

pub same_bytes : (n b : ℕ) (f g : ℕ → ℕ) → ((c : ℕ) → b ≤ c → c < b + n → f c ≡ g c) → bytes_at n f b ≡ bytes_at n g b
same_bytes zero b f g h = refl
same_bytes (suc more) b f g h =
    ap (λ v. v ∷ bytes_at more f (b + 1)) (h b (omega arith) (omega arith))
    ∙ ap (λ (v : List ℕ). g b ∷ v) (same_bytes more (b + 1) f g (λ c low high. h c (omega (arith, low)) (omega (arith, high))))

outside : (n size a b c : ℕ) → (b + n ≤ a) ⊎ (a + size ≤ b) → b ≤ c → c < b + n → (c < a) ⊎ (a + size ≤ c)
outside n size a b c (inl before) low high = inl (omega (arith, before, low, high))
outside n size a b c (inr behind) low high = inr (omega (arith, behind, low, high))

pub other_number : (n size v a b : ℕ) (memory : ℕ → ℕ) → (b + n ≤ a) ⊎ (a + size ≤ b)
    → number_at n (with_number size v a memory) b ≡ number_at n memory b
other_number n size v a b memory h =
    same_number n b (with_number size v a memory) memory (λ c low high. other_byte size v a c memory (outside n size a b c h low high))

pub other_bytes : (n size v a b : ℕ) (memory : ℕ → ℕ) → (b + n ≤ a) ⊎ (a + size ≤ b)
    → bytes_at n (with_number size v a memory) b ≡ bytes_at n memory b
other_bytes n size v a b memory h =
    same_bytes n b (with_number size v a memory) memory (λ c low high. other_byte size v a c memory (outside n size a b c h low high))

-- ---- what was stored

-- the first byte, and those behind it
pub first_stored : (more v a : ℕ) (memory : ℕ → ℕ) → with_number (suc more) v a memory a ≡ v / 256 ^ more % 256
first_stored more v a memory =
    other_byte more v (a + 1) a (put a (v / 256 ^ more % 256) memory) (inl (omega arith)) ∙ put_same a (v / 256 ^ more % 256) memory

some_power : (n : ℕ) → 0 < 256 ^ n
some_power zero = omega arith
some_power (suc n) = let e : 256 ^ suc n ≡ 256 ^ n * 256 = pow-suc 256 n in omega (arith, e, some_power n)

byte_times : (d p x : ℕ) → d < 256 → x < p → d * p + x < p * 256
byte_times d p x small low = below (d * p) (mul-le-mul_right p (omega (arith, small)))
  where
    below : (y : ℕ) → y ≤ 255 * p → y + x < p * 256
    below y le = omega (arith, le, low)

-- a remainder by its first byte
parts : (k d p x : ℕ) → k * (p * 256) + (d * p + x) ≡ (k * 256 + d) * p + x
parts k d p x = grind arith

low_bytes : (v p : ℕ) → 0 < p → v / p % 256 * p + v % p ≡ v % (p * 256)
low_bytes v p some =
    let q = v / p in
    let low : v % p < p = mod-lt v some in
    let whole : q / 256 * (p * 256) + (q % 256 * p + v % p) ≡ v =
    parts (q / 256) (q % 256) p (v % p) ∙ (ap (λ n. n * p + v % p) (div-add-mod' q 256) ∙ div-add-mod' v p) in
    sym (mod-mul-add (q / 256) (p * 256) (q % 256 * p + v % p) (byte_times (q % 256) p (v % p) (omega arith) low))
    ∙ ap (λ n. n % (p * 256)) whole

pub stored_number : (size v a : ℕ) (memory : ℕ → ℕ) → number_at size (with_number size v a memory) a ≡ v % 256 ^ size
stored_number zero v a memory = omega arith
stored_number (suc more) v a memory =
    let p = 256 ^ more in
    ap (λ b. b * p + number_at more (with_number (suc more) v a memory) (a + 1)) (first_stored more v a memory)
    ∙ (ap (λ n. v / p % 256 * p + n) (stored_number more v (a + 1) (put a (v / p % 256) memory))
    ∙ split more v)
  where
    split : (more v : ℕ) → v / 256 ^ more % 256 * 256 ^ more + v % 256 ^ more ≡ v % 256 ^ suc more
    split more v = low_bytes v (256 ^ more) (some_power more) ∙ ap (λ n. v % n) (sym (pow-suc 256 more))

-- ---- bytes

pub number_bounded : (n a : ℕ) (memory : ℕ → ℕ) → HoldsBytes memory → number_at n memory a < 256 ^ n
number_bounded zero a memory h = omega arith
number_bounded (suc more) a memory h =
    let below : number_at (suc more) memory a < 256 ^ more * 256 =
    byte_times (memory a) (256 ^ more) (number_at more memory (a + 1)) (h a) (number_bounded more (a + 1) memory h) in
    let e : 256 ^ suc more ≡ 256 ^ more * 256 = pow-suc 256 more in
    rw e below

pub bytes_stay : (size v a : ℕ) (memory : ℕ → ℕ) → HoldsBytes memory → HoldsBytes (with_number size v a memory)
bytes_stay zero v a memory h = h
bytes_stay (suc more) v a memory h =
    bytes_stay more v (a + 1) (put a (v / 256 ^ more % 256) memory) (put_byte a (v / 256 ^ more % 256) memory (omega arith) h)
