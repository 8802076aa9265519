-- The numbers that words hold after a change of their bits.
use Rattle.std.proofs.Math.ListN.{length-replicate, get_or-replicate}
use Rattle.std.proofs.Common.{replicate, ◌≡◌, ◌≢◌, ℕ, zero, suc, ◌+◌, ◌-◌, ◌*◌, ◌/◌, ◌%◌, ◌^◌, ◌<◌, ◌≤◌, List, length, sym, subst, arith, ap, inl, inr, ◌⊎◌, ◌↔◌, get_or, set, ◌∙◌, refl, get_or-set_same, get_or-set_other, min, max}
use Rattle.std.specs.Prelude.{bit_and, bit_or}
use Rattle.std.specs.Int.{bit_at, bit_not, w64, trailing_zeros, div_ceil}
use Rattle.std.proofs.lemmas.Bool.{cases_eq, cases_lt}
use Rattle.std.proofs.lemmas.List.{get_or_past, get_or_default}
use Rattle.std.proofs.Math.Pow.{pow_pos}
use Rattle.std.proofs.lemmas.Nat.{or_lt, and_le_l, pow_below}
use Rattle.std.proofs.lemmas.Nat.Bits.{bit_at_or, bit_at_and, bit_at_not, bit_at-lt, bit_at_set_same, bit_at_set_other, bit_at-trailing_zeros, same_from_bits_below, bit_at-zero, and_pow, ones_shl, bit_at_mask_inside, bit_at_mask_below, bit_at_ones, bit_at_ones_above, ones_shr}
use Rattle.pw_fix.specs.Words.{HasBit}

-- a bit is 1 or 0
pub bit_cases : (n i : ℕ) → (bit_at n i ≡ 1) ⊎ (bit_at n i ≡ 0)
bit_cases n i = elim (cases_eq (bit_at n i) 1) [
  | inl one ↦ inl one
  | inr other ↦ inr (let b : bit_at n i < 2 = bit_at-lt n i in omega arith)
]

-- the numbers are held or not
pub held_cases : (ws : List ℕ) (i : ℕ) → HasBit ws i ⊎ (HasBit ws i → ⊥)
held_cases ws i = cases_eq (bit_at (get_or ws (i / 64) 0) (i % 64)) 1

-- one bit more
pub set_bit : (ws : List ℕ) (i j : ℕ) → i / 64 < length ws → HasBit (set ws (i / 64) (bit_or (get_or ws (i / 64) 0) (1 * 2 ^ (i % 64) % 2 ^ 64))) j ↔ ((j ≡ i) ⊎ HasBit ws j)
set_bit ws i j h =
    let p = i / 64 in
    let k : i % 64 < 64 = omega arith in
    let v = bit_or (get_or ws p 0) (1 * 2 ^ (i % 64) % 2 ^ 64) in
    elim (cases_eq (j / 64) p) [
      | inl same ↦
          let read : get_or (set ws p v) (j / 64) 0 ≡ v = rw same (get_or-set_same ws p v 0 h) in
          elim (cases_eq (j % 64) (i % 64)) [
            | inl equal ↦
                let here : j ≡ i = omega arith in
                ((λ _. inl here), (λ _. rw (read, equal) (bit_at_set_same w64 (get_or ws p 0) (i % 64) k)))
            | inr other ↦
                let bit : bit_at v (j % 64) ≡ bit_at (get_or ws (j / 64) 0) (j % 64) = rw same (bit_at_set_other w64 (get_or ws p 0) (i % 64) k (j % 64) other) in
                ((λ b. inr (sym bit ∙ rw read at b)), elim [ inl here ↦ absurd (other (ap (λ n. n % 64) here)) | inr b ↦ rw read (bit ∙ b) ])
          ]
      | inr other ↦
          let read : get_or (set ws p v) (j / 64) 0 ≡ get_or ws (j / 64) 0 = get_or-set_other ws p (j / 64) v 0 other in
          ((λ b. inr (rw read at b)), elim [ inl here ↦ absurd (other (ap (λ n. n / 64) here)) | inr b ↦ rw read b ])
    ]

-- bit b of word k is the number k * 64 + b
pub bit_place : (ws : List ℕ) (k b : ℕ) → b < 64 → bit_at (get_or ws ((k * 64 + b) / 64) 0) ((k * 64 + b) % 64) ≡ bit_at (get_or ws k 0) b
bit_place ws k b h =
    let p : (k * 64 + b) / 64 ≡ k = omega arith in
    let r : (k * 64 + b) % 64 ≡ b = omega arith in
    rw (p, r) refl

-- a bit of a join is a bit of either
pub or_bit : (x y b : ℕ) → (bit_at (bit_or x y) b ≡ 1) ↔ ((bit_at x b ≡ 1) ⊎ (bit_at y b ≡ 1))
or_bit x y b =
    let e : bit_at (bit_or x y) b ≡ max (bit_at x b) (bit_at y b) = bit_at_or x y b in
    let bx : bit_at x b < 2 = bit_at-lt x b in
    let by : bit_at y b < 2 = bit_at-lt y b in
    ((λ h. elim (bit_cases x b) [ inl one ↦ inl one | inr off ↦ inr (omega arith) ]), elim [ inl one ↦ omega arith | inr one ↦ omega arith ])

-- a bit of the common part is a bit of both
pub and_bit : (x y b : ℕ) → (bit_at (bit_and x y) b ≡ 1) ↔ ((bit_at x b ≡ 1) × (bit_at y b ≡ 1))
and_bit x y b =
    let e : bit_at (bit_and x y) b ≡ min (bit_at x b) (bit_at y b) = bit_at_and x y b in
    let bx : bit_at x b < 2 = bit_at-lt x b in
    let by : bit_at y b < 2 = bit_at-lt y b in
    ((λ h. (omega arith, omega arith)), (λ h. let h0 : bit_at x b ≡ 1 = h.0 in let h1 : bit_at y b ≡ 1 = h.1 in omega arith))

-- a bit that is left is a bit of x and none of y
pub without_bit : (x y b : ℕ) → y < 2 ^ 64 → b < 64 → (bit_at (bit_and x (bit_not w64 y)) b ≡ 1) ↔ ((bit_at x b ≡ 1) × (bit_at y b ≡ 1 → ⊥))
without_bit x y b fits h =
    let n : bit_at (bit_not w64 y) b ≡ 1 - bit_at y b = bit_at_not w64 y b fits h in
    let by : bit_at y b < 2 = bit_at-lt y b in
    let both = and_bit x (bit_not w64 y) b in (
      (λ k. ((both.0 k).0, (λ one. let left : bit_at (bit_not w64 y) b ≡ 1 = (both.0 k).1 in omega arith))),
      (λ k. both.1 (k.0, elim (bit_cases y b) [ inl one ↦ absurd (k.1 one) | inr off ↦ omega arith ])),
    )

-- the first n bits of y that x lacks, if there are any
seek : (x y n : ℕ) → ((b : ℕ) × (b < n) × (bit_at y b ≡ 1) × (bit_at x b ≡ 1 → ⊥)) ⊎ ((b : ℕ) → b < n → bit_at (bit_or x y) b ≡ bit_at x b)
seek x y zero = inr (λ b h. absurd (omega arith))
seek x y (suc n) = elim (seek x y n) [
  | inl found ↦ inl (found.0, omega (arith, found.1), found.2, found.3)
  | inr none ↦ elim (bit_cases x n) [
    | inl one ↦ inr (λ b h. elim (cases_eq b n) [
      | inl same ↦ rw same ((or_bit x y n).1 (inl one) ∙ sym one)
      | inr other ↦ none b (omega arith)
    ])
    | inr off ↦ elim (bit_cases y n) [
      | inl one ↦ inl (n, omega arith, one, (λ k. let z : bit_at x n ≡ 0 = off in omega arith))
      | inr gone ↦ inr (λ b h. elim (cases_eq b n) [
        | inl same ↦ rw same (bit_at_or x y n ∙ (let z : bit_at x n ≡ 0 = off in let g : bit_at y n ≡ 0 = gone in omega arith))
        | inr other ↦ none b (omega arith)
      ])
    ]
  ]
]

-- a join that differs from x has a bit that x lacks
pub new_bit : (x y : ℕ) → x < 2 ^ 64 → y < 2 ^ 64 → bit_or x y ≢ x → (b : ℕ) × (b < 64) × (bit_at y b ≡ 1) × (bit_at x b ≡ 1 → ⊥)
new_bit x y hx hy differs = elim (seek x y 64) [
  | inl found ↦ found
  | inr none ↦ absurd (differs (same_from_bits_below 64 (bit_or x y) x (or_lt 64 x y hx hy) hx none))
]

-- a word that is not 0 has a bit
pub some_bit : (x : ℕ) → x < 2 ^ 64 → x ≢ 0 → (b : ℕ) × (b < 64) × (bit_at x b ≡ 1)
some_bit x h differs =
    let t = bit_at-trailing_zeros w64 x (omega arith) h in
    (trailing_zeros w64 x, t.0, t.1)

-- the sets, from their words
pub union_bits : (xs ys zs : List ℕ) → ((k : ℕ) → get_or zs k 0 ≡ bit_or (get_or xs k 0) (get_or ys k 0)) → (i : ℕ) → HasBit zs i ↔ (HasBit xs i ⊎ HasBit ys i)
union_bits xs ys zs each i = rw (each (i / 64)) (or_bit (get_or xs (i / 64) 0) (get_or ys (i / 64) 0) (i % 64))

pub subtract_bits : (xs ys zs : List ℕ) → ((k : ℕ) → get_or ys k 0 < 2 ^ 64) → ((k : ℕ) → get_or zs k 0 ≡ bit_and (get_or xs k 0) (bit_not w64 (get_or ys k 0))) → (i : ℕ) → HasBit zs i ↔ (HasBit xs i × (HasBit ys i → ⊥))
subtract_bits xs ys zs fits each i = rw (each (i / 64)) (without_bit (get_or xs (i / 64) 0) (get_or ys (i / 64) 0) (i % 64) (fits (i / 64)) (omega arith))

-- where a word of the join of y into x differs from that of x, y has a number that x lacks
pub added_bit : (xs ys : List ℕ) (k : ℕ) → get_or xs k 0 < 2 ^ 64 → get_or ys k 0 < 2 ^ 64 → bit_or (get_or xs k 0) (get_or ys k 0) ≢ get_or xs k 0 → (i : ℕ) × HasBit ys i × (HasBit xs i → ⊥)
added_bit xs ys k hx hy differs =
    let f = new_bit (get_or xs k 0) (get_or ys k 0) hx hy differs in
    (k * 64 + f.0, bit_place ys k f.0 f.1 ∙ f.2, (λ h. f.3 (sym (bit_place xs k f.0 f.1) ∙ h)))

-- a number in both, from a common part that is not 0
pub common_bit : (xs ys : List ℕ) (k : ℕ) → get_or xs k 0 < 2 ^ 64 → bit_and (get_or xs k 0) (get_or ys k 0) ≢ 0 → (i : ℕ) × HasBit xs i × HasBit ys i
common_bit xs ys k hx differs =
    let below : bit_and (get_or xs k 0) (get_or ys k 0) < 2 ^ 64 = let l = and_le_l (get_or xs k 0) (get_or ys k 0) in omega arith in
    let f = some_bit (bit_and (get_or xs k 0) (get_or ys k 0)) below differs in
    let both = (and_bit (get_or xs k 0) (get_or ys k 0) f.0).0 f.2 in
    (k * 64 + f.0, bit_place xs k f.0 f.1 ∙ both.0, bit_place ys k f.0 f.1 ∙ both.1)

-- no number in both, where each common part is 0
pub no_common_bit : (xs ys : List ℕ) → ((k : ℕ) → bit_and (get_or xs k 0) (get_or ys k 0) ≡ 0) → (i : ℕ) → HasBit xs i → HasBit ys i → ⊥
no_common_bit xs ys none i hx hy =
    let one : bit_at (bit_and (get_or xs (i / 64) 0) (get_or ys (i / 64) 0)) (i % 64) ≡ 1 = (and_bit (get_or xs (i / 64) 0) (get_or ys (i / 64) 0) (i % 64)).1 (hx, hy) in
    let off : bit_at (bit_and (get_or xs (i / 64) 0) (get_or ys (i / 64) 0)) (i % 64) ≡ 0 = rw (none (i / 64)) (bit_at-zero (i % 64)) in
    omega arith

-- what holds of the words of two lists of one length holds past their ends
pub all_words : (P : ℕ → ℕ → ℕ → Type 0) (xs ys zs : List ℕ) → P 0 0 0 → length xs ≡ length ys → length zs ≡ length xs → ((k : ℕ) → k < length xs → P (get_or xs k 0) (get_or ys k 0) (get_or zs k 0)) → (k : ℕ) → P (get_or xs k 0) (get_or ys k 0) (get_or zs k 0)
all_words P xs ys zs none same same' each k = elim (cases_lt k (length xs)) [
  | inl here ↦ each k here
  | inr past ↦
      let x : get_or xs k 0 ≡ 0 = get_or_past xs k 0 past in
      let y : get_or ys k 0 ≡ 0 = get_or_past ys k 0 (omega arith) in
      let z : get_or zs k 0 ≡ 0 = get_or_past zs k 0 (omega arith) in
      rw (x, y, z) none
]

-- one bit more in the word w that is read
pub set_read_bit : (ws : List ℕ) (i j w : ℕ) → i / 64 < length ws → w ≡ get_or ws (i / 64) w → HasBit (set ws (i / 64) (bit_or w (1 * 2 ^ (i % 64) % 2 ^ 64))) j ↔ ((j ≡ i) ⊎ HasBit ws j)
set_read_bit ws i j w h e =
    let read : w ≡ get_or ws (i / 64) 0 = e ∙ get_or_default ws (i / 64) w 0 h in
    subst (λ v. HasBit (set ws (i / 64) (bit_or v (1 * 2 ^ (i % 64) % 2 ^ 64))) j ↔ ((j ≡ i) ⊎ HasBit ws j)) (sym read) (set_bit ws i j h)

-- the test of one bit
pub mask_bit : (w k : ℕ) → k < 64 → (bit_and w (1 * 2 ^ k % 2 ^ 64) ≡ 0) ↔ (bit_at w k ≡ 1 → ⊥)
mask_bit w k h =
    let below : 2 ^ k < 2 ^ 64 = pow_below k 64 h in
    let mask : 1 * 2 ^ k % 2 ^ 64 ≡ 2 ^ k = omega arith in
    let pos : 0 < 2 ^ k = pow_pos k in
    rw (mask, and_pow w k) (
      (λ e one. let z : bit_at w k * 2 ^ k ≡ 0 = e in let full : 1 * 2 ^ k ≡ 0 = rw one at z in omega arith),
      (λ no. elim (bit_cases w k) [ inl one ↦ absurd (no one) | inr off ↦ rw off (omega arith) ]),
    )

-- the test of the word that is read
pub read_bit : (ws : List ℕ) (i w : ℕ) → i / 64 < length ws → w ≡ get_or ws (i / 64) w → (bit_and w (1 * 2 ^ (i % 64) % 2 ^ 64) ≡ 0) ↔ (HasBit ws i → ⊥)
read_bit ws i w h e =
    let read : w ≡ get_or ws (i / 64) 0 = e ∙ get_or_default ws (i / 64) w 0 h in
    subst (λ v. (bit_and w (1 * 2 ^ (i % 64) % 2 ^ 64) ≡ 0) ↔ (bit_at v (i % 64) ≡ 1 → ⊥)) read (mask_bit w (i % 64) (omega arith))

-- a number below the length has its word
pub place_within : (len i n : ℕ) → n ≡ div_ceil len 64 → i < len → i / 64 < n
place_within len i n e h = rw e (omega arith)

-- a number without a bit
off_bit : (n i : ℕ) → bit_at n i ≡ 0 → bit_at n i ≡ 1 → ⊥
off_bit n i off on = let a : bit_at n i ≡ 0 = off in let b : bit_at n i ≡ 1 = on in omega arith

-- the lowest number of a word that is not 0
pub lowest_held : (ws : List ℕ) (k w : ℕ) → get_or ws k 0 ≡ w → w < 2 ^ 64 → w ≢ 0 → HasBit ws (k * 64 + trailing_zeros w64 w) × (trailing_zeros w64 w < 64) × ((i : ℕ) → k * 64 ≤ i → i < k * 64 + trailing_zeros w64 w → HasBit ws i → ⊥)
lowest_held ws k w e fits differs =
    let t = bit_at-trailing_zeros w64 w (omega arith) fits in
    let low : trailing_zeros w64 w < 64 = t.0 in (
      bit_place ws k (trailing_zeros w64 w) low ∙ rw e t.1,
      low,
      (λ i from to.
          let place : i / 64 ≡ k = omega arith in
          let below : i % 64 < trailing_zeros w64 w = omega arith in
          rw (place, e) (off_bit w (i % 64) (t.2 (i % 64) below))),
    )

-- a word that is 0 holds no number
pub none_held : (ws : List ℕ) (k : ℕ) → get_or ws k 0 ≡ 0 → (i : ℕ) → k * 64 ≤ i → i < k * 64 + 64 → HasBit ws i → ⊥
none_held ws k e i from to =
    let place : i / 64 ≡ k = omega arith in
    rw (place, e) (off_bit 0 (i % 64) (bit_at-zero (i % 64)))

-- the bits from k on of a word
masked_on : (w k b : ℕ) → k ≤ b → b < 64 → bit_at (bit_and w ((2 ^ 64 - 1) * 2 ^ k % 2 ^ 64)) b ≡ bit_at w b
masked_on w k b from to =
    let mask = ones_shl 64 k (omega arith) in
    let one : bit_at (2 ^ 64 - 2 ^ k) b ≡ 1 = bit_at_mask_inside k 64 b from to in
    let small : bit_at w b < 2 = bit_at-lt w b in
    rw mask (bit_at_and w (2 ^ 64 - 2 ^ k) b ∙ rw one (omega arith))

masked_off : (w k b : ℕ) → k ≤ 64 → b < k → bit_at (bit_and w ((2 ^ 64 - 1) * 2 ^ k % 2 ^ 64)) b ≡ 0
masked_off w k b within below =
    let mask = ones_shl 64 k within in
    let off : bit_at (2 ^ 64 - 2 ^ k) b ≡ 0 = bit_at_mask_below k 64 b below in
    rw mask (bit_at_and w (2 ^ 64 - 2 ^ k) b ∙ rw off (omega arith))

-- the lowest number from `from` on, where its word has one
pub lowest_from : (ws : List ℕ) (from w : ℕ) → get_or ws (from / 64) 0 ≡ w → w < 2 ^ 64 → bit_and w ((2 ^ 64 - 1) * 2 ^ (from % 64) % 2 ^ 64) ≢ 0
    → let t = trailing_zeros w64 (bit_and w ((2 ^ 64 - 1) * 2 ^ (from % 64) % 2 ^ 64)) in HasBit ws (from / 64 * 64 + t) × (t < 64) × (from ≤ from / 64 * 64 + t) × ((i : ℕ) → from ≤ i → i < from / 64 * 64 + t → HasBit ws i → ⊥)
lowest_from ws from w e fits differs =
    let m : ℕ = bit_and w ((2 ^ 64 - 1) * 2 ^ (from % 64) % 2 ^ 64) in
    let small : m < 2 ^ 64 = let l : m ≤ w = and_le_l w ((2 ^ 64 - 1) * 2 ^ (from % 64) % 2 ^ 64) in omega arith in
    let t = bit_at-trailing_zeros w64 m (omega arith) small in
    let low : trailing_zeros w64 m < 64 = t.0 in
    let after : from % 64 ≤ trailing_zeros w64 m = elim (cases_lt (trailing_zeros w64 m) (from % 64)) [
      | inl before ↦ absurd (off_bit m (trailing_zeros w64 m) (masked_off w (from % 64) (trailing_zeros w64 m) (omega arith) before) t.1)
      | inr fine ↦ fine
    ] in
    let on : bit_at w (trailing_zeros w64 m) ≡ 1 = sym (masked_on w (from % 64) (trailing_zeros w64 m) after low) ∙ t.1 in (
      bit_place ws (from / 64) (trailing_zeros w64 m) low ∙ rw e on,
      low,
      omega arith,
      (λ i start to.
          let place : i / 64 ≡ from / 64 = omega arith in
          let below : i % 64 < trailing_zeros w64 m = omega arith in
          let past : from % 64 ≤ i % 64 = omega arith in
          rw (place, e) (off_bit w (i % 64) (sym (masked_on w (from % 64) (i % 64) past (omega arith)) ∙ t.2 (i % 64) below))),
    )

-- no number from `from` on in its word
pub none_from : (ws : List ℕ) (from w : ℕ) → get_or ws (from / 64) 0 ≡ w → bit_and w ((2 ^ 64 - 1) * 2 ^ (from % 64) % 2 ^ 64) ≡ 0 → (i : ℕ) → from ≤ i → i < from / 64 * 64 + 64 → HasBit ws i → ⊥
none_from ws from w e z i start to =
    let place : i / 64 ≡ from / 64 = omega arith in
    let past : from % 64 ≤ i % 64 = omega arith in
    rw (place, e) (off_bit w (i % 64) (sym (masked_on w (from % 64) (i % 64) past (omega arith)) ∙ rw z (bit_at-zero (i % 64))))

-- a word with all of its bits
all_on : (n i : ℕ) → i / 64 < n → HasBit (replicate n (2 ^ 64 - 1)) i
all_on n i h = rw (get_or-replicate n (i / 64) (2 ^ 64 - 1) 0 h) (bit_at_ones 64 (i % 64) (omega arith))

-- no bit past the words
none_past : (ws : List ℕ) (i : ℕ) → length ws ≤ i / 64 → HasBit ws i → ⊥
none_past ws i h = rw (get_or_past ws (i / 64) 0 h) (off_bit 0 (i % 64) (bit_at-zero (i % 64)))

-- the numbers below a length that fills its words
pub full_even : (len i : ℕ) → len % 64 ≡ 0 → HasBit (replicate (div_ceil len 64) (2 ^ 64 - 1)) i ↔ (i < len)
full_even len i e = elim (cases_lt (i / 64) (div_ceil len 64)) [
  | inl here ↦ ((λ _. omega arith), (λ _. all_on (div_ceil len 64) i here))
  | inr past ↦ ((λ h. absurd (none_past (replicate (div_ceil len 64) (2 ^ 64 - 1)) i (rw (length-replicate (div_ceil len 64) (2 ^ 64 - 1)) past) h)), (λ below. absurd (omega arith)))
]

-- the numbers below a length that leaves bits of its last word
pub full_odd : (len i : ℕ) → len % 64 ≢ 0 → HasBit (set (replicate (div_ceil len 64) (2 ^ 64 - 1)) (len / 64) ((2 ^ 64 - 1) / 2 ^ (64 - len % 64))) i ↔ (i < len)
full_odd len i odd =
    let n = div_ceil len 64 in
    let r = len % 64 in
    let ws = replicate n (2 ^ 64 - 1) in
    let v = (2 ^ 64 - 1) / 2 ^ (64 - r) in
    let long : length ws ≡ n = length-replicate n (2 ^ 64 - 1) in
    let last : len / 64 < n = omega arith in
    let there : len / 64 < length ws = rw long last in
    let left : 64 - (64 - r) ≡ r = omega arith in
    let mask : v ≡ 2 ^ r - 1 = ones_shr 64 (64 - r) (omega arith) ∙ ap (λ k. 2 ^ k - 1) left in
    elim (cases_eq (i / 64) (len / 64)) [
      | inl same ↦
          let read : get_or (set ws (len / 64) v) (i / 64) 0 ≡ 2 ^ r - 1 = rw same (get_or-set_same ws (len / 64) v 0 there ∙ mask) in
          elim (cases_lt (i % 64) r) [
            | inl below ↦ ((λ _. omega arith), (λ _. rw read (bit_at_ones r (i % 64) below)))
            | inr above ↦ ((λ h. absurd (off_bit (2 ^ r - 1) (i % 64) (bit_at_ones_above r (i % 64) above) (rw read at h))), (λ below. absurd (omega arith)))
          ]
      | inr other ↦
          let read : get_or (set ws (len / 64) v) (i / 64) 0 ≡ get_or ws (i / 64) 0 = get_or-set_other ws (len / 64) (i / 64) v 0 other in
          elim (cases_lt (i / 64) n) [
            | inl here ↦ ((λ _. omega arith), (λ _. rw read (all_on n i here)))
            | inr past ↦ ((λ h. absurd (none_past ws i (rw long past) (rw read at h))), (λ below. absurd (omega arith)))
          ]
    ]
