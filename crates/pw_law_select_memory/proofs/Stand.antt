-- Bytes that stand in memory: what is stored and loaded, parts, and what stays.
use Rattle.std.proofs.Common.{ℕ, zero, suc, ◌≡◌, ◌+◌, ◌*◌, ◌/◌, ◌%◌, ◌^◌, ◌<◌, ◌≤◌, ◌⊎◌, inl, inr, arith, refl, ap, ap₂, sym, subst, ◌∙◌, Bool, true, false, true≢false, ◌&&◌, nat_eq, if◌then◌else◌, Option, None, Some, option_map, List, [], ◌∷◌, length, replicate, set, length-set}
use Rattle.std.proofs.lemmas.Bool.{and_parts, eqb-true, cases_eq, cases_lt}
use Rattle.std.proofs.lemmas.Bool.Decides.{nat_tests}
use Rattle.pw_value.specs.declared.value.Kind.{Kind}
use Rattle.pw_value.specs.declared.value.Kind.TheVariants.{S8, U8, S16, U16, W32}
use Rattle.pw_value.specs.declared.value.Value.{Value}
use Rattle.pw_value.specs.declared.value.Value.TheVariants.{Undefined, Num, Null, At, Piece}
use Rattle.pw_value.specs.declared.value.Byte.{Byte}
use Rattle.pw_value.specs.declared.value.Byte.TheVariants as B
use Rattle.pw_value.specs.declared.value.Pointer.{Pointer}
use Rattle.pw_value.specs.declared.value.Pointer.TheVariants as P
use Rattle.pw_value.specs.Objects.{byte_at, bytes_from, with_bytes}
use Rattle.pw_value.specs.Values.{number_bytes, pieces_of, encoding, number_in, scalar_in, extended, same_pointer, is_piece, is_zero}
use Rattle.pw_flow.specs.ValidFlow.{kind_size}
use Rattle.pw_inst.specs.Computing.{extracted, sign_extended}
use Rattle.pw_run.specs.Runs.{AreAlike}
use Rattle.pw_run_languages.specs.Memory.{scalar_of, may_stand, word_or_pointer}
use Rattle.pw_run_languages.specs.Acts.{put, number_at, with_number, bytes_at}
use Rattle.pw_run_languages.specs.Standing.{ByteStands, ValueStands, byte_of}
use Rattle.pw_law_select_memory.specs.Numbers.{HoldsBytes}
use Rattle.pw_law_select_memory.specs.Stand.{BytesStand, AreWords, word_of_kind}
use Rattle.pw_law_select_memory.proofs.Numbers.{put_same, put_other, first_stored, number_bounded}

module _ (address : Pointer → ℕ) where
  -- ---- what is stored

  numbers_stand : (width n a : ℕ) (memory : ℕ → ℕ) → BytesStand address (with_number width n a memory) a (number_bytes width n)
  numbers_stand zero n a memory = tt
  numbers_stand (suc more) n a memory =
      (first_stored more n a memory, numbers_stand more n (a + 1) (put a (n / 256 ^ more % 256) memory))

  undefined_stand : (width a : ℕ) (memory : ℕ → ℕ) → BytesStand address memory a (replicate width B.Undefined)
  undefined_stand zero a memory = tt
  undefined_stand (suc more) a memory = (tt, undefined_stand more (a + 1) memory)

  piece_stands : (q : Pointer) (j word a : ℕ) (memory : ℕ → ℕ) → word % 256 ≡ byte_of (address q) j
      → BytesStand address (with_number 1 word a memory) a (B.Piece q j ∷ [])
  piece_stands q j word a memory e =
      let one : word / 256 ^ 0 % 256 ≡ word % 256 = omega arith in (first_stored 0 word a memory ∙ (one ∙ e), tt)

  pointer_stands : (q : Pointer) (word a : ℕ) (memory : ℕ → ℕ) → word ≡ address q → BytesStand address (with_number 4 word a memory) a (pieces_of q)
  pointer_stands q word a memory e =
      subst (λ w. BytesStand address (with_number 4 w a memory) a (pieces_of q)) (sym e) (numbers_stand 4 (address q) a memory)

  number_stands : (width v word a : ℕ) (memory : ℕ → ℕ) → word ≡ v → BytesStand address (with_number width word a memory) a (number_bytes width v)
  number_stands width v word a memory e =
      subst (λ w. BytesStand address (with_number width w a memory) a (number_bytes width v)) (sym e) (numbers_stand width v a memory)

  pub stored_stands : (k : Kind) (v : Value) (word a : ℕ) (memory : ℕ → ℕ) → may_stand k v ≡ true → ValueStands address v word
      → BytesStand address (with_number (kind_size k) word a memory) a (encoding v (kind_size k))
  stored_stands k Undefined word a memory may h = undefined_stand (kind_size k) a (with_number (kind_size k) word a memory)
  stored_stands k (Num v) word a memory may h = number_stands (kind_size k) v word a memory h
  stored_stands S8 Null word a memory may h = absurd (true≢false (sym may))
  stored_stands U8 Null word a memory may h = absurd (true≢false (sym may))
  stored_stands S16 Null word a memory may h = absurd (true≢false (sym may))
  stored_stands U16 Null word a memory may h = absurd (true≢false (sym may))
  stored_stands W32 Null word a memory may h = absurd (true≢false (sym may))
  stored_stands S8 (At q) word a memory may h = absurd (true≢false (sym may))
  stored_stands U8 (At q) word a memory may h = absurd (true≢false (sym may))
  stored_stands S16 (At q) word a memory may h = absurd (true≢false (sym may))
  stored_stands U16 (At q) word a memory may h = absurd (true≢false (sym may))
  stored_stands W32 (At q) word a memory may h = pointer_stands q word a memory h
  stored_stands S8 (Piece q j) word a memory may h = piece_stands q j word a memory h
  stored_stands U8 (Piece q j) word a memory may h = piece_stands q j word a memory h
  stored_stands S16 (Piece q j) word a memory may h = absurd (true≢false (sym may))
  stored_stands U16 (Piece q j) word a memory may h = absurd (true≢false (sym may))
  stored_stands W32 (Piece q j) word a memory may h = absurd (true≢false (sym may))

  -- ---- what is loaded

  -- a number, where there is one
  IsNumber : Option ℕ → ℕ → Type 0
  IsNumber None n = Unit {0}
  IsNumber (Some m) n = n ≡ m

  with_byte : (o : Option ℕ) (b m p n : ℕ) → m ≡ b → IsNumber o n → IsNumber (option_map (λ low. b * p + low) o) (m * p + n)
  unfolding IsNumber
  with_byte None b m p n e h = tt
  with_byte (Some low) b m p n e h = ap₂ (λ x y. x * p + y) e h

  numbers_read : (memory : ℕ → ℕ) (a : ℕ) (bytes : List Byte) → BytesStand address memory a bytes → IsNumber (number_in bytes) (number_at (length bytes) memory a)
  numbers_read memory a [] h = unfold IsNumber in refl
  numbers_read memory a (B.Num b ∷ rest) h =
      with_byte (number_in rest) b (memory a) (256 ^ length rest) (number_at (length rest) memory (a + 1)) h.0 (numbers_read memory (a + 1) rest h.1)
  numbers_read memory a (B.Undefined ∷ rest) h = unfold IsNumber in tt
  numbers_read memory a (B.Piece q j ∷ rest) h = unfold IsNumber in tt

  spread_8 : (n : ℕ) → n < 256 → sign_extended 8 (extracted n 31 8) ≡ extended 1 true n
  spread_8 n small = grind (arith, nat_tests)

  spread_16 : (n : ℕ) → n < 65536 → sign_extended 16 (extracted n 31 16) ≡ extended 2 true n
  spread_16 n small = grind (arith, nat_tests)

  -- the low byte stays where a sign is spread
  low_8 : (n m : ℕ) → n < 256 → n ≡ m → sign_extended 8 (extracted n 31 8) % 256 ≡ m
  low_8 n m small e = grind (arith, nat_tests)

  -- the value of a number that bytes write
  scalar_number : ℕ → Bool → Option ℕ → Value
  scalar_number width signed None = Undefined
  scalar_number width signed (Some n) = Num (extended width signed n)

  unsigned_stands : (width n : ℕ) (o : Option ℕ) → IsNumber o n → ValueStands address (scalar_number width false o) n
  unfolding IsNumber scalar_number
  unsigned_stands width n None h = tt
  unsigned_stands width n (Some m) h = h

  signed_stands : (width n w : ℕ) (o : Option ℕ) → w ≡ extended width true n → IsNumber o n → ValueStands address (scalar_number width true o) w
  unfolding IsNumber scalar_number
  signed_stands width n w None e h = tt
  signed_stands width n w (Some m) e h = e ∙ ap (extended width true) h

  scalar_two : (b c : Byte) (rest : List Byte) (signed : Bool)
      → scalar_in (b ∷ c ∷ rest) signed ≡ scalar_number (length (b ∷ c ∷ rest)) signed (number_in (b ∷ c ∷ rest))
  unfolding scalar_number
  scalar_two B.Undefined c rest signed = refl
  scalar_two (B.Num n) c rest signed = refl
  scalar_two (B.Piece p i) c rest signed = refl

  piece_low : (m n : ℕ) → m ≡ n → n < 256 → (m * 256 ^ 0 + 0) % 256 ≡ n
  piece_low m n e small = omega (arith, e, small)

  byte_small : (word j : ℕ) → byte_of word j < 256
  byte_small word j = omega arith

  one_unsigned : (memory : ℕ → ℕ) (a : ℕ) (b : Byte) → BytesStand address memory a (b ∷ [])
      → ValueStands address (scalar_in (b ∷ []) false) (number_at 1 memory a)
  one_unsigned memory a B.Undefined h = tt
  one_unsigned memory a (B.Num n) h = ap (λ m. m * 256 ^ 0 + 0) h.0
  one_unsigned memory a (B.Piece q j) h = piece_low (memory a) (byte_of (address q) j) h.0 (byte_small (address q) j)

  one_signed : (memory : ℕ → ℕ) (a : ℕ) (b : Byte) → HoldsBytes memory → BytesStand address memory a (b ∷ [])
      → ValueStands address (scalar_in (b ∷ []) true) (word_of_kind S8 (number_at 1 memory a))
  one_signed memory a B.Undefined bytes h = tt
  one_signed memory a (B.Num n) bytes h =
      let small : number_at 1 memory a < 256 = number_bounded 1 a memory bytes in
      spread_8 (number_at 1 memory a) small ∙ ap (λ m. extended 1 true (m * 256 ^ 0 + 0)) h.0
  one_signed memory a (B.Piece q j) bytes h =
      let small : number_at 1 memory a < 256 = number_bounded 1 a memory bytes in
      let low : number_at 1 memory a ≡ byte_of (address q) j = one (memory a) (byte_of (address q) j) h.0 in
      low_8 (number_at 1 memory a) (byte_of (address q) j) small low
    where
      one : (m n : ℕ) → m ≡ n → m * 256 ^ 0 + 0 ≡ n
      one m n e = omega (arith, e)

  -- ---- pointers

  same : (p q : Pointer) → same_pointer p q ≡ true → p ≡ q
  same (P.Object a i) (P.Object b j) h =
      let e = and_parts (nat_eq a b) (nat_eq i j) h in ap₂ (λ (f k : ℕ). P.Object f k) (eqb-true a b e.0) (eqb-true i j e.1)
  same (P.Function f) (P.Function g) h = ap P.Function (eqb-true f g h)
  same (P.Object a i) (P.Function g) h = absurd (true≢false (sym h))
  same (P.Function f) (P.Object b j) h = absurd (true≢false (sym h))

  -- what stands for a piece is its byte
  piece_read : (p : Pointer) (j : ℕ) (b : Byte) (m : ℕ) → is_piece p j b ≡ true → ByteStands address b m → m ≡ byte_of (address p) j
  piece_read p j B.Undefined m t h = absurd (true≢false (sym t))
  piece_read p j (B.Num n) m t h = absurd (true≢false (sym t))
  piece_read p j (B.Piece q i) m t h =
      let e = and_parts (same_pointer p q) (nat_eq j i) t in
      h ∙ ap₂ (λ (r : Pointer) (k : ℕ). byte_of (address r) k) (sym (same p q e.0)) (sym (eqb-true j i e.1))

  four_bytes : (x w y z v n : ℕ) → n < 2 ^ 32 → x ≡ byte_of n 0 → w ≡ byte_of n 1 → y ≡ byte_of n 2 → z ≡ byte_of n 3
      → x * 256 ^ 3 + (w * 256 ^ 2 + (y * 256 ^ 1 + (z * 256 ^ 0 + 0))) ≡ n
  four_bytes x w y z v n small a b c d = omega (arith, small, a, b, c, d)

  word_stands : (memory : ℕ → ℕ) (a : ℕ) (b c d e : Byte) → AreWords address → BytesStand address memory a (b ∷ c ∷ d ∷ e ∷ [])
      → ValueStands address (scalar_of W32 (b ∷ c ∷ d ∷ e ∷ [])) (number_at 4 memory a)
  unfolding IsNumber scalar_number
  word_stands memory a B.Undefined c d e words h = tt
  word_stands memory a (B.Num n) c d e words h =
      by_number (nat_eq n 0 && is_zero c && is_zero d && is_zero e) (number_in (B.Num n ∷ c ∷ d ∷ e ∷ [])) (numbers_read memory a (B.Num n ∷ c ∷ d ∷ e ∷ []) h)
    where
      by_number : (t : Bool) (o : Option ℕ) → IsNumber o (number_at 4 memory a)
          → ValueStands address (word_or_pointer (scalar_number 4 false o) (if t then Null else Undefined)) (number_at 4 memory a)
      by_number true None k = tt
      by_number false None k = tt
      by_number true (Some m) k = k
      by_number false (Some m) k = k
  word_stands memory a (B.Piece p i) c d e words h =
      by_test (nat_eq i 0 && is_piece p 1 c && is_piece p 2 d && is_piece p 3 e) refl
    where
      by_test : (t : Bool) → (nat_eq i 0 && is_piece p 1 c && is_piece p 2 d && is_piece p 3 e) ≡ t
          → ValueStands address (word_or_pointer Undefined (if t then At p else Undefined)) (number_at 4 memory a)
      by_test false is = tt
      by_test true is =
          let one = and_parts (nat_eq i 0 && is_piece p 1 c && is_piece p 2 d) (is_piece p 3 e) is in
          let two = and_parts (nat_eq i 0 && is_piece p 1 c) (is_piece p 2 d) one.0 in
          let three = and_parts (nat_eq i 0) (is_piece p 1 c) two.0 in
          four_bytes (memory a) (memory (a + 1)) (memory (a + 1 + 1)) (memory (a + 1 + 1 + 1)) 0 (address p) (words p)
          (h.0 ∙ ap (byte_of (address p)) (eqb-true i 0 three.0))
          (piece_read p 1 c (memory (a + 1)) three.1 h.1.0) (piece_read p 2 d (memory (a + 1 + 1)) two.1 h.1.1.0)
          (piece_read p 3 e (memory (a + 1 + 1 + 1)) one.1 h.1.1.1.0)

  -- ---- by kinds

  pub loaded_stands : (k : Kind) (bytes : List Byte) (a : ℕ) (memory : ℕ → ℕ) → AreWords address → HoldsBytes memory
      → length bytes ≡ kind_size k → BytesStand address memory a bytes → ValueStands address (scalar_of k bytes) (word_of_kind k (number_at (kind_size k) memory a))
  loaded_stands S8 (b ∷ []) a memory words bytes size h = one_signed memory a b bytes h
  loaded_stands U8 (b ∷ []) a memory words bytes size h = one_unsigned memory a b h
  loaded_stands S16 (b ∷ c ∷ []) a memory words bytes size h =
      let small : number_at 2 memory a < 65536 = number_bounded 2 a memory bytes in
      subst (λ v. ValueStands address v (word_of_kind S16 (number_at 2 memory a))) (sym (scalar_two b c [] true))
      (signed_stands 2 (number_at 2 memory a) (word_of_kind S16 (number_at 2 memory a)) (number_in (b ∷ c ∷ [])) (spread_16 (number_at 2 memory a) small)
      (numbers_read memory a (b ∷ c ∷ []) h))
  loaded_stands U16 (b ∷ c ∷ []) a memory words bytes size h =
      subst (λ v. ValueStands address v (number_at 2 memory a)) (sym (scalar_two b c [] false))
      (unsigned_stands 2 (number_at 2 memory a) (number_in (b ∷ c ∷ [])) (numbers_read memory a (b ∷ c ∷ []) h))
  loaded_stands W32 (b ∷ c ∷ d ∷ e ∷ []) a memory words bytes size h = word_stands memory a b c d e words h
  loaded_stands S8 [] a memory words bytes size h = absurd (omega (arith, size))
  loaded_stands S8 (b ∷ c ∷ rest) a memory words bytes size h = absurd (omega (arith, size))
  loaded_stands U8 [] a memory words bytes size h = absurd (omega (arith, size))
  loaded_stands U8 (b ∷ c ∷ rest) a memory words bytes size h = absurd (omega (arith, size))
  loaded_stands S16 [] a memory words bytes size h = absurd (omega (arith, size))
  loaded_stands S16 (b ∷ []) a memory words bytes size h = absurd (omega (arith, size))
  loaded_stands S16 (b ∷ c ∷ d ∷ rest) a memory words bytes size h = absurd (omega (arith, size))
  loaded_stands U16 [] a memory words bytes size h = absurd (omega (arith, size))
  loaded_stands U16 (b ∷ []) a memory words bytes size h = absurd (omega (arith, size))
  loaded_stands U16 (b ∷ c ∷ d ∷ rest) a memory words bytes size h = absurd (omega (arith, size))
  loaded_stands W32 [] a memory words bytes size h = absurd (omega (arith, size))
  loaded_stands W32 (b ∷ []) a memory words bytes size h = absurd (omega (arith, size))
  loaded_stands W32 (b ∷ c ∷ []) a memory words bytes size h = absurd (omega (arith, size))
  loaded_stands W32 (b ∷ c ∷ d ∷ []) a memory words bytes size h = absurd (omega (arith, size))
  loaded_stands W32 (b ∷ c ∷ d ∷ e ∷ f ∷ rest) a memory words bytes size h = absurd (omega (arith, size))

  -- ---- parts, and what stays

  pub old_stands : (old memory : ℕ → ℕ) (a : ℕ) (bytes : List Byte) → ((b : ℕ) → a ≤ b → b < a + length bytes → memory b ≡ old b)
      → BytesStand address old a bytes → BytesStand address memory a bytes
  old_stands old memory a [] h k = tt
  old_stands old memory a (b ∷ bytes) h k = (
    subst (ByteStands address b) (sym (h a (omega arith) (omega arith))) k.0,
    old_stands old memory (a + 1) bytes (λ c low high. h c (omega (arith, low)) (omega (arith, high))) k.1,
  )

  byte_stands : (memory : ℕ → ℕ) (i a : ℕ) (bytes : List Byte) → i < length bytes → BytesStand address memory a bytes → ByteStands address (byte_at bytes i) (memory (a + i))
  byte_stands memory i a [] less h = absurd (omega (arith, less))
  byte_stands memory zero a (b ∷ bytes) less h = let e : a + 0 ≡ a = omega arith in rw e h.0
  byte_stands memory (suc i) a (b ∷ bytes) less h =
      let e : a + suc i ≡ a + 1 + i = omega arith in rw e (byte_stands memory i (a + 1) bytes (omega (arith, less)) h.1)

  pub part_stands : (memory : ℕ → ℕ) (n i a : ℕ) (bytes : List Byte) → i + n ≤ length bytes → BytesStand address memory a bytes
      → BytesStand address memory (a + i) (bytes_from n i bytes)
  part_stands memory zero i a bytes within h = tt
  part_stands memory (suc more) i a bytes within h =
      let e : a + i + 1 ≡ a + suc i = omega arith in (
        byte_stands memory i a bytes (omega (arith, within)) h,
        subst (λ x. BytesStand address memory x (bytes_from more (suc i) bytes)) (sym e) (part_stands memory more (suc i) a bytes (omega (arith, within)) h),
      )

  -- one byte is new
  one_new : (old memory : ℕ → ℕ) (i a : ℕ) (new : Byte) (bytes : List Byte) → i < length bytes → ((b : ℕ) → (b ≡ a + i → ⊥) → memory b ≡ old b)
      → ByteStands address new (memory (a + i)) → BytesStand address old a bytes → BytesStand address memory a (set bytes i new)
  one_new old memory i a new [] less h n k = absurd (omega (arith, less))
  one_new old memory zero a new (b ∷ bytes) less h n k =
      let e : a + 0 ≡ a = omega arith in
      (rw e at n, old_stands old memory (a + 1) bytes (λ c low high. h c (λ is. omega (arith, is, low))) k.1)
  one_new old memory (suc i) a new (b ∷ bytes) less h n k =
      let e : a + suc i ≡ a + 1 + i = omega arith in (
        subst (ByteStands address b) (sym (h a (λ is. omega (arith, is)))) k.0,
        one_new old memory i (a + 1) new bytes (omega (arith, less)) (λ c ne. h c (λ is. ne (is ∙ e))) (subst (λ x. ByteStands address new (memory x)) e n) k.1,
      )

  -- behind a byte that is new already
  between : (old memory : ℕ → ℕ) (p b : ℕ) → (b ≡ p) ⊎ (b ≡ p → ⊥) → ((b ≡ p → ⊥) → memory b ≡ old b) → memory b ≡ put p (memory p) old b
  between old memory p b (inl is) h = ap memory is ∙ (sym (put_same p (memory p) old) ∙ ap (put p (memory p) old) (sym is))
  between old memory p b (inr ne) h = h ne ∙ sym (put_other p (memory p) b old ne)

  pub new_stands : (old memory : ℕ → ℕ) (i a : ℕ) (new bytes : List Byte) → i + length new ≤ length bytes
      → ((b : ℕ) → (b < a + i) ⊎ (a + i + length new ≤ b) → memory b ≡ old b)
      → BytesStand address memory (a + i) new → BytesStand address old a bytes → BytesStand address memory a (with_bytes new i bytes)
  new_stands old memory i a [] bytes within h n k = old_stands old memory a bytes (λ c low high. all c (cases_lt c (a + i))) k
    where
      all : (c : ℕ) → (c < a + i) ⊎ (a + i ≤ c) → memory c ≡ old c
      all c (inl low) = h c (inl low)
      all c (inr high) = h c (inr (omega (arith, high)))
  new_stands old memory i a (x ∷ more) bytes within h n k =
      let p = a + i in
      let mid = put p (memory p) old in
      let less : i < length bytes = omega (arith, within) in
      let at : ByteStands address x (mid p) = subst (ByteStands address x) (sym (put_same p (memory p) old)) n.0 in
      let first : BytesStand address mid a (set bytes i x) = one_new old mid i a x bytes less (λ b ne. put_other p (memory p) b old ne) at k in
      let e : a + i + 1 ≡ a + suc i = omega arith in
      new_stands mid memory (suc i) a more (set bytes i x) (omega (arith, within, length-set bytes i x))
      (λ b out. between old memory p b (cases_eq b p) (λ ne. h b (outer b out ne)))
      (subst (λ y. BytesStand address memory y more) e n.1) first
    where
      outer : (b : ℕ) → (b < a + suc i) ⊎ (a + suc i + length more ≤ b) → (b ≡ a + i → ⊥) → (b < a + i) ⊎ (a + i + length (x ∷ more) ≤ b)
      outer b (inl low) ne = inl (omega (arith, low, ne))
      outer b (inr high) ne = inr (omega (arith, high))

  pub alike_stands : (memory : ℕ → ℕ) (a : ℕ) (bytes : List Byte) → BytesStand address memory a bytes
      → AreAlike (ByteStands address) bytes (bytes_at (length bytes) memory a)
  alike_stands memory a [] h = AreAlike.none
  alike_stands memory a (b ∷ bytes) h =
      AreAlike.also b (memory a) bytes (bytes_at (length bytes) memory (a + 1)) h.0 (alike_stands memory (a + 1) bytes h.1)
