-- A memory as pages, by its words.
use Rattle.std.proofs.Common.{ℕ, zero, suc, ◌+◌, ◌*◌, ◌/◌, ◌%◌, ◌^◌, ◌<◌, ◌≤◌, ◌≡◌, List, [], ◌∷◌, ◌++◌, length, get_or, replicate, refl, sym, ap, subst, ◌∙◌, arith}
use Rattle.std.proofs.Math.ListN.{set}
use Rattle.std.proofs.lemmas.List.{length-replicate, length-set, replicate-append-replicate, get_or-set_same, set-set, get_or_default}
use Rattle.std.specs.List.{AllByRecursion, concat}
use Rattle.std.specs.Int.{to_be_bytes, w32}
use Rattle.pw_pages.specs.Bytes.{byte_at, half_at, word_at, with_word, bytes_of, zeros}
use Rattle.pw_pages.specs.Paged.{IsPage, bytes_in}
use Rattle.pw_pages.proofs.Chunks.{length-pages, word_of_page, put_word_in, put_in_page}
use Rattle.pw_pages.proofs.InWords.{length-bytes_of, byte_of_word, put_in_word, word_is, put_word}

abbrev pub ArePages : List (List ℕ) → Type 0
ArePages pages = AllByRecursion IsPage pages

pub length-bytes_in : (pages : List (List ℕ)) → ArePages pages → length (bytes_in pages) ≡ 4096 * length pages
unfolding bytes_in
length-bytes_in pages are = omega (arith, length-bytes_of (concat pages), length-pages pages are)

-- what was looked up twice is one
pub one_page : (pages : List (List ℕ)) (page page' : List ℕ) (n : ℕ) → n < length pages → page ≡ get_or pages n page → page' ≡ get_or pages n page' → page' ≡ page
one_page pages page page' n lt e e' = e' ∙ get_or_default pages n page' page lt ∙ sym e

pub page_within : (pages : List (List ℕ)) (i : ℕ) → ArePages pages → 4 * i + 4 ≤ length (bytes_in pages) → i / 1024 < length pages
page_within pages i are within = omega (arith, within, length-bytes_in pages are)

pub page_of_byte : (pages : List (List ℕ)) (a : ℕ) → ArePages pages → a < length (bytes_in pages) → a / 4 / 1024 < length pages
page_of_byte pages a are within = omega (arith, within, length-bytes_in pages are)

-- the word with a number
pub word_in_pages : (pages : List (List ℕ)) (i : ℕ) → ArePages pages → 4 * i + 4 ≤ length (bytes_in pages) → get_or (get_or pages (i / 1024) []) (i % 1024) 0 < 2 ^ 32
    → word_at (bytes_in pages) (4 * i) ≡ get_or (get_or pages (i / 1024) []) (i % 1024) 0
unfolding bytes_in
word_in_pages pages i are within small =
    let few : i < 1024 * length pages = omega (arith, within, length-bytes_of (concat pages), length-pages pages are) in
    let here = word_of_page pages are i few in
    let lt : i < length (concat pages) = omega (arith, few, length-pages pages are) in
    word_is (concat pages) i lt (omega (arith, here, small)) ∙ here

-- the byte at an address
pub byte_in_pages : (pages : List (List ℕ)) (a : ℕ) → ArePages pages → a < length (bytes_in pages)
    → byte_at (bytes_in pages) a ≡ get_or (to_be_bytes w32 (get_or (get_or pages (a / 4 / 1024) []) (a / 4 % 1024) 0)) (a % 4) 0
unfolding bytes_in
byte_in_pages pages a are within =
    let few : a / 4 < 1024 * length pages = omega (arith, within, length-bytes_of (concat pages), length-pages pages are) in
    let lt : a / 4 < length (concat pages) = omega (arith, few, length-pages pages are) in
    let place : a ≡ 4 * (a / 4) + a % 4 = omega arith in
    let small : a % 4 < 4 = omega arith in
    ap (λ (n : ℕ). get_or (bytes_of (concat pages)) n 0) place
    ∙ byte_of_word (concat pages) (a / 4) (a % 4) lt small
    ∙ ap (λ (w : ℕ). get_or (to_be_bytes w32 w) (a % 4) 0) (word_of_page pages are (a / 4) few)

-- ---- what is put

pub word_put : (pages : List (List ℕ)) (i value : ℕ) → ArePages pages → 4 * i + 4 ≤ length (bytes_in pages) → bytes_in (put_word_in pages i value) ≡ with_word (bytes_in pages) (4 * i) value
unfolding bytes_in
word_put pages i value are within =
    let few : i < 1024 * length pages = omega (arith, within, length-bytes_of (concat pages), length-pages pages are) in
    let lt : i < length (concat pages) = omega (arith, few, length-pages pages are) in
    sym (put_word (concat pages) i value lt ∙ ap bytes_of (put_in_page pages value are i few))

pub byte_put : (pages : List (List ℕ)) (a byte word' : ℕ) → ArePages pages → a < length (bytes_in pages)
    → to_be_bytes w32 word' ≡ set (to_be_bytes w32 (get_or (get_or pages (a / 4 / 1024) []) (a / 4 % 1024) 0)) (a % 4) byte
    → bytes_in (put_word_in pages (a / 4) word') ≡ set (bytes_in pages) a byte
unfolding bytes_in
byte_put pages a byte word' are within e =
    let few : a / 4 < 1024 * length pages = omega (arith, within, length-bytes_of (concat pages), length-pages pages are) in
    let lt : a / 4 < length (concat pages) = omega (arith, few, length-pages pages are) in
    let place : a ≡ 4 * (a / 4) + a % 4 = omega arith in
    let small : a % 4 < 4 = omega arith in
    let here = word_of_page pages are (a / 4) few in
    sym (ap (λ (n : ℕ). set (bytes_of (concat pages)) n byte) place
    ∙ put_in_word (concat pages) (a / 4) (a % 4) byte word' lt small (e ∙ ap (λ (w : ℕ). set (to_be_bytes w32 w) (a % 4) byte) (sym here))
    ∙ ap bytes_of (put_in_page pages word' are (a / 4) few))

pub half_put : (pages : List (List ℕ)) (a high low mid word' : ℕ) → ArePages pages → a + 2 ≤ length (bytes_in pages) → a % 2 ≡ 0
    → to_be_bytes w32 mid ≡ set (to_be_bytes w32 (get_or (get_or pages (a / 4 / 1024) []) (a / 4 % 1024) 0)) (a % 4) high
    → to_be_bytes w32 word' ≡ set (to_be_bytes w32 mid) (a % 4 + 1) low
    → bytes_in (put_word_in pages (a / 4) word') ≡ set (set (bytes_in pages) a high) (a + 1) low
unfolding bytes_in
half_put pages a high low mid word' are within even e e' =
    let few : a / 4 < 1024 * length pages = omega (arith, within, length-bytes_of (concat pages), length-pages pages are) in
    let lt : a / 4 < length (concat pages) = omega (arith, few, length-pages pages are) in
    let place : a ≡ 4 * (a / 4) + a % 4 = omega arith in
    let next : a + 1 ≡ 4 * (a / 4) + (a % 4 + 1) = omega arith in
    let small : a % 4 < 4 = omega arith in
    let small' : a % 4 + 1 < 4 = omega (arith, even) in
    let words = concat pages in
    let here = word_of_page pages are (a / 4) few in
    let again : get_or (set words (a / 4) mid) (a / 4) 0 ≡ mid = get_or-set_same words (a / 4) mid 0 lt in
    let lt' : a / 4 < length (set words (a / 4) mid) = omega (arith, lt, length-set words (a / 4) mid) in
    sym (ap (λ (n : ℕ). set (set (bytes_of words) n high) (a + 1) low) place
    ∙ ap (λ (l : List ℕ). set l (a + 1) low) (put_in_word words (a / 4) (a % 4) high mid lt small (e ∙ ap (λ (w : ℕ). set (to_be_bytes w32 w) (a % 4) high) (sym here)))
    ∙ ap (λ (n : ℕ). set (bytes_of (set words (a / 4) mid)) n low) next
    ∙ put_in_word (set words (a / 4) mid) (a / 4) (a % 4 + 1) low word' lt' small' (e' ∙ ap (λ (w : ℕ). set (to_be_bytes w32 w) (a % 4 + 1) low) (sym again))
    ∙ ap bytes_of (set-set words (a / 4) mid word' ∙ put_in_page pages word' are (a / 4) few))

-- ---- pages of zeros

zero_bytes : (n : ℕ) → bytes_of (replicate n 0) ≡ replicate (4 * n) 0
zero_bytes zero = refl
zero_bytes (suc n) =
    let more : suc (suc (suc (suc (4 * n)))) ≡ 4 * suc n = omega arith in
    ap (λ (l : List ℕ). 0 ∷ 0 ∷ 0 ∷ 0 ∷ l) (zero_bytes n) ∙ ap (λ (k : ℕ). replicate {A = ℕ} k 0) more

zero_pages : (count : ℕ) → concat (replicate count (replicate {A = ℕ} 1024 0)) ≡ replicate (1024 * count) 0
zero_pages zero = refl
zero_pages (suc count) =
    let more : 1024 + 1024 * count ≡ 1024 * suc count = omega arith in
    ap (λ (l : List ℕ). replicate {A = ℕ} 1024 0 ++ l) (zero_pages count) ∙ replicate-append-replicate 1024 (1024 * count) 0 ∙ ap (λ (k : ℕ). replicate {A = ℕ} k 0) more

pub blank_is : (pages : List (List ℕ)) (count : ℕ) → pages ≡ replicate count (replicate {A = ℕ} 1024 0) → bytes_in pages ≡ zeros (4096 * count)
unfolding bytes_in zeros
blank_is pages count e =
    let size : 4 * (1024 * count) ≡ 4096 * count = omega arith in
    ap (λ (p : List (List ℕ)). bytes_of (concat p)) e ∙ ap bytes_of (zero_pages count) ∙ zero_bytes (1024 * count) ∙ ap (λ (k : ℕ). replicate {A = ℕ} k 0) size

-- ---- by the page that was looked up

pub word_is_there : (pages : List (List ℕ)) (page : List ℕ) (i : ℕ) → ArePages pages → 4 * i + 4 ≤ length (bytes_in pages) → page ≡ get_or pages (i / 1024) page → get_or page (i % 1024) 0 < 2 ^ 32
    → get_or page (i % 1024) 0 ≡ word_at (bytes_in pages) (4 * i)
word_is_there pages page i are within e small =
    let here : page ≡ get_or pages (i / 1024) [] = e ∙ get_or_default pages (i / 1024) page [] (page_within pages i are within) in
    let word = ap (λ (p : List ℕ). get_or p (i % 1024) 0) here in
    word ∙ sym (word_in_pages pages i are within (omega (arith, word, small)))

pub byte_is_there : (pages : List (List ℕ)) (page : List ℕ) (a byte : ℕ) → ArePages pages → a < length (bytes_in pages) → page ≡ get_or pages (a / 4 / 1024) page
    → byte ≡ get_or (to_be_bytes w32 (get_or page (a / 4 % 1024) 0)) (a % 4) 0 → byte ≡ byte_at (bytes_in pages) a
byte_is_there pages page a byte are within e is =
    let here : page ≡ get_or pages (a / 4 / 1024) [] = e ∙ get_or_default pages (a / 4 / 1024) page [] (page_of_byte pages a are within) in
    is ∙ ap (λ (p : List ℕ). get_or (to_be_bytes w32 (get_or p (a / 4 % 1024) 0)) (a % 4) 0) here ∙ sym (byte_in_pages pages a are within)

-- a half word lies in one word
pub half_is_there : (pages : List (List ℕ)) (page : List ℕ) (a half : ℕ) → ArePages pages → a + 2 ≤ length (bytes_in pages) → a % 2 ≡ 0 → page ≡ get_or pages (a / 4 / 1024) page
    → half ≡ get_or (to_be_bytes w32 (get_or page (a / 4 % 1024) 0)) (a % 4) 0 * 2 ^ 8 + get_or (to_be_bytes w32 (get_or page (a / 4 % 1024) 0)) (a % 4 + 1) 0 → half ≡ half_at (bytes_in pages) a
half_is_there pages page a half are within even e is =
    let word = to_be_bytes w32 (get_or page (a / 4 % 1024) 0) in
    let same : (a + 1) / 4 ≡ a / 4 = omega (arith, even) in
    let next : (a + 1) % 4 ≡ a % 4 + 1 = omega (arith, even) in
    let high = byte_is_there pages page a (get_or word (a % 4) 0) are (omega (arith, within)) e refl in
    let low = byte_is_there pages page (a + 1) (get_or word (a % 4 + 1) 0) are (omega (arith, within))
    (subst (λ (n : ℕ). page ≡ get_or pages (n / 1024) page) (sym same) e)
    (subst (λ (n : ℕ). get_or word (a % 4 + 1) 0 ≡ get_or (to_be_bytes w32 (get_or page (n % 1024) 0)) ((a + 1) % 4) 0) (sym same) (ap (λ (k : ℕ). get_or word k 0) (sym next))) in
    omega (arith, is, high, low)

-- the pages behind a word that was put where it was looked up
pub word_is_put : (pages : List (List ℕ)) (page : List ℕ) (i value : ℕ) → ArePages pages → 4 * i + 4 ≤ length (bytes_in pages) → page ≡ get_or pages (i / 1024) page
    → bytes_in (set pages (i / 1024) (set page (i % 1024) value)) ≡ with_word (bytes_in pages) (4 * i) value
word_is_put pages page i value are within e =
    let here : page ≡ get_or pages (i / 1024) [] = e ∙ get_or_default pages (i / 1024) page [] (page_within pages i are within) in
    ap (λ (p : List ℕ). bytes_in (set pages (i / 1024) (set p (i % 1024) value))) here ∙ word_put pages i value are within

pub byte_is_put : (pages : List (List ℕ)) (page : List ℕ) (a byte word' : ℕ) → ArePages pages → a < length (bytes_in pages) → page ≡ get_or pages (a / 4 / 1024) page
    → to_be_bytes w32 word' ≡ set (to_be_bytes w32 (get_or page (a / 4 % 1024) 0)) (a % 4) byte
    → bytes_in (set pages (a / 4 / 1024) (set page (a / 4 % 1024) word')) ≡ set (bytes_in pages) a byte
byte_is_put pages page a byte word' are within e is =
    let here : page ≡ get_or pages (a / 4 / 1024) [] = e ∙ get_or_default pages (a / 4 / 1024) page [] (page_of_byte pages a are within) in
    ap (λ (p : List ℕ). bytes_in (set pages (a / 4 / 1024) (set p (a / 4 % 1024) word'))) here
    ∙ byte_put pages a byte word' are within (is ∙ ap (λ (p : List ℕ). set (to_be_bytes w32 (get_or p (a / 4 % 1024) 0)) (a % 4) byte) here)

pub half_is_put : (pages : List (List ℕ)) (page : List ℕ) (a high low mid word' : ℕ) → ArePages pages → a + 2 ≤ length (bytes_in pages) → a % 2 ≡ 0 → page ≡ get_or pages (a / 4 / 1024) page
    → to_be_bytes w32 mid ≡ set (to_be_bytes w32 (get_or page (a / 4 % 1024) 0)) (a % 4) high
    → to_be_bytes w32 word' ≡ set (to_be_bytes w32 mid) (a % 4 + 1) low
    → bytes_in (set pages (a / 4 / 1024) (set page (a / 4 % 1024) word')) ≡ set (set (bytes_in pages) a high) (a + 1) low
half_is_put pages page a high low mid word' are within even e is is' =
    let here : page ≡ get_or pages (a / 4 / 1024) [] = e ∙ get_or_default pages (a / 4 / 1024) page [] (page_of_byte pages a are (omega (arith, within))) in
    ap (λ (p : List ℕ). bytes_in (set pages (a / 4 / 1024) (set p (a / 4 % 1024) word'))) here
    ∙ half_put pages a high low mid word' are within even (is ∙ ap (λ (p : List ℕ). set (to_be_bytes w32 (get_or p (a / 4 % 1024) 0)) (a % 4) high) here) is'

-- pages stay pages
pub pages_stay : (pages : List (List ℕ)) (n i value : ℕ) (page : List ℕ) → ArePages pages → n < length pages → page ≡ get_or pages n page → ArePages (set pages n (set page i value))
pages_stay [] n i value page are lt e = tt
pages_stay (p ∷ pages) zero i value page are lt e = (length-set page i value ∙ ap length e ∙ are.0, are.1)
pages_stay (p ∷ pages) (suc n) i value page are lt e = (are.0, pages_stay pages n i value page are.1 (omega (arith, lt)) e)

pub blank_pages : (count : ℕ) → ArePages (replicate count (replicate {A = ℕ} 1024 0))
blank_pages zero = tt
blank_pages (suc count) = (length-replicate {A = ℕ} 1024 0, blank_pages count)
