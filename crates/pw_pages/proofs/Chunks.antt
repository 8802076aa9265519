-- Words of pages, by their numbers.
use Rattle.std.proofs.Common.{ℕ, suc, ◌-◌, ◌*◌, ◌/◌, ◌%◌, ◌<◌, ◌≤◌, ◌≡◌, Bool, true, false, nat_lt, List, [], ◌∷◌, ◌++◌, length, get_or, refl, sym, ap, ◌∙◌, arith, length-append}
use Rattle.std.proofs.lemmas.Bool.Decides.{nat_tests}
use Rattle.std.proofs.lemmas.List.{get_or-append_right, set-append_left, set-append_right}
use Rattle.std.proofs.Math.ListN.{get_or-append, set}
use Rattle.std.specs.List.{AllByRecursion, concat}
use Rattle.pw_pages.specs.Paged.{IsPage}

pub length-pages : (pages : List (List ℕ)) → AllByRecursion IsPage pages → length (concat pages) ≡ 1024 * length pages
length-pages [] are = refl
length-pages (page ∷ pages) are = omega (arith, length-append page (concat pages), length-pages pages are.1, are.0)

below : (i n : ℕ) → nat_lt i n ≡ true → i < n
below i n e = grind (arith, nat_tests, e)

-- a number that is not below another is at least that
at_least : (i n : ℕ) → nat_lt i n ≡ false → n ≤ i
at_least i n e = grind (arith, nat_tests, e)

-- a word of the pages is one of its page

abbrev WordsOfPages : List (List ℕ) → Type 0
WordsOfPages pages = (i : ℕ) → i < 1024 * length pages → get_or (concat pages) i 0 ≡ get_or (get_or pages (i / 1024) []) (i % 1024) 0

word_by : (page : List ℕ) (pages : List (List ℕ)) (i : ℕ) (first : Bool) → IsPage page → WordsOfPages pages → nat_lt i 1024 ≡ first → i < 1024 * length (page ∷ pages)
    → get_or (concat (page ∷ pages)) i 0 ≡ get_or (get_or (page ∷ pages) (i / 1024) []) (i % 1024) 0
word_by page pages i true is others e lt =
    let first = below i 1024 e in
    let zeroth : i / 1024 ≡ 0 = omega (arith, first) in
    let same : i % 1024 ≡ i = omega (arith, first) in
    get_or-append page (concat pages) 0 i (omega (arith, is, first))
    ∙ sym (ap (λ (n : ℕ). get_or (get_or (page ∷ pages) n []) (i % 1024) 0) zeroth ∙ ap (λ (n : ℕ). get_or page n 0) same)
word_by page pages i false is others e lt =
    let first = at_least i 1024 e in
    let later : i / 1024 ≡ suc ((i - 1024) / 1024) = omega (arith, first) in
    let same : i % 1024 ≡ (i - 1024) % 1024 = omega (arith, first) in
    get_or-append_right page (concat pages) 1024 i 0 is (omega (arith, first))
    ∙ others (i - 1024) (omega (arith, lt, first))
    ∙ sym (ap (λ (n : ℕ). get_or (get_or (page ∷ pages) n []) (i % 1024) 0) later ∙ ap (λ (n : ℕ). get_or (get_or pages ((i - 1024) / 1024) []) n 0) same)

pub word_of_page : (pages : List (List ℕ)) → AllByRecursion IsPage pages → WordsOfPages pages
word_of_page [] are = λ i lt. absurd (omega (arith, lt))
word_of_page (page ∷ pages) are = λ i lt. word_by page pages i (nat_lt i 1024) are.0 (word_of_page pages are.1) refl lt

-- the pages behind a word that was put into one of them

abbrev pub put_word_in : List (List ℕ) → ℕ → ℕ → List (List ℕ)
put_word_in pages i value = set pages (i / 1024) (set (get_or pages (i / 1024) []) (i % 1024) value)

abbrev PutsInPages : List (List ℕ) → ℕ → Type 0
PutsInPages pages value = (i : ℕ) → i < 1024 * length pages → set (concat pages) i value ≡ concat (put_word_in pages i value)

put_by : (page : List ℕ) (pages : List (List ℕ)) (i value : ℕ) (first : Bool) → IsPage page → PutsInPages pages value → nat_lt i 1024 ≡ first → i < 1024 * length (page ∷ pages)
    → set (concat (page ∷ pages)) i value ≡ concat (put_word_in (page ∷ pages) i value)
put_by page pages i value true is others e lt =
    let first = below i 1024 e in
    let zeroth : i / 1024 ≡ 0 = omega (arith, first) in
    let same : i % 1024 ≡ i = omega (arith, first) in
    set-append_left page (concat pages) i value (omega (arith, is, first))
    ∙ sym (ap (λ (n : ℕ). concat (set (page ∷ pages) n (set (get_or (page ∷ pages) n []) (i % 1024) value))) zeroth ∙ ap (λ (n : ℕ). set page n value ++ concat pages) same)
put_by page pages i value false is others e lt =
    let first = at_least i 1024 e in
    let later : i / 1024 ≡ suc ((i - 1024) / 1024) = omega (arith, first) in
    let same : i % 1024 ≡ (i - 1024) % 1024 = omega (arith, first) in
    set-append_right page (concat pages) 1024 i value is (omega (arith, first))
    ∙ ap (λ (l : List ℕ). page ++ l) (others (i - 1024) (omega (arith, lt, first)))
    ∙ sym (ap (λ (n : ℕ). concat (set (page ∷ pages) n (set (get_or (page ∷ pages) n []) (i % 1024) value))) later
    ∙ ap (λ (n : ℕ). page ++ concat (set pages ((i - 1024) / 1024) (set (get_or pages ((i - 1024) / 1024) []) n value))) same)

pub put_in_page : (pages : List (List ℕ)) (value : ℕ) → AllByRecursion IsPage pages → PutsInPages pages value
put_in_page [] value are = λ i lt. absurd (omega (arith, lt))
put_in_page (page ∷ pages) value are = λ i lt. put_by page pages i value (nat_lt i 1024) are.0 (put_in_page pages value are.1) refl lt
