-- Two texts that are one up to a place: what a rule makes of them is one as long as it does not read past that place.
use Rattle.std.proofs.Common.{◌≡◌, ℕ, suc, ◌+◌, ◌≤◌, Bool, true, false, if◌then◌else◌, ◌⊎◌, inl, inr, List, ◌∷◌, length, Option, Some, None, Ok, Err, arith, refl, subst}
use Rattle.pw_tree.specs.Symbols.{Symbol, Identifier}
use Rattle.pw_token.specs.declared.symbol.Keyword.{Keyword}
use Rattle.pw_token.specs.declared.symbol.Mark.{Mark}
use Rattle.pw_parse_grammar.specs.Input.{Binding, Input, Outcome, Parser, and_then, ahead, at_end, step, is_mark, is_keyword, is_typedef_name, sees, sees_keyword, past, expect, expect_keyword, identifier, identifier_by, ordinary, ordinary_by}
use Rattle.pw_parse_grammar.proofs.Progress.Base.{Left, Forward, forward-rules, left-rules, left-answer, left-parser-if, past-left, expect-left, expect_keyword-left, identifier-by-left, ordinary-by-left}

abbrev pub input : List Binding → List (Option Symbol) → ℕ → Input
input names rest n = record { names = names; rest = rest; next = n }

-- Two texts are one up to r and w, which is at most so many tokens on.
pub data Near (r w : List (Option Symbol)) : ℕ → List (Option Symbol) → List (Option Symbol) → Type 0 where
  gone : {m : ℕ} → Near r w m r w
  more : {m : ℕ} {t t' : List (Option Symbol)} (s : Option Symbol) → Near r w m t t' → Near r w (suc m) (s ∷ t) (s ∷ t')

-- Two outcomes are one, or the first has left no more than r. The count of tokens up to r may depend on the answer.
pub data Agree (r w : List (Option Symbol)) {A : Type 0} (b : A → ℕ) : Outcome A → Outcome A → Type 0 where
  passed : {o o' : Outcome A} → Left (length r) o → Agree r w b o o'
  answers : {v : A} {names : List Binding} {n : ℕ} {t t' : List (Option Symbol)} → Near r w (b v) t t' → Agree r w b (Ok (v, input names t n)) (Ok (v, input names t' n))
  faults : {m : ℕ} {names : List Binding} {n : ℕ} {t t' : List (Option Symbol)} → Near r w m t t' → Agree r w b (Err (input names t n)) (Err (input names t' n))

abbrev pub Local : (r w : List (Option Symbol)) {A : Type 0} (a : ℕ) (b : A → ℕ) → Parser A → Parser A → Type 0
Local r w a b p p' = (names : List Binding) (n : ℕ) (t t' : List (Option Symbol)) → Near r w a t t' → Agree r w b (p (input names t n)) (p' (input names t' n))

pub wider : {r w : List (Option Symbol)} {m : ℕ} {t t' : List (Option Symbol)} → Near r w m t t' → Near r w (suc m) t t'
wider gone = gone
wider (more s h) = more s (wider h)

-- the place is reached, or one token stands before it in both texts
pub near-cases : {r w : List (Option Symbol)} {m : ℕ} {t t' : List (Option Symbol)} (P : List (Option Symbol) → List (Option Symbol) → Type 0) → Near r w m t t' → P r w → ((s : Option Symbol) (u u' : List (Option Symbol)) → P (s ∷ u) (s ∷ u')) → P t t'
near-cases P gone a b = a
near-cases P (more {t = u} {t' = u'} s h) a b = b s u u'

pub bind-any : {r w : List (Option Symbol)} {A B : Type 0} (b : A → ℕ) {c : B → ℕ} {o o' : Outcome A} {f : A → Parser B} (f' : A → Parser B) → Agree r w b o o'
    → ((v : A) (names : List Binding) (n : ℕ) (t t' : List (Option Symbol)) → Near r w (b v) t t' → Agree r w c (f v (input names t n)) (f' v (input names t' n)))
    → ((v : A) → Forward (f v)) → Agree r w c (and_then o f) (and_then o' f')
bind-any {r = r} b {o = Ok p} f' (passed l) g left = passed (left p.0 (length r) p.1 l.left)
bind-any b {o = Err i} f' (passed l) g left = passed (record { left = l.left })
bind-any b f' (answers {v = v} {names = names} {n = n} {t = t} {t' = t'} h) g left = g v names n t t' h
bind-any b f' (faults h) g left = faults h

-- the same where the count does not depend on the answer
pub agree-bind : (r w : List (Option Symbol)) (m : ℕ) {A B : Type 0} {c : B → ℕ} {o o' : Outcome A} {f : A → Parser B} (f' : A → Parser B) → Agree r w (λ _. m) o o'
    → ((v : A) (names : List Binding) (n : ℕ) (t t' : List (Option Symbol)) → Near r w m t t' → Agree r w c (f v (input names t n)) (f' v (input names t' n)))
    → ((v : A) → Forward (f v)) → Agree r w c (and_then o f) (and_then o' f')
agree-bind r w m f' o g left = bind-any (λ _. m) f' o g left

pub agree-if : {r w : List (Option Symbol)} {A : Type 0} {c : A → ℕ} (b : Bool) {x y x' y' : Outcome A} → Agree r w c x x' → Agree r w c y y' → Agree r w c (if b then x else y) (if b then x' else y')
agree-if true h g = h
agree-if false h g = g

pub agree-parser-if : {r w : List (Option Symbol)} {A : Type 0} {c : A → ℕ} (b : Bool) (p q p' q' : Parser A) (i i' : Input) → Agree r w c (p i) (p' i') → Agree r w c (q i) (q' i') → Agree r w c ((if b then p else q) i) ((if b then p' else q') i')
agree-parser-if true p q p' q' i i' h g = h
agree-parser-if false p q p' q' i i' h g = g

-- where a token is read if it stands next
pub agree-eaten-if : {r w : List (Option Symbol)} {A : Type 0} {c : A → ℕ} (b : Bool) (p q p' q' : Parser A) (i j i' j' : Input) → Agree r w c (p j) (p' j') → Agree r w c (q i) (q' i')
    → Agree r w c ((if b then p else q) (if b then j else i)) ((if b then p' else q') (if b then j' else i'))
agree-eaten-if true p q p' q' i j i' j' h g = h
agree-eaten-if false p q p' q' i j i' j' h g = g

pub agree-higher : {r w : List (Option Symbol)} {A : Type 0} {m : ℕ} {o o' : Outcome A} → Agree r w (λ _. m) o o' → Agree r w (λ _. suc m) o o'
agree-higher (passed l) = passed l
agree-higher (answers h) = answers (wider h)
agree-higher (faults h) = faults h

pub fault-at : (r w : List (Option Symbol)) (m : ℕ) {A : Type 0} {c : A → ℕ} {names : List Binding} {n : ℕ} {t t' : List (Option Symbol)} → Near r w m t t' → Agree r w c (Err (input names t n)) (Err (input names t' n))
fault-at r w m h = faults h

-- ---- tests on the token ahead

-- a test that goes by the names and the token ahead
abbrev pub Steady : (Input → Bool) → Type 0
Steady f = (names : List Binding) (n : ℕ) (s : Option Symbol) (t t' : List (Option Symbol)) → f (input names (s ∷ t) n) ≡ f (input names (s ∷ t') n)

pub asked : (r w : List (Option Symbol)) (m : ℕ) (f : Input → Bool) → Steady f → {A : Type 0} {c : A → ℕ} (p q p' q' : Parser A) (names : List Binding) (n : ℕ) (t t' : List (Option Symbol)) → Near r w m t t'
    → Forward (λ i. (if f i then p else q) i) → Agree r w c (p (input names t n)) (p' (input names t' n)) → Agree r w c (q (input names t n)) (q' (input names t' n))
    → Agree r w c ((if f (input names t n) then p else q) (input names t n)) ((if f (input names t' n) then p' else q') (input names t' n))
asked r w m f steady p q p' q' names n t t' gone left h g = passed (left (length r) (input names r n) (omega arith))
asked r w m f steady {c = c} p q p' q' names n t t' (more {t = u} {t' = u'} s k) left h g =
    subst (λ b. Agree r w c ((if f (input names (s ∷ u) n) then p else q) (input names (s ∷ u) n)) ((if b then p' else q') (input names (s ∷ u') n))) (steady names n s u u')
    (agree-parser-if (f (input names (s ∷ u) n)) p q p' q' (input names (s ∷ u) n) (input names (s ∷ u') n) h g)

-- a test that goes by the names and the two tokens ahead
abbrev pub SteadyOnTwo : (Input → Bool) → Type 0
SteadyOnTwo f = (names : List Binding) (n : ℕ) (s s' : Option Symbol) (t t' : List (Option Symbol)) → f (input names (s ∷ s' ∷ t) n) ≡ f (input names (s ∷ s' ∷ t') n)

pub asked-two : (r w : List (Option Symbol)) (m : ℕ) (f : Input → Bool) → SteadyOnTwo f → {A : Type 0} {c : A → ℕ} (p q p' q' : Parser A) (names : List Binding) (n : ℕ) (t t' : List (Option Symbol)) → Near r w m t t'
    → (1 ≤ m → (s : Option Symbol) → Left (length r) ((if f (input names (s ∷ r) n) then p else q) (input names (s ∷ r) n)) ⊎ (f (input names (s ∷ r) n) ≡ f (input names (s ∷ w) n)))
    → Forward (λ i. (if f i then p else q) i) → Agree r w c (p (input names t n)) (p' (input names t' n)) → Agree r w c (q (input names t n)) (q' (input names t' n))
    → Agree r w c ((if f (input names t n) then p else q) (input names t n)) ((if f (input names t' n) then p' else q') (input names t' n))
asked-two r w m f steady p q p' q' names n t t' gone one left h g = passed (left (length r) (input names r n) (omega arith))
asked-two r w m f steady {c = c} p q p' q' names n t t' (more s gone) one left h g = by (one (omega arith) s)
  where
    by : Left (length r) ((if f (input names (s ∷ r) n) then p else q) (input names (s ∷ r) n)) ⊎ (f (input names (s ∷ r) n) ≡ f (input names (s ∷ w) n))
        → Agree r w c ((if f (input names (s ∷ r) n) then p else q) (input names (s ∷ r) n)) ((if f (input names (s ∷ w) n) then p' else q') (input names (s ∷ w) n))
    by (inl l) = passed l
    by (inr e) =
        subst (λ b. Agree r w c ((if f (input names (s ∷ r) n) then p else q) (input names (s ∷ r) n)) ((if b then p' else q') (input names (s ∷ w) n))) e
        (agree-parser-if (f (input names (s ∷ r) n)) p q p' q' (input names (s ∷ r) n) (input names (s ∷ w) n) h g)
asked-two r w m f steady {c = c} p q p' q' names n t t' (more s (more {t = u} {t' = u'} s' k)) one left h g =
    subst (λ b. Agree r w c ((if f (input names (s ∷ s' ∷ u) n) then p else q) (input names (s ∷ s' ∷ u) n)) ((if b then p' else q') (input names (s ∷ s' ∷ u') n))) (steady names n s s' u u')
    (agree-parser-if (f (input names (s ∷ s' ∷ u) n)) p q p' q' (input names (s ∷ s' ∷ u) n) (input names (s ∷ s' ∷ u') n) h g)

pub sees-steady : (mark : Mark) → Steady (sees mark)
unfolding sees ahead
sees-steady mark names n s t t' = refl

pub sees_keyword-steady : (word : Keyword) → Steady (sees_keyword word)
unfolding sees_keyword ahead
sees_keyword-steady word names n s t t' = refl

pub at_end-steady : Steady at_end
unfolding at_end
at_end-steady names n s t t' = refl

-- a mark that may stand next
pub eaten : (r w : List (Option Symbol)) (m : ℕ) (mark : Mark) {A : Type 0} {c : A → ℕ} (p q p' q' : Parser A) (names : List Binding) (n : ℕ) (t t' : List (Option Symbol)) → Near r w m t t'
    → Forward (λ i. (if sees mark i then p else q) (past mark i)) → ((u u' : List (Option Symbol)) → Near r w m u u' → Agree r w c (p (input names u (n + 1))) (p' (input names u' (n + 1)))) → Agree r w c (q (input names t n)) (q' (input names t' n))
    → Agree r w c ((if sees mark (input names t n) then p else q) (past mark (input names t n))) ((if sees mark (input names t' n) then p' else q') (past mark (input names t' n)))
unfolding sees ahead step past
eaten r w m mark p q p' q' names n t t' gone left h g = passed (left (length r) (input names r n) (omega arith))
eaten r w m mark p q p' q' names n t t' (more {t = u} {t' = u'} s k) left h g =
    agree-eaten-if (is_mark mark s) p q p' q' (input names (s ∷ u) n) (input names u (n + 1)) (input names (s ∷ u') n) (input names u' (n + 1)) (h u u' (wider k)) g

-- what is answered where a mark stood next, and where it did not
pub eaten-answer : (r w : List (Option Symbol)) (m : ℕ) (mark : Mark) {A : Type 0} (x y : A) (names : List Binding) (n : ℕ) (t t' : List (Option Symbol)) → Near r w m t t'
    → Agree r w (λ _. m) (Ok (if sees mark (input names t n) then x else y, past mark (input names t n))) (Ok (if sees mark (input names t' n) then x else y, past mark (input names t' n)))
unfolding sees ahead step past
eaten-answer r w m mark x y names n t t' gone = passed (left-answer (past-left mark (length r) (input names r n) (omega arith)))
eaten-answer r w m mark x y names n t t' (more {m = k} {t = u} {t' = u'} s h) = by (is_mark mark s)
  where
    by : (b : Bool)
        → Agree r w (λ _. suc k) (Ok (if b then x else y, if b then input names u (n + 1) else input names (s ∷ u) n)) (Ok (if b then x else y, if b then input names u' (n + 1) else input names (s ∷ u') n))
    by true = answers (wider h)
    by false = answers (more s h)

-- the same where something is read in any case
pub eaten-strict : (r w : List (Option Symbol)) (m : ℕ) (mark : Mark) {A : Type 0} {c : A → ℕ} (p q p' q' : Parser A) (names : List Binding) (n : ℕ) (t t' : List (Option Symbol)) → Near r w (suc m) t t'
    → Forward (λ i. (if sees mark i then p else q) (past mark i)) → ((u u' : List (Option Symbol)) → Near r w m u u' → Agree r w c (p (input names u (n + 1))) (p' (input names u' (n + 1)))) → Agree r w c (q (input names t n)) (q' (input names t' n))
    → Agree r w c ((if sees mark (input names t n) then p else q) (past mark (input names t n))) ((if sees mark (input names t' n) then p' else q') (past mark (input names t' n)))
unfolding sees ahead step past
eaten-strict r w m mark p q p' q' names n t t' gone left h g = passed (left (length r) (input names r n) (omega arith))
eaten-strict r w m mark p q p' q' names n t t' (more {t = u} {t' = u'} s k) left h g =
    agree-eaten-if (is_mark mark s) p q p' q' (input names (s ∷ u) n) (input names u (n + 1)) (input names (s ∷ u') n) (input names u' (n + 1)) (h u u' k) g

pub asked-answer : (r w : List (Option Symbol)) (m : ℕ) (f : Input → Bool) → Steady f → {A : Type 0} (x y : A) → Local r w m (λ _. m) (λ i. Ok (if f i then x else y, i)) (λ i. Ok (if f i then x else y, i))
asked-answer r w m f steady x y names n t t' gone = passed (left-answer (omega arith))
asked-answer r w m f steady x y names n t t' (more {m = k} {t = u} {t' = u'} s h) =
    subst (λ b. Agree r w (λ _. suc k) (Ok (if f (input names (s ∷ u) n) then x else y, input names (s ∷ u) n)) (Ok (if b then x else y, input names (s ∷ u') n))) (steady names n s u u') (answers (more s h))

-- a rule that goes by the token ahead
pub peeked : (r w : List (Option Symbol)) (m : ℕ) {A : Type 0} {c : A → ℕ} (f f' : Option Symbol → Parser A) → ((s : Option Symbol) → Local r w m c (f s) (f' s)) → Forward (λ i. f (ahead i) i) → Local r w m c (λ i. f (ahead i) i) (λ i. f' (ahead i) i)
unfolding ahead
peeked r w m f f' g left names n t t' gone = passed (left (length r) (input names r n) (omega arith))
peeked r w m f f' g left names n t t' (more s h) = g s names n _ _ (more s h)

-- the next token's number, and what goes on behind the token
pub took : (r w : List (Option Symbol)) (m : ℕ) {A : Type 0} {c : A → ℕ} (f f' : ℕ → Parser A) (names : List Binding) (n : ℕ) (t t' : List (Option Symbol)) → Near r w m t t' → Forward (λ i. f i.next (step i))
    → ((u u' : List (Option Symbol)) → Near r w m u u' → Agree r w c (f n (input names u (n + 1))) (f' n (input names u' (n + 1)))) → Agree r w c (f n (step (input names t n))) (f' n (step (input names t' n)))
unfolding step
took r w m f f' names n t t' gone left g = passed (left (length r) (input names r n) (omega arith))
took r w m f f' names n t t' (more {t = u} {t' = u'} s h) left g = g u u' (wider h)

-- ---- tokens

pub expect-strict : (r w : List (Option Symbol)) (m : ℕ) (mark : Mark) → Local r w (suc m) (λ _. m) (expect mark) (expect mark)
unfolding expect sees ahead step
expect-strict r w m mark names n t t' gone = passed (expect-left mark (length r) (input names r n) (omega arith))
expect-strict r w m mark names n t t' (more s h) = agree-if (is_mark mark s) (answers h) (faults (more s h))

pub expect_keyword-strict : (r w : List (Option Symbol)) (m : ℕ) (word : Keyword) → Local r w (suc m) (λ _. m) (expect_keyword word) (expect_keyword word)
unfolding expect_keyword sees_keyword ahead step
expect_keyword-strict r w m word names n t t' gone = passed (expect_keyword-left word (length r) (input names r n) (omega arith))
expect_keyword-strict r w m word names n t t' (more s h) = agree-if (is_keyword word s) (answers h) (faults (more s h))

pub identifier-strict : (r w : List (Option Symbol)) (m : ℕ) → Local r w (suc m) (λ _. m) identifier identifier
unfolding ahead step identifier_by
identifier-strict r w m names n t t' gone = passed (identifier-by-left (ahead (input names r n)) (length r) (input names r n) (omega arith))
identifier-strict r w m names n t t' (more (Some (Identifier x)) h) = answers h
identifier-strict r w m names n t t' (more None h) = faults (more None h)
identifier-strict r w m names n t t' (more (Some s) h) = faults (more (Some s) h)

pub ordinary-strict : (r w : List (Option Symbol)) (m : ℕ) → Local r w (suc m) (λ _. m) ordinary ordinary
unfolding ahead step ordinary_by is_typedef_name
ordinary-strict r w m names n t t' gone = passed (ordinary-by-left (ahead (input names r n)) (length r) (input names r n) (omega arith))
ordinary-strict r w m names n t t' (more (Some (Identifier x)) h) = agree-if _ (faults (more (Some (Identifier x)) h)) (answers h)
ordinary-strict r w m names n t t' (more None h) = faults (more None h)
ordinary-strict r w m names n t t' (more (Some s) h) = faults (more (Some s) h)

-- what is read at once serves where nothing need be read
pub weak : (r w : List (Option Symbol)) {A : Type 0} (p p' : Parser A) → Forward p → ((m : ℕ) → Local r w (suc m) (λ _. m) p p') → (m : ℕ) → Local r w m (λ _. m) p p'
weak r w p p' left g m names n t t' gone = passed (left (length r) (input names r n) (omega arith))
weak r w p p' left g m names n t t' (more {m = k} s h) = agree-higher (g k names n t t' (more s h))

pub expect-local : (r w : List (Option Symbol)) (m : ℕ) (mark : Mark) → Local r w m (λ _. m) (expect mark) (expect mark)
expect-local r w m mark = weak r w (expect mark) (expect mark) (expect-left mark) (λ k. expect-strict r w k mark) m

pub expect_keyword-local : (r w : List (Option Symbol)) (m : ℕ) (word : Keyword) → Local r w m (λ _. m) (expect_keyword word) (expect_keyword word)
expect_keyword-local r w m word = weak r w (expect_keyword word) (expect_keyword word) (expect_keyword-left word) (λ k. expect_keyword-strict r w k word) m

pub identifier-local : (r w : List (Option Symbol)) (m : ℕ) → Local r w m (λ _. m) identifier identifier
identifier-local r w m = weak r w identifier identifier (λ n i h. identifier-by-left (ahead i) n i h) (identifier-strict r w) m

pub ordinary-local : (r w : List (Option Symbol)) (m : ℕ) → Local r w m (λ _. m) ordinary ordinary
ordinary-local r w m = weak r w ordinary ordinary (λ n i h. ordinary-by-left (ahead i) n i h) (ordinary-strict r w) m

pub ruleset local-rules = (answers, faults, agree-if, agree-parser-if, agree-eaten-if, wider, expect-local, expect_keyword-local, identifier-local, ordinary-local, forward-rules)
