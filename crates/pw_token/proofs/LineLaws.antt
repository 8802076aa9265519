-- Comments, line markers and directive lines at the beginning of a text.
use Rattle.std.proofs.Common.{◌≡◌, ℕ, suc, ◌+◌, ◌<◌, ◌≤◌, ◌⊎◌, inl, inr, Bool, true, false, not, ◌&&◌, eqb, List, [], ◌∷◌, ◌++◌, length, drop, slice_index, refl, ap, arith, sym, ◌∙◌, subst, append_assoc, length-append}
use Rattle.std.proofs.lemmas.Bool.{eqb-true, eq-eqb}
use Rattle.std.proofs.lemmas.Bool.Decides.{nat_tests}
use Rattle.pw_token.proofs.Runs.{Begins, run-front, run-in, run-reaches, run-stops, Ends, either}
use Rattle.pw_token.proofs.Floats.{at-front}
use Rattle.pw_token.proofs.ByteFacts.{and-split, and-join, and-right}
use Rattle.pw_token.specs.Bytes.{is_in, AllIn}
use Rattle.pw_token.specs.Pieces.{begins_marker}
use Rattle.pw_token.specs.Scanning.{run, comment_end, comment_len}
use Rattle.pw_token.specs.Tokenization.{IsComment, IsHashLine, IsMarker}
use Rattle.pw_token.specs.declared.bytes.Class.TheVariants.{Gap, Digit, InLine}

-- one list cut in two ways
pub prefix-split : (s after front rest : List ℕ) → s ++ after ≡ front ++ rest → length s ≤ length front → (more : List ℕ) × (front ≡ s ++ more) × (after ≡ more ++ rest)
prefix-split [] after front rest e l = (front, refl, e)
prefix-split (b ∷ s) after [] rest e l = absurd (omega arith)
prefix-split (b ∷ s) after (c ∷ front) rest e l =
    let more = prefix-split s after front rest (ap (drop 1) e) (omega arith) in
    (more.0, ap (λ x. x ∷ front) (sym (ap (λ x. slice_index x 0) e)) ∙ ap (λ x. b ∷ x) more.1, more.2)

-- ---- comments

true_or_false : (b : Bool) → b ≡ true → b ≡ false → ⊥
true_or_false b h k = cc

abbrev NoEnd : List ℕ → Type 0
NoEnd body = (front back : List ℕ) → body ≡ front ++ 42 ∷ 47 ∷ back → ⊥

comment-step : (n b c : ℕ) (t : List ℕ) → (eqb b 42 && eqb c 47) ≡ false → comment_end n (b ∷ c ∷ t) ≡ comment_end (n + 1) (c ∷ t)
comment-step n b c t h = rw h refl

comment-stop : (n b c : ℕ) (t : List ℕ) → (eqb b 42 && eqb c 47) ≡ true → comment_end n (b ∷ c ∷ t) ≡ n + 2
comment-stop n b c t h = rw h refl

body-ends : (n : ℕ) (body r : List ℕ) → NoEnd body → comment_end n (body ++ 42 ∷ 47 ∷ r) ≡ n + length body + 2
body-ends n [] r h = omega arith
body-ends n (b ∷ []) r h = omega (arith, comment-step n b 42 (47 ∷ r) (and-right (eqb b 42) false refl))
body-ends n (b ∷ c ∷ s) r h =
    elim (either (eqb b 42 && eqb c 47)) [
      | inl k ↦
          let both = and-split (eqb b 42) (eqb c 47) k in
          let bs = eqb-true b 42 both.0 in
          let cs = eqb-true c 47 both.1 in
          absurd (h [] s (ap (λ x. x ∷ c ∷ s) bs ∙ ap (λ x. 42 ∷ x ∷ s) cs))
      | inr k ↦ omega (arith, comment-step n b c (s ++ 42 ∷ 47 ∷ r) k, body-ends (n + 1) (c ∷ s) r (λ front back e. h (b ∷ front) back (ap (λ x. b ∷ x) e)))
    ]

record Ended (n : ℕ) (t : List ℕ) (k : ℕ) : Type 0 where
  body : List ℕ
  rest : List ℕ
  split : t ≡ body ++ 42 ∷ 47 ∷ rest
  len : k ≡ n + length body + 2
  none : NoEnd body

ends-body : (n : ℕ) (t : List ℕ) → 0 < comment_end n t → Ended n t (comment_end n t)
ends-body n [] l = absurd (omega arith)
ends-body n (b ∷ []) l = absurd (omega arith)
ends-body n (b ∷ c ∷ t) l =
    elim (either (eqb b 42 && eqb c 47)) [
      | inl k ↦
          let both = and-split (eqb b 42) (eqb c 47) k in
          record {
            body = [];
            rest = t;
            split = ap (λ x. x ∷ c ∷ t) (eqb-true b 42 both.0) ∙ ap (λ x. 42 ∷ x ∷ t) (eqb-true c 47 both.1);
            len = omega (arith, comment-stop n b c t k);
            none = λ front back e. omega (arith, ap length e, length-append front (42 ∷ 47 ∷ back));
          }
      | inr k ↦
          let step = comment-step n b c t k in
          let f = ends-body (n + 1) (c ∷ t) (omega (arith, step)) in
          record {
            body = b ∷ f.body;
            rest = f.rest;
            split = ap (λ x. b ∷ x) f.split;
            len = omega (arith, step, f.len);
            none = longer b c t f.body f.rest k f.split f.none;
          }
    ]
  where
    longer : (b c : ℕ) (t body rest : List ℕ) → (eqb b 42 && eqb c 47) ≡ false → c ∷ t ≡ body ++ 42 ∷ 47 ∷ rest → NoEnd body → NoEnd (b ∷ body)
    longer b c t body rest k e none (x ∷ front) back h = none front back (ap (drop 1) h)
    longer b c t [] rest k e none [] back h = omega (arith, ap length h)
    longer b c t (d ∷ body) rest k e none [] back h =
        let first : b ≡ 42 = ap (λ x. slice_index x 0) h in
        let second : d ≡ 47 = ap (λ x. slice_index x 1) h in
        let same : c ≡ d = ap (λ x. slice_index x 0) e in
        let z = and-join (eqb b 42) (eqb c 47) (eq-eqb b 42 first) (eq-eqb c 47 (same ∙ second)) in
        absurd (true_or_false _ z k)

pub comment-front : (t : List ℕ) → slice_index t 0 ≡ 47 → slice_index t 1 ≡ 42 → 0 < comment_len t → Begins IsComment (comment_len t) t
unfolding comment_len
comment-front [] h k l = absurd (omega arith)
comment-front (b ∷ []) h k l = absurd (omega arith)
comment-front (b ∷ c ∷ t) h k l =
    let f = ends-body 2 t l in
    record {
      front = 47 ∷ 42 ∷ f.body ++ 42 ∷ 47 ∷ [];
      rest = f.rest;
      split = ap (λ x. x ∷ c ∷ t) h ∙ ap (λ x. 47 ∷ x ∷ t) k ∙ ap (λ x. 47 ∷ 42 ∷ x) (f.split ∙ sym (append_assoc f.body (42 ∷ 47 ∷ []) f.rest));
      len = omega (arith, f.len, length-append f.body (42 ∷ 47 ∷ []));
      holds = (f.body, refl, f.none);
    }

pub comment-reaches : (a r : List ℕ) → IsComment a → comment_len (a ++ r) ≡ length a
unfolding comment_len
comment-reaches a r h =
    let e : a ++ r ≡ 47 ∷ 42 ∷ (h.0 ++ 42 ∷ 47 ∷ r) = ap (λ x. x ++ r) h.1 ∙ ap (λ x. 47 ∷ 42 ∷ x) (append_assoc h.0 (42 ∷ 47 ∷ []) r) in
    omega (arith, ap (λ x. comment_end 2 (drop 2 x)) e, body-ends 2 h.0 r h.2, ap length h.1, length-append h.0 (42 ∷ 47 ∷ []))

-- ---- lines that begin with a hash

digit-no_gap : (b : ℕ) → is_in Digit b ≡ true → is_in Gap b ≡ false
digit-no_gap b h = grind (arith, nat_tests)

gap-in_line : (b : ℕ) → is_in Gap b ≡ true → is_in InLine b ≡ true
gap-in_line b h = grind (arith, nat_tests)

digit-in_line : (b : ℕ) → is_in Digit b ≡ true → is_in InLine b ≡ true
digit-in_line b h = grind (arith, nat_tests)

marker-at : (b : ℕ) (u g r : List ℕ) → u ≡ g ++ r → run Gap u ≡ length g → begins_marker (b ∷ u) ≡ is_in Digit (slice_index r 0)
marker-at b u g r e l =
    let k : 1 + run Gap u ≡ suc (length g) = omega (arith, l) in
    ap (λ n. is_in Digit (slice_index (b ∷ u) n)) k ∙ ap (λ x. is_in Digit (slice_index x (length g))) e ∙ ap (is_in Digit) (at-front g r)

pub marker-begins : (s after : List ℕ) → IsMarker s → begins_marker (s ++ after) ≡ true
marker-begins s after (gap, digit, rest, e, h, d) =
    let u = gap ++ digit ∷ (rest ++ after) in
    let same : s ++ after ≡ 35 ∷ u = ap (λ x. x ++ after) e ∙ ap (λ x. 35 ∷ x) (append_assoc gap (digit ∷ rest) after) in
    ap begins_marker same ∙ marker-at 35 u gap (digit ∷ (rest ++ after)) refl (run-stops Gap gap (digit ∷ (rest ++ after)) h (digit-no_gap digit d)) ∙ d

pub line-ends : (after : List ℕ) → (after ≡ []) ⊎ ((more : List ℕ) × (after ≡ 10 ∷ more)) → Ends InLine after
line-ends after (inl e) = subst (Ends InLine) (sym e) tt
line-ends after (inr h) = subst (Ends InLine) (sym h.1) refl

all-append : (g : List ℕ) (d : ℕ) → AllIn Gap g → is_in Digit d ≡ true → AllIn InLine (g ++ d ∷ [])
all-append [] d h k = (digit-in_line d k, tt)
all-append (b ∷ g) d h k = (gap-in_line b h.0, all-append g d h.1 k)

pub begins-marker : (rest after : List ℕ) → AllIn InLine rest → Ends InLine after → begins_marker (35 ∷ rest ++ after) ≡ true → IsMarker (35 ∷ rest)
begins-marker rest after all ends h =
    let f = (run-front Gap (rest ++ after)).here in
    found f.front f.rest f.split (sym f.len) f.holds
  where
    inside : (g r : List ℕ) (d : ℕ) → rest ++ after ≡ g ++ d ∷ r → AllIn Gap g → is_in Digit d ≡ true → IsMarker (35 ∷ rest)
    inside g r d e k digit =
        let e' : (g ++ d ∷ []) ++ r ≡ rest ++ after = append_assoc g (d ∷ []) r ∙ sym e in
        let reach = run-reaches InLine (g ++ d ∷ []) r (all-append g d k digit) in
        let l : length (g ++ d ∷ []) ≤ length rest = omega (arith, reach, ap (run InLine) e', run-stops InLine rest after all ends) in
        let cut = prefix-split (g ++ d ∷ []) r rest after e' l in
        (g, d, cut.0, ap (λ x. 35 ∷ x) (cut.1 ∙ append_assoc g (d ∷ []) cut.0), k, digit)

    found : (g r : List ℕ) → rest ++ after ≡ g ++ r → run Gap (rest ++ after) ≡ length g → AllIn Gap g → IsMarker (35 ∷ rest)
    found g [] e l k = let z = sym (marker-at 35 (rest ++ after) g [] e l) ∙ h in cc
    found g (d ∷ r) e l k = inside g r d e k (sym (marker-at 35 (rest ++ after) g (d ∷ r) e l) ∙ h)

ends-line : (after : List ℕ) → Ends InLine after → (after ≡ []) ⊎ ((more : List ℕ) × (after ≡ 10 ∷ more))
ends-line [] h = inl refl
ends-line (b ∷ after) h = inr (after, ap (λ x. x ∷ after) (newline b h))
  where
    newline : (b : ℕ) → is_in InLine b ≡ false → b ≡ 10
    newline b h = elim (either (eqb b 10)) [ inl e ↦ eqb-true b 10 e | inr n ↦ let z : not (eqb b 10) ≡ true = ap not n in cc ]

-- the line of a `#`
pub record HashLine (t : List ℕ) : Type 0 where
  pub inside : List ℕ
  pub after : List ℕ
  pub split : t ≡ 35 ∷ inside ++ after
  pub len : suc (length inside) ≡ run InLine t
  pub line : IsHashLine (35 ∷ inside) after
  pub ends : Ends InLine after
  pub all : AllIn InLine inside

pub hash-line : (b : ℕ) (t : List ℕ) → b ≡ 35 → HashLine (b ∷ t)
hash-line b t e =
    let f = run-front InLine t in
    let k : is_in InLine b ≡ true = subst (λ x. is_in InLine x ≡ true) (sym e) refl in
    record {
      inside = f.here.front;
      after = f.here.rest;
      split = ap (λ x. x ∷ t) e ∙ ap (λ x. 35 ∷ x) f.here.split;
      len = ap suc f.here.len ∙ sym (run-in InLine b t k);
      line = (f.here.front, refl, f.here.holds, ends-line f.here.rest f.ends);
      ends = f.ends;
      all = f.here.holds;
    }

pub hash-len : (s after : List ℕ) → IsHashLine s after → run InLine (s ++ after) ≡ length s
hash-len s after (rest, e, all, end) = ap (λ x. run InLine (x ++ after)) e ∙ run-stops InLine (35 ∷ rest) after (refl, all) (line-ends after end) ∙ sym (ap length e)
