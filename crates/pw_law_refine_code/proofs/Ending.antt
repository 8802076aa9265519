-- Where the code of a statement ends: in the block in which it began, in one whose number was given out since, or in that of
-- its last label.
use Rattle.std.proofs.Common.{◌≡◌, ℕ, ◌+◌, ◌<◌, ◌≤◌, ◌==◌, Bool, true, false, true≢false, ◌||◌, nat_eq, Option, Some, None, Contains, ◌⊎◌, inl, inr, List, [], ◌∷◌, ◌++◌, length, refl, ap, sym, subst, ◌∙◌, arith, append_assoc, eqb-true, length-append}
use Rattle.std.specs.List.{AllByRecursion, IsDistinct}
use Rattle.std.proofs.lemmas.Bool.{cases_lt}
use Rattle.std.proofs.lemmas.List.{append-nil}
use Rattle.pw_value.specs.declared.value.Kind.{Kind}
use Rattle.pw_types.specs.Labels.{labels_in, labels_among, cases_in, cases_among}
use Rattle.pw_types.specs.TypeTrees.{CType}
use Rattle.pw_types.specs.TypedModules.{IsStatement, AreStatements}
use Rattle.pw_types.specs.TypedTrees.{Expression, Initialiser, Value, Bytes, LocalValue, Statement, Empty, Evaluate, Block, If, Label, Return, NoArm, Arm, NoElse, Else, Statements, NoStatement, OneStatement, FunctionValue, ModuleValue}
use Rattle.pw_flow.specs.declared.flow.End.TheVariants.{Jump}
use Rattle.pw_lower.specs.declared.code.Code.{Code}
use Rattle.pw_lower.specs.declared.code.Numbered.{Numbered}
use Rattle.pw_lower.specs.declared.place.Ways.{Ways}
use Rattle.pw_lower.specs.declared.place.LocalPlace.{LocalPlace}
use Rattle.pw_lower.specs.declared.place.LocalPlace.TheVariants.{Temp, Slot}
use Rattle.pw_lower.specs.declared.place.Target.{Target}
use Rattle.pw_lower.specs.declared.place.Target.TheVariants.{Kept, Named, Led}
use Rattle.pw_lower.specs.Places.{place_at}
use Rattle.pw_lower.specs.Operators.{kind_of}
use Rattle.pw_lower.specs.Codes.{temp_of, cut_here, block_of_label}
use Rattle.pw_lower.specs.Expressions.{Home, write, address_of_local, target_of_local, lower}
use Rattle.pw_lower.specs.Statements.{begun as begun_labels, Frame, local_type, initialised_by, initialised, initialised_all, lower_statement, lower_statements}
use Rattle.pw_cmean.specs.Execution.{holds}
use Rattle.pw_law_lower.specs.Kept.{IsStillFilled, IsClosedNext, Keeps}
use Rattle.pw_law_refine_steps.specs.FromLawRefine.Containing.{same, given, times_closed}
use Rattle.pw_law_refine_code.specs.Ending.{StaysThere, IsAtLastLabel, Ends, KeepLabels}
use Rattle.pw_law_refine_code.proofs.Spreads.{Spread, OfExpressions, one_if, none, times_closed-append, lower-spreads}
use Rattle.pw_law_refine_code.proofs.Totals.{look, holds-append, holds-contained, contained-held}
use Rattle.pw_law_refine_code.proofs.Opening.{Opens, Apart, split, each-outside, turned-apart}
use Rattle.pw_law_refine_code.proofs.StatementsSpread.{FitsIn, fits-front, fits-back, fits-at, initialised_all-spreads, begun-opens, statement-opens, statements-open}

not-contained : (cased : List ℕ) (l : ℕ) → holds cased l ≡ false → ¬ Contains cased l
not-contained cased l e w = true≢false (sym (holds-contained cased l w) ∙ e)

-- ---- code without labels

-- It begins only blocks whose numbers were given out since, and has closed all that was closed: so it ends where it began or
-- in one of those.
pub spread-ends : (c d : Code) → Spread c d none none → Keeps c d → Ends c d [] []
spread-ends c d s k = elim (cases_lt d.cur c.blocks) [
  | inl below ↦ inl (record { none = refl; same = by_test (c.cur == d.cur) refl below })
  | inr above ↦ inr (inl above)
]
  where
    closed-before : times_closed d.cur c.closed ≤ times_closed d.cur d.closed
    closed-before = by_kept k.filled
      where
        by_kept : IsStillFilled c d ⊎ IsClosedNext c d → times_closed d.cur c.closed ≤ times_closed d.cur d.closed
        by_kept (inl f) = omega (arith, ap (λ (bs : List Numbered). times_closed d.cur bs) f.closed)
        by_kept (inr f) =
            let next : Numbered = record { number = c.cur; block = record { depth = c.depth; ops = c.ops ++ f.more; end = f.end } } in
            omega (arith, ap (λ (bs : List Numbered). times_closed d.cur bs) f.closed, times_closed-append d.cur c.closed (next ∷ f.rest))

    own : (n : ℕ) → same n n ≡ 1
    own n = grind arith

    was_given : (n m : ℕ) → n < m → given n m ≡ 1
    was_given n m h = grind arith

    at_most : (n m : ℕ) → given n m ≤ 1
    at_most n m = grind arith

    by_test : (v : Bool) → (c.cur == d.cur) ≡ v → d.cur < c.blocks → d.cur ≡ c.cur
    by_test true e below = sym (eqb-true c.cur d.cur e)
    by_test false e below = absurd (omega (arith, s.blocks d.cur, closed-before, ap one_if e, own d.cur, was_given d.cur c.blocks below, at_most d.cur d.blocks))

-- ---- two parts

pub ends-join :
    {c d e : Code} {own1 cased1 own2 cased2 : List ℕ} → IsDistinct nat_eq (own1 ++ own2)
    → Opens c d own1 cased1 none none → Opens d e own2 cased2 none none
    → Ends c d own1 cased1 → Ends d e own2 cased2 → Ends c e (own1 ++ own2) (cased1 ++ cased2)
ends-join {c = c} {d = d} {e = e} {own1 = own1} {cased1 = cased1} {own2 = own2} {cased2 = cased2} distinct f g first second = by_second first second
  where
    apart : Apart own1 own2
    apart = (split own1 own2 distinct).2

    free-both : (l : ℕ) → holds cased1 l ≡ false → holds cased2 l ≡ false → ¬ Contains (cased1 ++ cased2) l
    free-both l p q = not-contained (cased1 ++ cased2) l (holds-append cased1 cased2 l ∙ ap (λ (v : Bool). v || holds cased2 l) p ∙ q)

    not-held : (cased : List ℕ) (l : ℕ) → ¬ Contains cased l → holds cased l ≡ false
    not-held cased l h = by_test (holds cased l) refl
      where
        by_test : (v : Bool) → holds cased l ≡ v → v ≡ false
        by_test true e = absurd (h (contained-held cased l e))
        by_test false e = refl

    last-of : (P : ℕ → Type 0) (before : List ℕ) (l : ℕ) → AllByRecursion P (before ++ l ∷ []) → P l
    last-of P [] l h = h.0
    last-of P (x ∷ before) l h = last-of P before l h.1

    no-more : (own : List ℕ) → own ≡ [] → own1 ++ own ≡ own1
    no-more own h = ap (λ (ls : List ℕ). own1 ++ ls) h ∙ append-nil own1

    at-first : IsAtLastLabel c d own1 cased1 → StaysThere d e own2 → Ends c e (own1 ++ own2) (cased1 ++ cased2)
    at-first a s = inr (inr (record {
      before = a.before;
      label = a.label;
      last = no-more own2 s.none ∙ a.last;
      free = free-both a.label (not-held cased1 a.label a.free)
          (last-of (λ l. holds cased2 l ≡ false) a.before a.label
          (subst (λ (ls : List ℕ). AllByRecursion (λ l. holds cased2 l ≡ false) ls) a.last (each-outside own2 cased2 own1 g.among apart)));
      here = s.same ∙ a.here;
    }))

    at-second : IsAtLastLabel d e own2 cased2 → Ends c e (own1 ++ own2) (cased1 ++ cased2)
    at-second a =
        let outside-first = last-of (λ l. holds cased1 l ≡ false) a.before a.label
        (subst (λ (ls : List ℕ). AllByRecursion (λ l. holds cased1 l ≡ false) ls) a.last (each-outside own1 cased1 own2 f.among (turned-apart own1 own2 apart))) in
        inr (inr (record {
          before = own1 ++ a.before;
          label = a.label;
          last = ap (λ (ls : List ℕ). own1 ++ ls) a.last ∙ sym (append_assoc own1 a.before (a.label ∷ []));
          free = free-both a.label outside-first (not-held cased2 a.label a.free);
          here = a.here ∙ f.kept a.label outside-first;
        }))

    by_second : Ends c d own1 cased1 → Ends d e own2 cased2 → Ends c e (own1 ++ own2) (cased1 ++ cased2)
    by_second x (inr (inl new)) = inr (inl (omega (arith, f.counts, new)))
    by_second x (inr (inr label)) = at-second label
    by_second (inl stays) (inl s) = inl (record { none = no-more own2 s.none ∙ stays.none; same = s.same ∙ stays.same })
    by_second (inr (inl new)) (inl s) = inr (inl (omega (arith, new, s.same)))
    by_second (inr (inr label)) (inl s) = at-first label s

-- the labels of a statement
pub begun-ends : (l : ℕ) (own : List ℕ) (c : Code) → Ends c (begun_labels (l ∷ own) c) (l ∷ own) []
begun-ends l own c = inr (inr (last l own c))
  where
    none-there : (k : ℕ) → ¬ Contains [] k
    none-there k w = omega (arith, w.1)

    last : (k : ℕ) (ks : List ℕ) (d : Code) → IsAtLastLabel d (begun_labels (k ∷ ks) d) (k ∷ ks) []
    last k [] d = record { before = []; label = k; last = refl; free = none-there k; here = refl }
    last k (j ∷ ks) d =
        let rest = last j ks (cut_here (Jump (block_of_label d k)) (block_of_label d k) d) in
        record { before = k ∷ rest.before; label = rest.label; last = ap (λ (ls : List ℕ). k ∷ ls) rest.last; free = rest.free; here = rest.here }

-- ---- initialisers

-- code without labels, in short
abbrev pub Goes : (c d : Code) → Type 0
Goes c d = (d.cur ≡ c.cur) ⊎ (c.blocks ≤ d.cur)

goes-then : (c d e : Code) → c.blocks ≤ d.blocks → Goes c d → Goes d e → Goes c e
goes-then c d e h (inl x) (inl y) = inl (y ∙ x)
goes-then c d e h (inr x) (inl y) = inr (omega (arith, x, y))
goes-then c d e h x (inr y) = inr (omega (arith, h, y))

goes-ends : {own cased : List ℕ} (c d e : Code) → c.blocks ≤ d.blocks → d.labels ≡ c.labels → Goes c d → Ends d e own cased → Ends c e own cased
goes-ends c d e h labels (inl x) (inl s) = inl (record { none = s.none; same = s.same ∙ x })
goes-ends c d e h labels (inr x) (inl s) = inr (inl (omega (arith, x, s.same)))
goes-ends c d e h labels x (inr (inl new)) = inr (inl (omega (arith, h, new)))
goes-ends c d e h labels x (inr (inr a)) =
    inr (inr (record { before = a.before; label = a.label; last = a.last; free = a.free; here = a.here ∙ ap (λ (ls : List ℕ). look ls a.label) labels }))

write-stays : (k : Kind) (target : Target) (v : ℕ) (c : Code) → (write k target v c).cur ≡ c.cur
write-stays k (Kept x) v c = refl
write-stays k (Named g) v c = refl
write-stays k (Led p) v c = refl

target-stays : (p : LocalPlace) (c : Code) → (target_of_local p c).code.cur ≡ c.cur
target-stays (Temp x) c = refl
target-stays (Slot s) c = refl

target-blocks : (p : LocalPlace) (c : Code) → (target_of_local p c).code.blocks ≡ c.blocks
target-blocks (Temp x) c = refl
target-blocks (Slot s) c = refl

address-stays : (p : LocalPlace) (c : Code) → (address_of_local p c).code.cur ≡ c.cur
address-stays (Temp x) c = refl
address-stays (Slot s) c = refl

address-blocks : (p : LocalPlace) (c : Code) → (address_of_local p c).code.blocks ≡ c.blocks
address-blocks (Temp x) c = refl
address-blocks (Slot s) c = refl

-- ---- by what is known of expressions

module _ (known : OfExpressions) (kept : (h : Home) (e : Expression) (c : Code) → Keeps c (lower h e c).code) where
  lower-goes : (h : Home) (e : Expression) (c : Code) → Goes c (lower h e c).code
  lower-goes h e c = goes_of (spread-ends c (lower h e c).code (lower-spreads known h e c) (kept h e c))
    where
      goes_of : Ends c (lower h e c).code [] [] → Goes c (lower h e c).code
      goes_of (inl s) = inl s.same
      goes_of (inr (inl new)) = inr new
      goes_of (inr (inr a)) = absurd (omega (arith, ap (λ (ls : List ℕ). length ls) a.last, length-append a.before (a.label ∷ [])))

  initialised_by-goes : (h : Home) (k : Option Kind) (ty : CType) (p : LocalPlace) (e : Expression) (c : Code) → Goes c (initialised_by h k ty p e c)
  initialised_by-goes h (Some kind) ty p e c =
      let q = target_of_local p c in
      let x = lower h e q.code in
      stored-there q.code x.code (initialised_by h (Some kind) ty p e c) (target-stays p c) (target-blocks p c) (write-stays kind q.target (temp_of x) x.code) (lower-goes h e q.code)
    where
      stored-there : (d e f : Code) → d.cur ≡ c.cur → d.blocks ≡ c.blocks → f.cur ≡ e.cur → Goes d e → Goes c f
      stored-there d e f cur blocks last (inl x) = inl (last ∙ x ∙ cur)
      stored-there d e f cur blocks last (inr x) = inr (omega (arith, x, last, blocks))
  initialised_by-goes h None ty p e c =
      let q = address_of_local p c in
      copied-there q.code (lower h e q.code).code (address-stays p c) (address-blocks p c) (lower-goes h e q.code)
    where
      copied-there : (d f : Code) → d.cur ≡ c.cur → d.blocks ≡ c.blocks → Goes d f → Goes c f
      copied-there d f cur blocks (inl x) = inl (x ∙ cur)
      copied-there d f cur blocks (inr x) = inr (omega (arith, x, blocks))

  pub initialised_all-goes : (h : Home) (locals : List LocalValue) (all : List Initialiser) (c : Code) → Goes c (initialised_all h locals all c)
  initialised_all-goes h locals [] c = inl refl
  initialised_all-goes h locals (i ∷ rest) c =
      let one = initialised_all-spreads known h locals (i ∷ []) c in
      goes-then c (initialised h locals i c) (initialised_all h locals (i ∷ rest) c) one.counts (first i) (initialised_all-goes h locals rest (initialised h locals i c))
    where
      first : (j : Initialiser) → Goes c (initialised h locals j c)
      first (Value k e) = initialised_by-goes h (kind_of (local_type locals k)) (local_type locals k) (place_at h.places k) e c
      first (Bytes k hidden parts) = inl (address-stays (place_at h.places k) c)

  -- ---- statements

  mutual
    unfolding lower_statement IsStatement

    pub statement-ends :
        (m : ModuleValue) (f : FunctionValue) (breaks continues : Bool) (from : ℕ) (frame : Frame) (ways : Ways) (s : Statement) (c : Code)
        → IsStatement m f breaks continues from s → FitsIn (length c.labels) (labels_in s) (cases_in s)
        → Ends c (lower_statement frame ways s c) (labels_in s) (cases_in s)
    statement-ends m f breaks continues from frame ways (Empty t) c typed fits = inl (record { none = refl; same = refl })
    statement-ends m f breaks continues from frame ways (Evaluate t e) c typed fits =
        spread-ends c (lower frame.home e c).code (lower-spreads known frame.home e c) (kept frame.home e c)
    statement-ends m f breaks continues from frame ways (Block t first count initialisers items) c typed fits =
        let d = initialised_all frame.home frame.locals initialisers c in
        let start = initialised_all-spreads known frame.home frame.locals initialisers c in
        goes-ends c d (lower_statements frame ways items d) start.counts start.labels (initialised_all-goes frame.home frame.locals initialisers c)
        (statements-end m f breaks continues (first + count) frame ways items d typed.3
        (fits-at (length c.labels) (length d.labels) (labels_among items) (cases_among items) (ap (λ (ls : List ℕ). length ls) start.labels) fits))
    statement-ends m f breaks continues from frame ways (If t NoArm otherwise) c typed fits = absurd typed.0
    statement-ends m f breaks continues from frame ways (If t (Arm u e s NoArm) NoElse) c typed fits = let x = lower-spreads known frame.home e c in inr (inl (omega (arith, x.counts)))
    statement-ends m f breaks continues from frame ways (If t (Arm u e s NoArm) (Else r)) c typed fits = let x = lower-spreads known frame.home e c in inr (inl (omega (arith, x.counts)))
    statement-ends m f breaks continues from frame ways (If t (Arm u e s (Arm v a r rest)) otherwise) c typed fits = let x = lower-spreads known frame.home e c in inr (inl (omega (arith, x.counts)))
    statement-ends m f breaks continues from frame ways (Label t [] body) c typed fits = absurd (typed.0 refl)
    statement-ends m f breaks continues from frame ways (Label t (l ∷ own) body) c typed fits =
        let d = begun_labels (l ∷ own) c in
        let start = begun-opens known (l ∷ own) c in
        let inner = fits-back (length c.labels) (length d.labels) (l ∷ own) (labels_in body) [] (cases_in body) start.size fits in
        ends-join fits.once start (statement-opens known m f breaks continues from frame ways body d typed.1 inner)
        (begun-ends l own c) (statement-ends m f breaks continues from frame ways body d typed.1 inner)
    statement-ends m f breaks continues from frame ways (Return t (Some e)) c typed fits =
        let s = lower-spreads known frame.home e c in inr (inl (omega (arith, s.counts)))
    statement-ends m f breaks continues from frame ways _ c typed fits = inr (inl (omega arith))

    pub statements-end :
        (m : ModuleValue) (f : FunctionValue) (breaks continues : Bool) (from : ℕ) (frame : Frame) (ways : Ways) (all : Statements) (c : Code)
        → AreStatements m f breaks continues from all → FitsIn (length c.labels) (labels_among all) (cases_among all)
        → Ends c (lower_statements frame ways all c) (labels_among all) (cases_among all)
    statements-end m f breaks continues from frame ways NoStatement c typed fits = inl (record { none = refl; same = refl })
    statements-end m f breaks continues from frame ways (OneStatement s rest) c typed fits =
        let d = lower_statement frame ways s c in
        let front = fits-front (length c.labels) (labels_in s) (labels_among rest) (cases_in s) (cases_among rest) fits in
        let first = statement-opens known m f breaks continues from frame ways s c typed.0 front in
        let inner = fits-back (length c.labels) (length d.labels) (labels_in s) (labels_among rest) (cases_in s) (cases_among rest) first.size fits in
        ends-join fits.once first (statements-open known m f breaks continues from frame ways rest d typed.1 inner)
        (statement-ends m f breaks continues from frame ways s c typed.0 front) (statements-end m f breaks continues from frame ways rest d typed.1 inner)

pub keep-labels : {c d : Code} {own cased : List ℕ} → Opens c d own cased none none → KeepLabels c d cased
keep-labels {c = c} {d = d} {own = own} {cased = cased} o = record { count = o.size; others = λ l h. o.kept l (by_test l h (holds cased l) refl) }
  where
    by_test : (l : ℕ) → ¬ Contains cased l → (v : Bool) → holds cased l ≡ v → v ≡ false
    by_test l h true e = absurd (h (contained-held cased l e))
    by_test l h false e = refl

pub statement-keeps-labels :
    (known : OfExpressions) (m : ModuleValue) (f : FunctionValue) (breaks continues : Bool) (from : ℕ) (frame : Frame) (ways : Ways) (s : Statement) (c : Code)
    → IsStatement m f breaks continues from s → FitsIn (length c.labels) (labels_in s) (cases_in s)
    → KeepLabels c (lower_statement frame ways s c) (cases_in s)
statement-keeps-labels known m f breaks continues from frame ways s c typed fits =
    keep-labels (statement-opens known m f breaks continues from frame ways s c typed fits)
