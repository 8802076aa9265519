-- The least broken cause of a point is the one that is told.
use Rattle.std.specs.Prelude.{◌≡◌, ◌<◌, ◌≤◌, nat_lt, Bool, true, false, if◌then◌else◌, Option, None, Some, [], ◌∷◌, ◌++◌, All, refl}
use Rattle.std.proofs.Common.{arith, ap}
use Rattle.std.proofs.lemmas.Bool.{ltb-true, ltb-false}
use Rattle.std.proofs.lemmas.List.Elements.{All-nil, All-cons, All-head, All-tail}
use Rattle.pw_check_walk.specs.Causes.{Cause, Point, rank}
use Rattle.pw_check_walk.specs.Walks.{lesser, least}
use Rattle.pw_check_walk.specs.Answers.{IsMet}

-- what the ranks of broken ones are to that of a cause
abbrev pub Behind : Cause → Point → Type 0
Behind c p = All (λ d. d.broken ≡ true → rank c ≤ rank d) p

abbrev pub Before : Cause → Point → Type 0
Before c p = All (λ d. d.broken ≡ true → rank c < rank d) p

abbrev pub Above : Cause → Option Cause → Type 0
Above c None = Unit {0}
Above c (Some b) = rank c < rank b

-- a cause that is found in the point, of least rank and the first of its rank
pub record Found (p : Point) (c : Cause) : Type 0 where
  pub before : Point
  pub behind : Point
  pub cut : p ≡ before ++ c ∷ behind
  pub broken : c.broken ≡ true
  pub earlier : Before c before
  pub later : Behind c behind

-- the same with one more in front
pub found_later : (d : Cause) (p : Point) (c : Cause) → (d.broken ≡ true → rank c < rank d) → Found p c → Found (d ∷ p) c
found_later d p c less f =
    record {
      before = d ∷ f.before;
      behind = f.behind;
      cut = ap (λ q. d ∷ q) f.cut;
      broken = f.broken;
      earlier = All-cons (λ e. e.broken ≡ true → rank c < rank e) d f.before less f.earlier;
      later = f.later;
    }

-- the best one stays, or a lesser one is found
pub data Choice (b : Cause) (p : Point) (r : Option Cause) : Type 0 where
  Stays : r ≡ Some b → Behind b p → Choice b p r
  Finds : (c : Cause) → r ≡ Some c → rank c < rank b → Found p c → Choice b p r

lesser_when : (b d : Cause) (x : Bool) → nat_lt (rank d) (rank b) ≡ x → lesser (Some b) d ≡ (if x then Some d else Some b)
lesser_when b d x e = rw e refl

pub chooses : (b : Cause) (p : Point) → Choice b p (least (Some b) p)
chooses b [] = Stays refl (All-nil (λ d. d.broken ≡ true → rank b ≤ rank d))
chooses b (d ∷ p) = by_broken d.broken refl (chooses b p) (chooses d p)
  where
    sound : d.broken ≡ false → Choice b p (least (Some b) p) → Choice b (d ∷ p) (least (Some b) p)
    sound e (Stays same later) =
        Stays same (All-cons (λ x. x.broken ≡ true → rank b ≤ rank x) d p (λ broken. grind arith) later)
    sound e (Finds c same less f) = Finds c same less (found_later d p c (λ broken. grind arith) f)

    lower : d.broken ≡ true → rank d < rank b → Choice d p (least (Some d) p) → Choice b (d ∷ p) (least (Some d) p)
    lower e less (Stays same later) =
        Finds d same less (record { before = []; behind = p; cut = refl; broken = e; earlier = All-nil (λ x. x.broken ≡ true → rank d < rank x); later = later })
    lower e less (Finds c same below f) = Finds c same (omega arith) (found_later d p c (λ broken. below) f)

    higher : rank b ≤ rank d → Choice b p (least (Some b) p) → Choice b (d ∷ p) (least (Some b) p)
    higher most (Stays same later) =
        Stays same (All-cons (λ x. x.broken ≡ true → rank b ≤ rank x) d p (λ broken. most) later)
    higher most (Finds c same less f) = Finds c same less (found_later d p c (λ broken. omega arith) f)

    by_rank : d.broken ≡ true → (x : Bool) → nat_lt (rank d) (rank b) ≡ x
        → Choice b p (least (Some b) p) → Choice d p (least (Some d) p) → Choice b (d ∷ p) (least (if x then Some d else Some b) p)
    by_rank broken true e before now = lower broken (ltb-true (rank d) (rank b) e) now
    by_rank broken false e before now = higher (ltb-false (rank d) (rank b) e) before

    by_broken : (x : Bool) → d.broken ≡ x
        → Choice b p (least (Some b) p) → Choice d p (least (Some d) p)
        → Choice b (d ∷ p) (least (if x then lesser (Some b) d else Some b) p)
    by_broken false e before now = sound e before
    by_broken true e before now = by_rank e (nat_lt (rank d) (rank b)) refl before now

-- ---- with nothing found before

pub data First (p : Point) (r : Option Cause) : Type 0 where
  IsNone : r ≡ None → IsMet p → First p r
  IsFound : (c : Cause) → r ≡ Some c → Found p c → First p r

found_first : (d : Cause) (p : Point) → d.broken ≡ true → (r : Option Cause) → Choice d p r → First (d ∷ p) r
found_first d p e r (Stays same later) =
    IsFound d same (record { before = []; behind = p; cut = refl; broken = e; earlier = All-nil (λ x. x.broken ≡ true → rank d < rank x); later = later })
found_first d p e r (Finds c same less f) = IsFound c same (found_later d p c (λ broken. less) f)

pub first_of : (p : Point) → First p (least None p)
first_of [] = IsNone refl (All-nil (λ c. c.broken ≡ false))
first_of (d ∷ p) = by_broken d.broken refl (first_of p)
  where
    sound : d.broken ≡ false → First p (least None p) → First (d ∷ p) (least None p)
    sound e (IsNone same met) = IsNone same (All-cons (λ c. c.broken ≡ false) d p e met)
    sound e (IsFound c same f) = IsFound c same (found_later d p c (λ broken. grind arith) f)

    by_broken : (x : Bool) → d.broken ≡ x → First p (least None p) → First (d ∷ p) (least (if x then lesser None d else None) p)
    by_broken false e before = sound e before
    by_broken true e before = found_first d p e (least (Some d) p) (chooses d p)

-- ---- the other way

pub least-met : (best : Option Cause) (p : Point) → IsMet p → least best p ≡ best
least-met best [] met = refl
least-met best (c ∷ p) met =
    let sound : c.broken ≡ false = All-head (λ d. d.broken ≡ false) c p met in
    rw sound (least-met best p (All-tail (λ d. d.broken ≡ false) c p met))

pub least-append : (best : Option Cause) (p q : Point) → least best (p ++ q) ≡ least (least best p) q
least-append best [] q = refl
least-append best (c ∷ p) q = least-append (if c.broken then lesser best c else best) p q

above_lesser : (c d : Cause) (best : Option Cause) → Above c best → rank c < rank d → Above c (lesser best d)
above_lesser c d None above less = less
above_lesser c d (Some b) above less = by_rank (nat_lt (rank d) (rank b))
  where
    by_rank : (x : Bool) → Above c (if x then Some d else Some b)
    by_rank true = less
    by_rank false = above

above_step : (c d : Cause) (best : Option Cause) → Above c best → (d.broken ≡ true → rank c < rank d)
    → Above c (if d.broken then lesser best d else best)
above_step c d best above less = by_broken d.broken refl
  where
    by_broken : (x : Bool) → d.broken ≡ x → Above c (if x then lesser best d else best)
    by_broken true e = above_lesser c d best above (less e)
    by_broken false e = above

pub least-above : (c : Cause) (best : Option Cause) (p : Point) → Above c best → Before c p → Above c (least best p)
least-above c best [] above before = above
least-above c best (d ∷ p) above before =
    least-above c (if d.broken then lesser best d else best) p
    (above_step c d best above (All-head (λ e. e.broken ≡ true → rank c < rank e) d p before))
    (All-tail (λ e. e.broken ≡ true → rank c < rank e) d p before)

stays_step : (c d : Cause) → (d.broken ≡ true → rank c ≤ rank d) → (if d.broken then lesser (Some c) d else Some c) ≡ Some c
stays_step c d most = by_broken d.broken refl
  where
    by_rank : rank c ≤ rank d → (x : Bool) → nat_lt (rank d) (rank c) ≡ x → (if x then Some d else Some c) ≡ Some c
    by_rank more true e = let less : rank d < rank c = ltb-true (rank d) (rank c) e in absurd (omega arith)
    by_rank more false e = refl

    by_broken : (x : Bool) → d.broken ≡ x → (if x then lesser (Some c) d else Some c) ≡ Some c
    by_broken true e = by_rank (most e) (nat_lt (rank d) (rank c)) refl
    by_broken false e = refl

pub least-stays : (c : Cause) (p : Point) → Behind c p → least (Some c) p ≡ Some c
least-stays c [] later = refl
least-stays c (d ∷ p) later =
    rw (stays_step c d (All-head (λ e. e.broken ≡ true → rank c ≤ rank e) d p later))
    (least-stays c p (All-tail (λ e. e.broken ≡ true → rank c ≤ rank e) d p later))

lesser_below : (c : Cause) (best : Option Cause) → Above c best → lesser best c ≡ Some c
lesser_below c None above = refl
lesser_below c (Some b) above = by_rank (nat_lt (rank c) (rank b)) refl
  where
    by_rank : (x : Bool) → nat_lt (rank c) (rank b) ≡ x → (if x then Some c else Some b) ≡ Some c
    by_rank true e = refl
    by_rank false e = let most : rank b ≤ rank c = ltb-false (rank c) (rank b) e in absurd (omega arith)

taken : (c : Cause) (best : Option Cause) → c.broken ≡ true → Above c best → (if c.broken then lesser best c else best) ≡ Some c
taken c best broken above = by_broken c.broken broken
  where
    by_broken : (x : Bool) → x ≡ true → (if x then lesser best c else best) ≡ Some c
    by_broken true e = lesser_below c best above
    by_broken false e = grind arith

pub least-found : (before : Point) (c : Cause) (behind : Point)
    → c.broken ≡ true → Before c before → Behind c behind → least None (before ++ c ∷ behind) ≡ Some c
least-found before c behind broken earlier later =
    rw (least-append None before (c ∷ behind))
    (rw (taken c (least None before) broken (least-above c None before tt earlier))
    (least-stays c behind later))
