-- What blocks the code of a statement begins: those whose numbers were given out since, each once, and those of its labels
-- that are open.
use Rattle.std.proofs.Common.{◌≡◌, ℕ, ◌+◌, ◌≤◌, ◌==◌, Bool, true, false, ◌||◌, nat_eq, true≢false, if◌then◌else◌, List, [], ◌∷◌, ◌++◌, length, refl, ap, sym, ◌∙◌, arith, eqb-true}
use Rattle.std.specs.List.{AllByRecursion, IsDistinct}
use Rattle.pw_lower.specs.declared.code.Code.{Code}
use Rattle.pw_cmean.specs.Execution.{holds}
use Rattle.pw_law_refine_steps.specs.FromLawRefine.Containing.{same, given, begun}
use Rattle.pw_law_refine_code.proofs.Spreads.{Spread, none}
use Rattle.pw_law_refine_code.proofs.Totals.{total, total-append, look, holds-append}

-- a number where a test fails
abbrev pub unless : Bool → ℕ → ℕ
unless v n = if v then 0 else n

-- a label's block, where it is the label of no case in the part
abbrev pub opened_at : ℕ → List ℕ → List ℕ → ℕ → ℕ
opened_at b blocks cased l = unless (holds cased l) (same (look blocks l) b)

abbrev pub opened : ℕ → List ℕ → (own cased : List ℕ) → ℕ
opened b blocks own cased = total (opened_at b blocks cased) own

-- The code d is that of a part with these labels, behind the code c; of the blocks that were given out since it leaves
-- some, and begins others besides.
pub record Opens (c d : Code) (own cased : List ℕ) (saved spent : ℕ → ℕ) : Type 0 where
  pub blocks : (b : ℕ) → begun b d + given b c.blocks + saved b ≤ begun b c + given b d.blocks + spent b + opened b c.labels own cased
  pub counts : c.blocks ≤ d.blocks
  pub temps : c.temps ≤ d.temps
  pub size : length d.labels ≡ length c.labels
  pub kept : (l : ℕ) → holds cased l ≡ false → look d.labels l ≡ look c.labels l
  pub among : AllByRecursion (λ l. holds own l ≡ true) cased

pub settled :
    {c d : Code} {own cased : List ℕ} {s n k m : ℕ → ℕ} → Opens c d own cased s n → ((b : ℕ) → n b + k b ≤ s b + m b) → Opens c d own cased k m
settled o h = record {
  blocks = λ b. omega (arith, o.blocks b, h b);
  counts = o.counts;
  temps = o.temps;
  size = o.size;
  kept = o.kept;
  among = o.among;
}

-- behind code without labels
pub behind :
    {c d e : Code} {own cased : List ℕ} {s n s' n' : ℕ → ℕ} → Spread c d s n → Opens d e own cased s' n'
    → Opens c e own cased (λ b. s b + s' b) (λ b. n b + n' b)
behind {c = c} {d = d} {e = e} {own = own} {cased = cased} p o = record {
  blocks = λ b. omega (arith, p.blocks b, o.blocks b, ap (λ (ls : List ℕ). opened b ls own cased) p.labels);
  counts = omega (arith, p.counts, o.counts);
  temps = omega (arith, p.temps, o.temps);
  size = o.size ∙ ap (λ (ls : List ℕ). length ls) p.labels;
  kept = λ l g. o.kept l g ∙ ap (λ (ls : List ℕ). look ls l) p.labels;
  among = o.among;
}

-- before code without labels
pub before :
    {c d e : Code} {own cased : List ℕ} {s n s' n' : ℕ → ℕ} → Opens c d own cased s n → Spread d e s' n'
    → Opens c e own cased (λ b. s b + s' b) (λ b. n b + n' b)
before {c = c} {d = d} {e = e} {own = own} {cased = cased} o p = record {
  blocks = λ b. omega (arith, p.blocks b, o.blocks b);
  counts = omega (arith, p.counts, o.counts);
  temps = omega (arith, p.temps, o.temps);
  size = ap (λ (ls : List ℕ). length ls) p.labels ∙ o.size;
  kept = λ l g. ap (λ (ls : List ℕ). look ls l) p.labels ∙ o.kept l g;
  among = o.among;
}

-- between code without labels, after which nothing is left
pub around :
    {c d e f : Code} {own cased : List ℕ} {s n s' n' : ℕ → ℕ} → Spread c d s n → Opens d e own cased none none → Spread e f s' n'
    → ((b : ℕ) → n b + n' b ≤ s b + s' b) → Opens c f own cased none none
around p o q h = settled (before (behind p o) q) (λ b. omega (arith, h b))

-- code without labels alone
pub only : {c d : Code} → Spread c d none none → Opens c d [] [] none none
only p = record {
  blocks = λ b. omega (arith, p.blocks b);
  counts = p.counts;
  temps = p.temps;
  size = ap (λ (ls : List ℕ). length ls) p.labels;
  kept = λ l g. ap (λ (ls : List ℕ). look ls l) p.labels;
  among = tt;
}

-- ---- labels of two parts

abbrev pub Apart : (xs ys : List ℕ) → Type 0
Apart xs ys = AllByRecursion (λ x. holds ys x ≡ false) xs

not-both : (ys : List ℕ) (x : ℕ) → AllByRecursion (λ y. nat_eq x y ≡ false) ys → holds ys x ≡ false
not-both [] x h = refl
not-both (y ∷ ys) x h = let other : nat_eq y x ≡ false = grind (arith, h.0) in rw other (not-both ys x h.1)

-- of a list of labels that differ, each part, and that they have none in common
pub split : (xs ys : List ℕ) → IsDistinct nat_eq (xs ++ ys) → IsDistinct nat_eq xs × IsDistinct nat_eq ys × Apart xs ys
unfolding IsDistinct
split [] ys h = (tt, h, tt)
split (x ∷ xs) ys h =
    let rest = split xs ys h.1 in
    ((front xs ys h.0, rest.0), rest.1, (not-both ys x (back xs ys h.0), rest.2))
  where
    front : (us vs : List ℕ) → AllByRecursion (λ y. nat_eq x y ≡ false) (us ++ vs) → AllByRecursion (λ y. nat_eq x y ≡ false) us
    front [] vs g = tt
    front (u ∷ us) vs g = (g.0, front us vs g.1)

    back : (us vs : List ℕ) → AllByRecursion (λ y. nat_eq x y ≡ false) (us ++ vs) → AllByRecursion (λ y. nat_eq x y ≡ false) vs
    back [] vs g = g
    back (u ∷ us) vs g = back us vs g.1

-- what holds no label holds no case
pub outside : (own cased : List ℕ) (l : ℕ) → AllByRecursion (λ k. holds own k ≡ true) cased → holds own l ≡ false → holds cased l ≡ false
outside own [] l among h = refl
outside own (k ∷ cased) l among h = rw differs (outside own cased l among.1 h)
  where
    differs : (k == l) ≡ false
    differs = by_test (k == l) refl
      where
        by_test : (v : Bool) → (k == l) ≡ v → v ≡ false
        by_test true e = absurd (true≢false (sym among.0 ∙ ap (λ (x : ℕ). holds own x) (eqb-true k l e) ∙ h))
        by_test false e = refl

either-false : (p q : Bool) → p ≡ false → q ≡ false → (p || q) ≡ false
either-false true q e f = absurd (true≢false e)
either-false false q e f = f

pub neither : (p q : Bool) → (p || q) ≡ false → (p ≡ false) × (q ≡ false)
neither true q e = absurd (true≢false e)
neither false q e = (refl, e)

pub turned-apart : (xs ys : List ℕ) → Apart xs ys → Apart ys xs
turned-apart xs [] h = tt
turned-apart xs (y ∷ ys) h = (absent xs h, turned-apart xs ys (fewer xs h))
  where
    absent : (zs : List ℕ) → Apart zs (y ∷ ys) → holds zs y ≡ false
    absent [] g = refl
    absent (z ∷ zs) g = either-false (z == y) (holds zs y) (let is : (y == z) ≡ false = (neither (y == z) (holds ys z) g.0).0 in grind (arith, is)) (absent zs g.1)

    fewer : (zs : List ℕ) → Apart zs (y ∷ ys) → Apart zs ys
    fewer [] g = tt
    fewer (z ∷ zs) g = ((neither (y == z) (holds ys z) g.0).1, fewer zs g.1)

held-left : (xs ys : List ℕ) (l : ℕ) → holds xs l ≡ true → holds (xs ++ ys) l ≡ true
held-left xs ys l h = holds-append xs ys l ∙ ap (λ (v : Bool). v || holds ys l) h

held-right : (xs ys : List ℕ) (l : ℕ) → holds ys l ≡ true → holds (xs ++ ys) l ≡ true
held-right [] ys l h = h
held-right (x ∷ xs) ys l h = rw (held-right xs ys l h) (or-true (x == l))
  where
    or-true : (p : Bool) → (p || true) ≡ true
    or-true true = refl
    or-true false = refl

among-both :
    (own1 own2 cased1 cased2 : List ℕ) → AllByRecursion (λ l. holds own1 l ≡ true) cased1 → AllByRecursion (λ l. holds own2 l ≡ true) cased2
    → AllByRecursion (λ l. holds (own1 ++ own2) l ≡ true) (cased1 ++ cased2)
among-both own1 own2 [] [] g h = tt
among-both own1 own2 [] (k ∷ cased2) g h = (held-right own1 own2 k h.0, among-both own1 own2 [] cased2 g h.1)
among-both own1 own2 (k ∷ cased1) cased2 g h = (held-left own1 own2 k g.0, among-both own1 own2 cased1 cased2 g.1 h)

opened-left :
    (b : ℕ) (blocks cased1 cased2 own : List ℕ) → AllByRecursion (λ l. holds cased2 l ≡ false) own
    → opened b blocks own cased1 ≤ opened b blocks own (cased1 ++ cased2)
opened-left b blocks cased1 cased2 [] h = omega arith
opened-left b blocks cased1 cased2 (l ∷ own) h =
    let is : holds (cased1 ++ cased2) l ≡ holds cased1 l = holds-append cased1 cased2 l ∙ or-none (holds cased1 l) (holds cased2 l) h.0 in
    omega (arith, ap (λ (v : Bool). unless v (same (look blocks l) b)) is, opened-left b blocks cased1 cased2 own h.1)
  where
    or-none : (p q : Bool) → q ≡ false → (p || q) ≡ p
    or-none true q e = refl
    or-none false q e = e

opened-right :
    (b : ℕ) (blocks later cased1 cased2 own : List ℕ) → AllByRecursion (λ l. holds cased1 l ≡ false) own
    → ((l : ℕ) → holds cased1 l ≡ false → look later l ≡ look blocks l)
    → opened b later own cased2 ≤ opened b blocks own (cased1 ++ cased2)
opened-right b blocks later cased1 cased2 [] h kept = omega arith
opened-right b blocks later cased1 cased2 (l ∷ own) h kept =
    let is : holds (cased1 ++ cased2) l ≡ holds cased2 l = holds-append cased1 cased2 l ∙ ap (λ (v : Bool). v || holds cased2 l) h.0 in
    let own_block : look later l ≡ look blocks l = kept l h.0 in
    omega (arith, ap (λ (v : Bool). unless v (same (look blocks l) b)) is, ap (λ (n : ℕ). unless (holds cased2 l) (same n b)) own_block, opened-right b blocks later cased1 cased2 own h.1 kept)

pub each-outside : (own cased ls : List ℕ) → AllByRecursion (λ k. holds own k ≡ true) cased → Apart ls own → AllByRecursion (λ l. holds cased l ≡ false) ls
each-outside own cased [] among h = tt
each-outside own cased (l ∷ ls) among h = (outside own cased l among h.0, each-outside own cased ls among h.1)

-- two parts one behind the other
pub joined :
    {c d e : Code} {own1 cased1 own2 cased2 : List ℕ} {s n s' n' : ℕ → ℕ} → IsDistinct nat_eq (own1 ++ own2) → Opens c d own1 cased1 s n
    → Opens d e own2 cased2 s' n' → Opens c e (own1 ++ own2) (cased1 ++ cased2) (λ b. s b + s' b) (λ b. n b + n' b)
joined {c = c} {d = d} {e = e} {own1 = own1} {cased1 = cased1} {own2 = own2} {cased2 = cased2} distinct f g =
    let apart : Apart own1 own2 = (split own1 own2 distinct).2 in
    record {
      blocks = λ b. omega (
        arith,
        f.blocks b,
        g.blocks b,
        total-append (opened_at b c.labels (cased1 ++ cased2)) own1 own2,
        opened-left b c.labels cased1 cased2 own1 (each-outside own2 cased2 own1 g.among apart),
        opened-right b c.labels d.labels cased1 cased2 own2 (each-outside own1 cased1 own2 f.among (turned-apart own1 own2 apart)) f.kept,
      );
      counts = omega (arith, f.counts, g.counts);
      temps = omega (arith, f.temps, g.temps);
      size = g.size ∙ f.size;
      kept = λ l h. (let two = neither (holds cased1 l) (holds cased2 l) (sym (holds-append cased1 cased2 l) ∙ h) in g.kept l two.1 ∙ f.kept l two.0);
      among = among-both own1 own2 cased1 cased2 f.among g.among;
    }
