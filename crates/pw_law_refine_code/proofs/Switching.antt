-- The labels of the body of a `switch`: those of its cases have blocks that it gave out.
use Rattle.std.proofs.Common.{◌≡◌, ℕ, ◌+◌, ◌<◌, ◌≤◌, ◌||◌, Bool, true, false, Contains, ◌⊎◌, inl, inr, Option, Some, List, ◌++◌, length, slice_get, refl, ap, sym, ◌∙◌, arith}
use Rattle.std.specs.Prelude.{option_to_list}
use Rattle.std.specs.List.{AllByRecursion}
use Rattle.std.proofs.lemmas.Option.{slice_get_within, get_or_from_slice_get}
use Rattle.pw_types.specs.TypedTrees.{CaseValue}
use Rattle.pw_lower.specs.declared.code.Code.{Code}
use Rattle.pw_lower.specs.Codes.{block_of_label, numbered}
use Rattle.pw_lower.specs.Statements.{labels_of}
use Rattle.pw_cmean.specs.Execution.{holds}
use Rattle.pw_law_refine_steps.specs.FromLawRefine.Activations.{Activation}
use Rattle.pw_law_refine_steps.specs.FromLawRefine.Statements.{IsOpen, AreLabelled, LieBehind}
use Rattle.pw_law_refine_code.proofs.Totals.{look, holds-contained, contained-held, numbered-length, numbered-other, numbered-among}
use Rattle.pw_law_refine_code.proofs.Opening.{split}
use Rattle.pw_law_refine_code.proofs.StatementsSpread.{case_labels, holds-cases}
use Rattle.pw_law_refine_code.proofs.Labelling.{apart-contains, distinct-ends}

module _
    (x : Activation) (own : List ℕ) (cases : List CaseValue) (default : Option ℕ) (cased : List ℕ) (c d : Code)
    (same : d.labels ≡ numbered (c.blocks + 1) (labels_of cases default) c.labels) (more : c.blocks + 1 + length (labels_of cases default) < d.blocks)
    (room : AllByRecursion (λ l. l < length c.labels) (labels_of cases default))
    (a : AreLabelled x own (case_labels cases ++ (option_to_list default ++ cased)) c) where
  -- an open label of the body is one of the switch, with a block that was given out by it, or one that was open before
  record IsNew (l : ℕ) : Type 0 where
    from : c.blocks + 1 ≤ block_of_label d l
    below : block_of_label d l + 1 < d.blocks

  record IsOld (l : ℕ) : Type 0 where
    is : block_of_label d l ≡ block_of_label c l
    still : IsOpen own (case_labels cases ++ (option_to_list default ++ cased)) l

  looked : (l : ℕ) → block_of_label d l ≡ look (numbered (c.blocks + 1) (labels_of cases default) c.labels) l
  looked l = ap (λ (ls : List ℕ). look ls l) same

  old-or-new : (l : ℕ) → IsOpen own cased l → IsOld l ⊎ IsNew l
  old-or-new l o = by_test (holds (labels_of cases default) l) refl
    where
      by_test : (v : Bool) → holds (labels_of cases default) l ≡ v → IsOld l ⊎ IsNew l
      by_test true e =
          let there = numbered-among (c.blocks + 1) (labels_of cases default) c.labels l room e in
          inr (record { from = omega (arith, there.from, looked l); below = omega (arith, there.below, looked l, more) })
      by_test false e = inl (record {
        is = looked l ∙ numbered-other (c.blocks + 1) (labels_of cases default) c.labels l e;
        still = (o.0, λ w. refused (sym (holds-cases cases default cased l) ∙ holds-contained (case_labels cases ++ (option_to_list default ++ cased)) l w));
      })
        where
          refused : (holds (labels_of cases default) l || holds cased l) ≡ true → ⊥
          refused h = o.1 (contained-held cased l (sym (ap (λ (v : Bool). v || holds cased l) e) ∙ h))

  pub labelled-switch : AreLabelled x own cased d
  labelled-switch = record {
    once = a.once;
    one_use = distinct-ends x.function.named (option_to_list default) cased (distinct-ends x.function.named (case_labels cases) (option_to_list default ++ cased) a.one_use);
    below = a.below;
    all = ap (λ (ls : List ℕ). length ls) same ∙ numbered-length (c.blocks + 1) (labels_of cases default) c.labels ∙ a.all;
    order = a.order;
    named = λ l i there. looked l ∙ numbered-other (c.blocks + 1) (labels_of cases default) c.labels l (no-case l i there) ∙ a.named l i there;
    first = omega (arith, a.first, more);
    given = λ l o. given-of l (old-or-new l o);
    cases = λ l o n. cases-of l n (old-or-new l o);
  }
    where
      no-case : (l i : ℕ) → slice_get x.function.named i ≡ Some l → holds (labels_of cases default) l ≡ false
      no-case l i there = by_test (holds (labels_of cases default) l) refl
        where
          by_test : (v : Bool) → holds (labels_of cases default) l ≡ v → v ≡ false
          by_test false e = refl
          by_test true e = absurd (apart-contains x.function.named (case_labels cases ++ (option_to_list default ++ cased)) l
              (split x.function.named (case_labels cases ++ (option_to_list default ++ cased)) a.one_use).2
              (i, slice_get_within x.function.named i l there, get_or_from_slice_get x.function.named i l l there)
              (contained-held (case_labels cases ++ (option_to_list default ++ cased)) l (holds-cases cases default cased l ∙ ap (λ (v : Bool). v || holds cased l) e)))

      given-of : (l : ℕ) → IsOld l ⊎ IsNew l → block_of_label d l + 1 < d.blocks
      given-of l (inl o) = omega (arith, o.is, a.given l o.still, more)
      given-of l (inr n) = n.below

      cases-of : (l : ℕ) → ¬ Contains x.function.named l → IsOld l ⊎ IsNew l → length x.function.named + 1 < block_of_label d l
      cases-of l n (inl o) = omega (arith, o.is, a.cases l o.still n)
      cases-of l n (inr new) = omega (arith, new.from, a.first)

  pub behind-switch : (back : List ℕ) → c.blocks ≤ d.cur → LieBehind back own (case_labels cases ++ (option_to_list default ++ cased)) c → LieBehind back own cased d
  behind-switch back new b = record {
    given = λ n w. omega (arith, b.given n w, more);
    here = λ n w e. omega (arith, b.given n w, new, e);
    labels = λ n l w o e. labels-of n l w e (old-or-new l o);
  }
    where
      labels-of : (n l : ℕ) → Contains back n → block_of_label d l + 1 ≡ n → IsOld l ⊎ IsNew l → ⊥
      labels-of n l w e (inl o) = b.labels n l w o.still (omega (arith, o.is, e))
      labels-of n l w e (inr fresh) = omega (arith, b.given n w, fresh.from, e)
