-- Frames as they are kept, the innermost last.
use Rattle.std.proofs.Common.{◌≡◌, ℕ, Bool, true, false, Option, Some, None, List, [], ◌∷◌, ◌++◌, reverse, refl, sym, ap, ◌∙◌}
use Rattle.std.proofs.lemmas.List.{reverse-append}
use Rattle.pw_cpp_values.specs.declared.arithmetic.Number.{Number}
use Rattle.pw_cpp_condition.specs.Machine.{applied, binds, reduced, run, step}
use Rattle.pw_cpp_condition.specs.declared.frame.Frame.{Frame}
use Rattle.pw_cpp_condition.specs.declared.word.Item.{Item}
use Rattle.pw_cpp_condition.proofs.Marks.{Continues}

-- one more is the innermost
pub reverse_pushed : {A : Type 0} (xs : List A) (x : A) → reverse (xs ++ x ∷ []) ≡ x ∷ reverse xs
reverse_pushed xs x = reverse-append xs (x ∷ [])

-- the innermost takes an operand or not
pub reduced_more : (k : ℕ) (v : Number) (f : Frame) (old new : List Frame) → old ≡ new ++ f ∷ [] → binds k f ≡ true → reduced k v (reverse old) ≡ reduced k (applied f v) (reverse new)
reduced_more k v f old new e b = ap (λ x. reduced k v (reverse x)) e ∙ ap (reduced k v) (reverse_pushed new f) ∙ more
  where
    more : reduced k v (f ∷ reverse new) ≡ reduced k (applied f v) (reverse new)
    more = rw b refl

pub reduced_less : (k : ℕ) (v : Number) (f : Frame) (old new : List Frame) → old ≡ new ++ f ∷ [] → binds k f ≡ false → reduced k v (reverse old) ≡ (v, f ∷ reverse new)
reduced_less k v f old new e b = ap (λ x. reduced k v (reverse x)) e ∙ ap (reduced k v) (reverse_pushed new f) ∙ stop
  where
    stop : reduced k v (f ∷ reverse new) ≡ (v, f ∷ reverse new)
    stop = rw b refl

pub reduced_none : (k : ℕ) (v : Number) (old : List Frame) → old ≡ [] → reduced k v (reverse old) ≡ (v, [])
reduced_none k v old e = ap (λ x. reduced k v (reverse x)) e

-- ---- steps

pub step_on : (last next : Option Number) (frames after : List Frame) (i : Item) (rest : List Item) → Some (next, after) ≡ step last frames i → run last frames (i ∷ rest) ≡ run next after rest
step_on last next frames after i rest e = ap (Continues rest) (sym e)

pub step_none : (last : Option Number) (frames : List Frame) (i : Item) (rest : List Item) → None ≡ step last frames i → run last frames (i ∷ rest) ≡ None
step_none last frames i rest e = ap (Continues rest) (sym e)
