-- Parts of lists.
use Rattle.std.specs.Prelude.{◌≡◌, ◌+◌, ◌<◌, ◌≤◌, List, [], ◌∷◌, ◌++◌, length}
use Rattle.std.proofs.Common.{arith, sym, ap, refl, ◌∙◌, length-append}
use Rattle.pw_delay.specs.declared.items.Item.{Item}

-- what is left is part of the second list
pub record Behind (entry body before left : List Item) : Type 0 where
  pub mid : List Item
  pub body_is : body ≡ mid ++ left
  pub before_is : before ≡ entry ++ mid

pub behind : (entry body before left : List Item) → entry ++ body ≡ before ++ left → length left ≤ length body → Behind entry body before left
behind [] body before left e le = record { mid = before; body_is = e; before_is = refl }
behind (i ∷ entry) body [] left e le =
    let size = ap length e ∙ refl in
    let both : length (i ∷ entry ++ body) ≡ length (i ∷ entry) + length body = length-append (i ∷ entry) body in
    absurd (omega (arith, size, both, le))
behind (i ∷ entry) body (b ∷ before) left e le =
    let head : i ≡ b = cc in
    let tail : entry ++ body ≡ before ++ left = cc in
    let h = behind entry body before left tail le in
    record { mid = h.mid; body_is = h.body_is; before_is = ap (λ r. b ∷ r) h.before_is ∙ ap (λ i. i ∷ (entry ++ h.mid)) (sym head) }

-- or what stands before is part of the first
pub record Within (entry body before left : List Item) : Type 0 where
  pub item : Item
  pub rest : List Item
  pub entry_is : entry ≡ before ++ item ∷ rest
  pub left_is : left ≡ item ∷ (rest ++ body)

pub within : (entry body before left : List Item) → entry ++ body ≡ before ++ left → length body < length left → Within entry body before left
within [] body [] left e lt = let size = ap length e in absurd (omega (arith, size, lt))
within [] body (b ∷ before) left e lt =
    let size : length body ≡ length (b ∷ before ++ left) = ap length e in
    let both : length (b ∷ before ++ left) ≡ length (b ∷ before) + length left = length-append (b ∷ before) left in
    absurd (omega (arith, size, both, lt))
within (i ∷ entry) body [] left e lt = record { item = i; rest = entry; entry_is = refl; left_is = sym e }
within (i ∷ entry) body (b ∷ before) left e lt =
    let head : i ≡ b = cc in
    let tail : entry ++ body ≡ before ++ left = cc in
    let h = within entry body before left tail lt in
    record { item = h.item; rest = h.rest; entry_is = ap (λ r. i ∷ r) h.entry_is ∙ ap (λ i. i ∷ (before ++ h.item ∷ h.rest)) head; left_is = h.left_is }
