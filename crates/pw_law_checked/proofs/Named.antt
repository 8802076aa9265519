-- Objects with a name at a module's end: their types keep the limit on sizes, and those that are defined tentatively are complete.
use Rattle.std.specs.Prelude.{ℕ, zero, suc, ◌≡◌, true, not, ◌&&◌, ◌||◌, is_some, None, Some, List, [], ◌∷◌, slice_get, if◌then◌else◌, refl}
use Rattle.std.proofs.Common.{ap, subst, ◌∙◌}
use Rattle.pw_types.specs.Records.{IsObjectType}
use Rattle.pw_types.specs.TypeTrees.{type_of}
use Rattle.pw_types.specs.WellTyped.{IsComplete}
use Rattle.pw_check_walk.specs.Causes.{needs, CompleteAtEnd}
use Rattle.pw_check_walk.specs.Walks.{bind}
use Rattle.pw_check_rules.specs.Kinds.{is_record}
use Rattle.pw_check_rules.specs.Limits.{completed}
use Rattle.pw_check_rules.specs.Modules.{end_rule, end_cause, end_spot, final_type}
use Rattle.pw_check_rules.specs.States.{State, LinkedName, records_in}
use Rattle.pw_law_checked.specs.Lawful.{IsLawful}
use Rattle.pw_law_checked.proofs.Walking.{AreMet, Post, post_weaken}
use Rattle.pw_law_checked.proofs.Lists.{some_same, never_some}
use Rattle.pw_law_checked.proofs.Types.{is_complete_so}
use Rattle.pw_law_checked.proofs.Objects.{completed_so}
use Rattle.pw_law_checked.proofs.ObjectTypes.{IsWithin, AreWithin, keeps_within, object_is}
use Rattle.pw_law_checked.proofs.Composite.{layout_covered}
use Rattle.pw_law_checked.proofs.Sound.{Sound}
use Rattle.pw_law_checked.proofs.Ending.{final_covers}

-- the type that a name has at file scope keeps the limit, as that by all its declarations does
pub final_within : (s : State) (n : ℕ) (l : LinkedName) → IsLawful s → Sound None s → AreWithin s.types.records s.types.linked → slice_get s.types.linked n ≡ Some l
    → IsWithin s.types.records (type_of (final_type s l))
final_within s n l lawful h within at size e =
    keeps_within s.types.records lawful.laid (type_of l.ty) (within n l at).1 size
    (layout_covered s.types.records l.ty (final_type s l) (final_covers s n l lawful h at) (ap is_some e) ∙ e)

-- what the end of a module asks of each name, and it changes nothing
abbrev pub Asked : List LinkedName → State → Type 0
Asked names s = (k : ℕ) (l : LinkedName) → slice_get names k ≡ Some l → AreMet (end_cause s l ∷ [])

pub end_met : (names : List LinkedName) (s : State) → Post (end_rule names s) (λ r. (r.1 ≡ s) × Asked names s)
unfolding end_rule bind
end_met [] s = (refl, λ k l e. never_some e)
end_met (x ∷ rest) s = λ met.
    post_weaken (end_rule rest s) (λ r. (r.1 ≡ s) × Asked rest s) (λ r. (r.1 ≡ s) × Asked (x ∷ rest) s) (end_met rest s) (λ r h. (h.0, λ k l e. by met h.1 k l e))
  where
    by : AreMet (end_cause s x ∷ []) → Asked rest s → (k : ℕ) (l : LinkedName) → slice_get (x ∷ rest) k ≡ Some l → AreMet (end_cause s l ∷ [])
    by met h zero l e = subst (λ (y : LinkedName). AreMet (end_cause s y ∷ [])) (some_same e) met
    by met h (suc k) l e = h k l e

-- an object that is defined tentatively is complete
pub tentative_complete : (s : State) (l : LinkedName) → (l.tentative && not l.defined) ≡ true → AreMet (end_cause s l ∷ []) → IsComplete s.types.records (type_of (final_type s l))
tentative_complete s l e met =
    let m : AreMet (completed (records_in s) (end_spot l) CompleteAtEnd (type_of (final_type s l)) ∷ []) =
    subst (λ b. AreMet ((if b || is_record (type_of (final_type s l)) then completed (records_in s) (end_spot l) CompleteAtEnd (type_of (final_type s l)) else needs CompleteAtEnd l.token true) ∷ [])) e met in
    is_complete_so s.types.records (type_of (final_type s l)) (completed_so s.types.records (end_spot l) CompleteAtEnd (type_of (final_type s l)) m.0)

-- and so has a type that objects can have
pub tentative_object : (s : State) (n : ℕ) (l : LinkedName) → IsLawful s → Sound None s → AreWithin s.types.records s.types.linked → slice_get s.types.linked n ≡ Some l
    → (l.tentative && not l.defined) ≡ true → AreMet (end_cause s l ∷ []) → IsObjectType s.types.records (type_of (final_type s l))
tentative_object s n l lawful h within at e met =
    object_is s.types.records (type_of (final_type s l)) (tentative_complete s l e met) (final_within s n l lawful h within at)
