-- Objects that are defined with an initialiser: at a module's end the type that the name has at file scope is complete.
use Rattle.pw_law_checked.proofs.Settled.{IsFinal}
use Rattle.std.specs.Prelude.{ℕ, ◌≡◌, Bool, true, false, not, ◌&&◌, ◌||◌, refl, None, Some, unwrap_or, option_and_then, slice_get}
use Rattle.std.specs.Option.{option_map_or}
use Rattle.std.proofs.Common.{ap, sym, subst, ◌∙◌}
use Rattle.pw_types.specs.Records.{IsObjectType}
use Rattle.pw_types.specs.TypeTrees.{type_of}
use Rattle.pw_types.specs.WellTyped.{IsComplete}
use Rattle.pw_check_rules.specs.Modules.{final_type, type_of_entity}
use Rattle.pw_check_rules.specs.States.{State, LinkedName, Entity, Linked, entity_at}
use Rattle.pw_law_checked.specs.Lawful.{IsLawful}
use Rattle.pw_law_checked.proofs.Types.{no}
use Rattle.pw_law_checked.proofs.ObjectTypes.{AreWithin, object_is}
use Rattle.pw_check_rules.specs.Kinds.{is_function}
use Rattle.pw_law_checked.proofs.Sound.{Sound, IsStored}
use Rattle.pw_law_checked.proofs.Modules.{AreTentatives}
use Rattle.pw_law_checked.proofs.Outside.{outer, AreShallow, outer_all}
use Rattle.pw_law_checked.proofs.Named.{final_within}

-- at the module's end the object has a type that objects can have
pub final_is : (s : State) (n : ℕ) (l : LinkedName) → AreShallow s.scopes → s.scopes.depth ≡ 0 → (f : IsFinal s n l.name) → final_type s l ≡ f.ty
final_is s n l shallow zero f =
    let stands : option_and_then (entity_at s) (Rattle.pw_scope.specs.Visible.visible s.scopes.ordinary l.name) ≡ Some (Linked n f.ty) =
    ap (option_and_then (entity_at s)) (sym (outer_all s.scopes shallow zero l.name) ∙ f.stands) ∙ f.there in
    ap (λ o. option_map_or (λ (e : Entity). unwrap_or (type_of_entity e) l.ty) o l.ty) stands

final_complete : (s : State) (n : ℕ) (l : LinkedName) → AreShallow s.scopes → s.scopes.depth ≡ 0 → IsFinal s n l.name → IsComplete s.types.records (type_of (final_type s l))
final_complete s n l shallow zero f = subst (λ q. IsComplete s.types.records (type_of q)) (sym (final_is s n l shallow zero f)) f.complete

pub final_object : (s : State) (n : ℕ) (l : LinkedName) → IsLawful s → Sound None s → AreWithin s.types.records s.types.linked → s.scopes.depth ≡ 0 → slice_get s.types.linked n ≡ Some l → IsFinal s n l.name
    → IsObjectType s.types.records (type_of (final_type s l))
final_object s n l lawful h within zero at f =
    object_is s.types.records (type_of (final_type s l)) (final_complete s n l lawful.depths zero f) (final_within s n l lawful h within at)

-- So each object with a name has one, if each that is defined with an initialiser is final.
pub named_objects : (s : State) → IsLawful s → Sound None s → AreWithin s.types.records s.types.linked → AreTentatives s → s.scopes.depth ≡ 0
    → ((n : ℕ) (l : LinkedName) → slice_get s.types.linked n ≡ Some l → l.defined ≡ true → is_function (type_of l.ty) ≡ false → IsFinal s n l.name)
    → (n : ℕ) (l : LinkedName) → slice_get s.types.linked n ≡ Some l → IsStored l → IsObjectType s.types.records (type_of (final_type s l))
named_objects s lawful h within tentatives outer final n l at stored = by l.defined refl l.tentative refl
  where
    by : (d : Bool) → l.defined ≡ d → (t : Bool) → l.tentative ≡ t → IsObjectType s.types.records (type_of (final_type s l))
    by true d t e = final_object s n l lawful h within outer at (final n l at d stored.1)
    by false d true e = tentatives n l at (ap (λ b. b && not l.defined) e ∙ ap not d)
    by false d false e = no (sym (ap (λ b. b || l.defined) e ∙ d) ∙ stored.0)
