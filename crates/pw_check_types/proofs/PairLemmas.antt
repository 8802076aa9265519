-- Pairs of types of which the first one decides.
use Rattle.std.proofs.Common.{◌≡◌, ℕ, ◌==◌, List, [], ◌∷◌, length, refl, sym}
use Rattle.std.proofs.Math.Dec.{eqb-suc-zero}
use Rattle.pw_types.specs.declared.ctype.QType.{QType}
use Rattle.pw_types.specs.declared.ctype.Signature.{Signature, out-Signature}
use Rattle.pw_types.specs.Views.{view_qtype, view_signature, view_types}
use Rattle.pw_types.proofs.ViewLemmas.{signature_view}
use Rattle.pw_types.specs.declared.kind.IntKind.{IntKind}
use Rattle.pw_types.specs.TypeTrees as tree
use Rattle.pw_types.specs.TypeTrees.{CType, Void, Int, Pointer, Array, Function, Record, QTypes, NoType, OneType}
use Rattle.pw_check_rules.specs.Kinds.{same_type, same_types, is_void}
use Rattle.pw_check_rules.specs.Compatible.{compatible_types, compatible_parameters, composite_type, composite, composite_parameters}

pub same_void : (b : CType) → same_type Void b ≡ is_void b
unfolding same_type
same_void Void = refl
same_void (Int kind) = refl
same_void (Pointer q) = refl
same_void (Array q n) = refl
same_void (Function q ps) = refl
same_void (Record n) = refl

pub compatible_void : (b : CType) → compatible_types Void b ≡ is_void b
unfolding compatible_types
compatible_void Void = refl
compatible_void (Int kind) = refl
compatible_void (Pointer q) = refl
compatible_void (Array q n) = refl
compatible_void (Function q ps) = refl
compatible_void (Record n) = refl

pub compatible_int : (a : IntKind) (b : CType) → compatible_types (Int a) b ≡ same_type (Int a) b
unfolding compatible_types same_type
compatible_int a Void = refl
compatible_int a (Int kind) = refl
compatible_int a (Pointer q) = refl
compatible_int a (Array q n) = refl
compatible_int a (Function q ps) = refl
compatible_int a (Record n) = refl

pub compatible_record : (a : ℕ) (b : CType) → compatible_types (Record a) b ≡ same_type (Record a) b
unfolding compatible_types same_type
compatible_record a Void = refl
compatible_record a (Int kind) = refl
compatible_record a (Pointer q) = refl
compatible_record a (Array q n) = refl
compatible_record a (Function q ps) = refl
compatible_record a (Record n) = refl

-- behind the last of the second list the first one stands
pub composite_behind : (ps : QTypes) → composite_parameters ps NoType ≡ ps
unfolding composite_type
composite_behind NoType = refl
composite_behind (OneType q rest) = refl

-- behind the first list the second one is to end
pub same_none : (rest : List QType) → same_types NoType (view_types rest) ≡ (length rest == 0)
unfolding same_type
same_none [] = refl
same_none (q ∷ rest) = sym (eqb-suc-zero (length rest))

pub compatible_none : (rest : List QType) → compatible_parameters NoType (view_types rest) ≡ (length rest == 0)
unfolding compatible_types
compatible_none [] = refl
compatible_none (q ∷ rest) = sym (eqb-suc-zero (length rest))

-- of two functions, by their parts
pub composite_signatures : (a b : Signature)
    → composite_type (view_signature a) (view_signature b)
    ≡ Function (composite (view_qtype (out-Signature a).result) (view_qtype (out-Signature b).result)) (composite_parameters (view_types (out-Signature a).params.items) (view_types (out-Signature b).params.items))
unfolding composite_type
composite_signatures a b = rw (signature_view a, signature_view b) refl

-- parameters one by one, and none
pub composite_pair : (a b : tree.QType) (ps qs : QTypes)
    → composite_parameters (OneType a ps) (OneType b qs) ≡ OneType (composite a b) (composite_parameters ps qs)
unfolding composite_type
composite_pair a b ps qs = refl

pub composite_none : (qs : QTypes) → composite_parameters NoType qs ≡ NoType
unfolding composite_type
composite_none qs = refl
