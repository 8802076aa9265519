-- Only the shape of a function's type begins as one.
use Rattle.std.proofs.Common.{◌≡◌, ℕ, ◌∷◌, Bool, true, false, Option, Some, None, List, [], ◌++◌, refl, sym, ap, subst, ◌∙◌, arith}
use Rattle.std.specs.Prelude.{option_map, option_and_then, slice_get, unwrap_or}
use Rattle.std.specs.Option.{option_map_or}
use Rattle.pw_value.specs.Shapes.{Begins}
use Rattle.pw_types.specs.declared.kind.IntKind.{IntKind}
use Rattle.pw_types.specs.declared.kind.IntKind.TheVariants as K
use Rattle.pw_types.specs.declared.record.RecordKind.{RecordKind}
use Rattle.pw_types.specs.declared.record.RecordKind.TheVariants.{Structure, Union}
use Rattle.pw_types.specs.Layouts.{content_at}
use Rattle.pw_types.specs.Records.{IsLaid}
use Rattle.pw_types.specs.Shapes.{shape_of, shape_of_record, unknown_shape, record_shape, letter_of_kind, marked, length_text}
use Rattle.pw_types.specs.TypeTrees.{CType, Void, Int, Pointer, Array, Function, Record, Qualified, ContentValue, RecordValue}
use Rattle.pw_types.specs.WellTyped.{IsFunctionType}

abbrev first : List ℕ → ℕ
first [] = 0
first (x ∷ xs) = x

not_so : (text : List ℕ) (n : ℕ) → first text ≡ n → Begins 102 text → n ≡ 102
not_so text n e b = sym e ∙ ap first b.1

no_mark : (v : Bool) (letter : ℕ) → (letter ≡ 102 → ⊥) → Begins 102 (marked v letter) → ⊥
no_mark true letter other b = let h : 33 ≡ 102 = not_so (33 ∷ letter ∷ []) 33 refl b in absurd (omega (arith, h))
no_mark false letter other b = other (not_so (letter ∷ []) letter refl b)

no_letter : (k : IntKind) → letter_of_kind k ≡ 102 → ⊥
no_letter K.Char e = absurd (omega (arith, e))
no_letter K.SChar e = absurd (omega (arith, e))
no_letter K.UChar e = absurd (omega (arith, e))
no_letter K.Short e = absurd (omega (arith, e))
no_letter K.UShort e = absurd (omega (arith, e))
no_letter K.Int e = absurd (omega (arith, e))
no_letter K.UInt e = absurd (omega (arith, e))
no_letter K.Long e = absurd (omega (arith, e))
no_letter K.ULong e = absurd (omega (arith, e))

no_length : (n : Option ℕ) (rest : List ℕ) → Begins 102 (length_text n ++ rest) → ⊥
no_length None rest b = let h : 91 ≡ 102 = not_so (91 ∷ 93 ∷ rest) 91 refl b in absurd (omega (arith, h))
no_length (Some n) rest b = let h : 91 ≡ 102 = not_so (length_text (Some n) ++ rest) 91 refl b in absurd (omega (arith, h))

no_unknown : (k : RecordKind) → Begins 102 (unknown_shape k) → ⊥
no_unknown Structure b = let h : 123 ≡ 102 = not_so (unknown_shape Structure) 123 refl b in absurd (omega (arith, h))
no_unknown Union b = let h : 60 ≡ 102 = not_so (unknown_shape Union) 60 refl b in absurd (omega (arith, h))

no_record : (k : RecordKind) (size : ℕ) (members : List ℕ) → Begins 102 (record_shape k size members) → ⊥
no_record Structure size members b = let h : 123 ≡ 102 = not_so (record_shape Structure size members) 123 refl b in absurd (omega (arith, h))
no_record Union size members b = let h : 60 ≡ 102 = not_so (record_shape Union size members) 60 refl b in absurd (omega (arith, h))

no_content : (records : List RecordValue) (number : ℕ) (r : RecordValue) → IsLaid records → slice_get records number ≡ Some r → (o : Option ContentValue) → r.content ≡ o → Begins 102 (option_map_or (λ c. c.shape) o (unknown_shape r.kind)) → ⊥
no_content records number r laid at None e b = no_unknown r.kind b
no_content records number r laid at (Some c) e b =
    let there : content_at records number ≡ Some c = ap (option_and_then (λ (x : RecordValue). x.content)) at ∙ e in
    no_record _ c.layout.size _ (subst (λ (s : List ℕ). Begins 102 s) (laid number c there).shaped b)

no_known : (records : List RecordValue) (number : ℕ) → IsLaid records → (o : Option RecordValue) → slice_get records number ≡ o → Begins 102 (unwrap_or (option_map shape_of_record o) []) → ⊥
no_known records number laid None e b = let h : 0 ≡ 102 = not_so [] 0 refl b in absurd (omega (arith, h))
no_known records number laid (Some r) e b = no_content records number r laid e r.content refl b

pub begins_function : (records : List RecordValue) (ty : CType) (v : Bool) → IsLaid records → Begins 102 (shape_of records ty v) → IsFunctionType ty
begins_function records Void v laid b = absurd (no_mark v 118 (λ e. omega (arith, e)) b)
begins_function records (Int k) v laid b = absurd (no_mark v (letter_of_kind k) (no_letter k) b)
begins_function records (Pointer q) v laid b = absurd (no_mark v 112 (λ e. omega (arith, e)) b)
begins_function records (Array (Qualified ty c w) n) v laid b = absurd (no_length n _ b)
begins_function records (Function q ps) v laid b = (q, ps, refl)
begins_function records (Record number) v laid b = absurd (no_known records number laid (slice_get records number) refl b)
