-- The test of compatible types is the relation.
use Rattle.std.specs.Prelude.{ℕ, zero, suc, ◌≡◌, Bool, true, false, ◌&&◌, Option, None, Some, refl}
use Rattle.std.proofs.Common.{arith, ap, sym, subst, ◌∙◌}
use Rattle.std.proofs.lemmas.Bool.{eqb-true, eq-eqb}
use Rattle.pw_types.specs.declared.kind.IntKind.{IntKind}
use Rattle.pw_types.specs.declared.kind.IntKind.TheVariants as K
use Rattle.pw_types.specs.TypeTrees.{CType, Void, Int, Pointer, Array, Function, Record, QType, Qualified, QTypes, NoType, OneType}
use Rattle.pw_check_rules.specs.Compatible.{compatible_types, compatible, compatible_parameters, lengths_agree}
use Rattle.pw_check_rules.specs.Judgements.{LengthsAgree, CompatibleTypes, VoidTypes, IntegerTypes, PointerTypes, ArrayTypes, FunctionTypes, RecordTypes, Compatible, QualifiedAlike, CompatibleParameters, NoParameters, OneParameter}
use Rattle.pw_check_rules.proofs.Booleans.{no, both, left, right}
use Rattle.pw_check_rules.specs.Kinds.{same_kind, number_of_kind}
use Rattle.pw_value.specs.ProgramNames.{same_truth}

-- ---- parts

kind_of_number : ℕ → IntKind
kind_of_number zero = K.Char
kind_of_number (suc zero) = K.SChar
kind_of_number (suc (suc zero)) = K.UChar
kind_of_number (suc (suc (suc zero))) = K.Short
kind_of_number (suc (suc (suc (suc zero)))) = K.UShort
kind_of_number (suc (suc (suc (suc (suc zero))))) = K.Int
kind_of_number (suc (suc (suc (suc (suc (suc zero)))))) = K.UInt
kind_of_number (suc (suc (suc (suc (suc (suc (suc zero))))))) = K.Long
kind_of_number (suc (suc (suc (suc (suc (suc (suc (suc n)))))))) = K.ULong

kind_back : (a : IntKind) → kind_of_number (number_of_kind a) ≡ a
unfolding kind_of_number
kind_back K.Char = refl
kind_back K.SChar = refl
kind_back K.UChar = refl
kind_back K.Short = refl
kind_back K.UShort = refl
kind_back K.Int = refl
kind_back K.UInt = refl
kind_back K.Long = refl
kind_back K.ULong = refl

pub kinds_same : (a b : IntKind) → same_kind a b ≡ true → a ≡ b
kinds_same a b e =
    sym (kind_back a) ∙ (ap kind_of_number (eqb-true (number_of_kind a) (number_of_kind b) e) ∙ kind_back b)

pub same_kinds : (a : IntKind) → same_kind a a ≡ true
same_kinds a = eq-eqb (number_of_kind a) (number_of_kind a) refl

truths_same : (a b : Bool) → same_truth a b ≡ true → a ≡ b
truths_same true true e = refl
truths_same true false e = grind arith
truths_same false true e = grind arith
truths_same false false e = refl

same_truths : (a : Bool) → same_truth a a ≡ true
same_truths true = refl
same_truths false = refl

lengths_back : (n m : Option ℕ) → lengths_agree n m ≡ true → LengthsAgree n m
lengths_back None m e k l h i = grind arith
lengths_back (Some n) None e k l h i = grind arith
lengths_back (Some n) (Some m) e k l h i =
    let same : n ≡ m = eqb-true n m e in
    grind (arith, same)

lengths_forth : (n m : Option ℕ) → LengthsAgree n m → lengths_agree n m ≡ true
lengths_forth None m h = refl
lengths_forth (Some n) None h = refl
lengths_forth (Some n) (Some m) h = eq-eqb n m (h n m refl refl)

-- ---- from the relation to the test

mutual
  unfolding compatible_types

  pub types_forth : {a b : CType} → CompatibleTypes a b → compatible_types a b ≡ true
  types_forth VoidTypes = refl
  types_forth (IntegerTypes kind) = same_kinds kind
  types_forth (PointerTypes a b h) = forth h
  types_forth (ArrayTypes a b n m h l) = both (compatible a b) (lengths_agree n m) (forth h) (lengths_forth n m l)
  types_forth (FunctionTypes a b ps qs h p) = both (compatible a b) (compatible_parameters ps qs) (forth h) (parameters_forth p)
  types_forth (RecordTypes n) = eq-eqb n n refl

  pub forth : {a b : QType} → Compatible a b → compatible a b ≡ true
  forth (QualifiedAlike a b c v h) =
      both (compatible_types a b && same_truth c c) (same_truth v v)
      (both (compatible_types a b) (same_truth c c) (types_forth h) (same_truths c)) (same_truths v)

  pub parameters_forth : {ps qs : QTypes} → CompatibleParameters ps qs → compatible_parameters ps qs ≡ true
  parameters_forth NoParameters = refl
  parameters_forth (OneParameter a b c v d w ps qs h p) =
      both (compatible_types a b) (compatible_parameters ps qs) (types_forth h) (parameters_forth p)

-- ---- and back

alike : (a b : CType) (c d v w : Bool) → c ≡ d → v ≡ w → CompatibleTypes a b → Compatible (Qualified a c v) (Qualified b d w)
alike a b c d v w e f h =
    subst (λ x. Compatible (Qualified a c v) (Qualified b x w)) e
    (subst (λ x. Compatible (Qualified a c v) (Qualified b c x)) f (QualifiedAlike a b c v h))

mutual
  unfolding compatible_types

  pub types_back : (a b : CType) → compatible_types a b ≡ true → CompatibleTypes a b
  types_back Void Void e = VoidTypes
  types_back (Int k) (Int l) e = subst (λ x. CompatibleTypes (Int k) (Int x)) (kinds_same k l e) (IntegerTypes k)
  types_back (Pointer a) (Pointer b) e = PointerTypes a b (back a b e)
  types_back (Array a n) (Array b m) e =
      ArrayTypes a b n m (back a b (left (compatible a b) (lengths_agree n m) e)) (lengths_back n m (right (compatible a b) (lengths_agree n m) e))
  types_back (Function a ps) (Function b qs) e =
      FunctionTypes a b ps qs (back a b (left (compatible a b) (compatible_parameters ps qs) e))
      (parameters_back ps qs (right (compatible a b) (compatible_parameters ps qs) e))
  types_back (Record n) (Record m) e = subst (λ x. CompatibleTypes (Record n) (Record x)) (eqb-true n m e) (RecordTypes n)
  types_back _ _ e = no e

  pub back : (a b : QType) → compatible a b ≡ true → Compatible a b
  back (Qualified a c v) (Qualified b d w) e =
      let first : (compatible_types a b && same_truth c d) ≡ true = left (compatible_types a b && same_truth c d) (same_truth v w) e in
      alike a b c d v w
      (truths_same c d (right (compatible_types a b) (same_truth c d) first))
      (truths_same v w (right (compatible_types a b && same_truth c d) (same_truth v w) e))
      (types_back a b (left (compatible_types a b) (same_truth c d) first))

  pub parameters_back : (ps qs : QTypes) → compatible_parameters ps qs ≡ true → CompatibleParameters ps qs
  parameters_back NoType NoType e = NoParameters
  parameters_back (OneType (Qualified a c v) ps) (OneType (Qualified b d w) qs) e =
      OneParameter a b c v d w ps qs (types_back a b (left (compatible_types a b) (compatible_parameters ps qs) e))
      (parameters_back ps qs (right (compatible_types a b) (compatible_parameters ps qs) e))
  parameters_back _ _ e = no e
