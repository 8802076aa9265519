-- Bytes that stand for a choice: what is read is spelled so, and what is spelled so is read again.
use Rattle.std.proofs.Common.{◌≡◌, ℕ, zero, suc, ◌+◌, List, [], ◌∷◌, ◌++◌, Ok, refl, sym, ap, ◌∙◌, arith}
use Rattle.std.specs.Prelude.{Option, Some, None, slice_get}
use Rattle.pw_fields.specs.Fields.{u8}
use Rattle.pw_fields.specs.FieldLaws.{Spells}
use Rattle.pw_fields.proofs.FieldLaws.{found_is, not_found}
use Rattle.pw_flow.specs.declared.flow.UnKind.{UnKind}
use Rattle.pw_flow.specs.declared.flow.UnKind.TheVariants as un
use Rattle.pw_flow.specs.declared.flow.BinKind.{BinKind}
use Rattle.pw_flow.specs.declared.flow.BinKind.TheVariants as bin
use Rattle.pw_flow.specs.declared.flow.ExtKind.{ExtKind}
use Rattle.pw_flow.specs.declared.flow.ExtKind.TheVariants as ext
use Rattle.pw_flow_ops.specs.declared.codes.OpCode.{OpCode}
use Rattle.pw_flow_ops.specs.declared.codes.OpCode.TheVariants as code
use Rattle.pw_flow_ops.specs.declared.codes.EndCode.{EndCode}
use Rattle.pw_flow_ops.specs.declared.codes.EndCode.TheVariants as end_code
use Rattle.pw_flow_ops.specs.Operations.{un_number, bin_number, ext_number, code_number, end_number, un_kinds, bin_kinds, ext_kinds, op_codes, end_codes}
use Rattle.pw_flow_ops.specs.Reading.{chosen, one_of_at}

abbrev pub Any : {X : Type 0} → X → Type 0
Any x = Unit {0}

-- the number of each choice is its place
abbrev pub Places : {X : Type 0} → (X → ℕ) → ℕ → List X → Type 0
Places number i [] = Unit {0}
Places number i (x ∷ xs) = (number x ≡ i) × Places number (suc i) xs

place_is : {X : Type 0} (number : X → ℕ) (i : ℕ) (xs : List X) → Places number i xs → (b : ℕ) (y : X) → slice_get xs b ≡ Some y → number y ≡ i + b
place_is number i [] places b y e = absurd cc
place_is {X} number i (x ∷ xs) places zero y e = let same : x ≡ y = cc in ap number (sym same) ∙ places.0 ∙ omega arith
place_is number i (x ∷ xs) places (suc b) y e = place_is number (suc i) xs places.1 b y e ∙ omega arith

chosen_takes : {X : Type 0} (number : X → ℕ) (choices : List X) → Places number 0 choices → (b : ℕ) (bytes : List ℕ) (o : Option X) → slice_get choices b ≡ o → (left : ℕ) (x : X) (rest : List ℕ)
    → chosen o left bytes ≡ Ok (x, rest) → b ∷ bytes ≡ u8 (number x) ++ rest
chosen_takes number choices places b bytes None is left x rest e = absurd (not_found left x rest e)
chosen_takes number choices places b bytes (Some y) is left x rest e =
    let p = found_is y x bytes rest e in
    let at : b ≡ number x = sym (place_is number 0 choices places b y is ∙ omega arith) ∙ ap number p.0 in
    ap (λ n. n ∷ bytes) at ∙ ap (λ (w : List ℕ). number x ∷ w) p.1

one_takes : {X : Type 0} (number : X → ℕ) (choices : List X) → Places number 0 choices → (bytes : List ℕ) (x : X) (rest : List ℕ) → one_of_at choices bytes ≡ Ok (x, rest) → bytes ≡ u8 (number x) ++ rest
unfolding one_of_at
one_takes number choices places [] x rest e = absurd (not_found 0 x rest e)
one_takes number choices places (b ∷ bytes) x rest e = chosen_takes number choices places b bytes (slice_get choices b) refl _ x rest e

one_again : {X : Type 0} (number : X → ℕ) (choices : List X) (x : X) (rest : List ℕ) → slice_get choices (number x) ≡ Some x → one_of_at choices (u8 (number x) ++ rest) ≡ Ok (x, rest)
unfolding one_of_at
one_again number choices x rest is = rw is refl

pub one_spells : {X : Type 0} (number : X → ℕ) (choices : List X) → Places number 0 choices → ((x : X) → slice_get choices (number x) ≡ Some x) → Spells (λ x. u8 (number x)) Any (one_of_at choices)
one_spells number choices places back = record {
  takes = λ bytes x rest fits e. (one_takes number choices places bytes x rest e, tt);
  again = λ x rest fits. one_again number choices x rest (back x);
}

-- ---- the choices

un_back : (k : UnKind) → slice_get un_kinds (un_number k) ≡ Some k
un_back un.Neg = refl
un_back un.Not = refl

pub un_spells : Spells (λ k. u8 (un_number k)) Any (one_of_at un_kinds)
un_spells = one_spells un_number un_kinds (refl, (refl, tt)) un_back

bin_back : (k : BinKind) → slice_get bin_kinds (bin_number k) ≡ Some k
bin_back bin.Add = refl
bin_back bin.Sub = refl
bin_back bin.And = refl
bin_back bin.Or = refl
bin_back bin.Xor = refl
bin_back bin.Mul = refl
bin_back bin.DivS = refl
bin_back bin.DivU = refl
bin_back bin.RemS = refl
bin_back bin.RemU = refl
bin_back bin.Shl = refl
bin_back bin.ShrS = refl
bin_back bin.ShrU = refl
bin_back bin.Eq = refl
bin_back bin.Ne = refl
bin_back bin.LtS = refl
bin_back bin.LeS = refl
bin_back bin.LtU = refl
bin_back bin.LeU = refl

pub bin_spells : Spells (λ k. u8 (bin_number k)) Any (one_of_at bin_kinds)
bin_spells = one_spells bin_number bin_kinds (refl, (refl, (refl, (refl, (refl, (refl, (refl, (refl, (refl, (refl, (refl, (refl, (refl, (refl, (refl, (refl, (refl, (refl, (refl, tt))))))))))))))))))) bin_back

ext_back : (k : ExtKind) → slice_get ext_kinds (ext_number k) ≡ Some k
ext_back ext.S8 = refl
ext_back ext.U8 = refl
ext_back ext.S16 = refl
ext_back ext.U16 = refl

pub ext_spells : Spells (λ k. u8 (ext_number k)) Any (one_of_at ext_kinds)
ext_spells = one_spells ext_number ext_kinds (refl, (refl, (refl, (refl, tt)))) ext_back

code_back : (c : OpCode) → slice_get op_codes (code_number c) ≡ Some c
code_back code.Const = refl
code_back code.Copy = refl
code_back code.Un = refl
code_back code.Bin = refl
code_back code.Ext = refl
code_back code.AddrGlobal = refl
code_back code.AddrSlot = refl
code_back code.AddrFn = refl
code_back code.LoadG = refl
code_back code.StoreG = refl
code_back code.Load = refl
code_back code.Store = refl
code_back code.Move = refl
code_back code.Call = refl
code_back code.CallInd = refl

pub code_spells : Spells (λ c. u8 (code_number c)) Any (one_of_at op_codes)
code_spells = one_spells code_number op_codes (refl, (refl, (refl, (refl, (refl, (refl, (refl, (refl, (refl, (refl, (refl, (refl, (refl, (refl, (refl, tt))))))))))))))) code_back

end_back : (c : EndCode) → slice_get end_codes (end_number c) ≡ Some c
end_back end_code.Jump = refl
end_back end_code.Branch = refl
end_back end_code.Return = refl

pub end_code_spells : Spells (λ c. u8 (end_number c)) Any (one_of_at end_codes)
end_code_spells = one_spells end_number end_codes (refl, (refl, (refl, tt))) end_back
