-- Readers of operations and ends go onward: what is found rests on the bytes before what is left, and a fault on
-- those up to the faulty field's end.
use Rattle.std.proofs.Common.{◌≡◌, ℕ, ◌+◌, Bool, true, false, cond, List, [], ◌∷◌, ◌++◌, length, take, drop, Result, Ok, Err, refl, sym, ap, subst, ◌∙◌, arith, inl, inr}
use Rattle.std.specs.Prelude.{Option, Some, None, slice_get}
use Rattle.std.specs.Int.{w32, from_be_bytes}
use Rattle.std.proofs.lemmas.Bool.{ltb-false}
use Rattle.std.proofs.lemmas.List.{length-append, length-drop}
use Rattle.pw_value.specs.declared.program_names.StartName.{StartName}
use Rattle.pw_value.specs.declared.program_names.StartName.TheVariants.{Refused}
use Rattle.pw_fields.specs.Fields.{kept, checked, u32_at}
use Rattle.pw_fields.specs.FieldNames.{name_at}
use Rattle.pw_fields.proofs.FieldLaws.{found_is, not_found, after_passes, guard_passes}
use Rattle.pw_files.specs.Faults.{IsFieldLength}
use Rattle.pw_files.proofs.OnwardLaws.{Found, Faulty, Onward, OneField, one_onward, behind, done_onward, kept_found, begins_alike, checked_one, mapped_one, u32_one, text_one, repeated_onward, name_one, scalar_one}
use Rattle.pw_flow_ops.specs.declared.codes.OpCode.{OpCode}
use Rattle.pw_flow_ops.specs.declared.codes.OpCode.TheVariants as code
use Rattle.pw_flow_ops.specs.declared.codes.EndCode.{EndCode}
use Rattle.pw_flow_ops.specs.declared.codes.EndCode.TheVariants as end_code
use Rattle.pw_flow_ops.specs.Operations.{un_kinds, bin_kinds, ext_kinds, op_codes, end_codes}
use Rattle.pw_flow_ops.specs.Reading.{chosen, one_of_at, named_at, below_at, as_result, result_at, arguments_at, is_unit, is_whole, size_and_unit_at, moved_at, operands_at, op_at, targets_at, end_at}

abbrev found : {X : Type 0} → X → List ℕ → Result (X × List ℕ) ℕ
found x rest = Ok (x, rest)

abbrev faulty : {X : Type 0} → ℕ → Result (X × List ℕ) ℕ
faulty left = Err left

left_is : {X : Type 0} (m n : ℕ) → faulty {X = X} m ≡ faulty {X = X} n → m ≡ n
left_is m n e = cc

-- ---- a byte that is the place of a choice

chosen_found : {X : Type 0} (choices : List X) (b : ℕ) (bytes : List ℕ) (x : X) (rest : List ℕ) (o : Option X) → slice_get choices b ≡ o → chosen o (length (b ∷ bytes)) bytes ≡ Ok (x, rest)
    → (f : Found (one_of_at choices) (b ∷ bytes) x rest) × IsFieldLength (b ∷ bytes) (length f.front)
unfolding one_of_at
chosen_found choices b bytes x rest None is e = absurd (not_found _ x rest e)
chosen_found choices b bytes x rest (Some y) is e =
    let p = found_is y x bytes rest e in
    (record { front = b ∷ []; parts = ap (λ (w : List ℕ). b ∷ w) p.1; same = λ more len. ap (λ o. chosen o (length (b ∷ more)) more) is ∙ ap (λ z. found z more) p.0 }, inl refl)

one_found : {X : Type 0} (choices : List X) (bytes : List ℕ) (x : X) (rest : List ℕ) → one_of_at choices bytes ≡ Ok (x, rest) → (f : Found (one_of_at choices) bytes x rest) × IsFieldLength bytes (length f.front)
unfolding one_of_at
one_found choices [] x rest e = absurd (not_found 0 x rest e)
one_found choices (b ∷ bytes) x rest e = chosen_found choices b bytes x rest (slice_get choices b) refl e

none_chosen : {X : Type 0} (choices : List X) (other : List ℕ) → length other ≡ 0 → one_of_at choices other ≡ Err 0
unfolding one_of_at
none_chosen choices [] len = refl
none_chosen choices (b ∷ other) len = absurd (omega (arith, len))

no_choice : {X : Type 0} (choices : List X) (b : ℕ) (bytes other : List ℕ) → slice_get choices b ≡ None → length other ≡ length (b ∷ bytes) → take 1 other ≡ take 1 (b ∷ bytes) → one_of_at choices other ≡ Err (length (b ∷ bytes))
unfolding one_of_at
no_choice choices b bytes [] is len alike = absurd (omega (arith, len))
no_choice {X} choices b bytes (c ∷ other) is len alike =
    let same : c ≡ b = cc in
    ap (λ n. chosen (slice_get choices n) (length (c ∷ other)) other) same ∙ ap (λ o. chosen o (length (c ∷ other)) other) is ∙ ap (λ m. faulty {X = X} m) len

abbrev SameFault : {X : Type 0} → (List ℕ → Result (X × List ℕ) ℕ) → List ℕ → ℕ → Type 0
SameFault read bytes left = (left ≡ length bytes) × (count : ℕ) × IsFieldLength bytes count × ((other : List ℕ) → length other ≡ length bytes → take count other ≡ take count bytes → read other ≡ Err left)

chosen_fault : {X : Type 0} (choices : List X) (b : ℕ) (bytes : List ℕ) (left : ℕ) (o : Option X) → slice_get choices b ≡ o → chosen o (length (b ∷ bytes)) bytes ≡ Err left → SameFault (one_of_at choices) (b ∷ bytes) left
chosen_fault choices b bytes left (Some y) is e = absurd cc
chosen_fault {X} choices b bytes left None is e =
    let at = left_is {X = X} (length (b ∷ bytes)) left e in
    (sym at, 1, inl refl, λ other len alike. no_choice choices b bytes other is len alike ∙ ap (λ m. faulty {X = X} m) at)

one_fault : {X : Type 0} (choices : List X) (bytes : List ℕ) (left : ℕ) → one_of_at choices bytes ≡ Err left → SameFault (one_of_at choices) bytes left
unfolding one_of_at
one_fault {X} choices [] left e = let at = left_is {X = X} 0 left e in (sym at, 1, inl refl, λ other len alike. none_chosen choices other len ∙ ap (λ m. faulty {X = X} m) at)
one_fault choices (b ∷ bytes) left e = chosen_fault choices b bytes left (slice_get choices b) refl e

pub choice_of_one : {X : Type 0} (choices : List X) → OneField (one_of_at choices)
choice_of_one choices = record { found = one_found choices; fault = one_fault choices }

-- ---- a rule on two numbers, which are eight bytes

broken : {X : Type 0} (rule : X → Bool) (read : List ℕ → Result (X × List ℕ) ℕ) → Onward read → ((bytes : List ℕ) (x : X) (rest : List ℕ) → read bytes ≡ Ok (x, rest) → length bytes ≡ 8 + length rest)
    → (bytes : List ℕ) (left : ℕ) (x : X) (rest : List ℕ) → read bytes ≡ Ok (x, rest) → (b : Bool) → rule x ≡ b → cond b (found x rest) (Err (length bytes)) ≡ Err left → Faulty (checked rule read) bytes left
broken rule read laws long bytes left x rest is true holds e = absurd cc
broken {X} rule read laws long bytes left x rest is false holds e =
    let f = laws.found bytes x rest is in
    let at = left_is {X = X} (length bytes) left e in
    let eight : length f.front ≡ 8 = omega (arith, long bytes x rest is, ap length f.parts, length-append f.front rest) in
    record {
      before = [];
      tail = bytes;
      parts = refl;
      begins = at;
      count = length f.front;
      field = subst (IsFieldLength bytes) (sym eight) (inr (inr (inl refl)));
      same = λ other len alike.
          let like = begins_alike f.front rest other (len ∙ ap length f.parts) (alike ∙ ap (take (length f.front)) f.parts) in
          let again : read other ≡ Ok (x, drop (length f.front) other) = ap read like.0 ∙ f.same (drop (length f.front) other) like.1 in
          ap (kept rule (length other)) again ∙ ap (λ b. cond b (found x (drop (length f.front) other)) (Err (length other))) holds ∙ ap (λ m. faulty {X = X} m) (len ∙ at);
    }

rule_fault : {X : Type 0} (rule : X → Bool) (read : List ℕ → Result (X × List ℕ) ℕ) → Onward read → ((bytes : List ℕ) (x : X) (rest : List ℕ) → read bytes ≡ Ok (x, rest) → length bytes ≡ 8 + length rest)
    → (bytes : List ℕ) (left : ℕ) (r : Result (X × List ℕ) ℕ) → read bytes ≡ r → kept rule (length bytes) r ≡ Err left → Faulty (checked rule read) bytes left
rule_fault rule read laws long bytes left (Ok x) is e = broken rule read laws long bytes left x.0 x.1 is (rule x.0) refl e
rule_fault {X} rule read laws long bytes left (Err d) is e =
    let f = laws.fault bytes d is in
    record {
      before = f.before;
      tail = f.tail;
      parts = f.parts;
      begins = f.begins ∙ left_is {X = X} d left e;
      count = f.count;
      field = f.field;
      same = λ other len alike. ap (kept rule (length (f.before ++ other))) (f.same other len alike) ∙ e;
    }

rule_onward : {X : Type 0} (rule : X → Bool) (read : List ℕ → Result (X × List ℕ) ℕ) → Onward read → ((bytes : List ℕ) (x : X) (rest : List ℕ) → read bytes ≡ Ok (x, rest) → length bytes ≡ 8 + length rest) → Onward (checked rule read)
rule_onward rule read laws long = record {
  found = λ bytes x rest e.
      let k = kept_found rule (length bytes) x rest (read bytes) e in
      let f = laws.found bytes x rest k.0 in
      record { front = f.front; parts = f.parts; same = λ more len. ap (kept rule (length (f.front ++ more))) (f.same more len) ∙ ap (λ b. cond b (found x more) (Err (length (f.front ++ more)))) k.1 };
  fault = λ bytes left e. rule_fault rule read laws long bytes left (read bytes) refl e;
}

word_long : (bytes : List ℕ) (n : ℕ) (rest : List ℕ) → u32_at bytes ≡ Ok (n, rest) → length bytes ≡ 4 + length rest
unfolding u32_at
word_long bytes n rest e =
    let g = guard_passes _ (length bytes) (from_be_bytes w32 (take 4 bytes)) n (drop 4 bytes) rest e in
    omega (arith, ltb-false _ _ g.0, length-drop 4 bytes, ap length g.2)

size_and_unit_onward : Onward size_and_unit_at
unfolding size_and_unit_at
size_and_unit_onward = behind _ _ (one_onward _ u32_one) (λ size. behind _ _ (one_onward _ (checked_one is_unit u32_at u32_one)) (λ unit. done_onward (size, unit)))

size_and_unit_long : (bytes : List ℕ) (m : ℕ × ℕ) (rest : List ℕ) → size_and_unit_at bytes ≡ Ok (m, rest) → length bytes ≡ 8 + length rest
unfolding size_and_unit_at
size_and_unit_long bytes m rest e =
    let p = after_passes (u32_at bytes) _ m rest e in
    let q = after_passes (checked is_unit u32_at p.1) _ m rest p.3 in
    let k = kept_found is_unit (length p.1) q.0 q.1 (u32_at p.1) q.2 in
    let d = found_is (p.0, q.0) m q.1 rest q.3 in
    omega (arith, word_long bytes p.0 p.1 p.2, word_long p.1 q.0 q.1 k.0, ap length d.1)

moved_onward : Onward moved_at
unfolding moved_at
moved_onward = rule_onward is_whole size_and_unit_at size_and_unit_onward size_and_unit_long

-- ---- the other parts

pub below_one : (count : ℕ) → OneField (below_at count)
below_one count = checked_one _ u32_at u32_one

pub named_one : (start : StartName) (names : List (List ℕ)) → OneField (named_at start names)
unfolding named_at
named_one start names = checked_one _ (name_at names) (name_one names)

result_one : (temps : ℕ) → OneField (result_at temps)
unfolding result_at
result_one temps = mapped_one (checked _ u32_at) as_result (checked_one _ u32_at u32_one)

below : (count : ℕ) → Onward (below_at count)
below count = one_onward _ (below_one count)

arguments_onward : (temps : ℕ) → Onward (arguments_at temps)
unfolding arguments_at
arguments_onward temps = behind _ _ (one_onward _ (checked_one _ u32_at u32_one)) (λ count. behind _ _ (repeated_onward (below_at temps) (below temps) count) (λ args. done_onward args))

-- ---- operations

operands_onward : (names : List (List ℕ)) (temps slots : ℕ) (c : OpCode) → Onward (operands_at names temps slots c)
unfolding operands_at
operands_onward names temps slots code.Const = behind _ _ (below temps) (λ t. behind _ _ (one_onward _ u32_one) (λ n. done_onward _))
operands_onward names temps slots code.Copy = behind _ _ (below temps) (λ t. behind _ _ (below temps) (λ a. done_onward _))
operands_onward names temps slots code.Un = behind _ _ (one_onward _ (choice_of_one un_kinds)) (λ k. behind _ _ (below temps) (λ t. behind _ _ (below temps) (λ a. done_onward _)))
operands_onward names temps slots code.Bin = behind _ _ (one_onward _ (choice_of_one bin_kinds)) (λ k. behind _ _ (below temps) (λ t. behind _ _ (below temps) (λ a. behind _ _ (below temps) (λ b. done_onward _))))
operands_onward names temps slots code.Ext = behind _ _ (one_onward _ (choice_of_one ext_kinds)) (λ k. behind _ _ (below temps) (λ t. behind _ _ (below temps) (λ a. done_onward _)))
operands_onward names temps slots code.AddrGlobal = behind _ _ (below temps) (λ t. behind _ _ (one_onward _ (named_one Refused names)) (λ g. behind _ _ (one_onward _ u32_one) (λ n. done_onward _)))
operands_onward names temps slots code.AddrSlot = behind _ _ (below temps) (λ t. behind _ _ (below slots) (λ s. done_onward _))
operands_onward names temps slots code.AddrFn = behind _ _ (below temps) (λ t. behind _ _ (one_onward _ (named_one Refused names)) (λ f. done_onward _))
operands_onward names temps slots code.LoadG = behind _ _ (one_onward _ scalar_one) (λ k. behind _ _ (below temps) (λ t. behind _ _ (one_onward _ (named_one Refused names)) (λ g. done_onward _)))
operands_onward names temps slots code.StoreG = behind _ _ (one_onward _ scalar_one) (λ k. behind _ _ (one_onward _ (named_one Refused names)) (λ g. behind _ _ (below temps) (λ a. done_onward _)))
operands_onward names temps slots code.Load = behind _ _ (one_onward _ scalar_one) (λ k. behind _ _ (below temps) (λ t. behind _ _ (below temps) (λ a. done_onward _)))
operands_onward names temps slots code.Store = behind _ _ (one_onward _ scalar_one) (λ k. behind _ _ (below temps) (λ a. behind _ _ (below temps) (λ b. done_onward _)))
operands_onward names temps slots code.Move = behind _ _ (below temps) (λ a. behind _ _ (below temps) (λ b. behind _ _ moved_onward (λ moved. done_onward _)))
operands_onward names temps slots code.Call = behind _ _ (one_onward _ (result_one temps)) (λ t. behind _ _ (one_onward _ (named_one Refused names)) (λ f. behind _ _ (arguments_onward temps) (λ args. done_onward _)))
operands_onward names temps slots code.CallInd = behind _ _ (one_onward _ (result_one temps)) (λ t. behind _ _ (below temps) (λ a. behind _ _ (one_onward _ text_one) (λ shape. behind _ _ (arguments_onward temps) (λ args. done_onward _))))

pub op_onward : (names : List (List ℕ)) (temps slots : ℕ) → Onward (op_at names temps slots)
unfolding op_at
op_onward names temps slots = behind _ _ (one_onward _ (choice_of_one op_codes)) (λ c. operands_onward names temps slots c)

-- ---- ends

targets_onward : (temps blocks : ℕ) (c : EndCode) → Onward (targets_at temps blocks c)
unfolding targets_at
targets_onward temps blocks end_code.Jump = behind _ _ (below blocks) (λ b. done_onward _)
targets_onward temps blocks end_code.Branch = behind _ _ (below temps) (λ a. behind _ _ (below blocks) (λ b. behind _ _ (below blocks) (λ c. done_onward _)))
targets_onward temps blocks end_code.Return = behind _ _ (one_onward _ (result_one temps)) (λ a. done_onward _)

pub end_onward : (temps blocks : ℕ) → Onward (end_at temps blocks)
unfolding end_at
end_onward temps blocks = behind _ _ (one_onward _ (choice_of_one end_codes)) (λ c. targets_onward temps blocks c)
