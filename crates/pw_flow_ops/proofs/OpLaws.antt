-- Operations: what is read is spelled so and lawful, and what is spelled so and lawful is read again.
use Rattle.std.proofs.Common.{◌≡◌, ℕ, ◌^◌, ◌<◌, List, [], ◌++◌, Ok, refl, sym, ap, ◌∙◌, arith}
use Rattle.std.proofs.lemmas.List.{append-nil}
use Rattle.pw_fields.specs.Fields.{u32_at, text_at, u8, u32, text, FitsU32, FitsText}
use Rattle.pw_fields.specs.FieldLaws.{Spells}
use Rattle.pw_fields.specs.FieldNames.{name_index, IsNameTable}
use Rattle.pw_fields.proofs.FieldLaws.{u32_spells, text_spells}
use Rattle.pw_value.specs.declared.program_names.StartName.TheVariants.{Refused}
use Rattle.pw_files.specs.Kinds.{scalar, scalar_at}
use Rattle.pw_files.proofs.KindLaws.{scalar_spells}
use Rattle.pw_flow.specs.declared.flow.Op.{Op}
use Rattle.pw_flow.specs.declared.flow.Op.TheVariants.{Const, Copy, Un, Bin, Ext, AddrGlobal, AddrSlot, AddrFn, LoadG, StoreG, Load, Store, Move, Call, CallInd}
use Rattle.pw_flow.specs.ValidFlow.{IsResult, AreArguments, IsMoved}
use Rattle.pw_flow_ops.specs.declared.codes.OpCode.{OpCode}
use Rattle.pw_flow_ops.specs.declared.codes.OpCode.TheVariants as code
use Rattle.pw_flow_ops.specs.Operations.{un_number, bin_number, ext_number, code_number, result, arguments, op, Named, OpFits, un_kinds, bin_kinds, ext_kinds, op_codes}
use Rattle.pw_flow_ops.specs.Reading.{one_of_at, named_at, below_at, result_at, arguments_at, moved_at, operands_at, op_at}
use Rattle.pw_flow_ops.proofs.FieldChains.{Takes, takes_field, takes_done, again_field, chained}
use Rattle.pw_flow_ops.proofs.ChoiceLaws.{Any, un_spells, bin_spells, ext_spells, code_spells}
use Rattle.pw_flow_ops.proofs.PartLaws.{below_spells, named_spells, result_spells, arguments_spells, moved_text, moved_spells}

abbrev TakesOp : List (List ℕ) → ℕ → ℕ → OpCode → Type 0
TakesOp names temps slots c = Takes (λ text rest o. (u8 (code_number c) ++ text ≡ op names o) × OpFits names temps slots o) (operands_at names temps slots c)

takes_Const : (names : List (List ℕ)) → IsNameTable names → (temps slots : ℕ) → temps < 2 ^ 31 → slots < 2 ^ 31 → TakesOp names temps slots code.Const
unfolding operands_at
takes_Const names table temps slots small few =
    takes_field _ u32 (λ n. n < temps) (below_at temps) _ (below_spells temps (omega arith)) (λ t h_t. takes_field _ u32 FitsU32 u32_at _ u32_spells (λ n h_n. takes_done _ (Const t n) (λ rest. (refl, ((h_t, h_n), (tt, tt))))))

takes_Copy : (names : List (List ℕ)) → IsNameTable names → (temps slots : ℕ) → temps < 2 ^ 31 → slots < 2 ^ 31 → TakesOp names temps slots code.Copy
unfolding operands_at
takes_Copy names table temps slots small few =
    takes_field _ u32 (λ n. n < temps) (below_at temps) _ (below_spells temps (omega arith)) (λ t h_t. takes_field _ u32 (λ n. n < temps) (below_at temps) _ (below_spells temps (omega arith)) (λ a h_a. takes_done _ (Copy t a) (λ rest. (refl, ((h_t, h_a), (tt, tt))))))

takes_Un : (names : List (List ℕ)) → IsNameTable names → (temps slots : ℕ) → temps < 2 ^ 31 → slots < 2 ^ 31 → TakesOp names temps slots code.Un
unfolding operands_at
takes_Un names table temps slots small few =
    takes_field _ (λ k. u8 (un_number k)) Any (one_of_at un_kinds) _ un_spells (λ k h_k. takes_field _ u32 (λ n. n < temps) (below_at temps) _ (below_spells temps (omega arith)) (λ t h_t. takes_field _ u32 (λ n. n < temps) (below_at temps) _ (below_spells temps (omega arith)) (λ a h_a. takes_done _ (Un k t a) (λ rest. (refl, ((h_t, h_a), (tt, tt)))))))

takes_Bin : (names : List (List ℕ)) → IsNameTable names → (temps slots : ℕ) → temps < 2 ^ 31 → slots < 2 ^ 31 → TakesOp names temps slots code.Bin
unfolding operands_at
takes_Bin names table temps slots small few =
    takes_field _ (λ k. u8 (bin_number k)) Any (one_of_at bin_kinds) _ bin_spells (λ k h_k. takes_field _ u32 (λ n. n < temps) (below_at temps) _ (below_spells temps (omega arith)) (λ t h_t. takes_field _ u32 (λ n. n < temps) (below_at temps) _ (below_spells temps (omega arith)) (λ a h_a. takes_field _ u32 (λ n. n < temps) (below_at temps) _ (below_spells temps (omega arith)) (λ b h_b. takes_done _ (Bin k t a b) (λ rest. (refl, ((h_t, h_a, h_b), (tt, tt))))))))

takes_Ext : (names : List (List ℕ)) → IsNameTable names → (temps slots : ℕ) → temps < 2 ^ 31 → slots < 2 ^ 31 → TakesOp names temps slots code.Ext
unfolding operands_at
takes_Ext names table temps slots small few =
    takes_field _ (λ k. u8 (ext_number k)) Any (one_of_at ext_kinds) _ ext_spells (λ k h_k. takes_field _ u32 (λ n. n < temps) (below_at temps) _ (below_spells temps (omega arith)) (λ t h_t. takes_field _ u32 (λ n. n < temps) (below_at temps) _ (below_spells temps (omega arith)) (λ a h_a. takes_done _ (Ext k t a) (λ rest. (refl, ((h_t, h_a), (tt, tt)))))))

takes_AddrGlobal : (names : List (List ℕ)) → IsNameTable names → (temps slots : ℕ) → temps < 2 ^ 31 → slots < 2 ^ 31 → TakesOp names temps slots code.AddrGlobal
unfolding operands_at
takes_AddrGlobal names table temps slots small few =
    takes_field _ u32 (λ n. n < temps) (below_at temps) _ (below_spells temps (omega arith)) (λ t h_t. takes_field _ (name_index names) (Named Refused names) (named_at Refused names) _ (named_spells Refused names table) (λ g h_g. takes_field _ u32 FitsU32 u32_at _ u32_spells (λ n h_n. takes_done _ (AddrGlobal t g n) (λ rest. (refl, ((h_t, h_n), (tt, (h_g, tt))))))))

takes_AddrSlot : (names : List (List ℕ)) → IsNameTable names → (temps slots : ℕ) → temps < 2 ^ 31 → slots < 2 ^ 31 → TakesOp names temps slots code.AddrSlot
unfolding operands_at
takes_AddrSlot names table temps slots small few =
    takes_field _ u32 (λ n. n < temps) (below_at temps) _ (below_spells temps (omega arith)) (λ t h_t. takes_field _ u32 (λ n. n < slots) (below_at slots) _ (below_spells slots (omega arith)) (λ s h_s. takes_done _ (AddrSlot t s) (λ rest. (refl, ((h_t, h_s), (tt, tt))))))

takes_AddrFn : (names : List (List ℕ)) → IsNameTable names → (temps slots : ℕ) → temps < 2 ^ 31 → slots < 2 ^ 31 → TakesOp names temps slots code.AddrFn
unfolding operands_at
takes_AddrFn names table temps slots small few =
    takes_field _ u32 (λ n. n < temps) (below_at temps) _ (below_spells temps (omega arith)) (λ t h_t. takes_field _ (name_index names) (Named Refused names) (named_at Refused names) _ (named_spells Refused names table) (λ f h_f. takes_done _ (AddrFn t f) (λ rest. (refl, (h_t, (tt, (h_f, tt)))))))

takes_LoadG : (names : List (List ℕ)) → IsNameTable names → (temps slots : ℕ) → temps < 2 ^ 31 → slots < 2 ^ 31 → TakesOp names temps slots code.LoadG
unfolding operands_at
takes_LoadG names table temps slots small few =
    takes_field _ scalar Any scalar_at _ scalar_spells (λ k h_k. takes_field _ u32 (λ n. n < temps) (below_at temps) _ (below_spells temps (omega arith)) (λ t h_t. takes_field _ (name_index names) (Named Refused names) (named_at Refused names) _ (named_spells Refused names table) (λ g h_g. takes_done _ (LoadG t g k) (λ rest. (refl, (h_t, (tt, (h_g, tt))))))))

takes_StoreG : (names : List (List ℕ)) → IsNameTable names → (temps slots : ℕ) → temps < 2 ^ 31 → slots < 2 ^ 31 → TakesOp names temps slots code.StoreG
unfolding operands_at
takes_StoreG names table temps slots small few =
    takes_field _ scalar Any scalar_at _ scalar_spells (λ k h_k. takes_field _ (name_index names) (Named Refused names) (named_at Refused names) _ (named_spells Refused names table) (λ g h_g. takes_field _ u32 (λ n. n < temps) (below_at temps) _ (below_spells temps (omega arith)) (λ a h_a. takes_done _ (StoreG g a k) (λ rest. (refl, (h_a, (tt, (h_g, tt))))))))

takes_Load : (names : List (List ℕ)) → IsNameTable names → (temps slots : ℕ) → temps < 2 ^ 31 → slots < 2 ^ 31 → TakesOp names temps slots code.Load
unfolding operands_at
takes_Load names table temps slots small few =
    takes_field _ scalar Any scalar_at _ scalar_spells (λ k h_k. takes_field _ u32 (λ n. n < temps) (below_at temps) _ (below_spells temps (omega arith)) (λ t h_t. takes_field _ u32 (λ n. n < temps) (below_at temps) _ (below_spells temps (omega arith)) (λ a h_a. takes_done _ (Load k t a) (λ rest. (refl, ((h_t, h_a), (tt, tt)))))))

takes_Store : (names : List (List ℕ)) → IsNameTable names → (temps slots : ℕ) → temps < 2 ^ 31 → slots < 2 ^ 31 → TakesOp names temps slots code.Store
unfolding operands_at
takes_Store names table temps slots small few =
    takes_field _ scalar Any scalar_at _ scalar_spells (λ k h_k. takes_field _ u32 (λ n. n < temps) (below_at temps) _ (below_spells temps (omega arith)) (λ a h_a. takes_field _ u32 (λ n. n < temps) (below_at temps) _ (below_spells temps (omega arith)) (λ b h_b. takes_done _ (Store k a b) (λ rest. (refl, ((h_a, h_b), (tt, tt)))))))

takes_Move : (names : List (List ℕ)) → IsNameTable names → (temps slots : ℕ) → temps < 2 ^ 31 → slots < 2 ^ 31 → TakesOp names temps slots code.Move
unfolding operands_at
takes_Move names table temps slots small few =
    takes_field _ u32 (λ n. n < temps) (below_at temps) _ (below_spells temps (omega arith)) (λ a h_a. takes_field _ u32 (λ n. n < temps) (below_at temps) _ (below_spells temps (omega arith)) (λ b h_b. takes_field _ moved_text (λ m. IsMoved m.0 m.1) moved_at _ moved_spells (λ m h_m. takes_done _ (Move a b m.0 m.1) (λ rest. (ap (λ (w : List ℕ). u8 (code_number code.Move) ++ (u32 a ++ (u32 b ++ w))) (append-nil (moved_text m)), ((h_a, h_b, h_m), (tt, tt)))))))

takes_Call : (names : List (List ℕ)) → IsNameTable names → (temps slots : ℕ) → temps < 2 ^ 31 → slots < 2 ^ 31 → TakesOp names temps slots code.Call
unfolding operands_at
takes_Call names table temps slots small few =
    takes_field _ result (IsResult temps) (result_at temps) _ (result_spells temps small) (λ t h_t. takes_field _ (name_index names) (Named Refused names) (named_at Refused names) _ (named_spells Refused names table) (λ f h_f. takes_field _ arguments (AreArguments temps) (arguments_at temps) _ (arguments_spells temps small) (λ args h_args. takes_done _ (Call t f args) (λ rest. (refl, ((h_t, h_args), (tt, (h_f, tt))))))))

takes_CallInd : (names : List (List ℕ)) → IsNameTable names → (temps slots : ℕ) → temps < 2 ^ 31 → slots < 2 ^ 31 → TakesOp names temps slots code.CallInd
unfolding operands_at
takes_CallInd names table temps slots small few =
    takes_field _ result (IsResult temps) (result_at temps) _ (result_spells temps small) (λ t h_t. takes_field _ u32 (λ n. n < temps) (below_at temps) _ (below_spells temps (omega arith)) (λ a h_a. takes_field _ text FitsText text_at _ text_spells (λ shape h_shape. takes_field _ arguments (AreArguments temps) (arguments_at temps) _ (arguments_spells temps small) (λ args h_args. takes_done _ (CallInd t a shape args) (λ rest. (refl, ((h_t, h_a, h_args), (h_shape, tt))))))))

operands_take : (names : List (List ℕ)) → IsNameTable names → (temps slots : ℕ) → temps < 2 ^ 31 → slots < 2 ^ 31 → (c : OpCode) → TakesOp names temps slots c
operands_take names table temps slots small few code.Const = takes_Const names table temps slots small few
operands_take names table temps slots small few code.Copy = takes_Copy names table temps slots small few
operands_take names table temps slots small few code.Un = takes_Un names table temps slots small few
operands_take names table temps slots small few code.Bin = takes_Bin names table temps slots small few
operands_take names table temps slots small few code.Ext = takes_Ext names table temps slots small few
operands_take names table temps slots small few code.AddrGlobal = takes_AddrGlobal names table temps slots small few
operands_take names table temps slots small few code.AddrSlot = takes_AddrSlot names table temps slots small few
operands_take names table temps slots small few code.AddrFn = takes_AddrFn names table temps slots small few
operands_take names table temps slots small few code.LoadG = takes_LoadG names table temps slots small few
operands_take names table temps slots small few code.StoreG = takes_StoreG names table temps slots small few
operands_take names table temps slots small few code.Load = takes_Load names table temps slots small few
operands_take names table temps slots small few code.Store = takes_Store names table temps slots small few
operands_take names table temps slots small few code.Move = takes_Move names table temps slots small few
operands_take names table temps slots small few code.Call = takes_Call names table temps slots small few
operands_take names table temps slots small few code.CallInd = takes_CallInd names table temps slots small few

again_op : (names : List (List ℕ)) → IsNameTable names → (temps slots : ℕ) → temps < 2 ^ 31 → slots < 2 ^ 31 → (o : Op) (rest : List ℕ) → OpFits names temps slots o → op_at names temps slots (op names o ++ rest) ≡ Ok (o, rest)
unfolding op_at operands_at
again_op names table temps slots small few (Const t n) rest h = again_field (λ c. u8 (code_number c)) Any (one_of_at op_codes) _ code_spells code.Const tt (u32 t ++ (u32 n ++ [])) rest (Const t n) (again_field u32 (λ n. n < temps) (below_at temps) _ (below_spells temps (omega arith)) t h.0.0 (u32 n ++ []) rest (Const t n) (again_field u32 FitsU32 u32_at _ u32_spells n h.0.1 [] rest (Const t n) refl))
again_op names table temps slots small few (Copy t a) rest h = again_field (λ c. u8 (code_number c)) Any (one_of_at op_codes) _ code_spells code.Copy tt (u32 t ++ (u32 a ++ [])) rest (Copy t a) (again_field u32 (λ n. n < temps) (below_at temps) _ (below_spells temps (omega arith)) t h.0.0 (u32 a ++ []) rest (Copy t a) (again_field u32 (λ n. n < temps) (below_at temps) _ (below_spells temps (omega arith)) a h.0.1 [] rest (Copy t a) refl))
again_op names table temps slots small few (Un k t a) rest h = again_field (λ c. u8 (code_number c)) Any (one_of_at op_codes) _ code_spells code.Un tt (u8 (un_number k) ++ (u32 t ++ (u32 a ++ []))) rest (Un k t a) (again_field (λ k. u8 (un_number k)) Any (one_of_at un_kinds) _ un_spells k tt (u32 t ++ (u32 a ++ [])) rest (Un k t a) (again_field u32 (λ n. n < temps) (below_at temps) _ (below_spells temps (omega arith)) t h.0.0 (u32 a ++ []) rest (Un k t a) (again_field u32 (λ n. n < temps) (below_at temps) _ (below_spells temps (omega arith)) a h.0.1 [] rest (Un k t a) refl)))
again_op names table temps slots small few (Bin k t a b) rest h = again_field (λ c. u8 (code_number c)) Any (one_of_at op_codes) _ code_spells code.Bin tt (u8 (bin_number k) ++ (u32 t ++ (u32 a ++ (u32 b ++ [])))) rest (Bin k t a b) (again_field (λ k. u8 (bin_number k)) Any (one_of_at bin_kinds) _ bin_spells k tt (u32 t ++ (u32 a ++ (u32 b ++ []))) rest (Bin k t a b) (again_field u32 (λ n. n < temps) (below_at temps) _ (below_spells temps (omega arith)) t h.0.0 (u32 a ++ (u32 b ++ [])) rest (Bin k t a b) (again_field u32 (λ n. n < temps) (below_at temps) _ (below_spells temps (omega arith)) a h.0.1 (u32 b ++ []) rest (Bin k t a b) (again_field u32 (λ n. n < temps) (below_at temps) _ (below_spells temps (omega arith)) b h.0.2 [] rest (Bin k t a b) refl))))
again_op names table temps slots small few (Ext k t a) rest h = again_field (λ c. u8 (code_number c)) Any (one_of_at op_codes) _ code_spells code.Ext tt (u8 (ext_number k) ++ (u32 t ++ (u32 a ++ []))) rest (Ext k t a) (again_field (λ k. u8 (ext_number k)) Any (one_of_at ext_kinds) _ ext_spells k tt (u32 t ++ (u32 a ++ [])) rest (Ext k t a) (again_field u32 (λ n. n < temps) (below_at temps) _ (below_spells temps (omega arith)) t h.0.0 (u32 a ++ []) rest (Ext k t a) (again_field u32 (λ n. n < temps) (below_at temps) _ (below_spells temps (omega arith)) a h.0.1 [] rest (Ext k t a) refl)))
again_op names table temps slots small few (AddrGlobal t g n) rest h = again_field (λ c. u8 (code_number c)) Any (one_of_at op_codes) _ code_spells code.AddrGlobal tt (u32 t ++ (name_index names g ++ (u32 n ++ []))) rest (AddrGlobal t g n) (again_field u32 (λ n. n < temps) (below_at temps) _ (below_spells temps (omega arith)) t h.0.0 (name_index names g ++ (u32 n ++ [])) rest (AddrGlobal t g n) (again_field (name_index names) (Named Refused names) (named_at Refused names) _ (named_spells Refused names table) g h.1.1.0 (u32 n ++ []) rest (AddrGlobal t g n) (again_field u32 FitsU32 u32_at _ u32_spells n h.0.1 [] rest (AddrGlobal t g n) refl)))
again_op names table temps slots small few (AddrSlot t s) rest h = again_field (λ c. u8 (code_number c)) Any (one_of_at op_codes) _ code_spells code.AddrSlot tt (u32 t ++ (u32 s ++ [])) rest (AddrSlot t s) (again_field u32 (λ n. n < temps) (below_at temps) _ (below_spells temps (omega arith)) t h.0.0 (u32 s ++ []) rest (AddrSlot t s) (again_field u32 (λ n. n < slots) (below_at slots) _ (below_spells slots (omega arith)) s h.0.1 [] rest (AddrSlot t s) refl))
again_op names table temps slots small few (AddrFn t f) rest h = again_field (λ c. u8 (code_number c)) Any (one_of_at op_codes) _ code_spells code.AddrFn tt (u32 t ++ (name_index names f ++ [])) rest (AddrFn t f) (again_field u32 (λ n. n < temps) (below_at temps) _ (below_spells temps (omega arith)) t h.0 (name_index names f ++ []) rest (AddrFn t f) (again_field (name_index names) (Named Refused names) (named_at Refused names) _ (named_spells Refused names table) f h.1.1.0 [] rest (AddrFn t f) refl))
again_op names table temps slots small few (LoadG t g k) rest h = again_field (λ c. u8 (code_number c)) Any (one_of_at op_codes) _ code_spells code.LoadG tt (scalar k ++ (u32 t ++ (name_index names g ++ []))) rest (LoadG t g k) (again_field scalar Any scalar_at _ scalar_spells k tt (u32 t ++ (name_index names g ++ [])) rest (LoadG t g k) (again_field u32 (λ n. n < temps) (below_at temps) _ (below_spells temps (omega arith)) t h.0 (name_index names g ++ []) rest (LoadG t g k) (again_field (name_index names) (Named Refused names) (named_at Refused names) _ (named_spells Refused names table) g h.1.1.0 [] rest (LoadG t g k) refl)))
again_op names table temps slots small few (StoreG g a k) rest h = again_field (λ c. u8 (code_number c)) Any (one_of_at op_codes) _ code_spells code.StoreG tt (scalar k ++ (name_index names g ++ (u32 a ++ []))) rest (StoreG g a k) (again_field scalar Any scalar_at _ scalar_spells k tt (name_index names g ++ (u32 a ++ [])) rest (StoreG g a k) (again_field (name_index names) (Named Refused names) (named_at Refused names) _ (named_spells Refused names table) g h.1.1.0 (u32 a ++ []) rest (StoreG g a k) (again_field u32 (λ n. n < temps) (below_at temps) _ (below_spells temps (omega arith)) a h.0 [] rest (StoreG g a k) refl)))
again_op names table temps slots small few (Load k t a) rest h = again_field (λ c. u8 (code_number c)) Any (one_of_at op_codes) _ code_spells code.Load tt (scalar k ++ (u32 t ++ (u32 a ++ []))) rest (Load k t a) (again_field scalar Any scalar_at _ scalar_spells k tt (u32 t ++ (u32 a ++ [])) rest (Load k t a) (again_field u32 (λ n. n < temps) (below_at temps) _ (below_spells temps (omega arith)) t h.0.0 (u32 a ++ []) rest (Load k t a) (again_field u32 (λ n. n < temps) (below_at temps) _ (below_spells temps (omega arith)) a h.0.1 [] rest (Load k t a) refl)))
again_op names table temps slots small few (Store k a b) rest h = again_field (λ c. u8 (code_number c)) Any (one_of_at op_codes) _ code_spells code.Store tt (scalar k ++ (u32 a ++ (u32 b ++ []))) rest (Store k a b) (again_field scalar Any scalar_at _ scalar_spells k tt (u32 a ++ (u32 b ++ [])) rest (Store k a b) (again_field u32 (λ n. n < temps) (below_at temps) _ (below_spells temps (omega arith)) a h.0.0 (u32 b ++ []) rest (Store k a b) (again_field u32 (λ n. n < temps) (below_at temps) _ (below_spells temps (omega arith)) b h.0.1 [] rest (Store k a b) refl)))
again_op names table temps slots small few (Move a b size unit) rest h = ap (λ (w : List ℕ). op_at names temps slots ((u8 (code_number code.Move) ++ (u32 a ++ (u32 b ++ w))) ++ rest)) (sym (append-nil (moved_text (size, unit)))) ∙ again_field (λ c. u8 (code_number c)) Any (one_of_at op_codes) _ code_spells code.Move tt (u32 a ++ (u32 b ++ (moved_text (size, unit) ++ []))) rest (Move a b size unit) (again_field u32 (λ n. n < temps) (below_at temps) _ (below_spells temps (omega arith)) a h.0.0 (u32 b ++ (moved_text (size, unit) ++ [])) rest (Move a b size unit) (again_field u32 (λ n. n < temps) (below_at temps) _ (below_spells temps (omega arith)) b h.0.1 (moved_text (size, unit) ++ []) rest (Move a b size unit) (again_field moved_text (λ m. IsMoved m.0 m.1) moved_at _ moved_spells (size, unit) h.0.2 [] rest (Move a b size unit) refl)))
again_op names table temps slots small few (Call t f args) rest h = again_field (λ c. u8 (code_number c)) Any (one_of_at op_codes) _ code_spells code.Call tt (result t ++ (name_index names f ++ (arguments args ++ []))) rest (Call t f args) (again_field result (IsResult temps) (result_at temps) _ (result_spells temps small) t h.0.0 (name_index names f ++ (arguments args ++ [])) rest (Call t f args) (again_field (name_index names) (Named Refused names) (named_at Refused names) _ (named_spells Refused names table) f h.1.1.0 (arguments args ++ []) rest (Call t f args) (again_field arguments (AreArguments temps) (arguments_at temps) _ (arguments_spells temps small) args h.0.1 [] rest (Call t f args) refl)))
again_op names table temps slots small few (CallInd t a shape args) rest h = again_field (λ c. u8 (code_number c)) Any (one_of_at op_codes) _ code_spells code.CallInd tt (result t ++ (u32 a ++ (text shape ++ (arguments args ++ [])))) rest (CallInd t a shape args) (again_field result (IsResult temps) (result_at temps) _ (result_spells temps small) t h.0.0 (u32 a ++ (text shape ++ (arguments args ++ []))) rest (CallInd t a shape args) (again_field u32 (λ n. n < temps) (below_at temps) _ (below_spells temps (omega arith)) a h.0.1 (text shape ++ (arguments args ++ [])) rest (CallInd t a shape args) (again_field text FitsText text_at _ text_spells shape h.1.0 (arguments args ++ []) rest (CallInd t a shape args) (again_field arguments (AreArguments temps) (arguments_at temps) _ (arguments_spells temps small) args h.0.2 [] rest (CallInd t a shape args) refl))))

pub op_spells : (names : List (List ℕ)) → IsNameTable names → (temps slots : ℕ) → temps < 2 ^ 31 → slots < 2 ^ 31 → Spells (op names) (OpFits names temps slots) (op_at names temps slots)
unfolding op_at
op_spells names table temps slots small few = chained (op names) (OpFits names temps slots) _
    (takes_field _ (λ c. u8 (code_number c)) Any (one_of_at op_codes) _ code_spells (λ c h. operands_take names table temps slots small few c))
    (again_op names table temps slots small few)
