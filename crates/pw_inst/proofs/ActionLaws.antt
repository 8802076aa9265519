-- What an instruction does depends on its sources alone.
use Rattle.std.proofs.Common.{ℕ, ◌≡◌, ◌+◌, ◌*◌, ◌/◌, ◌%◌, ◌^◌, List, [], ◌∷◌, Bool, arith, refl, ap, ◌∙◌}
use Rattle.std.specs.Prelude.{Contains, not, bit_and, bit_or, bit_xor, if◌then◌else◌}
use Rattle.std.specs.Int.{cast_unsigned, w32}
use Rattle.pw_value.specs.Words.{unsigned_difference}
use Rattle.pw_inst.specs.declared.Inst.{Inst}
use Rattle.pw_inst.specs.declared.Inst.TheVariants.{Ldb, Ldh, Ldw, Ldo, Stb, Sth, Stw, Ldil, And, Or, Xor, Sub, Addl, Vshd, Mtctl, Comclr, Subi, Extru, Extrs, Zdep, Combt, Combf, Bl, Bv, Ble, Break}
use Rattle.pw_inst.specs.Computing.{Action, Puts, Loads, Stores, Shifts, Clears, Branches, Jumps, Calls, OneByte, HalfWord, WholeWord, condition, extracted, sign_extended, deposited, offset_by, action, registers_put, source_registers, target_registers}

-- functions that agree on the members of a list
abbrev pub AgreeOn : List ℕ → (ℕ → ℕ) → (ℕ → ℕ) → Type 0
AgreeOn registers f g = (r : ℕ) → Contains registers r → f r ≡ g r

one : {X : Type 0} (h : ℕ → X) (f g : ℕ → ℕ) (a : ℕ) → AgreeOn (a ∷ []) f g → h (f a) ≡ h (g a)
one h f g a same = ap h (same a (0, omega arith, refl))

two : {X : Type 0} (h : ℕ → ℕ → X) (f g : ℕ → ℕ) (a b : ℕ) → AgreeOn (a ∷ b ∷ []) f g → h (f a) (f b) ≡ h (g a) (g b)
two h f g a b same = ap (λ k. h k (f b)) (same a (0, omega arith, refl)) ∙ ap (λ k. h (g a) k) (same b (1, omega arith, refl))

pub same_action : (i : Inst) (f g : ℕ → ℕ) (shift : ℕ) → AgreeOn (source_registers i) f g → action f shift i ≡ action g shift i
same_action (Ldb im b t) f g shift same = one (λ x. Loads OneByte (offset_by x im) t) f g b same
same_action (Ldh im b t) f g shift same = one (λ x. Loads HalfWord (offset_by x im) t) f g b same
same_action (Ldw im b t) f g shift same = one (λ x. Loads WholeWord (offset_by x im) t) f g b same
same_action (Ldo im b t) f g shift same = one (λ x. Puts t (offset_by x im)) f g b same
same_action (Stb s im b) f g shift same = two (λ x y. Stores OneByte (offset_by y im) x) f g s b same
same_action (Sth s im b) f g shift same = two (λ x y. Stores HalfWord (offset_by y im) x) f g s b same
same_action (Stw s im b) f g shift same = two (λ x y. Stores WholeWord (offset_by y im) x) f g s b same
same_action (Ldil im t) f g shift same = refl
same_action (And r1 r2 t) f g shift same = two (λ x y. Puts t (bit_and x y)) f g r1 r2 same
same_action (Or r1 r2 t) f g shift same = two (λ x y. Puts t (bit_or x y)) f g r1 r2 same
same_action (Xor r1 r2 t) f g shift same = two (λ x y. Puts t (bit_xor x y)) f g r1 r2 same
same_action (Sub r1 r2 t) f g shift same = two (λ x y. Puts t (unsigned_difference x y)) f g r1 r2 same
same_action (Addl r1 r2 t) f g shift same = two (λ x y. Puts t ((x + y) % 2 ^ 32)) f g r1 r2 same
same_action (Vshd r1 r2 t) f g shift same = two (λ x y. Puts t ((x * 2 ^ 32 + y) / 2 ^ shift % 2 ^ 32)) f g r1 r2 same
same_action (Mtctl s) f g shift same = one (λ x. Shifts (x % 32)) f g s same
same_action (Comclr c n r1 r2 t) f g shift same = two (λ x y. Clears t (if n then not (condition c x y) else condition c x y)) f g r1 r2 same
same_action (Subi im s t) f g shift same = one (λ x. Puts t (unsigned_difference (cast_unsigned w32 im) x)) f g s same
same_action (Extru s p len t) f g shift same = one (λ x. Puts t (extracted x p len)) f g s same
same_action (Extrs s p len t) f g shift same = one (λ x. Puts t (sign_extended len (extracted x p len))) f g s same
same_action (Zdep s p len t) f g shift same = one (λ x. Puts t (deposited x p len)) f g s same
same_action (Combt c r1 r2 disp) f g shift same = two (λ x y. Branches (condition c x y) disp) f g r1 r2 same
same_action (Combf c r1 r2 disp) f g shift same = two (λ x y. Branches (not (condition c x y)) disp) f g r1 r2 same
same_action (Bl disp t n) f g shift same = refl
same_action (Bv b n) f g shift same = one (λ x. Jumps x n) f g b same
same_action (Ble b n) f g shift same = one (λ x. Calls x n) f g b same
same_action (Break im5 im13) f g shift same = refl

-- It puts words into its targets, whatever the registers read.
pub same_targets : (i : Inst) (f : ℕ → ℕ) (shift : ℕ) → registers_put (action f shift i) ≡ target_registers i
same_targets (Ldb im b t) f shift = refl
same_targets (Ldh im b t) f shift = refl
same_targets (Ldw im b t) f shift = refl
same_targets (Ldo im b t) f shift = refl
same_targets (Stb s im b) f shift = refl
same_targets (Sth s im b) f shift = refl
same_targets (Stw s im b) f shift = refl
same_targets (Ldil im t) f shift = refl
same_targets (And r1 r2 t) f shift = refl
same_targets (Or r1 r2 t) f shift = refl
same_targets (Xor r1 r2 t) f shift = refl
same_targets (Sub r1 r2 t) f shift = refl
same_targets (Addl r1 r2 t) f shift = refl
same_targets (Vshd r1 r2 t) f shift = refl
same_targets (Mtctl s) f shift = refl
same_targets (Comclr c n r1 r2 t) f shift = refl
same_targets (Subi im s t) f shift = refl
same_targets (Extru s p len t) f shift = refl
same_targets (Extrs s p len t) f shift = refl
same_targets (Zdep s p len t) f shift = refl
same_targets (Combt c r1 r2 disp) f shift = refl
same_targets (Combf c r1 r2 disp) f shift = refl
same_targets (Bl disp t n) f shift = refl
same_targets (Bv b n) f shift = refl
same_targets (Ble b n) f shift = refl
same_targets (Break im5 im13) f shift = refl
