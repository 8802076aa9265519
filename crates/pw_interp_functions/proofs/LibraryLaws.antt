-- The functions of the library, by their arguments.
use Rattle.std.proofs.Common.{ℕ, ◌%◌, ◌≡◌, refl, ap, true, false, Some, None, List, [], ◌∷◌}
use Rattle.pw_value.specs.declared.value.Value.{Value}
use Rattle.pw_value.specs.declared.value.Value.TheVariants as V
use Rattle.pw_cmean.specs.Worlds.{GetChar, PutChar, ExitRun}
use Rattle.pw_cmean.specs.Acts.{wrong}
use Rattle.pw_cmean.specs.Evaluation.{library_call}
use Rattle.pw_interp_todo.specs.declared.todo.Transfer.TheVariants as T
use Rattle.pw_interp_todo.specs.Transfers.{transfer_act}
use Rattle.pw_interp_functions.specs.Library.{only_number, are_none}

pub wrong_put : (args : List Value) → only_number args ≡ None → library_call PutChar args ≡ wrong
unfolding library_call
wrong_put [] e = refl
wrong_put (V.Num n ∷ []) e = cc e
wrong_put (V.Num n ∷ b ∷ rest) e = refl
wrong_put (V.Undefined ∷ rest) e = refl
wrong_put (V.Null ∷ rest) e = refl
wrong_put (V.At p ∷ rest) e = refl
wrong_put (V.Piece p i ∷ rest) e = refl

pub wrong_exit : (args : List Value) → only_number args ≡ None → library_call ExitRun args ≡ wrong
unfolding library_call
wrong_exit [] e = refl
wrong_exit (V.Num n ∷ []) e = cc e
wrong_exit (V.Num n ∷ b ∷ rest) e = refl
wrong_exit (V.Undefined ∷ rest) e = refl
wrong_exit (V.Null ∷ rest) e = refl
wrong_exit (V.At p ∷ rest) e = refl
wrong_exit (V.Piece p i ∷ rest) e = refl

pub the_number : (args : List Value) (n : ℕ) → only_number args ≡ Some n → args ≡ V.Num n ∷ []
the_number [] n e = cc e
the_number (V.Num m ∷ []) n e = let same : m ≡ n = cc e in ap (λ k. V.Num k ∷ []) same
the_number (V.Num m ∷ b ∷ rest) n e = cc e
the_number (V.Undefined ∷ rest) n e = cc e
the_number (V.Null ∷ rest) n e = cc e
the_number (V.At p ∷ rest) n e = cc e
the_number (V.Piece p i ∷ rest) n e = cc e

pub wrong_read : (args : List Value) → are_none args ≡ false → library_call GetChar args ≡ wrong
unfolding library_call
wrong_read [] more = cc more
wrong_read (a ∷ rest) more = refl

pub right_read : (args : List Value) → are_none args ≡ true → library_call GetChar args ≡ transfer_act T.Read
unfolding library_call transfer_act
right_read [] none = refl
right_read (a ∷ rest) none = cc none

pub right_put : (args : List Value) (n : ℕ) → only_number args ≡ Some n → library_call PutChar args ≡ transfer_act (T.Write (n % 256))
unfolding library_call transfer_act
right_put args n e = ap (library_call PutChar) (the_number args n e)
