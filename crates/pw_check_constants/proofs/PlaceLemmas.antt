-- The place of an address by its form.
use Rattle.std.proofs.Common.{◌≡◌, ℕ, List, refl}
use Rattle.pw_types.specs.TypeTrees.{Void, Int, Pointer, Array, Function, Record, QType, Qualified, type_of, RecordValue}
use Rattle.pw_types.specs.TypedTrees.{Node, Form}
use Rattle.pw_types.specs.TypedTrees as T
use Rattle.pw_types.specs.declared.tree.BinaryOperator.TheVariants as B
use Rattle.pw_check_rules.specs.Constants.{AsAddress, place_of}
use Rattle.pw_check_rules.specs.Kinds.{is_pointer}
use Rattle.pw_check_constants.specs.Moves.{address_formed}

pub by_address : (records : List RecordValue) (t : ℕ) (q : QType) (form : Form)
    → place_of records AsAddress (Node t q form) ≡ address_formed records (is_pointer (type_of q)) form
unfolding place_of
by_address records t (Qualified (Pointer p) c v) (T.Binary B.Add a b) = refl
by_address records t (Qualified (Pointer p) c v) (T.Binary B.Subtract a b) = refl
by_address records t (Qualified (Pointer p) c v) (T.Binary op a b) = refl
by_address records t (Qualified (Pointer p) c v) form = refl
by_address records t (Qualified Void c v) (T.Cast a) = refl
by_address records t (Qualified Void c v) form = refl
by_address records t (Qualified (Int kind) c v) (T.Cast a) = refl
by_address records t (Qualified (Int kind) c v) form = refl
by_address records t (Qualified (Array p n) c v) (T.Cast a) = refl
by_address records t (Qualified (Array p n) c v) form = refl
by_address records t (Qualified (Function p ps) c v) (T.Cast a) = refl
by_address records t (Qualified (Function p ps) c v) form = refl
by_address records t (Qualified (Record n) c v) (T.Cast a) = refl
by_address records t (Qualified (Record n) c v) form = refl
