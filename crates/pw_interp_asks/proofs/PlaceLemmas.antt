-- What denotes no place, and for whose place nothing is evaluated first.
use Rattle.std.proofs.Common.{ℕ, ◌≡◌, refl, true, false, None}
use Rattle.pw_types.specs.TypeTrees.{QType}
use Rattle.pw_types.specs.TypedTrees.{Form, Node, Number, Str, Local, Global, Function, Unary, Binary, Logic, Cond, Comma, Assign, Compound, Step, Cast, Decay, Member, Deref, Address, Call, CallValue}
use Rattle.pw_cmean.specs.Acts.{wrong}
use Rattle.pw_cmean.specs.Evaluation.{Env, Calls, answer_of, place_of}
use Rattle.pw_interp_todo.specs.Asking.{place_first}
use Rattle.pw_interp_asks.specs.Groups.{denotes, is_alone}

pub no_lvalue : (token : ℕ) (ty : QType) (form : Form) (cs : Calls) (e : Env) → denotes form ≡ false → place_of (Node token ty form) cs e ≡ wrong
unfolding answer_of
no_lvalue token ty (Number n) cs e is = refl
no_lvalue token ty (Str number) cs e is = cc is
no_lvalue token ty (Local local) cs e is = cc is
no_lvalue token ty (Global symbol) cs e is = cc is
no_lvalue token ty (Function symbol) cs e is = cc is
no_lvalue token ty (Unary op a) cs e is = refl
no_lvalue token ty (Binary op a b) cs e is = refl
no_lvalue token ty (Logic op a b) cs e is = refl
no_lvalue token ty (Cond c a b) cs e is = cc is
no_lvalue token ty (Comma a b) cs e is = cc is
no_lvalue token ty (Assign a b) cs e is = cc is
no_lvalue token ty (Compound op working a b) cs e is = refl
no_lvalue token ty (Step op a) cs e is = refl
no_lvalue token ty (Cast a) cs e is = refl
no_lvalue token ty (Decay a) cs e is = refl
no_lvalue token ty (Member a offset) cs e is = cc is
no_lvalue token ty (Deref a) cs e is = cc is
no_lvalue token ty (Address a) cs e is = refl
no_lvalue token ty (Call symbol args) cs e is = refl
no_lvalue token ty (CallValue a args) cs e is = refl

pub alone_is : (form : Form) → place_first form ≡ None → is_alone form ≡ true
alone_is (Number n) is = refl
alone_is (Str k) is = refl
alone_is (Local k) is = refl
alone_is (Global s) is = refl
alone_is (Function s) is = refl
alone_is (Unary op a) is = refl
alone_is (Binary op a b) is = refl
alone_is (Logic op a b) is = refl
alone_is (Cond c a b) is = cc is
alone_is (Comma a b) is = cc is
alone_is (Assign a b) is = cc is
alone_is (Compound op working a b) is = refl
alone_is (Step op a) is = refl
alone_is (Cast a) is = refl
alone_is (Decay a) is = refl
alone_is (Member a offset) is = cc is
alone_is (Deref a) is = cc is
alone_is (Address a) is = refl
alone_is (Call s args) is = refl
alone_is (CallValue a args) is = refl
