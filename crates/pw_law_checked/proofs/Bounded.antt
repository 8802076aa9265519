-- What is bounded has numbers that are words, and types and calls that keep their limits.
use Rattle.std.specs.Prelude.{List}
use Rattle.pw_types.specs.TypeTrees.{RecordValue}
use Rattle.pw_types.specs.TypedTrees.{Expression, Node, Form, Expressions, NoExpression, OneExpression, Initialiser, Statement}
use Rattle.pw_types.specs.TypedTrees as T
use Rattle.pw_law_lower.specs.Within.{IsSmall, HasSmall, AreSmall, IsSmallIn, KeepsLimits}
use Rattle.pw_law_lower_walk.proofs.Folds.{statement_to}
use Rattle.pw_law_checked.specs.Bounded.{IsBounded, HasBounded, AreBounded, IsBoundedIn, IsBoundedStatement}
use Rattle.pw_law_checked.specs.Lawful.{AreWords, AreWordsIn, AreWordsOf}
use Rattle.pw_law_checked.specs.Words.{HasWords, WordsInStatement}

-- ---- expressions

mutual
  pub bounded_words : (r : List RecordValue) (e : Expression) → IsBounded r e → AreWords e
  bounded_words r (Node t y form) h = form_words r form h.2

  form_words : (r : List RecordValue) (form : Form) → HasBounded r form → AreWordsIn form
  form_words r (T.Number n) h = h
  form_words r (T.Str k) h = tt
  form_words r (T.Local k) h = tt
  form_words r (T.Global s) h = tt
  form_words r (T.Function s) h = tt
  form_words r (T.Unary op a) h = bounded_words r a h
  form_words r (T.Binary op a b) h = (bounded_words r a h.0, bounded_words r b h.1)
  form_words r (T.Logic op a b) h = (bounded_words r a h.0, bounded_words r b h.1)
  form_words r (T.Cond c a b) h = (bounded_words r c h.0, bounded_words r a h.1, bounded_words r b h.2)
  form_words r (T.Comma a b) h = (bounded_words r a h.0, bounded_words r b h.1)
  form_words r (T.Assign a b) h = (bounded_words r a h.0, bounded_words r b h.1)
  form_words r (T.Compound op working a b) h = (bounded_words r a h.0, bounded_words r b h.1)
  form_words r (T.Step op a) h = bounded_words r a h
  form_words r (T.Cast a) h = bounded_words r a h
  form_words r (T.Decay a) h = bounded_words r a h
  form_words r (T.Member a offset) h = bounded_words r a h
  form_words r (T.Deref a) h = bounded_words r a h
  form_words r (T.Address a) h = bounded_words r a h
  form_words r (T.Call symbol args) h = arguments_words r args h.1
  form_words r (T.CallValue a args) h = (bounded_words r a h.1, arguments_words r args h.2)

  arguments_words : (r : List RecordValue) (args : Expressions) → AreBounded r args → AreWordsOf args
  arguments_words r NoExpression h = tt
  arguments_words r (OneExpression e rest) h = (bounded_words r e h.0, arguments_words r rest h.1)

mutual
  pub bounded_small : (r : List RecordValue) (e : Expression) → IsBounded r e → IsSmall r e
  bounded_small r (Node t y form) h = (h.0, form_small r form h.2)

  form_small : (r : List RecordValue) (form : Form) → HasBounded r form → HasSmall r form
  form_small r (T.Number n) h = tt
  form_small r (T.Str k) h = tt
  form_small r (T.Local k) h = tt
  form_small r (T.Global s) h = tt
  form_small r (T.Function s) h = tt
  form_small r (T.Unary op a) h = bounded_small r a h
  form_small r (T.Binary op a b) h = (bounded_small r a h.0, bounded_small r b h.1)
  form_small r (T.Logic op a b) h = (bounded_small r a h.0, bounded_small r b h.1)
  form_small r (T.Cond c a b) h = (bounded_small r c h.0, bounded_small r a h.1, bounded_small r b h.2)
  form_small r (T.Comma a b) h = (bounded_small r a h.0, bounded_small r b h.1)
  form_small r (T.Assign a b) h = (bounded_small r a h.0, bounded_small r b h.1)
  form_small r (T.Compound op working a b) h = (bounded_small r a h.0, bounded_small r b h.1, h.2)
  form_small r (T.Step op a) h = bounded_small r a h
  form_small r (T.Cast a) h = bounded_small r a h
  form_small r (T.Decay a) h = bounded_small r a h
  form_small r (T.Member a offset) h = bounded_small r a h
  form_small r (T.Deref a) h = bounded_small r a h
  form_small r (T.Address a) h = bounded_small r a h
  form_small r (T.Call symbol args) h = (h.0, arguments_small r args h.1)
  form_small r (T.CallValue a args) h = (h.0, bounded_small r a h.1, arguments_small r args h.2)

  arguments_small : (r : List RecordValue) (args : Expressions) → AreBounded r args → AreSmall r args
  arguments_small r NoExpression h = tt
  arguments_small r (OneExpression e rest) h = (bounded_small r e h.0, arguments_small r rest h.1)

-- ---- initialisers

initialiser_words : (r : List RecordValue) (i : Initialiser) → IsBoundedIn r i → HasWords i
initialiser_words r (T.Value k e) h = bounded_words r e h
initialiser_words r (T.Bytes k hidden parts) h = tt

initialiser_small : (r : List RecordValue) (i : Initialiser) → IsBoundedIn r i → IsSmallIn r i
initialiser_small r (T.Value k e) h = bounded_small r e h
initialiser_small r (T.Bytes k hidden parts) h = tt

-- ---- statements

pub statement_words : (r : List RecordValue) (s : Statement) → IsBoundedStatement r s → WordsInStatement s
statement_words r = statement_to (IsBounded r) AreWords (IsBoundedIn r) HasWords (bounded_words r) (initialiser_words r)

pub statement_limits : (r : List RecordValue) (s : Statement) → IsBoundedStatement r s → KeepsLimits r s
statement_limits r = statement_to (IsBounded r) (IsSmall r) (IsBoundedIn r) (IsSmallIn r) (bounded_small r) (initialiser_small r)
