-- What holds of lists that are read turn by turn.
use Rattle.std.proofs.Common.{◌≡◌, ℕ, zero, suc, Bool, true, false, if◌then◌else◌, ◌∷◌, Option, Some, None, refl}
use Rattle.pw_tree.specs.Scopes.{Env}
use Rattle.pw_tree.specs.Symbols.{Sign}
use Rattle.pw_token.specs.declared.symbol.Mark.TheVariants as m
use Rattle.pw_parse_grammar.specs.Input.{Input, Parser, ◌>>=◌, ◌<$>◌, pure, sees, past, step, Turn, More, Last, go_on, repeat, turn_of, while_some, turns, one_or_more, turn_with, unless_comma}
use Rattle.pw_parse_grammar.proofs.Trees.Base.{names_of}
use Rattle.pw_parse_grammar.proofs.Sound.Base.{Post, bind, Reads, sign}

-- `Is env i l j`: from i, where env is visible, to j stands the list l
module _ {L : Type 0} (Is : Env → Input → L → Input → Type 0) where
  -- behind an item stands the rest of the list
  abbrev pub Before : Env → Input → (L → L) → Input → Type 0
  Before env i f j = (inner : Env) × (j.names ≡ names_of inner) × ((l : L) (k : Input) → Is inner j l k → Is env i (f l) k)

  abbrev pub IsTurn : Env → Input → Turn L → Input → Type 0
  IsTurn env i (More f) j = Before env i f j
  IsTurn env i (Last l) j = Is env i l j

  pub repeat-sound : (turn : Parser (Turn L)) → ((env : Env) (i : Input) → i.names ≡ names_of env → Post (IsTurn env i) (turn i))
      → (n : ℕ) (env : Env) (i : Input) → i.names ≡ names_of env → Post (Is env i) (repeat turn n i)
  unfolding repeat
  repeat-sound turn h zero env i names = tt
  repeat-sound turn h (suc n) env i names = bind _ (turn i) (go_on (repeat turn n)) (h env i names) (by (repeat-sound turn h n))
    where
      by : ((env : Env) (i : Input) → i.names ≡ names_of env → Post (Is env i) (repeat turn n i)) → (t : Turn L) (j : Input) → IsTurn env i t j → Post (Is env i) (go_on (repeat turn n) t j)
      by rest (Last l) j q = q
      by rest (More f) j q = bind (Is env i) (repeat turn n j) (λ l. pure (f l)) (rest q.0 j q.1) q.2

  abbrev pub IsItem : L → Env → Input → Option (L → L) → Input → Type 0
  IsItem none env i None j = Is env i none j
  IsItem none env i (Some f) j = Before env i f j

  -- a list of items where one begins
  pub while-sound : (none : L) (item : Parser (Option (L → L))) → ((env : Env) (i : Input) → i.names ≡ names_of env → Post (IsItem none env i) (item i))
      → (env : Env) (i : Input) → i.names ≡ names_of env → Post (Is env i) (while_some none item i)
  while-sound none item h env i names = repeat-sound (turn_of none <$> item) turn (turns i) env i names
    where
      by : (env : Env) (i : Input) (x : Option (L → L)) (j : Input) → IsItem none env i x j → IsTurn env i (turn_of none x) j
      by env i None j q = q
      by env i (Some f) j q = q

      turn : (env : Env) (i : Input) → i.names ≡ names_of env → Post (IsTurn env i) ((turn_of none <$> item) i)
      turn env i names = bind _ (item i) (λ x. pure (turn_of none x)) (h env i names) (by env i)

  -- an item that ends the list, or goes before a comma and the rest
  pub record IsListed (none : L) (env : Env) (i : Input) (f : L → L) (j : Input) : Type 0 where
    pub inner : Env
    pub names : j.names ≡ names_of inner
    pub last : Is env i (f none) j
    pub more : (k : Input) → Reads j k inner (λ z. Sign m.Comma ∷ z) → (l : L) (end : Input) → Is inner k l end → Is env i (f l) end

  -- one item or more, with commas between them
  pub comma-sound : (none : L) (item : Parser (L → L)) → ((env : Env) (i : Input) → i.names ≡ names_of env → Post (IsListed none env i) (item i))
      → (env : Env) (i : Input) → i.names ≡ names_of env → Post (Is env i) (one_or_more item (unless_comma none) i)
  unfolding past
  comma-sound none item h env i names = repeat-sound (item >>= λ first. turn_with first <$> unless_comma none) turn (turns i) env i names
    where
      by : (env : Env) (i : Input) (f : L → L) (j : Input) → IsListed none env i f j → (b : Bool) → sees m.Comma j ≡ b
          → IsTurn env i (turn_with f (if b then None else Some none)) (if b then step j else j)
      by env i f j q true e = (q.inner, (sign j q.inner m.Comma e q.names).names, q.more (step j) (sign j q.inner m.Comma e q.names))
      by env i f j q false e = q.last

      turn : (env : Env) (i : Input) → i.names ≡ names_of env → Post (IsTurn env i) ((item >>= λ first. turn_with first <$> unless_comma none) i)
      turn env i names = bind _ (item i) (λ first. turn_with first <$> unless_comma none) (h env i names) (λ f j q. by env i f j q (sees m.Comma j) refl)
