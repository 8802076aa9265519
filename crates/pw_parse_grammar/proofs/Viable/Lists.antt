-- Faults in lists that are read turn by turn.
use Rattle.std.proofs.Common.{◌≡◌, ℕ, zero, suc, ◌<◌, ◌≤◌, Bool, true, false, if◌then◌else◌, List, ◌∷◌, length, Option, Some, None, arith, refl}
use Rattle.pw_tree.specs.Scopes.{Env}
use Rattle.pw_tree.specs.Symbols.{Symbol, Sign}
use Rattle.pw_token.specs.declared.symbol.Mark.TheVariants as m
use Rattle.pw_parse_grammar.specs.Input.{Input, Parser, ◌>>=◌, ◌<$>◌, pure, sees, past, step, Turn, More, Last, go_on, repeat, turn_of, while_some, turns, one_or_more, turn_with, unless_comma}
use Rattle.pw_parse_grammar.proofs.Trees.Base.{names_of, no_turns}
use Rattle.pw_parse_grammar.proofs.Sound.Base.{Reads, both, sign}
use Rattle.pw_parse_grammar.proofs.Viable.Base.{Does, Fails, bind-does, weaken-does, Form, Begins, Viable, embed, counted, no_longer}

-- `V env i e`: from i, where env is visible, to the fault at e stand tokens that begin a list.
-- At j a list goes on that began at i.
pub record GoesOn (V : Env → Input → Input → Type 0) (env : Env) (i j : Input) : Type 0 where
  pub inner : Env
  pub names : j.names ≡ names_of inner
  pub shorter : length j.rest < length i.rest
  pub rest : (e : Input) → V inner j e → V env i e

-- At j, behind an item of a list that began at i, the list may go on with a comma.
pub record Listed (V : Env → Input → Input → Type 0) (env : Env) (i j : Input) : Type 0 where
  pub inner : Env
  pub names : j.names ≡ names_of inner
  pub no_longer : length j.rest ≤ length i.rest
  pub more : (k : Input) → Reads j k inner (λ z. Sign m.Comma ∷ z) → (e : Input) → V inner k e → V env i e

-- what was read and a list of the form behind it begin such a list
pub more_behind : {L : Type 0} {F : Form L} {env inner : Env} {i j : Input} {put : List Symbol → List Symbol} → Reads i j inner put → length j.rest < length i.rest
    → ((l : L) → F.holds inner l → Begins F env (λ z. put (F.put l z))) → GoesOn (Viable F) env i j
more_behind {inner = inner} r shorter f = record { inner = inner; names = r.names; shorter = shorter; rest = λ e v. embed r v f }

pub more_listed : {L : Type 0} {F : Form L} {env inner : Env} {i j : Input} {put : List Symbol → List Symbol} → Reads i j inner put
    → ((l : L) → F.holds inner l → Begins F env (λ z. put (Sign m.Comma ∷ F.put l z))) → Listed (Viable F) env i j
more_listed {inner = inner} r f = record { inner = inner; names = r.names; no_longer = no_longer r; more = λ k c e v. embed (both r c) v f }

-- `Is env i l j`: from i, where env is visible, to j stands the list l.
module _ {L : Type 0} (Is : Env → Input → L → Input → Type 0) (V : Env → Input → Input → Type 0) where
  -- behind an item stands the rest of the list
  pub record Leads (env : Env) (i : Input) (f : L → L) (j : Input) : Type 0 where
    pub on : GoesOn V env i j
    pub whole : (l : L) (k : Input) → Is on.inner j l k → Is env i (f l) k

  abbrev pub DoneTurn : Env → Input → Turn L → Input → Type 0
  DoneTurn env i (More f) j = Leads env i f j
  DoneTurn env i (Last l) j = Is env i l j

  pub repeat-does : (d : ℕ) (turn : Parser (Turn L)) → ((env : Env) (i : Input) → i.names ≡ names_of env → length i.rest < d → Does (DoneTurn env i) (V env i) (turn i))
      → (n : ℕ) (env : Env) (i : Input) → i.names ≡ names_of env → length i.rest < d → length i.rest < n → Does (Is env i) (V env i) (repeat turn n i)
  unfolding repeat
  repeat-does d turn h zero env i names below enough = no_turns enough
  repeat-does d turn h (suc n) env i names below enough = bind-does _ _ (turn i) (go_on (repeat turn n)) (h env i names below) (λ e v. v) (by (repeat-does d turn h n))
    where
      by : ((env : Env) (i : Input) → i.names ≡ names_of env → length i.rest < d → length i.rest < n → Does (Is env i) (V env i) (repeat turn n i))
          → (t : Turn L) (j : Input) → DoneTurn env i t j → Does (Is env i) (V env i) (go_on (repeat turn n) t j)
      by rest (Last l) j q = q
      by rest (More f) j q =
          bind-does (Is env i) (V env i) (repeat turn n j) (λ l. pure (f l)) (rest q.on.inner j q.on.names (omega (arith, q.on.shorter, below)) (omega (arith, q.on.shorter, enough))) q.on.rest q.whole

  abbrev pub DoneItem : L → Env → Input → Option (L → L) → Input → Type 0
  DoneItem none env i None j = Is env i none j
  DoneItem none env i (Some f) j = Leads env i f j

  -- a list of items where one begins
  pub while-does : (d : ℕ) (none : L) (item : Parser (Option (L → L))) → ((env : Env) (i : Input) → i.names ≡ names_of env → length i.rest < d → Does (DoneItem none env i) (V env i) (item i))
      → (env : Env) (i : Input) → i.names ≡ names_of env → length i.rest < d → Does (Is env i) (V env i) (while_some none item i)
  while-does d none item h env i names below = repeat-does d (turn_of none <$> item) turn (turns i) env i names below (omega arith)
    where
      by : (env : Env) (i : Input) (x : Option (L → L)) (j : Input) → DoneItem none env i x j → DoneTurn env i (turn_of none x) j
      by env i None j q = q
      by env i (Some f) j q = q

      turn : (env : Env) (i : Input) → i.names ≡ names_of env → length i.rest < d → Does (DoneTurn env i) (V env i) ((turn_of none <$> item) i)
      turn env i names below = bind-does _ _ (item i) (λ x. pure (turn_of none x)) (h env i names below) (λ e v. v) (by env i)

-- ---- lists of which only the faults count

module _ {L : Type 0} (V : Env → Input → Input → Type 0) where
  abbrev Anything : Env → Input → L → Input → Type 0
  Anything env i l j = Unit {0}

  abbrev pub AfterTurn : Env → Input → Turn L → Input → Type 0
  AfterTurn env i (More f) j = GoesOn V env i j
  AfterTurn env i (Last l) j = Unit {0}

  pub repeat-fails : (d : ℕ) (turn : Parser (Turn L)) → ((env : Env) (i : Input) → i.names ≡ names_of env → length i.rest < d → Does (AfterTurn env i) (V env i) (turn i))
      → (n : ℕ) (env : Env) (i : Input) → i.names ≡ names_of env → length i.rest < d → length i.rest < n → Fails (V env i) (repeat turn n i)
  repeat-fails d turn h = repeat-does Anything V d turn (λ env i names below. weaken-does _ _ (turn i) (h env i names below) (λ e v. v) (by env i))
    where
      by : (env : Env) (i : Input) (t : Turn L) (j : Input) → AfterTurn env i t j → DoneTurn Anything V env i t j
      by env i (Last l) j q = tt
      by env i (More f) j q = record { on = q; whole = λ l k t. tt }

  abbrev pub AfterItem : Env → Input → Option (L → L) → Input → Type 0
  AfterItem env i None j = Unit {0}
  AfterItem env i (Some f) j = GoesOn V env i j

  -- where an item was read, one stands next
  pub found : (env : Env) (i : Input) (p : Parser (L → L)) → Does (λ f j. GoesOn V env i j) (V env i) (p i) → Does (AfterItem env i) (V env i) ((Some <$> p) i)
  found env i p h = bind-does _ _ (p i) (λ f. pure (Some f)) h (λ e v. v) (λ f j q. q)

  pub while-fails : (d : ℕ) (none : L) (item : Parser (Option (L → L))) → ((env : Env) (i : Input) → i.names ≡ names_of env → length i.rest < d → Does (AfterItem env i) (V env i) (item i))
      → (env : Env) (i : Input) → i.names ≡ names_of env → length i.rest < d → Fails (V env i) (while_some none item i)
  while-fails d none item h = while-does Anything V d none item (λ env i names below. weaken-does _ _ (item i) (h env i names below) (λ e v. v) (by env i))
    where
      by : (env : Env) (i : Input) (x : Option (L → L)) (j : Input) → AfterItem env i x j → DoneItem Anything V none env i x j
      by env i None j q = tt
      by env i (Some f) j q = record { on = q; whole = λ l k t. tt }

  abbrev pub AfterEnd : Env → Input → Option L → Input → Type 0
  AfterEnd env i None k = GoesOn V env i k
  AfterEnd env i (Some l) k = Unit {0}

  -- one item or more, and what stands behind each
  pub items-fail : (Item : Env → Input → (L → L) → Input → Type 0) (d : ℕ) (item : Parser (L → L)) (end : Parser (Option L))
      → ((env : Env) (i : Input) → i.names ≡ names_of env → length i.rest < d → Does (Item env i) (V env i) (item i))
      → ((env : Env) (i : Input) (f : L → L) (j : Input) → Item env i f j → Does (AfterEnd env i) (V env i) (end j))
      → (env : Env) (i : Input) → i.names ≡ names_of env → length i.rest < d → Fails (V env i) (one_or_more item end i)
  items-fail Item d item end h g env i names below = repeat-fails d (item >>= λ first. turn_with first <$> end) turn (turns i) env i names below (omega arith)
    where
      by : (env : Env) (i : Input) (f : L → L) (o : Option L) (k : Input) → AfterEnd env i o k → AfterTurn env i (turn_with f o) k
      by env i f None k q = q
      by env i f (Some l) k q = tt

      turn : (env : Env) (i : Input) → i.names ≡ names_of env → length i.rest < d → Does (AfterTurn env i) (V env i) ((item >>= λ first. turn_with first <$> end) i)
      turn env i names below =
          bind-does _ _ (item i) (λ first. turn_with first <$> end) (h env i names below) (λ e v. v) (λ f j q.
          bind-does (AfterTurn env i) (V env i) (end j) (λ o. pure (turn_with f o)) (g env i f j q) (λ e v. v) (by env i f))

  -- one item or more, with commas between them
  pub comma-fails : (d : ℕ) (none : L) (item : Parser (L → L)) → ((env : Env) (i : Input) → i.names ≡ names_of env → length i.rest < d → Does (λ f j. Listed V env i j) (V env i) (item i))
      → (env : Env) (i : Input) → i.names ≡ names_of env → length i.rest < d → Fails (V env i) (one_or_more item (unless_comma none) i)
  unfolding past
  comma-fails d none item h = items-fail (λ env i f j. Listed V env i j) d item (unless_comma none) h (λ env i f j q. by env i j q (sees m.Comma j) refl)
    where
      by : (env : Env) (i j : Input) → Listed V env i j → (b : Bool) → sees m.Comma j ≡ b → AfterEnd env i (if b then None else Some none) (if b then step j else j)
      by env i j q true e =
          let comma = sign j q.inner m.Comma e q.names in
          record { inner = q.inner; names = comma.names; shorter = omega (arith, counted comma, q.no_longer); rest = q.more (step j) comma }
      by env i j q false e = tt
