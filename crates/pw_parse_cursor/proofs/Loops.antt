-- A loop that reads a list beside `repeat`, which reads it from the beginning: what was read so far stands before what `repeat` reads.
use Rattle.std.proofs.Common.{◌≡◌, ℕ, suc, ◌+◌, ◌-◌, ◌<◌, ◌≤◌, List, [], ◌∷◌, ◌++◌, Option, Some, None, Ok, Err, refl, sym, ap, ◌∙◌, arith}
use Rattle.pw_parse_grammar.specs.Input.{Input, Outcome, Parser, and_then, ◌>>=◌, ◌<$>◌, pure, Turn, More, Last, go_on, repeat, turn_with}

-- the items of a list before the rest of it
abbrev pub prepend : {T L : Type 0} → (T → L → L) → List T → L → L
prepend cons [] more = more
prepend cons (x ∷ xs) more = cons x (prepend cons xs more)

pub prepend-snoc : {T L : Type 0} (cons : T → L → L) (xs : List T) (x : T) (more : L) → prepend cons xs (cons x more) ≡ prepend cons (xs ++ x ∷ []) more
prepend-snoc cons [] x more = refl
prepend-snoc cons (y ∷ xs) x more = ap (cons y) (prepend-snoc cons xs x more)

pub later : {X : Type 0} (f : ℕ → X) (end at : ℕ) → at < end → f (end - at) ≡ f (suc (end - (at + 1)))
later f end at h = let e : end - at ≡ suc (end - (at + 1)) = omega arith in ap f e

abbrev pub behind : {L : Type 0} → (L → L) → Outcome L → Outcome L
behind before o = and_then o (λ more. pure (before more))

pub behind_same : {L : Type 0} {f g : L → L} → ((more : L) → f more ≡ g more) → (o : Outcome L) → behind f o ≡ behind g o
behind_same e (Ok p) = ap (λ l. Ok (l, p.1)) (e p.0)
behind_same e (Err i) = refl

pub behind_behind : {L : Type 0} (f g : L → L) (o : Outcome L) → behind f (behind g o) ≡ behind (λ more. f (g more)) o
behind_behind f g (Ok p) = refl
behind_behind f g (Err i) = refl

pub behind_none : {L : Type 0} (o : Outcome L) → o ≡ behind (λ more. more) o
behind_none (Ok p) = refl
behind_none (Err i) = refl

-- The whole outcome is what was read so far before the outcome of that many turns from here.
pub record Reading {L : Type 0} (turn : Parser (Turn L)) (whole : Outcome L) (before : L → L) (left : ℕ) (i : Input) : Type 0 where
  pub is : whole ≡ behind before (repeat turn left i)

pub starts : {L : Type 0} (turn : Parser (Turn L)) (n : ℕ) (i : Input) → Reading turn (repeat turn n i) (λ more. more) n i
starts turn n i = record { is = behind_none (repeat turn n i) }

module _ {L : Type 0} {turn : Parser (Turn L)} {whole : Outcome L} {before : L → L} {i : Input} (end at : ℕ) (below : at < end) (so_far : Reading turn whole before (end - at) i) where
  pub unrolled : whole ≡ behind before (and_then (turn i) (go_on (repeat turn (end - (at + 1)))))
  unfolding repeat
  unrolled = so_far.is ∙ later (λ n. behind before (repeat turn n i)) end at below

  -- a turn with an item
  pub goes : {item : L → L} {j : Input} (after : L → L) → turn i ≡ Ok (More item, j) → ((more : L) → before (item more) ≡ after more)
      → Reading turn whole after (end - (at + 1)) j
  goes {item = item} {j = j} after read same =
      let m = end - (at + 1) in
      record {
        is = unrolled
            ∙ ap (λ o. behind before (and_then o (go_on (repeat turn m)))) read
            ∙ behind_behind before item (repeat turn m j)
            ∙ behind_same same (repeat turn m j);
      }

  -- the last turn
  pub ends : {last : L} {j : Input} → turn i ≡ Ok (Last last, j) → whole ≡ Ok (before last, j)
  ends read = unrolled ∙ ap (λ o. behind before (and_then o (go_on (repeat turn (end - (at + 1)))))) read

  -- a turn with a fault
  pub fails : {j : Input} → turn i ≡ Err j → whole ≡ Err j
  fails read = unrolled ∙ ap (λ o. behind before (and_then o (go_on (repeat turn (end - (at + 1)))))) read

-- no turn is left
pub runs_out : {L : Type 0} {turn : Parser (Turn L)} {whole : Outcome L} {before : L → L} {i : Input} (end at : ℕ)
    → end ≤ at → Reading turn whole before (end - at) i → whole ≡ Err i
unfolding repeat
runs_out {turn = turn} {before = before} {i = i} end at above so_far =
    let none : end - at ≡ 0 = omega arith in so_far.is ∙ ap (λ n. behind before (repeat turn n i)) none

pub begins : {T L : Type 0} (cons : T → L → L) (turn : Parser (Turn L)) (found : List T) (n m : ℕ) (i : Input) → found ≡ [] → m ≡ n
    → Reading turn (repeat turn n i) (prepend cons found) m i
begins cons turn found n m i none same =
    record { is = ap (λ k. repeat turn k i) (sym same) ∙ behind_none (repeat turn m i) ∙ ap (λ xs. behind (prepend cons xs) (repeat turn m i)) (sym none) }

-- a turn with an item that is kept behind those so far
pub keeps : {T L : Type 0} {turn : Parser (Turn L)} {whole : Outcome L} {i : Input} (cons : T → L → L) (found : List T) (end at : ℕ)
    → at < end → Reading turn whole (prepend cons found) (end - at) i
    → (x : T) (j : Input) (after : List T) → turn i ≡ Ok (More (cons x), j) → after ≡ found ++ x ∷ []
    → Reading turn whole (prepend cons after) (end - (at + 1)) j
keeps cons found end at below so_far x j after read kept =
    goes end at below so_far (prepend cons after) read (λ more. prepend-snoc cons found x more ∙ ap (λ xs. prepend cons xs more) (sym kept))

-- the last turn, with an item that is kept behind those so far
pub keeps_last : {T L : Type 0} {turn : Parser (Turn L)} {whole : Outcome L} {i : Input} (cons : T → L → L) (found : List T) (end at : ℕ)
    → at < end → Reading turn whole (prepend cons found) (end - at) i
    → (x : T) (j : Input) (none : L) (after : List T) → turn i ≡ Ok (Last (cons x none), j) → after ≡ found ++ x ∷ []
    → whole ≡ Ok (prepend cons after none, j)
keeps_last cons found end at below so_far x j none after read kept =
    ends end at below so_far read ∙ ap (λ l. Ok (l, j)) (prepend-snoc cons found x none ∙ ap (λ xs. prepend cons xs none) (sym kept))

-- an item with what stands behind it, where another one follows
pub then_more : {L : Type 0} (item : Parser (L → L)) (end : Parser (Option L)) (i j k : Input) (f : L → L) → item i ≡ Ok (f, j) → end j ≡ Ok (None, k)
    → (item >>= λ first. turn_with first <$> end) i ≡ Ok (More f, k)
then_more item end i j k f read more = ap (λ o. and_then o (λ first. turn_with first <$> end)) read ∙ ap (λ o. and_then o (λ x. pure (turn_with f x))) more

-- the same where the list ends
pub then_last : {L : Type 0} (item : Parser (L → L)) (end : Parser (Option L)) (i j k : Input) (f : L → L) (none : L) → item i ≡ Ok (f, j) → end j ≡ Ok (Some none, k)
    → (item >>= λ first. turn_with first <$> end) i ≡ Ok (Last (f none), k)
then_last item end i j k f none read last = ap (λ o. and_then o (λ first. turn_with first <$> end)) read ∙ ap (λ o. and_then o (λ x. pure (turn_with f x))) last

-- the start where one item was read before
pub begins_with : {T L : Type 0} (cons : T → L → L) (turn : Parser (Turn L)) (x : T) (found : List T) (n m : ℕ) (i : Input) → found ≡ x ∷ [] → m ≡ n
    → Reading turn (behind (cons x) (repeat turn n i)) (prepend cons found) m i
begins_with cons turn x found n m i one same =
    record { is = ap (λ k. behind (cons x) (repeat turn k i)) (sym same) ∙ ap (λ xs. behind (prepend cons xs) (repeat turn m i)) (sym one) }
