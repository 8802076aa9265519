-- Lists: a member behind another, met at the front of the list or at a label.
use Rattle.std.proofs.Common.{◌≡◌, ℕ, ◌<◌, Bool, false, List, [], ◌++◌, Contains, inl, inr, length, sym, subst, arith}
use Rattle.std.proofs.lemmas.List.Elements.{Contains-append_left, Contains-append_right, Contains-append_cases}
use Rattle.pw_types.specs.Labels.{labels_in, labels_among, cases_in, cases_among}
use Rattle.pw_types.specs.TypedTrees.{Statement, Statements, NoStatement, OneStatement}
use Rattle.pw_lower.specs.declared.code.Code.{Code}
use Rattle.pw_lower.specs.declared.place.Ways.{Ways}
use Rattle.pw_lower.specs.Codes.{block_of_label}
use Rattle.pw_lower.specs.Statements.{lower_statement, lower_statements}
use Rattle.pw_cmean.specs.Acts.{State, give, branch, ◌>>=◌}
use Rattle.pw_cmean.specs.Execution.{Entry, Front, At_label, Normal, holds, go_forward, meaning, items}
use Rattle.pw_cmean.specs.SourceRun.{calls}
use Rattle.pw_run_languages.specs.FlowRun.{Machine}
use Rattle.pw_law_refine.specs.Standing.{Spot}
use Rattle.pw_law_refine.specs.Activations.{Activation, IsActivation, Numbers, graph_of, env_of, lowering_of}
use Rattle.pw_law_refine.specs.Matching.{Related}
use Rattle.pw_law_refine.specs.Containing.{IsAt}
use Rattle.pw_law_refine.specs.Meeting.{Meets}
use Rattle.pw_law_refine.specs.Statements.{IsOpen, IsSet, IsMet, GoesOut, HasLeft, StatementKeeps, code_behind}
use Rattle.pw_law_refine.specs.StatementParts.{GoesOn, AreSet, ListKeeps}
use Rattle.pw_law_refine_code.specs.Behind.{named_blocks}
use Rattle.pw_law_refine_code.specs.Ending.{KeepLabels}
use Rattle.pw_law_refine_stmts.proofs.Laws.{Laws}
use Rattle.pw_law_refine_stmts.proofs.Simulation.{meets-then, meets-less, meets-here}
use Rattle.pw_law_refine_stmts.proofs.Jumps.{later-same}
use Rattle.pw_law_refine_stmts.proofs.Leaving.{left-less}
use Rattle.pw_law_refine_stmts.proofs.CodeBefore.{before-list}
use Rattle.pw_law_refine_stmts.proofs.Names.{contained-held, not-contained, named-free, fits-in, room-for, goes-on-behind}
use Rattle.pw_law_refine_stmts.proofs.Simple.{met-front}
use Rattle.pw_law_refine_stmts.proofs.Taking.{by-bool, goes-forward}

pub no-statement-keeps : (bound : ℕ) → ListKeeps bound NoStatement
unfolding meaning lower_statement give later-same
no-statement-keeps bound = λ x numbers breaks continues from back ways c active set spots entry s m related met.
    meets-here x.world bound m Normal s (HasLeft x numbers spots back ways (GoesOn x back [] c) c s m)
    (record { later = later-same x numbers spots s m related; exit = met-front (graph_of x) [] c entry m met })

module _
    (laws : Laws) (bound : ℕ) (a : Statement) (rest : Statements) (first : StatementKeeps bound a) (others : ListKeeps bound rest)
    (x : Activation) (numbers : Numbers) (breaks continues : Bool) (from : ℕ) (back : List ℕ) (ways : Ways) (c : Code)
    (active : IsActivation x) (set : AreSet x numbers breaks continues from back ways (OneStatement a rest) c) where
  first-set : IsSet x numbers breaks continues from back ways a c
  first-set = (laws.lists x numbers breaks continues from back ways a rest c active set).0

  rest-set : AreSet x numbers breaks continues from (back ++ named_blocks x (labels_in a) c) ways rest (code_behind x ways a c)
  rest-set = (laws.lists x numbers breaks continues from back ways a rest c active set).1

  kept : KeepLabels c (code_behind x ways a c) (cases_in a)
  kept = laws.labels x.home.tree x.function breaks continues from (lowering_of x) ways a c first-set.typed (fits-in x (labels_in a) (cases_in a) c first-set.placed.labels)

  same : (l : ℕ) → Contains x.function.named l → block_of_label (code_behind x ways a c) l ≡ block_of_label c l
  same l w = kept.others l (named-free x (labels_in a) (cases_in a) c l first-set.placed.labels w)

  -- what is met by the others
  rest-meets :
      (spots : List Spot) (entry : Entry) (s : State) (m : Machine) → Related x numbers spots s m
      → IsMet (graph_of x) (labels_among rest) (cases_among rest) (code_behind x ways a c) entry m
      → Meets x.world bound m (items rest entry (calls x.world bound) (env_of x numbers) s)
      (HasLeft x numbers spots back ways (GoesOn x back (labels_in a ++ labels_among rest) c) (lower_statements (lowering_of x) ways rest (code_behind x ways a c)) s m)
  rest-meets spots entry s m related met =
      let more = back ++ named_blocks x (labels_in a) c in
      let d = code_behind x ways a c in
      let e = lower_statements (lowering_of x) ways rest d in
      meets-less x.world bound m (items rest entry (calls x.world bound) (env_of x numbers) s)
      (HasLeft x numbers spots more ways (GoesOn x more (labels_among rest) d) e s m) (HasLeft x numbers spots back ways (GoesOn x back (labels_in a ++ labels_among rest) c) e s m)
      (others x numbers breaks continues from more ways d active rest-set spots entry s m related met)
      (λ flow t n h. left-less x numbers spots back more ways (GoesOn x more (labels_among rest) d) (GoesOn x back (labels_in a ++ labels_among rest) c) e s m flow t n
      (λ k w. Contains-append_left back (named_blocks x (labels_in a) c) k w) (goes-on-behind x back (labels_in a) (labels_among rest) c d same) h)

  -- what is met by the first, and what comes behind it
  first-meets :
      (spots : List Spot) (entry : Entry) (s : State) (m : Machine) → Related x numbers spots s m → IsMet (graph_of x) (labels_in a) (cases_in a) c entry m
      → Meets x.world bound m ((meaning a entry (calls x.world bound) (env_of x numbers)
      >>= go_forward (labels_among rest) (λ at'. items rest at' (calls x.world bound) (env_of x numbers)) (items rest Front (calls x.world bound) (env_of x numbers))) s)
      (HasLeft x numbers spots back ways (GoesOn x back (labels_in a ++ labels_among rest) c) (lower_statements (lowering_of x) ways rest (code_behind x ways a c)) s m)
  unfolding ◌>>=◌
  first-meets spots entry s m related met =
      let cs = calls x.world bound in
      let env = env_of x numbers in
      let d = code_behind x ways a c in
      let e = lower_statements (lowering_of x) ways rest d in
      meets-then laws x.world bound m (meaning a entry cs env s) (go_forward (labels_among rest) (λ at'. items rest at' cs env) (items rest Front cs env))
      (HasLeft x numbers spots back ways (GoesOut x back (labels_in a) c) d s m) (HasLeft x numbers spots back ways (GoesOn x back (labels_in a ++ labels_among rest) c) e s m)
      (first x numbers breaks continues from back ways c active first-set spots entry s m related met)
      (λ flow u n h.
      goes-forward laws bound x numbers spots back (labels_in a) (labels_among rest) ways c d e (λ at'. items rest at' cs env) (items rest Front cs env) s u m n flow related h
      (λ l named own. room l named own)
      (λ again behind. rest-meets h.later.spots Front u n again behind)
      (λ l r named own again front. rest-meets h.later.spots (At_label l) u r again (later-open l named own, subst (λ (b : ℕ). IsAt (graph_of x) b [] r) (sym (same l named)) front)))
    where
      later-open : (l : ℕ) → Contains x.function.named l → Contains (labels_among rest) l → IsOpen (labels_among rest) (cases_among rest) l
      later-open l named own = (own, named-free x (labels_among rest) (cases_among rest) (code_behind x ways a c) l rest-set.placed.labels named)

      room : (l : ℕ) → Contains x.function.named l → Contains (labels_among rest) l → block_of_label c l < length (graph_of x).blocks
      room l named own =
          room-for x (labels_in a ++ labels_among rest) (cases_in a ++ cases_among rest) c c (graph_of x) l set.placed.labels (omega arith) (before-list laws x ways (OneStatement a rest) c set.placed.code)
          (Contains-append_right (labels_in a) (labels_among rest) l own, named-free x (labels_in a ++ labels_among rest) (cases_in a ++ cases_among rest) c l set.placed.labels named)

  list-meets :
      (spots : List Spot) (entry : Entry) (s : State) (m : Machine) → Related x numbers spots s m
      → IsMet (graph_of x) (labels_in a ++ labels_among rest) (cases_in a ++ cases_among rest) c entry m
      → Meets x.world bound m (items (OneStatement a rest) entry (calls x.world bound) (env_of x numbers) s)
      (HasLeft x numbers spots back ways (GoesOn x back (labels_in a ++ labels_among rest) c) (lower_statements (lowering_of x) ways rest (code_behind x ways a c)) s m)
  unfolding meaning branch
  list-meets spots Front s m related met = first-meets spots Front s m related met
  list-meets spots (At_label l) s m related met =
      let cs = calls x.world bound in
      let env = env_of x numbers in
      by-bool (λ v. Meets x.world bound m
      (branch v (meaning a (At_label l) cs env >>= go_forward (labels_among rest) (λ at'. items rest at' cs env) (items rest Front cs env)) (items rest (At_label l) cs env) s)
      (HasLeft x numbers spots back ways (GoesOn x back (labels_in a ++ labels_among rest) c) (lower_statements (lowering_of x) ways rest (code_behind x ways a c)) s m)) (holds (labels_in a) l)
      (λ held. first-meets spots (At_label l) s m related ((contained-held (labels_in a) l held, λ w. met.0.1 (Contains-append_left (cases_in a) (cases_among rest) l w)), met.1))
      (λ not.
      rest-meets spots (At_label l) s m related (
        (behind l not met.0.0, λ w. met.0.1 (Contains-append_right (cases_in a) (cases_among rest) l w)),
        subst (λ (b : ℕ). IsAt (graph_of x) b [] m) (sym (kept.others l (λ w. met.0.1 (Contains-append_left (cases_in a) (cases_among rest) l w)))) met.1,
      ))
    where
      behind : (l : ℕ) → holds (labels_in a) l ≡ false → Contains (labels_in a ++ labels_among rest) l → Contains (labels_among rest) l
      behind l not w = elim (Contains-append_cases (labels_in a) (labels_among rest) l w) [
        | inl v ↦ absurd (not-contained (labels_in a) l not v)
        | inr v ↦ v
      ]

pub list-keeps : Laws → (bound : ℕ) (a : Statement) (rest : Statements) → StatementKeeps bound a → ListKeeps bound rest → ListKeeps bound (OneStatement a rest)
unfolding lower_statement
list-keeps laws bound a rest first others = λ x numbers breaks continues from back ways c active set spots entry s m related met.
    list-meets laws bound a rest first others x numbers breaks continues from back ways c active set spots entry s m related met
