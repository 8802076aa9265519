-- The tokens before a fault in a statement or a block begin one (6.6).
use Rattle.std.proofs.Common.{◌≡◌, ℕ, zero, suc, ◌<◌, ◌≤◌, true, List, [], ◌∷◌, length, Option, Some, None, arith, refl}
use Rattle.pw_tree.specs.Scopes.{after_decls, after_labels, after_stmt, Env}
use Rattle.pw_tree.specs.Spelling.{spell_labels, spell_stmt, spell_block, spell_stmts}
use Rattle.pw_tree.specs.Symbols.{Symbol, Reserved, Sign}
use Rattle.pw_tree.specs.Trees.{Label, Stmt, Compound, Empty, Labeled, Block, Braced, Stmts, NoStmt, Next}
use Rattle.pw_tree.specs.WellFormed.{WellFormedLabels, WellFormedStmt, WellFormedBlock, WellFormedStmts}
use Rattle.pw_token.specs.declared.symbol.Keyword.TheVariants as k
use Rattle.pw_token.specs.declared.symbol.Mark.TheVariants as m
use Rattle.pw_parse_grammar.specs.Input.{Input, ahead, sees, Parser, and_then, ◌>>=◌, ◌>>◌, pure, ◌<$>◌, expect}
use Rattle.pw_parse_grammar.specs.Input as input
use Rattle.pw_parse_grammar.specs.Declarations.{declarations}
use Rattle.pw_parse_grammar.specs.Statements.{with_labels, labels, stmt_next, stmts, block, compound_by, compound, unlabeled_by, unlabeled, stmt_of, stmt}
use Rattle.pw_parse_grammar.proofs.Trees.Base.{names_of, no_turns}
use Rattle.pw_parse_grammar.proofs.Trees.StatementHeads.{stmt-begins}
use Rattle.pw_parse_grammar.proofs.Written.Statements.{after_stmts, begins-long}
use Rattle.pw_parse_grammar.proofs.Sound.Base.{nothing, both}
use Rattle.pw_parse_grammar.proofs.Sound.Statements.{SoundStmt, stmt-sound}
use Rattle.pw_parse_grammar.proofs.Viable.Base.{Does, Fails, bind-fails, bind-does, choose-fails, Form, Begins, Viable, missing, embed, as_part, absent, counted, no_longer, expected-fails}
use Rattle.pw_parse_grammar.proofs.Viable.Lists.{DoneItem, while-does}
use Rattle.pw_parse_grammar.proofs.Viable.Things.{Stands, Handles, below}
use Rattle.pw_parse_grammar.proofs.Viable.Declarations.{declarations-does}
use Rattle.pw_parse_grammar.proofs.Viable.Labels.{unlabeled_stmts, FailsUnlabeled, labels-does, expression-fails, return-fails, empty-fails, goto-fails, continue-fails, break-fails}
use Rattle.pw_parse_grammar.proofs.Viable.Compounds.{stmt_trees, ViableStmt, if-fails, switch-fails, while-fails, do-fails, for-fails}

abbrev pub stmt_lists : Form Stmts
stmt_lists = record { holds = WellFormedStmts; put = spell_stmts }

abbrev pub block_trees : Form Block
block_trees = record { holds = WellFormedBlock; put = spell_block }

stmt_counts : (env : Env) (s : Stmt) → WellFormedStmt env s → 0 < length (spell_stmt s [])
stmt_counts env s h = begins-long env (spell_stmt s []) (stmt-begins env s [] h)

-- ---- 6.6.2

module _ (limit : ℕ) (d : ℕ) (p : Parser Stmt) (sound : SoundStmt p) (fails : ViableStmt d p) where
  stmt_next-does : (env : Env) (i : Input) → i.names ≡ names_of env → length i.rest < d → Does (DoneItem (Stands stmt_lists after_stmts) (Viable stmt_lists) NoStmt env i) (Viable stmt_lists env i) (stmt_next limit p i)
  unfolding stmt_next spell_stmt WellFormedStmt
  stmt_next-does env i names less = choose-fails _ _ (sees m.CloseBrace i) (pure None) ((λ s. Some (Next s)) <$> p) i
      (λ _. record { reads = nothing i env names; holds = tt })
      (λ _. bind-fails _ _ (p i) (λ s. pure (Some (Next s))) (sound env i names) (fails env i names less)
      (λ e v. as_part v (λ s w. record { thing = Next s NoStmt; holds = (w, tt); spells = λ z. (z, refl) }))
      (λ s j q. record {
        on = record {
          inner = after_stmt env s;
          names = q.reads.names;
          shorter = omega (arith, counted q.reads, stmt_counts env s q.holds);
          rest = λ e v. embed q.reads v (λ ss w. record { thing = Next s ss; holds = (q.holds, w); spells = λ z. (z, refl) });
        };
        whole = λ ss k r. record { reads = both q.reads r.reads; holds = (q.holds, r.holds) };
      }))

  stmts-does : Handles stmt_lists after_stmts d (stmts limit p)
  unfolding stmts
  stmts-does = while-does (Stands stmt_lists after_stmts) (Viable stmt_lists) d NoStmt (stmt_next limit p) stmt_next-does

  pub block-fails : (env : Env) (i : Input) → i.names ≡ names_of env → length i.rest < suc d → length i.rest < limit → Fails (Viable block_trees env i) (block limit p i)
  unfolding block spell_stmt WellFormedStmt
  block-fails env i names less within =
      expected-fails _ _ i env m.OpenBrace (input.mark >>= λ outer. declarations limit true >>= λ ds. stmts limit p >>= λ ss. expect m.CloseBrace >> (input.leave outer >> pure (Braced i.next ds ss))) names
      (absent block_trees i (Braced i.next [] NoStmt) (tt, tt)) (λ x t.
      let outer = length x.names in
      bind-does _ _ (declarations limit true x) (λ ds. stmts limit p >>= λ ss. expect m.CloseBrace >> (input.leave outer >> pure (Braced i.next ds ss))) (declarations-does limit true env x t.names (below t within))
      (λ e v. embed t v (λ ds w. record { thing = Braced i.next ds NoStmt; holds = (w, tt); spells = λ z. (Sign m.CloseBrace ∷ z, refl) })) (λ ds y q.
      bind-does _ _ (stmts limit p y) (λ ss. expect m.CloseBrace >> (input.leave outer >> pure (Braced i.next ds ss))) (stmts-does (after_decls env ds) y q.reads.names (omega (arith, counted t, no_longer q.reads, less)))
      (λ e v. embed (both t q.reads) v (λ ss w. record { thing = Braced i.next ds ss; holds = (q.holds, w); spells = λ z. (Sign m.CloseBrace ∷ z, refl) })) (λ ss u r.
      expected-fails _ _ u (after_stmts (after_decls env ds) ss) m.CloseBrace (input.leave outer >> pure (Braced i.next ds ss)) r.reads.names
      (missing (both t (both q.reads r.reads)) (record { thing = Braced i.next ds ss; holds = (q.holds, r.holds); spells = λ z. (Sign m.CloseBrace ∷ z, refl) }))
      (λ j c. tt))))

-- ---- 6.6

-- labels, and a statement behind them
labeled : {env : Env} (ls : List Label) → WellFormedLabels env ls → (s : Stmt) → unlabeled_stmts.holds (after_labels env ls) s → Begins stmt_trees env (λ z. spell_labels ls (spell_stmt s z))
unfolding spell_stmt WellFormedStmt
labeled [] h s w = record { thing = s; holds = w.0; spells = λ z. (z, refl) }
labeled (l ∷ ls) h s w = record { thing = Labeled (l ∷ ls) s; holds = (tt, h, w.1, w.0); spells = λ z. (z, refl) }

-- labels, and a statement behind them that is still to come
only_labels : {env : Env} (ls : List Label) → WellFormedLabels env ls → Begins stmt_trees env (spell_labels ls)
unfolding spell_stmt WellFormedStmt
only_labels [] h = record { thing = Empty 0; holds = tt; spells = λ z. (Sign m.Semicolon ∷ z, refl) }
only_labels (l ∷ ls) h = record { thing = Labeled (l ∷ ls) (Empty 0); holds = (tt, h, tt, tt); spells = λ z. (Sign m.Semicolon ∷ z, refl) }

module _ (limit : ℕ) (d : ℕ) (le : suc d ≤ limit) (p : Parser Stmt) (sound : SoundStmt p) (fails : ViableStmt d p) where
  compound-by : (env : Env) (i : Input) → i.names ≡ names_of env → length i.rest < suc d → (s : Option Symbol) → ahead i ≡ s → FailsUnlabeled env i (compound_by limit p s i)
  compound-by env i names less (Some (Reserved k.If)) h = if-fails limit d le p sound fails env i h names less
  compound-by env i names less (Some (Reserved k.Switch)) h = switch-fails limit d le p sound fails env i h names less
  compound-by env i names less (Some (Reserved k.While)) h = while-fails limit d le p sound fails env i h names less
  compound-by env i names less (Some (Reserved k.Do)) h = do-fails limit d le p sound fails env i h names less
  compound-by env i names less (Some (Reserved k.For)) h = for-fails limit d le p sound fails env i h names less
  compound-by env i names less None h = expression-fails limit env i names (omega (arith, le, less))
  compound-by env i names less (Some _) h = expression-fails limit env i names (omega (arith, le, less))

  compound-fails : (env : Env) (i : Input) → i.names ≡ names_of env → length i.rest < suc d → FailsUnlabeled env i (compound limit p i)
  unfolding compound
  compound-fails env i names less = compound-by env i names less (ahead i) refl

  block_stmt-fails : (env : Env) (i : Input) → i.names ≡ names_of env → length i.rest < suc d → FailsUnlabeled env i ((Compound <$> block limit p) i)
  unfolding spell_stmt WellFormedStmt
  block_stmt-fails env i names less =
      bind-does _ _ (block limit p i) (λ b. pure (Compound b)) (block-fails limit d p sound fails env i names less (omega (arith, le, less)))
      (λ e v. as_part v (λ b w. record { thing = Compound b; holds = (w, tt); spells = λ z. (z, refl) }))
      (λ b j q. tt)

  unlabeled-by : (env : Env) (i : Input) → i.names ≡ names_of env → length i.rest < suc d → (s : Option Symbol) → ahead i ≡ s → FailsUnlabeled env i (unlabeled_by limit p s i)
  unlabeled-by env i names less (Some (Sign m.OpenBrace)) h = block_stmt-fails env i names less
  unlabeled-by env i names less (Some (Sign m.Semicolon)) h = empty-fails env i
  unlabeled-by env i names less (Some (Reserved k.Goto)) h = goto-fails env i h names
  unlabeled-by env i names less (Some (Reserved k.Continue)) h = continue-fails env i h names
  unlabeled-by env i names less (Some (Reserved k.Break)) h = break-fails env i h names
  unlabeled-by env i names less (Some (Reserved k.Return)) h = return-fails limit env i h names (omega (arith, le, less))
  unlabeled-by env i names less None h = compound-fails env i names less
  unlabeled-by env i names less (Some _) h = compound-fails env i names less

  unlabeled-fails : (env : Env) (i : Input) → i.names ≡ names_of env → length i.rest < suc d → FailsUnlabeled env i (unlabeled limit p i)
  unfolding unlabeled
  unlabeled-fails env i names less = unlabeled-by env i names less (ahead i) refl

  stmt_of-fails : ViableStmt (suc d) (stmt_of limit p)
  unfolding stmt_of
  stmt_of-fails env i names less =
      bind-does _ _ (labels limit i) (λ ls. unlabeled limit p >>= λ s. pure (with_labels ls s)) (labels-does limit env i names (omega (arith, le, less)))
      (λ e v. as_part v only_labels) (λ ls x q.
      bind-does _ _ (unlabeled limit p x) (λ s. pure (with_labels ls s)) (unlabeled-fails (after_labels env ls) x q.reads.names (below q.reads less))
      (λ e v. embed q.reads v (labeled ls q.holds))
      (λ s j r. tt))

pub stmt-fails : (limit depth : ℕ) → depth ≤ limit → ViableStmt depth (stmt limit depth)
unfolding stmt
stmt-fails limit zero le env i names less = no_turns less
stmt-fails limit (suc depth) le env i names less = stmt_of-fails limit depth le (stmt limit depth) (stmt-sound limit depth) (stmt-fails limit depth (omega (arith, le))) env i names less
