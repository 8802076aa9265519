use Rattle.std.proofs.Common.{◌≡◌, ◌+◌, true, false, nat_lt, map, drop, sym, ◌∙◌, arith}
use Rattle.std.proofs.lemmas.Bool.Decides.{nat_tests}
use Rattle.pw_token.proofs.NestLaws.{found-here, go-on, stepped}
use Rattle.pw_token.proofs.TokenBounds.{tokens_within}
use Rattle.pw_token.specs.Levels.{levels_of}
use Rattle.pw_token.specs.Limits.{nest_limit}
use Rattle.pw_token.specs.Nesting.{State}
use Rattle.pw_token.specs.Roles.{role_in}
use Rattle.pw_token.proofs.nesting.nest_fault.Goals as goal

pub role_at-role-requires : goal.role_at-role-requires
role_at-role-requires c = tokens_within c.args.text.now c.args.tokens.now c.requires

pub role_at-next-requires : goal.role_at-next-requires
role_at-next-requires c = tokens_within c.args.text.now c.args.tokens.now c.requires

pub returns-then-nest-gt-NEST_LIMIT : goal.returns-then-nest-gt-NEST_LIMIT
returns-then-nest-gt-NEST_LIMIT c =
    let deep : nat_lt nest_limit c.step-nest.result ≡ true = grind (arith, nat_tests) in
    sym (sym c.loop-index.invariant.0
    ∙ found-here c.args.text.now c.args.tokens.now c.loop-index.index (record { before = c.loop-index.before; operand = c.loop-index.operand; levels = levels_of c.loop-index.levels })
    c.loop-index.role c.role_at-next.result c.step-nest.result c.loop-index-test.true c.loop-index.invariant.3 c.role_at-next.ensures c.step-nest.ensures.nest deep)

pub loop-index-preserved : goal.loop-index-preserved
loop-index-preserved c =
    let shallow : nat_lt nest_limit c.step-nest.result ≡ false = grind (arith, nat_tests) in
    let text = c.args.text.now in
    let tokens = c.args.tokens.now in
    let s : State = record { before = c.loop-index.before; operand = c.loop-index.operand; levels = levels_of c.loop-index.levels } in
    let step = go-on text tokens c.loop-index.index s c.loop-index.role c.role_at-next.result c.step-nest.result c.loop-index-test.true
    c.loop-index.invariant.3 c.role_at-next.ensures c.step-nest.ensures.nest shallow in (
      stepped (c.loop-index.index + 1 + 1) c.loop-index.role c.role_at-next.result s c.operand_after-operand.result (levels_of c.step-nest.new.levels)
          (map (role_in text) (drop (c.loop-index.index + 1) tokens)) _ c.operand_after-operand.ensures c.step-nest.ensures.levels (sym c.loop-index.invariant.0 ∙ step),
      c.step-nest.ensures.sound,
      c.step-nest.ensures.low (omega arith),
      c.role_at-next.ensures,
    )
